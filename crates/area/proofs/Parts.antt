-- Lists that agree before or after a point; parts of lists, and what a store, or a part that has come back, does to a part.
-- Assumes nothing.
use mathlib.Core.Path.{◌≡◌, sym, ap, ◌∙◌}
use mathlib.Core.List.{List, ◌++◌}
use Prim.Native.Nat.{ℕ, ◌+◌, ◌-◌, ◌<◌, ◌≤◌}
use native.Mathlib.Omega.{arith}
use lib.ListN.{length, get_or, take, drop, set, length-take, length-drop, take-append-drop}
use lib.Seq.{drop-set-lt, length-take-le, take_at, drop_at, take-take, drop-drop, drop-append-le, take-append-le, get_or-take, get_or-drop}
use borrow.Rule.Slice.PartMut.{put_mid, drop_put, same_len_mid}
use Rattle.area.specs.Part.{part}

-- words before a point that is the same, and after it
pub same_before : (k : ℕ) (w₀ w : List ℕ) (i : ℕ) → take k w ≡ take k w₀ → i < k → get_or w i 0 ≡ get_or w₀ i 0
same_before k w₀ w i same l = sym (get_or-take k w i 0 l) ∙ ap (λ (xs : List ℕ). get_or xs i 0) same ∙ get_or-take k w₀ i 0 l

pub same_after : (k : ℕ) (w₀ w : List ℕ) (i : ℕ) → drop k w ≡ drop k w₀ → k ≤ i → get_or w i 0 ≡ get_or w₀ i 0
same_after k w₀ w i same l =
    let at : i ≡ k + (i - k) = omega arith in
    rw at (sym (get_or-drop k w (i - k) 0) ∙ ap (λ (xs : List ℕ). get_or xs (i - k) 0) same ∙ get_or-drop k w₀ (i - k) 0)

-- what stands before a point, or after one, stands before an earlier one, or after a later one
pub less_before : (j k : ℕ) (w₀ w : List ℕ) → j ≤ k → take k w ≡ take k w₀ → take j w ≡ take j w₀
less_before j k w₀ w l same = sym (take-take j k w l) ∙ ap (take j) same ∙ take-take j k w₀ l

pub less_after : (j k : ℕ) (w₀ w : List ℕ) → k ≤ j → drop k w ≡ drop k w₀ → drop j w ≡ drop j w₀
less_after j k w₀ w l same =
    let at : j ≡ k + (j - k) = omega arith in
    rw at (sym (drop-drop (j - k) k w) ∙ ap (drop (j - k)) same ∙ drop-drop (j - k) k w₀)

pub part_length : (a e : ℕ) (xs : List ℕ) → e ≤ length xs → length (part a e xs) ≡ e - a
unfolding part
part_length a e xs h = simp (length-take, length-drop) (omega arith)

pub part_at : (a e : ℕ) (xs : List ℕ) (i : ℕ) → a + i < e → get_or (part a e xs) i 0 ≡ get_or xs (a + i) 0
unfolding part
part_at a e xs i h = rw (get_or-take (e - a) (drop a xs) i 0 (omega arith), get_or-drop)

-- a store before the part, or after it
pub part_set_low : (a e : ℕ) (xs : List ℕ) (i v : ℕ) → i < a → part a e (set xs i v) ≡ part a e xs
unfolding part
part_set_low a e xs i v h = rw (drop-set-lt a xs i v h)

part-append : (b f : ℕ) (xs ys : List ℕ) → b ≤ f → f ≤ length xs → part b f (xs ++ ys) ≡ part b f xs
unfolding part
part-append b f xs ys l h =
    rw (drop-append-le b xs ys (omega arith), take-append-le (f - b) (drop b xs) ys (simp length-drop (omega arith)))

-- the part itself has come back
pub part_back : (a e : ℕ) (xs ys : List ℕ) → a ≤ e → e ≤ length xs → length ys ≡ length (part a e xs) → part a e (put_mid a (e - a) xs ys) ≡ ys
unfolding part
part_back a e xs ys h l g =
    let before = drop_at (take a xs) (ys ++ drop (e - a) (drop a xs)) a (length-take-le a xs (omega arith)) in
    rw (before, take_at ys (drop (e - a) (drop a xs)) (e - a) (g ∙ part_length a e xs l))

-- a part before it
pub part_back_low : (a e : ℕ) (xs ys : List ℕ) (b f : ℕ) → a ≤ e → e ≤ length xs → b ≤ f → f ≤ a → part b f (put_mid a (e - a) xs ys) ≡ part b f xs
part_back_low a e xs ys b f h l g i =
    let m : f ≤ length (take a xs) = simp length-take (omega arith) in
    part-append b f (take a xs) (ys ++ drop (e - a) (drop a xs)) g m
    ∙ sym (part-append b f (take a xs) (drop a xs) g m)
    ∙ ap (λ (x : List ℕ). part b f x) (take-append-drop a xs)

-- a part after it
pub drop_back : (a e : ℕ) (xs ys : List ℕ) (b : ℕ) → a ≤ e → e ≤ length xs → length ys ≡ length (part a e xs) → e ≤ b
    → drop b (put_mid a (e - a) xs ys) ≡ drop b xs
drop_back a e xs ys b h l g i = less_after b e xs (put_mid a (e - a) xs ys) i (drop_put a e xs ys h l (g ∙ part_length a e xs l))

pub back_length : (a e : ℕ) (xs ys : List ℕ) → length ys ≡ length (part a e xs) → length (put_mid a (e - a) xs ys) ≡ length xs
unfolding part
back_length a e xs ys g = same_len_mid a (e - a) xs ys g

-- a word of the part that has come back
pub back_at : (a e : ℕ) (xs ys : List ℕ) (i : ℕ) → a ≤ e → e ≤ length xs → length ys ≡ length (part a e xs) → a + i < e
    → get_or (put_mid a (e - a) xs ys) (a + i) 0 ≡ get_or ys i 0
back_at a e xs ys i h l g m = sym (part_at a e (put_mid a (e - a) xs ys) i m) ∙ ap (λ (zs : List ℕ). get_or zs i 0) (part_back a e xs ys h l g)
