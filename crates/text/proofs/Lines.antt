-- Numbers parted by blanks: one more number, lines put number by number, and how long a line is at most. Assumes nothing.
use mathlib.Core.Path.{◌≡◌, refl, sym, ap, subst, ◌∙◌}
use mathlib.Core.List.{List, [], ◌∷◌, ◌++◌, append_assoc, map-id}
use Prim.Native.Nat.{ℕ, zero, suc, ◌+◌, ◌-◌, ◌*◌, ◌^◌, ◌≤◌, ◌<◌}
use native.Mathlib.Numerals.{add-one}
use native.Mathlib.Omega.{arith}
use lib.ListN.{length, get_or, take, length-append}
use lib.Seq.{take-suc, take_all}
use Rattle.std.specs.Prelude.{Option, Some, None}
use Rattle.std.specs.Fn.{Called}
use Rattle.std.specs.Array.Iter.{array_steps, array_into_iter_items}
use Rattle.std.specs.declared.array.IntoIter.{IntoIter}
use Rattle.std.specs.Iterator.Adapters.{map_source, map_callee}
use Rattle.std.specs.declared.iter.Map.{Map}
use denote.Param.Members.{Mut}
use Rattle.std.specs.Iterator.{Yields, DrainsIf}
use Rattle.std.specs.Iterator.Runs.{EachRunFrom, WholeRun}
use Rattle.std.proofs.iter.runs.Made.{run_of_turn, run_of_exit, runs_from_along, took}
use Rattle.std.proofs.lemmas.Iterator.{YieldsList, items_from_drains, maps, YieldsList-from_map}
use Rattle.std.proofs.lemmas.Iterator.Consumers.{YieldsList-so_far, YieldsList-from_shown}
use Rattle.text.specs.Text.{blank, line_feed, decimal, parted, in_line, line, Put}
use Rattle.text.proofs.Decimals.{Short, short_32, short_64, decimal_some}
use Rattle.text.proofs.Puts.{put_none, put_then}

-- a number after others has a blank before it
parted_after : (x : ℕ) (xs : List ℕ) (y : ℕ) → parted ((x ∷ xs) ++ (y ∷ [])) ≡ parted (x ∷ xs) ++ (blank ∷ decimal y)
unfolding parted
parted_after x [] y = refl
parted_after x (z ∷ zs) y = rw (parted_after z zs y, append_assoc)

pub first_in_line : (i x : ℕ) → i ≡ 0 → in_line i x ≡ decimal x
unfolding in_line
first_in_line zero x e = refl
first_in_line (suc i) x e = absurd (omega arith)

pub next_in_line : (i x : ℕ) → (i ≡ 0 → ⊥) → in_line i x ≡ blank ∷ decimal x
unfolding in_line
next_in_line zero x e = absurd (e refl)
next_in_line (suc i) x e = refl

-- a blank and then a number are put as one
pub blank_then : (x : ℕ) (old : List ℕ) {mid text : List ℕ} → mid ≡ old ++ (blank ∷ []) → text ≡ mid ++ decimal x → text ≡ old ++ (blank ∷ decimal x)
blank_then x old p q = q ∙ ap (λ (t : List ℕ). t ++ decimal x) p ∙ append_assoc old (blank ∷ []) (decimal x)

parted_some : (x : ℕ) (xs : List ℕ) → 0 < length (parted (x ∷ xs))
unfolding parted
parted_some x [] = decimal_some x
parted_some x (y ∷ ys) = rw length-append (omega (arith, decimal_some x))

-- one number more
pub parted_more : (xs : List ℕ) (i x : ℕ) → i ≡ length (parted xs) → parted (xs ++ (x ∷ [])) ≡ parted xs ++ in_line i x
unfolding parted
parted_more [] i x e = sym (first_in_line i x e)
parted_more (y ∷ ys) i x e =
    rw (next_in_line i x (λ z. omega (arith, parted_some y ys))) (parted_after y ys x)

-- ---- A line put number by number into a lent text

-- number i of a list goes after those before it
parted_next : (xs : List ℕ) (i : ℕ) → i < length xs → parted (take (i + 1) xs) ≡ parted (take i xs) ++ in_line i (get_or xs i 0)
unfolding parted in_line
parted_next [] i l = absurd (omega arith)
parted_next (x ∷ xs) zero l = refl
parted_next (x ∷ xs) (suc i) l = rw (add-one (suc i), take-suc xs i 0 (omega arith)) (parted_after x (take i xs) (get_or xs i 0))

in-line-length : (bytes i x : ℕ) → length (decimal x) < bytes → length (in_line i x) ≤ bytes
unfolding in_line
in-line-length bytes zero x h = omega arith
in-line-length bytes (suc i) x h = omega arith

-- The first i numbers of a line are put at a position, in at most so many bytes each.
pub record Begun (bytes : ℕ) (numbers : List ℕ) (at : ℕ) (old text : List ℕ) (end i : ℕ) : Type 0 where
  pub count : i ≤ length numbers
  pub same : length text ≡ length old
  pub short : end ≤ at + bytes * i
  pub put : Put (parted (take i numbers)) at old text end

pub none-begun : {bytes at : ℕ} {numbers text : List ℕ} → Begun bytes numbers at text text at 0
unfolding parted
none-begun {at} {text} = record { count = omega arith; same = refl; short = omega arith; put = put_none at text }

module _ {bytes at end i r : ℕ} {numbers old mid text : List ℕ} (begun : Begun bytes numbers at old mid end i) (within : at ≤ length old) where
  -- one number more
  pub begun_more : i < length numbers → length (decimal (get_or numbers i 0)) < bytes → length text ≡ length mid
      → Put (in_line i (get_or numbers i 0)) end mid text r → Begun bytes numbers at old text r (i + 1)
  begun_more l h same put =
      record {
        count = omega arith;
        same = omega arith;
        short = omega (arith, in-line-length bytes i (get_or numbers i 0) h);
        put = rw (parted_next numbers i l) (put_then within begun.put put);
      }

  -- after the last number a line feed ends the line
  pub line_ended : length numbers ≤ i → Put (line_feed ∷ []) end mid text r → Put (line numbers) at old text r
  unfolding line
  line_ended l put = put_then within (rw (take_all i numbers l) at begun.put) put

-- ---- A line put number by number at the end of a text

-- Each run of an iterator has room for its line, after so many bytes.
abbrev pub RoomForRuns : {S : Type 0} → (S → Option ℕ → S → Type 0) → S → (at size : ℕ) → Type 0
RoomForRuns steps s at size = EachRunFrom steps s (λ p. at + length (line p.items) ≤ size)

-- A line whose numbers come one by one from an iterator: xs so far, which stand after the old text.
module _ {S : Type 0} (steps : S → Option ℕ → S → Type 0) {numbers s : S} (is : s ≡ numbers) (xs : List ℕ) (t : S) (came : Yields steps s xs t)
    {from size : ℕ} (old : List ℕ) {text : List ℕ} (starts : from ≡ length old) (room : RoomForRuns steps numbers (length old) size)
    (put : text ≡ old ++ parted xs) where
  so_long : length text ≡ length old + length (parted xs)
  so_long = ap length put ∙ length-append old (parted xs)

  -- there is room for one number more, and it is put after them
  pub room_for_one : (x : ℕ) (u : S) → steps t (Some x) u → length text + length (in_line (length text - from) x) < size
  unfolding line
  room_for_one x u step =
      let run = run_of_turn steps s xs t came x u step in
      let fits : length old + length (line (xs ++ (x ∷ []))) ≤ size = rw run.2.0 at (room run.0 run.0.seen (run.1 ∙ is)) in
      let more : length (parted (xs ++ (x ∷ []))) ≡ length (parted xs) + length (in_line (length text - from) x)
      = rw (parted_more xs (length text - from) x (omega (arith, so_long)), length-append) in
      omega (arith, so_long, length-append (parted (xs ++ (x ∷ []))) (line_feed ∷ []))

  pub one_put : (x : ℕ) {new : List ℕ} → new ≡ text ++ in_line (length text - from) x → new ≡ old ++ parted (xs ++ (x ∷ []))
  one_put x more =
      rw (parted_more xs (length text - from) x (omega (arith, so_long)))
      (more ∙ ap (λ (t : List ℕ). t ++ in_line (length text - from) x) put ∙ append_assoc old (parted xs) _)

  -- where no number more comes there is room for the line feed, and it ends the line
  pub room_for_end : (u : S) → steps t None u → length text < size
  unfolding line
  room_for_end u step =
      let run = run_of_exit steps s xs t came u step in
      let fits : length old + length (line xs) ≤ size = rw run.3.0 at (room run.0 run.0.seen (run.1 ∙ is)) in
      omega (arith, so_long, length-append (parted xs) (line_feed ∷ []))

  pub line_put : (u : S) {new : List ℕ} → steps t None u → new ≡ text ++ (line_feed ∷ [])
      → WholeRun steps numbers (λ p. new ≡ old ++ line p.items)
  unfolding line
  line_put u step more =
      let run = run_of_exit steps s xs t came u step in
      let whole = more ∙ ap (λ (t : List ℕ). t ++ (line_feed ∷ [])) put ∙ append_assoc old (parted xs) (line_feed ∷ []) in
      (run.0, run.1 ∙ is, run.2, rw run.3.0 whole)

-- each is below a bound
abbrev pub Below : ℕ → List ℕ → Type 0
Below bound [] = Unit {0}
Below bound (x ∷ xs) = (x < bound) × Below bound xs

-- numbers below a bound, in so many bytes each
module _ {bound bytes : ℕ} (short : Short bound bytes) where
  parted-length : (xs : List ℕ) → Below bound xs → length (parted xs) ≤ bytes * length xs
  unfolding parted
  parted-length [] h = omega arith
  parted-length (x ∷ []) h = omega (arith, short x h.0)
  parted-length (x ∷ y ∷ xs) h = rw length-append (omega (arith, short x h.0, parted-length (y ∷ xs) h.1))

  length_of_line : (xs : List ℕ) → Below bound xs → length (line xs) ≤ bytes * length xs + 1
  unfolding line
  length_of_line xs h = rw length-append (omega (arith, parted-length xs h))

-- A line of numbers of 32 bits takes at most 11 bytes a number and 1 more.
pub line-length : (xs : List ℕ) → Below (2 ^ 32) xs → length (line xs) ≤ 11 * length xs + 1
line-length = length_of_line short_32

-- A line of numbers of 64 bits takes at most 21 bytes a number and 1 more.
pub wide_line_length : (xs : List ℕ) → Below (2 ^ 64) xs → length (line xs) ≤ 21 * length xs + 1
wide_line_length = length_of_line short_64

-- ---- An iterator that always gives the same numbers

-- fewer numbers take no longer line
fewer_parted : (n : ℕ) (xs : List ℕ) → length (parted (take n xs)) ≤ length (parted xs)
unfolding parted
fewer_parted zero xs = omega arith
fewer_parted (suc n) [] = omega arith
fewer_parted (suc zero) (x ∷ []) = omega arith
fewer_parted (suc (suc n)) (x ∷ []) = omega arith
fewer_parted (suc zero) (x ∷ y ∷ xs) = rw length-append (omega arith)
fewer_parted (suc (suc n)) (x ∷ y ∷ xs) = rw (length-append, length-append) (omega (arith, fewer_parted (suc n) (y ∷ xs)))

fewer : (n : ℕ) (xs : List ℕ) → length (line (take n xs)) ≤ length (line xs)
unfolding line
fewer n xs = rw (length-append (parted (take n xs)), length-append (parted xs)) (omega (arith, fewer_parted n xs))

-- an array's elements
pub YieldsList-from_array : {A : Type 0} {n : ℕ} {s : IntoIter A n} (xs : List A) → array_into_iter_items s ≡ xs
    → YieldsList array_steps (λ x. x) s xs
YieldsList-from_array {s = s} xs are =
    rw are at (YieldsList-from_shown array_steps (λ x. x) array_into_iter_items (λ s t h. h.0) (λ s x t h. h) s)

-- numbers of another width that a `map` makes wide
pub widened : {S A F : Type 0} {steps : S → Option A → S → Type 0} {v : A → ℕ} {xs : List ℕ} {s : Map S F} (g : Mut F (A × Unit {0}) ℕ) {f : F}
    → YieldsList steps v (map_source s) xs → map_callee s ≡ f → ((x : A) (r : ℕ) (q : F) → Called g f (x, tt) r q → (q ≡ f) × (r ≡ v x))
    → YieldsList (maps steps g) (λ r. r) s xs
widened {xs = xs} g gives is wide = rw map-id at (YieldsList-from_map g (λ (x : ℕ). x) gives is wide)

module _ {S : Type 0} {steps : S → Option ℕ → S → Type 0} {s : S} {xs : List ℕ} (gives : YieldsList steps (λ x. x) s xs) where
  -- where there is room for their line, there is room for each run
  pub room_for_runs : (at size : ℕ) → at + length (line xs) ≤ size → RoomForRuns steps s at size
  room_for_runs at size fits =
      runs_from_along steps s (λ ys. at + length (line ys) ≤ size) (λ ys t came.
      let same : ys ≡ take (length ys) xs = sym (map-id ys) ∙ YieldsList-so_far gives ys t came in
      let short : length (line ys) ≤ length (line xs) = rw same (fewer (length ys) xs) in
      omega arith)

  -- so there is in 11 bytes for each number of 32 bits, or in 21 for each of 64, and 1 byte more
  pub room_for_narrow : Below (2 ^ 32) xs → (at size : ℕ) → at + 11 * length xs + 1 ≤ size → RoomForRuns steps s at size
  room_for_narrow small at size fits = let short = line-length xs small in room_for_runs at size (omega arith)

  pub room_for_wide : Below (2 ^ 64) xs → (at size : ℕ) → at + 21 * length xs + 1 ≤ size → RoomForRuns steps s at size
  room_for_wide small at size fits = let short = wide_line_length xs small in room_for_runs at size (omega arith)

  -- what a whole run put is their line
  pub line_given : (old : List ℕ) {new : List ℕ} → WholeRun steps s (λ p. new ≡ old ++ line p.items) → new ≡ old ++ line xs
  line_given old put =
      let run = took put.0 in
      let all : DrainsIf steps (Unit {0}) s put.0.items
      = (run.0, subst (λ (k : S). Yields steps k put.0.items run.0) put.1 run.1, λ _. run.2 put.2) in
      let same : put.0.items ≡ xs = sym (map-id put.0.items) ∙ items_from_drains put.0.items all gives in
      rw same at put.3
