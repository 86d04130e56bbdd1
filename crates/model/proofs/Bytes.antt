-- Fields that are written are read back, and what is written is bytes. Assumes nothing.
use mathlib.Core.Path.{◌≡◌, refl, sym, ap, ap₂, ◌∙◌}
use mathlib.Core.List.{List, [], ◌∷◌, ◌++◌, append_assoc}
use Prim.Native.Nat.{ℕ, zero, suc, ◌+◌, ◌*◌, ◌/◌, ◌%◌, ◌^◌, ◌≤◌, ◌<◌}
use native.Mathlib.Nat.{add_assoc}
use native.Mathlib.Numerals.{add-one}
use native.Mathlib.Omega.{arith}
use lib.ListN.{length, get_or, take, drop, length-append}
use lib.Seq.{get_or-drop, get_or-append_seam, get_or-append-add, drop-cons, take-add, drop-drop}
use Rattle.model.specs.Bytes.{Bytes, u16, u32, u16s, put16, put32, put16s}

pub take_bytes : (n : ℕ) (b : List ℕ) → Bytes b → Bytes (take n b)
take_bytes zero b B i = omega arith
take_bytes (suc n) [] B i = omega arith
take_bytes (suc n) (x ∷ b) B zero = B zero
take_bytes (suc n) (x ∷ b) B (suc i) = take_bytes n b (λ j. B (suc j)) i

pub drop_bytes : (n : ℕ) (b : List ℕ) → Bytes b → Bytes (drop n b)
drop_bytes n b B i = rw get_or-drop (B (n + i))

-- a field of bytes is below what its bytes can hold
pub u16_below : (b : List ℕ) (i : ℕ) → Bytes b → u16 b i < 65536
unfolding u16
u16_below b i h = omega (arith, h i, h (i + 1))

pub u32_below : (b : List ℕ) (i : ℕ) → Bytes b → u32 b i < 2 ^ 32
unfolding u32
u32_below b i h = omega (arith, u16_below b i h, u16_below b (i + 2) h)

pub put16s-length : (xs : List ℕ) → length (put16s xs) ≡ 2 * length xs
unfolding put16 put16s
put16s-length [] = refl
put16s-length (x ∷ xs) = omega (arith, put16s-length xs)

pub u16s-length : (n : ℕ) (b : List ℕ) (i : ℕ) → length (u16s n b i) ≡ n
unfolding u16s
u16s-length zero b i = refl
u16s-length (suc n) b i = ap suc (u16s-length n b (i + 2))

-- field i of n fields
pub u16s_at : (n : ℕ) (b : List ℕ) (k i : ℕ) → i < n → get_or (u16s n b k) i 0 ≡ u16 b (k + 2 * i)
unfolding u16s
u16s_at zero b k i l = absurd (omega arith)
u16s_at (suc n) b k zero l = let at : k ≡ k + 2 * 0 = omega arith in ap (u16 b) at
u16s_at (suc n) b k (suc i) l =
    let at : k + 2 + 2 * i ≡ k + 2 * suc i = omega arith in
    u16s_at n b (k + 2) i (omega arith) ∙ ap (u16 b) at

-- fields behind a front are those of what follows it
pub u16_behind : (xs ys : List ℕ) (i : ℕ) → u16 (xs ++ ys) (length xs + i) ≡ u16 ys i
unfolding u16
u16_behind xs ys i = rw (get_or-append-add xs ys i, add_assoc (length xs) i 1, get_or-append-add xs ys (i + 1)) refl

pub u16s_behind : (n : ℕ) (xs ys : List ℕ) (i : ℕ) → u16s n (xs ++ ys) (length xs + i) ≡ u16s n ys i
unfolding u16s
u16s_behind zero xs ys i = refl
u16s_behind (suc n) xs ys i = rw (u16_behind xs ys i, add_assoc (length xs) i 2, u16s_behind n xs ys (i + 2)) refl

-- a number of two bytes, or of two fields, is written as these
pub put16_bytes : (x y : ℕ) → x < 256 → y < 256 → put16 (x + 256 * y) ≡ x ∷ y ∷ []
unfolding put16
put16_bytes x y h k = ap₂ (λ (a b : ℕ). a ∷ b ∷ []) (omega arith) (omega arith)

put32_fields : (x y : ℕ) → x < 65536 → put32 (x + 65536 * y) ≡ put16 x ++ put16 y
unfolding put16 put32
put32_fields x y h =
    let n : ℕ = x + 65536 * y in
    let second : n / 256 ≡ x / 256 + 256 * y = omega arith in
    let third : n / 65536 ≡ y = omega arith in
    let fourth : n / 16777216 ≡ y / 256 = omega arith in
    let bottom : n % 256 ≡ x % 256 = omega arith in
    let next : n / 256 % 256 ≡ x / 256 % 256 = rw second (omega arith) in
    rw (bottom, next, third, fourth)

-- what is written after the front xs, before the rest ys, is read back
pub u16_put16 : (xs : List ℕ) (n : ℕ) (ys : List ℕ) → n < 65536 → u16 (xs ++ put16 n ++ ys) (length xs) ≡ n
unfolding u16 put16
u16_put16 xs n ys h = rw (append_assoc, get_or-append_seam, get_or-append-add) (omega arith)

put16-length : (xs : List ℕ) (n : ℕ) → length (xs ++ put16 n) ≡ length xs + 2
unfolding put16
put16-length xs n = length-append xs (put16 n)

pub u32_put32 : (xs : List ℕ) (n : ℕ) (ys : List ℕ) → n < 2 ^ 32 → u32 (xs ++ put32 n ++ ys) (length xs) ≡ n
unfolding u32
u32_put32 xs n ys h =
    let x : ℕ = n % 65536 in
    let y : ℕ = n / 65536 in
    let whole : n ≡ x + 65536 * y = omega arith in
    let split : put32 n ≡ put16 x ++ put16 y = ap put32 whole ∙ put32_fields x y (omega arith) in
    let low = u16_put16 xs x (put16 y ++ ys) (omega arith) in
    let high = u16_put16 (xs ++ put16 x) y ys (omega arith) in
    simp (split, append_assoc, simp append_assoc at low, simp (append_assoc, put16-length) at high) (sym whole)

pub u16s_put16s : (xs ns ys : List ℕ) → ((i : ℕ) → get_or ns i 0 < 65536) → u16s (length ns) (xs ++ put16s ns ++ ys) (length xs) ≡ ns
unfolding u16s put16s
u16s_put16s xs [] ys h = refl
u16s_put16s xs (n ∷ ns) ys h =
    let first = u16_put16 xs n (put16s ns ++ ys) (h 0) in
    let rest = u16s_put16s (xs ++ put16 n) ns ys (λ i. h (suc i)) in
    ap₂ {C = List ℕ} ◌∷◌ (simp append_assoc (simp append_assoc at first)) (simp append_assoc (simp (append_assoc, put16-length) at rest))

-- bytes that are read are written again
pub put16_u16 : (b : List ℕ) (i : ℕ) → Bytes b → i + 2 ≤ length b → put16 (u16 b i) ≡ take 2 (drop i b)
unfolding u16
put16_u16 b i h l =
    let here : i < length b = omega arith in
    let next : suc i < length b = omega arith in
    put16_bytes _ _ (h i) (h (i + 1)) ∙ rw (drop-cons b i 0, drop-cons b (suc i) 0, add-one)

pub put32_u32 : (b : List ℕ) (i : ℕ) → Bytes b → i + 4 ≤ length b → put32 (u32 b i) ≡ take 4 (drop i b)
unfolding u32
put32_u32 b i h l =
    let low = put16_u16 b i h (omega arith) in
    let high = put16_u16 b (i + 2) h (omega arith) in
    let fields = put32_fields (u16 b i) (u16 b (i + 2)) (u16_below b i h) in
    rw (fields, low, high, ← drop-drop 2 i b) (sym (take-add 2 2 (drop i b)))

pub put16s_u16s : (n : ℕ) (b : List ℕ) (i : ℕ) → Bytes b → i + 2 * n ≤ length b → put16s (u16s n b i) ≡ take (2 * n) (drop i b)
unfolding put16s u16s
put16s_u16s zero b i h l = refl
put16s_u16s (suc n) b i h l =
    let low = put16_u16 b i h (omega arith) in
    let rest = put16s_u16s n b (i + 2) h (omega arith) in
    let more : 2 * suc n ≡ 2 + 2 * n = omega arith in
    rw (low, rest, more, ← drop-drop 2 i b) (sym (take-add 2 (2 * n) (drop i b)))

-- a number that two bytes hold is read back from them
pub two_bytes : (n : ℕ) → n < 65536 → n % 256 + 256 * (n / 256 % 256) ≡ n
two_bytes n h = omega arith

-- ---- What is written is bytes

pub append_bytes : (xs ys : List ℕ) → Bytes xs → Bytes ys → Bytes (xs ++ ys)
append_bytes [] ys B C i = C i
append_bytes (x ∷ xs) ys B C zero = B 0
append_bytes (x ∷ xs) ys B C (suc i) = append_bytes xs ys (λ j. B (suc j)) C i

pub no_bytes : Bytes []
no_bytes i = omega arith

pub put16_is_bytes : (n : ℕ) → Bytes (put16 n)
unfolding put16
put16_is_bytes n zero = omega arith
put16_is_bytes n (suc zero) = omega arith
put16_is_bytes n (suc (suc i)) = omega arith

pub put32_is_bytes : (n : ℕ) → Bytes (put32 n)
unfolding put32
put32_is_bytes n zero = omega arith
put32_is_bytes n (suc zero) = omega arith
put32_is_bytes n (suc (suc zero)) = omega arith
put32_is_bytes n (suc (suc (suc zero))) = omega arith
put32_is_bytes n (suc (suc (suc (suc i)))) = omega arith

pub put16s_is_bytes : (ns : List ℕ) → Bytes (put16s ns)
unfolding put16s
put16s_is_bytes [] = no_bytes
put16s_is_bytes (n ∷ ns) = append_bytes (put16 n) (put16s ns) (put16_is_bytes n) (put16s_is_bytes ns)
