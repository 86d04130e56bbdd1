-- The least of eight numbers that follow one another: it is at most each of them, it is one of them, and what a change of them does to it.
-- Assumes nothing.
use mathlib.Core.Path.{◌≡◌, ap}
use mathlib.Core.Logic.{◌≢◌}
use Prim.Native.Nat.{ℕ, zero, suc, ◌+◌, ◌-◌, ◌<◌, ◌≤◌, min}
use native.Mathlib.Decide.{ℕ_discrete, dec_lt}
use native.Mathlib.Omega.{arith}
use Rattle.open_list.specs.Tree.{least_to, least4, least8}

-- ---- it is the lesser of two fours' least
min_assoc : (a b c : ℕ) → min a (min b c) ≡ min (min a b) c
min_assoc a b c = omega arith

pub in_fours : (f : ℕ → ℕ) (c a b v : ℕ) → a ≡ least4 f c → b ≡ least4 f (c + 4) → v ≡ min a b → v ≡ least8 f c
unfolding least_to
in_fours f c a b v p q r =
    let e : c + 4 + 1 ≡ c + 5 = omega arith in
    let g : c + 4 + 2 ≡ c + 6 = omega arith in
    let h : c + 4 + 3 ≡ c + 7 = omega arith in
    simp (r, p, q, min_assoc, e, g, h)

-- ---- the least is at most each
le_by : (f : ℕ → ℕ) (c n k : ℕ) → (k ≤ n → least_to f c n ≤ f (c + k)) → k ≤ suc n → Dec (k ≡ suc n) → least_to f c (suc n) ≤ f (c + k)
unfolding least_to
le_by f c n k u h (yes q) = let e : f (c + k) ≡ f (c + suc n) = ap f (omega arith) in omega arith
le_by f c n k u h (no q) = omega (arith, u (omega arith))

le_to : (f : ℕ → ℕ) (c n k : ℕ) → k ≤ n → least_to f c n ≤ f (c + k)
unfolding least_to
le_to f c zero k h = let e : f (c + k) ≡ f c = ap f (omega arith) in omega arith
le_to f c (suc n) k h = le_by f c n k (le_to f c n k) h (ℕ_discrete k (suc n))

pub le8 : (f : ℕ → ℕ) (c k : ℕ) → k < 8 → least8 f c ≤ f (c + k)
le8 f c k h = le_to f c 7 k (omega arith)

-- ---- the least is one of them
pub record OneOf (n : ℕ) (f : ℕ → ℕ) (c v : ℕ) : Type 0 where
  pub k : ℕ
  pub few : k < n
  pub is : v ≡ f (c + k)

one_by : (f : ℕ → ℕ) (c n : ℕ) → OneOf (suc n) f c (least_to f c n) → Dec (least_to f c n < f (c + suc n))
    → OneOf (suc (suc n)) f c (least_to f c (suc n))
unfolding least_to
one_by f c n o (yes q) = record { k = o.k; few = omega (arith, o.few); is = omega (arith, o.is) }
one_by f c n o (no q) = record { k = suc n; few = omega arith; is = omega arith }

one_to : (f : ℕ → ℕ) (c n : ℕ) → OneOf (suc n) f c (least_to f c n)
unfolding least_to
one_to f c zero = let e : f (c + 0) ≡ f c = ap f (omega arith) in record { k = 0; few = omega arith; is = omega arith }
one_to f c (suc n) = one_by f c n (one_to f c n) (dec_lt (least_to f c n) (f (c + suc n)))

pub one8 : (f : ℕ → ℕ) (c : ℕ) → OneOf 8 f c (least8 f c)
one8 f c = one_to f c 7

-- ---- two eights
-- where each of the eight is between f's cut to y and f's, and the least at most y, it is f's least cut to y
between8 : (f g : ℕ → ℕ) (c d y : ℕ) → ((k : ℕ) → k < 8 → min (f (c + k)) y ≤ g (d + k)) → ((k : ℕ) → k < 8 → g (d + k) ≤ f (c + k))
    → least8 g d ≤ y → least8 g d ≡ min (least8 f c) y
between8 f g c d y a b h =
    let o = one8 g d in
    let q = one8 f c in
    omega (arith, o.is, q.is, a o.k o.few, le8 f c o.k o.few, b q.k q.few, le8 g d q.k q.few)

-- the least of eight that are cut to y is their least, cut to y
pub cut8 : (f g : ℕ → ℕ) (c d y : ℕ) → ((k : ℕ) → k < 8 → g (d + k) ≡ min (f (c + k)) y) → least8 g d ≡ min (least8 f c) y
cut8 f g c d y e =
    between8 f g c d y (λ k h. omega (arith, e k h)) (λ k h. omega (arith, e k h)) (omega (arith, e 0 (omega arith), le8 g d 0 (omega arith)))

pub same8 : (f g : ℕ → ℕ) (c : ℕ) → ((k : ℕ) → k < 8 → g (c + k) ≡ f (c + k)) → least8 g c ≡ least8 f c
same8 f g c e =
    let o = one8 g c in
    let q = one8 f c in
    omega (arith, o.is, q.is, e o.k o.few, e q.k q.few, le8 f c o.k o.few, le8 g c q.k q.few)

-- where one of the eight is cut to y, so is the least
pub fall8 : (f g : ℕ → ℕ) (i c y : ℕ) → ((j : ℕ) → j ≢ i → g j ≡ f j) → g i ≡ min (f i) y → c ≤ i → i < c + 8 → least8 g c ≡ min (least8 f c) y
fall8 f g i c y o e a b =
    let q : c + (i - c) ≡ i = omega arith in
    let r : g (c + (i - c)) ≡ g i = ap g q in
    between8 f g c c y (λ k h. above k (ℕ_discrete (c + k) i)) (λ k h. below k (ℕ_discrete (c + k) i))
    (omega (arith, le8 g c (i - c) (omega arith)))
  where
    above : (k : ℕ) → Dec (c + k ≡ i) → min (f (c + k)) y ≤ g (c + k)
    above k (yes q) = rw q (omega arith)
    above k (no n) = omega (arith, o (c + k) n)

    below : (k : ℕ) → Dec (c + k ≡ i) → g (c + k) ≤ f (c + k)
    below k (yes q) = rw q (omega arith)
    below k (no n) = omega (arith, o (c + k) n)
