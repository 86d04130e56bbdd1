-- Numbers in an eight-fold tree: what a change of one leaves to mend, and that the root is the least leaf. Nothing here speaks of words.
-- Assumes nothing.
use mathlib.Core.Path.{◌≡◌, sym, ap, ◌∙◌}
use mathlib.Core.Logic.{◌≢◌}
use Prim.Native.Nat.{ℕ, zero, suc, ◌+◌, ◌-◌, ◌*◌, ◌%◌, ◌<◌, ◌≤◌, min}
use native.Mathlib.Decide.{ℕ_discrete, dec_lt}
use native.Mathlib.Omega.{arith}
use Rattle.open_list.specs.Tree.{Right, AllRight, least8, first_child, parent}
use Rattle.open_list.specs.Loops.{Mending}
use Rattle.open_list.proofs.Eight.{OneOf, le8, one8, same8, fall8}

-- g is f, but for i
abbrev pub SameBut : (ℕ → ℕ) → (ℕ → ℕ) → ℕ → Type 0
SameBut f g i = (j : ℕ) → j ≢ i → g j ≡ f j

-- a node that did not change, and of which no child changed, is right still
apart : (f g : ℕ → ℕ) (i j : ℕ) → SameBut f g i → j ≢ i → ((k : ℕ) → k < 8 → first_child j + k ≢ i) → Right f j → Right g j
apart f g i j o n h r = o j n ∙ r ∙ sym (same8 f g (first_child j) (λ k l. o (first_child j + k) (h k l)))

-- ---- i changes: its parent is next, and is to get y
module _ (m : ℕ) (f g : ℕ → ℕ) (i : ℕ) (o : SameBut f g i) where
  -- a leaf
  pub leaf_changes : m ≤ i → i < 8 * m + 1 → 0 < m → AllRight m f → (y : ℕ) → least8 g (first_child (parent i)) ≡ y → Mending m g (parent i) y
  leaf_changes a b z r y u = record { low = omega arith; rest = λ j l n. apart f g i j o (omega arith) (λ k h. omega arith) (r j l); here = u }

  -- the node that was to be mended
  module _ (x : ℕ) (v : Mending m f i x) (e : g i ≡ x) where
    others : (j : ℕ) → j < m → (0 < i → j ≢ parent i) → Dec (j ≡ i) → Right g j
    others j l n (yes q) = rw q (e ∙ sym v.here ∙ sym (same8 f g (first_child i) (λ k h. o (first_child i + k) (omega arith))))
    others j l n (no q) = apart f g i j o q (λ k a b. n (omega arith) (omega arith)) (v.rest j l q)

    pub node_changes : 0 < i → (y : ℕ) → least8 g (first_child (parent i)) ≡ y → Mending m g (parent i) y
    node_changes a y u =
        let l : i < m = v.low in
        record { low = omega arith; rest = λ j b n. others j b (λ _. n) (ℕ_discrete j i); here = u }

    pub root_changes : i ≡ 0 → AllRight m g
    root_changes z j l = others j l (λ a. absurd (omega arith)) (ℕ_discrete j i)

-- the node is right as it is: nothing above it changes
pub right_already : (m : ℕ) (f : ℕ → ℕ) (i x : ℕ) → Mending m f i x → f i ≡ x → AllRight m f
right_already m f i x v e j l = by (ℕ_discrete j i)
  where
    by : Dec (j ≡ i) → Right f j
    by (yes q) = rw q (e ∙ sym v.here)
    by (no q) = v.rest j l q

-- i falls to y, and so does what its parent is to get
pub parent_falls : (f g : ℕ → ℕ) (i y : ℕ) → SameBut f g i → 0 < i → g i ≡ min (f i) y → Right f (parent i)
    → least8 g (first_child (parent i)) ≡ min (g (parent i)) y
parent_falls f g i y o a e r =
    omega (arith, o (parent i) (omega arith), fall8 f g i (first_child (parent i)) y o e (omega arith) (omega arith))

-- ---- the root is at most every other, and is one of the leaves
module _ (m : ℕ) (f : ℕ → ℕ) (r : AllRight m f) where
  least_by : (j : ℕ) → j < 8 * m + 1 → Dec (j ≡ 0) → (j ≢ 0 → f 0 ≤ f (parent j)) → f 0 ≤ f j
  least_by j b (yes q) u = let e : f j ≡ f 0 = ap f (omega arith) in omega arith
  least_by j b (no q) u =
      let e : f (first_child (parent j) + (j - 1) % 8) ≡ f j = ap f (omega arith) in
      omega (arith, u q, r (parent j) (omega arith), le8 f (first_child (parent j)) ((j - 1) % 8) (omega arith))

  least_within : (d j : ℕ) → j ≤ d → j < 8 * m + 1 → f 0 ≤ f j
  least_within zero j a b = let e : f j ≡ f 0 = ap f (omega arith) in omega arith
  least_within (suc d) j a b = least_by j b (ℕ_discrete j 0) (λ n. least_within d (parent j) (omega arith) (omega arith))

  pub root_least : (j : ℕ) → j < 8 * m + 1 → f 0 ≤ f j
  root_least j b = least_within j j (omega arith) b

  pub record LeafOf (v : ℕ) : Type 0 where
    pub j : ℕ
    pub low : m ≤ j
    pub high : j < 8 * m + 1
    pub is : v ≡ f j

  leaf_by : (j : ℕ) → j < m → (o : OneOf 8 f (first_child j) (least8 f (first_child j))) → Dec (first_child j + o.k < m)
      → (first_child j + o.k < m → LeafOf (f (first_child j + o.k))) → LeafOf (f j)
  leaf_by j b o (yes q) u = let n = u q in record { j = n.j; low = n.low; high = n.high; is = r j b ∙ o.is ∙ n.is }
  leaf_by j b o (no q) u = let l : o.k < 8 = o.few in record { j = first_child j + o.k; low = omega arith; high = omega arith; is = r j b ∙ o.is }

  leaf_below : (d j : ℕ) → m ≤ j + d → j < m → LeafOf (f j)
  leaf_below zero j a b = absurd (omega arith)
  leaf_below (suc d) j a b =
      let o = one8 f (first_child j) in
      leaf_by j b o (dec_lt (first_child j + o.k) m) (λ q. leaf_below d (first_child j + o.k) (omega arith) q)

  pub root_leaf : 0 < m → LeafOf (f 0)
  root_leaf z = leaf_below m 0 (omega arith) z
