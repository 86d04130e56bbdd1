-- What a lane costs under a table of factors. Assumes nothing.
use mathlib.Core.Path.{◌≡◌, refl}
use mathlib.Core.Logic.{◌↔◌}
use mathlib.Core.Bool.{Bool, false, ◌||◌}
use mathlib.Core.List.{List, [], ◌∷◌}
use Prim.Native.Nat.{ℕ, zero, suc, ◌≤◌, ◌<◌}
use native.Mathlib.Nat.{one-le-mul, mul-le-mul}
use native.Mathlib.Omega.{arith}
use lib.Dec.{ltb}
use lib.ListN.{length, get_or}
use borrow.Author.Tests.{ltb-false, le-ltb, eqb-false}
use Rattle.model.specs.Lists.{any, falls}
use Rattle.model.specs.Limits.{max_cost, max_length, max_class, max_factor}
use Rattle.model.specs.Items.{Charge, flat, measured}
use Rattle.model.specs.Stated.{fixed_factors, IsTable, cost_under}
use Rattle.model.specs.Refusals.{is_free, mismeasured, breaks_rules}
use Rattle.model.proofs.Lists.{neither, any_false_at, any_none_at}
use Rattle.model.proofs.Tests.{or_none}

-- a list that falls nowhere, number by number
falls_nowhere : (xs : List ℕ) → falls xs ≡ false → (i : ℕ) → suc i < length xs → get_or xs i 0 ≤ get_or xs (suc i) 0
unfolding falls
falls_nowhere [] e i h = absurd (omega arith)
falls_nowhere (x ∷ []) e i h = absurd (omega arith)
falls_nowhere (x ∷ y ∷ xs) e zero h = ltb-false y x (neither (ltb y x) (falls (y ∷ xs)) e).0
falls_nowhere (x ∷ y ∷ xs) e (suc i) h = falls_nowhere (y ∷ xs) (neither (ltb y x) (falls (y ∷ xs)) e).1 i (omega arith)

never_falls : (xs : List ℕ) → ((i : ℕ) → suc i < length xs → get_or xs i 0 ≤ get_or xs (suc i) 0) → falls xs ≡ false
unfolding falls
never_falls [] h = refl
never_falls (x ∷ []) h = refl
never_falls (x ∷ y ∷ xs) h =
    or_none (ltb y x) (falls (y ∷ xs)) (le-ltb y x (h 0 (omega arith))) (never_falls (y ∷ xs) (λ i k. h (suc i) (omega arith)))

-- eight factors pass exactly where none of them breaks the rules
pub table_passes : (factors : List ℕ) → length factors ≡ 8 → (breaks_rules factors ≡ false) ↔ IsTable factors
unfolding breaks_rules
table_passes factors eight = (
  λ kept.
      let parts = neither (any outside factors) (falls factors) kept in
      let inside : (class : ℕ) → class ≤ max_class → (ltb (get_or factors class 0) 1 ≡ false) × (ltb max_factor (get_or factors class 0) ≡ false)
      = λ class h. neither _ _ (any_false_at outside 0 factors parts.0 class (omega arith)) in
      record {
        eight = eight;
        above = λ class h. ltb-false _ 1 (inside class h).0;
        below = λ class h. ltb-false max_factor _ (inside class h).1;
        rising = λ class h. falls_nowhere factors parts.1 class (omega arith);
      },
  λ table.
      or_none (any outside factors) (falls factors)
      (any_none_at outside 0 factors λ class h.
      or_none _ _ (le-ltb (get_or factors class 0) 1 (table.above class (omega arith))) (le-ltb max_factor _ (table.below class (omega arith))))
      (never_falls factors (λ class h. table.rising class (omega arith))),
)
  where
    outside : ℕ → Bool
    outside f = ltb f 1 || ltb max_factor f

pub fixed_table : IsTable fixed_factors
unfolding breaks_rules any falls
fixed_table = (table_passes fixed_factors refl).0 refl

-- a length and a class that are not out of range
module _ (length class : ℕ) (ok : mismeasured (measured length class) ≡ false) where
  pub length_above : 1 ≤ length
  unfolding mismeasured
  length_above = ltb-false length 1 (neither _ _ (neither _ _ ok).0).0

  pub length_below : length ≤ max_length
  unfolding mismeasured
  length_below = ltb-false max_length length (neither (ltb length 1) _ (neither _ _ ok).0).1

  pub class_below : class ≤ max_class
  unfolding mismeasured
  class_below = ltb-false max_class class (neither (ltb length 1 || ltb max_length length) _ ok).1

-- Under every table that passes, a lane that is measured costs 1 to 65,520, and any lane 1 to 65,535.
module _ (factors : List ℕ) (table : IsTable factors) where
  pub measured_cost : (length class : ℕ) → mismeasured (measured length class) ≡ false
      → (1 ≤ cost_under factors (measured length class)) × (cost_under factors (measured length class) ≤ 65520)
  unfolding cost_under
  measured_cost length class ok =
      let h = class_below length class ok in
      let product = mul-le-mul (length_below length class ok) (table.below class h) in
      (one-le-mul (length_above length class ok) (table.above class h), omega (arith, product))

  pub lane_cost_above : (c : Charge) → is_free c ≡ false → mismeasured c ≡ false → 1 ≤ cost_under factors c
  unfolding is_free cost_under
  lane_cost_above (flat cost) paid ok = let h = eqb-false cost 0 paid in omega arith
  lane_cost_above (measured length class) paid ok = (measured_cost length class ok).0

  pub lane_cost_below : (c : Charge) → ((cost : ℕ) → c ≡ flat cost → cost ≤ max_cost) → mismeasured c ≡ false → cost_under factors c ≤ max_cost
  unfolding cost_under
  lane_cost_below (flat cost) small ok = small cost refl
  lane_cost_below (measured length class) small ok = omega (arith, (measured_cost length class ok).1)
