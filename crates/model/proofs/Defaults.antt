-- What the places of an accepted input have for estimates: their own, or the default, and goals 0. Assumes nothing.
use mathlib.Core.Path.{◌≡◌, refl, sym, ◌∙◌}
use mathlib.Core.Bool.{Bool, true, false, cond}
use mathlib.Core.List.{List, Memᴰ}
use mathlib.Core.Option.{some}
use Prim.Native.Nat.{ℕ, ◌≤◌}
use lib.ListN.{length}
use borrow.Author.Tests.{ltb-false, eqb-true, not-false}
use Rattle.model.specs.Lists.{filter_map, member, repeats}
use Rattle.model.specs.Framing.{frame}
use Rattle.model.specs.Items.{PlaceValue, Item, head, lane, estimate, job, wait, own_factors, default_estimate, other, items, estimate_in, default_in}
use Rattle.model.specs.Stated.{stated_by, stated, stated_in, lookup, default, estimate_at}
use Rattle.model.specs.Refusals.{two_estimates, goal_estimate, places_in}
use Rattle.model.specs.Refusals.{form_rows, size_rows, map_rows, factor_rows, cost_rows, job_rows, input_rows, rows, holds_at, Accepted}
use Rattle.model.proofs.Lists.{none-some, neither, any_false, filter_map_member, member_true, only_one, none_first}
use Rattle.model.proofs.Lookups.{lookup_absent, lookup_own}
use Rattle.model.proofs.Acceptance.{accepted_row}

estimate_is : (i : Item) (e : PlaceValue) → estimate_in i ≡ some e → i ≡ estimate e
unfolding estimate_in
estimate_is (head s) e p = none-some p
estimate_is (lane l) e p = none-some p
estimate_is (estimate f) e p = cc
estimate_is (job j) e p = none-some p
estimate_is (wait w) e p = none-some p
estimate_is (own_factors fs) e p = none-some p
estimate_is (default_estimate x) e p = none-some p
estimate_is other e p = none-some p

default_is : (i : Item) (x : ℕ) → default_in i ≡ some x → i ≡ default_estimate x
unfolding default_in
default_is (head s) x p = none-some p
default_is (lane l) x p = none-some p
default_is (estimate e) x p = none-some p
default_is (job j) x p = none-some p
default_is (wait w) x p = none-some p
default_is (own_factors fs) x p = none-some p
default_is (default_estimate y) x p = cc
default_is other x p = none-some p

-- without a record for it the default is 0
pub no_default : (input : List ℕ) → ((x : ℕ) → Memᴰ (default_estimate x) (items (frame input).records) → ⊥) → default (stated_in input) ≡ 0
unfolding default stated stated_by
no_default input no_record = none_first (filter_map default_in (items (frame input).records)) 0 λ x i.
    let (k, m, has) = (filter_map_member default_in (items (frame input).records) x).0 i in no_record x (rw (← default_is k x has) m)

module _ (input : List ℕ) (v : ℕ) (no_own : (e : PlaceValue) → Memᴰ (estimate e) (items (frame input).records) → e.place ≡ v → ⊥) where
  -- a place without an estimate of its own has the default,
  pub left_to_default : (Memᴰ v (stated_in input).job.goals → ⊥) → estimate_at (stated_in input) v ≡ default (stated_in input)
  unfolding estimate_at stated stated_by
  left_to_default no_goal = go (member v goals) refl
    where
      goals : List ℕ
      goals = (stated_in input).job.goals

      absent : lookup (default (stated_in input)) (stated_in input).estimates v ≡ default (stated_in input)
      absent = lookup_absent (default (stated_in input)) (stated_in input).estimates v λ e i.
          let (k, m, has) = (filter_map_member estimate_in (items (frame input).records) e).0 i in no_own e (rw (← estimate_is k e has) m)

      go : (t : Bool) → member v goals ≡ t
          → cond t 0 (lookup (default (stated_in input)) (stated_in input).estimates v) ≡ default (stated_in input)
      go true e = absurd (no_goal ((member_true v goals).0 e))
      go false e = absent

module _ (input : List ℕ) (words bytes : ℕ) (A : Accepted input words bytes) where
  once : (repeats (places_in (stated_in input).estimates) ≡ false) × (length (stated_in input).defaults ≤ 1)
  unfolding rows input_rows form_rows size_rows map_rows holds_at two_estimates
  once = let (own, given) = neither (repeats (places_in (stated_in input).estimates)) _ (accepted_row input words bytes A 9) in (own, ltb-false _ _ given)

  -- which is the one that a record states, wherever it stands
  pub stated_default : (x : ℕ) → Memᴰ (default_estimate x) (items (frame input).records) → default (stated_in input) ≡ x
  unfolding default stated stated_by default_in
  stated_default x i =
      only_one (stated_in input).defaults 0 x once.1 ((filter_map_member default_in (items (frame input).records) x).1 (default_estimate x, i, refl))

  -- An own estimate is kept, 0 too. A goal's own is 0, by 13.
  pub stated_estimate : (e : PlaceValue) → Memᴰ (estimate e) (items (frame input).records) → estimate_at (stated_in input) e.place ≡ e.value
  unfolding estimate_at stated stated_by estimate_in rows input_rows form_rows size_rows map_rows factor_rows cost_rows job_rows holds_at goal_estimate
  stated_estimate e i = go (member e.place goals) refl
    where
      goals : List ℕ
      goals = (stated_in input).job.goals

      own : (d : ℕ) → lookup d (stated_in input).estimates e.place ≡ e.value
      own d =
          lookup_own d (stated_in input).estimates once.0 e ((filter_map_member estimate_in (items (frame input).records) e).1 (estimate e, i, refl))

      go : (t : Bool) → member e.place goals ≡ t
          → cond t 0 (lookup (default (stated_in input)) (stated_in input).estimates e.place) ≡ e.value
      go true g =
          let none = any_false _ goals (accepted_row input words bytes A 13) e.place ((member_true e.place goals).0 g) in
          sym (eqb-true _ 0 (not-false _ none)) ∙ own 0
      go false g = own (default (stated_in input))
