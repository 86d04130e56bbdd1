-- One problem searched under two allowances, and two calls whose inputs differ only in the allowance. Assumes nothing.
use mathlib.Core.Path.{◌≡◌, refl, sym, ap, ap₂, ◌∙◌}
use mathlib.Core.Logic.{◌↔◌}
use mathlib.Core.Bool.{true}
use mathlib.Core.List.{List}
use Prim.Native.Nat.{ℕ, zero, suc, ◌^◌, ◌≤◌, ◌<◌}
use native.Mathlib.Decide.{ℕ_discrete}
use native.Mathlib.Omega.{arith}
use lib.ListN.{length}
use Rattle.model.specs.Problem.{Problem, Valid}
use Rattle.model.specs.Paths.{Cheapest, Admissible}
use Rattle.model.specs.Stated.{stated_in}
use Rattle.model.specs.Rounds.{Search, trace, total}
use Rattle.model.specs.Routes.{first_route}
use Rattle.model.specs.Endings.{Ending, ending_if, budgeted_by, budgeted}
use Rattle.model.specs.Answer.{Result, refused_with, call_if, call}
use Rattle.model.specs.Calls.{Call, problem, allowance, IsAccepted, result, Spent, Alike}
use Rattle.model.specs.Allowances.{input_with, DifferInAllowance}
use Rattle.model.specs.Terms.{ends_between}
use Rattle.model.proofs.Admissible.{low_at_most_cheapest}
use Rattle.model.proofs.Allowances.{around_refused, around_problem, around_allowance}
use Rattle.model.proofs.Allowance.{cut_inside, lasting_same, cut_later}
use Rattle.model.proofs.Floors.{Rises, cut_rises}
use Rattle.model.proofs.Endings.{IsSpent, Ends, spent_ends, none_ends, route_ends, budgeted_ends}
use Rattle.model.proofs.Promises.{EndsAs, comes, valid, ends, ending_of, refusal_of, same_calls, spent_accepted}
use Rattle.model.proofs.Promises.{spent_answer, none-answer, route_answer, spent_by_number, spent_if_exceeded}
use Rattle.model.proofs.Promises.{unspent_expansions, expansions_at_most}

-- ---- One search

module _ {p : Problem} {a : ℕ} {e : Ending} {r : Result} (comes : EndsAs e r) where
  unspent_lasts : Ends p a e → (Spent r → ⊥) → total (trace p) ≤ a
  unspent_lasts (spent_ends s) unspent = absurd (unspent (rw (spent_answer comes s)))
  unspent_lasts (none_ends n) unspent = n.lasts_to.lasts
  unspent_lasts (route_ends f) unspent = f.lasts_to.lasts

  unspent_queries : Ends p a e → (Spent r → ⊥) → r.answer.queries ≡ length (trace p)
  unspent_queries (spent_ends s) unspent = absurd (unspent (rw (spent_answer comes s)))
  unspent_queries (none_ends n) unspent = rw (none-answer comes n)
  unspent_queries (route_ends f) unspent = rw (route_answer comes f)

  queries_at_most : Ends p a e → r.answer.queries ≤ length (trace p)
  queries_at_most (spent_ends s) = rw (spent_answer comes s) (cut_inside s.is_cut).1
  queries_at_most (none_ends n) = rw (none-answer comes n) (omega arith)
  queries_at_most (route_ends f) = rw (route_answer comes f) (omega arith)

  -- only 16 has a floor, which is low in one of the queries
  floor_at_most : Valid p → Ends p a e → Admissible p → (k : ℕ) → Cheapest p k → r.answer.floor ≤ k
  floor_at_most ok (spent_ends s) h k cheapest =
      rw (spent_answer comes s) (low_at_most_cheapest p ok h k cheapest s.cut (cut_inside s.is_cut).0)
  floor_at_most ok (none_ends n) h k cheapest = rw (none-answer comes n) (omega arith)
  floor_at_most ok (route_ends f) h k cheapest = rw (route_answer comes f) (omega arith)

-- ---- One problem, two allowances

-- neither expansions nor queries are fewer in the second
abbrev NoFewer : Result → Result → Type 0
NoFewer r s = (r.answer.expansions ≤ s.answer.expansions) × (r.answer.queries ≤ s.answer.queries)

-- both are spent
module _ {p : Problem} {a b : ℕ} (ok : Valid p) (longer : a ≤ b) {e f : Ending} {r s : Result} (one : EndsAs e r) (other : EndsAs f s)
    (x : IsSpent p a e) (y : IsSpent p b f) where
  low_rises : Rises x.cut.round.low y.cut.round.low (ends_between x.queries y.queries (trace p))
  low_rises = cut_rises p ok a b _ _ _ _ longer x.is_cut y.is_cut

  floor_no_lower : r.answer.floor ≤ s.answer.floor
  floor_no_lower = rw (spent_answer one x, spent_answer other y) low_rises.never_falls

  floor_rises : (r.answer.floor < s.answer.floor) ↔ (ends_between r.answer.queries s.answer.queries (trace p) ≡ true)
  floor_rises = rw (spent_answer one x, spent_answer other y) (low_rises.only_if, low_rises.if_ended)

  spent_no_fewer : NoFewer r s
  spent_no_fewer = rw (spent_answer one x, spent_answer other y) (longer, cut_later (trace p) a b _ _ _ _ longer x.is_cut y.is_cut)

module _ (p : Problem) (ok : Valid p) (a b : ℕ) {r s : Result} (one : EndsAs (budgeted p a) r) (other : EndsAs (budgeted p b) s) where
  first : Ends p a (budgeted p a)
  first = budgeted_ends p a ok

  second : Ends p b (budgeted p b)
  second = budgeted_ends p b ok

  unspent_same : (Spent r → ⊥) → (Spent s → ⊥) → budgeted p a ≡ budgeted p b
  unfolding budgeted_by
  unspent_same u v =
      ap (λ (x : Search). ending_if first_route x.spent p x) (lasting_same p a b (unspent_lasts one first u) (unspent_lasts other second v))

  still_unspent : a ≤ b → (Spent r → ⊥) → Spent s → ⊥
  still_unspent longer u v = omega (arith, unspent_lasts one first u, (spent_by_number other second v).exceeds)

  no_fewer : a ≤ b → NoFewer r s
  no_fewer longer = go (ℕ_discrete s.answer.number 16)
    where
      go : Dec (Spent s) → NoFewer r s
      go (yes v) =
          let y = spent_by_number other second v in
          spent_no_fewer ok longer one other (spent_if_exceeded first (omega (arith, y.exceeds))) y
      go (no v) = (
        omega (arith, expansions_at_most one first, unspent_expansions other second v),
        omega (arith, queries_at_most one first, unspent_queries other second v),
      )

-- ---- Two calls

module _ (a b : ℕ) (c d : Call) (same : DifferInAllowance a b c d) where
  same_refusal : refusal_of c ≡ refusal_of d
  same_refusal =
      rw (same.first, same.second, same.work, same.sheet) (around_refused same.around a b (length d.work) (length d.sheet))

  same_problem : problem c ≡ problem d
  same_problem = rw (same.first, same.second) (around_problem same.around a b)

  pub both_accepted : IsAccepted c ↔ IsAccepted d
  both_accepted = (λ A. sym same_refusal ∙ A, λ A. same_refusal ∙ A)

  read_as : (e : Call) (n : ℕ) → e.input ≡ input_with same.around n → n < 2 ^ 32 → IsAccepted e → allowance e ≡ n
  read_as e n is fits A =
      ap (λ (i : List ℕ). (stated_in i).job.allowance) is
      ∙ around_allowance same.around n (length e.work) (length e.sheet) fits (rw is at A)

  pub allowances_read : IsAccepted c → (allowance c ≡ a) × (allowance d ≡ b)
  allowances_read A =
      (read_as c a same.first same.four_bytes.0 A, read_as d b same.second same.four_bytes.1 (both_accepted.0 A))

  module _ (A : IsAccepted c) where
    one_comes : EndsAs (budgeted (problem c) a) (result c)
    one_comes = rw (← (allowances_read A).0) (comes c A)

    other_comes : EndsAs (budgeted (problem c) b) (result d)
    other_comes = rw (same_problem, ← (allowances_read A).1) (comes d (both_accepted.0 A))

    same_ending : budgeted (problem c) a ≡ budgeted (problem c) b → ending_of c ≡ ending_of d
    same_ending e =
        ap (budgeted (problem c)) (allowances_read A).0 ∙ e ∙ sym (ap₂ budgeted (sym same_problem) (allowances_read A).1)

    both_spent : Spent (result c) → Spent (result d) → IsSpent (problem c) a (budgeted (problem c) a) × IsSpent (problem c) b (budgeted (problem c) b)
    both_spent u v =
        let ok = valid c A in
        (spent_by_number one_comes (budgeted_ends (problem c) a ok) u, spent_by_number other_comes (budgeted_ends (problem c) b ok) v)

  -- a call that is spent is accepted, and so is the other
  accepted_one : Spent (result d) → IsAccepted c
  accepted_one v = both_accepted.1 (spent_accepted d v)

  pub unspent_alike : (Spent (result c) → ⊥) → (Spent (result d) → ⊥) → Alike (result c) (result d)
  unspent_alike u v =
      same_calls c d same_refusal λ A. same_ending A (unspent_same (problem c) (valid c A) a b (one_comes A) (other_comes A) u v)

  pub unspent_longer : a ≤ b → (Spent (result c) → ⊥) → Spent (result d) → ⊥
  unspent_longer longer u v =
      let A = accepted_one v in
      still_unspent (problem c) (valid c A) a b (one_comes A) (other_comes A) longer u v

  pub floor_longer : a ≤ b → Spent (result c) → Spent (result d) → (result c).answer.floor ≤ (result d).answer.floor
  floor_longer longer u v =
      let A = accepted_one v in
      let (x, y) = both_spent A u v in
      floor_no_lower (valid c A) longer (one_comes A) (other_comes A) x y

  pub floor_rises_longer : a ≤ b → Spent (result c) → Spent (result d)
      → ((result c).answer.floor < (result d).answer.floor)
      ↔ (ends_between (result c).answer.queries (result d).answer.queries (trace (problem c)) ≡ true)
  floor_rises_longer longer u v =
      let A = accepted_one v in
      let (x, y) = both_spent A u v in
      floor_rises (valid c A) longer (one_comes A) (other_comes A) x y

  pub no_fewer_longer : a ≤ b → NoFewer (result c) (result d)
  no_fewer_longer longer = go (ℕ_discrete (refusal_of c) 0)
    where
      go : Dec (IsAccepted c) → NoFewer (result c) (result d)
      go (yes A) = no_fewer (problem c) (valid c A) a b (one_comes A) (other_comes A) longer
      go (no k) = let alike = same_calls c d same_refusal (λ A. absurd (k A)) in rw alike.numbers (omega arith, omega arith)

-- of a refused call too, whose floor is 0
pub floor_below : (c : Call) → Admissible (problem c) → (k : ℕ) → Cheapest (problem c) k → (result c).answer.floor ≤ k
unfolding call call_if refused_with
floor_below c h k cheapest = go (refusal_of c) refl
  where
    go : (n : ℕ) → refusal_of c ≡ n → (result c).answer.floor ≤ k
    go zero A = floor_at_most (comes c A) (valid c A) (ends c A) h k cheapest
    go (suc n) e = rw e (omega arith)
