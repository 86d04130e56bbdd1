-- Every byte string that the reader accepts is the sheet of some accepted job. Assumes nothing.
use mathlib.Core.Path.{◌≡◌, refl, sym, ap, ap₂, subst, subst⁻¹, ◌∙◌}
use mathlib.Core.Bool.{Bool, true, false, cond}
use mathlib.Core.List.{List, [], ◌∷◌}
use Prim.Native.Nat.{ℕ, suc, ◌+◌, ◌*◌, ◌≤◌, ◌<◌}
use native.Mathlib.Nat.{le_of_eq, le_trans}
use native.Mathlib.Omega.{arith}
use lib.Dec.{eqb}
use lib.ListN.{length, get_or, replicate, length-replicate}
use borrow.Author.Tests.{eqb-true, eqb-false}
use Rattle.model.specs.Bytes.{Bytes, put16}
use Rattle.model.specs.Framing.{put_record}
use Rattle.model.specs.Stated.{Stated, stated_in, problem_of}
use Rattle.model.specs.Paths.{GoalReachable, Route, Admissible}
use Rattle.model.specs.Rounds.{trace, total, never_spent}
use Rattle.model.specs.Limits.{max_places, max_arcs}
use Rattle.model.specs.Problem.{Problem, Arc, Valid}
use Rattle.model.specs.Sheets.{route_sheet, no_route_sheet, read_sheet}
use Rattle.model.specs.Jobs.{route_job, no_route_job, ample, put_head}
use Rattle.model.proofs.Sheets.{Possible, accepted_route, accepted_no_route}
use Rattle.model.proofs.Total.{total_at_most, never_spent_at_2}
use Rattle.model.specs.Calls.{Call, IsAccepted, written, result, problem, allowance, Defined, Writes}
use Rattle.model.proofs.Promises.{comes, ends, valid, route_if_reachable, none_if_unreachable, spent_by_number, never_spent_lem}
use Rattle.model.proofs.Promises.{none-answer, none_sheet_is, route_answer, route_sheet_is, places_of, first_cheapest}
use Rattle.model.proofs.PlainJobs.{plain, put_arcs, plain_job, plain_bytes, plain_framed, plain_stated, plain_stated_lem, plain_problem}
use Rattle.model.proofs.PlainAccepted.{plain_accepted}
use Rattle.model.proofs.Chains.{
  head_d-get_d,
  get_last_d-get_d,
  chain,
  chain_put,
  chain_length,
  shares-length,
  plain_admissible,
  steps,
  step_costs,
  route_valid,
  route_few,
  route_reachable,
  route_unique,
  alone_valid,
  alone_unreachable,
}

-- the call that lends just enough
pub call_on : (input : List ℕ) → Bytes input → (arcs : ℕ) → Call
call_on input b arcs =
    record { input = input; work = replicate (16 * max_places + 2 * arcs) 0; sheet = replicate (10 + 2 * max_places) 0; bytes = b }

-- A job of a plain problem, called on with just enough.
module _ (input : List ℕ) (arcs : List Arc) (start goal : ℕ) (is : input ≡ plain_job arcs start goal)
    (few : length arcs ≤ max_arcs) (ok : Valid (plain arcs start goal)) where
  plain_call : Call
  plain_call = call_on input (rw is (plain_bytes arcs start goal)) (length arcs)

  call_accepted : IsAccepted plain_call
  unfolding plain_call call_on
  call_accepted =
      let words = le_of_eq (sym (length-replicate {A = ℕ} (16 * max_places + 2 * length arcs) 0)) in
      let bytes = le_of_eq (sym (length-replicate {A = ℕ} (10 + 2 * max_places) 0)) in
      rw is (plain_accepted arcs start goal few ok _ _ words bytes)

  call_stated : stated_in input ≡ plain_stated arcs start goal
  call_stated = rw (is, plain_framed arcs start goal) (plain_stated_lem arcs start goal few ok)

  call_problem : problem plain_call ≡ plain arcs start goal
  unfolding plain_call call_on
  call_problem = ap problem_of call_stated ∙ plain_problem arcs start goal

  call_allowance : allowance plain_call ≡ ample
  unfolding plain_call call_on plain_stated
  call_allowance = ap (λ (s : Stated). s.job.allowance) call_stated

  -- the allowance is never spent
  call_ample : never_spent (problem plain_call) ≤ allowance plain_call
  unfolding plain
  call_ample = rw (call_problem, call_allowance) (omega (arith, never_spent_at_2 (plain arcs start goal) refl))

  call_lasts : total (trace (problem plain_call)) ≤ allowance plain_call
  call_lasts = le_trans (total_at_most (problem plain_call) (valid plain_call call_accepted)) call_ample

  call_writes : {n : ℕ} {b : List ℕ} → (result plain_call).answer.number ≡ n → written (result plain_call) ≡ b → Writes Defined input n b
  unfolding plain_call call_on
  call_writes number on_sheet =
      record {
        call = plain_call;
        after = result plain_call;
        comes = refl;
        is_job_lem = refl;
        accepted = call_accepted;
        number = number;
        on_sheet = on_sheet;
      }

  in-plain : (c : ℕ) (r : List ℕ) → Route (problem plain_call) c r → Route (plain arcs start goal) c r
  in-plain c r = subst (λ (p : Problem). Route p c r) call_problem

  -- where every route is the same one, it is the one on the sheet
  only_route_written : (cost : ℕ) (r : List ℕ) → GoalReachable (plain arcs start goal)
      → ((c : ℕ) (s : List ℕ) → Route (plain arcs start goal) c s → (c ≡ cost) × (s ≡ r)) → Writes Defined input 0 (route_sheet cost r)
  unfolding plain_call call_on
  only_route_written cost r reachable only =
      let admissible : Admissible (problem plain_call) = rw call_problem (plain_admissible arcs start goal) in
      let some : GoalReachable (problem plain_call) = rw call_problem reachable in
      let k = comes plain_call call_accepted in
      let f = route_if_reachable (ends plain_call call_accepted) call_lasts some in
      let first = first_cheapest k (valid plain_call call_accepted) admissible f in
      let same = only (result plain_call).answer.cost (places_of k f) (in-plain _ _ first.first.member.member) in
      call_writes (rw (route_answer k f)) (route_sheet_is k f ∙ ap₂ route_sheet same.0 same.1)

  unreachable_written : (GoalReachable (plain arcs start goal) → ⊥) → Writes Defined input 17 (no_route_sheet start)
  unfolding plain plain_call call_on
  unreachable_written unreachable =
      let k = comes plain_call call_accepted in
      let e = ends plain_call call_accepted in
      let none : GoalReachable (problem plain_call) → ⊥ = rw call_problem unreachable in
      let unspent : (result plain_call).answer.number ≡ 16 → ⊥ =
      λ n. never_spent_lem (valid plain_call call_accepted) call_ample (spent_by_number k e n) in
      let started : (problem plain_call).start ≡ start = ap (λ (p : Problem). p.start) call_problem in
      let found = none_if_unreachable k e unspent none in
      call_writes (rw (none-answer k found)) (none_sheet_is k found ∙ ap no_route_sheet started)

-- the job of a route is that of its chain
route_job_lem : (cost : ℕ) (places : List ℕ) → Possible cost places
    → route_job cost places ≡ plain_job (chain places (step_costs cost places)) (get_or places 0 0) (get_or places (steps places) 0)
unfolding route_job plain_job
route_job_lem cost places h =
    let n : ℕ = steps places in
    let more : length places ≡ suc n = omega (arith, h.some_place) in
    let costs_length : length (step_costs cost places) ≡ n = shares-length n cost in
    let arcs-length : length (chain places (step_costs cost places)) ≡ n = chain_length places (step_costs cost places) (omega arith) ∙ costs_length in
    rw (arcs-length, chain_put, head_d-get_d, get_last_d-get_d places n more)

pub route_written : (cost : ℕ) (places : List ℕ) → Possible cost places → Writes Defined (route_job cost places) 0 (route_sheet cost places)
route_written cost places h =
    only_route_written (route_job cost places) (chain places (step_costs cost places)) (get_or places 0 0) (get_or places (steps places) 0)
    (route_job_lem cost places h) (route_few cost places h) (route_valid cost places h)
    cost places (route_reachable cost places h) (route_unique cost places h)

-- a place other than the start
abbrev elsewhere : ℕ → ℕ
elsewhere start = cond (eqb start 0) 1 0

elsewhere_is : (start : ℕ) → (elsewhere start < max_places) × (elsewhere start ≡ start → ⊥)
elsewhere_is start = go (eqb start 0) refl
  where
    go : (t : Bool) → eqb start 0 ≡ t → (cond t 1 0 < max_places) × (cond t 1 0 ≡ start → ⊥)
    go true e = (omega arith, λ q. omega (arith, eqb-true start 0 e))
    go false e = (omega arith, λ q. eqb-false start 0 e (sym q))

-- the job with no arc is that of a chain of one place
no_route_job_lem : (start : ℕ) → no_route_job start ≡ plain_job (chain (start ∷ []) []) start (elsewhere start)
unfolding no_route_job plain_job put_head put_record put16 chain put_arcs
no_route_job_lem start = refl

pub no_route_written : (start : ℕ) → start < max_places → Writes Defined (no_route_job start) 17 (no_route_sheet start)
unfolding chain
no_route_written start h =
    let (below, other) = elsewhere_is start in
    unreachable_written (no_route_job start) [] start (elsewhere start)
    (no_route_job_lem start) (omega arith) (alone_valid start (elsewhere start) h below) (alone_unreachable start (elsewhere start) other)

pub accepted_route_written : (b : List ℕ) → Bytes b → (read_sheet b).number ≡ 0 → (r : List ℕ) × Writes Defined (route_job (read_sheet b).cost r) 0 b
accepted_route_written b B e =
    let s = accepted_route b B e in
    (s.places, subst⁻¹ (λ x. Writes Defined (route_job (read_sheet b).cost s.places) 0 x) s.written (route_written _ s.places s.can_be))

pub accepted_no_route_written : (b : List ℕ) → Bytes b → (read_sheet b).number ≡ 17 → (start : ℕ) × Writes Defined (no_route_job start) 17 b
accepted_no_route_written b B e =
    let s = accepted_no_route b B e in
    (s.start, subst⁻¹ (λ x. Writes Defined (no_route_job s.start) 17 x) s.written (no_route_written s.start s.can_be))
