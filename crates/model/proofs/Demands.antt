-- The demands on the R3, of a program: `P c r` says that the call c may come to the result r, as the program's promise has it. They hold of
-- every program that keeps to the definition `route`, for every input and every lent area.
-- Each demand is a record of statements; its proof stands right under it. Assumes nothing.
use mathlib.Core.Path.{◌≡◌, sym, ap, subst, subst⁻¹, ◌∙◌}
use mathlib.Core.Logic.{◌↔◌, ◌⊎◌, inl, inr}
use mathlib.Core.Bool.{true}
use mathlib.Core.List.{List, [], ◌∷◌, ◌++◌, Memᴰ}
use Prim.Native.Nat.{ℕ, ◌+◌, ◌-◌, ◌*◌, ◌^◌, ◌≤◌, ◌<◌}
use native.Mathlib.Nat.{le_trans}
use native.Mathlib.Omega.{arith}
use lib.ListN.{length, replicate}
use Rattle.model.specs.Numbers.{binary_digits}
use Rattle.model.specs.Bytes.{Bytes}
use Rattle.model.specs.Framing.{frame}
use Rattle.model.specs.Problem.{IsGoal}
use Rattle.model.specs.Paths.{WalkAlong, GoalReachable, Route, Cheapest, FirstCheapest, FirstWithin, Overstates, Admissible}
use Rattle.model.specs.Items.{measured, Lane, PlaceValue, estimate, own_factors, default_estimate}
use Rattle.model.specs.Limits.{max_estimate}
use Rattle.model.specs.Stated.{fixed_factors, IsTable, stated_in, default, lane_cost, problem_of}
use Rattle.model.specs.Ways.{Travels}
use Rattle.model.specs.Refusals.{Row, rows}
use Rattle.model.specs.Costs.{table}
use Rattle.model.specs.Query.{within}
use Rattle.model.specs.Rounds.{trace, total, never_spent}
use Rattle.model.specs.Sheets.{route_sheet, no_route_sheet, reading, refused_read, read_sheet}
use Rattle.model.specs.Routes.{route_to, first_route}
use Rattle.model.specs.Endings.{budgeted_by}
use Rattle.model.specs.Answer.{Result, answer, refused_with, call}
use Rattle.model.specs.Calls.{Call, items_in, problem, allowance, IsAccepted, result, written, Spent, Alike, Program, Defined, Keeps, Writes}
use Rattle.model.specs.Allowances.{DifferInAllowance}
use Rattle.model.specs.Jobs.{route_job, no_route_job}
use Rattle.model.specs.Terms.{ends_between}
use Rattle.model.proofs.Laws.{admissible_total, never_spent_at_2, has_cheapest}
use Rattle.model.proofs.Acceptance.{states_growth, stated_factors, fixed_factors_lem, accepted_table, accepted_lane_cost, goal_estimate}
use Rattle.model.proofs.Taken.{table_records, tables_fit, tables_accepted, tables_stated}
use Rattle.model.proofs.Taken.{default_records, defaults_fit, defaults_accepted, defaults_stated}
use Rattle.model.proofs.Defaults.{no_default, left_to_default, stated_default, stated_estimate}
use Rattle.model.proofs.Records.{put_records, put_records_is_bytes}
use Rattle.model.proofs.Ways.{walks_are_ways, routes_are_ways, overstates_by_ways}
use Rattle.model.proofs.Sheets.{refused_otherwise}
use Rattle.model.proofs.Rows.{NoneHolds}
use Rattle.model.proofs.Promises.{row_refuses, no_row_accepts, comes, valid, ends, ends_number, never_spent_lem}
use Rattle.model.proofs.Promises.{spent_by_number, none_by_number, route_by_number, spent_answer, none-answer, route_answer}
use Rattle.model.proofs.Promises.{spent_if_exceeded, none_if_unreachable, route_if_reachable, unspent_expansions, expansions_at_most}
use Rattle.model.proofs.Promises.{none_sheet_is, route_sheet_is, places_of, none_read_back, route_reads_back, first_within, first_cheapest}
use Rattle.model.proofs.Promises.{SheetSays, sheet_says, first_sheet, none_sheet, equal_routes, equal_starts, never_equal}
use Rattle.model.proofs.RouteRules.{SameNumbers, same_numbers_lem}
use Rattle.model.proofs.LongerAllowance.{both_accepted, allowances_read, unspent_alike, unspent_longer}
use Rattle.model.proofs.LongerAllowance.{floor_longer, floor_rises_longer, no_fewer_longer, floor_below}
use Rattle.model.proofs.SentAgain.{sent_again}
use Rattle.model.proofs.Realized.{accepted_route_written, accepted_no_route_written}

-- Demand 1: if the map, the job or the lent memory breaks a rule, the call ends with the number that the papers give, and every lent
-- byte and word is as before.
pub record Demand1 (c : Call) (r : Result) : Type 0 where
  -- a row of the table of conditions holds: its number is given where no earlier row holds, with six zeros, and nothing lent has changed
  pub refused : (earlier : List Row) (n : ℕ) (later : List Row)
      → rows (frame c.input) (length c.work) (length c.sheet) ≡ earlier ++ (record { number = n; holds = true } ∷ later)
      → NoneHolds earlier → r ≡ record { answer = answer n 0 0 0 0 0 0; work = c.work; sheet = c.sheet }
  -- and where no row holds the number is no refusal's
  pub accepted : NoneHolds (rows (frame c.input) (length c.work) (length c.sheet))
      → (r.answer.number ≡ 0) ⊎ ((r.answer.number ≡ 16) ⊎ (r.answer.number ≡ 17))

demand_1 : (c : Call) → Demand1 c (result c)
unfolding refused_with
demand_1 c = record {
  refused = row_refuses c.input c.work c.sheet;
  accepted = λ fails. let A = no_row_accepts c.input c.work c.sheet fails in ends_number (comes c A) (ends c A);
}

-- Document 01's growth is 2, so that its figures are those of the laws at 2.
growth_2 : (c : Call) → (problem c).growth ≡ 2
unfolding problem_of
growth_2 c = states_growth (frame c.input).records

ample_236 : (c : Call) → 236 * (problem c).places ≤ allowance c → never_spent (problem c) ≤ allowance c
ample_236 c h = rw (never_spent_at_2 (problem c) (growth_2 c)) h

-- a cheapest route on the sheet
pub record CheapestOnSheet (c : Call) (r : Result) : Type 0 where
  pub places : List ℕ
  pub is_route : Route (problem c) r.answer.cost places
  pub cheapest : Cheapest (problem c) r.answer.cost
  pub on_sheet : written r ≡ route_sheet r.answer.cost places

-- a route on the sheet that is the first cheapest one within the reported limit
pub record WithinOnSheet (c : Call) (r : Result) : Type 0 where
  pub places : List ℕ
  pub first : FirstWithin (problem c) r.answer.limit r.answer.cost places
  pub on_sheet : written r ≡ route_sheet r.answer.cost places

-- Demand 2, of an accepted call.
pub record Demand2 (c : Call) (r : Result) : Type 0 where
  -- no estimate overstates, a goal can be reached and the allowance lasts: a cheapest route
  pub cheapest : Admissible (problem c) → GoalReachable (problem c) → total (trace (problem c)) ≤ allowance c
      → (r.answer.number ≡ 0) × CheapestOnSheet c r
  -- under any estimates, 'no route' exactly where no goal can be reached, unless the allowance is spent
  pub no_route : (r.answer.number ≡ 16 → ⊥) → (r.answer.number ≡ 17) ↔ (GoalReachable (problem c) → ⊥)
  pub no_route_sheet_lem : r.answer.number ≡ 17 → written r ≡ no_route_sheet (problem c).start
  -- 'allowance spent' exactly where the search needs more, and never with 236 for each place
  pub spent : (r.answer.number ≡ 16) ↔ (allowance c < total (trace (problem c)))
  pub never_spent_lem : 236 * (problem c).places ≤ allowance c → r.answer.number ≡ 16 → ⊥
  -- expansions is the sum of what the queries cost, and the allowance where that is spent
  pub expansions : (r.answer.number ≡ 16 → ⊥) → r.answer.expansions ≡ total (trace (problem c))
  pub spent_expansions : r.answer.number ≡ 16 → r.answer.expansions ≡ allowance c
  -- the sheet is read back as it was written
  pub route_read_back : r.answer.number ≡ 0
      → (s : List ℕ) × (written r ≡ route_sheet r.answer.cost s) × (read_sheet (written r) ≡ reading 0 r.answer.cost s)
  pub no_route_read_back : r.answer.number ≡ 17 → read_sheet (written r) ≡ reading 17 0 ((problem c).start ∷ [])
  -- under any estimates, a route is cheapest among the paths to a goal within the reported limit
  pub within_limit : r.answer.number ≡ 0 → WithinOnSheet c r

demand_2 : (c : Call) → IsAccepted c → Demand2 c (result c)
demand_2 c A =
    let k = comes c A in
    let e = ends c A in
    let ok = valid c A in
    record {
      cheapest = λ h reachable lasts.
          let f = route_if_reachable e lasts reachable in
          let r = first_cheapest k ok h f in (
            rw (route_answer k f),
            record { places = places_of k f; is_route = r.first.member.member; cheapest = r.cheapest; on_sheet = route_sheet_is k f },
          );
      no_route = λ unspent. (λ n. (none_by_number k e n).unreachable, λ h. rw (none-answer k (none_if_unreachable k e unspent h)));
      no_route_sheet_lem = λ n. none_sheet_is k (none_by_number k e n);
      spent = (λ n. (spent_by_number k e n).exceeds, λ h. rw (spent_answer k (spent_if_exceeded e h)));
      never_spent_lem = λ ample n. never_spent_lem ok (ample_236 c ample) (spent_by_number k e n);
      expansions = unspent_expansions k e;
      spent_expansions = λ n. rw (spent_answer k (spent_by_number k e n));
      route_read_back = λ n. let f = route_by_number k e n in (places_of k f, route_sheet_is k f, route_reads_back k ok f);
      no_route_read_back = λ n. none_read_back k ok (none_by_number k e n);
      within_limit = λ n.
          let f = route_by_number k e n in
          record { places = places_of k f; first = first_within k ok f; on_sheet = route_sheet_is k f };
    }

-- Demand 2, of a read of any bytes b: it is accepted, as 0 or 17, only where some job could produce them. Each is the sheet of this job.
pub record DemandSheets (P : Program) (b : List ℕ) : Type 0 where
  pub route : (read_sheet b).number ≡ 0 → (r : List ℕ) × Writes P (route_job (read_sheet b).cost r) 0 b
  pub no_route : (read_sheet b).number ≡ 17 → (start : ℕ) × Writes P (no_route_job start) 17 b
  -- every other read is refused, with 18 or 19 and zeros
  pub refused : ((read_sheet b).number ≡ 0 → ⊥) → ((read_sheet b).number ≡ 17 → ⊥) → (n : ℕ) × (read_sheet b ≡ refused_read n) × (18 ≤ n) × (n ≤ 19)

module _ (P : Program) (keeps : Keeps P) where
  -- what the definition writes the program writes
  writes : {job b : List ℕ} {n : ℕ} → Writes Defined job n b → Writes P job n b
  writes w =
      record {
        call = w.call;
        after = w.after;
        comes = subst⁻¹ (λ x. P w.call x) w.comes (keeps.gives w.call);
        is_job_lem = w.is_job_lem;
        accepted = w.accepted;
        number = w.number;
        on_sheet = w.on_sheet;
      }

  demand_sheets : (b : List ℕ) → Bytes b → DemandSheets P b
  demand_sheets b B =
      record {
        route = λ n. let (r, w) = accepted_route_written b B n in (r, writes w);
        no_route = λ n. let (start, w) = accepted_no_route_written b B n in (start, writes w);
        refused = refused_otherwise b;
      }

-- what demand 3 asks of each of two jobs whose sheets are compared
pub record Comparable (c : Call) : Type 0 where
  pub accepted : IsAccepted c
  pub admissible : Admissible (problem c)
  pub ample : 236 * (problem c).places ≤ allowance c

-- both have the same first cheapest route at the same cost
pub record SameFirstRoute (c d : Call) : Type 0 where
  pub cost : ℕ
  pub places : List ℕ
  pub first : FirstCheapest (problem c) cost places
  pub second : FirstCheapest (problem d) cost places

-- both starts are the same and neither has a route
pub record SameNoRoute (c d : Call) : Type 0 where
  pub start : (problem c).start ≡ (problem d).start
  pub first : GoalReachable (problem c) → ⊥
  pub second : GoalReachable (problem d) → ⊥

-- Demand 3, undivided.
pub record Demand3 (P : Program) : Type 0 where
  -- any two sheets are equal byte for byte exactly when both jobs have the same first cheapest route, or the same start and no route
  pub equal_sheets : (c d : Call) (r s : Result) → P c r → P d s → Comparable c → Comparable d
      → (written r ≡ written s) ↔ (SameFirstRoute c d ⊎ SameNoRoute c d)
  -- for each job with a route and no estimate that overstates, whatever its allowance: the bound on the expansions carried in the answer, with n
  -- the places within the cheapest cost k and d its binary digits
  pub expansions : (c : Call) (r : Result) → P c r → IsAccepted c → Admissible (problem c) → (k : ℕ) → Cheapest (problem c) k
      → r.answer.expansions ≤ 4 * length (within (table (problem c) k)) * (2 * binary_digits k + 1)
  -- and every job with a route has a cheapest cost
  pub some_cheapest : (c : Call) → IsAccepted c → GoalReachable (problem c) → (k : ℕ) × Cheapest (problem c) k

demand_3 : Demand3 Defined
demand_3 = record {
  equal_sheets = λ c d r s g h C D. rw (g, h) (equal_then_same c d (says c C) (says d D), same_then_equal c d C D);
  expansions = λ c r g A h k cheapest.
      let bound = at_2 c k (admissible_total (problem c) (valid c A) h k cheapest) in
      rw g (le_trans (expansions_at_most (comes c A) (ends c A)) bound);
  some_cheapest = λ c A reachable. has_cheapest (problem c) (valid c A) reachable;
}
  where
    says : (c : Call) → Comparable c → SheetSays (problem c) (written (result c))
    says c C = let A = C.accepted in sheet_says (comes c A) (valid c A) (ends c A) (ample_236 c C.ample) C.admissible

    at_2 : (c : Call) (k : ℕ) → let p = problem c in
        (p.growth - 1) * total (trace p) ≤ p.growth * p.growth * length (within (table p k)) * (2 * binary_digits k + 1)
        → total (trace p) ≤ 4 * length (within (table p k)) * (2 * binary_digits k + 1)
    at_2 c k bound =
        let n = length (within (table (problem c) k)) in
        let t = total (trace (problem c)) in
        let two = subst (λ (q : ℕ). (q - 1) * t ≤ q * q * n * (2 * binary_digits k + 1)) (growth_2 c) bound in
        omega arith

    equal_then_same : (c d : Call) → SheetSays (problem c) (written (result c)) → SheetSays (problem d) (written (result d))
        → written (result c) ≡ written (result d) → SameFirstRoute c d ⊎ SameNoRoute c d
    equal_then_same c d (inl x) (inl y) e = inl (record { cost = x.cost; places = x.places; first = x.first; second = equal_routes e x y })
    equal_then_same c d (inl x) (inr y) e = absurd (never_equal e x y)
    equal_then_same c d (inr x) (inl y) e = absurd (never_equal (sym e) y x)
    equal_then_same c d (inr x) (inr y) e = inr (record { start = equal_starts e x y; first = x.unreachable; second = y.unreachable })

    same_then_equal : (c d : Call) → Comparable c → Comparable d → SameFirstRoute c d ⊎ SameNoRoute c d → written (result c) ≡ written (result d)
    same_then_equal c d C D (inl s) =
        first_sheet (valid c C.accepted) (says c C) s.first ∙ sym (first_sheet (valid d D.accepted) (says d D) s.second)
    same_then_equal c d C D (inr n) =
        none_sheet (says c C) n.first ∙ ap no_route_sheet n.start ∙ sym (none_sheet (says d D) n.second)

-- Document 02, paper 2, of every call: "Counts and query order don't move." Number, cost, limit, floor, expansions and queries are those that
-- document 01's own rule for the route gives. That the route is the first in the new sense is in demands 2 and 3.
pub record CountsStay (c : Call) (r : Result) : Type 0 where
  pub numbers : SameNumbers r.answer (call (budgeted_by route_to) c.input c.work c.sheet).answer

counts_stay : (c : Call) → CountsStay c (result c)
counts_stay c = record { numbers = same_numbers_lem first_route route_to c.input c.work c.sheet }

-- Document 02, paper 4, of two calls "that differ only in the allowance", a in c and b in d, and come to r and s.
pub record TwoAllowances (a b : ℕ) (c d : Call) (r s : Result) : Type 0 where
  -- whether the input is refused does not depend on the allowance; where it is not, a and b are the allowances of the search
  pub accepted : IsAccepted c ↔ IsAccepted d
  pub allowances : IsAccepted c → (allowance c ≡ a) × (allowance d ≡ b)
  -- "if neither gives 16, all seven numbers and the sheet are equal": those of a refusal too
  pub same : (Spent r → ⊥) → (Spent s → ⊥) → Alike r s
  -- "if the smaller one doesn't give 16, nor does the larger"
  pub lasts : a ≤ b → (Spent r → ⊥) → Spent s → ⊥
  -- "if both do, the larger one's floor is at least the other's"
  pub floor : a ≤ b → Spent r → Spent s → r.answer.floor ≤ s.answer.floor
  -- beyond the paper: it is higher exactly where a query is ended that the larger one completes and the smaller one does not
  pub floor_rises : a ≤ b → Spent r → Spent s
      → (r.answer.floor < s.answer.floor) ↔ (ends_between r.answer.queries s.answer.queries (trace (problem c)) ≡ true)
  -- and the larger one never expands fewer places or begins fewer queries
  pub no_fewer : a ≤ b → (r.answer.expansions ≤ s.answer.expansions) × (r.answer.queries ≤ s.answer.queries)

-- Document 02, paper 4.
pub record LongerAllowance (P : Program) : Type 0 where
  pub two_allowances : (a b : ℕ) (c d : Call) (r s : Result) → P c r → P d s → DifferInAllowance a b c d → TwoAllowances a b c d r s
  -- every accepted job can be sent again so, with any allowance
  pub sent_again : (c : Call) → IsAccepted c → (b : ℕ) → b < 2 ^ 32 → (d : Call) × DifferInAllowance (allowance c) b c d
  -- "Where no estimate overstates and a route exists, a floor is never above the cheapest cost."
  pub floor_below : (c : Call) (r : Result) → P c r → Admissible (problem c) → (k : ℕ) → Cheapest (problem c) k → r.answer.floor ≤ k

longer_allowance : LongerAllowance Defined
longer_allowance = record {
  two_allowances = λ a b c d r s g h differ.
      rw (g, h) record {
        accepted = both_accepted a b c d differ;
        allowances = allowances_read a b c d differ;
        same = unspent_alike a b c d differ;
        lasts = unspent_longer a b c d differ;
        floor = floor_longer a b c d differ;
        floor_rises = floor_rises_longer a b c d differ;
        no_fewer = no_fewer_longer a b c d differ;
      };
  sent_again = sent_again;
  floor_below = λ c r g. rw g (floor_below c);
}

-- Document 02, paper 5, of what any call's input states: "Cost means lanes plus waits in every comparison from here on". Paths, costs, cheapest
-- routes and overstating, of which the demands above speak, are those of the lanes and waits that the records state.
pub record LanesPlusWaits (c : Call) : Type 0 where
  pub walks : (u v d : ℕ) (r : List ℕ) → WalkAlong (problem c) u v d r ↔ Travels (stated_in c.input) u v d r
  pub routes : (d : ℕ) (r : List ℕ)
      → Route (problem c) d r ↔ ((g : ℕ) × IsGoal (problem c) g × Travels (stated_in c.input) (problem c).start g d r)
  -- "an estimate overstates when it is above that sum"
  pub overstates : (v : ℕ)
      → Overstates (problem c) v
      ↔ ((g d : ℕ) × (r : List ℕ) × IsGoal (problem c) g × Travels (stated_in c.input) v g d r × (d < (problem c).estimate v))

lanes_plus_waits : (c : Call) → LanesPlusWaits c
lanes_plus_waits c =
    let s = stated_in c.input in
    record { walks = walks_are_ways s; routes = routes_are_ways s; overstates = overstates_by_ways s }

-- Document 02, paper 7, of an accepted call: "The promise on cheapest routes is proved over any table that passes, not per table." The demands above
-- are of every accepted input; of the factors in force, their proofs know no more than that they pass.
pub record OwnFactors (c : Call) : Type 0 where
  -- "Record kind 7 holds eight 2-byte factors that replace the fixed ones for that map", wherever it stands
  pub replaced : (fs : List ℕ) → Memᴰ (own_factors fs) (items_in c) → (stated_in c.input).factors ≡ fs
  pub fixed : ((fs : List ℕ) → Memᴰ (own_factors fs) (items_in c) → ⊥) → (stated_in c.input).factors ≡ fixed_factors
  -- "Each must be 1 to 16, and none smaller than the one before."
  pub passes : IsTable (stated_in c.input).factors
  -- so that a lane that is measured costs 1 to 65,520
  pub lane_cost_lem : (l : Lane) (length class : ℕ) → Memᴰ l (stated_in c.input).lanes → l.charge ≡ measured length class
      → (1 ≤ lane_cost (stated_in c.input) l) × (lane_cost (stated_in c.input) l ≤ 65520)

own_factors_lem : (c : Call) → IsAccepted c → OwnFactors c
own_factors_lem c A = record {
  replaced = stated_factors c.input _ _ A;
  fixed = fixed_factors_lem (frame c.input).records;
  passes = accepted_table c.input _ _ A;
  lane_cost_lem = accepted_lane_cost c.input _ _ A;
}

every_table : (fs : List ℕ) → IsTable fs → (c : Call) × IsAccepted c × ((stated_in c.input).factors ≡ fs)
every_table fs table = (
  record { input = put_records (table_records fs); work = replicate 16 0; sheet = replicate 12 0; bytes = put_records_is_bytes _ (tables_fit fs table) },
  tables_accepted fs table,
  tables_stated fs table,
)

-- no record gives the place an estimate of its own
abbrev pub NoneOfItsOwn : Call → ℕ → Type 0
NoneOfItsOwn c v = (e : PlaceValue) → Memᴰ (estimate e) (items_in c) → e.place ≡ v → ⊥

-- Document 02, paper 8, of an accepted call: the estimates of which the demands above speak.
pub record DefaultEstimates (c : Call) : Type 0 where
  -- "Record kind 8 holds one 4-byte estimate for all places that have none of their own", wherever it stands,
  pub given : (x : ℕ) → Memᴰ (default_estimate x) (items_in c) → (v : ℕ) → NoneOfItsOwn c v → (IsGoal (problem c) v → ⊥)
      → (problem c).estimate v ≡ x
  -- "goals excepted, which keep 0";
  pub goals : (g : ℕ) → IsGoal (problem c) g → (problem c).estimate g ≡ 0
  -- an own estimate is kept, one of 0 too,
  pub own : (e : PlaceValue) → Memᴰ (estimate e) (items_in c) → (problem c).estimate e.place ≡ e.value
  -- and without a record of kind 8 a place without its own has 0
  pub none : ((x : ℕ) → Memᴰ (default_estimate x) (items_in c) → ⊥) → (v : ℕ) → NoneOfItsOwn c v → (IsGoal (problem c) v → ⊥)
      → (problem c).estimate v ≡ 0

default_estimates : (c : Call) → IsAccepted c → DefaultEstimates c
unfolding problem_of
default_estimates c A = record {
  given = λ x i v no_own no_goal. left_to_default c.input v no_own no_goal ∙ stated_default c.input _ _ A x i;
  goals = goal_estimate (stated_in c.input);
  own = stated_estimate c.input _ _ A;
  none = λ no_record v no_own no_goal. left_to_default c.input v no_own no_goal ∙ no_default c.input no_record;
}

every_default : (x : ℕ) → x ≤ max_estimate → (c : Call) × IsAccepted c × (default (stated_in c.input) ≡ x)
every_default x small = (
  record { input = put_records (default_records x); work = replicate 16 0; sheet = replicate 12 0; bytes = put_records_is_bytes _ (defaults_fit x small) },
  defaults_accepted x small,
  defaults_stated x small,
)

-- All demands, of a program.
pub record Demands (P : Program) : Type 0 where
  pub demand_1 : (c : Call) (r : Result) → P c r → Demand1 c r
  pub demand_2 : (c : Call) (r : Result) → P c r → IsAccepted c → Demand2 c r
  pub demand_sheets : (b : List ℕ) → Bytes b → DemandSheets P b
  pub demand_3 : Demand3 P
  pub counts_stay : (c : Call) (r : Result) → P c r → CountsStay c r
  pub longer_allowance : LongerAllowance P
  pub lanes_plus_waits : (c : Call) → LanesPlusWaits c
  pub own_factors_lem : (c : Call) → IsAccepted c → OwnFactors c
  -- and each of the tables that pass is in force in some accepted call
  pub every_table : (fs : List ℕ) → IsTable fs → (c : Call) × IsAccepted c × ((stated_in c.input).factors ≡ fs)
  pub default_estimates : (c : Call) → IsAccepted c → DefaultEstimates c
  -- and each default up to the highest estimate is in force in some accepted call
  pub every_default : (x : ℕ) → x ≤ max_estimate → (c : Call) × IsAccepted c × (default (stated_in c.input) ≡ x)

-- They hold of every program that keeps to the definition.
pub demands : (P : Program) → Keeps P → Demands P
demands P keeps = record {
  demand_1 = λ c r g. subst⁻¹ (λ x. Demand1 c x) (keeps.only c r g) (demand_1 c);
  demand_2 = λ c r g A. subst⁻¹ (λ x. Demand2 c x) (keeps.only c r g) (demand_2 c A);
  demand_sheets = demand_sheets P keeps;
  demand_3 = record {
    equal_sheets = λ c d r s g h. demand_3.equal_sheets c d r s (keeps.only c r g) (keeps.only d s h);
    expansions = λ c r g. demand_3.expansions c r (keeps.only c r g);
    some_cheapest = demand_3.some_cheapest;
  };
  counts_stay = λ c r g. subst⁻¹ (λ x. CountsStay c x) (keeps.only c r g) (counts_stay c);
  longer_allowance = record {
    two_allowances = λ a b c d r s g h. longer_allowance.two_allowances a b c d r s (keeps.only c r g) (keeps.only d s h);
    sent_again = longer_allowance.sent_again;
    floor_below = λ c r g. longer_allowance.floor_below c r (keeps.only c r g);
  };
  lanes_plus_waits = lanes_plus_waits;
  own_factors_lem = own_factors_lem;
  every_table = every_table;
  default_estimates = default_estimates;
  every_default = every_default;
}
