-- What a call gives back and leaves: refused, spent, no route or a route. Assumes nothing.
use mathlib.Core.Path.{◌≡◌, refl, sym, ap, ◌∙◌}
use mathlib.Core.Logic.{◌⊎◌, inl, inr}
use mathlib.Core.Bool.{true}
use mathlib.Core.List.{List, [], ◌∷◌, ◌++◌, Memᴰ}
use Prim.Native.Nat.{ℕ, zero, suc, ◌≤◌, ◌<◌}
use native.Mathlib.Omega.{arith}
use lib.Dec.{eqb}
use lib.ListN.{length, take}
use lib.Seq.{take-append_seam}
use borrow.Author.Tests.{eqb-false}
use Rattle.model.specs.Bytes.{Bytes}
use Rattle.model.specs.Framing.{frame}
use Rattle.model.specs.Limits.{max_places}
use Rattle.model.specs.Problem.{Problem, Valid}
use Rattle.model.specs.Paths.{GoalReachable, FirstCheapest, FirstWithin, Admissible}
use Rattle.model.specs.Refusals.{Row, rows, first_that_holds, refusal, work_words, Accepted}
use Rattle.model.specs.Costs.{table}
use Rattle.model.specs.Rounds.{trace, total, never_spent}
use Rattle.model.specs.Routes.{first_route}
use Rattle.model.specs.Sheets.{route_sheet, no_route_sheet, reading, read_sheet}
use Rattle.model.specs.Endings.{Ending, spent, no_route, routed, Engine, budgeted}
use Rattle.model.specs.Answer.{answer, sheet_of, answer_of, over_front, Result, refused_with, ended_with, call_if, call, route}
use Rattle.model.specs.Calls.{Call, result, problem, allowance, IsAccepted, written, Spent, Alike}
use Rattle.model.proofs.Lists.{any_false}
use Rattle.model.proofs.Rows.{NoneHolds, first_given, none-given, rows_numbered, no_refusal_16}
use Rattle.model.proofs.Acceptance.{accepted_valid}
use Rattle.model.proofs.Total.{total_at_most}
use Rattle.model.proofs.Routes.{first_cheapest_unique}
use Rattle.model.proofs.LeastPaths.{route_within}
use Rattle.model.proofs.Admissible.{route_first_cheapest}
use Rattle.model.proofs.Sheets.{Possible, route_read_back, no_route_read_back, same_route_sheet, same_no_route_sheet, different_kinds}
use Rattle.model.proofs.RouteSheets.{route_possible}
use Rattle.model.proofs.Endings.{IsSpent, IsNoRoute, IsRouted, Ends, spent_ends, none_ends, route_ends, budgeted_ends}
use Rattle.model.specs.Stated.{stated_in}

-- ---- A refused call

module _ (input work sheet : List ℕ) where
  refused_call : (engine : Engine) (n : ℕ) → (n ≡ 0 → ⊥) → refusal (frame input) (length work) (length sheet) ≡ n
      → call engine input work sheet ≡ refused_with n work sheet
  unfolding call call_if
  refused_call engine zero above e = absurd (above refl)
  refused_call engine (suc n) above e = rw e

  -- the first row that holds refuses the call
  pub row_refuses : (earlier : List Row) (n : ℕ) (later : List Row)
      → rows (frame input) (length work) (length sheet) ≡ earlier ++ (record { number = n; holds = true } ∷ later)
      → NoneHolds earlier → route input work sheet ≡ refused_with n work sheet
  unfolding refusal
  row_refuses earlier n later e fails =
      let all = rows (frame input) (length work) (length sheet) in
      let is_row : Memᴰ (record { number = n; holds = true }) all = rw e (mathlib.Core.List.Memᴰ.append_right earlier (mathlib.Core.List.Memᴰ.head refl)) in
      let numbered = any_false (λ (s : Row). eqb s.number 0) all (rows_numbered (frame input) (length work) (length sheet)) _ is_row in
      refused_call budgeted n (eqb-false n 0 numbered) (ap first_that_holds e ∙ first_given earlier n later fails)

  -- where no row holds the call is accepted
  pub no_row_accepts : NoneHolds (rows (frame input) (length work) (length sheet)) → Accepted input (length work) (length sheet)
  unfolding refusal
  no_row_accepts fails = none-given (rows (frame input) (length work) (length sheet)) fails

-- ---- An accepted call

-- the result is that of a search which ended so
pub record EndsAs (e : Ending) (r : Result) : Type 0 where
  pub answer_is : r.answer ≡ answer_of e
  pub on_sheet : written r ≡ sheet_of e

-- what is written over the front of an area is at its front
front_written : (new area : List ℕ) → take (length new) (over_front new area) ≡ new
unfolding over_front
front_written new area = take-append_seam new _

ended_comes : (e : Ending) (words : ℕ) (work sheet : List ℕ) → EndsAs e (ended_with e words work sheet)
unfolding ended_with answer_of sheet_of
ended_comes (spent e) words work sheet = record { answer_is = refl; on_sheet = refl }
ended_comes (no_route e) words work sheet = record { answer_is = refl; on_sheet = front_written (no_route_sheet e.start) sheet }
ended_comes (routed e) words work sheet = record { answer_is = refl; on_sheet = front_written (route_sheet e.cost e.places) sheet }

-- an accepted call comes to what its engine ends with
pub accepted_call : (engine : Engine) (c : Call) → IsAccepted c
    → call engine c.input c.work c.sheet
    ≡ ended_with (engine (problem c) (allowance c)) (work_words (stated_in c.input).size) c.work c.sheet
unfolding call call_if
accepted_call engine c A = rw A

abbrev pub ending_of : Call → Ending
ending_of c = budgeted (problem c) (allowance c)

pub comes : (c : Call) → IsAccepted c → EndsAs (ending_of c) (result c)
comes c A = rw (accepted_call budgeted c A) (ended_comes (ending_of c) (work_words (stated_in c.input).size) c.work c.sheet)

pub valid : (c : Call) → IsAccepted c → Valid (problem c)
valid c A = accepted_valid c.input (length c.work) (length c.sheet) A

pub ends : (c : Call) → IsAccepted c → Ends (problem c) (allowance c) (ending_of c)
ends c A = budgeted_ends (problem c) (allowance c) (valid c A)

-- the number with which the call is refused, 0 where it is accepted
abbrev pub refusal_of : Call → ℕ
refusal_of c = refusal (frame c.input) (length c.work) (length c.sheet)

-- calls that are refused alike and end alike have the same numbers and the same sheet
pub same_calls : (c d : Call) → refusal_of c ≡ refusal_of d → (IsAccepted c → ending_of c ≡ ending_of d) → Alike (result c) (result d)
unfolding call call_if refused_with
same_calls c d same ends_same = go (refusal_of c) refl
  where
    go : (n : ℕ) → refusal_of c ≡ n → Alike (result c) (result d)
    go zero e =
        let one = comes c e in
        let other = comes d (sym same ∙ e) in
        record {
          numbers = one.answer_is ∙ ap answer_of (ends_same e) ∙ sym other.answer_is;
          sheets = one.on_sheet ∙ ap sheet_of (ends_same e) ∙ sym other.on_sheet;
        }
    go (suc n) e = rw (← same, e) record { numbers = refl; sheets = refl }

-- Numbers and sheet depend on the lengths of the lent areas, and not on what they hold.
pub lengths_decide : (input : List ℕ) → Bytes input → (work work' sheet sheet' : List ℕ) → length work ≡ length work' → length sheet ≡ length sheet'
    → Alike (route input work sheet) (route input work' sheet')
lengths_decide input B work work' sheet sheet' words bytes =
    same_calls (record { input = input; work = work; sheet = sheet; bytes = B }) (record { input = input; work = work'; sheet = sheet'; bytes = B })
    (rw (words, bytes)) (λ A. refl)

-- only an accepted call spends its allowance
pub spent_accepted : (c : Call) → Spent (result c) → IsAccepted c
unfolding call call_if refused_with
spent_accepted c is-spent = go (refusal_of c) refl
  where
    go : (n : ℕ) → refusal_of c ≡ n → IsAccepted c
    go zero e = e
    go (suc n) e = absurd (no_refusal_16 (frame c.input) (length c.work) (length c.sheet) (e ∙ (rw e at is-spent)))

-- ---- What each ending is in the answer

module _ {p : Problem} {a : ℕ} {e : Ending} {r : Result} (comes : EndsAs e r) where
  pub spent_answer : (s : IsSpent p a e) → r.answer ≡ answer 16 0 0 s.cut.round.low a s.queries 0
  unfolding answer_of
  spent_answer s = comes.answer_is ∙ ap answer_of s.is

  pub none-answer : (n : IsNoRoute p a e)
      → r.answer ≡ answer 17 0 n.last.limit 0 (total (trace p)) (length (trace p)) (length (no_route_sheet p.start))
  unfolding answer_of
  none-answer n = comes.answer_is ∙ ap answer_of n.is

  pub none_sheet_is : IsNoRoute p a e → written r ≡ no_route_sheet p.start
  unfolding sheet_of
  none_sheet_is n = comes.on_sheet ∙ ap sheet_of n.is

  -- the places of the route
  abbrev pub places_of : IsRouted p a e → List ℕ
  places_of f = first_route p (table p f.last.limit) f.goal

  pub route_answer : (f : IsRouted p a e)
      → r.answer
      ≡ answer 0 f.goal.cost f.last.limit 0 (total (trace p)) (length (trace p)) (length (route_sheet f.goal.cost (places_of f)))
  unfolding answer_of
  route_answer f = comes.answer_is ∙ ap answer_of f.is

  pub route_sheet_is : (f : IsRouted p a e) → written r ≡ route_sheet r.answer.cost (places_of f)
  unfolding sheet_of
  route_sheet_is f = comes.on_sheet ∙ ap sheet_of f.is ∙ rw (route_answer f)

  -- the number tells which ending it is
  pub spent_by_number : Ends p a e → r.answer.number ≡ 16 → IsSpent p a e
  spent_by_number (spent_ends s) h = s
  spent_by_number (none_ends n) h = absurd (omega (arith, rw (none-answer n) at h))
  spent_by_number (route_ends f) h = absurd (omega (arith, rw (route_answer f) at h))

  pub none_by_number : Ends p a e → r.answer.number ≡ 17 → IsNoRoute p a e
  none_by_number (spent_ends s) h = absurd (omega (arith, rw (spent_answer s) at h))
  none_by_number (none_ends n) h = n
  none_by_number (route_ends f) h = absurd (omega (arith, rw (route_answer f) at h))

  pub route_by_number : Ends p a e → r.answer.number ≡ 0 → IsRouted p a e
  route_by_number (spent_ends s) h = absurd (omega (arith, rw (spent_answer s) at h))
  route_by_number (none_ends n) h = absurd (omega (arith, rw (none-answer n) at h))
  route_by_number (route_ends f) h = f

  pub ends_number : Ends p a e → (r.answer.number ≡ 0) ⊎ ((r.answer.number ≡ 16) ⊎ (r.answer.number ≡ 17))
  ends_number (spent_ends s) = rw (spent_answer s) (inr (inl refl))
  ends_number (none_ends n) = rw (none-answer n) (inr (inr refl))
  ends_number (route_ends f) = rw (route_answer f) (inl refl)

  pub none_if_unreachable : Ends p a e → (r.answer.number ≡ 16 → ⊥) → (GoalReachable p → ⊥) → IsNoRoute p a e
  none_if_unreachable (spent_ends s) unspent h = absurd (unspent (rw (spent_answer s)))
  none_if_unreachable (none_ends n) unspent h = n
  none_if_unreachable (route_ends f) unspent h = absurd (h f.reachable)

  pub unspent_expansions : Ends p a e → (r.answer.number ≡ 16 → ⊥) → r.answer.expansions ≡ total (trace p)
  unspent_expansions (spent_ends s) unspent = absurd (unspent (rw (spent_answer s)))
  unspent_expansions (none_ends n) unspent = rw (none-answer n)
  unspent_expansions (route_ends f) unspent = rw (route_answer f)

  pub expansions_at_most : Ends p a e → r.answer.expansions ≤ total (trace p)
  expansions_at_most (spent_ends s) = rw (spent_answer s) (omega (arith, s.exceeds))
  expansions_at_most (none_ends n) = rw (none-answer n) (omega arith)
  expansions_at_most (route_ends f) = rw (route_answer f) (omega arith)

  -- both sheets are read back as they were written
  pub none_read_back : Valid p → IsNoRoute p a e → read_sheet (written r) ≡ reading 17 0 (p.start ∷ [])
  none_read_back ok n = ap read_sheet (none_sheet_is n) ∙ no_route_read_back p.start (omega (arith, ok.start_below, ok.few_places_lem))

  pub route_reads_back : Valid p → (f : IsRouted p a e) → read_sheet (written r) ≡ reading 0 r.answer.cost (places_of f)
  route_reads_back ok f =
      let possible = route_possible p ok f.last.limit f.goal f.is_first in
      ap read_sheet (route_sheet_is f) ∙ rw (route_answer f) (route_read_back f.goal.cost (places_of f) possible)

  -- the route, under any estimates and where none overstates
  pub first_within : Valid p → (f : IsRouted p a e) → FirstWithin p r.answer.limit r.answer.cost (places_of f)
  first_within ok f = rw (route_answer f) (route_within p ok f.last.limit f.goal f.is_first)

  pub first_cheapest : Valid p → Admissible p → (f : IsRouted p a e) → FirstCheapest p r.answer.cost (places_of f)
  first_cheapest ok h f = rw (route_answer f) (route_first_cheapest p ok h f.last.limit f.goal f.is_first)

-- the allowance and whether a goal can be reached tell the ending too
module _ {p : Problem} {a : ℕ} {e : Ending} where
  pub spent_if_exceeded : Ends p a e → a < total (trace p) → IsSpent p a e
  spent_if_exceeded (spent_ends s) h = s
  spent_if_exceeded (none_ends n) h = absurd (omega (arith, n.lasts_to.lasts))
  spent_if_exceeded (route_ends f) h = absurd (omega (arith, f.lasts_to.lasts))

  pub route_if_reachable : Ends p a e → total (trace p) ≤ a → GoalReachable p → IsRouted p a e
  route_if_reachable (spent_ends s) lasts h = absurd (omega (arith, s.exceeds))
  route_if_reachable (none_ends n) lasts h = absurd (n.unreachable h)
  route_if_reachable (route_ends f) lasts h = f

  -- an allowance that is never spent lasts
  pub never_spent_lem : Valid p → never_spent p ≤ a → IsSpent p a e → ⊥
  unfolding never_spent
  never_spent_lem ok ample s = omega (arith, s.exceeds, total_at_most p ok)

-- ---- What sheets say of problems

module _ (p : Problem) (sheet : List ℕ) where
  -- the sheet holds the first cheapest route
  pub record SaysRoute : Type 0 where
    pub cost : ℕ
    pub places : List ℕ
    pub first : FirstCheapest p cost places
    pub possible : Possible cost places
    pub on_sheet : sheet ≡ route_sheet cost places

  -- the sheet holds the start, and there is no route
  pub record SaysNone : Type 0 where
    pub unreachable : GoalReachable p → ⊥
    pub start_below : p.start < max_places
    pub on_sheet : sheet ≡ no_route_sheet p.start

abbrev pub SheetSays : Problem → List ℕ → Type 0
SheetSays p sheet = SaysRoute p sheet ⊎ SaysNone p sheet

-- with an allowance that is never spent and no estimate that overstates the sheet says the one or the other
pub sheet_says : {p : Problem} {a : ℕ} {e : Ending} {r : Result} → EndsAs e r → Valid p → Ends p a e → never_spent p ≤ a → Admissible p
    → SheetSays p (written r)
sheet_says k ok (spent_ends s) ample h = absurd (never_spent_lem ok ample s)
sheet_says {p} k ok (none_ends n) ample h =
    let below : p.start < max_places = omega (arith, ok.start_below, ok.few_places_lem) in
    inr (record { unreachable = n.unreachable; start_below = below; on_sheet = none_sheet_is k n })
sheet_says {p} {r = r} k ok (route_ends f) ample h =
    let possible : Possible r.answer.cost (places_of k f) =
    rw (route_answer k f) (route_possible p ok f.last.limit f.goal f.is_first) in
    inl (record {
      cost = r.answer.cost;
      places = places_of k f;
      first = first_cheapest k ok h f;
      possible = possible;
      on_sheet = route_sheet_is k f;
    })

-- a problem with a first cheapest route has a goal that can be reached
first_reachable : {p : Problem} {c : ℕ} {r : List ℕ} → FirstCheapest p c r → GoalReachable p
first_reachable {c = c} f =
    let route = f.first.member.member in
    record { goal = route.goal; is_goal = route.is_goal; reachable = record { cost = c; path = route.path } }

-- so the first cheapest route decides the sheet,
pub first_sheet : {p : Problem} {sheet : List ℕ} {c : ℕ} {r : List ℕ} → Valid p → SheetSays p sheet → FirstCheapest p c r → sheet ≡ route_sheet c r
first_sheet {p} {c = c} {r = r} ok (inl s) f =
    let same = first_cheapest_unique p s.cost c s.places r s.first f in
    s.on_sheet ∙ rw (same.0, same.1)
first_sheet ok (inr n) f = absurd (n.unreachable (first_reachable f))

-- and the start where there is none
pub none_sheet : {p : Problem} {sheet : List ℕ} → SheetSays p sheet → (GoalReachable p → ⊥) → sheet ≡ no_route_sheet p.start
none_sheet (inl s) h = absurd (h (first_reachable s.first))
none_sheet (inr n) h = n.on_sheet

module _ {p q : Problem} {s t : List ℕ} (same : s ≡ t) where
  -- equal sheets hold the same route,
  pub equal_routes : (x : SaysRoute p s) → SaysRoute q t → FirstCheapest q x.cost x.places
  equal_routes x y =
      let sheets = sym x.on_sheet ∙ same ∙ y.on_sheet in
      let e = same_route_sheet x.cost y.cost x.places y.places x.possible y.possible sheets in
      rw (e.0, e.1) y.first

  -- or the same start,
  pub equal_starts : SaysNone p s → SaysNone q t → p.start ≡ q.start
  equal_starts x y = same_no_route_sheet p.start q.start x.start_below y.start_below (sym x.on_sheet ∙ same ∙ y.on_sheet)

  -- and never the one a route and the other a start
  pub never_equal : SaysRoute p s → SaysNone q t → ⊥
  never_equal x y = different_kinds x.cost x.places q.start (sym x.on_sheet ∙ same ∙ y.on_sheet)
