-- From the loaded problem and the verdict on it to the result of the call. Assumes nothing.
use mathlib.Core.Path.{◌≡◌, sym, ap, ◌∙◌}
use mathlib.Core.Bool.{◌||◌}
use mathlib.Core.List.{List}
use Prim.Native.Nat.{ℕ, ◌≤◌}
use native.Mathlib.Omega.{arith}
use lib.Dec.{ltb}
use lib.ListN.{length, take, replicate, length-replicate}
use borrow.Author.Tests.{ltb-false}
use Rattle.map.specs.Sizes.{words_of, bytes_of}
use Rattle.map.specs.declared.Job.{Job}
use Rattle.map.specs.declared.Site.{Site}
use Rattle.layout.specs.Regions.{arcs_at}
use Rattle.layout.specs.Map.{problem_at}
use Rattle.load.specs.Loaded.{Loaded}
use Rattle.model.specs.Framing.{frame}
use Rattle.model.specs.Limits.{max_places, max_arcs}
use Rattle.model.specs.Problem.{Valid}
use Rattle.model.specs.Stated.{stated, stated_in, problem_of}
use Rattle.model.specs.Refusals.{wrong_size, short_work, short_sheet, form_rows, size_rows, map_rows, factor_rows, cost_rows, job_rows, input_rows, room_rows, rows}
use Rattle.model.specs.Refusals.{holds_at, refusal}
use Rattle.model.specs.Endings.{Ending, budgeted}
use Rattle.model.specs.Answer as model
use Rattle.model.specs.Answer.{Result, sheet_of, over_front, ended_with, call_if, call}
use Rattle.model.proofs.Lists.{neither}
use Rattle.model.proofs.Rows.{row_fails, rows_numbered}
use Rattle.model.proofs.Acceptance.{accepted_valid}
use Rattle.model.proofs.Same.{same_ending}
use Rattle.search.specs.Rounds.{Means, Searched}
use Rattle.search.specs.declared.Verdict.{Verdict}
use Rattle.search.specs.declared.Verdict.TheVariants.{Spent, NoRoute}
use Rattle.search.specs.declared.Verdict.TheVariants as verdict
use Rattle.answer.specs.Numbers.{answer_of, seven}
use Rattle.answer.specs.declared.Answer.{Answer}
use Rattle.router.specs.Call.{Routed, RoutedFor}
use Rattle.router.specs.Steps.{HasRoom, Writable, Written, numbers_of, Concludable, Concluded}
use Rattle.router.proofs.Counting.{routed_possible, follows_few}
use Rattle.router.proofs.Words.{rest_kept}

-- ---- Any verdict, concluded

-- the numbers of a verdict are those of its ending
numbers_mean : (s : Site) (work : List ℕ) (v : Verdict) (e : Ending) → Means s work v e → numbers_of v (length (sheet_of e)) ≡ model.answer_of e
unfolding model.answer_of sheet_of
numbers_mean s work (Spent v) e m = rw m
numbers_mean s work (NoRoute v) e m = rw m
numbers_mean s work (verdict.Routed v) e (r, m, follows) = rw m

-- its sheet is written, the front of the work area is zero, and its numbers are told
pub concluded : {s : Site} {v : Verdict} {work₀ sheet₀ work sheet : List ℕ} {bytes : ℕ} {r : Answer}
    → Written s v work₀ sheet₀ bytes sheet → work ≡ over_front (replicate (words_of s) 0) work₀ → answer_of r ≡ numbers_of v bytes
    → Concluded s v work₀ sheet₀ r work sheet
unfolding ended_with
concluded {s} {v} {work₀} w clear is =
    record {
      result = λ e m.
          rw (clear, w.over_front_lem e m, is ∙ ap (numbers_of v) (w.sheet_bytes e m) ∙ numbers_mean s work₀ v e m);
    }

-- ---- An accepted input

-- what its job states, its areas have room for
module _ {input work₀ sheet₀ : List ℕ} {j : Job} (s : HasRoom input j work₀ sheet₀) where
  pub enough_words : words_of j.site ≤ length work₀
  unfolding rows input_rows form_rows size_rows map_rows factor_rows cost_rows job_rows room_rows holds_at refusal short_work
  enough_words =
      let f = frame input in
      let no = row_fails (rows f (length work₀) (length sheet₀)) (rows_numbered f (length work₀) (length sheet₀)) s.accepted in
      rw (s.states.places, s.states.arcs) (ltb-false _ _ (no 14))

  enough_bytes : bytes_of j.site ≤ length sheet₀
  unfolding rows input_rows form_rows size_rows map_rows factor_rows cost_rows job_rows room_rows holds_at refusal short_sheet
  enough_bytes =
      let f = frame input in
      let no = row_fails (rows f (length work₀) (length sheet₀)) (rows_numbered f (length work₀) (length sheet₀)) s.accepted in
      rw s.states.places (ltb-false _ _ (no 15))

  few_arcs : j.site.arcs ≤ max_arcs
  unfolding rows input_rows form_rows size_rows map_rows factor_rows cost_rows job_rows room_rows holds_at refusal wrong_size
  few_arcs =
      let f = frame input in
      let no = row_fails (rows f (length work₀) (length sheet₀)) (rows_numbered f (length work₀) (length sheet₀)) s.accepted in
      let n = (stated f.records).size.places in
      let m = (stated f.records).size.arcs in
      let range = (neither (ltb n 1 || ltb max_places n || ltb max_arcs m) _ (no 5)).0 in
      rw s.states.arcs (ltb-false max_arcs m (neither (ltb n 1 || ltb max_places n) _ range).1)

-- a verdict's sheet can be written: its route, where it is one, has 1 to n places
searched_writable : {s : Site} {allowance : ℕ} {loaded work : List ℕ} (v : Verdict) (sheet : List ℕ) → Valid (problem_at s loaded)
    → Searched s allowance loaded work v → arcs_at s.places ≤ length work → bytes_of s ≤ length sheet → Writable s v work sheet
unfolding problem_at
searched_writable (Spent v) sheet ok s words room = tt
searched_writable (NoRoute v) sheet ok s words room = record { room = omega arith }
searched_writable {s} {allowance} {loaded = loaded} (verdict.Routed v) sheet ok found words room =
    let (r, is, follows) = found.means in
    let can_be = routed_possible (problem_at s loaded) ok allowance is in
    let few = follows_few follows can_be.different in
    record { leads = record { few = ok.few_places_lem; words = words; places = r; follows = follows; few_places_lem = few }; room = room }

module _ {input work₀ sheet₀ loaded work : List ℕ} {j : Job} {v : Verdict}
    (s : HasRoom input j work₀ sheet₀)
    (l : Loaded input j.site work₀ loaded)
    (found : Searched j.site j.allowance loaded work v) where
  -- loading and searching have kept the length of the work area
  pub concludable : length loaded ≡ length work₀ → length work ≡ length loaded → Concludable j.site v work sheet₀
  unfolding problem_at
  concludable e f =
      record {
        writable = searched_writable v sheet₀ l.holds.valid found (omega (arith, l.holds.room)) (enough_bytes s);
        few = l.holds.valid.few_places_lem;
        few_arcs = few_arcs s;
        room = omega (arith, enough_words s);
      }

  -- the call ends as the search of the loaded problem does
  loaded_ending : budgeted (problem_of (stated_in input)) (stated_in input).job.allowance
      ≡ budgeted (problem_at j.site loaded) j.allowance
  loaded_ending =
      let ok = accepted_valid input (length work₀) (length sheet₀) s.accepted in
      let p = problem_of (stated_in input) in
      ap (budgeted p) (sym s.states.allowance) ∙ same_ending p _ ok l.holds.valid l.same j.allowance

  -- the words beyond those that the map asks for are as at the entry
  front_zero : over_front (replicate (words_of j.site) 0) work ≡ over_front (replicate (words_of j.site) 0) work₀
  unfolding over_front
  front_zero = rw (length-replicate {A = ℕ} (words_of j.site) 0, rest_kept l found)

  pub accepted_routed : {sheet after : List ℕ} {r : Answer} → Concluded j.site v work sheet₀ r after sheet
      → Routed input work₀ sheet₀ r after sheet
  unfolding call call_if ended_with
  accepted_routed c =
      let e = budgeted (problem_at j.site loaded) j.allowance in
      record {
        result = c.result e found.means
            ∙ rw (s.accepted, loaded_ending, ← s.states.places, ← s.states.arcs, front_zero);
      }

-- The same for a host, where the seven numbers go into the lent words.
pub routed_for : {input work₀ sheet₀ work sheet : List ℕ} {r : Answer} → Routed input work₀ sheet₀ r work sheet → (answer₀ answer : List ℕ)
    → answer ≡ over_front (take (length answer₀) (seven (answer_of r))) answer₀
    → RoutedFor input work₀ sheet₀ answer₀ r.number work sheet answer
routed_for routed answer₀ answer e =
    record {
      gives = ap (λ (x : Result). x.answer.number) routed.result;
      leaves_work = ap (λ (x : Result). x.work) routed.result;
      leaves_sheet = ap (λ (x : Result). x.sheet) routed.result;
      leaves_answer = e ∙ ap (λ (x : Result). over_front (take (length answer₀) (seven x.answer)) answer₀) routed.result;
    }
