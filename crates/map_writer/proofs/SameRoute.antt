-- A call with the written map comes to what one with the input comes to: the canonical form is the same problem. Assumes nothing.
use mathlib.Core.Path.{◌≡◌, refl, sym, ap, ap₂, ◌∙◌}
use mathlib.Core.List.Memᴰ
use mathlib.Core.List.{List}
use Prim.Native.Nat.{ℕ, zero, suc}
use lib.ListN.{length}
use Rattle.model.specs.Bytes.{Bytes}
use Rattle.model.specs.Framing.{frame}
use Rattle.model.specs.Problem.{Valid}
use Rattle.model.specs.Items.{Size}
use Rattle.model.specs.Stated.{Stated, stated_in, arc_of, problem_of}
use Rattle.model.specs.Refusals.{work_words, room_rows, first_that_holds, first_of, refusal, input_refusal, Accepted}
use Rattle.model.specs.Endings.{Ending, budgeted}
use Rattle.model.specs.Answer.{ended_with, call_if, call, route}
use Rattle.model.specs.Calls.{Alike}
use Rattle.model.specs.Terms.{SameProblem}
use Rattle.model.proofs.Rows.{refusal_parts}
use Rattle.model.proofs.Acceptance.{accepted_valid}
use Rattle.model.proofs.Same.{same_ending}
use Rattle.model.proofs.Promises.{lengths_decide}
use Rattle.sort.proofs.SortLaws.{sort_member}
use Rattle.map_writer.specs.Order.{no_later}
use Rattle.map_writer.specs.Canonical.{canonical, write}
use Rattle.map_writer.proofs.PlaceValues.{ValuesInside, canonical_estimate, canonical_arc}
use Rattle.map_writer.proofs.CanonicalPasses.{values_inside}
use Rattle.map_writer.proofs.WrittenAccepted.{input_passing, written_states, written_passes}

-- the canonical form states the same problem
pub canonical_problem : (s : Stated) → ValuesInside s → SameProblem (problem_of s) (problem_of (canonical s))
unfolding problem_of canonical
canonical_problem s inside =
    let sorted = sort_member (no_later s.factors) s.lanes in
    record {
      places = refl;
      estimate = λ v below. sym (canonical_estimate s inside v);
      start = refl;
      growth = refl;
      arc_to = λ a i.
          let (l, j, is) = Memᴰ.of_map (arc_of s) s.lanes i in
          rw (← is, ← canonical_arc s inside l) (Memᴰ.map (arc_of (canonical s)) ((sorted l).1 j));
      arc_from = λ a i.
          let (l, j, is) = Memᴰ.of_map (arc_of (canonical s)) (canonical s).lanes i in
          rw (← is, canonical_arc s inside l) (Memᴰ.map (arc_of s) ((sorted l).0 j));
      goal_to = λ g i. i;
      goal_from = λ g i. i;
    }

module _ (input : List ℕ) (B : Bytes input) (passes : input_refusal (frame input) ≡ 0) where
  abbrev s : Stated
  s = stated_in input

  abbrev b : List ℕ
  b = write s

  canonical_size : (canonical s).size ≡ s.size
  unfolding canonical
  canonical_size = refl

  -- both are refused alike, whatever the lengths of the areas
  pub written_refusal : (words bytes : ℕ) → refusal (frame b) words bytes ≡ refusal (frame input) words bytes
  written_refusal words bytes =
      let size : (stated_in b).size ≡ s.size = ap (λ (t : Stated). t.size) (written_states input B passes) ∙ canonical_size in
      refusal_parts (frame b) words bytes
      ∙ ap₂ (λ (n : ℕ) (x : Size). first_of n (first_that_holds (room_rows x words bytes))) (written_passes input B passes ∙ sym passes) size
      ∙ sym (refusal_parts (frame input) words bytes)

  -- and end alike under every allowance
  same_end : (words bytes : ℕ) → Accepted input words bytes → (a : ℕ) → budgeted (problem_of s) a ≡ budgeted (problem_of (canonical s)) a
  same_end words bytes A =
      let valid = accepted_valid input words bytes A in
      let also = accepted_valid b words bytes (written_refusal words bytes ∙ A) in
      let fine : Valid (problem_of (canonical s)) = rw (written_states input B passes) at also in
      let same = canonical_problem s (values_inside s (input_passing (frame input) passes)) in
      same_ending (problem_of s) (problem_of (canonical s)) valid fine same

  -- with the same areas the call comes to the same
  pub written_route : (work sheet : List ℕ) → route b work sheet ≡ route input work sheet
  unfolding call call_if canonical
  written_route work sheet =
      ap₂ (λ (n : ℕ) (t : Stated). call_if n budgeted t work sheet) (written_refusal (length work) (length sheet)) (written_states input B passes)
      ∙ go (refusal (frame input) (length work) (length sheet)) refl
    where
      go : (n : ℕ) → refusal (frame input) (length work) (length sheet) ≡ n
          → call_if n budgeted (canonical s) work sheet ≡ call_if n budgeted s work sheet
      go zero e =
          let end = same_end (length work) (length sheet) e s.job.allowance in
          ap (λ (x : Ending). ended_with x (work_words s.size) work sheet) (sym end)
      go (suc n) e = refl

  -- with others of the same lengths the answer and the sheet are the same
  pub written_routes : (work work' sheet sheet' : List ℕ) → length work ≡ length work' → length sheet ≡ length sheet'
      → Alike (route b work' sheet') (route input work sheet)
  written_routes work work' sheet sheet' words bytes = rw written_route (lengths_decide input B work' work sheet' sheet (sym words) (sym bytes))
