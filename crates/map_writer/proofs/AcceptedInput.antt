-- An input that the writer accepts: what its steps ask, and the result that they come to. Assumes nothing.
use mathlib.Core.Path.{◌≡◌, ap, ◌∙◌}
use mathlib.Core.List.{List}
use Prim.Native.Nat.{ℕ, ◌≤◌, ◌<◌, ◌^◌}
use native.Mathlib.Omega.{arith}
use lib.ListN.{length, replicate}
use lib.Seq.{sets}
use borrow.Author.Tests.{le-ltb}
use Rattle.area.proofs.Sets.{sets-front}
use Rattle.map.specs.declared.Job.{Job}
use Rattle.map.specs.Sizes.{words_of}
use Rattle.model.specs.Framing.{frame}
use Rattle.model.specs.Limits.{max_goals}
use Rattle.model.specs.Stated.{stated_in}
use Rattle.model.specs.Refusals.{work_words, sheet_bytes, short_work, short_sheet, room_rows, first_of, first_that_holds, input_refusal}
use Rattle.model.specs.Answer.{answer, over_front}
use Rattle.model.proofs.Bytes.{u16s-length}
use Rattle.model.proofs.Rows.{refusal_parts}
use Rattle.judge.specs.Judge.{Passes}
use Rattle.judge.proofs.Passing.{sizes}
use Rattle.load.specs.Loaded.{Loadable}
use Rattle.load.proofs.Known.{Known, known, lane_fits}
use Rattle.answer.specs.Numbers.{answer_of}
use Rattle.answer.specs.declared.Answer.{Answer}
use Rattle.map_writer.specs.Canonical.{write}
use Rattle.map_writer.specs.Call.{written_with, write_if, write_map, Wrote}
use Rattle.map_records.specs.Puts.{Put, map_text, Puttable}
use Rattle.map_writer.specs.Steps.{HasRoom, InOrder}
use Rattle.map_writer.proofs.Acceptance.{input_passes, enough_words, enough_bytes}
use Rattle.map_writer.proofs.CanonicalPasses.{few_goals}
use Rattle.map_writer.proofs.WrittenAccepted.{input_passing}
use Rattle.map_writer.proofs.Shorter.{written_shorter}
use Rattle.map_writer.proofs.MapText.{text_written, text_short}

module _ (input : List ℕ) (j : Job) (work output : List ℕ) (has : HasRoom input j work output) where
  abbrev n : ℕ
  n = j.site.places

  abbrev m : ℕ
  m = j.site.arcs

  number : input_refusal (frame input) ≡ 0
  number = input_passes input (length work) (length output) has.writable

  pub passes : Passes input j
  passes = record { number = number; states = has.states }

  pub room : words_of j.site ≤ length work
  room = rw (has.states.places, has.states.arcs) (enough_words input (length work) (length output) has.writable)

  bytes : length input ≤ length output
  bytes = enough_bytes input (length work) (length output) has.writable

  -- a sheet area would be large enough
  pub loadable : Loadable input j work
  unfolding room_rows first_that_holds short_work short_sheet first_of
  loadable =
      let size = (stated_in input).size in
      let work-fits = le-ltb (length work) (work_words size) (enough_words input (length work) (length output) has.writable) in
      let sheet_fits = le-ltb (sheet_bytes size) (sheet_bytes size) (omega arith) in
      record {
        bytes = sheet_bytes size;
        accepted = refusal_parts (frame input) (length work) (sheet_bytes size) ∙ rw (number, work-fits, sheet_fits);
        states = has.states;
      }

  facts : Known input j (length work)
  facts = known input j work loadable

  goals : j.goals ≤ max_goals
  goals =
      let few = few_goals (stated_in input) (input_passing (frame input) number) in
      omega (arith, u16s-length j.goals input j.goals_at, ap length has.states.goals)

  pub text_bound : length (write (stated_in input)) < 2 ^ 32
  text_bound =
      text_short (stated_in input) (omega (arith, (sizes passes).0, has.states.places)) facts.few_lanes
      (few_goals (stated_in input) (input_passing (frame input) number)) (input_passing (frame input) number).table.eight

  -- the lanes are in order in the words w
  module _ (w : List ℕ) (size : length w ≡ length work) (order : InOrder input j.site work w) where
    text : map_text input j w ≡ write (stated_in input)
    text = text_written input j work w has.states (sizes passes).0 (lane_fits facts) (omega (arith, room)) order

    pub puttable : Puttable input j w output
    puttable =
        record {
          few = (sizes passes).0;
          few_lanes = (sizes passes).1;
          words = omega (arith, room);
          factors = has.states.factors.lie;
          goals = record { ends = has.states.goals_end; few = goals };
          room = rw text (omega (arith, written_shorter input number, bytes));
        }

    -- the map is written
    module _ (out : List ℕ) (r : ℕ) (put : Put (map_text input j w) 0 output out r) where
      pub short : r < 2 ^ 32
      short = omega (arith, put.end, ap length text, text_bound)

      pub accepted_wrote : (a : Answer) → answer_of a ≡ answer 0 0 0 0 0 0 r → (after : List ℕ)
          → after ≡ over_front (replicate (words_of j.site) 0) work → Wrote input work output a after out
      unfolding write_map write_if written_with over_front
      accepted_wrote a is after zeros =
          let length-is : r ≡ length (write (stated_in input)) = omega (arith, put.end, ap length text) in
          let fits : length (write (stated_in input)) ≤ length output = omega (arith, written_shorter input number, bytes) in
          let over = put.bytes ∙ ap (λ (t : List ℕ). sets output 0 t) text ∙ sets-front (write (stated_in input)) output fits in
          record { result = rw (has.writable, is, zeros, over, length-is, has.states.places, has.states.arcs) }
