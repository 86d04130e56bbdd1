-- The writer's call as a whole: from the input and the two lent areas to the answer and both areas after it. Document 02, paper 3: "Numbers 1 to
-- 14, 20 and later ones for records apply as to a job; 15 here means an output area shorter than the input. Success gives 0, five zeros and the
-- bytes written; work words and spare bytes are as after a route."
use Rattle.std.specs.Prelude.{◌≡◌, Bool, List, [], ◌∷◌, ◌++◌, ℕ, zero, suc, ltb, length, take, replicate}
use Rattle.model.specs.Framing.{frame}
use Rattle.model.specs.Items.{Size}
use Rattle.model.specs.Stated.{Stated, stated_in}
use Rattle.model.specs.Refusals.{Row, row, short_work, input_rows, first_that_holds, work_words}
use Rattle.model.specs.Answer.{Result, answer, over_front, refused_with}
use Rattle.answer.specs.Numbers.{answer_of, seven}
use Rattle.answer.specs.declared.Answer.{Answer}
use Rattle.map_writer.specs.Canonical.{write}

-- 15: "an output area shorter than the input"
unfoldable pub short_output : (input bytes : ℕ) → Bool
short_output input bytes = ltb bytes input

-- of what is lent to the writer
unfoldable pub output_rows : Size → (input words bytes : ℕ) → List Row
output_rows s input words bytes = row 14 (short_work s words) ∷ row 15 (short_output input bytes) ∷ []

unfoldable pub write_rows : List ℕ → (words bytes : ℕ) → List Row
write_rows input words bytes = input_rows (frame input) ++ output_rows (stated_in input).size (length input) words bytes

unfoldable pub write_refusal : List ℕ → (words bytes : ℕ) → ℕ
write_refusal input words bytes = first_that_holds (write_rows input words bytes)

-- An input is accepted by the writer when no condition holds of it and of the lengths of the lent areas.
abbrev pub Writable : List ℕ → (words bytes : ℕ) → Type 0
Writable input words bytes = write_refusal input words bytes ≡ 0

-- `sheet` is the output area, here and in what follows
unfoldable pub written_with : Stated → (work output : List ℕ) → Result
written_with s work output =
    record {
      answer = answer 0 0 0 0 0 0 (length (write s));
      work = over_front (replicate (work_words s.size) 0) work;
      sheet = over_front (write s) output;
    }

unfoldable pub write_if : ℕ → Stated → (work output : List ℕ) → Result
write_if (suc n) s work output = refused_with (suc n) work output
write_if zero s work output = written_with s work output

unfoldable pub write_map : (input work output : List ℕ) → Result
write_map input work output = write_if (write_refusal input (length work) (length output)) (stated_in input) work output

-- The promise of the public call: answer, work area and output area after it are those of the definition.
pub record Wrote (input work₀ output₀ : List ℕ) (r : Answer) (work output : List ℕ) : Type 0 where
  pub result : ◌≡◌ {A = Result} (record { answer = answer_of r; work = work; sheet = output }) (write_map input work₀ output₀)

-- The same for a host: the number comes back, and the lent words have as many of the seven numbers as there is room for.
pub record WroteFor (input work₀ output₀ answer₀ : List ℕ) (r : ℕ) (work output answer : List ℕ) : Type 0 where
  pub gives : r ≡ (write_map input work₀ output₀).answer.number
  pub leaves_work : work ≡ (write_map input work₀ output₀).work
  pub leaves_output : output ≡ (write_map input work₀ output₀).sheet
  pub leaves_answer : answer ≡ over_front (take (length answer₀) (seven (write_map input work₀ output₀).answer)) answer₀
