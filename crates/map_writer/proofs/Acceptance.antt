-- What it means that the writer accepts an input, and when it does. Assumes nothing.
use mathlib.Core.Path.{◌≡◌, refl, sym, ◌∙◌}
use mathlib.Core.List.{List}
use Prim.Native.Nat.{ℕ, zero, suc, ◌≤◌}
use native.Mathlib.Omega.{arith}
use lib.ListN.{length}
use borrow.Author.Tests.{ltb-false, le-ltb}
use Rattle.model.specs.Lists.{any}
use Rattle.model.specs.Framing.{frame}
use Rattle.model.specs.Stated.{Stated, stated_in}
use Rattle.model.specs.Refusals.{work_words, short_work, form_rows, size_rows, map_rows, factor_rows, cost_rows, job_rows, input_rows}
use Rattle.model.specs.Refusals.{first_of, first_that_holds, holds_at, input_refusal}
use Rattle.model.specs.Answer.{refused_with}
use Rattle.model.proofs.Rows.{Numbered, row_fails, input_numbered, groups}
use Rattle.map_writer.specs.Call.{short_output, output_rows, write_rows, write_refusal, Writable, written_with, write_if}

-- the call's number is that of its refusal
pub number_given : (n : ℕ) (s : Stated) (work output : List ℕ) → (write_if n s work output).answer.number ≡ n
unfolding write_if refused_with written_with
number_given zero s work output = refl
number_given (suc n) s work output = refl

-- the writer adds the rows of what is lent to it
pub write_parts : (input : List ℕ) (words bytes : ℕ)
    → write_refusal input words bytes
    ≡ first_of (input_refusal (frame input)) (first_that_holds (output_rows (stated_in input).size (length input) words bytes))
unfolding write_refusal write_rows input_refusal
write_parts input words bytes =
    groups (input_rows (frame input)) (output_rows (stated_in input).size (length input) words bytes) (input_numbered (frame input))

write_numbered : (input : List ℕ) (words bytes : ℕ) → Numbered (write_rows input words bytes)
unfolding write_rows output_rows input_rows form_rows size_rows map_rows factor_rows cost_rows job_rows any
write_numbered input words bytes = refl

first-none : (a b : ℕ) → first_of a b ≡ 0 → a ≡ 0
unfolding first_of
first-none zero b e = refl
first-none (suc a) b e = absurd (omega arith)

module _ (input : List ℕ) (words bytes : ℕ) where
  module _ (ok : Writable input words bytes) where
    pub input_passes : input_refusal (frame input) ≡ 0
    input_passes = first-none _ _ (sym (write_parts input words bytes) ∙ ok)

    pub enough_words : work_words (stated_in input).size ≤ words
    unfolding write_refusal write_rows output_rows input_rows form_rows size_rows map_rows factor_rows cost_rows job_rows holds_at short_work
    enough_words = ltb-false words _ (row_fails (write_rows input words bytes) (write_numbered input words bytes) ok 14)

    pub enough_bytes : length input ≤ bytes
    unfolding write_refusal write_rows output_rows input_rows form_rows size_rows map_rows factor_rows cost_rows job_rows holds_at short_output
    enough_bytes = ltb-false bytes _ (row_fails (write_rows input words bytes) (write_numbered input words bytes) ok 15)

  pub writable_by : input_refusal (frame input) ≡ 0 → work_words (stated_in input).size ≤ words → length input ≤ bytes → Writable input words bytes
  unfolding output_rows first_that_holds first_of short_work short_output
  writable_by passes words-fit bytes_fit =
      write_parts input words bytes ∙ rw (passes, le-ltb words (work_words (stated_in input).size) words-fit, le-ltb bytes (length input) bytes_fit)
