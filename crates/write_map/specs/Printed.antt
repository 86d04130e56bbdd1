-- What program `write_map` prints, and on which stream.
use Rattle.std.specs.Prelude.{◌≡◌, cond, List, [], ◌∷◌, ℕ, ◌≤◌, ltb, eqb, length, take, replicate, Result as Counted, Ok, Err}
use Rattle.arrayvec.specs.ArrayVec.{ArrayVec}
use Rattle.model.specs.Answer.{Result}
use Rattle.model.specs.Calls.{written}
use Rattle.map_writer.specs.Call.{write_map}
use Rattle.text.specs.Text.{line, too_long}

-- the bytes on standard output and on standard error
pub record Streams : Type 0 where
  pub out : List ℕ
  pub err : List ℕ

abbrev pub streams : (out err : List ℕ) → Streams
streams out err = record { out = out; err = err }

-- The written map goes to standard output, with nothing else there; the number of a refusal, alone on one line, to standard error.
unfoldable pub streams_of : Result → Streams
streams_of r = cond (eqb r.answer.number 0) (streams (written r) []) (streams [] (line (r.answer.number ∷ [])))

-- memory as for `route`, and an output area as long as the longest input, so that 15 never comes
unfoldable pub answered : List ℕ → Result
answered input = write_map input (replicate 16384 0) (replicate 65536 0)

-- An input is at most 65,536 bytes long, as for `route`.
unfoldable pub printed : List ℕ → Streams
printed input = cond (ltb 65536 (length input)) (streams [] too_long) (streams_of (answered input))

-- All that is to stand anywhere: `Ok` counts its bytes, on standard output, at the front of a text; `Err` has those on standard error.
abbrev pub Holds : Streams → (out : List ℕ) → Counted ℕ (ArrayVec ℕ) → Type 0
Holds s out (Ok n) = (n ≤ length out) × (streams (take n out) [] ≡ s)
Holds s out (Err err) = streams [] err.items ≡ s
