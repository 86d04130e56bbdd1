-- What the writer's call gives the two streams, and what is printed of an input. Assumes nothing.
use mathlib.Core.Path.{◌≡◌, refl, sym, ap, ◌∙◌}
use mathlib.Core.List.{List, [], ◌∷◌}
use Prim.Native.Nat.{ℕ, zero, suc, ◌≤◌, ◌<◌}
use native.Mathlib.Omega.{arith}
use lib.ListN.{length, take, drop, replicate, length-append, length-replicate}
use lib.Seq.{take_at}
use borrow.Author.Tests.{lt-ltb, le-ltb, eq-eqb, ne_eqb}
use Rattle.model.specs.Stated.{Stated, stated_in}
use Rattle.model.specs.Answer.{Result, over_front, refused_with}
use Rattle.answer.specs.Numbers.{answer_of}
use Rattle.answer.specs.declared.Answer.{Answer}
use Rattle.map_writer.specs.Canonical.{write}
use Rattle.map_writer.specs.Call.{written_with, write_if, write_map, Wrote}
use Rattle.text.specs.Text.{line, too_long}
use Rattle.write_map.specs.Printed.{streams, streams_of, answered, printed}

-- ---- What a result gives the streams

map-alone : (r : Result) → r.answer.number ≡ 0 → streams_of r ≡ streams (take r.answer.sheet_bytes r.sheet) []
unfolding streams_of
map-alone r h = rw (eq-eqb r.answer.number 0 h)

number_alone : (r : Result) → (r.answer.number ≡ 0 → ⊥) → streams_of r ≡ streams [] (line (r.answer.number ∷ []))
unfolding streams_of
number_alone r h = rw (ne_eqb r.answer.number 0 h)

-- the map that is written stands at the front of the output area
written_front : (new area : List ℕ) → take (length new) (over_front new area) ≡ new
unfolding over_front
written_front new area = take_at new (drop (length new) area) (length new) refl

-- what the output area held before is not printed
same_streams : (n : ℕ) (s : Stated) (work a b : List ℕ) → streams_of (write_if n s work a) ≡ streams_of (write_if n s work b)
unfolding streams_of write_if refused_with written_with
same_streams zero s work a b = rw (written_front (write s) a, written_front (write s) b)
same_streams (suc n) s work a b = refl

any_area : (input area : List ℕ) → length area ≡ 65536 → streams_of (write_map input (replicate 16384 0) area) ≡ streams_of (answered input)
unfolding write_map answered
any_area input area size = rw (size ∙ sym (length-replicate {A = ℕ} 65536 0)) (same_streams _ (stated_in input) _ area _)

-- the bytes of the map are within the output area
if_within : (n : ℕ) (s : Stated) (work output : List ℕ) → (write_if n s work output).answer.sheet_bytes ≤ length (write_if n s work output).sheet
unfolding write_if refused_with written_with over_front
if_within zero s work output = rw length-append (omega arith)
if_within (suc n) s work output = omega arith

map-within : (input work output : List ℕ) → (write_map input work output).answer.sheet_bytes ≤ length (write_map input work output).sheet
unfolding write_map
map-within input work output = if_within _ (stated_in input) work output

-- ---- What is printed

-- after the call, with an output area as long as the longest input
module _ {input before work out : List ℕ} {a : Answer} (size : length before ≡ 65536)
    (wrote : Wrote input (replicate 16384 0) before a work out) where
  abbrev result : Result
  result = record { answer = answer_of a; work = work; sheet = out }

  given : streams_of result ≡ streams_of (answered input)
  given = ap streams_of wrote.result ∙ any_area input before size

  pub map_front : a.number ≡ 0 → (a.sheet_bytes ≤ length out) × (streams (take a.sheet_bytes out) [] ≡ streams_of (answered input))
  map_front h = (rw (← wrote.result) at (map-within input (replicate 16384 0) before), sym (map-alone result h) ∙ given)

  pub number_line : (a.number ≡ 0 → ⊥) → streams [] (line (a.number ∷ [])) ≡ streams_of (answered input)
  number_line h = sym (number_alone result h) ∙ given

-- for an input that is longer, and for any other
pub printed_long : (input : List ℕ) → 65536 < length input → printed input ≡ streams [] too_long
unfolding printed
printed_long input h = rw (lt-ltb 65536 (length input) h) refl

pub printed_answered : (input : List ℕ) → length input ≤ 65536 → printed input ≡ streams_of (answered input)
unfolding printed
printed_answered input h = rw (le-ltb 65536 (length input) h)
