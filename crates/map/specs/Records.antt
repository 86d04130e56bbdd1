-- What the reader finds at a position of the input.
use Rattle.std.specs.Prelude.{cond, List, ℕ, ◌+◌, ◌-◌, ltb, eqb, length, take, drop, Option, Some, None, Result, Ok, Err}
use Rattle.map.specs.declared.record as declared
use Rattle.map.specs.declared.refusal.Refusal.{Refusal}
use Rattle.map.specs.declared.refusal.Refusal.TheVariants.{Broken}
use Rattle.model.specs.Bytes.{u16}
use Rattle.model.specs.Framing.{Record}

-- nothing at the end, a whole record, or a broken tail
abbrev pub Read : Type 0
Read = Option (Result declared.Record.Record Refusal)

abbrev pub broken : Read
broken = Some (Err Broken)

unfoldable pub read_at : List ℕ → ℕ → Read
read_at s at =
    let left = length s - at in
    let len = u16 s at in
    cond (eqb left 0) None
    (cond (ltb left 4) broken
    (cond (ltb (left - 4) len) broken
    (Some (Ok (record { kind = u16 s (at + 2); start = at + 4; end = at + 4 + len })))))

-- a record that was found in the input, as the definitions have it
abbrev pub record_in : List ℕ → declared.Record.Record → Record
record_in input r = record { kind = r.kind; body = take (r.end - r.start) (drop r.start input) }
