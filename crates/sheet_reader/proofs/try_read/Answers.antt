-- No loop: bytes that the first field fits are one record, and all others are no sheet. Assumes nothing.
use mathlib.Core.Path.{◌≡◌, refl, sym, ◌∙◌}
use Prim.Native.Nat.{ℕ, ◌+◌, ◌-◌}
use native.Mathlib.Omega.{arith}
use lib.ListN.{length, take, drop}
use borrow.Author.Rules.{rules}
use Rattle.model.specs.Bytes.{u16}
use Rattle.model.specs.Sheets.{read_sheet, read_record}
use Rattle.sheet_reader.proofs.Framing.{read_short, read_unfit, read_one}
use Rattle.sheet_reader.proofs.Records.{other_kind}
use Rattle.sheet_reader.proofs.try_read.Goals.{Else-sheet-length}
use Rattle.sheet_reader.proofs.try_read.Goals as goal

pub returns-then-sheet-lt4 : goal.returns-then-sheet-lt4
returns-then-sheet-lt4 c = sym (read_short c.args.sheet.now (omega arith))

pub returns-then-sheet-length : goal.returns-then-sheet-length
returns-then-sheet-length c = sym (read_unfit c.args.sheet.now (omega arith) (λ e. omega arith))

-- the sheet is one record, of the kind that was read
as_kind : (c : Else-sheet-length) (kind : ℕ) → c.u16_at-kind.result ≡ kind
    → let b = c.args.sheet.now in read_sheet b ≡ read_record (record { kind = kind; body = take (length b - 4) (drop 4 b) })
as_kind c kind e =
    let b = c.args.sheet.now in
    let fits : length b ≡ 4 + u16 b 0 = omega arith in
    let read : u16 b 2 ≡ kind = sym c.u16_at-kind.ensures ∙ e in
    rw read at (read_one b fits)

pub returns-in-17 : goal.returns-in-17
returns-in-17 c = c.read_route.ensures ∙ sym (as_kind (goal.at.returns-in-17 c).Else-sheet-length _ c.in-17.is)

pub returns-in-18 : goal.returns-in-18
returns-in-18 c = c.read_no_route.ensures ∙ sym (as_kind (goal.at.returns-in-18 c).Else-sheet-length _ c.in-18.is)

pub returns-in_default : goal.returns-in_default
returns-in_default c =
    let kind = c.u16_at-kind.result in
    sym (as_kind (goal.at.returns-in_default c).Else-sheet-length kind refl ∙ other_kind kind _ (λ e. omega arith) (λ e. search rules))
