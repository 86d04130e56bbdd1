-- No loop: each question is a case of the definition; a place beyond the last is past the list's end. Assumes nothing.
use mathlib.Core.Path.{◌≡◌, ◌∙◌}
use Prim.Native.Nat.{◌-◌}
use borrow.Author.Rules.{rules}
use lib.ListN.{get_or}
use Rattle.sheet_reader.specs.Read.{reading_of}
use Rattle.sheet_reader.proofs.Answers.{host_number, host_cost, host_count, host_place}
use Rattle.sheet_reader.proofs.r3_sheet.Goals as goal

pub returns-in-0 : goal.returns-in-0
returns-in-0 c =
    let r = c.read-reading in
    rw (← r.ensures) (host_number (reading_of r.result) c.args.question c.in-0.is)

pub returns-in-1 : goal.returns-in-1
returns-in-1 c =
    let r = c.read-reading in
    rw (← r.ensures) (host_cost (reading_of r.result) c.args.question c.in-1.is)

pub returns-in-2 : goal.returns-in-2
returns-in-2 c =
    let r = c.read-reading in
    rw (← r.ensures) (host_count (reading_of r.result) c.args.question c.in-2.is)

pub returns-in_default : goal.returns-in_default
returns-in_default c =
    let r = c.read-reading in
    let it : c.map_or.result ≡ get_or r.result.places (c.args.question - 3) 0 = search rules in
    rw (← r.ensures) (it ∙ host_place (reading_of r.result) c.args.question (search rules))
