-- No loop: what the reader gives is shown whole where its number is 0 or 17, and as zeros otherwise. Assumes nothing.
use mathlib.Core.Path.{◌≡◌, sym, ap}
use Prim.Native.Nat.{ℕ}
use lib.ListN.{length, replicate}
use borrow.Author.Rules.{rules}
use Rattle.sheet_reader.specs.Read.{reading_of}
use Rattle.display.proofs.AsRead.{shown_accepted, shown_refused}
use Rattle.display.proofs.show.Goals as goal

pub returns-in-0 : goal.returns-in-0
returns-in-0 c =
    let r = c.read-reading in
    let l = c.lamp-lamp in
    rw (← r.ensures) (shown_accepted (reading_of r.result) l.result l.ensures c.in-0.is)

pub returns-in_default : goal.returns-in_default
returns-in_default c =
    let r = c.read-reading in
    let l = c.lamp-lamp in
    let all : length r.result.places ≡ 4096 = search rules in
    let zeros = ap (λ (n : ℕ). replicate {A = ℕ} n 0) (sym all) in
    rw (← r.ensures) (shown_refused (reading_of r.result) l.result l.ensures c.in_default.in_default-own.rest.1 _ zeros)
