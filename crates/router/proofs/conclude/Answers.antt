-- The verdict's sheet is written, and the words that document 01 asks for are filled with 0.
use mathlib.Core.Path.{refl, ap, ◌∙◌}
use Prim.Native.Nat.{ℕ, ◌≤◌}
use native.Mathlib.Omega.{arith}
use lib.ListN.{length, replicate}
use Rattle.model.specs.Answer.{over_front}
use Rattle.area.proofs.Fronts.{cleared}
use Rattle.router.proofs.Routing.{concluded}
use Rattle.router.proofs.conclude.Goals as goal

pub returns : goal.returns
returns c =
    let need = c.words-need.ensures in
    let work = c.args.work.now in
    let enough : c.words-need.result ≤ length work = omega (arith, need, c.requires.room) in
    let zeros = cleared _ work work _ enough refl c.fill.ensures in
    concluded c.write_sheet-bytes.ensures (zeros ∙ ap (λ (k : ℕ). over_front (replicate k 0) work) need) c.numbers.ensures
