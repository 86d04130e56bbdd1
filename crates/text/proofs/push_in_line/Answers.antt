-- No loop: the line's first number is put as it is, a later one after a blank. Assumes nothing.
use mathlib.Core.Path.{◌≡◌, ap}
use mathlib.Core.List.{◌∷◌}
use Prim.Native.Nat.{◌-◌, ◌<◌, ◌≤◌}
use native.Mathlib.Omega.{arith}
use borrow.Author.Rules.{rules}
use lib.ListN.{length}
use Rattle.arrayvec.specs.ArrayVec.{array_vec_len}
use Rattle.text.specs.Text.{blank, decimal, in_line}
use Rattle.text.proofs.Lines.{first_in_line, next_in_line, blank_then}
use Rattle.text.proofs.push_in_line.Given.{Over}
use Rattle.text.proofs.push_in_line.Goals.{After-len, then-from-len, else-from-len}
use Rattle.text.proofs.push_in_line.Goals as goal

first : (g : Over) (c : After-len g) → c.len.result ≤ c.args.from → in_line (array_vec_len c.args.text.now - c.args.from) c.args.x ≡ decimal c.args.x
first g c h = first_in_line _ _ (omega (arith, c.len.ensures.value))

later : (g : Over) (c : After-len g) → c.args.from < c.len.result
    → in_line (array_vec_len c.args.text.now - c.args.from) c.args.x ≡ blank ∷ decimal c.args.x
later g c h = next_in_line _ _ (λ z. omega (arith, c.len.ensures.value))

pub push-requires : goal.push-requires
push-requires g c =
    (search rules, omega (arith, ap length (later g (goal.at.push-requires g c).After-len c.if-from-len.true)))

pub push_number-requires : goal.push_number-requires
push_number-requires g c =
    let len = (goal.at.push_number-requires g c).After-len in
    elim c.if-from-len.branch [
      | then-from-len w ↦ (search rules, omega (arith, w.push.ensures.len, ap array_vec_len w.text-is, ap length (later g len w.if-from-len.true)))
      | else-from-len w ↦ (search rules, omega (arith, ap array_vec_len w.text-is, ap length (first g len w.if-from-len.false)))
    ]

pub returns : goal.returns
returns g c =
    let len = (goal.at.returns g c).After-len in
    elim c.if-from-len.branch [
      | then-from-len w ↦ rw (later g len w.if-from-len.true)
          (blank_then c.args.x c.args.text.now.items w.push.ensures.items (rw w.text-is at c.push_number.ensures))
      | else-from-len w ↦ rw (first g len w.if-from-len.false, ← w.text-is) c.push_number.ensures
    ]
