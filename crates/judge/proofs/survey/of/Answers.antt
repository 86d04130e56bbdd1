use mathlib.Core.Path.{◌≡◌, refl, sym, ap, ◌∙◌}
use native.Mathlib.Omega.{arith}
use Rattle.map.proofs.Records.{less_left}
use Rattle.map.specs.Records.{read_at}
use Rattle.std.specs.Prelude.{Some, Ok}
use Rattle.judge.proofs.WalkLaws.{walk_start, walk_counted, walk_lies, walk_again, walk_broken, walk_end}
use Rattle.judge.specs.Survey.{Walked}
use Rattle.judge.proofs.survey.of.Goals.{In-Some-Ok}
use Rattle.judge.proofs.survey.of.Goals as goal

-- the record that was read
found : (c : In-Some-Ok) → read_at c.args.input.now c.loop-r.at ≡ Some (Ok c.in-Some-Ok.r)
found c = sym c.read_at.ensures ∙ c.in-Some-Ok.is ∙ ap Some c.in-Some-Ok.field-0-is

walked : (c : In-Some-Ok) → Walked c.args.input.now c.loop-r.at c.loop-r.marks c.loop-r.s
walked c = c.loop-r.invariant

pub loop-r-init : goal.loop-r-init
loop-r-init c = walk_start _ _ c.requires

pub item_of-item-requires : goal.item_of-item-requires
item_of-item-requires c = walk_lies _ _ _ _ (walked c) _ (found c)

pub with_item-s-requires : goal.with_item-s-requires
with_item-s-requires c = walk_counted _ _ _ _ (walked (goal.at.with_item-s-requires c).In-Some-Ok) (omega (arith, (walked (goal.at.with_item-s-requires c).In-Some-Ok).inside))

pub loop-r-smaller : goal.loop-r-smaller
loop-r-smaller c =
    rw c.end_of-at.ensures (less_left _ _ (walked (goal.at.loop-r-smaller c).In-Some-Ok).inside _ (found (goal.at.loop-r-smaller c).In-Some-Ok))

pub loop-r-preserved : goal.loop-r-preserved
loop-r-preserved c =
    rw c.end_of-at.ensures (walk_again _ _ _ _ (walked (goal.at.loop-r-preserved c).In-Some-Ok) _ (found (goal.at.loop-r-preserved c).In-Some-Ok) _ c.item_of-item.ensures _ _ c.with_item-s.ensures)

pub returns-in-Some-Err : goal.returns-in-Some-Err
returns-in-Some-Err c =
    walk_broken _ _ _ _ c.loop-r.invariant _ (sym c.read_at.ensures ∙ c.in-Some-Err.is ∙ ap Some c.in-Some-Err.field-0-is) _ refl

pub returns-in-None : goal.returns-in-None
returns-in-None c = rw c.ended.ensures (walk_end _ _ _ _ c.loop-r.invariant (sym c.read_at.ensures ∙ c.in-None.is))
