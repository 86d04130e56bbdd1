-- `verdict::judge` meets its contract: one law for each answer.
use mathlib.Core.Path.{sym, ◌∙◌}
use native.Mathlib.Omega.{arith}
use borrow.Author.Tests.{ltb-true, ltb-false}
use Rattle.judge.proofs.MarkLaws.{zeros_clear}
use Rattle.judge.proofs.JudgeMap.{form_refused, formed}
use Rattle.judge.proofs.verdict.judge.Goals.{in_default-via-in-Some+else-is_of_form, in_default-via-in_default}
use Rattle.judge.proofs.verdict.judge.Goals as goal

pub of-s-requires : goal.of-s-requires
of-s-requires c = zeros_clear

pub returns-in-Some : goal.returns-in-Some
returns-in-Some c =
    form_refused _ _ _ c.of-s.ensures _ c.in-Some.is (ltb-true _ _ (sym c.is_of_form.ensures ∙ c.if-is_of_form.true))

pub judge_map-requires : goal.judge_map-requires
judge_map-requires c =
    formed _ _ _ c.of-s.ensures
    (elim c.in_default.branch [
      | in_default-via-in-Some+else-is_of_form w ↦ rw w.in-Some.is (ltb-false _ _ (sym w.is_of_form.ensures ∙ w.if-is_of_form.false))
      | in_default-via-in_default w ↦ rw w.in_default.is (omega arith)
    ])
