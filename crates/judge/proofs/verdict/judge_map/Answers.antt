-- `verdict::judge_map` meets its contract: one law for each answer.
use mathlib.Core.Path.{◌≡◌, sym, ◌∙◌}
use native.Mathlib.Omega.{arith}
use Rattle.std.specs.Prelude.{Some, None}
use Rattle.std.proofs.lemmas.Result.{err_from_is_err_and}
use Rattle.judge.proofs.JudgeMap.{range_refused, arcs_refused, map-refused, right-map}
use Rattle.map.specs.declared.refusal.Refusal.TheVariants.{WrongSize}
use Rattle.map.proofs.Sizes.{WithinLimits, within_limits, no_map}
use Rattle.judge.proofs.verdict.judge_map.Goals.{In_ok-map}
use Rattle.judge.proofs.verdict.judge_map.Goals as goal

-- the map is given
within : (c : In_ok-map) → WithinLimits c.args.s.places c.args.s.arcs c.in_ok-map.map
within c =
    let is : c.new.result ≡ Some c.in_ok-map.map = grind arith in
    within_limits _ _ _ _ c.new.ensures is

pub returns-in_err-map : goal.returns-in_err-map
returns-in_err-map c =
    let p = err_from_is_err_and c.from_residual.result c.from_residual.ensures.1 in
    let is : c.new.result ≡ None = grind arith in
    let wrong : c.in_err-map.field-0.0 ≡ WrongSize = grind arith in
    rw (p.1, p.2, wrong) (range_refused _ _ _ c.requires (no_map _ _ (sym is ∙ c.new.ensures)))

pub returns-then-map-s : goal.returns-then-map-s
returns-then-map-s c = arcs_refused _ _ _ c.requires _ (within (goal.at.returns-then-map-s c).In_ok-map) c.if-map-s.true

pub returns-in-Some : goal.returns-in-Some
returns-in-Some c =
    map-refused _ _ _ c.requires _ (within (goal.at.returns-in-Some c).In_ok-map) c.if-map-s.false c.in-Some.refusal c.in-Some.is

pub judge_factors-requires : goal.judge_factors-requires
judge_factors-requires c =
    right-map _ _ _ c.requires _ (within (goal.at.judge_factors-requires c).In_ok-map) c.if-map-s.false c.in_default.is
