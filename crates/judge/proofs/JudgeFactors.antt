-- The judgement of the factors. Assumes nothing.
use mathlib.Core.Path.{◌≡◌, sym, ◌∙◌}
use mathlib.Core.Bool.{Bool, true, false, ◌||◌}
use mathlib.Core.List.{List}
use Prim.Native.Nat.{ℕ}
use lib.Dec.{ltb}
use Rattle.std.specs.Prelude.{Err}
use Rattle.map.specs.declared.refusal.Refusal.TheVariants.{WrongFactors}
use Rattle.judge.specs.declared.survey.Survey.{Survey}
use Rattle.judge.specs.Judge.{Judged}
use Rattle.judge.specs.Verdict.{RightMap, RightFactors}
use Rattle.judge.proofs.NumberLaws.{none-given}
use Rattle.judge.proofs.FactorLaws.{wrong_in_force}
use Rattle.judge.proofs.JudgeMap.{refused}
use Rattle.map.specs.Items.{table_at}
use Rattle.model.specs.Framing.{Record, frame}
use Rattle.model.specs.Items.{items}
use Rattle.model.specs.Refusals.{breaks_rules, wrong_factors, factor_rows, first_that_holds, first_of}
use Rattle.model.specs.Stated.{stated}
use Rattle.model.proofs.Acceptance.{stated_table}

-- the factors are read from where the survey says, and looked at
module _ (input marks : List ℕ) (s : Survey) (right : RightMap input marks s) {factors : List ℕ} (read : factors ≡ table_at input s.factors_at)
    {broken : Bool} (is-broken : broken ≡ breaks_rules factors) where
  abbrev rs : List Record
  rs = (frame input).records

  in_force : factors ≡ (stated rs).factors
  in_force = read ∙ right.states.factors.are

  -- 22
  factors_same : (ltb 1 s.tables || broken) ≡ wrong_factors (items rs)
  unfolding stated
  factors_same = rw (right.states.tables, is-broken, in_force) (wrong_in_force (items rs))

  pub factors_refused : (ltb 1 s.tables || broken) ≡ true → Judged input (Err WrongFactors)
  unfolding factor_rows first_that_holds first_of
  factors_refused e =
      let wrong : wrong_factors (items rs) ≡ true = sym factors_same ∙ e in
      refused input WrongFactors (right.number ∙ rw wrong)

  pub right_factors : (ltb 1 s.tables || broken) ≡ false → RightFactors input marks s factors
  unfolding factor_rows first_that_holds
  right_factors e =
      let kept : wrong_factors (items rs) ≡ false = sym factors_same ∙ e in
      record { right = right; in_force = in_force; table = stated_table rs kept; number = right.number ∙ none-given _ _ (rw kept) }
