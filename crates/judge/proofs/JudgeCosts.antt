-- The judgement from the costs of arcs to the one job. Assumes nothing.
use mathlib.Core.Path.{◌≡◌, refl, sym, ◌∙◌}
use mathlib.Core.Bool.{true, false, not, ◌||◌}
use mathlib.Core.List.{List}
use Prim.Native.Nat.{ℕ}
use native.Mathlib.Omega.{arith}
use lib.Dec.{leb, eqb}
use borrow.Author.Tests.{not-false, eqb-true, leb-false}
use Rattle.std.specs.Prelude.{Err}
use Rattle.map.specs.declared.refusal.Refusal.TheVariants.{WrongWait, WrongJob}
use Rattle.judge.specs.declared.survey.Survey.{Survey}
use Rattle.judge.specs.Judge.{Judged}
use Rattle.judge.specs.Verdict.{RightMap, RightFactors, OneJob}
use Rattle.judge.specs.Waits.{Fitting}
use Rattle.judge.proofs.NumberLaws.{none-given}
use Rattle.judge.proofs.JudgeMap.{refused}
use Rattle.model.specs.Bytes.{Bytes}
use Rattle.model.specs.Framing.{Record, frame}
use Rattle.model.specs.Items.{Lane, items}
use Rattle.model.specs.Lists.{any}
use Rattle.model.specs.Refusals.{outside_map, names_outside, wrong_measure, wrong_wait, wrong_job, form_rows, map_rows, cost_rows, job_rows}
use Rattle.model.specs.Refusals.{first_that_holds, first_of, holds_at, input_refusal}
use Rattle.model.specs.Stated.{Stated, stated}
use Rattle.model.proofs.Acceptance.{flat_below, wait_below}
use Rattle.model.proofs.Charges.{lane_cost_below}
use Rattle.model.proofs.Lists.{neither, any_false}
use Rattle.model.proofs.Rows.{row_fails}

module _ (input marks : List ℕ) (s : Survey) (factors : List ℕ) (now : RightFactors input marks s factors) where
  abbrev rs : List Record
  rs = (frame input).records

  abbrev st : Stated
  st = stated rs

  abbrev right : RightMap input marks s
  right = now.right

  -- what the look for 21 rests on, of an input of bytes
  pub fitting : Bytes input → Fitting input
  unfolding form_rows map_rows holds_at any outside_map wrong_measure
  fitting bytes =
      let form = row_fails (form_rows (frame input)) refl right.form in
      let map = row_fails (map_rows st) refl right.map in
      let n = st.size.places in
      let ends = any (λ (l : Lane). leb n l.from || leb n l.to) st.lanes in
      let inside = neither (ends || names_outside n st.estimates) _ (map 6) in
      record {
        lengths = form 3;
        few = omega (arith, right.few, right.places);
        from = λ l i. leb-false _ _ (neither (leb n l.from) _ (any_false _ _ (neither ends _ inside.0).0 l i)).0;
        measure = any_false _ _ (map 20);
        cost = λ l i. lane_cost_below st.factors now.table l.charge (flat_below input bytes l i) (any_false _ _ (map 20) l i);
        place = λ w i. leb-false _ _ (any_false _ _ inside.1 w i);
        value = wait_below input bytes;
      }

  -- 21
  pub costs_refused : wrong_wait st ≡ true → Judged input (Err WrongWait)
  unfolding cost_rows first_that_holds first_of
  costs_refused wrong = refused input WrongWait (now.number ∙ rw wrong)

  module _ (costs : wrong_wait st ≡ false) where
    after_costs : input_refusal (frame input) ≡ first_that_holds (job_rows (items rs) st)
    unfolding cost_rows first_that_holds
    after_costs = now.number ∙ none-given _ _ (rw costs)

    -- 10
    job_same : (not (eqb s.jobs 1) || not s.job_last) ≡ wrong_job (items rs)
    unfolding wrong_job
    job_same = rw (right.states.jobs, right.states.job_last)

    pub job_refused : (not (eqb s.jobs 1) || not s.job_last) ≡ true → Judged input (Err WrongJob)
    unfolding job_rows first_that_holds
    job_refused e =
        let wrong : wrong_job (items rs) ≡ true = sym job_same ∙ e in
        refused input WrongJob (after_costs ∙ rw wrong)

    pub one_job : (not (eqb s.jobs 1) || not s.job_last) ≡ false → OneJob input marks s
    one_job e =
        let parts = neither (not (eqb s.jobs 1)) _ e in
        record {
          places = right.places;
          few = right.few;
          arcs = right.states.arcs;
          factors = right.states.factors;
          default = right.states.default;
          job = right.states.job (eqb-true _ _ (not-false _ parts.0));
          goals_end = right.states.goals_end (not-false _ parts.1);
          estimated = right.states.estimated;
          right = sym job_same ∙ e;
          number = after_costs;
        }
