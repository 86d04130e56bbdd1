-- The judgement of the one job. Assumes nothing.
use mathlib.Core.Path.{◌≡◌, refl, ap, sym, ◌∙◌}
use mathlib.Core.Bool.{Bool, true, false, cond, not, ◌||◌}
use mathlib.Core.List.{List}
use mathlib.Core.Logic.{◌≢◌}
use Prim.Native.Nat.{ℕ}
use native.Mathlib.Omega.{arith}
use lib.Dec.{leb, eqb}
use borrow.Author.Tests.{lt-ltb, leb-false, eq-eqb, ne_eqb}
use Rattle.std.specs.Prelude.{Ok, Err}
use Rattle.judge.specs.declared.goals.Goals.{Goals}
use Rattle.judge.specs.declared.survey.Survey.{Survey}
use Rattle.judge.specs.Goals.{estimated_at, Checked}
use Rattle.judge.specs.Judge.{Judged}
use Rattle.judge.specs.Numbers.{no_number}
use Rattle.judge.specs.Verdict.{goals_wrong, goals_number, OneJob}
use Rattle.judge.proofs.JudgeMap.{refused}
use Rattle.model.proofs.Tests.{any_same}
use Rattle.map.specs.declared.Job.{Job}
use Rattle.map.specs.declared.Site.{Site}
use Rattle.map.specs.declared.refusal.Refusal.{Refusal}
use Rattle.map.specs.Refusals.{number_of}
use Rattle.map.proofs.RefusalLaws.{number_within}
use Rattle.map.specs.Items.{job_of}
use Rattle.map.specs.Jobs.{States}
use Rattle.model.specs.Bytes.{u16s}
use Rattle.model.specs.Framing.{frame}
use Rattle.model.specs.Items as model
use Rattle.model.specs.Lists.{any}
use Rattle.model.specs.Refusals.{job_outside_map, wrong_goals, goal_estimate, job_rows, first_that_holds, input_refusal}
use Rattle.model.specs.Stated.{Stated, stated_in, lookup}
use Rattle.model.proofs.Acceptance.{states_growth}
use Rattle.model.proofs.Bytes.{u16s-length}
use Rattle.model.proofs.Lists.{neither, any_false}

module _ (input marks : List ℕ) (s : Survey) (j : OneJob input marks s) where
  abbrev st : Stated
  st = stated_in input

  abbrev goals : List ℕ
  goals = u16s s.job.goals input s.job.goals_at

  start_same : s.job.start ≡ st.job.start
  unfolding job_of
  start_same = ap (λ (x : model.Job). x.start) j.job

  allowance_same : s.job.allowance ≡ st.job.allowance
  unfolding job_of
  allowance_same = ap (λ (x : model.Job). x.allowance) j.job

  goals_same : goals ≡ st.job.goals
  unfolding job_of
  goals_same = ap (λ (x : model.Job). x.goals) j.job

  abbrev above_zero : ℕ → Bool
  above_zero v = not (eqb (lookup 0 st.estimates v) 0)

  module _ (g : Goals) (c : Checked goals s.places marks g) (start : ℕ) (is-start : start ≡ s.job.start) (w : Bool)
      (is-wrong : w ≡ goals_wrong s.job.goals g.falls) where
    outside_same : (leb s.places start || g.outside) ≡ job_outside_map st
    unfolding job_outside_map
    outside_same = rw (c.outside, goals_same, is-start, start_same, j.places)

    wrong_same : w ≡ wrong_goals st
    unfolding wrong_goals
    wrong_same =
        let long = u16s-length s.job.goals input s.job.goals_at in
        is-wrong ∙ rw (← goals_same, long, c.falls)

    estimated_same : job_outside_map st ≡ false → g.estimated ≡ goal_estimate st
    unfolding goal_estimate
    estimated_same inside =
        let below = (neither (leb s.places start) _ (outside_same ∙ inside)).1 in
        c.estimated
        ∙ any_same (estimated_at s.places marks) above_zero goals (λ v i.
        let h = leb-false _ _ (any_false (leb s.places) goals (sym c.outside ∙ below) v i) in
        rw (lt-ltb v s.places h) (j.estimated v h))
        ∙ ap (any above_zero) goals_same

    module _ (n : ℕ) (is : n ≡ goals_number (leb s.places start || g.outside) w g.estimated) where
      job_same : n ≡ goals_number (job_outside_map st) (wrong_goals st) (goal_estimate st)
      job_same = is ∙ rw (outside_same, wrong_same) (go (job_outside_map st) estimated_same)
        where
          go : (t : Bool) → (t ≡ false → g.estimated ≡ goal_estimate st)
              → goals_number t (wrong_goals st) g.estimated ≡ goals_number t (wrong_goals st) (goal_estimate st)
          go true h = refl
          go false h = rw (h refl)

      -- the number that is given, with 0 for none
      refusal_same : input_refusal (frame input) ≡ cond (eqb n no_number) 0 n
      unfolding job_rows first_that_holds
      refusal_same = j.number ∙ rw (j.right, job_same) (go (job_outside_map st) (wrong_goals st) (goal_estimate st))
        where
          go : (a b c : Bool) → cond a 11 (cond b 12 (cond c 13 0)) ≡ cond (eqb (goals_number a b c) no_number) 0 (goals_number a b c)
          go true b c = refl
          go false true c = refl
          go false false true = refl
          go false false false = refl

      pub goals_refused : (r : Refusal) → n ≡ number_of r → Judged input (Err r)
      goals_refused r e =
          let some : n ≢ no_number = λ z. omega (arith, (number_within r).1) in
          refused input r (refusal_same ∙ rw (ne_eqb n no_number some) e)

      pub accepted : n ≡ no_number → (job : Job) → job.site ≡ record { places = s.places; arcs = s.arcs; start = s.job.start; growth = 2 }
          → job.allowance ≡ s.job.allowance → job.goals ≡ s.job.goals → job.goals_at ≡ s.job.goals_at
          → job.factors_at ≡ s.factors_at → job.default ≡ s.default → Judged input (Ok job)
      accepted none job is-site is-allowance is-count is_at is-table is_default =
          let states : States input job =
          record {
            places = ap (λ (x : Site). x.places) is-site ∙ j.places;
            arcs = ap (λ (x : Site). x.arcs) is-site ∙ j.arcs;
            start = ap (λ (x : Site). x.start) is-site ∙ start_same;
            growth = ap (λ (x : Site). x.growth) is-site ∙ sym (states_growth (frame input).records);
            allowance = is-allowance ∙ allowance_same;
            goals_end = rw (is-count, is_at) j.goals_end;
            goals = rw (is-count, is_at) goals_same;
            factors = rw is-table j.factors;
            default = is_default ∙ j.default;
          } in
          record {
            number = sym (refusal_same ∙ rw (eq-eqb n no_number none));
            states = λ i e. let same : job ≡ i = cc in rw same at states;
          }
