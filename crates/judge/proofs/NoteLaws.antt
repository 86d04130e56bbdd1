-- What is noted of one record more, field by field. Assumes nothing.
use mathlib.Core.Path.{◌≡◌, refl, ap, ◌∙◌}
use mathlib.Core.Bool.{Bool, true, false, cond}
use mathlib.Core.List.{List, [], ◌∷◌, ◌++◌, append-nil}
use mathlib.Core.Option.{Option, none, some}
use Prim.Native.Nat.{ℕ, ◌+◌, ◌<◌}
use lib.Dec.{eqb}
use lib.ListN.{length}
use Rattle.judge.specs.declared.survey.Survey.{Survey}
use Rattle.std.specs.Prelude.{Some, None}
use Rattle.judge.specs.Numbers.{earlier}
use Rattle.judge.specs.Marks.{mark_of}
use Rattle.judge.specs.Survey.{given, first_default, passed, opened, with_head, with_lane, with_wait, with_factors, with_default, with_job}
use Rattle.judge.specs.Survey.{noted, marks_by, job_or}
use Rattle.judge.proofs.MarkLaws.{marked-length}
use Rattle.judge.proofs.FactorLaws.{FirstInForce, table_more}
use Rattle.judge.proofs.ItemLaws.{size_after, size_kept}
use Rattle.map.specs.declared.record as declared
use Rattle.map.specs.declared.record.Item.{Item}
use Rattle.map.specs.declared.record.Item.TheVariants.{Head, Lane, Measured, Estimate, Wait, Factors, Default, Job, Misfit, Other}
use Rattle.map.specs.declared.refusal.Refusal.TheVariants.{WrongHead}
use Rattle.map.specs.Items.{job_of, meant, LiesIn, Says}
use Rattle.model.specs.Items as model
use Rattle.model.specs.Lists.{is_given, cons_if, filter_map}

pub either : {A : Type 0} (f : Survey → A) (t : Bool) (a b : Survey) (x : A) → f a ≡ x → f b ≡ x → f (cond t a b) ≡ x
either f true a b x e g = e
either f false a b x e g = g

-- a count, with the one more that may be given
abbrev pub count_or : {A : Type 0} → ℕ → Option A → ℕ
count_or n none = n
count_or n (some x) = n + 1

-- the default in force, with the one that may be given
abbrev pub default_or : (defaults noted : ℕ) → Option ℕ → ℕ
default_or defaults noted none = noted
default_or defaults noted (some x) = first_default defaults noted x

abbrev pub size_of : Survey → model.Size
size_of s = record { places = s.places; arcs = s.arcs }

-- t is the survey s with the item i, which is the first or not. Where the factors begin is said apart.
pub record NotedOne (input : List ℕ) (again : Bool) (s : Survey) (first : Bool) (i : Item) (t : Survey) : Type 0 where
  pub fields : let said = meant input i in
      let size = size_after first (size_of s) (model.size_in said) in
      t
      ≡ record {
        refusal = earlier s.refusal (given first s.places again i);
        records = s.records + 1;
        places = size.places;
        arcs = size.arcs;
        lanes = count_or s.lanes (model.lane_in said);
        waits = count_or s.waits (model.wait_in said);
        tables = count_or s.tables (model.factors_in said);
        factors_at = t.factors_at;
        defaults = count_or s.defaults (model.default_in said);
        default = default_or s.defaults s.default (model.default_in said);
        jobs = count_or s.jobs (model.job_in said);
        job_last = is_given (model.job_in said);
        job = t.job;
      }
  pub job : job_of input t.job ≡ job_or (job_of input s.job) (model.job_in (meant input i))

module _ (input : List ℕ) (again : Bool) (s : Survey) where
  pub noted_one : (i : Item) → NotedOne input again s (eqb s.records 0) i (noted again s i)
  unfolding noted given with_head with_lane with_wait with_factors with_default with_job meant is_given
      model.size_in model.lane_in model.wait_in model.factors_in model.default_in model.job_in
  noted_one (Head z) = go (eqb s.records 0)
    where
      go : (first : Bool) → NotedOne input again s first (Head z) (cond first (opened (passed s None) z) (passed s (Some WrongHead)))
      go true = record { fields = refl; job = refl }
      go false = record { fields = refl; job = refl }
  noted_one (Lane l) = record { fields = refl; job = refl }
  noted_one (Measured l) = record { fields = refl; job = refl }
  noted_one (Estimate e) = record { fields = refl; job = refl }
  noted_one (Wait w) = record { fields = refl; job = refl }
  noted_one (Factors at) = record { fields = refl; job = refl }
  noted_one (Default x) = record { fields = refl; job = refl }
  noted_one (Job j) = record { fields = refl; job = refl }
  noted_one Misfit = record { fields = refl; job = refl }
  noted_one Other = record { fields = refl; job = refl }

  pub places_kept : (i : Item) → eqb s.records 0 ≡ false → (noted again s i).places ≡ s.places
  places_kept i later =
      ap (λ (t : Survey). t.places) (noted_one i).fields
      ∙ rw later (ap (λ (z : model.Size). z.places) (size_kept (size_of s) (model.size_in (meant input i))))

  -- the first table stays in force
  pub noted_factors : (tables : List (List ℕ)) → s.tables ≡ length tables → FirstInForce input tables s.factors_at → (r : declared.Record.Record)
      → LiesIn input r → 0 < r.start → (i : Item) → Says input r i
      → FirstInForce input (tables ++ filter_map model.factors_in (meant input i ∷ [])) (noted again s i).factors_at
  unfolding noted with_head with_lane with_wait with_factors with_default with_job meant filter_map cons_if model.factors_in
  noted_factors tables all now r lies behind (Head z) says =
      let kept : (noted again s (Head z)).factors_at ≡ s.factors_at = either (λ t. t.factors_at) (eqb s.records 0) _ _ _ refl refl in
      rw (append-nil tables, kept) now
  noted_factors tables all now r lies behind (Lane l) says = rw (append-nil tables) now
  noted_factors tables all now r lies behind (Measured l) says = rw (append-nil tables) now
  noted_factors tables all now r lies behind (Estimate e) says = rw (append-nil tables) now
  noted_factors tables all now r lies behind (Wait w) says = rw (append-nil tables) now
  noted_factors tables all now r lies behind (Factors at) says = rw all (table_more tables now says lies behind)
  noted_factors tables all now r lies behind (Default x) says = rw (append-nil tables) now
  noted_factors tables all now r lies behind (Job j) says = rw (append-nil tables) now
  noted_factors tables all now r lies behind Misfit says = rw (append-nil tables) now
  noted_factors tables all now r lies behind Other says = rw (append-nil tables) now

pub marks_length : (n : ℕ) (m : List ℕ) (i : Item) → length (marks_by n m i) ≡ length m
unfolding marks_by
marks_length n m (Head z) = refl
marks_length n m (Lane l) = refl
marks_length n m (Measured l) = refl
marks_length n m (Estimate e) = marked-length mark_of n m e.place e.value
marks_length n m (Wait w) = refl
marks_length n m (Factors at) = refl
marks_length n m (Default x) = refl
marks_length n m (Job j) = refl
marks_length n m Misfit = refl
marks_length n m Other = refl
