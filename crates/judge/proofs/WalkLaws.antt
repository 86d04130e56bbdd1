-- The pass over the records, record by record to the end of the input. Assumes nothing.
use mathlib.Core.Path.{◌≡◌, refl, ap, ap₂, sym, ◌∙◌}
use mathlib.Core.Bool.{Bool, true, false, cond, false≢true}
use mathlib.Core.List.{List, [], ◌∷◌, ◌++◌, append-nil, head_d}
use Prim.Native.Nat.{ℕ, ◌+◌, ◌*◌, ◌^◌, ◌<◌}
use native.Mathlib.Omega.{arith}
use lib.Dec.{ltb, eqb}
use lib.ListN.{length, drop, length-append}
use lib.Seq.{append_snoc}
use borrow.Author.Tests.{lt-ltb, ne_eqb}
use Rattle.judge.specs.declared.survey.Survey.{Survey}
use Rattle.std.specs.Prelude.{Some, None, Ok, Err}
use Rattle.map.specs.declared.refusal.Refusal.{Refusal}
use Rattle.judge.specs.Numbers.{no_number, number_or, given_number}
use Rattle.judge.specs.Marks.{first_mark, Clear}
use Rattle.judge.specs.Survey.{few_places, with_head, with_lane, with_wait, with_factors, with_default, with_job, noted, again_in, Noted, Counted}
use Rattle.judge.specs.Survey.{said_of, said, opening, stray, last_job, placed, item_rows, Notes, Walked, at_end, Stating, Surveyed}
use Rattle.model.proofs.Tests.{filter_map_length}
use Rattle.judge.proofs.MarkLaws.{mark_two}
use Rattle.judge.proofs.ItemLaws.{last_one, opening_size, stray-head}
use Rattle.judge.proofs.NoteLaws.{either}
use Rattle.judge.proofs.SurveyLaws.{count, few_places_lem, nothing_yet, notes_again}
use Rattle.map.specs.declared.record as declared
use Rattle.map.specs.declared.record.Item.{Item}
use Rattle.map.specs.declared.record.Item.TheVariants.{Head, Lane, Measured, Estimate, Wait, Factors, Default, Job, Misfit, Other}
use Rattle.map.specs.Records.{read_at, record_in}
use Rattle.map.specs.Items.{job_of, end_by, EndsBy, LiesIn, Says}
use Rattle.map.proofs.Factors.{fixed_table}
use Rattle.map.proofs.Records.{frame_end, frame_broken, frame_whole}
use Rattle.model.specs.Bytes.{u16s}
use Rattle.model.specs.Framing.{Record, Framed, stop, push, frame}
use Rattle.model.specs.Items as model
use Rattle.model.specs.Lists.{any, filter_map, repeats}
use Rattle.model.specs.Refusals.{unknown_kind, wrong_length, begins_with_head, wrong_head, ends_with_job, form_rows, map_rows, first_that_holds, holds_at}
use Rattle.model.specs.Refusals.{outside_map, free_arc, large_estimate, two_estimates, wrong_measure}
use Rattle.model.specs.Stated.{stated_by, stated, default}
use Rattle.model.proofs.Lists.{neither}
use Rattle.model.proofs.Rows.{row_fails}

-- ---- The beginning

abbrev empty : Survey
empty =
    record {
      refusal = None;
      records = 0;
      places = 0;
      arcs = 0;
      lanes = 0;
      waits = 0;
      tables = 0;
      factors_at = None;
      defaults = 0;
      default = 0;
      jobs = 0;
      job_last = false;
      job = record { start = 0; allowance = 0; goals = 0; goals_at = 0 };
    }

notes_start : (input marks : List ℕ) → Clear marks → Notes input [] marks empty
unfolding item_rows number_or said model.items unknown_kind wrong_length stray map_rows placed stated_by outside_map free_arc large_estimate
    two_estimates wrong_measure
    filter_map any repeats opening ends_with_job last_job job_of u16s first_mark head_d
notes_start input marks clear =
    record {
      number = refl;
      records = refl;
      places = refl;
      arcs = refl;
      lanes = refl;
      waits = refl;
      tables = refl;
      factors = record { lie = λ at some. let no : ◌≡◌ {A = ℕ} 0 1 = cc in absurd (omega arith); are = fixed_table input };
      defaults = refl;
      default = refl;
      jobs = refl;
      job_last = refl;
      job = refl;
      room = clear.room;
      mark = λ v. clear.zero v ∙ sym (nothing_yet (ltb v 0));
    }

pub walk_start : (input marks : List ℕ) → Clear marks → Walked input 0 marks empty
walk_start input marks clear =
    record {
      inside = omega arith;
      passed = [];
      split = refl;
      broken = refl;
      few = omega arith;
      notes = notes_start input marks clear;
      goals_end = λ e. absurd (false≢true e);
    }

-- ---- One record more

-- a job that was noted last ends the bytes passed
noted_ends : (again : Bool) (s : Survey) (r : declared.Record.Record) (i : Item) → EndsBy r i
    → (noted again s i).job_last ≡ true → (noted again s i).job.goals_at + 2 * (noted again s i).job.goals ≡ r.end
unfolding noted with_head with_lane with_wait with_factors with_default with_job end_by
noted_ends again s r (Head z) e last =
    absurd (false≢true (sym (either (λ t. t.job_last) (eqb s.records 0) _ _ false refl refl) ∙ last))
noted_ends again s r (Lane l) e last = absurd (false≢true last)
noted_ends again s r (Measured l) e last = absurd (false≢true last)
noted_ends again s r (Estimate x) e last = absurd (false≢true last)
noted_ends again s r (Wait w) e last = absurd (false≢true last)
noted_ends again s r (Factors at) e last = absurd (false≢true last)
noted_ends again s r (Default x) e last = absurd (false≢true last)
noted_ends again s r (Job j) e last = e
noted_ends again s r Misfit e last = absurd (false≢true last)
noted_ends again s r Other e last = absurd (false≢true last)

module _ (input : List ℕ) (at : ℕ) (m : List ℕ) (s : Survey) (w : Walked input at m s) where
  pub walk_counted : at < 2 ^ 63 → Counted s
  walk_counted room =
      let all = count input w.passed m s w.notes in
      let lanes = filter_map_length model.lane_in (said w.passed) in
      let waits = filter_map_length model.wait_in (said w.passed) in
      let tables = filter_map_length model.factors_in (said w.passed) in
      let defaults = filter_map_length model.default_in (said w.passed) in
      let jobs = filter_map_length model.job_in (said w.passed) in
      record {
        records = omega (arith, w.notes.records, w.few);
        lanes = omega (arith, w.notes.lanes);
        waits = omega (arith, w.notes.waits);
        tables = omega (arith, w.notes.tables);
        defaults = omega (arith, w.notes.defaults);
        jobs = omega (arith, w.notes.jobs);
        places = rw w.notes.places (few_places_lem (opening (said w.passed)).places);
      }

  pub walk_lies : (r : declared.Record.Record) → read_at input at ≡ Some (Ok r) → LiesIn input r
  walk_lies r e = (frame_whole input at w.inside r e).lies

  pub walk_again : (r : declared.Record.Record) → read_at input at ≡ Some (Ok r) → (i : Item) → Says input r i
      → (marks : List ℕ) (t : Survey) → Noted m s i marks t → Walked input r.end marks t
  unfolding push
  walk_again r e i says marks t step =
      let is = frame_whole input at w.inside r e in
      let rest = (frame (drop r.end input)).records in
      record {
        inside = is.lies.ends;
        passed = w.passed ++ (record_in input r ∷ []);
        split = w.split ∙ ap (λ (f : Framed). w.passed ++ f.records) is.framed ∙ sym (append_snoc w.passed (record_in input r) rest);
        broken = w.broken ∙ ap (λ (f : Framed). f.broken) is.framed;
        few = omega (arith, length-append w.passed (record_in input r ∷ []), w.few, is.begins, is.lies.forward);
        notes = notes_again input w.passed m s w.notes r is.lies (omega (arith, is.begins)) i says marks t step;
        goals_end = λ last. rw step.survey (noted_ends (again_in s m i) s r i says.ends (rw step.survey at last));
      }

-- ---- The end

-- where all records fit, they say what is read of them
said_fits : (rs : List Record) → wrong_length rs ≡ false → said rs ≡ model.items rs
unfolding wrong_length any said said_of model.items
said_fits [] e = refl
said_fits (r ∷ rs) e =
    let own = neither (model.misfits r) _ e in
    ap₂ {C = List model.Item} ◌∷◌ (rw own.0) (said_fits rs own.1)

abbrev framed : List Record → Framed
framed rs = record { records = rs; broken = false }

-- what the records are given by themselves is the number of 1 to 4, 6 to 9 and 20
rows_form : (r : Record) (rs : List Record) (n : ℕ)
    → number_or no_number (item_rows (unknown_kind (model.items (r ∷ rs))) (wrong_length (r ∷ rs)) n (said (r ∷ rs)))
    ≡ number_or no_number (form_rows (framed (r ∷ rs)) ++ map_rows (placed n (stated (r ∷ rs))))
unfolding item_rows form_rows number_or stated model.items
rows_form r rs n = go (wrong_length (r ∷ rs)) refl
  where
    go : (t : Bool) → wrong_length (r ∷ rs) ≡ t
        → cond (unknown_kind (model.items (r ∷ rs))) 2
        (cond t 3 (cond (stray (said (r ∷ rs))) 4 (number_or no_number (map_rows (placed n (stated_by (said (r ∷ rs))))))))
        ≡ cond (unknown_kind (model.items (r ∷ rs))) 2
        (cond t 3 (cond (wrong_head (model.items (r ∷ rs))) 4 (number_or no_number (map_rows (placed n (stated_by (model.items (r ∷ rs))))))))
    go true e = refl
    go false e = rw (said_fits (r ∷ rs) e, stray-head (model.item_of r) (model.items rs))

module _ (input : List ℕ) (m : List ℕ) (s : Survey) where
  end_number : (rs : List Record) → Notes input rs m s
      → given_number (at_end s).refusal ≡ number_or no_number (form_rows (framed rs) ++ map_rows (placed s.places (stated rs)))
  unfolding at_end form_rows number_or unknown_kind wrong_length wrong_head model.items any begins_with_head
  end_number [] notes = rw notes.records
  end_number (r ∷ rs) notes =
      let some : eqb s.records 0 ≡ false = ne_eqb s.records 0 (λ z. omega (arith, notes.records)) in
      rw some (notes.number ∙ rows_form r rs s.places)

  -- where none of 1 to 4 holds, the survey states what the input does
  end_states : (rs : List Record) → frame input ≡ framed rs → Notes input rs m s
      → (s.job_last ≡ true → s.job.goals_at + 2 * s.job.goals ≡ length input)
      → first_that_holds (form_rows (framed rs)) ≡ 0 → Stating input m (at_end s)
  unfolding at_end form_rows holds_at any stated stated_by default
  end_states rs is notes ends none =
      let no = row_fails (form_rows (framed rs)) refl none in
      let fits : said rs ≡ model.items rs = said_fits rs (no 3) in
      let size : opening (said rs) ≡ (stated_by (model.items rs)).size = rw fits (opening_size (model.items rs) (no 4)) in
      record {
        places = rw is (notes.places ∙ ap (λ (z : model.Size). few_places z.places) size);
        arcs = rw is (notes.arcs ∙ ap (λ (z : model.Size). z.arcs) size);
        lanes = rw is (notes.lanes ∙ rw fits);
        waits = rw is (notes.waits ∙ rw fits);
        tables = rw is (notes.tables ∙ rw fits);
        factors = rw is (rw fits at notes.factors);
        default = rw is (notes.default ∙ rw fits);
        jobs = rw is (notes.jobs ∙ rw fits);
        job_last = rw is (notes.job_last ∙ rw fits);
        job = λ one. rw is (notes.job ∙ rw fits (last_one _ _ (model.items rs) (rw fits at (sym notes.jobs ∙ one))));
        goals_end = ends;
        estimated = λ v below. rw (is, notes.mark v, lt-ltb v s.places below, fits) (mark_two (filter_map model.estimate_in (model.items rs)) v);
      }

module _ (input : List ℕ) (at : ℕ) (m : List ℕ) (s : Survey) (w : Walked input at m s) where
  pub walk_broken : (r : Refusal) → read_at input at ≡ Some (Err r) → (t : Survey) → t.refusal ≡ Some r → Surveyed input m t
  unfolding stop form_rows number_or first_that_holds
  walk_broken r e t is =
      let found = frame_broken input at w.inside r e in
      let broken : (frame input).broken ≡ true = w.broken ∙ ap (λ (f : Framed). f.broken) found.1 in
      record { number = rw (is, found.0, broken); states = λ none. let z = rw broken at none in absurd (omega arith) }

  pub walk_end : read_at input at ≡ None → Surveyed input m (at_end s)
  unfolding stop at_end
  walk_end e =
      let is = frame_end input at w.inside e in
      let records = w.split ∙ ap (λ (f : Framed). w.passed ++ f.records) is.1 ∙ append-nil w.passed in
      let whole = w.broken ∙ ap (λ (f : Framed). f.broken) is.1 in
      let all : frame input ≡ framed w.passed = λ i. record { records = records i; broken = whole i } in
      record {
        number = rw all (end_number input m s w.passed w.notes);
        states = λ none. end_states input m s w.passed all w.notes (λ last. w.goals_end last ∙ is.0) (rw all at none);
      }
