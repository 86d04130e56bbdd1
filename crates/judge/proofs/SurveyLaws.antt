-- The survey of records with one record more. Assumes nothing.
use mathlib.Core.Path.{◌≡◌, refl, ap, ap₂, sym, ◌∙◌}
use mathlib.Core.Bool.{Bool, true, false, cond, not, ◌||◌, or-false, false≢true, true≢false}
use mathlib.Core.List.{List, [], ◌∷◌, ◌++◌, map, map-append, append-nil, head_d}
use mathlib.Core.Option.{Option, none, some}
use Prim.Native.Nat.{ℕ, suc, ◌+◌, ◌≤◌, ◌<◌, min}
use native.Mathlib.Omega.{arith}
use lib.Dec.{ltb, eqb}
use lib.ListN.{length, get_or, length-append, length-map}
use borrow.Author.Tests.{ltb-false, eqb-true, ne_eqb}
use Rattle.judge.specs.declared.survey.Survey.{Survey}
use Rattle.std.specs.Prelude.{Some, None}
use Rattle.judge.specs.Numbers.{no_number, number_or, given_number}
use Rattle.judge.specs.Marks.{mark_of, first_mark}
use Rattle.judge.specs.Survey.{given, few_places, passed, opened, with_head, with_lane, with_wait, with_factors, with_default, with_job}
use Rattle.judge.specs.Survey.{noted, again_in, marks_by, Noted, said_of, said, opening, stray, placed, item_rows, Notes}
use Rattle.model.proofs.Tests.{any_append, filter_map_append}
use Rattle.judge.proofs.NumberLaws.{joined_least}
use Rattle.judge.proofs.RefusalLaws.{earlier_least}
use Rattle.judge.proofs.MarkLaws.{mark_positive, marked-member, marked_after}
use Rattle.judge.proofs.ItemLaws.{ends_snoc, last_snoc, noted_size, size_after, opening_snoc, is_other, joined, Again, own_given, given_first}
use Rattle.judge.proofs.NoteLaws.{count_or, default_or, size_of, noted_one, places_kept, noted_factors, marks_length}
use Rattle.map.specs.declared.record as declared
use Rattle.map.specs.declared.record.Item.{Item}
use Rattle.map.specs.declared.record.Item.TheVariants.{Head, Lane, Measured, Estimate, Wait, Factors, Default, Job, Misfit, Other}
use Rattle.map.specs.declared.refusal.Refusal.TheVariants.{WrongHead}
use Rattle.map.specs.Records.{record_in}
use Rattle.map.specs.Items.{is_misfit, meant, LiesIn, Says}
use Rattle.model.specs.Framing.{Record}
use Rattle.model.specs.Items as model
use Rattle.model.specs.Limits.{max_places}
use Rattle.model.specs.Lists.{any, is_given, cons_if, filter_map, repeats}
use Rattle.model.specs.Refusals.{Row, places_in, unknown_kind, wrong_length, outside_map, free_arc, large_estimate, two_estimates, wrong_measure, map_rows}
use Rattle.model.specs.Stated.{stated_by}

-- ---- What a record says

nothing_meant : (input : List ℕ) (i : Item) → is_misfit i ≡ true → meant input i ≡ model.other
unfolding is_misfit meant
nothing_meant input (Head z) e = absurd (false≢true e)
nothing_meant input (Lane l) e = absurd (false≢true e)
nothing_meant input (Measured l) e = absurd (false≢true e)
nothing_meant input (Estimate e) f = absurd (false≢true f)
nothing_meant input (Wait w) e = absurd (false≢true e)
nothing_meant input (Factors at) e = absurd (false≢true e)
nothing_meant input (Default x) e = absurd (false≢true e)
nothing_meant input (Job j) e = absurd (false≢true e)
nothing_meant input Misfit e = refl
nothing_meant input Other e = absurd (false≢true e)

-- a body has a wrong length only where its kind has one
misfit_known : (r : Record) → model.misfits r ≡ true → is_given (model.body_length (model.item_of r)) ≡ true
unfolding model.misfits model.other_than is_given
misfit_known r e = go (model.body_length (model.item_of r)) e
  where
    go : (o : Option ℕ) → model.other_than o (length r.body) ≡ true → is_given o ≡ true
    go none e = absurd (false≢true e)
    go (some n) e = refl

module _ (input : List ℕ) (r : declared.Record.Record) (i : Item) (says : Says input r i) where
  said_is : said_of (record_in input r) ≡ meant input i
  unfolding said_of
  said_is = go (is_misfit i) refl
    where
      go : (t : Bool) → is_misfit i ≡ t → cond (model.misfits (record_in input r)) model.other (model.item_of (record_in input r)) ≡ meant input i
      go true e = rw (says.misfit, e) (sym (nothing_meant input i e))
      go false e = rw (says.misfit, e) (says.item e)

  unknown_is : not (is_given (model.body_length (model.item_of (record_in input r)))) ≡ is_other i
  unfolding is_misfit is_other meant model.body_length is_given
  unknown_is = go i says.misfit says.item
    where
      whole : Record
      whole = record_in input r

      go : (i : Item) → model.misfits whole ≡ is_misfit i → (is_misfit i ≡ false → model.item_of whole ≡ meant input i)
          → not (is_given (model.body_length (model.item_of whole))) ≡ is_other i
      go (Head z) e f = rw (f refl)
      go (Lane l) e f = rw (f refl)
      go (Measured l) e f = rw (f refl)
      go (Estimate x) e f = rw (f refl)
      go (Wait w) e f = rw (f refl)
      go (Factors at) e f = rw (f refl)
      go (Default x) e f = rw (f refl)
      go (Job j) e f = rw (f refl)
      go Misfit e f = rw (misfit_known whole e)
      go Other e f = rw (f refl)

-- ---- The survey of one record more

pub few_places_lem : (n : ℕ) → few_places n ≤ max_places
few_places_lem n = go (ltb max_places n) refl
  where
    go : (t : Bool) → ltb max_places n ≡ t → cond t 0 n ≤ max_places
    go true e = omega arith
    go false e = ltb-false max_places n e

pub nothing_yet : (t : Bool) → ◌≡◌ {A = ℕ} (cond t 0 0) 0
nothing_yet true = refl
nothing_yet false = refl

module _ (input : List ℕ) (rs : List Record) (m : List ℕ) (s : Survey) (notes : Notes input rs m s) where
  abbrev is : List model.Item
  is = said rs

  abbrev es : List model.PlaceValue
  es = filter_map model.estimate_in is

  pub count : length is ≡ s.records
  unfolding said
  count = length-map rs said_of ∙ sym notes.records

  none_yet : eqb s.records 0 ≡ true → rs ≡ []
  none_yet e = go rs (sym notes.records ∙ eqb-true s.records 0 e)
    where
      go : (xs : List Record) → length xs ≡ 0 → xs ≡ []
      go [] e = refl
      go (x ∷ xs) e = absurd (omega arith)

  marks_room : s.places ≤ length m
  marks_room = omega (arith, notes.places, few_places_lem (opening is).places, notes.room)

  -- the marks with one item more
  noted_marks : (again : Bool) (i : Item) (v : ℕ)
      → get_or (marks_by s.places m i) v 0
      ≡ cond (ltb v (noted again s i).places) (first_mark mark_of (es ++ filter_map model.estimate_in (meant input i ∷ [])) v) 0
  unfolding marks_by noted with_head with_lane with_wait with_factors with_default with_job meant filter_map cons_if model.estimate_in said first_mark
  noted_marks again (Head z) v = rw (append-nil es) (go (eqb s.records 0) refl)
    where
      go : (t : Bool) → eqb s.records 0 ≡ t
          → get_or m v 0 ≡ cond (ltb v (cond t (opened (passed s None) z) (passed s (Some WrongHead))).places) (first_mark mark_of es v) 0
      go true e =
          let none : es ≡ [] = ap (λ (rs : List Record). filter_map model.estimate_in (said rs)) (none_yet e) in
          let clear : get_or m v 0 ≡ 0 = notes.mark v ∙ rw none (nothing_yet (ltb v s.places)) in
          rw (clear, none) (sym (nothing_yet (ltb v (few_places z.places))))
      go false e = notes.mark v
  noted_marks again (Lane l) v = rw (append-nil es) (notes.mark v)
  noted_marks again (Measured l) v = rw (append-nil es) (notes.mark v)
  noted_marks again (Estimate e) v =
      let x : model.PlaceValue = record { place = e.place; value = e.value } in
      marked_after mark_of mark_positive s.places es m notes.mark marks_room x v
  noted_marks again (Wait w) v = rw (append-nil es) (notes.mark v)
  noted_marks again (Factors at) v = rw (append-nil es) (notes.mark v)
  noted_marks again (Default x) v = rw (append-nil es) (notes.mark v)
  noted_marks again (Job j) v = rw (append-nil es) (notes.mark v)
  noted_marks again Misfit v = rw (append-nil es) (notes.mark v)
  noted_marks again Other v = rw (append-nil es) (notes.mark v)

  -- there is a default already
  abbrev earlier : Bool
  earlier = not (eqb (length (filter_map model.default_in is)) 0)

  again_right : (i : Item) → Again s.places (places_in es) earlier (again_in s m i) i
  unfolding again_in
  again_right i =
      record {
        estimate = λ e f inside. rw f (marked-member mark_of mark_positive s.places es m notes.mark e.place inside);
        default = λ x f. rw (f, notes.defaults);
      }

  -- the number of one item more
  module _ (i : Item) where
    abbrev again : Bool
    again = again_in s m i

    abbrev rows_before : ℕ → List Row
    rows_before n = item_rows (unknown_kind (model.items rs)) (wrong_length rs) n is

    abbrev rows_after : ℕ → List Row
    rows_after n = item_rows (unknown_kind (model.items rs) || is_other i) (wrong_length rs || is_misfit i) n (is ++ (meant input i ∷ []))

    least : (t : Bool) → eqb s.records 0 ≡ t → (n : ℕ) → (t ≡ false → Again n (places_in es) earlier again i)
        → min (number_or no_number (rows_before n)) (given_number (given t n again i)) ≡ number_or no_number (rows_after n)
    least t e n right =
        let first : eqb (length is) 0 ≡ t = rw count e in
        rw (← own_given input n (places_in es) earlier again t i right)
        (rw first at (joined_least no_number (joined (unknown_kind (model.items rs)) (wrong_length rs) (is_other i) (is_misfit i) n is (meant input i))))

    -- before the first record the map's places do not count
    no_rows : rs ≡ [] → (n : ℕ) → number_or no_number (rows_before n) ≡ no_number
    unfolding item_rows number_or said model.items unknown_kind wrong_length stray map_rows placed stated_by outside_map free_arc large_estimate
        two_estimates wrong_measure
        filter_map any repeats
    no_rows e n = rw e

    noted_rows : given_number (noted again s i).refusal ≡ number_or no_number (rows_after (noted again s i).places)
    noted_rows =
        ap (λ (t : Survey). given_number t.refusal) (noted_one input again s i).fields
        ∙ earlier_least s.refusal (given (eqb s.records 0) s.places again i)
        ∙ go (eqb s.records 0) refl
      where
        go : (t : Bool) → eqb s.records 0 ≡ t
            → min (given_number s.refusal) (given_number (given t s.places again i)) ≡ number_or no_number (rows_after (noted again s i).places)
        go true e =
            let n = (noted again s i).places in
            let none = none_yet e in
            let number : given_number s.refusal ≡ number_or no_number (rows_before n) = notes.number ∙ no_rows none s.places ∙ sym (no_rows none n) in
            ap₂ min number (ap given_number (given_first s.places n again again i)) ∙ least true e n (λ later. absurd (true≢false later))
        go false e =
            ap (λ (x : ℕ). min x (given_number (given false s.places again i))) notes.number
            ∙ least false e s.places (λ later. again_right i)
            ∙ ap (λ (n : ℕ). number_or no_number (rows_after n)) (sym (places_kept input again s i e))

-- the survey of the records so far becomes that of one record more
module _ (input : List ℕ) (rs : List Record) (m : List ℕ) (s : Survey) (notes : Notes input rs m s) (r : declared.Record.Record)
    (lies : LiesIn input r) (behind : 0 < r.start) (i : Item) (says : Says input r i) where
  abbrev more : List Record
  more = rs ++ (record_in input r ∷ [])

  said_more : said more ≡ said rs ++ (meant input i ∷ [])
  unfolding said
  said_more = map-append said_of rs (record_in input r ∷ []) ∙ rw (said_is input r i says)

  unknown_more : unknown_kind (model.items more) ≡ (unknown_kind (model.items rs) || is_other i)
  unfolding unknown_kind model.items any
  unknown_more =
      rw (map-append model.item_of rs (record_in input r ∷ []), any_append _ (map model.item_of rs) (model.item_of (record_in input r) ∷ []))
      (rw (unknown_is input r i says, or-false (is_other i)))

  misfit_more : wrong_length more ≡ (wrong_length rs || is_misfit i)
  unfolding wrong_length any
  misfit_more = any_append model.misfits rs (record_in input r ∷ []) ∙ rw (says.misfit, or-false (is_misfit i))

  -- a count with one item more
  counts : {A : Type 0} (pick : model.Item → Option A) {n : ℕ} → n ≡ length (filter_map pick (said rs))
      → count_or n (pick (meant input i)) ≡ length (filter_map pick (said more))
  unfolding filter_map cons_if
  counts {A} pick {n} all =
      rw (said_more, filter_map_append pick (said rs) (meant input i ∷ []), length-append (filter_map pick (said rs)) _, ← all)
      (go (pick (meant input i)))
    where
      go : (o : Option A) → count_or n o ≡ n + length (cons_if o [])
      go none = omega arith
      go (some x) = omega arith

  -- the first item states the size
  size_more : size_after (eqb s.records 0) (size_of s) (model.size_in (meant input i)) ≡ noted_size (opening (said more))
  size_more =
      let now : size_of s ≡ noted_size (opening (said rs)) = λ k. record { places = notes.places k; arcs = notes.arcs k } in
      rw (now, ← count input rs m s notes, said_more) (opening_snoc (said rs) (meant input i))

  -- the first default stays in force
  default_more : default_or s.defaults s.default (model.default_in (meant input i)) ≡ head_d (filter_map model.default_in (said more)) 0
  unfolding filter_map cons_if head_d
  default_more =
      rw (said_more, filter_map_append, notes.defaults, notes.default)
      (go (filter_map model.default_in (said rs)) (model.default_in (meant input i)))
    where
      go : (xs : List ℕ) (o : Option ℕ) → default_or (length xs) (head_d xs 0) o ≡ head_d (xs ++ cons_if o []) 0
      go xs none = rw (append-nil xs)
      go [] (some x) = refl
      go (y ∷ ys) (some x) = rw (ne_eqb (suc (length ys)) 0 λ z. omega arith)

  pub notes_again : (marks : List ℕ) (t : Survey) → Noted m s i marks t → Notes input more marks t
  notes_again marks t step =
      let again = again_in s m i in
      let one = noted_one input again s i in
      let same = one.fields in
      let tables = filter_map model.factors_in (said rs) in
      let table = noted_factors input again s tables notes.tables notes.factors r lies behind i says in
      rw step.survey
      (record {
        number = rw (unknown_more, misfit_more, said_more) (noted_rows input rs m s notes i);
        records = ap (λ (t : Survey). t.records) same ∙ rw (notes.records, length-append);
        places = ap (λ (t : Survey). t.places) same ∙ ap (λ (z : model.Size). z.places) size_more;
        arcs = ap (λ (t : Survey). t.arcs) same ∙ ap (λ (z : model.Size). z.arcs) size_more;
        lanes = ap (λ (t : Survey). t.lanes) same ∙ counts model.lane_in notes.lanes;
        waits = ap (λ (t : Survey). t.waits) same ∙ counts model.wait_in notes.waits;
        tables = ap (λ (t : Survey). t.tables) same ∙ counts model.factors_in notes.tables;
        factors = rw (said_more, filter_map_append) table;
        defaults = ap (λ (t : Survey). t.defaults) same ∙ counts model.default_in notes.defaults;
        default = ap (λ (t : Survey). t.default) same ∙ default_more;
        jobs = ap (λ (t : Survey). t.jobs) same ∙ counts model.job_in notes.jobs;
        job_last = ap (λ (t : Survey). t.job_last) same ∙ rw (said_more, ends_snoc);
        job = one.job ∙ rw (notes.job, said_more, last_snoc);
        room = ap length step.mark ∙ marks_length s.places m i ∙ notes.room;
        mark = λ v. rw step.mark (noted_marks input rs m s notes again i v ∙ rw (said_more, filter_map_append));
      })
