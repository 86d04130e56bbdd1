-- What a record says, kind by kind, read from the whole input. Assumes nothing.
use mathlib.Core.Path.{◌≡◌, refl, sym, ap, ◌∙◌}
use mathlib.Core.Bool.{Bool, true, false, cond, not, ◌&&◌, ◌||◌, true≢false}
use mathlib.Core.List.{List}
use mathlib.Core.Logic.{◌≢◌}
use mathlib.Core.Option.{some}
use Prim.Native.Nat.{ℕ, ◌+◌, ◌-◌, ◌*◌, ◌≤◌}
use native.Mathlib.Omega.{arith}
use lib.Dec.{ltb, eqb}
use lib.ListN.{length, drop, length-take, length-drop}
use borrow.Author.Tests.{eq-eqb, ne_eqb, eqb-true, eqb-false, ltb-true, ltb-false, not-false}
use Rattle.map.specs.declared.record as declared
use Rattle.map.specs.declared.record.Record.{Record}
use Rattle.map.specs.declared.record.Item.{Item}
use Rattle.map.specs.declared.record.Item.TheVariants.{Head, Lane, Measured, Estimate, Wait, Factors, Default, Job, Misfit, Other}
use Rattle.map.specs.Records.{record_in}
use Rattle.map.specs.Items.{size_at, estimate_body_at, wait_body_at, job_at, is_misfit, lane_meant, measured_meant, job_of, meant, start_by, end_by}
use Rattle.map.specs.Items.{LiesIn, FitsIn, Says}
use Rattle.map.proofs.Parts.{u16-drop, u32-drop, u16_part, u32_part, u16s_part}
use Rattle.model.specs.Bytes.{u16, u32}
use Rattle.model.specs.Framing as framing
use Rattle.model.specs.Items as model
use Rattle.model.proofs.Bytes.{u16s-length}
use Rattle.model.proofs.Lists.{neither, both}
use Rattle.model.proofs.Items.{KindOf, is-head, is_lane, is_measured, is_estimate, is_wait, is_factors, is_default, is_job_lem, is_other_lem, kind_of}
use Rattle.model.proofs.Items.{head_item, lane_item, measured_item, estimate_item, wait_item, factors_item, default_item, job_item, other_item}

-- the fields of a body that begins at byte `at`, in the input
module _ (input : List ℕ) (at : ℕ) where
  pub size_at_lem : size_at input at ≡ record { places = u16 input (at + 0); arcs = u16 input (at + 2) }
  unfolding size_at model.head_of
  size_at_lem = rw (u16-drop at input 0 (at + 0) refl, u16-drop at input 2 (at + 2) refl)

  pub lane_at : model.lane_of (drop at input)
      ≡ record { from = u16 input (at + 0); to = u16 input (at + 2); charge = model.flat (u16 input (at + 4)) }
  unfolding model.lane_of
  lane_at = rw (u16-drop at input 0 (at + 0) refl, u16-drop at input 2 (at + 2) refl, u16-drop at input 4 (at + 4) refl)

  pub measured_at : model.measured_of (drop at input)
      ≡ record { from = u16 input (at + 0); to = u16 input (at + 2); charge = model.measured (u16 input (at + 4)) (u16 input (at + 6)) }
  unfolding model.measured_of
  measured_at =
      rw (
        u16-drop at input 0 (at + 0) refl,
        u16-drop at input 2 (at + 2) refl,
        u16-drop at input 4 (at + 4) refl,
        u16-drop at input 6 (at + 6) refl,
      )

  pub estimate_at_lem : estimate_body_at input at ≡ record { place = u16 input (at + 0); value = u32 input (at + 2) }
  unfolding estimate_body_at model.estimate_of
  estimate_at_lem = rw (u16-drop at input 0 (at + 0) refl, u32-drop at input 2 (at + 2) refl)

  pub wait_at_lem : wait_body_at input at ≡ record { place = u16 input (at + 0); value = u16 input (at + 2) }
  unfolding wait_body_at model.wait_of
  wait_at_lem = rw (u16-drop at input 0 (at + 0) refl, u16-drop at input 2 (at + 2) refl)

  pub job_at_lem : (len : ℕ)
      → job_at input at len
      ≡ cond (ltb len model.job_bytes || not (eqb len (model.job_bytes + 2 * u16 input (at + 6)))) Misfit
      (Job (record { start = u16 input (at + 0); allowance = u32 input (at + 2); goals = u16 input (at + 6); goals_at = at + model.job_bytes }))
  unfolding job_at model.job_of
  job_at_lem len =
      rw (
        u16s-length (u16 (drop at input) 6) (drop at input) 8,
        u16-drop at input 0 (at + 0) refl,
        u32-drop at input 2 (at + 2) refl,
        u16-drop at input 6 (at + 6) refl,
      )

-- kind and length are looked at together
both_are : (k kind n size : ℕ) → eqb k kind && eqb n size ≡ true → (k ≡ kind) × (n ≡ size)
both_are k kind n size e = let are = both (eqb k kind) (eqb n size) e in (eqb-true k kind are.0, eqb-true n size are.1)

not_both : (k kind n size : ℕ) → eqb k kind && eqb n size ≡ false → k ≡ kind → n ≢ size
not_both k kind n size e p q = true≢false (rw (eq-eqb k kind p, eq-eqb n size q) at e)

-- the kinds from 1 to 8 are the papers'
first_kinds : (k : ℕ) → model.head_kind ≤ k → k ≢ model.head_kind → k ≢ model.arc_kind → k ≢ model.estimate_kind → model.job_kind ≤ k
first_kinds k low a b c = omega (arith, a, b, c)

later_kinds : (k : ℕ) → model.job_kind ≤ k → k ≢ model.job_kind → k ≢ model.measured_kind → model.wait_kind ≤ k
later_kinds k low a b = omega (arith, a, b)

last_kinds : (k : ℕ) → model.wait_kind ≤ k → k ≤ model.default_kind → k ≢ model.wait_kind → k ≢ model.factors_kind → k ≢ model.default_kind → ⊥
last_kinds k low high a b c = omega (arith, a, b, c)

module _ (input : List ℕ) (r : Record) (lies : LiesIn input r) where
  abbrev whole : framing.Record
  whole = record_in input r

  abbrev len : ℕ
  len = r.end - r.start

  body_length_lem : length whole.body ≡ len
  body_length_lem = let forward = lies.forward in let ends = lies.ends in simp (length-take, length-drop) (omega arith)

  misfits_by : (i : model.Item) (n : ℕ) → model.item_of whole ≡ i → model.body_length i ≡ some n → model.misfits whole ≡ not (eqb len n)
  unfolding model.misfits model.other_than
  misfits_by i n is long = rw (is, long, body_length_lem)

  -- a body of another length than its kind has
  misfit_says : (i : model.Item) (n : ℕ) → model.item_of whole ≡ i → model.body_length i ≡ some n → len ≢ n → Says input r Misfit
  unfolding is_misfit start_by end_by
  misfit_says i n is long h =
      record { misfit = misfits_by i n is long ∙ rw (ne_eqb len n h); item = λ e. absurd (true≢false e); begins = refl; ends = refl }

  fitting_says : (i : Item) (n : ℕ) → model.item_of whole ≡ meant input i → model.body_length (meant input i) ≡ some n → len ≡ n
      → is_misfit i ≡ false → start_by r i ≡ r.start → end_by r i ≡ r.end → Says input r i
  fitting_says i n is long h fits begins ends =
      record { misfit = misfits_by (meant input i) n is long ∙ rw (eq-eqb len n h, fits); item = λ e. is; begins = begins; ends = ends }

  -- a record of this kind and length
  abbrev Fits : ℕ → ℕ → Type 0
  Fits kind size = eqb r.kind kind && eqb len size ≡ true

  abbrev FitsNot : ℕ → ℕ → Type 0
  FitsNot kind size = eqb r.kind kind && eqb len size ≡ false

  pub body_within : (kind size : ℕ) → Fits kind size → r.start + size ≤ length input
  body_within kind size fits =
      let h = (both_are r.kind kind len size fits).1 in
      omega (arith, lies.forward, lies.ends)

  -- a head of four bytes
  pub head_says : Fits model.head_kind model.head_bytes → Says input r (Head (size_at input r.start))
  unfolding model.head_of model.body_length meant is_misfit start_by end_by
  head_says fits =
      let (kind, h) = both_are r.kind model.head_kind len model.head_bytes fits in
      let field = u16_part input r.start len in
      let places = field 0 (r.start + 0) (omega arith) refl in
      let arcs = field 2 (r.start + 2) (omega arith) refl in
      rw (size_at_lem input r.start) (fitting_says (Head _) _ (head_item whole kind ∙ rw (places, arcs)) refl h refl refl (omega arith))

  -- an arc of six
  lane_body : len ≡ model.arc_bytes → model.lane_of whole.body ≡ model.lane_of (drop r.start input)
  unfolding model.lane_of
  lane_body h =
      let field = u16_part input r.start len in
      let from = field 0 (r.start + 0) (omega arith) refl in
      let to = field 2 (r.start + 2) (omega arith) refl in
      let cost = field 4 (r.start + 4) (omega arith) refl in
      rw (from, to, cost) (sym (lane_at input r.start))

  pub lane_says : Fits model.arc_kind model.arc_bytes → (l : declared.Lane.Lane) → lane_meant l ≡ model.lane_of (drop r.start input)
      → Says input r (Lane l)
  unfolding model.body_length model.charge_bytes meant is_misfit start_by end_by
  lane_says fits l is =
      let (kind, h) = both_are r.kind model.arc_kind len model.arc_bytes fits in
      fitting_says (Lane l) _ (lane_item whole kind ∙ ap model.lane (lane_body h ∙ sym is)) refl h refl refl (omega arith)

  -- an arc of eight, with a length and a class
  measured_body : len ≡ model.measured_bytes → model.measured_of whole.body ≡ model.measured_of (drop r.start input)
  unfolding model.measured_of
  measured_body h =
      let field = u16_part input r.start len in
      let from = field 0 (r.start + 0) (omega arith) refl in
      let to = field 2 (r.start + 2) (omega arith) refl in
      let long = field 4 (r.start + 4) (omega arith) refl in
      let class = field 6 (r.start + 6) (omega arith) refl in
      rw (from, to, long, class) (sym (measured_at input r.start))

  pub measured_says : Fits model.measured_kind model.measured_bytes → (l : declared.MeasuredLane.MeasuredLane)
      → measured_meant l ≡ model.measured_of (drop r.start input) → Says input r (Measured l)
  unfolding model.body_length model.charge_bytes meant is_misfit start_by end_by
  measured_says fits l is =
      let (kind, h) = both_are r.kind model.measured_kind len model.measured_bytes fits in
      fitting_says (Measured l) _ (measured_item whole kind ∙ ap model.lane (measured_body h ∙ sym is)) refl h refl refl (omega arith)

  -- an estimate of six
  pub estimate_says : Fits model.estimate_kind model.estimate_bytes → Says input r (Estimate (estimate_body_at input r.start))
  unfolding model.estimate_of model.body_length meant is_misfit start_by end_by
  estimate_says fits =
      let (kind, h) = both_are r.kind model.estimate_kind len model.estimate_bytes fits in
      let place = u16_part input r.start len 0 (r.start + 0) (omega arith) refl in
      let value = u32_part input r.start len 2 (r.start + 2) (omega arith) refl in
      rw (estimate_at_lem input r.start) (fitting_says (Estimate _) _ (estimate_item whole kind ∙ rw (place, value)) refl h refl refl (omega arith))

  -- a wait of four
  pub wait_says : Fits model.wait_kind model.wait_bytes → Says input r (Wait (wait_body_at input r.start))
  unfolding model.wait_of model.body_length meant is_misfit start_by end_by
  wait_says fits =
      let (kind, h) = both_are r.kind model.wait_kind len model.wait_bytes fits in
      let field = u16_part input r.start len in
      let place = field 0 (r.start + 0) (omega arith) refl in
      let value = field 2 (r.start + 2) (omega arith) refl in
      rw (wait_at_lem input r.start) (fitting_says (Wait _) _ (wait_item whole kind ∙ rw (place, value)) refl h refl refl (omega arith))

  -- factors of sixteen
  pub factors_says : Fits model.factors_kind model.factors_bytes → Says input r (Factors r.start)
  unfolding model.factors_of model.body_length meant is_misfit start_by end_by
  factors_says fits =
      let (kind, h) = both_are r.kind model.factors_kind len model.factors_bytes fits in
      let factors = u16s_part input r.start len 8 0 r.start (omega arith) (omega arith) in
      fitting_says (Factors _) _ (factors_item whole kind ∙ rw factors) refl h refl refl (omega arith)

  -- a default of four
  pub default_says : Fits model.default_kind model.default_bytes → Says input r (Default (u32 input r.start))
  unfolding model.default_of model.body_length meant is_misfit start_by end_by
  default_says fits =
      let (kind, h) = both_are r.kind model.default_kind len model.default_bytes fits in
      let value = u32_part input r.start len 0 r.start (omega arith) (omega arith) in
      fitting_says (Default _) _ (default_item whole kind ∙ rw value) refl h refl refl (omega arith)

  -- a job of eight, and of two more for each goal
  module _ (kind : r.kind ≡ model.job_kind) where
    goal_count : model.job_bytes ≤ len → u16 whole.body 6 ≡ u16 input (r.start + 6)
    goal_count h = u16_part input r.start len 6 (r.start + 6) (omega arith) refl

    job_length : model.body_length (model.job (model.job_of whole.body)) ≡ some (model.job_bytes + 2 * u16 whole.body 6)
    unfolding model.body_length model.job_of
    job_length = rw u16s-length

    job_fits : (fields : declared.JobFields.JobFields) → fields ≡ record {
      start = u16 input (r.start + 0);
      allowance = u32 input (r.start + 2);
      goals = u16 input (r.start + 6);
      goals_at = r.start + model.job_bytes;
    } → model.job_bytes ≤ len → len ≡ model.job_bytes + 2 * u16 input (r.start + 6) → Says input r (Job fields)
    unfolding model.job_of model.body_length meant job_of is_misfit start_by end_by
    job_fits fields are long exact =
        let start = u16_part input r.start len 0 (r.start + 0) (omega arith) refl in
        let allowance = u32_part input r.start len 2 (r.start + 2) (omega arith) refl in
        let count = goal_count long in
        let goals = u16s_part input r.start len (u16 input (r.start + 6)) 8 (r.start + 8) (omega arith) refl in
        let said : model.item_of whole ≡ meant input (Job fields) = job_item whole kind ∙ rw (start, allowance, count, goals, are) in
        let size : model.body_length (meant input (Job fields)) ≡ some len
        = ap model.body_length (sym said ∙ job_item whole kind) ∙ job_length ∙ rw (count, ← exact) in
        fitting_says (Job fields) len said size refl refl refl (rw are (omega (arith, lies.forward)))

    pub job_says : Says input r (job_at input r.start len)
    job_says = rw (job_at_lem input r.start len) (go (ltb len model.job_bytes) (eqb len (model.job_bytes + 2 * u16 input (r.start + 6))) refl refl)
      where
        fields : declared.JobFields.JobFields
        fields = record {
          start = u16 input (r.start + 0);
          allowance = u32 input (r.start + 2);
          goals = u16 input (r.start + 6);
          goals_at = r.start + model.job_bytes;
        }

        go : (a b : Bool) → ltb len model.job_bytes ≡ a → eqb len (model.job_bytes + 2 * u16 input (r.start + 6)) ≡ b
            → Says input r (cond (a || not b) Misfit (Job fields))
        go true b e f = misfit_says _ _ (job_item whole kind) job_length λ exact. omega (arith, ltb-true len _ e)
        go false false e f =
            let long : model.job_bytes ≤ len = ltb-false len _ e in
            misfit_says _ _ (job_item whole kind) job_length λ exact. eqb-false len _ f (exact ∙ rw (goal_count long))
        go false true e f = job_fits fields refl (ltb-false len _ e) (eqb-true len _ f)

  -- any other kind
  pub other_says : r.kind ≢ model.head_kind → r.kind ≢ model.arc_kind → r.kind ≢ model.estimate_kind → r.kind ≢ model.job_kind
      → r.kind ≢ model.measured_kind → r.kind ≢ model.wait_kind → r.kind ≢ model.factors_kind → r.kind ≢ model.default_kind
      → Says input r Other
  unfolding model.misfits model.body_length model.other_than meant is_misfit start_by end_by
  other_says a b c d e f g h =
      let is = other_item whole a b c d e f g h in
      record { misfit = rw is; item = λ e. is; begins = refl; ends = refl }

  abbrev outside : Bool
  outside = ltb r.kind model.head_kind || ltb model.default_kind r.kind

  pub outside_says : outside ≡ true → Says input r Other
  outside_says out = other_says (apart refl) (apart refl) (apart refl) (apart refl) (apart refl) (apart refl) (apart refl) (apart refl)
    where
      apart : {k : ℕ} → (ltb k model.head_kind || ltb model.default_kind k) ≡ false → r.kind ≢ k
      apart inside is = true≢false (sym out ∙ rw is inside)

  -- a kind of fixed length, and another length than that
  pub none_fits : outside ≡ false → r.kind ≢ model.job_kind → FitsNot model.head_kind model.head_bytes → FitsNot model.arc_kind model.arc_bytes
      → FitsNot model.estimate_kind model.estimate_bytes → FitsNot model.measured_kind model.measured_bytes → FitsNot model.wait_kind model.wait_bytes
      → FitsNot model.factors_kind model.factors_bytes → FitsNot model.default_kind model.default_bytes → Says input r Misfit
  unfolding model.body_length model.charge_bytes model.lane_of model.measured_of
  none_fits inside no_job no-head no-lane no_estimate no-measured no-wait no-factors no_default_lem = go (kind_of whole)
    where
      go : {i : model.Item} → KindOf whole i → Says input r Misfit
      go (is-head k) = misfit_says _ _ (head_item whole k) refl (not_both _ _ _ _ no-head k)
      go (is_lane k) = misfit_says _ _ (lane_item whole k) refl (not_both _ _ _ _ no-lane k)
      go (is_measured k) = misfit_says _ _ (measured_item whole k) refl (not_both _ _ _ _ no-measured k)
      go (is_estimate k) = misfit_says _ _ (estimate_item whole k) refl (not_both _ _ _ _ no_estimate k)
      go (is_wait k) = misfit_says _ _ (wait_item whole k) refl (not_both _ _ _ _ no-wait k)
      go (is_factors k) = misfit_says _ _ (factors_item whole k) refl (not_both _ _ _ _ no-factors k)
      go (is_default k) = misfit_says _ _ (default_item whole k) refl (not_both _ _ _ _ no_default_lem k)
      go (is_job_lem k) = absurd (no_job k)
      go (is_other_lem a b c d e f g h) =
          let range = neither (ltb r.kind model.head_kind) _ inside in
          let low = first_kinds r.kind (ltb-false r.kind model.head_kind range.0) a b c in
          absurd (last_kinds r.kind (later_kinds r.kind low d e) (ltb-false model.default_kind r.kind range.1) f g h)

-- a record of a kind that fits has its length
module _ (input : List ℕ) (r : Record) (can : FitsIn input r) where
  fitting : (i : model.Item) (kind size : ℕ) → model.item_of (whole input r can.lies) ≡ i → model.body_length i ≡ some size → r.kind ≡ kind
      → Fits input r can.lies kind size
  fitting i kind size is long k =
      let fits = not-false (eqb (len input r can.lies) size) (sym (misfits_by input r can.lies i size is long) ∙ can.fits) in
      rw (eq-eqb r.kind kind k, fits)

  pub head-fits : r.kind ≡ model.head_kind → Fits input r can.lies model.head_kind model.head_bytes
  unfolding model.body_length
  head-fits k = fitting _ _ _ (head_item _ k) refl k

  pub lane_fits : r.kind ≡ model.arc_kind → Fits input r can.lies model.arc_kind model.arc_bytes
  unfolding model.body_length model.charge_bytes model.lane_of
  lane_fits k = fitting _ _ _ (lane_item _ k) refl k

  pub measured_fits : r.kind ≡ model.measured_kind → Fits input r can.lies model.measured_kind model.measured_bytes
  unfolding model.body_length model.charge_bytes model.measured_of
  measured_fits k = fitting _ _ _ (measured_item _ k) refl k

  pub estimate_fits : r.kind ≡ model.estimate_kind → Fits input r can.lies model.estimate_kind model.estimate_bytes
  unfolding model.body_length
  estimate_fits k = fitting _ _ _ (estimate_item _ k) refl k

  pub wait_fits : r.kind ≡ model.wait_kind → Fits input r can.lies model.wait_kind model.wait_bytes
  unfolding model.body_length
  wait_fits k = fitting _ _ _ (wait_item _ k) refl k

  pub default_fits : r.kind ≡ model.default_kind → Fits input r can.lies model.default_kind model.default_bytes
  unfolding model.body_length
  default_fits k = fitting _ _ _ (default_item _ k) refl k

  pub factors_fits : r.kind ≡ model.factors_kind → Fits input r can.lies model.factors_kind model.factors_bytes
  unfolding model.body_length
  factors_fits k = fitting _ _ _ (factors_item _ k) refl k
