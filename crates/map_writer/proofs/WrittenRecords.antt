-- The records that are written of what is stated. Where its fields fit in theirs, they are bytes and are framed as those records. Assumes nothing.
use mathlib.Core.Path.{◌≡◌, refl, sym}
use mathlib.Core.Bool.{false}
use mathlib.Core.List.{List, [], ◌∷◌, ◌++◌, map, flat_map, append-nil, append_assoc}
use mathlib.Core.List.Memᴰ
use mathlib.Core.List.{Memᴰ}
use Prim.Native.Nat.{ℕ, ◌+◌, ◌*◌, ◌^◌, ◌≤◌, ◌<◌}
use native.Mathlib.Omega.{arith}
use lib.ListN.{length}
use Rattle.model.specs.Lists.{same_numbers}
use Rattle.model.specs.Bytes.{Bytes, put16, put32, put16s}
use Rattle.model.specs.Framing.{Record, frame, put_record}
use Rattle.model.specs.Limits.{max_estimate}
use Rattle.model.specs.Items.{head_kind, arc_kind, estimate_kind, job_kind, measured_kind, wait_kind, factors_kind, default_kind, factors_bytes, job_bytes}
use Rattle.model.specs.Items.{Size, Charge, flat, measured, Lane, PlaceValue, Job}
use Rattle.model.specs.Stated.{Stated, fixed_factors, IsTable}
use Rattle.model.specs.Jobs.{put_head, put_arc, put_measured, put_estimate, put_wait, put_factors, put_table, put_default, put_job, put_charged, put_lane}
use Rattle.model.proofs.Bytes.{append_bytes, put16_is_bytes, put32_is_bytes, put16s_is_bytes, put16s-length}
use Rattle.model.proofs.Records.{put_records, Fits, AllFit, frame_records}
use Rattle.map_writer.specs.Canonical.{put_stated}
use Rattle.map_writer.proofs.AtMostOne.{one_unless, unless_few, unless_member, unless_put}

-- ---- what fits in the bytes of its fields

abbrev pub StorableCharge : Charge → Type 0
StorableCharge (flat cost) = cost < 65536
StorableCharge (measured length class) = (length < 65536) × (class < 65536)

pub record StorableLane (l : Lane) : Type 0 where
  pub from : l.from < 65536
  pub to : l.to < 65536
  pub charge : StorableCharge l.charge

-- an estimate or a wait, below what its field holds
pub record StorableValue (end : ℕ) (x : PlaceValue) : Type 0 where
  pub place : x.place < 65536
  pub value : x.value < end

pub record StorableJob (j : Job) : Type 0 where
  pub start : j.start < 65536
  pub allowance : j.allowance < 2 ^ 32
  pub goals : (g : ℕ) → Memᴰ g j.goals → g < 65536
  pub few_goals : job_bytes + 2 * length j.goals < 65536

pub record Storable (t : Stated) : Type 0 where
  pub places : t.size.places < 65536
  pub arcs : t.size.arcs < 65536
  pub lanes : (l : Lane) → Memᴰ l t.lanes → StorableLane l
  pub estimates : (e : PlaceValue) → Memᴰ e t.estimates → StorableValue (2 ^ 32) e
  pub waits : (w : PlaceValue) → Memᴰ w t.waits → StorableValue 65536 w
  pub factors : IsTable t.factors
  pub defaults : (x : ℕ) → Memᴰ x t.defaults → x ≤ max_estimate
  pub job : StorableJob t.job
  -- no record states another
  pub growth : t.growth ≡ 2

-- ---- the records

unfoldable pub head_record : Size → Record
head_record s = record { kind = head_kind; body = put16 s.places ++ put16 s.arcs }

unfoldable pub charged_record : (from to : ℕ) → Charge → Record
charged_record u v (flat cost) = record { kind = arc_kind; body = put16 u ++ put16 v ++ put16 cost }
charged_record u v (measured length class) = record { kind = measured_kind; body = put16 u ++ put16 v ++ put16 length ++ put16 class }

unfoldable pub lane_record : Lane → Record
lane_record l = charged_record l.from l.to l.charge

unfoldable pub estimate_record : PlaceValue → Record
estimate_record e = record { kind = estimate_kind; body = put16 e.place ++ put32 e.value }

unfoldable pub wait_record : PlaceValue → Record
wait_record w = record { kind = wait_kind; body = put16 w.place ++ put16 w.value }

unfoldable pub factors_record : List ℕ → Record
factors_record fs = record { kind = factors_kind; body = put16s fs }

-- the tables that are written: one, where it is not the fixed one
unfoldable pub tables_of : List ℕ → List (List ℕ)
tables_of fs = one_unless (same_numbers fs fixed_factors) fs

unfoldable pub default_record : ℕ → Record
default_record x = record { kind = default_kind; body = put32 x }

unfoldable pub job_record : Job → Record
job_record j = record { kind = job_kind; body = put16 j.start ++ put32 j.allowance ++ put16 (length j.goals) ++ put16s j.goals }

unfoldable pub records_of : Stated → List Record
records_of t =
    head_record t.size
    ∷ (map lane_record t.lanes
    ++ (map estimate_record t.estimates
    ++ (map wait_record t.waits
    ++ (map factors_record (tables_of t.factors) ++ (map default_record t.defaults ++ (job_record t.job ∷ []))))))

module _ (fs : List ℕ) where
  pub tables_few : length (tables_of fs) ≤ 1
  unfolding tables_of
  tables_few = unless_few fs (same_numbers fs fixed_factors)

  pub tables_member : (gs : List ℕ) → Memᴰ gs (tables_of fs) → gs ≡ fs
  unfolding tables_of
  tables_member = unless_member fs (same_numbers fs fixed_factors)

  put_tables : flat_map put_factors (tables_of fs) ≡ put_table fs
  unfolding tables_of put_table
  put_tables = unless_put fs put_factors (same_numbers fs fixed_factors)

-- records put one after another, of which each is the bytes that g gives
module _ {A : Type 0} (f : A → Record) (g : A → List ℕ) (each : (x : A) → g x ≡ put_record (f x).kind (f x).body) where
  put_each : (xs : List A) (rs : List Record) → put_records (map f xs ++ rs) ≡ flat_map g xs ++ put_records rs
  unfolding put_records flat_map
  put_each [] rs = refl
  put_each (x ∷ xs) rs =
      rw (put_each xs rs, each x) (sym (append_assoc (put_record (f x).kind (f x).body) (flat_map g xs) (put_records rs)))

put_lane_lem : (l : Lane) → put_lane l ≡ put_record (lane_record l).kind (lane_record l).body
unfolding put_lane lane_record put_charged charged_record put_arc put_measured
put_lane_lem l = go l.charge
  where
    go : (c : Charge) → put_charged l.from l.to c ≡ put_record (charged_record l.from l.to c).kind (charged_record l.from l.to c).body
    go (flat cost) = refl
    go (measured length class) = refl

-- the bytes of an estimate, and of a wait
abbrev pub put_estimate_of : PlaceValue → List ℕ
put_estimate_of e = put_estimate e.place e.value

abbrev pub put_wait_of : PlaceValue → List ℕ
put_wait_of w = put_wait w.place w.value

put_estimate_lem : (e : PlaceValue) → put_estimate_of e ≡ put_record (estimate_record e).kind (estimate_record e).body
unfolding put_estimate estimate_record
put_estimate_lem e = refl

put_wait_lem : (w : PlaceValue) → put_wait_of w ≡ put_record (wait_record w).kind (wait_record w).body
unfolding put_wait wait_record
put_wait_lem w = refl

put_factors_lem : (fs : List ℕ) → put_factors fs ≡ put_record (factors_record fs).kind (factors_record fs).body
unfolding put_factors factors_record
put_factors_lem fs = refl

put_default_lem : (x : ℕ) → put_default x ≡ put_record (default_record x).kind (default_record x).body
unfolding put_default default_record
put_default_lem x = refl

-- one after another they are what is written
pub put_records_lem : (t : Stated) → put_records (records_of t) ≡ put_stated t
unfolding records_of put_stated put_records put_head put_job head_record job_record
put_records_lem t =
    let lanes = put_each lane_record put_lane put_lane_lem t.lanes in
    let estimates = put_each estimate_record put_estimate_of put_estimate_lem t.estimates in
    let waits = put_each wait_record put_wait_of put_wait_lem t.waits in
    let tables = put_each factors_record put_factors put_factors_lem (tables_of t.factors) in
    let defaults = put_each default_record put_default put_default_lem t.defaults in
    let job : List ℕ = put_job t.job.start t.job.allowance t.job.goals in
    rw (lanes, estimates, waits, tables, put_tables t.factors, defaults, append-nil job) (simp append_assoc)

-- ---- they fit

two_fields : (x y : ℕ) → Bytes (put16 x ++ put16 y)
two_fields x y = append_bytes (put16 x) (put16 y) (put16_is_bytes x) (put16_is_bytes y)

three_fields : (x y z : ℕ) → Bytes (put16 x ++ put16 y ++ put16 z)
three_fields x y z = append_bytes (put16 x ++ put16 y) (put16 z) (two_fields x y) (put16_is_bytes z)

four_fields : (x y z w : ℕ) → Bytes (put16 x ++ put16 y ++ put16 z ++ put16 w)
four_fields x y z w = append_bytes (put16 x ++ put16 y ++ put16 z) (put16 w) (three_fields x y z) (put16_is_bytes w)

head-fits : (s : Size) → Fits (head_record s)
unfolding head_record put16
head-fits s = record { kind_below = omega arith; length_below = omega arith; bytes = two_fields s.places s.arcs }

lane_fits : (l : Lane) → Fits (lane_record l)
unfolding lane_record charged_record put16
lane_fits l = go l.charge
  where
    go : (c : Charge) → Fits (charged_record l.from l.to c)
    go (flat cost) = record { kind_below = omega arith; length_below = omega arith; bytes = three_fields l.from l.to cost }
    go (measured length class) =
        record { kind_below = omega arith; length_below = omega arith; bytes = four_fields l.from l.to length class }

estimate_fits : (e : PlaceValue) → Fits (estimate_record e)
unfolding estimate_record put16 put32
estimate_fits e =
    let bytes : Bytes (put16 e.place ++ put32 e.value)
    = append_bytes (put16 e.place) (put32 e.value) (put16_is_bytes e.place) (put32_is_bytes e.value) in
    record { kind_below = omega arith; length_below = omega arith; bytes = bytes }

wait_fits : (w : PlaceValue) → Fits (wait_record w)
unfolding wait_record put16
wait_fits w = record { kind_below = omega arith; length_below = omega arith; bytes = two_fields w.place w.value }

pub factors_length : (fs : List ℕ) → length fs ≡ 8 → length (factors_record fs).body ≡ factors_bytes
unfolding factors_record
factors_length fs eight = omega (arith, put16s-length fs)

factors_fits : (fs : List ℕ) → length fs ≡ 8 → Fits (factors_record fs)
unfolding factors_record
factors_fits fs eight =
    record { kind_below = omega arith; length_below = omega (arith, factors_length fs eight); bytes = put16s_is_bytes fs }

default_fits : (x : ℕ) → Fits (default_record x)
unfolding default_record put32
default_fits x = record { kind_below = omega arith; length_below = omega arith; bytes = put32_is_bytes x }

-- the body of a job before its goals
abbrev pub job_front : Job → List ℕ
job_front j = put16 j.start ++ put32 j.allowance ++ put16 (length j.goals)

front_bytes : (j : Job) → Bytes (job_front j)
front_bytes j =
    let front : List ℕ = put16 j.start ++ put32 j.allowance in
    let two : Bytes front = append_bytes (put16 j.start) (put32 j.allowance) (put16_is_bytes j.start) (put32_is_bytes j.allowance) in
    append_bytes front (put16 (length j.goals)) two (put16_is_bytes (length j.goals))

-- a job's body has the length that the job says
pub job_length : (j : Job) → length (job_record j).body ≡ job_bytes + 2 * length j.goals
unfolding job_record put16 put32
job_length j = omega (arith, put16s-length j.goals)

job_fits : (j : Job) → StorableJob j → Fits (job_record j)
unfolding job_record
job_fits j ok =
    let bytes : Bytes (job_front j ++ put16s j.goals)
    = append_bytes (job_front j) (put16s j.goals) (front_bytes j) (put16s_is_bytes j.goals) in
    record { kind_below = omega arith; length_below = omega (arith, job_length j, ok.few_goals); bytes = bytes }

-- records that each fit, before others that fit
module _ {A : Type 0} (f : A → Record) where
  fit_each : (xs : List A) → ((x : A) → Memᴰ x xs → Fits (f x)) → (rs : List Record) → AllFit rs → AllFit (map f xs ++ rs)
  fit_each [] each rs fit r i = fit r i
  fit_each (x ∷ xs) each rs fit r (Memᴰ.head e) = rw e (each x (Memᴰ.head refl))
  fit_each (x ∷ xs) each rs fit r (Memᴰ.tail i) = fit_each xs (λ y j. each y (Memᴰ.tail j)) rs fit r i

records_fit : (t : Stated) → Storable t → AllFit (records_of t)
unfolding records_of
records_fit t ok r (Memᴰ.head e) = rw e (head-fits t.size)
records_fit t ok r (Memᴰ.tail i) =
    let table_fits : (fs : List ℕ) → Memᴰ fs (tables_of t.factors) → Fits (factors_record fs)
    = λ fs j. factors_fits fs (rw (tables_member t.factors fs j) ok.factors.eight) in
    let defaults = fit_each default_record t.defaults (λ x j. default_fits x) _ last in
    let tables = fit_each factors_record (tables_of t.factors) table_fits _ defaults in
    let waits = fit_each wait_record t.waits (λ w j. wait_fits w) _ tables in
    let estimates = fit_each estimate_record t.estimates (λ e j. estimate_fits e) _ waits in
    fit_each lane_record t.lanes (λ l j. lane_fits l) _ estimates r i
  where
    last : AllFit (job_record t.job ∷ [])
    last r (Memᴰ.head e) = rw e (job_fits t.job ok.job)
    last r (Memᴰ.tail i) = absurd (Memᴰ.not-nil i)

-- whole records, and these
pub put_framed : (t : Stated) → Storable t → frame (put_stated t) ≡ record { records = records_of t; broken = false }
put_framed t ok = rw (← put_records_lem t) (frame_records (records_of t) (records_fit t ok))
