-- Lengths in bytes: of an input that passes, by what it states, and of the map that is written of it, which is no longer. Assumes nothing.
use mathlib.Core.Path.{◌≡◌, refl, sym}
use mathlib.Core.Bool.{Bool, true, false, cond, not, false≢true}
use mathlib.Core.List.{List, [], ◌∷◌, ◌++◌, flat_map, head_d}
use Prim.Native.Nat.{ℕ, zero, suc, ◌+◌, ◌*◌, ◌≤◌}
use native.Mathlib.Nat.{le_refl}
use native.Mathlib.Omega.{arith}
use lib.Dec.{ltb, leb, eqb}
use lib.ListN.{length, take, drop, length-append, length-take, length-drop}
use borrow.Author.Tests.{leb-true, ltb-false, eqb-true, not-false}
use Rattle.model.specs.Lists.{any, cons_if, filter_map, is_given, same_numbers}
use Rattle.model.specs.Bytes.{put16, put32}
use Rattle.model.specs.Framing.{Record, stop, push, frame_up_to, frame, put_record}
use Rattle.model.specs.Items.{Charge, flat, measured, Lane, Job, Item, head, lane, estimate, job, wait, own_factors, default_estimate, other}
use Rattle.model.specs.Items.{head_bytes, estimate_bytes, job_bytes, wait_bytes, factors_bytes, default_bytes, charge_bytes}
use Rattle.model.specs.Items.{item_of, body_length, other_than, misfits, items, size_in, lane_in, estimate_in, job_in, wait_in, factors_in, default_in}
use Rattle.model.specs.Stated.{Stated, fixed_factors, no_job, stated_by, stated, stated_in, default}
use Rattle.model.specs.Refusals.{unknown_kind, wrong_length, begins_with_head, wrong_head, ends_with_job, wrong_job}
use Rattle.model.specs.Refusals.{form_rows, size_rows, map_rows, factor_rows, cost_rows, job_rows, input_rows, holds_at, input_refusal}
use Rattle.model.specs.Jobs.{put_head, put_arc, put_measured, put_estimate, put_wait, put_factors, put_table, put_default, put_job, put_charged, put_lane}
use Rattle.model.proofs.Lists.{neither}
use Rattle.model.proofs.Bytes.{put16s-length}
use Rattle.model.proofs.Rows.{row_fails, input_numbered}
use Rattle.sort.proofs.SortLaws.{sort_total}
use Rattle.map_writer.specs.Order.{no_later}
use Rattle.map_writer.specs.Canonical.{own_estimates, some_default, canonical, put_stated, write}
use Rattle.map_writer.proofs.AtMostOne.{unless_recorded}
use Rattle.map_writer.proofs.PlaceValues.{by_place_fewer, own_fewer}
use Rattle.map_writer.proofs.WrittenRecords.{job_record, tables_of, put_estimate_of, put_wait_of, job_length}
use Rattle.map_writer.proofs.WrittenAccepted.{input_passing}

-- ---- Records

-- the bytes of records: four each, and the body
unfoldable pub record_bytes : List Record → ℕ
record_bytes [] = 0
record_bytes (r ∷ rs) = 4 + length r.body + record_bytes rs

framed-length : (k : ℕ) (bs : List ℕ) → length bs ≤ k → (frame_up_to k bs).broken ≡ false → length bs ≡ record_bytes (frame_up_to k bs).records
unfolding frame_up_to record_bytes stop push
framed-length zero [] h e = refl
framed-length zero (a ∷ bs) h e = absurd (omega arith)
framed-length (suc k) [] h e = refl
framed-length (suc k) (a ∷ []) h e = cc
framed-length (suc k) (a ∷ b ∷ []) h e = cc
framed-length (suc k) (a ∷ b ∷ c ∷ []) h e = cc
framed-length (suc k) (a ∷ b ∷ c ∷ d ∷ rest) h e =
    let n = a + 256 * b in
    let shorter = length-drop n rest in
    go n (framed-length k (drop n rest) (omega arith)) (leb n (length rest)) refl e
  where
    first : ℕ → Record
    first n = record { kind = c + 256 * d; body = take n rest }

    go : (n : ℕ) → ((frame_up_to k (drop n rest)).broken ≡ false → length (drop n rest) ≡ record_bytes (frame_up_to k (drop n rest)).records)
        → (t : Bool) → leb n (length rest) ≡ t → (cond t (push (first n) (frame_up_to k (drop n rest))) (stop true)).broken ≡ false
        → suc (suc (suc (suc (length rest)))) ≡ record_bytes (cond t (push (first n) (frame_up_to k (drop n rest))) (stop true)).records
    go n later true fits e =
        let within : n ≤ length rest = leb-true n (length rest) fits in
        omega (arith, later e, length-take n rest, length-drop n rest)
    go n later false fits e = cc

-- the bytes of an input that is whole records are theirs
pub input_length : (input : List ℕ) → (frame input).broken ≡ false → length input ≡ record_bytes (frame input).records
unfolding frame
input_length input e = framed-length (length input) input (le_refl _) e

-- ---- What an input states

-- the bytes of the records of lanes, and of jobs
unfoldable pub lane_bytes : List Lane → ℕ
lane_bytes [] = 0
lane_bytes (l ∷ ls) = 4 + charge_bytes l.charge + lane_bytes ls

unfoldable jobs_bytes : List Job → ℕ
jobs_bytes [] = 0
jobs_bytes (j ∷ js) = 4 + job_bytes + 2 * length j.goals + jobs_bytes js

-- the bytes of the records of a head, lanes, estimates, waits, a table that is not the fixed one, defaults and a job
unfoldable pub stated_bytes : Stated → ℕ
stated_bytes s =
    4 + head_bytes + lane_bytes s.lanes + (4 + estimate_bytes) * length s.estimates + (4 + wait_bytes) * length s.waits
    + (4 + factors_bytes) * length (tables_of s.factors) + (4 + default_bytes) * length s.defaults + (4 + job_bytes + 2 * length s.job.goals)

-- the bytes of items by their kinds
abbrev kind_bytes : List Item → ℕ
kind_bytes is =
    (4 + head_bytes) * length (filter_map size_in is) + lane_bytes (filter_map lane_in is)
    + (4 + estimate_bytes) * length (filter_map estimate_in is) + (4 + wait_bytes) * length (filter_map wait_in is)
    + (4 + factors_bytes) * length (filter_map factors_in is) + (4 + default_bytes) * length (filter_map default_in is) + jobs_bytes (filter_map job_in is)

no_other : (n m : ℕ) → not (eqb n m) ≡ false → n ≡ m
no_other n m e = eqb-true n m (not-false (eqb n m) e)

-- an item whose kind has a length adds it to those of its kind
item_adds : (i : Item) (n : ℕ) (is : List Item) → is_given (body_length i) ≡ true → other_than (body_length i) n ≡ false
    → kind_bytes (i ∷ is) ≡ 4 + n + kind_bytes is
unfolding body_length other_than is_given filter_map cons_if size_in lane_in estimate_in job_in wait_in factors_in default_in lane_bytes jobs_bytes
item_adds (head s) n is g e = omega (arith, no_other n head_bytes e)
item_adds (lane l) n is g e = omega (arith, no_other n (charge_bytes l.charge) e)
item_adds (estimate x) n is g e = omega (arith, no_other n estimate_bytes e)
item_adds (job j) n is g e = omega (arith, no_other n (job_bytes + 2 * length j.goals) e)
item_adds (wait w) n is g e = omega (arith, no_other n wait_bytes e)
item_adds (own_factors fs) n is g e = omega (arith, no_other n factors_bytes e)
item_adds (default_estimate x) n is g e = omega (arith, no_other n default_bytes e)
item_adds other n is g e = absurd (false≢true g)

-- records of known kinds that fit have as many bytes as what they say
records_kinds : (rs : List Record) → unknown_kind (items rs) ≡ false → wrong_length rs ≡ false → record_bytes rs ≡ kind_bytes (items rs)
unfolding record_bytes unknown_kind wrong_length items any misfits filter_map lane_bytes jobs_bytes
records_kinds [] k l = refl
records_kinds (r ∷ rs) k l =
    let known = neither (not (is_given (body_length (item_of r)))) _ k in
    let fits = neither (other_than (body_length (item_of r)) (length r.body)) _ l in
    let rest = records_kinds rs known.1 fits.1 in
    let first = item_adds (item_of r) (length r.body) (items rs) (not-false _ known.0) fits.0 in
    omega (arith, rest, first)

first_head : (is : List Item) → begins_with_head is ≡ true → 1 ≤ length (filter_map size_in is)
unfolding begins_with_head filter_map cons_if is_given size_in
first_head [] e = absurd (false≢true e)
first_head (head s ∷ is) e = omega arith
first_head (lane l ∷ is) e = absurd (false≢true e)
first_head (estimate x ∷ is) e = absurd (false≢true e)
first_head (job j ∷ is) e = absurd (false≢true e)
first_head (wait w ∷ is) e = absurd (false≢true e)
first_head (own_factors fs ∷ is) e = absurd (false≢true e)
first_head (default_estimate x ∷ is) e = absurd (false≢true e)
first_head (other ∷ is) e = absurd (false≢true e)

one-head : (is : List Item) → wrong_head is ≡ false → length (filter_map size_in is) ≡ 1
unfolding wrong_head
one-head is e =
    let (begins, one) = neither (not (begins_with_head is)) (ltb 1 (length (filter_map size_in is))) e in
    let some-head = first_head is (not-false (begins_with_head is) begins) in
    omega (arith, ltb-false 1 (length (filter_map size_in is)) one)

one_job : (js : List Job) → length js ≡ 1 → jobs_bytes js ≡ 4 + job_bytes + 2 * length (head_d js no_job).goals
unfolding jobs_bytes head_d
one_job [] e = absurd (omega arith)
one_job (j ∷ []) e = omega arith
one_job (j ∷ k ∷ js) e = absurd (omega arith)

-- a table in force that is not the fixed one has a record
tables_recorded : (tables : List (List ℕ)) → length (tables_of (head_d tables fixed_factors)) ≤ length tables
unfolding tables_of same_numbers
tables_recorded = unless_recorded (λ fs. same_numbers fs fixed_factors) fixed_factors refl

-- and so has a default that is not 0
default_recorded : (s : Stated) → length (some_default (default s)) ≤ length s.defaults
unfolding default some_default
default_recorded s = unless_recorded (λ d. eqb d 0) 0 refl s.defaults

-- an input that passes has the bytes of what it states, and no others but those of a record of the fixed table
pub passing_length : (input : List ℕ) → input_refusal (frame input) ≡ 0 → stated_bytes (stated_in input) ≤ length input
unfolding input_refusal input_rows form_rows size_rows map_rows factor_rows cost_rows job_rows holds_at stated stated_by stated_bytes wrong_job
passing_length input passes =
    let f = frame input in
    let is = items f.records in
    let no = row_fails (input_rows f) (input_numbered f) passes in
    let jobs = neither (not (eqb (length (filter_map job_in is)) 1)) (not (ends_with_job is)) (no 10) in
    let job = one_job (filter_map job_in is) (no_other (length (filter_map job_in is)) 1 jobs.0) in
    let head = one-head is (no 4) in
    let tables = tables_recorded (filter_map factors_in is) in
    omega (arith, input_length input (no 1), records_kinds f.records (no 2) (no 3))

-- ---- What is written of it

pub put_lane_length : (l : Lane) → length (put_lane l) ≡ 4 + charge_bytes l.charge
unfolding put_lane put_charged put_arc put_measured put_record put16 charge_bytes
put_lane_length l = go l.charge
  where
    go : (c : Charge) → length (put_charged l.from l.to c) ≡ 4 + charge_bytes c
    go (flat cost) = refl
    go (measured units class) = refl

-- texts one after another have the bytes of all of them together
module _ {A : Type 0} (put : A → List ℕ) (bytes : List A → ℕ) (none : bytes [] ≡ 0)
    (adds : (x : A) (xs : List A) → bytes (x ∷ xs) ≡ length (put x) + bytes xs) where
  put_length : (xs : List A) → length (flat_map put xs) ≡ bytes xs
  unfolding flat_map
  put_length [] = sym none
  put_length (x ∷ xs) = omega (arith, length-append (put x) (flat_map put xs), adds x xs, put_length xs)

put_lanes_length : (ls : List Lane) → length (flat_map put_lane ls) ≡ lane_bytes ls
unfolding lane_bytes
put_lanes_length = put_length put_lane lane_bytes refl (λ l ls. omega (arith, put_lane_length l))

put_table_length : (fs : List ℕ) → length fs ≡ 8 → length (put_table fs) ≡ (4 + factors_bytes) * length (tables_of fs)
unfolding put_table tables_of put_factors put_record put16
put_table_length fs eight = go (same_numbers fs fixed_factors)
  where
    go : (same : Bool) → length (cond same [] (put_factors fs)) ≡ (4 + factors_bytes) * length (cond same [] (fs ∷ []))
    go true = refl
    go false = omega (arith, put16s-length fs)

-- what is written has as many bytes as it states
pub put_stated_length : (s : Stated) → length s.factors ≡ 8 → length (put_stated s) ≡ stated_bytes s
unfolding put_stated stated_bytes put_head put_estimate put_wait put_default put_job job_record put_record put16 put32
put_stated_length s eight =
    let lanes : List ℕ = flat_map put_lane s.lanes in
    let estimates : List ℕ = flat_map put_estimate_of s.estimates in
    let waits : List ℕ = flat_map put_wait_of s.waits in
    let table : List ℕ = put_table s.factors in
    let defaults : List ℕ = flat_map put_default s.defaults in
    let job : List ℕ = put_job s.job.start s.job.allowance s.job.goals in
    omega (
      arith,
      length-append (lanes ++ estimates ++ waits ++ table ++ defaults) job,
      length-append (lanes ++ estimates ++ waits ++ table) defaults,
      length-append (lanes ++ estimates ++ waits) table,
      length-append (lanes ++ estimates) waits,
      length-append lanes estimates,
      put_lanes_length s.lanes,
      put_length put_estimate_of (λ es. (4 + estimate_bytes) * length es) refl (λ e es. omega arith) s.estimates,
      put_length put_wait_of (λ ws. (4 + wait_bytes) * length ws) refl (λ w ws. omega arith) s.waits,
      put_table_length s.factors eight,
      put_length put_default (λ xs. (4 + default_bytes) * length xs) refl (λ x xs. omega arith) s.defaults,
      job_length s.job,
    )

-- ---- The canonical form has no more

canonical_lanes : (s : Stated) → lane_bytes (canonical s).lanes ≡ lane_bytes s.lanes
unfolding canonical lane_bytes
canonical_lanes s = sort_total (no_later s.factors) (λ l. 4 + charge_bytes l.charge) lane_bytes (λ l ls. refl) s.lanes

pub canonical_shorter : (s : Stated) → stated_bytes (canonical s) ≤ stated_bytes s
unfolding canonical stated_bytes
canonical_shorter s =
    let n = s.size.places in
    let estimates = by_place_fewer (default s) n (own_estimates s) in
    omega (arith, canonical_lanes s, estimates, own_fewer s, default_recorded s, by_place_fewer 0 n s.waits)

pub written-length : (s : Stated) → length s.factors ≡ 8 → length (write s) ≡ stated_bytes (canonical s)
unfolding write canonical
written-length s = put_stated_length (canonical s)

-- the written map is no longer than the input
pub written_shorter : (input : List ℕ) → input_refusal (frame input) ≡ 0 → length (write (stated_in input)) ≤ length input
written_shorter input passes =
    let eight = (input_passing (frame input) passes).table.eight in
    omega (arith, written-length (stated_in input) eight, canonical_shorter (stated_in input), passing_length input passes)
