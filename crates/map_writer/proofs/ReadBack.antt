-- What is written as records is stated again by them, where its fields fit in their bytes. Assumes nothing.
use mathlib.Core.Path.{◌≡◌, refl, sym, ap, ap₂, ◌∙◌}
use mathlib.Core.Bool.{false, not}
use mathlib.Core.List.{List, [], ◌∷◌, ◌++◌, map, head_d, append-nil, Memᴰ}
use mathlib.Core.Option.{Option, none, some}
use Prim.Native.Nat.{ℕ, zero, suc, ◌^◌, ◌≤◌, ◌<◌}
use native.Mathlib.Omega.{arith}
use lib.Dec.{eqb}
use lib.ListN.{length, get_or}
use borrow.Author.Tests.{eq-eqb}
use Rattle.model.specs.Lists.{any, filter_map, cons_if, same_numbers}
use Rattle.model.specs.Bytes.{u16, u32, u16s, put16, put32, put16s}
use Rattle.model.specs.Framing.{Record, Framed}
use Rattle.model.specs.Limits.{max_estimate}
use Rattle.model.specs.Items.{Size, Charge, flat, measured, Lane, PlaceValue, Job, Item, head, lane, estimate, job, wait, own_factors, default_estimate}
use Rattle.model.specs.Items.{head_of, lane_of, measured_of, estimate_of, job_of, wait_of, item_of, items}
use Rattle.model.specs.Items.{size_in, lane_in, estimate_in, job_in, wait_in, factors_in, default_in}
use Rattle.model.specs.Items.{factors_bytes, charge_bytes, body_length, other_than, misfits}
use Rattle.model.specs.Stated.{Stated, fixed_factors, IsTable, no_job, stated_by, stated, stated_in}
use Rattle.model.specs.Refusals.{wrong_length}
use Rattle.model.proofs.Bytes.{two_bytes, u16_put16, u32_put32, u16s_put16s}
use Rattle.model.proofs.Lists.{same_numbers_lem}
use Rattle.model.proofs.Taken.{factors_read, default_read}
use Rattle.model.proofs.Tests.{or_none}
use Rattle.map_writer.specs.Canonical.{put_stated}
use Rattle.map_writer.proofs.AtMostOne.{unless_first}
pub use Rattle.map_writer.proofs.WrittenRecords.{StorableCharge, StorableLane, StorableValue, StorableJob, Storable}
pub use Rattle.map_writer.proofs.WrittenRecords.{head_record, charged_record, lane_record, estimate_record, wait_record, factors_record}
pub use Rattle.map_writer.proofs.WrittenRecords.{default_record, job_record}
pub use Rattle.map_writer.proofs.WrittenRecords.{tables_of, records_of}
pub use Rattle.map_writer.proofs.WrittenRecords.{put_records_lem, put_framed}
use Rattle.map_writer.proofs.WrittenRecords.{tables_member, factors_length, job_front, job_length}

-- ---- the fields are read back

size_read : (s : Size) → s.places < 65536 → s.arcs < 65536 → item_of (head_record s) ≡ head s
unfolding head_record item_of head_of u16 put16
size_read s p a = rw (two_bytes s.places p, two_bytes s.arcs a)

lane_read : (l : Lane) → StorableLane l → item_of (lane_record l) ≡ lane l
unfolding lane_record charged_record item_of lane_of measured_of u16 put16
lane_read l ok = go l.charge ok.charge
  where
    go : (c : Charge) → StorableCharge c
        → item_of (charged_record l.from l.to c) ≡ lane (record { from = l.from; to = l.to; charge = c })
    go (flat cost) c = rw (two_bytes l.from ok.from, two_bytes l.to ok.to, two_bytes cost c)
    go (measured length class) (h, k) =
        rw (two_bytes l.from ok.from, two_bytes l.to ok.to, two_bytes length h, two_bytes class k)

estimate_read : (e : PlaceValue) → StorableValue (2 ^ 32) e → item_of (estimate_record e) ≡ estimate e
unfolding estimate_record item_of estimate_of put16
estimate_read e ok =
    let b : List ℕ = put16 e.place ++ put32 e.value in
    let place : u16 b 0 ≡ e.place = u16_put16 [] e.place (put32 e.value) ok.place in
    let value : u32 b 2 ≡ e.value = rw append-nil at (u32_put32 (put16 e.place) e.value [] ok.value) in
    rw (place, value)

wait_read : (w : PlaceValue) → StorableValue 65536 w → item_of (wait_record w) ≡ wait w
unfolding wait_record item_of wait_of u16 put16
wait_read w ok = rw (two_bytes w.place ok.place, two_bytes w.value ok.value)

table_read : (fs : List ℕ) → IsTable fs → item_of (factors_record fs) ≡ own_factors fs
unfolding factors_record item_of
table_read fs table = ap own_factors (factors_read fs table)

default_said : (x : ℕ) → x ≤ max_estimate → item_of (default_record x) ≡ default_estimate x
unfolding default_record item_of
default_said x small = ap {B = Item} default_estimate (default_read x small)

members_below : (gs : List ℕ) → ((g : ℕ) → Memᴰ g gs → g < 65536) → (i : ℕ) → get_or gs i 0 < 65536
members_below [] h i = omega arith
members_below (g ∷ gs) h zero = h g (Memᴰ.head refl)
members_below (g ∷ gs) h (suc i) = members_below gs (λ x j. h x (Memᴰ.tail j)) i

job_read : (j : Job) → StorableJob j → item_of (job_record j) ≡ job j
unfolding job_record item_of job_of put16 put32
job_read j ok =
    let b : List ℕ = job_front j ++ put16s j.goals in
    let k : ℕ = length j.goals in
    let rest : List ℕ = put16 k ++ put16s j.goals in
    let start : u16 b 0 ≡ j.start
    = u16_put16 [] j.start (put32 j.allowance ++ rest) ok.start in
    let allowance : u32 b 2 ≡ j.allowance
    = u32_put32 (put16 j.start) j.allowance rest ok.allowance in
    let count : u16 b 6 ≡ k
    = u16_put16 (put16 j.start ++ put32 j.allowance) k (put16s j.goals) (omega (arith, ok.few_goals)) in
    let goals : u16s k b 8 ≡ j.goals
    = rw append-nil at (u16s_put16s (job_front j) j.goals [] (members_below j.goals ok.goals)) in
    rw (start, allowance, count, goals)

-- ---- what the records say

unfoldable pub items_of : Stated → List Item
items_of t =
    head t.size
    ∷ (map lane t.lanes
    ++ (map estimate t.estimates
    ++ (map wait t.waits ++ (map own_factors (tables_of t.factors) ++ (map default_estimate t.defaults ++ (job t.job ∷ []))))))

-- records that each say what g gives, before others that say `is`
module _ {A : Type 0} (f : A → Record) (g : A → Item) where
  each_said : (xs : List A) → ((x : A) → Memᴰ x xs → item_of (f x) ≡ g x) → (rs : List Record) (is : List Item) → items rs ≡ is
      → items (map f xs ++ rs) ≡ map g xs ++ is
  unfolding items
  each_said [] h rs is others = others
  each_said (x ∷ xs) h rs is others =
      ap₂ {C = List Item} ◌∷◌ (h x (Memᴰ.head refl)) (each_said xs (λ y i. h y (Memᴰ.tail i)) rs is others)

-- each record says what it was written of
pub items_said : (t : Stated) → Storable t → items (records_of t) ≡ items_of t
unfolding items records_of items_of
items_said t ok =
    let size = size_read t.size ok.places ok.arcs in
    let last : items (job_record t.job ∷ []) ≡ job t.job ∷ [] = rw (job_read t.job ok.job) in
    let table-said : (fs : List ℕ) → Memᴰ fs (tables_of t.factors) → item_of (factors_record fs) ≡ own_factors fs
    = λ fs i. table_read fs (rw (tables_member t.factors fs i) ok.factors) in
    let defaults = each_said default_record default_estimate t.defaults (λ x i. default_said x (ok.defaults x i)) _ _ last in
    let tables = each_said factors_record own_factors (tables_of t.factors) table-said _ _ defaults in
    let waits = each_said wait_record wait t.waits (λ w i. wait_read w (ok.waits w i)) _ _ tables in
    let estimates = each_said estimate_record estimate t.estimates (λ e i. estimate_read e (ok.estimates e i)) _ _ waits in
    let lanes = each_said lane_record lane t.lanes (λ l i. lane_read l (ok.lanes l i)) _ _ estimates in
    ap₂ {C = List Item} ◌∷◌ size lanes

-- items of which a choice takes none, or takes what each is of
module _ {A B : Type 0} (g : A → Item) (f : Item → Option B) (none_of : (x : A) → f (g x) ≡ none) where
  pub none_taken : (xs : List A) (is : List Item) → filter_map f (map g xs ++ is) ≡ filter_map f is
  unfolding filter_map cons_if
  none_taken [] is = refl
  none_taken (x ∷ xs) is = rw (none_of x) (none_taken xs is)

module _ {A : Type 0} (g : A → Item) (f : Item → Option A) (Some-of : (x : A) → f (g x) ≡ some x) where
  pub all_taken : (xs : List A) (is : List Item) → filter_map f (map g xs ++ is) ≡ xs ++ filter_map f is
  unfolding filter_map cons_if
  all_taken [] is = refl
  all_taken (x ∷ xs) is = rw (Some-of x) (ap (λ (ys : List A). x ∷ ys) (all_taken xs is))

-- the table that is written, or the fixed one where none is, is the table
table_back : (fs : List ℕ) → head_d (tables_of fs) fixed_factors ≡ fs
unfolding tables_of
table_back fs = unless_first fs fixed_factors (same_numbers fs fixed_factors) (same_numbers_lem fs fixed_factors).0

items_stated : (t : Stated) → Storable t → stated_by (items_of t) ≡ t
unfolding items_of stated_by filter_map cons_if size_in lane_in estimate_in job_in wait_in factors_in default_in head_d
items_stated t ok =
    let tables : List (List ℕ) = tables_of t.factors in
    let last : List Item = job t.job ∷ [] in
    let ds : List Item = map default_estimate t.defaults ++ last in
    let fs : List Item = map own_factors tables ++ ds in
    let ws : List Item = map wait t.waits ++ fs in
    let es : List Item = map estimate t.estimates ++ ws in
    let lanes : filter_map lane_in (map lane t.lanes ++ es) ≡ t.lanes
    = all_taken lane lane_in (λ l. refl) t.lanes es
    ∙ rw (
      none_taken estimate lane_in (λ e. refl) t.estimates ws,
      none_taken wait lane_in (λ w. refl) t.waits fs,
      none_taken own_factors lane_in (λ x. refl) tables ds,
      none_taken default_estimate lane_in (λ x. refl) t.defaults last,
    ) (append-nil t.lanes) in
    let estimates : filter_map estimate_in (map lane t.lanes ++ es) ≡ t.estimates
    = none_taken lane estimate_in (λ l. refl) t.lanes es
    ∙ all_taken estimate estimate_in (λ e. refl) t.estimates ws
    ∙ rw (
      none_taken wait estimate_in (λ w. refl) t.waits fs,
      none_taken own_factors estimate_in (λ x. refl) tables ds,
      none_taken default_estimate estimate_in (λ x. refl) t.defaults last,
    ) (append-nil t.estimates) in
    let waits : filter_map wait_in (map lane t.lanes ++ es) ≡ t.waits
    = none_taken lane wait_in (λ l. refl) t.lanes es
    ∙ none_taken estimate wait_in (λ e. refl) t.estimates ws
    ∙ all_taken wait wait_in (λ w. refl) t.waits fs
    ∙ rw (
      none_taken own_factors wait_in (λ x. refl) tables ds,
      none_taken default_estimate wait_in (λ x. refl) t.defaults last,
    ) (append-nil t.waits) in
    let factors : filter_map factors_in (map lane t.lanes ++ es) ≡ tables
    = none_taken lane factors_in (λ l. refl) t.lanes es
    ∙ none_taken estimate factors_in (λ e. refl) t.estimates ws
    ∙ none_taken wait factors_in (λ w. refl) t.waits fs
    ∙ all_taken own_factors factors_in (λ x. refl) tables ds
    ∙ rw (none_taken default_estimate factors_in (λ x. refl) t.defaults last) (append-nil tables) in
    let defaults : filter_map default_in (map lane t.lanes ++ es) ≡ t.defaults
    = none_taken lane default_in (λ l. refl) t.lanes es
    ∙ none_taken estimate default_in (λ e. refl) t.estimates ws
    ∙ none_taken wait default_in (λ w. refl) t.waits fs
    ∙ none_taken own_factors default_in (λ x. refl) tables ds
    ∙ all_taken default_estimate default_in (λ x. refl) t.defaults last
    ∙ append-nil t.defaults in
    let jobs : filter_map job_in (map lane t.lanes ++ es) ≡ t.job ∷ []
    = none_taken lane job_in (λ l. refl) t.lanes es
    ∙ none_taken estimate job_in (λ e. refl) t.estimates ws
    ∙ none_taken wait job_in (λ w. refl) t.waits fs
    ∙ none_taken own_factors job_in (λ x. refl) tables ds
    ∙ none_taken default_estimate job_in (λ x. refl) t.defaults last in
    λ i. record {
      size = t.size;
      lanes = lanes i;
      estimates = estimates i;
      defaults = defaults i;
      waits = waits i;
      factors = (ap (λ (ts : List (List ℕ)). head_d ts fixed_factors) factors ∙ table_back t.factors) i;
      growth = sym ok.growth i;
      job = head_d (jobs i) no_job;
    }

pub records_stated : (t : Stated) → Storable t → stated (records_of t) ≡ t
unfolding stated
records_stated t ok = ap stated_by (items_said t ok) ∙ items_stated t ok

pub stated_back : (t : Stated) → Storable t → stated_in (put_stated t) ≡ t
stated_back t ok = ap (λ (f : Framed). stated f.records) (put_framed t ok) ∙ records_stated t ok

-- ---- each record has the length of its kind

-- records that each fit, before others that do
module _ {A : Type 0} (f : A → Record) where
  each_long : (xs : List A) → ((x : A) → Memᴰ x xs → misfits (f x) ≡ false) → (rs : List Record)
      → any misfits rs ≡ false → any misfits (map f xs ++ rs) ≡ false
  unfolding any
  each_long [] h rs others = others
  each_long (x ∷ xs) h rs others =
      or_none (misfits (f x)) _ (h x (Memᴰ.head refl)) (each_long xs (λ y i. h y (Memᴰ.tail i)) rs others)

charge_long : (from to : ℕ) (c : Charge) → not (eqb (length (charged_record from to c).body) (charge_bytes c)) ≡ false
unfolding charged_record charge_bytes put16
charge_long from to (flat cost) = refl
charge_long from to (measured length class) = refl

lane_long : (l : Lane) → StorableLane l → misfits (lane_record l) ≡ false
unfolding misfits body_length other_than lane_record
lane_long l ok = rw (lane_read l ok) (charge_long l.from l.to l.charge)

head_long : (s : Size) → s.places < 65536 → s.arcs < 65536 → misfits (head_record s) ≡ false
unfolding misfits body_length other_than head_record put16
head_long s p a = rw (size_read s p a)

estimate_long : (e : PlaceValue) → StorableValue (2 ^ 32) e → misfits (estimate_record e) ≡ false
unfolding misfits body_length other_than estimate_record put16 put32
estimate_long e ok = rw (estimate_read e ok)

wait_long : (w : PlaceValue) → StorableValue 65536 w → misfits (wait_record w) ≡ false
unfolding misfits body_length other_than wait_record put16
wait_long w ok = rw (wait_read w ok)

table_long : (fs : List ℕ) → IsTable fs → misfits (factors_record fs) ≡ false
unfolding misfits body_length other_than
table_long fs table =
    rw (table_read fs table) (ap not (eq-eqb (length (factors_record fs).body) factors_bytes (factors_length fs table.eight)))

default_long : (x : ℕ) → x ≤ max_estimate → misfits (default_record x) ≡ false
unfolding misfits body_length other_than default_record put32
default_long x small = rw (default_said x small)

job_long : (j : Job) → StorableJob j → misfits (job_record j) ≡ false
unfolding misfits body_length other_than
job_long j ok = rw (job_read j ok) (ap not (eq-eqb (length (job_record j).body) _ (job_length j)))

pub lengths_right : (t : Stated) → Storable t → wrong_length (records_of t) ≡ false
unfolding wrong_length records_of any
lengths_right t ok =
    let job = or_none (misfits (job_record t.job)) _ (job_long t.job ok.job) refl in
    let table_fits : (fs : List ℕ) → Memᴰ fs (tables_of t.factors) → misfits (factors_record fs) ≡ false
    = λ fs i. table_long fs (rw (tables_member t.factors fs i) ok.factors) in
    let defaults = each_long default_record t.defaults (λ x i. default_long x (ok.defaults x i)) _ job in
    let tables = each_long factors_record (tables_of t.factors) table_fits _ defaults in
    let waits = each_long wait_record t.waits (λ w i. wait_long w (ok.waits w i)) _ tables in
    let estimates = each_long estimate_record t.estimates (λ e i. estimate_long e (ok.estimates e i)) _ waits in
    let lanes = each_long lane_record t.lanes (λ l i. lane_long l (ok.lanes l i)) _ estimates in
    or_none (misfits (head_record t.size)) _ (head_long t.size ok.places ok.arcs) lanes
