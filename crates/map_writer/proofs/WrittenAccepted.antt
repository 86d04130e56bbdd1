-- The written map of an input that passes: it is bytes, states the canonical form, and passes too. Assumes nothing.
use mathlib.Core.Path.{◌≡◌, refl}
use mathlib.Core.Bool.{Bool, true, false}
use mathlib.Core.List.Memᴰ
use mathlib.Core.List.{List, [], ◌∷◌, ◌++◌, map, head_d, append-nil, append_assoc, Memᴰ}
use mathlib.Core.Option.{some}
use Prim.Native.Nat.{ℕ, ◌^◌, ◌<◌}
use native.Mathlib.Omega.{arith}
use lib.Dec.{ltb}
use lib.ListN.{length}
use borrow.Author.Tests.{le-ltb}
use Rattle.model.specs.Lists.{any, cons_if, filter_map, is_given}
use Rattle.model.specs.Bytes.{Bytes, u32}
use Rattle.model.specs.Framing.{Record, Framed, frame}
use Rattle.model.specs.Items.{Lane, Job, Item, head, lane, estimate, job, wait, own_factors, default_estimate, other}
use Rattle.model.specs.Items.{job_of, item_of, items, body_length, size_in, job_in, factors_in}
use Rattle.model.specs.Stated.{Stated, IsTable, no_job, stated_by, stated, stated_in}
use Rattle.model.specs.Refusals.{unknown_kind, begins_with_head, wrong_head, wrong_measure, breaks_rules, wrong_factors, ends_with_job, wrong_job}
use Rattle.model.specs.Refusals.{form_rows, size_rows, map_rows, factor_rows, cost_rows, job_rows, input_rows, first_that_holds, holds_at, input_refusal}
use Rattle.model.proofs.Lists.{none-some, any_false, filter_map_member}
use Rattle.model.proofs.Bytes.{u32_below}
use Rattle.model.proofs.Items.{KindOf, is_job_lem, kind_of}
use Rattle.model.proofs.Rows.{row_fails, input_numbered}
use Rattle.model.proofs.Records.{records_fit}
use Rattle.model.proofs.Tests.{any_none, or_none}
use Rattle.model.proofs.Charges.{table_passes}
use Rattle.model.proofs.Acceptance.{wait_below, stated_table, states_growth}
use Rattle.load.specs.Load.{Fit}
use Rattle.map_writer.specs.Canonical.{canonical, put_stated, write}
use Rattle.map_writer.proofs.WrittenRecords.{Storable, tables_of, tables_few, tables_member, put_framed}
use Rattle.map_writer.proofs.ReadBack.{items_of, items_said, none_taken, all_taken, records_stated, stated_back, lengths_right}
use Rattle.map_writer.proofs.CanonicalPasses.{Passing, lane_inside, lane_cheap, canonical_passing, canonical_storable}

-- ---- what an input states

-- the conditions on what an input states, each found by its number
pub input_passing : (f : Framed) → input_refusal f ≡ 0 → Passing (stated f.records)
unfolding input_refusal input_rows form_rows size_rows map_rows factor_rows cost_rows job_rows holds_at
input_passing f A =
    let no = row_fails (input_rows f) (input_numbered f) A in
    record {
      size = no 5;
      inside = no 6;
      paid = no 7;
      small = no 8;
      single = no 9;
      in_measure = no 20;
      table = stated_table f.records (no 22);
      waits = no 21;
      job_inside = no 11;
      goals = no 12;
      zero_goals = no 13;
    }

-- each lane within the map, at a cost of 2 bytes
pub stated_fit : (input : List ℕ) → input_refusal (frame input) ≡ 0 → (l : Lane) → Memᴰ l (stated_in input).lanes
    → Fit (stated_in input).size.places (stated_in input).factors l
unfolding wrong_measure
stated_fit input A l i =
    let s = stated_in input in
    let p = input_passing (frame input) A in
    let inside = lane_inside s p l i in
    record {
      from = inside.0;
      to = inside.1;
      measure = any_false _ _ p.in_measure l i;
      cost = lane_cheap s p l i;
    }

-- a job's allowance is a field of the body
allowance_field : (r : Record) (j : Job) → job_in (item_of r) ≡ some j → j.allowance ≡ u32 r.body 2
unfolding job_in job_of
allowance_field r j e = go (item_of r) (kind_of r) e
  where
    go : (i : Item) → KindOf r i → job_in i ≡ some j → j.allowance ≡ u32 r.body 2
    go (head s) k e = none-some e
    go (lane l) k e = none-some e
    go (estimate s) k e = none-some e
    go (job k) (is_job_lem q) e = cc
    go (wait w) k e = none-some e
    go (own_factors fs) k e = none-some e
    go (default_estimate x) k e = none-some e
    go other k e = none-some e

-- the allowance is a number of 4 bytes
pub allowance_below : (input : List ℕ) → Bytes input → (stated_in input).job.allowance < 2 ^ 32
unfolding frame stated stated_by items head_d
allowance_below input B = go (filter_map job_in (items (frame input).records)) (λ j i. (filter_map_member job_in (items (frame input).records) j).0 i)
  where
    go : (js : List Job) → ((j : Job) → Memᴰ j js → (i : Item) × Memᴰ i (items (frame input).records) × (job_in i ≡ some j))
        → (head_d js no_job).allowance < 2 ^ 32
    go [] h = omega arith
    go (j ∷ js) h =
        let (i, m, has) = h j (Memᴰ.head refl) in
        let (r, n, of) = Memᴰ.of_map item_of (frame input).records m in
        rw (allowance_field r j (rw of has)) (u32_below r.body 2 (records_fit (length input) input B r n).bytes)

-- ---- what records there are

-- a test that no item of a list passes
module _ {A : Type 0} (g : A → Item) (f : Item → Bool) (none_of : (x : A) → f (g x) ≡ false) where
  none_passes : (xs : List A) (is : List Item) → any f is ≡ false → any f (map g xs ++ is) ≡ false
  unfolding any
  none_passes [] is others = others
  none_passes (x ∷ xs) is others = rw (none_of x) (none_passes xs is others)

-- the last of items is a job where the one put at their end is
ends_after : (i : Item) (is : List Item) (j : Item) → ends_with_job (i ∷ (is ++ (j ∷ []))) ≡ is_given (job_in j)
unfolding ends_with_job
ends_after i [] j = refl
ends_after i (k ∷ is) j = ends_after k is j

module _ (t : Stated) where
  known_kinds : unknown_kind (items_of t) ≡ false
  unfolding unknown_kind items_of body_length is_given any
  known_kinds =
      let defaults = none_passes default_estimate _ (λ x. refl) t.defaults _ refl in
      let tables = none_passes own_factors _ (λ fs. refl) (tables_of t.factors) _ defaults in
      let waits = none_passes wait _ (λ w. refl) t.waits _ tables in
      none_passes lane _ (λ l. refl) t.lanes _ (none_passes estimate _ (λ e. refl) t.estimates _ waits)

  right-head : wrong_head (items_of t) ≡ false
  unfolding wrong_head items_of begins_with_head size_in is_given filter_map cons_if
  right-head =
      rw (
        none_taken lane size_in (λ l. refl) t.lanes,
        none_taken estimate size_in (λ e. refl) t.estimates,
        none_taken wait size_in (λ w. refl) t.waits,
        none_taken own_factors size_in (λ fs. refl) (tables_of t.factors),
        none_taken default_estimate size_in (λ x. refl) t.defaults,
      )

  -- the table is the only one, and keeps the rules
  right_factors : IsTable t.factors → wrong_factors (items_of t) ≡ false
  unfolding wrong_factors items_of factors_in filter_map cons_if
  right_factors table =
      let tables : List (List ℕ) = tables_of t.factors in
      let kept : any breaks_rules tables ≡ false
      = any_none breaks_rules tables λ fs i. rw (tables_member t.factors fs i) ((table_passes t.factors table.eight).1 table) in
      rw (
        none_taken lane factors_in (λ l. refl) t.lanes,
        none_taken estimate factors_in (λ e. refl) t.estimates,
        none_taken wait factors_in (λ w. refl) t.waits,
        all_taken own_factors factors_in (λ fs. refl) tables,
        none_taken default_estimate factors_in (λ x. refl) t.defaults,
        append-nil tables,
      ) (or_none (ltb 1 (length tables)) (any breaks_rules tables) (le-ltb 1 (length tables) (tables_few t.factors)) kept)

  one_job : wrong_job (items_of t) ≡ false
  unfolding wrong_job items_of job_in is_given filter_map cons_if
  one_job =
      let ls : List Item = map lane t.lanes in
      let es : List Item = map estimate t.estimates in
      let ws : List Item = map wait t.waits in
      let fs : List Item = map own_factors (tables_of t.factors) in
      let ds : List Item = map default_estimate t.defaults in
      let last : List Item = job t.job ∷ [] in
      let end : ends_with_job (head t.size ∷ (ls ++ (es ++ (ws ++ (fs ++ (ds ++ last)))))) ≡ true
      = rw (
        ← append_assoc fs ds last,
        ← append_assoc ws (fs ++ ds) last,
        ← append_assoc es (ws ++ (fs ++ ds)) last,
        ← append_assoc ls (es ++ (ws ++ (fs ++ ds))) last,
      ) (ends_after (head t.size) (ls ++ (es ++ (ws ++ (fs ++ ds)))) (job t.job)) in
      rw (
        end,
        none_taken lane job_in (λ l. refl) t.lanes,
        none_taken estimate job_in (λ e. refl) t.estimates,
        none_taken wait job_in (λ w. refl) t.waits,
        none_taken own_factors job_in (λ x. refl) (tables_of t.factors),
        none_taken default_estimate job_in (λ x. refl) t.defaults,
      )

  -- the records of what passes are accepted
  pub put_passes : Storable t → Passing t → input_refusal (frame (put_stated t)) ≡ 0
  unfolding input_refusal input_rows form_rows size_rows map_rows factor_rows cost_rows job_rows first_that_holds
  put_passes ok p =
      rw (
        put_framed t ok,
        items_said t ok,
        records_stated t ok,
        known_kinds,
        lengths_right t ok,
        right-head,
        p.size,
        p.inside,
        p.paid,
        p.small,
        p.single,
        p.in_measure,
        right_factors p.table,
        p.waits,
        one_job,
        p.job_inside,
        p.goals,
        p.zero_goals,
      )

-- ---- the written map of an input

module _ (input : List ℕ) (B : Bytes input) (A : input_refusal (frame input) ≡ 0) where
  -- the canonical form fits in the bytes of its records: waits where no arc leaves, and the allowance, which no condition bounds, were fields before
  pub storable : Storable (canonical (stated_in input))
  storable =
      canonical_storable (stated_in input) (input_passing (frame input) A) (wait_below input B) (allowance_below input B)
      (states_growth (frame input).records)

  pub written_states : stated_in (write (stated_in input)) ≡ canonical (stated_in input)
  unfolding write
  written_states = stated_back (canonical (stated_in input)) storable

  pub written_passes : input_refusal (frame (write (stated_in input))) ≡ 0
  unfolding write
  written_passes =
      put_passes (canonical (stated_in input)) storable (canonical_passing (stated_in input) (input_passing (frame input) A))
