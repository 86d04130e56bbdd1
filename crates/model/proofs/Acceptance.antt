-- What acceptance gives: each condition is false, and the problem is valid. Assumes nothing.
use mathlib.Core.Path.{◌≡◌, refl}
use mathlib.Core.Bool.{Bool, true, false, cond}
use mathlib.Core.List.Memᴰ
use mathlib.Core.List.{List, [], ◌∷◌, head_d, Memᴰ}
use mathlib.Core.Option.{Option, some}
use Prim.Native.Nat.{ℕ, ◌≤◌, ◌<◌}
use native.Mathlib.Omega.{arith}
use lib.Dec.{ltb, leb}
use lib.ListN.{length}
use borrow.Author.Tests.{ltb-false, leb-false}
use Rattle.model.specs.Bytes.{Bytes}
use Rattle.model.specs.Lists.{any, filter_map, member, repeats}
use Rattle.model.specs.Framing.{Record, frame}
use Rattle.model.specs.Limits.{max_cost, max_estimate}
use Rattle.model.specs.Problem.{Valid}
use Rattle.model.specs.Items.{flat, measured, Lane, PlaceValue, Item, head, lane, estimate, job, wait, own_factors, default_estimate, other}
use Rattle.model.specs.Items.{factors_of, item_of, items, lane_in, wait_in, factors_in}
use Rattle.model.specs.Stated.{Stated, fixed_factors, IsTable, stated_by, stated, stated_in, default, estimate_at, lane_cost, arc_of, problem_of}
use Rattle.model.specs.Refusals.{wrong_size, outside_map, free_arc, large_estimate, wrong_measure, breaks_rules, wrong_factors, places_in}
use Rattle.model.specs.Refusals.{wrong_wait}
use Rattle.model.specs.Refusals.{job_outside_map, wrong_goals}
use Rattle.model.specs.Refusals.{form_rows, size_rows, map_rows, factor_rows, cost_rows, job_rows, input_rows, room_rows, rows, holds_at}
use Rattle.model.specs.Refusals.{refusal, Accepted}
use Rattle.model.proofs.Lists.{none-some, neither, any_false, filter_map_member, member_true, only_one, none_first}
use Rattle.model.proofs.Bytes.{u16_below, u16s-length}
use Rattle.model.proofs.Records.{records_fit}
use Rattle.model.proofs.Items.{flat_field, wait_field, factors_field}
use Rattle.model.proofs.Charges.{fixed_table, table_passes, measured_cost, lane_cost_above}
use Rattle.model.proofs.Lookups.{lookup_below}
use Rattle.model.proofs.Rows.{row_fails, rows_numbered}

some-member : {A : Type 0} (xs : List A) → 1 ≤ length xs → (x : A) × Memᴰ x xs
some-member [] h = absurd (omega arith)
some-member (x ∷ xs) h = (x, Memᴰ.head refl)

module _ (input : List ℕ) (B : Bytes input) where
  -- what an item states is what a record of bytes says
  stated_record : {A : Type 0} (f : Item → Option A) (x : A) → Memᴰ x (filter_map f (items (frame input).records))
      → (r : Record) × (f (item_of r) ≡ some x) × Bytes r.body
  unfolding frame items
  stated_record f x i =
      let (k, m, has) = (filter_map_member f (items (frame input).records) x).0 i in
      let (r, n, of) = Memᴰ.of_map item_of (frame input).records m in
      (r, rw of has, (records_fit (length input) input B r n).bytes)

  -- a flat cost is a number of 2 bytes, and so is a wait
  pub flat_below : (l : Lane) → Memᴰ l (stated_in input).lanes → (cost : ℕ) → l.charge ≡ flat cost → cost ≤ max_cost
  unfolding stated stated_by
  flat_below l i cost e =
      let (r, says, bytes) = stated_record lane_in l i in
      rw (flat_field r l cost says e) (omega (arith, u16_below r.body 4 bytes))

  pub wait_below : (w : PlaceValue) → Memᴰ w (stated_in input).waits → w.value < 65536
  unfolding stated stated_by
  wait_below w i = let (r, says, bytes) = stated_record wait_in w i in rw (wait_field r w says) (u16_below r.body 2 bytes)

-- Where 22 does not hold, the factors in force pass, and a record that states factors states these, wherever it stands.
module _ (rs : List Record) (right : wrong_factors (items rs) ≡ false) where
  few_and_kept : (length (filter_map factors_in (items rs)) ≤ 1) × (any breaks_rules (filter_map factors_in (items rs)) ≡ false)
  unfolding wrong_factors
  few_and_kept = let parts = neither (ltb 1 (length (filter_map factors_in (items rs)))) _ right in (ltb-false _ _ parts.0, parts.1)

  eight : (fs : List ℕ) → Memᴰ fs (filter_map factors_in (items rs)) → length fs ≡ 8
  unfolding items factors_of
  eight fs i =
      let (k, m, has) = (filter_map_member factors_in (items rs) fs).0 i in
      let (r, n, of) = Memᴰ.of_map item_of rs m in
      rw (factors_field r fs (rw of has)) (u16s-length 8 r.body 0)

  pub stated_table : IsTable (stated rs).factors
  unfolding stated stated_by head_d
  stated_table = go (filter_map factors_in (items rs)) eight few_and_kept.1
    where
      go : (tables : List (List ℕ)) → ((fs : List ℕ) → Memᴰ fs tables → length fs ≡ 8) → any breaks_rules tables ≡ false
          → IsTable (head_d tables fixed_factors)
      go [] long kept = fixed_table
      go (fs ∷ tables) long kept = (table_passes fs (long fs (Memᴰ.head refl))).0 (any_false _ _ kept fs (Memᴰ.head refl))

  own_factors_lem : (fs : List ℕ) → Memᴰ (own_factors fs) (items rs) → (stated rs).factors ≡ fs
  unfolding stated stated_by factors_in
  own_factors_lem fs i =
      only_one (filter_map factors_in (items rs)) fixed_factors fs few_and_kept.0 ((filter_map_member factors_in (items rs) fs).1 (own_factors fs, i, refl))

factors_are : (i : Item) (fs : List ℕ) → factors_in i ≡ some fs → i ≡ own_factors fs
unfolding factors_in
factors_are (head s) fs e = none-some e
factors_are (lane l) fs e = none-some e
factors_are (estimate s) fs e = none-some e
factors_are (job j) fs e = none-some e
factors_are (wait w) fs e = none-some e
factors_are (own_factors gs) fs e = cc
factors_are (default_estimate x) fs e = none-some e
factors_are other fs e = none-some e

pub fixed_factors_lem : (rs : List Record) → ((fs : List ℕ) → Memᴰ (own_factors fs) (items rs) → ⊥) → (stated rs).factors ≡ fixed_factors
unfolding stated stated_by
fixed_factors_lem rs no_record = none_first (filter_map factors_in (items rs)) fixed_factors λ fs i.
    let (k, m, has) = (filter_map_member factors_in (items rs) fs).0 i in no_record fs (rw (← factors_are k fs has) m)

-- no record states a growth
pub states_growth : (rs : List Record) → (stated rs).growth ≡ 2
unfolding stated stated_by
states_growth rs = refl

-- where 8 does not hold, neither an own estimate is above the highest nor the default
module _ (s : Stated) (small : large_estimate s ≡ false) where
  none_large : (any (λ (e : PlaceValue). ltb max_estimate e.value) s.estimates ≡ false) × (any (ltb max_estimate) s.defaults ≡ false)
  unfolding large_estimate
  none_large = neither _ _ small

  pub small_estimate : (e : PlaceValue) → Memᴰ e s.estimates → e.value ≤ max_estimate
  small_estimate e i = ltb-false _ _ (any_false _ s.estimates none_large.0 e i)

  pub small_default : default s ≤ max_estimate
  unfolding default head_d
  small_default = go s.defaults none_large.1
    where
      go : (xs : List ℕ) → any (ltb max_estimate) xs ≡ false → head_d xs 0 ≤ max_estimate
      go [] e = omega arith
      go (x ∷ xs) e = ltb-false _ _ (any_false _ _ e x (Memᴰ.head refl))

module _ (input : List ℕ) (words bytes : ℕ) (A : Accepted input words bytes) where
  pub accepted_row : (n : ℕ) → holds_at n (rows (frame input) words bytes) ≡ false
  unfolding refusal
  accepted_row = row_fails (rows (frame input) words bytes) (rows_numbered (frame input) words bytes) A

  right_factors : wrong_factors (items (frame input).records) ≡ false
  unfolding rows input_rows form_rows size_rows map_rows factor_rows holds_at
  right_factors = accepted_row 22

  pub accepted_table : IsTable (stated_in input).factors
  accepted_table = stated_table (frame input).records right_factors

  pub stated_factors : (fs : List ℕ) → Memᴰ (own_factors fs) (items (frame input).records) → (stated_in input).factors ≡ fs
  stated_factors = own_factors_lem (frame input).records right_factors

  pub accepted_lane_cost : (l : Lane) (length class : ℕ) → Memᴰ l (stated_in input).lanes → l.charge ≡ measured length class
      → (1 ≤ lane_cost (stated_in input) l) × (lane_cost (stated_in input) l ≤ 65520)
  unfolding lane_cost rows input_rows form_rows size_rows map_rows holds_at wrong_measure
  accepted_lane_cost l length class i is =
      rw is (measured_cost (stated_in input).factors accepted_table length class (rw is at (any_false _ _ (accepted_row 20) l i)))

  accepted_estimate : (v : ℕ) → estimate_at (stated_in input) v ≤ max_estimate
  unfolding estimate_at rows input_rows form_rows size_rows map_rows holds_at
  accepted_estimate v =
      let s = stated_in input in
      let small = accepted_row 8 in
      go (member v s.job.goals) (lookup_below (default s) s.estimates max_estimate (small_default s small) (small_estimate s small) v)
    where
      go : {x : ℕ} (t : Bool) → x ≤ max_estimate → cond t 0 x ≤ max_estimate
      go true l = omega arith
      go false l = l

-- goals keep 0, whatever the default
pub goal_estimate : (s : Stated) (g : ℕ) → Memᴰ g s.job.goals → estimate_at s g ≡ 0
unfolding estimate_at
goal_estimate s g i = rw ((member_true g s.job.goals).1 i)

-- each condition is found by its number
pub accepted_valid : (input : List ℕ) (words bytes : ℕ) → Accepted input words bytes → Valid (problem_of (stated_in input))
unfolding problem_of lane_cost arc_of rows input_rows form_rows size_rows map_rows factor_rows cost_rows job_rows room_rows holds_at
    wrong_size outside_map free_arc wrong_measure wrong_wait job_outside_map wrong_goals refusal
accepted_valid input words bytes A =
    let f = frame input in
    let s = stated f.records in
    let p = problem_of s in
    let no = accepted_row input words bytes A in
    let size = neither _ _ (neither _ _ (neither _ _ (no 5)).0).0 in
    let ends = any_false _ s.lanes (neither _ _ (neither _ _ (no 6)).0).0 in
    let table = accepted_table input words bytes A in
    let job = neither (leb p.places p.start) _ (no 11) in
    record {
      some_place = ltb-false _ _ size.0;
      few_places_lem = ltb-false _ _ size.1;
      arc_from = λ a i. let (l, j, is) = Memᴰ.of_map _ _ i in rw (← is) (leb-false _ _ (neither _ _ (ends l j)).0);
      arc_to = λ a i. let (l, j, is) = Memᴰ.of_map _ _ i in rw (← is) (leb-false _ _ (neither (leb p.places l.from) _ (ends l j)).1);
      cost_above = λ a i.
          let (l, j, is) = Memᴰ.of_map _ _ i in
          let lane = lane_cost_above s.factors table l.charge (any_false _ _ (no 7) l j) (any_false _ _ (no 20) l j) in
          rw (← is) (omega arith);
      cost_below = λ a i.
          let (l, j, is) = Memᴰ.of_map _ _ i in
          rw (← is) (ltb-false _ _ (any_false _ _ (neither (repeats (places_in s.waits)) _ (no 21)).1 l j));
      estimate_below = accepted_estimate input words bytes A;
      start_below = leb-false _ _ job.0;
      some_goal = some-member p.goals (ltb-false _ _ (neither _ _ (neither _ _ (no 12)).0).0);
      goal_below = λ g i. leb-false _ _ (any_false _ _ job.1 g i);
      goal_estimate = goal_estimate s;
      grows = rw (states_growth f.records) (omega arith);
    }
