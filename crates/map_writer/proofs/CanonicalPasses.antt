-- The canonical form of what passes the conditions passes them too, and fits in the bytes of its records. Assumes nothing.
use mathlib.Core.Path.{◌≡◌, sym, ◌∙◌}
use mathlib.Core.Bool.{Bool, false, ◌||◌, true≢false}
use mathlib.Core.List.{List, Memᴰ}
use Prim.Native.Nat.{ℕ, ◌^◌, ◌≤◌, ◌<◌}
use native.Mathlib.Omega.{arith}
use lib.Dec.{ltb, leb, eqb}
use lib.ListN.{length}
use borrow.Author.Tests.{ltb-false, leb-false, le-ltb, lt-leb, eqb-true, not-false}
use Rattle.model.specs.Lists.{any, repeats}
use Rattle.model.specs.Limits.{max_places, max_arcs, max_cost, max_estimate, max_goals}
use Rattle.model.specs.Items.{Charge, flat, measured, Lane, PlaceValue}
use Rattle.model.specs.Stated.{Stated, IsTable, lookup, default, cost_under, lane_cost, arc_of}
use Rattle.model.specs.Refusals.{wrong_size, places_in, names_outside, outside_map, free_arc, large_estimate, two_estimates, mismeasured, wrong_measure}
use Rattle.model.specs.Refusals.{wrong_wait, job_outside_map, wrong_goals, goal_estimate}
use Rattle.model.proofs.Lists.{neither, any_false, member_true}
use Rattle.model.proofs.Tests.{any_none, or_none}
use Rattle.model.proofs.Charges.{length_below, class_below}
use Rattle.model.proofs.Acceptance.{small_estimate, small_default}
use Rattle.model.proofs.Lookups.{lookup_below, lookup_absent}
use Rattle.sort.specs.Sorting.{sort_by}
use Rattle.sort.proofs.SortLaws.{sort_member, sort_length}
use Rattle.map_writer.specs.Order.{no_later}
use Rattle.map_writer.specs.Canonical.{others_by_place, own_estimates, some_default, canonical}
use Rattle.map_writer.proofs.AtMostOne.{unless_few, unless_member}
use Rattle.map_writer.proofs.PlaceValues.{by_place_member, by_place_single, Inside, ValuesInside, own-member, canonical_own, canonical_arc}
use Rattle.map_writer.proofs.WrittenRecords.{StorableCharge, Storable}

-- no condition on what is stated holds
pub record Passing (s : Stated) : Type 0 where
  pub size : wrong_size s ≡ false
  pub inside : outside_map s ≡ false
  pub paid : free_arc s ≡ false
  pub small : large_estimate s ≡ false
  pub single : two_estimates s ≡ false
  pub in_measure : wrong_measure s ≡ false
  pub table : IsTable s.factors
  pub waits : wrong_wait s ≡ false
  pub job_inside : job_outside_map s ≡ false
  pub goals : wrong_goals s ≡ false
  pub zero_goals : goal_estimate s ≡ false

-- ---- numbers of the first n places
-- they name no place of n or above
named_inside : (n : ℕ) (xs : List PlaceValue) → names_outside n xs ≡ false → Inside n xs
named_inside n xs none x i = leb-false n x.place (any_false _ xs none x i)

by_place_inside : (d n : ℕ) (xs : List PlaceValue) → names_outside n (others_by_place d n xs) ≡ false
by_place_inside d n xs = any_none _ (others_by_place d n xs) λ x i. lt-leb n x.place (by_place_member d n xs x i).0

-- ---- what passing gives
module _ (s : Stated) (p : Passing s) where
  pub few_places_lem : s.size.places ≤ max_places
  unfolding wrong_size
  few_places_lem = ltb-false max_places _ (neither (ltb s.size.places 1) _ (neither _ _ (neither _ _ p.size).0).0).1

  pub counted_arcs : s.size.arcs ≡ length s.lanes
  unfolding wrong_size
  counted_arcs =
      let n = s.size.places in
      let m = s.size.arcs in
      eqb-true m (length s.lanes) (not-false _ (neither (ltb n 1 || ltb max_places n || ltb max_arcs m) _ p.size).1)

  pub few_arcs : s.size.arcs ≤ max_arcs
  unfolding wrong_size
  few_arcs =
      ltb-false max_arcs _ (neither (ltb s.size.places 1 || ltb max_places s.size.places) _ (neither _ _ p.size).0).1

  pub lane_inside : (l : Lane) → Memᴰ l s.lanes → (l.from < s.size.places) × (l.to < s.size.places)
  unfolding outside_map
  lane_inside l i =
      let ends = neither (leb s.size.places l.from) _ (any_false _ s.lanes (neither _ _ (neither _ _ p.inside).0).0 l i) in
      (leb-false _ l.from ends.0, leb-false _ l.to ends.1)

  pub values_inside : ValuesInside s
  unfolding outside_map
  values_inside =
      let n = s.size.places in
      let lanes : Bool = any (λ (l : Lane). leb n l.from || leb n l.to) s.lanes in
      let (others, waits) = neither (lanes || names_outside n s.estimates) _ p.inside in
      record { estimates = named_inside n s.estimates (neither lanes _ others).1; waits = named_inside n s.waits waits }

  arc_cheap : (l : Lane) → Memᴰ l s.lanes → (arc_of s l).cost ≤ max_cost
  unfolding wrong_wait
  arc_cheap l i = ltb-false max_cost _ (any_false _ s.lanes (neither (repeats (places_in s.waits)) _ p.waits).1 l i)

  -- a lane costs no more than its arc, which has a wait in its cost
  pub lane_cheap : (l : Lane) → Memᴰ l s.lanes → cost_under s.factors l.charge ≤ max_cost
  unfolding lane_cost arc_of
  lane_cheap l i = omega (arith, arc_cheap l i)

  own_small : (v : ℕ) → lookup (default s) (own_estimates s) v ≤ max_estimate
  own_small =
      lookup_below (default s) (own_estimates s) max_estimate (small_default s p.small) λ e i. small_estimate s p.small e (own-member s e i).0

  pub start_inside : s.job.start < s.size.places
  unfolding job_outside_map
  start_inside = leb-false _ s.job.start (neither _ _ p.job_inside).0

  pub goal_inside : (g : ℕ) → Memᴰ g s.job.goals → g < s.size.places
  unfolding job_outside_map
  goal_inside g i =
      leb-false _ g (any_false _ s.job.goals (neither (leb s.size.places s.job.start) _ p.job_inside).1 g i)

  pub few_goals : length s.job.goals ≤ max_goals
  unfolding wrong_goals
  few_goals = ltb-false max_goals _ (neither (ltb (length s.job.goals) 1) _ (neither _ _ p.goals).0).1

  -- ---- the canonical form passes

  sorted_size : wrong_size (canonical s) ≡ false
  unfolding wrong_size canonical
  sorted_size = rw (sort_length (no_later s.factors) s.lanes) p.size

  -- a test that no lane passes
  sorted_none : (f : Lane → Bool) → any f s.lanes ≡ false → any f (canonical s).lanes ≡ false
  unfolding canonical
  sorted_none f h =
      any_none f (sort_by (no_later s.factors) s.lanes)
      λ l i. any_false f s.lanes h l ((sort_member (no_later s.factors) s.lanes l).0 i)

  inside_map : outside_map (canonical s) ≡ false
  unfolding outside_map canonical
  inside_map =
      let lanes = sorted_none _ (neither _ _ (neither _ _ p.inside).0).0 in
      let estimates = by_place_inside (default s) s.size.places (own_estimates s) in
      or_none _ _ (or_none (any _ (canonical s).lanes) _ lanes estimates) (by_place_inside 0 s.size.places s.waits)

  -- each of its estimates is that of its place
  estimate_small : (e : PlaceValue) → Memᴰ e (canonical s).estimates → e.value ≤ max_estimate
  unfolding canonical
  estimate_small e i = rw (by_place_member (default s) s.size.places (own_estimates s) e i).1 (own_small e.place)

  defaults_small : (x : ℕ) → Memᴰ x (canonical s).defaults → x ≤ max_estimate
  unfolding canonical some_default
  defaults_small x i = rw (unless_member (default s) (eqb (default s) 0) x i) (small_default s p.small)

  no_large_estimate : large_estimate (canonical s) ≡ false
  unfolding large_estimate
  no_large_estimate =
      or_none _ _ (any_none _ (canonical s).estimates λ e i. le-ltb max_estimate e.value (estimate_small e i))
      (any_none _ (canonical s).defaults λ x i. le-ltb max_estimate x (defaults_small x i))

  one_each : two_estimates (canonical s) ≡ false
  unfolding two_estimates canonical some_default
  one_each =
      or_none (repeats (places_in (canonical s).estimates)) _ (by_place_single (default s) s.size.places (own_estimates s))
      (le-ltb 1 (length (canonical s).defaults) (unless_few (default s) (eqb (default s) 0)))

  cheap_arcs : wrong_wait (canonical s) ≡ false
  unfolding wrong_wait canonical
  cheap_arcs =
      or_none (repeats (places_in (canonical s).waits)) _ (by_place_single 0 s.size.places s.waits)
      (any_none _ (canonical s).lanes λ l i.
      rw (canonical_arc s values_inside l) (le-ltb max_cost _ (arc_cheap l ((sort_member (no_later s.factors) s.lanes l).0 i))))

  goals_zero : goal_estimate (canonical s) ≡ false
  unfolding goal_estimate canonical
  goals_zero =
      any_none _ s.job.goals λ g i.
      let absent : (e : PlaceValue) → Memᴰ e (canonical s).estimates → e.place ≡ g → ⊥
      = λ e j is. true≢false (sym ((member_true g s.job.goals).1 i) ∙ rw is at (canonical_own s e j)) in
      rw (lookup_absent 0 (canonical s).estimates g absent)

  pub canonical_passing : Passing (canonical s)
  unfolding canonical free_arc wrong_measure job_outside_map wrong_goals
  canonical_passing =
      record {
        size = sorted_size;
        inside = inside_map;
        paid = sorted_none _ p.paid;
        small = no_large_estimate;
        single = one_each;
        in_measure = sorted_none _ p.in_measure;
        table = p.table;
        waits = cheap_arcs;
        job_inside = p.job_inside;
        goals = p.goals;
        zero_goals = goals_zero;
      }

  -- ---- the canonical form can be stored

  charge_storable : (c : Charge) → cost_under s.factors c ≤ max_cost → mismeasured c ≡ false → StorableCharge c
  unfolding cost_under
  charge_storable (flat cost) small ok = omega arith
  charge_storable (measured length class) small ok =
      (omega (arith, length_below length class ok), omega (arith, class_below length class ok))

  -- where its waits and its allowance are numbers of 2 and of 4 bytes
  pub canonical_storable : ((w : PlaceValue) → Memᴰ w s.waits → w.value < 65536) → s.job.allowance < 2 ^ 32
      → s.growth ≡ 2 → Storable (canonical s)
  unfolding canonical wrong_measure
  canonical_storable short allowed growth =
      record {
        places = omega (arith, few_places_lem);
        arcs = omega (arith, few_arcs);
        lanes = λ l i.
            let j = (sort_member (no_later s.factors) s.lanes l).0 i in
            let ends = lane_inside l j in
            record {
              from = omega (arith, few_places_lem, ends.0);
              to = omega (arith, few_places_lem, ends.1);
              charge = charge_storable l.charge (lane_cheap l j) (any_false _ s.lanes p.in_measure l j);
            };
        estimates = λ e i.
            let (place, value) = by_place_member (default s) s.size.places (own_estimates s) e i in
            record { place = omega (arith, few_places_lem); value = omega (arith, estimate_small e i) };
        defaults = defaults_small;
        waits = λ w i.
            let (place, value) = by_place_member 0 s.size.places s.waits w i in
            let below = lookup_below 0 s.waits 65535 (omega arith) (λ x j. omega (arith, short x j)) w.place in
            record { place = omega (arith, few_places_lem); value = omega arith };
        factors = p.table;
        job =
            record {
              start = omega (arith, few_places_lem, start_inside);
              allowance = allowed;
              goals = λ g i. omega (arith, few_places_lem, goal_inside g i);
              few_goals = omega (arith, few_goals);
            };
        growth = growth;
      }
