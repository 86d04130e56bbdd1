-- The job of a valid problem with 4,096 places, no estimates and one goal is accepted. Assumes nothing.
use mathlib.Core.Path.{◌≡◌, refl}
use mathlib.Core.Bool.{Bool, true, false, ◌||◌}
use mathlib.Core.List.Memᴰ
use mathlib.Core.List.{List, [], ◌∷◌, ◌++◌, map, Memᴰ}
use Prim.Native.Nat.{ℕ, ◌+◌, ◌*◌, ◌≤◌}
use native.Mathlib.Omega.{arith}
use lib.Dec.{ltb, leb, eqb}
use lib.ListN.{length, length-map}
use borrow.Author.Tests.{le-ltb, lt-leb, eq-eqb, ne_eqb}
use Rattle.model.specs.Lists.{any, cons_if, filter_map, is_given, repeats, rises}
use Rattle.model.specs.Bytes.{u16, u16s, put16, put32, put16s}
use Rattle.model.specs.Framing.{Record}
use Rattle.model.specs.Limits.{max_places, max_arcs, max_cost}
use Rattle.model.specs.Problem.{Arc, Valid}
use Rattle.model.specs.Items.{arc_kind, Lane, Item, lane, lane_of, job_of, item_of, charge_bytes, body_length, other_than, misfits, size_in, job_in}
use Rattle.model.specs.Items.{factors_in}
use Rattle.model.specs.Stated.{lookup}
use Rattle.model.specs.Refusals.{unknown_kind, wrong_length, begins_with_head, wrong_head, wrong_size, outside_map, is_free, free_arc}
use Rattle.model.specs.Refusals.{large_estimate, two_estimates, mismeasured, wrong_measure, wrong_factors, wrong_wait}
use Rattle.model.specs.Refusals.{ends_with_job, wrong_job, job_outside_map, wrong_goals, goal_estimate}
use Rattle.model.specs.Refusals.{short_work, short_sheet, form_rows, size_rows, map_rows, factor_rows, cost_rows, job_rows, input_rows, room_rows, rows}
use Rattle.model.specs.Refusals.{first_that_holds, refusal, Accepted}
use Rattle.model.proofs.Tests.{any_none, or_none}
use Rattle.model.proofs.PlainJobs.{plain, plain_job, with_arcs, plain_records, plain_framed, flat_lane, plain_items, plain_stated}
use Rattle.model.proofs.PlainJobs.{lanes_give_none, plain_said, plain_arc, plain_stated_lem}

-- ---- Conditions on the records themselves

with_arcs_any : (f : Record → Bool) (arcs : List Arc) (rs : List Record)
    → ((b : List ℕ) → length b ≡ 6 → f (record { kind = arc_kind; body = b }) ≡ false)
    → any f rs ≡ false → any f (with_arcs arcs rs) ≡ false
unfolding with_arcs any put16
with_arcs_any f [] rs none others = others
with_arcs_any f (a ∷ arcs) rs none others =
    or_none (f _) _ (none _ refl) (with_arcs_any f arcs rs none others)

any_lanes : (f : Item → Bool) (arcs : List Arc) (is : List Item) → ((a : Arc) → f (lane (flat_lane a)) ≡ false)
    → any f is ≡ false → any f (map (λ (a : Arc). lane (flat_lane a)) arcs ++ is) ≡ false
unfolding any
any_lanes f [] is none others = others
any_lanes f (a ∷ arcs) is none others = rw (none a) (any_lanes f arcs is none others)

-- the last of an item, lanes and one more item is that one
lanes_end : (i j : Item) (arcs : List Arc) → ends_with_job (i ∷ (map (λ (a : Arc). lane (flat_lane a)) arcs ++ (j ∷ []))) ≡ is_given (job_in j)
unfolding ends_with_job
lanes_end i j [] = refl
lanes_end i j (a ∷ arcs) = lanes_end _ j arcs

module _ (arcs : List Arc) (start goal : ℕ) where
  right_lengths : wrong_length (plain_records arcs start goal) ≡ false
  unfolding plain_records wrong_length misfits item_of charge_bytes body_length other_than lane_of job_of any u16 u16s put16 put32 put16s
  right_lengths = with_arcs_any misfits arcs _ (λ b l. rw l) refl

  known_kinds : unknown_kind (plain_items arcs start goal) ≡ false
  unfolding plain_items unknown_kind body_length is_given any
  known_kinds = any_lanes _ arcs _ (λ a. refl) refl

  right-head : wrong_head (plain_items arcs start goal) ≡ false
  unfolding plain_items wrong_head begins_with_head size_in is_given filter_map cons_if
  right-head = rw (lanes_give_none size_in (λ a. refl) arcs)

  no_wrong_factors : wrong_factors (plain_items arcs start goal) ≡ false
  unfolding plain_items wrong_factors factors_in filter_map cons_if any
  no_wrong_factors = rw (lanes_give_none factors_in (λ a. refl) arcs)

  right_job : wrong_job (plain_items arcs start goal) ≡ false
  unfolding plain_items wrong_job job_in is_given filter_map cons_if
  right_job = rw (lanes_give_none job_in (λ a. refl) arcs, lanes_end _ _ arcs)

-- ---- Conditions on what the records state

module _ (arcs : List Arc) (start goal : ℕ) (few : length arcs ≤ max_arcs) (ok : Valid (plain arcs start goal)) where
  right_size : wrong_size (plain_stated arcs start goal) ≡ false
  unfolding wrong_size plain_stated
  right_size =
      let arcs-fit : ltb max_arcs (length arcs) ≡ false = le-ltb max_arcs (length arcs) few in
      let counted : eqb (length arcs) (length arcs) ≡ true = eq-eqb (length arcs) (length arcs) refl in
      rw (length-map arcs flat_lane, arcs-fit, counted)

  inside_map : outside_map (plain_stated arcs start goal) ≡ false
  unfolding outside_map plain_stated plain any
  inside_map =
      or_none (any _ (map flat_lane arcs) || false) false (or_none (any _ (map flat_lane arcs)) false (any_none _ (map flat_lane arcs) inside) refl) refl
    where
      inside : (l : Lane) → Memᴰ l (map flat_lane arcs) → leb max_places l.from || leb max_places l.to ≡ false
      inside l i =
          let (a, j, is) = Memᴰ.of_map flat_lane arcs i in
          rw (← is) (or_none (leb max_places a.from) _ (lt-leb max_places a.from (ok.arc_from a j)) (lt-leb max_places a.to (ok.arc_to a j)))

  no_free_arc : free_arc (plain_stated arcs start goal) ≡ false
  unfolding free_arc is_free plain_stated plain
  no_free_arc =
      any_none _ (map flat_lane arcs) λ l i.
      let (a, j, is) = Memᴰ.of_map flat_lane arcs i in
      rw (← is) (ne_eqb a.cost 0 (λ e. omega (arith, ok.cost_above a j)))

  no_wrong_measure : wrong_measure (plain_stated arcs start goal) ≡ false
  unfolding wrong_measure mismeasured plain_stated
  no_wrong_measure = any_none _ (map flat_lane arcs) λ l i. let (a, j, is) = Memᴰ.of_map flat_lane arcs i in rw (← is)

  no_wrong_wait : wrong_wait (plain_stated arcs start goal) ≡ false
  unfolding wrong_wait plain_stated plain repeats
  no_wrong_wait =
      any_none _ (map flat_lane arcs) λ l i.
      let (a, j, is) = Memᴰ.of_map flat_lane arcs i in
      rw (← is, plain_arc (plain_stated arcs start goal) refl a) (le-ltb max_cost a.cost (ok.cost_below a j))

  no_bad_estimate : (large_estimate (plain_stated arcs start goal) ≡ false) × (two_estimates (plain_stated arcs start goal) ≡ false)
  unfolding large_estimate two_estimates plain_stated any repeats
  no_bad_estimate = (refl, refl)

  job_inside_map : job_outside_map (plain_stated arcs start goal) ≡ false
  unfolding job_outside_map plain_stated plain any
  job_inside_map =
      let start_below : leb max_places start ≡ false = lt-leb max_places start ok.start_below in
      let goal_below : leb max_places goal ≡ false = lt-leb max_places goal (ok.goal_below goal (Memᴰ.head refl)) in
      rw (start_below, goal_below)

  right_goals : (wrong_goals (plain_stated arcs start goal) ≡ false) × (goal_estimate (plain_stated arcs start goal) ≡ false)
  unfolding wrong_goals goal_estimate plain_stated rises lookup any
  right_goals = (refl, refl)

  enough_room : (words bytes : ℕ) → 16 * max_places + 2 * length arcs ≤ words → 10 + 2 * max_places ≤ bytes
      → (short_work (plain_stated arcs start goal).size words ≡ false) × (short_sheet (plain_stated arcs start goal).size bytes ≡ false)
  unfolding short_work short_sheet plain_stated
  enough_room words bytes h k = (le-ltb words _ h, le-ltb bytes _ k)

  pub plain_accepted : (words bytes : ℕ) → 16 * max_places + 2 * length arcs ≤ words → 10 + 2 * max_places ≤ bytes
      → Accepted (plain_job arcs start goal) words bytes
  unfolding refusal rows input_rows form_rows size_rows map_rows factor_rows cost_rows job_rows room_rows first_that_holds
  plain_accepted words bytes h k =
      rw (
        plain_framed arcs start goal,
        plain_said arcs start goal few ok,
        plain_stated_lem arcs start goal few ok,
        known_kinds arcs start goal,
        right_lengths arcs start goal,
        right-head arcs start goal,
        right_size,
        inside_map,
        no_free_arc,
        no_bad_estimate.0,
        no_bad_estimate.1,
        no_wrong_measure,
        no_wrong_factors arcs start goal,
        no_wrong_wait,
        right_job arcs start goal,
        job_inside_map,
        right_goals.0,
        right_goals.1,
        (enough_room words bytes h k).0,
        (enough_room words bytes h k).1,
      )
