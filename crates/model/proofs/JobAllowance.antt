-- Records that are the same but for one job's allowance state the same problem and are refused alike. Assumes nothing.
use mathlib.Core.Path.{◌≡◌, refl, sym, ap, ◌∙◌}
use mathlib.Core.Bool.{Bool, true, false, not}
use mathlib.Core.List.{List, [], ◌∷◌, ◌++◌, map, map-append, head_d}
use mathlib.Core.Option.{Option, none}
use Prim.Native.Nat.{ℕ}
use native.Mathlib.Omega.{arith}
use lib.Dec.{eqb}
use lib.ListN.{length, length-append}
use borrow.Author.Tests.{eqb-true, not-false}
use Rattle.model.specs.Lists.{any, is_given, cons_if, filter_map}
use Rattle.model.specs.Framing.{Record, Framed}
use Rattle.model.specs.Items.{Size, Item, job, Job, item_of, items, body_length, misfits, size_in, lane_in, estimate_in, job_in, wait_in}
use Rattle.model.specs.Items.{factors_in, default_in}
use Rattle.model.specs.Stated.{Stated, no_size, no_job, fixed_factors, stated_by, stated, default, estimate_at, lane_cost, wait_at, arc_of}
use Rattle.model.specs.Stated.{problem_of}
use Rattle.model.specs.Refusals.{unknown_kind, wrong_length, begins_with_head, wrong_head, wrong_size, outside_map, free_arc}
use Rattle.model.specs.Refusals.{large_estimate, two_estimates, wrong_measure, wrong_factors, wrong_wait, ends_with_job, wrong_job}
use Rattle.model.specs.Refusals.{job_outside_map, wrong_goals, goal_estimate}
use Rattle.model.specs.Refusals.{form_rows, size_rows, map_rows, factor_rows, cost_rows, job_rows, input_rows, room_rows, rows, holds_at, refusal}
use Rattle.model.proofs.Lists.{neither}
use Rattle.model.proofs.Tests.{any_append, filter_map_append}
use Rattle.model.proofs.Rows.{row_fails, rows_numbered}

-- ---- What they state

-- the same jobs but for the allowance
pub record SameJob (j k : Job) : Type 0 where
  pub start : j.start ≡ k.start
  pub goals : j.goals ≡ k.goals

-- the same but for the job's allowance
record SameStated (s t : Stated) : Type 0 where
  size : s.size ≡ t.size
  lanes : s.lanes ≡ t.lanes
  estimates : s.estimates ≡ t.estimates
  defaults : s.defaults ≡ t.defaults
  waits : s.waits ≡ t.waits
  factors : s.factors ≡ t.factors
  growth : s.growth ≡ t.growth
  job : SameJob s.job t.job

same_problem : {s t : Stated} → SameStated s t → problem_of s ≡ problem_of t
unfolding problem_of default estimate_at lane_cost wait_at arc_of
same_problem e = rw (e.size, e.lanes, e.estimates, e.defaults, e.waits, e.factors, e.growth, e.job.start, e.job.goals) refl

module _ (is ls : List Item) (j k : Job) (same : SameJob j k) where
  abbrev with : Job → List Item
  with i = is ++ (job i ∷ ls)

  -- of the jobs the first is read
  first_job : SameJob (head_d (filter_map job_in (with j)) no_job) (head_d (filter_map job_in (with k)) no_job)
  unfolding filter_map cons_if job_in head_d
  first_job = rw (filter_map_append job_in is (job j ∷ ls), filter_map_append job_in is (job k ∷ ls)) (go (filter_map job_in is))
    where
      go : (js : List Job) → SameJob (head_d (js ++ (j ∷ filter_map job_in ls)) no_job) (head_d (js ++ (k ∷ filter_map job_in ls)) no_job)
      go [] = same
      go (i ∷ js) = record { start = refl; goals = refl }

  -- all else is said by other records
  others : {A : Type 0} (f : Item → Option A) → ((i : Job) → f (job i) ≡ none) → filter_map f (with j) ≡ filter_map f (with k)
  unfolding filter_map cons_if
  others f says = rw (filter_map_append f is (job j ∷ ls), filter_map_append f is (job k ∷ ls), says j, says k) refl

  same_stated : SameStated (stated_by (with j)) (stated_by (with k))
  unfolding stated_by size_in lane_in estimate_in wait_in factors_in default_in
  same_stated = record {
    size = ap (λ (l : List Size). head_d l no_size) (others size_in (λ i. refl));
    lanes = others lane_in (λ i. refl);
    estimates = others estimate_in (λ i. refl);
    defaults = others default_in (λ i. refl);
    waits = others wait_in (λ i. refl);
    factors = ap (λ (l : List (List ℕ)). head_d l fixed_factors) (others factors_in (λ i. refl));
    growth = refl;
    job = first_job;
  }

  -- no condition asks for the allowance
  same_kinds : unknown_kind (with j) ≡ unknown_kind (with k)
  unfolding unknown_kind any body_length is_given
  same_kinds = any_append _ is (job j ∷ ls) ∙ sym (any_append _ is (job k ∷ ls))

  same_begin : (is : List Item) → begins_with_head (is ++ (job j ∷ ls)) ≡ begins_with_head (is ++ (job k ∷ ls))
  unfolding begins_with_head size_in
  same_begin [] = refl
  same_begin (i ∷ is) = refl

  same_end : (is : List Item) → ends_with_job (is ++ (job j ∷ ls)) ≡ ends_with_job (is ++ (job k ∷ ls))
  unfolding ends_with_job job_in is_given
  same_end [] = last ls
    where
      last : (ls : List Item) → ends_with_job (job j ∷ ls) ≡ ends_with_job (job k ∷ ls)
      last [] = refl
      last (l ∷ ls) = refl
  same_end (i ∷ []) = same_end []
  same_end (i ∷ h ∷ is) = same_end (h ∷ is)

  same_heads : wrong_head (with j) ≡ wrong_head (with k)
  unfolding wrong_head size_in
  same_heads = rw (same_begin is, others size_in (λ i. refl)) refl

  same_factors : wrong_factors (with j) ≡ wrong_factors (with k)
  unfolding wrong_factors factors_in
  same_factors = rw (others factors_in (λ i. refl)) refl

  same_jobs : wrong_job (with j) ≡ wrong_job (with k)
  unfolding wrong_job filter_map cons_if job_in
  same_jobs =
      let first = filter_map_append job_in is (job j ∷ ls) in
      let second = filter_map_append job_in is (job k ∷ ls) in
      let js = filter_map job_in is in
      let rest = filter_map job_in ls in
      rw (same_end is, first, second, length-append js (j ∷ rest), length-append js (k ∷ rest)) refl

same_rows : {s t : Stated} → SameStated s t → (is hs : List Item) → wrong_factors is ≡ wrong_factors hs → wrong_job is ≡ wrong_job hs
    → size_rows s ++ (map_rows s ++ (factor_rows is ++ (cost_rows s ++ job_rows is s)))
    ≡ size_rows t ++ (map_rows t ++ (factor_rows hs ++ (cost_rows t ++ job_rows hs t)))
unfolding size_rows map_rows factor_rows cost_rows job_rows wrong_size outside_map free_arc large_estimate two_estimates wrong_measure wrong_wait
    job_outside_map wrong_goals goal_estimate lane_cost wait_at arc_of
same_rows e is hs factors jobs = rw (e.size, e.lanes, e.estimates, e.defaults, e.waits, e.factors, e.job.start, e.job.goals, factors, jobs) refl

pub items_with : (rs ls : List Record) (r : Record) (j : Job) → item_of r ≡ job j → items (rs ++ (r ∷ ls)) ≡ items rs ++ (job j ∷ items ls)
unfolding items
items_with rs ls r j is_job_lem = map-append item_of rs (r ∷ ls) ∙ ap (λ (i : Item). map item_of rs ++ (i ∷ map item_of ls)) is_job_lem

module _ (rs ls : List Record) (r q : Record) (j k : Job) (is_job_lem : item_of r ≡ job j) (also-job : item_of q ≡ job k)
    (same : SameJob j k) (fits : misfits r ≡ misfits q) where
  abbrev first : List Record
  first = rs ++ (r ∷ ls)

  abbrev second : List Record
  second = rs ++ (q ∷ ls)

  first_items : items first ≡ items rs ++ (job j ∷ items ls)
  first_items = items_with rs ls r j is_job_lem

  second_items : items second ≡ items rs ++ (job k ∷ items ls)
  second_items = items_with rs ls q k also-job

  states_same : SameStated (stated first) (stated second)
  unfolding stated
  states_same = rw (first_items, second_items) (same_stated (items rs) (items ls) j k same)

  pub problem_same : problem_of (stated first) ≡ problem_of (stated second)
  problem_same = same_problem states_same

  same_form : (broken : Bool) → form_rows (record { records = first; broken = broken }) ≡ form_rows (record { records = second; broken = broken })
  unfolding form_rows wrong_length any
  same_form broken =
      let kinds = same_kinds (items rs) (items ls) j k same in
      let heads = same_heads (items rs) (items ls) j k same in
      rw (first_items, second_items, kinds, heads, any_append misfits rs (r ∷ ls), any_append misfits rs (q ∷ ls), fits) refl

  same_factors_stated : wrong_factors (items first) ≡ wrong_factors (items second)
  same_factors_stated = rw (first_items, second_items) (same_factors (items rs) (items ls) j k same)

  same_jobs_stated : wrong_job (items first) ≡ wrong_job (items second)
  same_jobs_stated = rw (first_items, second_items) (same_jobs (items rs) (items ls) j k same)

  pub refused_same : (broken : Bool) (words bytes : ℕ)
      → refusal (record { records = first; broken = broken }) words bytes ≡ refusal (record { records = second; broken = broken }) words bytes
  unfolding refusal rows input_rows
  refused_same broken words bytes =
      rw (same_form broken, same_rows states_same (items first) (items second) same_factors_stated same_jobs_stated, states_same.size) refl

-- ---- What acceptance says of the job

pub record OneLastJob (f : Framed) : Type 0 where
  pub whole : f.broken ≡ false
  pub fits : wrong_length f.records ≡ false
  pub one : length (filter_map job_in (items f.records)) ≡ 1
  pub last : ends_with_job (items f.records) ≡ true

pub one_last_job : (f : Framed) (words bytes : ℕ) → refusal f words bytes ≡ 0 → OneLastJob f
unfolding refusal rows input_rows form_rows size_rows map_rows factor_rows cost_rows job_rows room_rows holds_at wrong_job
one_last_job f words bytes A =
    let no_row = row_fails (rows f words bytes) (rows_numbered f words bytes) A in
    let jobs = neither (not (eqb (length (filter_map job_in (items f.records))) 1)) (not (ends_with_job (items f.records))) (no_row 10) in
    record { whole = no_row 1; fits = no_row 3; one = eqb-true _ _ (not-false _ jobs.0); last = not-false _ jobs.1 }

-- the only job is the one that is read
pub only_job : (is ls : List Item) (j : Job) → length (filter_map job_in (is ++ (job j ∷ ls))) ≡ 1
    → head_d (filter_map job_in (is ++ (job j ∷ ls))) no_job ≡ j
unfolding filter_map cons_if job_in head_d
only_job is ls j one = rw (filter_map_append job_in is (job j ∷ ls)) (go (filter_map job_in is) (rw (filter_map_append job_in is (job j ∷ ls)) at one))
  where
    go : (js : List Job) → length (js ++ (j ∷ filter_map job_in ls)) ≡ 1 → head_d (js ++ (j ∷ filter_map job_in ls)) no_job ≡ j
    go [] e = refl
    go (i ∷ js) e = absurd (omega (arith, length-append js (j ∷ filter_map job_in ls)))
