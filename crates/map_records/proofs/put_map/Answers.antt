-- Head, lanes, estimates, waits, table, default and job, each where the one before it ends: what is left has room.
use mathlib.Core.List.{List}
use Prim.Native.Nat.{ℕ}
use native.Mathlib.Omega.{arith}
use Rattle.model.specs.Items.{estimate_kind, wait_kind}
use Rattle.model.specs.Jobs.{put_table, put_some_default}
use Rattle.map.specs.declared.Job.{Job}
use Rattle.area.specs.Part.{part}
use Rattle.map_records.specs.Puts.{put_lanes, put_by_place, put_job_of, map_text}
use Rattle.map_records.proofs.PutLoops.{Putting, next_fits, next_put, all_left, first_next, part_next}
use Rattle.map_records.proofs.PutLoops.{after_head, after_lanes, after_estimates, after_waits, after_table, head_first, few_words}
use Rattle.map_records.proofs.put_map.Goals.{After-put_fields-head_end, After-put_lanes-lanes_end, After-put_by_place-estimates_end, After-put_by_place-waits_end, After-put_table-table_end, After-put_default-default_end}
use Rattle.map_records.proofs.put_map.Goals as goal

-- of the map this is left to be put
abbrev Left : (List ℕ → Job → List ℕ → List ℕ) → (input : List ℕ) (j : Job) (work old out : List ℕ) → ℕ → Type 0
Left rest input j work old out at = Putting (map_text input j work) (rest input j work) 0 old out at

-- what is left after each part, by what was left before it
head_done : (c : After-put_fields-head_end) → Left after_head c.args.input.now c.args.job c.args.work.now c.args.out.now c.put_fields-head_end.new.out c.put_fields-head_end.result
head_done c = next_put (head_first _ _ _) (all_left c.requires.room) c.put_fields-head_end.ensures

lanes_done : (c : After-put_lanes-lanes_end) → Left after_head c.args.input.now c.args.job c.args.work.now c.args.out.now c.put_fields-head_end.new.out c.put_fields-head_end.result
    → Left after_lanes c.args.input.now c.args.job c.args.work.now c.args.out.now c.put_lanes-lanes_end.new.out c.put_lanes-lanes_end.result
unfolding part after_head
lanes_done c left = next_put (part_next put_lanes _ _ c.arcs_at-start.ensures (omega arith)) left c.put_lanes-lanes_end.ensures

estimates_done : (c : After-put_by_place-estimates_end)
    → Left after_lanes c.args.input.now c.args.job c.args.work.now c.args.out.now c.put_lanes-lanes_end.new.out c.put_lanes-lanes_end.result
    → Left after_estimates c.args.input.now c.args.job c.args.work.now c.args.out.now c.put_by_place-estimates_end.new.out c.put_by_place-estimates_end.result
unfolding part after_lanes
estimates_done c left =
    let next = part_next (put_by_place estimate_kind _ 0) _ _ c.estimates_at-first.ensures c.goals_at-last.ensures in
    next_put next left c.put_by_place-estimates_end.ensures

waits_done : (c : After-put_by_place-waits_end)
    → Left after_estimates c.args.input.now c.args.job c.args.work.now c.args.out.now c.put_by_place-estimates_end.new.out c.put_by_place-estimates_end.result
    → Left after_waits c.args.input.now c.args.job c.args.work.now c.args.out.now c.put_by_place-waits_end.new.out c.put_by_place-waits_end.result
unfolding part after_estimates
waits_done c left =
    let next = part_next (put_by_place wait_kind 0 0) _ _ c.waits_at-waits.ensures c.ends_at-ends.ensures in
    next_put next left c.put_by_place-waits_end.ensures

table_done : (c : After-put_table-table_end)
    → Left after_waits c.args.input.now c.args.job c.args.work.now c.args.out.now c.put_by_place-waits_end.new.out c.put_by_place-waits_end.result
    → Left after_table c.args.input.now c.args.job c.args.work.now c.args.out.now c.put_table-table_end.new.out c.put_table-table_end.result
unfolding after_waits
table_done c left = next_put (first_next _ _) left c.put_table-table_end.ensures

default_done : (c : After-put_default-default_end)
    → Left after_table c.args.input.now c.args.job c.args.work.now c.args.out.now c.put_table-table_end.new.out c.put_table-table_end.result
    → Left (λ input j w. put_job_of input j) c.args.input.now c.args.job c.args.work.now c.args.out.now c.put_default-default_end.new.out c.put_default-default_end.result
unfolding after_table
default_done c left = next_put (first_next _ _) left c.put_default-default_end.ensures

pub put_fields-head_end-requires : goal.put_fields-head_end-requires
put_fields-head_end-requires c = (omega arith, next_fits (head_first _ _ _) (all_left c.requires.room))

pub put_lanes-lanes_end-requires : goal.put_lanes-lanes_end-requires
unfolding part after_head
put_lanes-lanes_end-requires c =
    next_fits (part_next put_lanes _ _ c.arcs_at-start.ensures (omega arith)) (head_done (goal.at.put_lanes-lanes_end-requires c).After-put_fields-head_end)

pub put_by_place-estimates_end-requires : goal.put_by_place-estimates_end-requires
unfolding part after_lanes
put_by_place-estimates_end-requires c =
    let at = goal.at.put_by_place-estimates_end-requires c in
    let first = c.estimates_at-first.ensures in
    let last = c.goals_at-last.ensures in (
      few_words c.requires first last (omega arith) (omega arith),
      next_fits (part_next (put_by_place estimate_kind _ 0) _ _ first last) (lanes_done at.After-put_lanes-lanes_end (head_done at.After-put_fields-head_end)),
    )

pub put_by_place-waits_end-requires : goal.put_by_place-waits_end-requires
unfolding part after_estimates
put_by_place-waits_end-requires c =
    let at = goal.at.put_by_place-waits_end-requires c in
    let lanes = lanes_done at.After-put_lanes-lanes_end (head_done at.After-put_fields-head_end) in
    let first = c.waits_at-waits.ensures in
    let last = c.ends_at-ends.ensures in (
      few_words c.requires first last (omega arith) (omega arith),
      next_fits (part_next (put_by_place wait_kind 0 0) _ _ first last) (estimates_done at.After-put_by_place-estimates_end lanes),
    )

pub put_table-table_end-requires : goal.put_table-table_end-requires
unfolding after_waits
put_table-table_end-requires c =
    let at = goal.at.put_table-table_end-requires c in
    let lanes = lanes_done at.After-put_lanes-lanes_end (head_done at.After-put_fields-head_end) in
    let estimates = estimates_done at.After-put_by_place-estimates_end lanes in
    (c.requires.factors, next_fits (first_next (put_table _) _) (waits_done at.After-put_by_place-waits_end estimates))

pub put_default-default_end-requires : goal.put_default-default_end-requires
unfolding after_table
put_default-default_end-requires c =
    let at = goal.at.put_default-default_end-requires c in
    let lanes = lanes_done at.After-put_lanes-lanes_end (head_done at.After-put_fields-head_end) in
    let estimates = estimates_done at.After-put_by_place-estimates_end lanes in
    let waits = waits_done at.After-put_by_place-waits_end estimates in
    next_fits (first_next (put_some_default _) _) (table_done at.After-put_table-table_end waits)

pub put_job-requires : goal.put_job-requires
put_job-requires c =
    let at = goal.at.put_job-requires c in
    let lanes = lanes_done at.After-put_lanes-lanes_end (head_done at.After-put_fields-head_end) in
    let estimates = estimates_done at.After-put_by_place-estimates_end lanes in
    let waits = waits_done at.After-put_by_place-waits_end estimates in
    (c.requires.goals, (default_done at.After-put_default-default_end (table_done at.After-put_table-table_end waits)).room)

pub returns : goal.returns
returns c =
    let at = goal.at.returns c in
    let lanes = lanes_done at.After-put_lanes-lanes_end (head_done at.After-put_fields-head_end) in
    let estimates = estimates_done at.After-put_by_place-estimates_end lanes in
    let waits = waits_done at.After-put_by_place-waits_end estimates in
    (default_done at.After-put_default-default_end (table_done at.After-put_table-table_end waits)).whole c.put_job.ensures
