-- `unfolding compute` opens all that `route`, `read_sheet` and `host_answer` rest on, for theorems that are proved by computing them.
use mathlib.Core.List.{head_d, get_last_d}
use Rattle.model.specs.Lists.{any, filter, is_given, cons_if, filter_map, lesser, least_by, member, repeats, rises, falls, same_numbers}
use Rattle.model.specs.Bytes.{u16, u32, u16s, put16, put32, put16s}
use Rattle.model.specs.Framing.{stop, push, frame_up_to, frame, put_record}
use Rattle.model.specs.Items.{
  head_of,
  lane_of,
  measured_of,
  estimate_of,
  job_of,
  wait_of,
  factors_of,
  default_of,
  item_of,
  charge_bytes,
  body_length,
  other_than,
  misfits,
  items,
  size_in,
  lane_in,
  estimate_in,
  job_in,
  wait_in,
  factors_in,
  default_in,
}
use Rattle.model.specs.Stated.{stated_by, stated, lookup, default, estimate_at, cost_under, lane_cost, wait_at, arc_of, problem_of}
use Rattle.model.specs.Refusals.{
  unknown_kind,
  wrong_length,
  begins_with_head,
  wrong_head,
  wrong_size,
  outside_map,
  is_free,
  free_arc,
  large_estimate,
  two_estimates,
  mismeasured,
  wrong_measure,
  breaks_rules,
  wrong_factors,
  wrong_wait,
  ends_with_job,
  wrong_job,
  job_outside_map,
  wrong_goals,
  goal_estimate,
  short_work,
  short_sheet,
  form_rows,
  size_rows,
  map_rows,
  factor_rows,
  cost_rows,
  job_rows,
  input_rows,
  room_rows,
  rows,
  first_that_holds,
  refusal,
}
use Rattle.model.specs.Costs.{
  lowers,
  store_if,
  arrive,
  relax_from,
  relax,
  relax_all,
  same_entry,
  same_table,
  relax_up_to,
  start_table,
  table,
}
use Rattle.model.specs.Query.{
  precedes,
  key_of,
  keys_from,
  within,
  first_goal,
  length_to,
  crossing,
  next_limit,
  not_over,
  judge,
  query_on,
  query,
}
use Rattle.model.specs.Rounds.{
  first_round,
  limit_of,
  close_if,
  settle,
  after,
  ask,
  next,
  go_on,
  trace_up_to,
  trace,
  total,
  begun,
  search,
}
use Rattle.model.specs.Routes.{parent_by, parent, extend, route_up_to, route_to, tight_by, least_paths, route_to_first, first_route}
use Rattle.model.specs.Sheets.{
  route_sheet,
  no_route_sheet,
  reading,
  refused_read,
  impossible,
  checked,
  fits_route,
  fits_no_route,
  read_record,
  read_framed,
  read_sheet,
  host_answer,
}
use Rattle.model.specs.Jobs.{put_head, put_arc, put_measured, put_estimate, put_wait, put_factors, put_table, put_default, put_some_default, put_job, shares, put_chain, route_job}
use Rattle.model.specs.Jobs.{no_route_job}
use Rattle.model.specs.Endings.{finished, ending_if, budgeted_by}
use Rattle.model.specs.Answer.{sheet_of, answer_of, over_front, refused_with, ended_with, call_if, call}

unfoldable pub compute : Unit {0}
unfolding
    head_d get_last_d
    any filter is_given cons_if filter_map lesser least_by member repeats rises falls same_numbers
    u16 u32 u16s put16 put32 put16s
    stop push frame_up_to frame put_record
    head_of lane_of measured_of estimate_of job_of wait_of factors_of default_of item_of charge_bytes body_length other_than misfits items
    size_in lane_in estimate_in job_in wait_in factors_in default_in
    stated_by stated lookup default estimate_at cost_under lane_cost wait_at arc_of problem_of
    unknown_kind wrong_length begins_with_head wrong_head wrong_size outside_map is_free free_arc large_estimate two_estimates mismeasured wrong_measure
    breaks_rules wrong_factors wrong_wait ends_with_job wrong_job job_outside_map wrong_goals goal_estimate short_work short_sheet
    form_rows size_rows map_rows factor_rows cost_rows job_rows input_rows room_rows rows first_that_holds refusal
    lowers store_if arrive relax_from relax relax_all same_entry same_table relax_up_to start_table table
    precedes key_of keys_from within first_goal length_to crossing next_limit not_over judge query_on query
    first_round limit_of close_if settle after ask next go_on trace_up_to trace total begun search
    parent_by parent extend route_up_to route_to tight_by least_paths route_to_first first_route
    route_sheet no_route_sheet reading refused_read impossible checked fits_route fits_no_route read_record read_framed read_sheet host_answer
    put_head put_arc put_measured put_estimate put_wait put_factors put_table put_default put_some_default put_job shares put_chain route_job no_route_job
    finished ending_if budgeted_by sheet_of answer_of over_front refused_with ended_with call_if call
compute = tt
