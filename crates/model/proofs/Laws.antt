-- The laws of the budgeted search, in order, each with its sentence and the file that states and proves it. All are about a valid problem p; the
-- first says that acceptance gives one.

-- What acceptance gives: the problem of every accepted input is valid.
pub use Rattle.model.proofs.Acceptance.{accepted_valid}
-- Under every table that passes, as the fixed one does, a lane that is measured costs 1 to 65,520, and any lane 1 to 65,535. The factors in force pass.
pub use Rattle.model.proofs.Charges.{measured_cost, lane_cost_above, lane_cost_below, fixed_table}
pub use Rattle.model.proofs.Acceptance.{accepted_table}
-- The problem's walks are just the ways over the lanes that are stated, and cost lanes plus waits.
pub use Rattle.model.proofs.Ways.{walks_are_ways}
-- ---- Least costs

-- The table of C holds exactly the least costs of paths within C. Every path within C leads to a place that has an entry, of at most the path's
-- cost. With a larger limit no place drops out and no D rises. A path within a larger limit that stays among the places within C is nowhere cheaper
-- than D.
pub use Rattle.model.proofs.LeastCosts.{table_least, path_entry, larger_limit, inside_not_cheaper}
-- Nothing overstates exactly where no estimate is above the least cost from its place to a goal. Every problem with a route has a cheapest cost.
pub use Rattle.model.proofs.Overstating.{admissible_exactly, has_cheapest}
-- ---- One query

-- The start is within every limit from its estimate on, at cost 0.
pub use Rattle.model.proofs.LeastCosts.{start_within}
-- An ended number exceeds the limit. For every limit from C up to below the ended number the table is the same, and so is the query, for each budget.
-- An ended number is at most (N − 1) × 65,535 + the largest estimate. Every sum formed in a query is below 2^31, for every limit below 2^30.
pub use Rattle.model.proofs.Crossing.{ended_above_limit, ended_same_table, ended_same_query, ended_at_most, sum_below}
-- No query costs more than its budget, and one with a budget for all places within is not over.
pub use Rattle.model.proofs.Queries.{cost_at_most_budget, over_exceeds}
-- There are at most N places within, and no fewer within a larger limit.
pub use Rattle.model.proofs.Admissible.{within_at_most, within_grows}
-- ---- The rounds end

-- The start's estimate is at most low; while high is set, low is below it and the query at high with this budget is over. So the start is within
-- every limit that the rounds ask. Low stays below 2^29, and so limits below 2^30. The queries do not run out: the last is found or none,
-- and no other is.
pub use Rattle.model.proofs.Rounds.{rounds_kept, start_within_asked, low_below, limit_below, trace_finished}
-- So the trace is a run of queries from the first round to the one that finishes it, with at most 59 × N queries. No budget exceeds q × N.
pub use Rattle.model.proofs.Traces.{trace_run, trace-length, budget_at_most}
-- ---- The bound on the total, for every growth q

-- If low stays below 2^d and no round with b ≥ n closes, the total is bounded. Under any estimates it is at most 59 × q × q × N divided by q − 1 and
-- rounded up; at growth 2 that is 236 × N.
pub use Rattle.model.proofs.Total.{total_bounded, total_at_most, never_spent_at_2}
-- Where nothing overstates and there is a route, n counts the places within the cheapest cost, and d its binary digits. At least the start is within
-- the cheapest cost.
pub use Rattle.model.proofs.Admissible.{admissible_total, some_within_cheapest}
-- ---- Reachability, under any estimates

-- The last query is none exactly when no goal can be reached.
pub use Rattle.model.proofs.Admissible.{none_unreachable, found_reachable}
-- ---- The route

-- Any estimates: the route is the first cheapest one within the limit, with the fewest places. It ends at the goal that comes first by the number of
-- places on the way to it, then by its own number. There is only one first cheapest route.
pub use Rattle.model.proofs.LeastPaths.{route_within}
pub use Rattle.model.proofs.Routes.{first_ends, first_cheapest_unique}
-- For it the least paths are a problem of their own: its paths are just the paths within the limit that cost as little as D, and each costs as many
-- arcs as it has.
pub use Rattle.model.proofs.LeastPaths.{counted_least, least_counted}
-- Nothing overstates: low never exceeds the cheapest cost, a goal is within every limit from the cheapest cost on, and under every limit that finds a
-- goal the route is the problem's own first cheapest route, at the cheapest cost.
pub use Rattle.model.proofs.Admissible.{low_at_most_cheapest, goal_within, route_first_cheapest}
-- ---- The allowance

-- 16 is given exactly when the total exceeds the allowance. Then expansions is the allowance, queries counts up to and with the cut query, and
-- the last query is the one that is cut. Otherwise nothing is cut, and all such allowances give the same search. An allowance has one cut; with a
-- larger one it moves only forward.
pub use Rattle.model.proofs.Allowance.{spent_exactly, spent_cut, not_spent, lasting_same, cut_forward, cut_later, cut_once}
-- Low is then no lower, and higher exactly where one of the queries from the first cut on and before the second is ended.
pub use Rattle.model.proofs.Floors.{Rises, cut_rises}
-- So the search ends as spent, with no route or with a route; floor and limit are those of its last query.
pub use Rattle.model.proofs.Endings.{budgeted_ends}
-- ---- The rule for the route decides no number

-- With any two rules for the route, all numbers of a call but the sheet's bytes are the same.
pub use Rattle.model.proofs.RouteRules.{same_numbers_lem}
-- ---- The order of arcs and goals has no part in it

-- Two problems that differ only in the order and repetition of their arcs and goals end alike under every allowance.
pub use Rattle.model.proofs.Same.{same_ending}
