use mathlib.Core.Path.{◌≡◌}
use mathlib.Core.Logic.{inl, inr}
use native.Mathlib.Omega.{arith}
use lib.ListN.{drop}
use Rattle.layout.specs.Regions.{ends_at}
use Rattle.layout.specs.Map.{Holds}
use Rattle.layout.proofs.Held.{holds_same}
use Rattle.search.proofs.RoundTurns as turns
use Rattle.search.proofs.search.Goals.{After-query, After-slice_known-2-1}
use Rattle.search.proofs.search.Goals as goal

same_map : (c : After-slice_known-2-1) → (let a = c.args in drop (ends_at a.site.places) c.prepare.new.work ≡ drop (ends_at a.site.places) a.work.now)
same_map c = c.prepare.ensures.same_map

holds : (c : After-slice_known-2-1) → Holds c.args.site c.prepare.new.work
holds c = holds_same _ _ _ c.prepare.ensures.same_map c.prepare.auto.work c.requires

turn : (c : After-query) → (let a = c.args in let loop = c.loop-asked in turns.Turn a.site a.allowance c.prepare.new.work loop.work loop.round loop.expansions loop.queries c.limit_of-limit.result c.query.new.work c.query.result)
turn c = record {
  holds = holds_same _ _ _ c.prepare.ensures.same_map c.prepare.auto.work c.requires;
  between = c.loop-asked.invariant;
  limit_is = c.limit_of-limit.ensures;
  answered = c.query.ensures;
  same_length = c.query.auto.work;
}

pub prepare-requires : goal.prepare-requires
prepare-requires c = turns.preparable c.requires

pub estimate-requires : goal.estimate-requires
estimate-requires c = turns.start_place (holds (goal.at.estimate-requires c).After-slice_known-2-1)

pub loop-asked-init : goal.loop-asked-init
loop-asked-init c =
    turns.begins (holds (goal.at.loop-asked-init c).After-slice_known-2-1) c.prepare.ensures.ready _ _ _ c.estimate.ensures

pub limit_of-limit-requires : goal.limit_of-limit-requires
limit_of-limit-requires c = turns.limit_below (holds (goal.at.limit_of-limit-requires c).After-slice_known-2-1) c.loop-asked.invariant

pub overflow_add-queries : goal.overflow_add-queries
overflow_add-queries c = record { fits = omega (arith, turns.queries_below (holds (goal.at.overflow_add-queries c).After-slice_known-2-1) c.loop-asked.invariant) }

pub query-requires : goal.query-requires
query-requires c =
    turns.askable (holds (goal.at.query-requires c).After-slice_known-2-1) c.loop-asked.invariant _ c.limit_of-limit.ensures

pub returns-in_default : goal.returns-in_default
returns-in_default c =
    let spent = turns.turn_spent (turn (goal.at.returns-in_default c).After-query) c.in_default.field-0 c.in_default.is in
    turns.searched_same (same_map (goal.at.returns-in_default c).After-slice_known-2-1) spent

pub overflow_add-expansions : goal.overflow_add-expansions
overflow_add-expansions c =
    let within = turns.total_within (turn (goal.at.overflow_add-expansions c).After-query) c.in-Ok.asked c.in-Ok.is in
    record { fits = omega (arith, within) }

pub after-round-requires : goal.after-round-requires
after-round-requires c = turns.turn_fits (turn (goal.at.after-round-requires c).After-query) c.in-Ok.asked c.in-Ok.is

pub found-requires : goal.found-requires
found-requires c =
    let t = (turn (goal.at.found-requires c).After-query) in
    turns.turn_goal t c.in-Ok.asked c.in-Ok.is _ c.after-round.ensures c.in-Found.is

pub returns-in-Found : goal.returns-in-Found
returns-in-Found c =
    let told = c.in-Found.is in
    let routed = turns.turn_routed (turn (goal.at.returns-in-Found c).After-query) c.in-Ok.asked c.in-Ok.is _ c.after-round.ensures told _ _ c.found.ensures in
    turns.searched_same (same_map (goal.at.returns-in-Found c).After-slice_known-2-1) routed

pub returns-in-None : goal.returns-in-None
returns-in-None c =
    let none = turns.turn_no_route (turn (goal.at.returns-in-None c).After-query) c.in-Ok.asked c.in-Ok.is _ c.after-round.ensures c.in-None.is in
    turns.searched_same (same_map (goal.at.returns-in-None c).After-slice_known-2-1) none

pub loop-asked-smaller : goal.loop-asked-smaller
loop-asked-smaller c =
    let t = (turn (goal.at.loop-asked-smaller c).After-query) in
    omega (arith, turns.query_left t.holds t.between)

pub loop-asked-preserved : goal.loop-asked-preserved
loop-asked-preserved c =
    let t = (turn (goal.at.loop-asked-preserved c).After-query) in
    elim c.in-Ended.is [
      | inl (x, ended) ↦ turns.turn_ended t c.in-Ok.asked c.in-Ok.is _ c.after-round.ensures ended
      | inr over ↦ turns.turn_over t c.in-Ok.asked c.in-Ok.is _ c.after-round.ensures over
    ]
