-- No loop: each test is one of the definition's, in another order. Assumes nothing.
use mathlib.Core.Path.{sym, ◌∙◌}
use native.Mathlib.Omega.{arith}
use Rattle.sheet_reader.proofs.Records.{Header, route_short, route_unfit, no_places, many_places, low_cost, high_cost, no_list, route_sheet_lem}
use Rattle.sheet_reader.proofs.read_route.Goals.{
  Else-body-count,
  then-count-eq0-via-then-count-eq0,
  then-count-eq0-via-else-count-eq0+then-count-gt-PLACES,
  then-cost-arcs-via-then-cost-arcs,
  then-cost-arcs-via-else-cost-arcs+then-arcs-cost,
}
use Rattle.sheet_reader.proofs.read_route.Goals as goal

-- what the tests so far say of the fields before the places
header : (c : Else-body-count) → Header c.args.body.now c.u32_at-cost.result c.from-count.result
header c = record { costs = c.u32_at-cost.ensures; counts = omega arith; fits = c.if-body-count.false }

pub returns-then-body-lt6 : goal.returns-then-body-lt6
returns-then-body-lt6 c = sym (route_short c.args.body.now (omega arith))

pub returns-then-body-count : goal.returns-then-body-count
returns-then-body-count c = sym (route_unfit c.args.body.now (λ e. omega arith))

pub returns-then-count-eq0 : goal.returns-then-count-eq0
returns-then-count-eq0 c =
    let h = header (goal.at.returns-then-count-eq0 c).Else-body-count in
    elim c.then-count-eq0.branch [
      | then-count-eq0-via-then-count-eq0 w ↦ sym (no_places _ _ _ h (omega arith))
      | then-count-eq0-via-else-count-eq0+then-count-gt-PLACES w ↦ sym (many_places _ _ _ h (omega arith))
    ]

pub returns-then-cost-arcs : goal.returns-then-cost-arcs
returns-then-cost-arcs c =
    let h = header (goal.at.returns-then-cost-arcs c).Else-body-count in
    elim c.then-cost-arcs.branch [
      | then-cost-arcs-via-then-cost-arcs w ↦ sym (low_cost _ _ _ h (omega arith))
      | then-cost-arcs-via-else-cost-arcs+then-arcs-cost w ↦ sym (high_cost _ _ _ h (omega arith))
    ]

pub returns-in_default : goal.returns-in_default
returns-in_default c =
    sym (no_list _ _ _ (header (goal.at.returns-in_default c).Else-body-count) (sym c.places_of.ensures ∙ c.in_default.is))

pub returns : goal.returns
returns c =
    route_sheet_lem _ _ _ (header (goal.at.returns c).Else-body-count) (omega arith) (omega arith) (omega arith) (omega arith) _ (sym c.places_of.ensures ∙ c.in-Some.is) _ (omega arith)
