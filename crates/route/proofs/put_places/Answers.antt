-- No loop: the places that are read are put, as many as are counted. Assumes nothing.
use mathlib.Core.Path.{◌≡◌, ap}
use native.Mathlib.Omega.{arith}
use lib.ListN.{length, take}
use borrow.Author.Rules.{rules}
use Rattle.std.proofs.Common.{tests}
use Rattle.std.proofs.iter.Yields.{fronts}
use Rattle.std.specs.Iterator.Adapters.{take_steps}
use Rattle.std.proofs.lemmas.Iterator.{YieldsList, YieldsList-from_slice, YieldsList-from_take}
use Rattle.std.proofs.lemmas.Iterator.Consumers.{YieldsList-at}
use Rattle.std.proofs.lemmas.List.{length-take}
use Rattle.text.proofs.Lines.{room_for_narrow, line_given, widened}
use Rattle.route.specs.Printed.{places_on}
use Rattle.route.proofs.Sheets.{places_small}
use Rattle.route.proofs.put_places.Goals.{After-take-places}
use Rattle.route.proofs.put_places.Goals as goal

-- the places that the sheet says
listed : (c : After-take-places) → take c.read-reading.result.count c.read-reading.result.places ≡ places_on c.args.sheet.now
unfolding places_on
listed c = ap (λ d. take d.count d.places) c.read-reading.ensures

taken : (c : After-take-places) → YieldsList (take_steps fronts) (λ y. y.now) c.take-places.result (places_on c.args.sheet.now)
taken c =
    let read = c.read-reading.result in
    let all = YieldsList-at c.take-places.ensures.source (YieldsList-from_slice read.places c.iter.ensures.rest) in
    rw (listed c) at (YieldsList-from_take read.count all c.take-places.ensures.count)

pub push_line-requires : goal.push_line-requires
push_line-requires c =
    let at = goal.at.push_line-requires c in
    let read = c.read-reading.result in
    let small = places_small c.args.sheet.now (λ i. omega (arith, c.type_inv.sheet i)) in
    let few : length read.places ≡ 4096 = search rules in
    let gives = YieldsList-at c.map.ensures.source (taken at.After-take-places) in (
      search rules,
      (
        search rules,
        (
          search rules,
          room_for_narrow (widened _ gives c.map.ensures.closure (λ x r q k. search (rules, tests))) small _ _
              (omega (arith, length-take read.count read.places, ap length (listed at.After-take-places))),
        ),
      ),
    )

pub returns : goal.returns
returns c =
    let gives = YieldsList-at c.map.ensures.source (taken (goal.at.returns c).After-take-places) in
    line_given (widened _ gives c.map.ensures.closure (λ x r q k. search (rules, tests))) _ c.push_line.ensures
