use mathlib.Core.Path.{◌≡◌}
use mathlib.Core.Bool.{false}
use native.Mathlib.Omega.{arith}
use lib.ListN.{get_or}
use Rattle.sheet_reader.proofs.Listing.{passed_none, passed_more, place_beyond, place_again, all_passed}
use Rattle.sheet_reader.proofs.places_of.Goals.{then-at-ge-PLACES-via-then-at-ge-PLACES, then-at-ge-PLACES-via-else-at-ge-PLACES+then-seen-at}
use Rattle.sheet_reader.proofs.places_of.Goals as goal

pub loop-i-init : goal.loop-i-init
loop-i-init c = passed_none c.args.body.now c.args.count

pub returns-then-at-ge-PLACES : goal.returns-then-at-ge-PLACES
returns-then-at-ge-PLACES c =
    let l = c.loop-i in
    let a = c.args in
    elim c.then-at-ge-PLACES.branch [
      | then-at-ge-PLACES-via-then-at-ge-PLACES w ↦ place_beyond a.body.now a.count l.i l.list l.seen l.invariant (omega arith) (omega arith)
      | then-at-ge-PLACES-via-else-at-ge-PLACES+then-seen-at w ↦
          place_again a.body.now a.count l.i l.list l.seen l.invariant (omega arith) c.from-at.result (omega arith) w.if-seen-at.true
    ]

pub loop-i-preserved : goal.loop-i-preserved
loop-i-preserved c =
    let l = c.loop-i in
    let a = c.args in
    let place = c.u16_at-place.result in
    let new : get_or l.seen place false ≡ false = rw c.from-at.ensures at c.if-seen-at.false in
    passed_more a.body.now a.count l.i l.list l.seen l.invariant place c.u16_at-place.ensures
    (omega arith) (omega arith) (omega arith) new c.from-at.result (omega arith)

pub returns : goal.returns
returns c =
    let l = c.loop-i in
    let a = c.args in
    all_passed a.body.now a.count l.i l.list l.seen l.invariant (omega arith)
