-- Where the branches meet, the places before v stand in the sheet.
use mathlib.Core.Path.{◌≡◌, ◌∙◌}
use Prim.Native.Nat.{◌<◌}
use native.Mathlib.Omega.{arith}
use lib.Seq.{sets}
use Rattle.model.specs.Bytes.{put16s}
use Rattle.sheet_writer.proofs.Places.{earlier, fits_earlier, earlier_written, none_earlier, place_written}
use Rattle.sheet_writer.proofs.+put_places.Goals.{then-arcs-gt0, else-arcs-gt0}
use Rattle.sheet_writer.proofs.+put_places.Goals as goal

pub put_places-requires : goal.put_places-requires
put_places-requires t c =
    let some_arc : 0 < c.args.arcs = omega (arith, c.if-arcs-gt0.true) in
    (omega (arith, c.decreases), fits_earlier c.requires c.parent-u.ensures some_arc)

pub returns : goal.returns
returns t c =
    let joined : c.if-arcs-gt0.sheet ≡ sets c.args.sheet.now 10 (put16s (earlier c.requires)) = elim c.if-arcs-gt0.branch [
      | then-arcs-gt0 w ↦ w.sheet-is ∙ earlier_written c.requires w.parent-u.ensures (omega (arith, w.if-arcs-gt0.true)) w.put_places.ensures
      | else-arcs-gt0 w ↦ w.sheet-is ∙ none_earlier c.requires (omega (arith, w.if-arcs-gt0.false))
    ] in
    place_written c.requires joined c.put16.ensures
