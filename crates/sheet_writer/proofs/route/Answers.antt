-- The header, then the places of which the arcs were counted.
use mathlib.Core.Path.{sym}
use Rattle.sheet_writer.proofs.Sheets.{fits_places, route_written}
use Rattle.sheet_writer.proofs.route.Goals as goal

pub put_places-requires : goal.put_places-requires
put_places-requires c =
    fits_places c.requires c.arcs_to-arcs.ensures c.put_header.auto.sheet

pub returns : goal.returns
returns c =
    let fits = c.requires in
    let counted = c.arcs_to-arcs.ensures.count fits.leads.places fits.leads.follows in
    let written = c.put_places.ensures.written fits.leads.places fits.leads.follows in
    route_written fits (sym counted) c.put_header.ensures written
