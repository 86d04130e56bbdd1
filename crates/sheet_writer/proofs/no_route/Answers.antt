-- The fields stand one after another.
use Rattle.sheet_writer.proofs.Sheets.{no_route_written}
use Rattle.sheet_writer.proofs.no_route.Goals as goal

pub returns : goal.returns
returns c =
    no_route_written c.requires.room c.put16.ensures c.put16-2.ensures c.put16-3.ensures
