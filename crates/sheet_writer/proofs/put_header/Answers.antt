-- The fields stand one after another.
use Rattle.sheet_writer.proofs.Sheets.{header_written}
use Rattle.sheet_writer.proofs.put_header.Goals as goal

pub returns : goal.returns
returns c =
    header_written c.put16.ensures c.put16-2.ensures c.put32.ensures c.put16-3.ensures
