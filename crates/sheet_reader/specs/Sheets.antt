-- The definitions of document 01 that the public contracts cite, passed on to whoever rests on this crate.
pub use Rattle.model.specs.Sheets.{Reading, read_sheet, host_answer}
