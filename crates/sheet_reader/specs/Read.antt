-- How the code's values stand for the definitions': a reading, a refusal, and the places of a route sheet's body.
use Rattle.std.specs.Prelude.{cond, ◌||◌, List, ◌++◌, ℕ, ◌-◌, leb, replicate, Option, Some, None, Result, Ok, Err}
use Rattle.sheet_reader.specs.declared.Reading.{Reading}
use Rattle.sheet_reader.specs.declared.Refusal.{Refusal}
use Rattle.sheet_reader.specs.declared.Refusal.TheVariants.{NoSheet, NoJob}
use Rattle.model.specs.Lists.{any, repeats}
use Rattle.model.specs.Bytes.{u16s}
use Rattle.model.specs.Limits.{max_places}
use Rattle.model.specs.Sheets as sheets
use Rattle.model.specs.Sheets.{refused_read}

abbrev pub reading_of : Reading → sheets.Reading
reading_of r = record { number = r.number; cost = r.cost; count = r.count; places = r.places }

-- the number of a refused read
abbrev pub number_of : Refusal → ℕ
number_of NoSheet = 18
number_of NoJob = 19

-- what is read where the reading may be refused
abbrev pub read_as : Result Reading Refusal → sheets.Reading
read_as (Ok r) = reading_of r
read_as (Err e) = refused_read (number_of e)

-- The body's places with zeros after the last, where they are places of a map, and different.
unfoldable pub listed : List ℕ → ℕ → Option (List ℕ)
listed body count =
    let places = u16s count body 6 in
    cond (any (leb max_places) places || repeats places) None (Some (places ++ replicate (max_places - count) 0))
