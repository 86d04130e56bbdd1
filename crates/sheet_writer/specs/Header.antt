-- What stands before the places of a route's sheet: the record's length and kind, the cost, and the number of places.
use Rattle.std.specs.Prelude.{◌≡◌, List, ◌++◌, ℕ, ◌+◌, ◌*◌, ◌≤◌, length}
use Rattle.std.proofs.lemmas.List.Edits.{sets}
use Rattle.model.specs.Bytes.{put16, put32}
use Rattle.model.specs.Limits.{max_places}
use Rattle.model.specs.Sheets.{route_kind}

unfoldable pub header : ℕ → ℕ → List ℕ
header cost count = put16 (6 + 2 * count) ++ put16 route_kind ++ put32 cost ++ put16 count

pub record FitsHeader (count : ℕ) (area : List ℕ) : Type 0 where
  pub few : count ≤ max_places
  pub room : 10 ≤ length area

pub record HeaderWritten (cost count : ℕ) (area₀ area : List ℕ) : Type 0 where
  pub written : area ≡ sets area₀ 0 (header cost count)
