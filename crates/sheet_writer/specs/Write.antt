-- What the writer asks and leaves: the sheet is the definition's, byte for byte, and the bytes beyond it are as before.
use Rattle.std.specs.Prelude.{◌≡◌, List, ℕ, ◌+◌, ◌*◌, ◌≤◌, length}
use Rattle.model.specs.Sheets.{route_sheet, no_route_sheet}
use Rattle.model.specs.Answer.{over_front}
use Rattle.layout.specs.Labels.{Follows}
use Rattle.sheet_writer.specs.Places.{Leads}

pub record FitsNoRoute (area : List ℕ) : Type 0 where
  pub room : 6 ≤ length area

pub record NoRouteWritten (start : ℕ) (area₀ area : List ℕ) (r : ℕ) : Type 0 where
  pub bytes : r ≡ length (no_route_sheet start)
  pub written : area ≡ over_front (no_route_sheet start) area₀

-- the parents in the words lead back from the goal to the start, and the area has room for a route of all places
pub record FitsRoute (n goal : ℕ) (work area : List ℕ) : Type 0 where
  pub leads : Leads n goal work
  pub room : 10 + 2 * n ≤ length area

-- for the places along which the parents lead, of which there is only one list
pub record RouteWritten (n goal cost : ℕ) (work area₀ area : List ℕ) (r : ℕ) : Type 0 where
  pub bytes : (places : List ℕ) → Follows n work goal places → r ≡ length (route_sheet cost places)
  pub written : (places : List ℕ) → Follows n work goal places → area ≡ over_front (route_sheet cost places) area₀
