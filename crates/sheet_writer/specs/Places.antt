-- The places along the parents, back to the start: what the counting and the writing of them ask and leave.
use Rattle.std.specs.Prelude.{◌≡◌, List, [], ℕ, ◌+◌, ◌*◌, ◌≤◌, length}
use Rattle.std.proofs.Math.Option.{Option, none, some}
use Rattle.std.proofs.lemmas.List.Edits.{sets}
use Rattle.model.specs.Limits.{max_places}
use Rattle.model.specs.Bytes.{put16s}
use Rattle.layout.specs.Regions.{arcs_at}
use Rattle.layout.specs.Labels.{Follows, word_or}

-- the places s are those before a place with this parent: none where it has no parent
unfoldable pub Earlier : ℕ → List ℕ → Option ℕ → List ℕ → Type 0
Earlier n w none s = s ≡ []
Earlier n w (some u) s = Follows n w u s

-- the parents in the words lead back from v to the start, along no more places than there are
pub record Leads (n v : ℕ) (work : List ℕ) : Type 0 where
  pub few : n ≤ max_places
  pub words : arcs_at n ≤ length work
  pub places : List ℕ
  pub follows : Follows n work v places
  pub few_places_lem : length places ≤ n

-- so many arcs lead to v from the place whose parent is u, or from the start where u is none
pub record CountingArcs (n : ℕ) (work : List ℕ) (v u arcs : ℕ) : Type 0 where
  pub earlier : List ℕ
  pub leads : Earlier n work (word_or u) earlier
  pub count : (places : List ℕ) → Follows n work v places → length places ≡ length earlier + arcs + 1

pub record ArcsCounted (n v : ℕ) (work : List ℕ) (arcs : ℕ) : Type 0 where
  pub count : (places : List ℕ) → Follows n work v places → length places ≡ arcs + 1

-- the same with so many arcs, and an area with room for the places after the sheet's other fields
pub record FitsPlaces (n v arcs : ℕ) (work area : List ℕ) : Type 0 where
  pub leads : Leads n v work
  pub count : length leads.places ≡ arcs + 1
  pub room : 12 + 2 * arcs ≤ length area

pub record PlacesWritten (n v : ℕ) (work area₀ area : List ℕ) : Type 0 where
  pub written : (places : List ℕ) → Follows n work v places → area ≡ sets area₀ 10 (put16s places)
