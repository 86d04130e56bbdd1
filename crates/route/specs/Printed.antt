-- What program `route` prints. Document 01, "Board parts": "A longer input prints `too long`. Otherwise line one is number, cost, limit,
-- floor, expansions, queries; for 0 line two is the places."
use Rattle.std.specs.Prelude.{◌≡◌, cond, List, [], ◌∷◌, ◌++◌, ℕ, ◌+◌, ◌*◌, ◌≤◌, ltb, eqb, length, take, replicate}
use Rattle.sheet_reader.specs.Sheets.{read_sheet}
use Rattle.model.specs.Limits.{max_places}
use Rattle.model.specs.Answer.{Answer, Result, route}
use Rattle.text.specs.Text.{line, too_long}

-- the numbers of line one
abbrev pub six : Answer → List ℕ
six a = a.number ∷ a.cost ∷ a.limit ∷ a.floor ∷ a.expansions ∷ a.queries ∷ []

-- the places that a sheet says
unfoldable pub places_on : List ℕ → List ℕ
places_on sheet = let d = read_sheet sheet in take d.count d.places

unfoldable pub text_of : Result → List ℕ
text_of r =
    let a = r.answer in
    line (six a) ++ cond (eqb a.number 0) (line (places_on (take a.sheet_bytes r.sheet))) []

-- "with a work area of 16,384 words and a sheet area of 8,202 bytes"
unfoldable pub answered : List ℕ → Result
answered input = route input (replicate 16384 0) (replicate 8202 0)

-- "at most 65,536 bytes"
unfoldable pub printed : List ℕ → List ℕ
printed input = cond (ltb 65536 (length input)) too_long (text_of (answered input))

-- The text is what is printed of the input.
abbrev pub Prints : (input text : List ℕ) → Type 0
Prints input text = text ≡ printed input

-- Line one is put after a text; it takes at most 11 bytes a number and 1 more.
pub record LineOne (a : Answer) (old text : List ℕ) : Type 0 where
  pub put : text ≡ old ++ line (six a)
  pub short : length text ≤ length old + 11 * 6 + 1

-- how many bytes both lines may take
abbrev pub text_room : ℕ
text_room = 11 * 6 + 1 + 11 * max_places + 1
