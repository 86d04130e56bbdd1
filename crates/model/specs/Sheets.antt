-- Sheets as they are written, and as the display reads them.
use Rattle.std.specs.Prelude.{Bool, true, false, cond, ◌&&◌, ◌||◌, List, [], ◌∷◌, ◌++◌, ℕ, zero, suc, ◌+◌, ◌-◌, ◌*◌, ltb, leb, eqb, length, get_or, replicate}
use Rattle.model.specs.Lists.{any, repeats}
use Rattle.model.specs.Bytes.{u16, u32, u16s, put16, put32, put16s}
use Rattle.model.specs.Framing.{Record, frame, put_record}
use Rattle.model.specs.Limits.{max_places, max_cost}

abbrev pub route_kind : ℕ
route_kind = 17

abbrev pub no_route_kind : ℕ
no_route_kind = 18

-- "Kind 17: cost (4), number of places (2), the places from start to goal (2 each)."
unfoldable pub route_sheet : ℕ → List ℕ → List ℕ
route_sheet cost places = put_record route_kind (put32 cost ++ put16 (length places) ++ put16s places)

-- "Kind 18, no route: start (2)."
unfoldable pub no_route_sheet : ℕ → List ℕ
no_route_sheet start = put_record no_route_kind (put16 start)

pub record Reading : Type 0 where
  pub number : ℕ
  pub cost : ℕ
  pub count : ℕ
  pub places : List ℕ

-- "the count of places, and 4,096 places with zeros after the last"
unfoldable pub reading : ℕ → ℕ → List ℕ → Reading
reading number cost places =
    record { number = number; cost = cost; count = length places; places = places ++ replicate (max_places - length places) 0 }

-- "A refused read gives its number and zeros."
unfoldable pub refused_read : ℕ → Reading
refused_read number = reading number 0 []

-- 19: "no places, more than 4,096, a place above 4,095, a place twice, or, for p places, a cost outside p−1 to (p−1) × 65,535"
unfoldable pub impossible : ℕ → List ℕ → Bool
impossible cost places =
    let p = length places in
    ltb p 1
    || ltb max_places p
    || any (leb max_places) places
    || repeats places
    || ltb cost (p - 1)
    || ltb ((p - 1) * max_cost) cost

unfoldable pub checked : ℕ → ℕ → List ℕ → Reading
checked number cost places = cond (impossible cost places) (refused_read 19) (reading number cost places)

unfoldable pub fits_route : Record → Bool
fits_route r = eqb r.kind route_kind && eqb (length r.body) (6 + 2 * u16 r.body 4)

unfoldable pub fits_no_route : Record → Bool
fits_no_route r = eqb r.kind no_route_kind && eqb (length r.body) 2

-- 0 is a route, 17 is no route, which has cost 0 and the start as its one place
unfoldable pub read_record : Record → Reading
read_record r =
    let b = r.body in
    cond (fits_route r) (checked 0 (u32 b 0) (u16s (u16 b 4) b 6))
    (cond (fits_no_route r) (checked 17 0 (u16 b 0 ∷ [])) (refused_read 18))

-- 18: "not exactly one record of kind 17 or 18 with a fitting length (6 + 2 × its count, or 2)"
unfoldable pub read_framed : Bool → List Record → Reading
read_framed true rs = refused_read 18
read_framed false [] = refused_read 18
read_framed false (r ∷ []) = read_record r
read_framed false (r ∷ s ∷ rs) = refused_read 18

unfoldable pub read_sheet : List ℕ → Reading
read_sheet bytes = let f = frame bytes in read_framed f.broken f.records

-- "For 0 it gets the read's number, for 1 the cost, for 2 the count, for 3 + i place i; a refused read or a place beyond the last gives 0 to all
-- but question 0."
unfoldable pub host_answer : Reading → ℕ → ℕ
host_answer r zero = r.number
host_answer r (suc zero) = r.cost
host_answer r (suc (suc zero)) = r.count
host_answer r (suc (suc (suc i))) = get_or r.places i 0
