-- What the display shows, as document 01 says it.
use Rattle.std.specs.Prelude.{Bool, cond, ◌&&◌, ◌||◌, ℕ, leb, eqb, length, replicate}
use Rattle.sheet_reader.specs.Sheets.{Reading}
use Rattle.display.specs.declared.lamps.Lamp.{Lamp}
use Rattle.display.specs.declared.lamps.Lamp.TheVariants.{Green, Red, Amber, Blue, White, Dark}
use Rattle.display.specs.declared.Shown.{Shown}

abbrev pub within : ℕ → ℕ → ℕ → Bool
within a b n = leb a n && leb n b

-- "0 green, 1 to 13 red, 14 and 15 amber, 16 blue, 17 white, 18 and 19 red, later refusals of a map or job red, others dark"; the later
-- refusals are 20 to 22
unfoldable pub lamp_of : ℕ → Lamp
lamp_of n =
    cond (eqb n 0) Green
    (cond (within 1 13 n) Red
    (cond (within 14 15 n) Amber
    (cond (eqb n 16) Blue
    (cond (eqb n 17) White
    (cond (within 18 19 n) Red
    (cond (within 20 22 n) Red
    Dark))))))

-- a read's number is 0 for a route, 17 for no route; any other is of a refused sheet
abbrev pub accepted : Reading → Bool
accepted r = eqb r.number 0 || eqb r.number 17

-- an accepted sheet's lamp, cost, count and places; a refused one's lamp and zeros
unfoldable pub shown : Reading → Shown
shown r =
    cond (accepted r)
    (record { lamp = lamp_of r.number; cost = r.cost; count = r.count; places = r.places })
    (record { lamp = lamp_of r.number; cost = 0; count = 0; places = replicate (length r.places) 0 })
