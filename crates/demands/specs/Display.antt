-- Demand 2, of the display as its contract gives it, which is s ≡ shown (read_sheet b): a sheet is shown as a route, or as no route, exactly where the
-- router wrote it as one for some job, and it is shown as it was written.
use Rattle.std.specs.Prelude.{◌≡◌, ◌↔◌, List, [], ◌∷◌, ◌++◌, ℕ, ◌-◌, length, replicate}
use Rattle.model.specs.Limits.{max_places}
use Rattle.model.specs.Sheets.{route_sheet, no_route_sheet}
use Rattle.model.specs.Calls.{problem, Writes}
use Rattle.display.specs.declared.lamps.Lamp.TheVariants.{Green, White, Red}
use Rattle.display.specs.declared.Shown.{Shown}
use Rattle.demands.specs.Calls.{Routes}

-- with zeros after the last place
abbrev pub padded : List ℕ → List ℕ
padded places = places ++ replicate (max_places - length places) 0

-- the bytes b, shown as s
pub record DemandDisplay (b : List ℕ) (s : Shown) : Type 0 where
  -- as a route exactly where the router wrote them as the route of some job,
  pub route : (s.lamp ≡ Green) ↔ ((job : List ℕ) × Writes Routes job 0 b)
  -- as no route exactly where it wrote that,
  pub no_route : (s.lamp ≡ White) ↔ ((job : List ℕ) × Writes Routes job 17 b)
  -- with the cost and the places that were written;
  pub route_as_written : (job : List ℕ) (w : Writes Routes job 0 b)
      → (places : List ℕ) × (b ≡ route_sheet w.after.answer.cost places)
      × (s ≡ record { lamp = Green; cost = w.after.answer.cost; count = length places; places = padded places })
  pub no_route_as_written : (job : List ℕ) (w : Writes Routes job 17 b)
      → (b ≡ no_route_sheet (problem w.call).start)
      × (s ≡ record { lamp = White; cost = 0; count = 1; places = padded ((problem w.call).start ∷ []) })
  -- and any others as red, with zeros
  pub refused : (s.lamp ≡ Green → ⊥) → (s.lamp ≡ White → ⊥) → s ≡ record { lamp = Red; cost = 0; count = 0; places = padded [] }
