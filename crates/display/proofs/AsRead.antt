-- What is shown of a reading, by its number. Assumes nothing.
use mathlib.Core.Path.{◌≡◌}
use mathlib.Core.Logic.{◌⊎◌, inl, inr}
use mathlib.Core.Bool.{true}
use mathlib.Core.List.{List}
use Prim.Native.Nat.{ℕ}
use lib.ListN.{length, replicate}
use borrow.Author.Tests.{ne_eqb}
use Rattle.sheet_reader.specs.Sheets.{Reading}
use Rattle.display.specs.declared.lamps.Lamp.{Lamp}
use Rattle.display.specs.Shown.{lamp_of, accepted, shown}

module _ (r : Reading) (light : Lamp) (is : light ≡ lamp_of r.number) where
  pub shown_accepted : (r.number ≡ 0) ⊎ (r.number ≡ 17)
      → record { lamp = light; cost = r.cost; count = r.count; places = r.places } ≡ shown r
  unfolding shown
  shown_accepted h = rw (is, holds h)
    where
      holds : (r.number ≡ 0) ⊎ (r.number ≡ 17) → accepted r ≡ true
      holds (inl e) = rw e
      holds (inr e) = rw e

  pub shown_refused : ((r.number ≡ 0) ⊎ (r.number ≡ 17) → ⊥) → (zeros : List ℕ) → zeros ≡ replicate (length r.places) 0
      → record { lamp = light; cost = 0; count = 0; places = zeros } ≡ shown r
  unfolding shown
  shown_refused h zeros z = rw (is, z, ne_eqb r.number 0 (λ e. h (inl e)), ne_eqb r.number 17 (λ e. h (inr e)))
