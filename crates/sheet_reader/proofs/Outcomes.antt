-- A sheet is read as a route, as no route, or as zeros. Assumes nothing.
use mathlib.Core.Path.{◌≡◌, refl}
use mathlib.Core.Logic.{◌⊎◌, inl, inr}
use mathlib.Core.Bool.{Bool, true, false, cond}
use mathlib.Core.List.{List, [], ◌∷◌}
use Prim.Native.Nat.{ℕ}
use lib.ListN.{length, replicate}
use Rattle.model.specs.Bytes.{u16, u32, u16s}
use Rattle.model.specs.Framing.{Record, frame}
use Rattle.model.specs.Sheets.{
  Reading,
  reading,
  refused_read,
  impossible,
  checked,
  fits_route,
  fits_no_route,
  read_record,
  read_framed,
  read_sheet,
}

-- a reading that says nothing but its number
pub record Zeros (r : Reading) : Type 0 where
  pub cost : r.cost ≡ 0
  pub count : r.count ≡ 0
  pub places : r.places ≡ replicate (length r.places) 0

abbrev pub Outcome : Reading → Type 0
Outcome r = (r.number ≡ 0) ⊎ ((r.number ≡ 17) ⊎ Zeros r)

no_sheet : Outcome (refused_read 18)
unfolding reading refused_read
no_sheet = inr (inr (record { cost = refl; count = refl; places = refl }))

no_job : Outcome (refused_read 19)
unfolding reading refused_read
no_job = inr (inr (record { cost = refl; count = refl; places = refl }))

checked_outcome : (number cost : ℕ) (places : List ℕ) → Outcome (reading number cost places) → Outcome (checked number cost places)
unfolding checked
checked_outcome number cost places h = go (impossible cost places)
  where
    go : (t : Bool) → Outcome (cond t (refused_read 19) (reading number cost places))
    go true = no_job
    go false = h

record_outcome : (r : Record) → Outcome (read_record r)
unfolding read_record reading
record_outcome r = go (fits_route r) (fits_no_route r)
  where
    b : List ℕ
    b = r.body

    go : (t u : Bool)
        → Outcome (cond t (checked 0 (u32 b 0) (u16s (u16 b 4) b 6)) (cond u (checked 17 0 (u16 b 0 ∷ [])) (refused_read 18)))
    go true u = checked_outcome 0 _ _ (inl refl)
    go false true = checked_outcome 17 _ _ (inr (inl refl))
    go false false = no_sheet

pub outcome : (b : List ℕ) → Outcome (read_sheet b)
unfolding read_sheet read_framed
outcome b = go (frame b).broken (frame b).records
  where
    go : (t : Bool) (rs : List Record) → Outcome (read_framed t rs)
    go true rs = no_sheet
    go false [] = no_sheet
    go false (r ∷ []) = record_outcome r
    go false (r ∷ s ∷ rs) = no_sheet
