-- Items put over the front of an area one by one, as long as there is room. Assumes nothing.
use mathlib.Core.Path.{◌≡◌, refl, ap}
use mathlib.Core.List.{List, [], ◌∷◌}
use Prim.Native.Nat.{ℕ, zero, suc, ◌+◌, ◌≤◌, ◌<◌}
use native.Mathlib.Omega.{arith}
use native.Mathlib.Numerals.{add-one}
use lib.ListN.{length, take, set, get_or}
use Rattle.answer.specs.Numbers.{put_over}

module _ {A : Type 0} where
  none_over : (area : List A) → put_over [] area ≡ area
  none_over [] = refl
  none_over (a ∷ area) = refl

  next_over : (d : A) (items area : List A) (i : ℕ) → i < length items → i < length area
      → set (put_over (take i items) area) i (get_or items i d) ≡ put_over (take (suc i) items) area
  next_over d [] area i h l = absurd (omega arith)
  next_over d (x ∷ items) [] i h l = absurd (omega arith)
  next_over d (x ∷ items) (a ∷ area) zero h l = rw (none_over area)
  next_over d (x ∷ items) (a ∷ area) (suc i) h l = ap (λ (t : List A). x ∷ t) (next_over d items area i (omega arith) (omega arith))

  full_over : (items area : List A) (i : ℕ) → length area ≤ i → put_over (take i items) area ≡ put_over (take (suc i) items) area
  full_over items [] i h = refl
  full_over [] (a ∷ area) zero h = refl
  full_over [] (a ∷ area) (suc i) h = refl
  full_over (x ∷ items) (a ∷ area) zero h = absurd (omega arith)
  full_over (x ∷ items) (a ∷ area) (suc i) h = ap (λ (t : List A). x ∷ t) (full_over items area i (omega arith))

  -- one item more, where there is room
  pub one_over : (d : A) (items area : List A) (i : ℕ) → i < length items → i < length area
      → set (put_over (take i items) area) i (get_or items i d) ≡ put_over (take (i + 1) items) area
  one_over d items area i h l = rw add-one (next_over d items area i h l)

  -- where there is none, it changes nothing
  pub no_room_over : (items area : List A) (i : ℕ) → length area ≤ i → put_over (take i items) area ≡ put_over (take (i + 1) items) area
  no_room_over items area i h = rw add-one (full_over items area i h)
