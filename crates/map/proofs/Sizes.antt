-- What a new map says of the numbers that it was asked for. Assumes nothing.
use mathlib.Core.Path.{◌≡◌, refl, sym, ◌∙◌}
use mathlib.Core.Bool.{Bool, true, false, cond, ◌||◌}
use Prim.Native.Nat.{ℕ, ◌≤◌}
use native.Mathlib.Omega.{arith}
use lib.Dec.{ltb}
use borrow.Author.Tests.{ltb-false}
use Rattle.std.specs.Prelude.{Option, Some, None}
use Rattle.map.specs.declared.Map.{Map}
use Rattle.map.specs.Sizes.{out_of_range, map_of}
use Rattle.model.specs.Limits.{max_places, max_arcs}
use Rattle.model.proofs.Lists.{neither}

pub record WithinLimits (n m : ℕ) (map : Map) : Type 0 where
  pub in_range : out_of_range n m ≡ false
  pub places : map.places ≡ n
  pub arcs : map.arcs ≡ m
  pub few_places_lem : map.places ≤ max_places
  pub few_arcs : map.arcs ≤ max_arcs

module _ (n m : ℕ) where
  pub none-given : out_of_range n m ≡ true → None ≡ map_of n m
  unfolding map_of
  none-given e = rw e

  pub map-given : out_of_range n m ≡ false → Some (record { places = n; arcs = m }) ≡ map_of n m
  unfolding map_of
  map-given e = rw e

  -- a map that is given has the numbers, which are within the limits
  pub within_limits : (x : Option Map) (map : Map) → x ≡ map_of n m → x ≡ Some map → WithinLimits n m map
  unfolding map_of
  within_limits x map made is = go (out_of_range n m) refl (sym is ∙ made)
    where
      sizes : Map
      sizes = record { places = n; arcs = m }

      go : (t : Bool) → out_of_range n m ≡ t → Some map ≡ cond t None (Some sizes) → WithinLimits n m map
      go true e w = let z : ◌≡◌ {A = ℕ} 0 1 = cc in absurd (omega arith)
      go false e w =
          let same : sizes ≡ map = cc in
          let small = neither (ltb n 1 || ltb max_places n) _ e in
          let few_places_lem : n ≤ max_places = ltb-false _ _ (neither (ltb n 1) _ small.0).1 in
          let few_arcs : m ≤ max_arcs = ltb-false _ _ small.1 in
          rw (← same) (record { in_range = e; places = refl; arcs = refl; few_places_lem = few_places_lem; few_arcs = few_arcs })

  -- where none is given, the numbers are out of range
  pub no_map : None ≡ map_of n m → out_of_range n m ≡ true
  unfolding map_of
  no_map made = go (out_of_range n m) made
    where
      sizes : Map
      sizes = record { places = n; arcs = m }

      go : (t : Bool) → ◌≡◌ {A = Option Map} None (cond t None (Some sizes)) → t ≡ true
      go true e = refl
      go false e = let z : ◌≡◌ {A = ℕ} 0 1 = cc in absurd (omega arith)
