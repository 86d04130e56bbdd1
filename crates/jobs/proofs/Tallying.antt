-- A route adds to the tallies where it ends, and what is no route leaves them.
use mathlib.Core.Path.{◌≡◌}
use mathlib.Core.List.{List}
use Prim.Native.Nat.{ℕ}
use borrow.Author.Tests.{eq-eqb, ne_eqb}
use Rattle.model.specs.Answer.{Answer}
use Rattle.jobs.specs.Steps.{Added, Tallies, last_on, routes_with, costs_with}

pub tallies_none : {a : Answer} {sheet routes costs : List ℕ} → (a.number ≡ 0 → ⊥) → Tallies a sheet routes costs routes costs
unfolding routes_with costs_with
tallies_none differs = let other = ne_eqb _ _ differs in record { routes_are = simp other; costs_are = simp other }

pub tallies_route : {a : Answer} {sheet routes₀ costs₀ routes costs : List ℕ} {goal : ℕ} → a.number ≡ 0 → goal ≡ last_on sheet a.sheet_bytes
    → Added routes₀ costs₀ goal a.cost routes costs → Tallies a sheet routes₀ costs₀ routes costs
unfolding routes_with costs_with
tallies_route found last added =
    let route = eq-eqb _ _ found in
    record { routes_are = simp (route, ← last) added.routes_are; costs_are = simp (route, ← last) added.costs_are }
