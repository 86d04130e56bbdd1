-- A route has at most as many places as the map: they differ, and each is a place of the map. Assumes nothing.
use mathlib.Core.Path.{◌≡◌, sym, ap, ◌∙◌}
use mathlib.Core.Logic.{◌⊎◌, inl, inr}
use mathlib.Core.List.Memᴰ
use mathlib.Core.List.{List, [], ◌∷◌, Memᴰ}
use Prim.Native.Nat.{ℕ, ◌≤◌, ◌<◌}
use native.Mathlib.Omega.{arith}
use lib.ListN.{length}
use Rattle.model.specs.Lists.{below}
use Rattle.model.specs.Problem.{Problem, Valid}
use Rattle.model.specs.Costs.{table}
use Rattle.model.specs.Routes.{first_route}
use Rattle.model.specs.Endings.{Reached, Ending, spent, no_route, routed, budgeted}
use Rattle.model.proofs.Lists.{below-member, different_among, below_length}
use Rattle.model.proofs.Indices.{Different, different_repeats}
use Rattle.model.proofs.Endings.{Ends, spent_ends, none_ends, route_ends, budgeted_ends}
use Rattle.model.proofs.RouteSheets.{route_possible}
use Rattle.model.proofs.Sheets.{Possible}
use Rattle.layout.specs.Labels.{Follows, first, after}

-- the parents lead along places of the map
follows_below : {n : ℕ} {w : List ℕ} {v : ℕ} {r : List ℕ} → Follows n w v r → (x : ℕ) → Memᴰ x r → x < n
follows_below (first l e) x i = rw (Memᴰ.eq_of_singleton i) l
follows_below {n} (after {v = v} {r = r} l e f) x i = go (λ j. follows_below f x j) (Memᴰ.append_cases r i)
  where
    go : (Memᴰ x r → x < n) → Memᴰ x r ⊎ Memᴰ x (v ∷ []) → x < n
    go before (inl i) = before i
    go before (inr i) = rw (Memᴰ.eq_of_singleton i) l

-- the cost and the places of an ending that is a route
unfoldable cost_of : Ending → ℕ
cost_of (spent e) = 0
cost_of (no_route e) = 0
cost_of (routed e) = e.cost

unfoldable places_of : Ending → List ℕ
places_of (spent e) = []
places_of (no_route e) = []
places_of (routed e) = e.places

-- a route that a search gives can stand on a sheet
module _ (p : Problem) (ok : Valid p) (a : ℕ) where
  pub routed_possible : {x : Reached} → budgeted p a ≡ routed x → Possible x.cost x.places
  unfolding cost_of places_of
  routed_possible {x} e = go (budgeted_ends p a ok)
    where
      go : Ends p a (budgeted p a) → Possible x.cost x.places
      go (spent_ends i) = let is = i.is in absurd (let z : ◌≡◌ {A = ℕ} 0 1 = cc in omega arith)
      go (none_ends i) = let is = i.is in absurd (let z : ◌≡◌ {A = ℕ} 0 1 = cc in omega arith)
      go (route_ends i) =
          let is : routed _ ≡ routed x = sym i.is ∙ e in
          let cost : i.goal.cost ≡ x.cost = ap cost_of is in
          let places : first_route p (table p i.last.limit) i.goal ≡ x.places = ap places_of is in
          rw (places, cost) at (route_possible p ok i.last.limit i.goal i.is_first)

-- the parents lead along at most n places where these differ
pub follows_few : {n goal : ℕ} {w r : List ℕ} → Follows n w goal r → Different r → length r ≤ n
follows_few {n} {r = r} f different =
    let among = different_among r (below n) (different_repeats r different) (λ x i. (below-member n x).1 (follows_below f x i)) in
    omega (arith, among, below_length n)
