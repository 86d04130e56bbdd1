-- Every route that a search gives is one that a sheet may hold. Assumes nothing.
use mathlib.Core.Path.{◌≡◌}
use mathlib.Core.List.{List, [], ◌∷◌, ◌++◌}
use mathlib.Core.Option.{some}
use Prim.Native.Nat.{ℕ, zero, suc, ◌+◌, ◌-◌, ◌*◌, ◌≤◌, ◌<◌}
use native.Mathlib.Nat.{le_refl}
use native.Mathlib.Decide.{dec_lt}
use native.Mathlib.Omega.{arith}
use lib.ListN.{length, get_or, length-append, get_or-append}
use lib.Seq.{get_or_at}
use Rattle.model.specs.Limits.{max_places, max_cost}
use Rattle.model.specs.Problem.{Problem, Valid}
use Rattle.model.specs.Paths.{stay, on, places, PathTo, Within, RouteWithin}
use Rattle.model.specs.Costs.{Table, cost_at, table}
use Rattle.model.specs.Query.{Key, first_goal}
use Rattle.model.specs.Routes.{first_route}
use Rattle.model.specs.Terms.{AtMost}
use Rattle.model.proofs.Indices.{Different}
use Rattle.model.proofs.Keys.{within-length}
use Rattle.model.proofs.LeastCosts.{table-length, entry_place}
use Rattle.model.proofs.Crossing.{cheaper, cheaper_fewer, cheaper_shorter}
use Rattle.model.proofs.Routes.{before_least, cheapest_entry}
use Rattle.model.proofs.LeastPaths.{route_within}
use Rattle.model.proofs.Sheets.{Possible}

-- An index into a list with v after it is one into the list, or is the end, where v stands.
data SnocAt (r : List ℕ) (v i : ℕ) : Type 0 where
  earlier : i < length r → get_or (r ++ (v ∷ [])) i 0 ≡ get_or r i 0 → SnocAt r v i
  at_end : length r ≡ i → get_or (r ++ (v ∷ [])) i 0 ≡ v → SnocAt r v i

snoc_at : (r : List ℕ) (v i : ℕ) → i < length (r ++ (v ∷ [])) → SnocAt r v i
snoc_at r v i h = go (dec_lt i (length r))
  where
    go : Dec (i < length r) → SnocAt r v i
    go (yes l) = earlier l (get_or-append r (v ∷ []) 0 i l)
    go (no l) =
        let end : length r ≡ i = omega (arith, length-append r (v ∷ [])) in
        at_end end (get_or_at r v [] 0 i end)

-- a new element put after different ones
snoc_different : (r : List ℕ) (v : ℕ) → Different r → ((i : ℕ) → i < length r → get_or r i 0 ≡ v → ⊥) → Different (r ++ (v ∷ []))
snoc_different r v h new i j l m e = go (snoc_at r v i (omega arith)) (snoc_at r v j m)
  where
    go : SnocAt r v i → SnocAt r v j → ⊥
    go (earlier a x) (earlier b y) = h i j l b (cc)
    go (earlier a x) (at_end b y) = new i a (cc)
    go (at_end a x) (earlier b y) = omega arith
    go (at_end a x) (at_end b y) = omega arith

-- places whose D rises from 0 to d, each time by what one arc may cost
data Rising (t : Table) : ℕ → List ℕ → Type 0 where
  first : (v : ℕ) → cost_at t v ≡ some 0 → Rising t 0 (v ∷ [])
  next : {d : ℕ} {r : List ℕ} → Rising t d r → (v c : ℕ) → 1 ≤ c → c ≤ max_cost → cost_at t v ≡ some (d + c) → Rising t (d + c) (r ++ (v ∷ []))

-- at most one place more than have a D below d, and a d that so many arcs can cost
record Counts (t : Table) (d : ℕ) (r : List ℕ) : Type 0 where
  some_place : 1 ≤ length r
  few_places_lem : length r ≤ length (cheaper t d) + 1
  cost_above : length r - 1 ≤ d
  cost_below : d ≤ (length r - 1) * max_cost

module _ (t : Table) where
  rising_end : {d : ℕ} {r : List ℕ} → Rising t d r → (v : ℕ) × (cost_at t v ≡ some d)
  rising_end (first v e) = (v, e)
  rising_end (next s v c h k e) = (v, e)

  rising_entry : {d : ℕ} {r : List ℕ} → Rising t d r → (i : ℕ) → i < length r → AtMost (cost_at t (get_or r i 0)) d
  rising_entry (first v e) zero l = record { cost = 0; is = e; below = le_refl 0 }
  rising_entry (first v e) (suc i) l = absurd (omega arith)
  rising_entry (next {d = d} {r = r} s v c h k e) i l = go (λ a. rising_entry s i a) (snoc_at r v i l)
    where
      go : (i < length r → AtMost (cost_at t (get_or r i 0)) d) → SnocAt r v i → AtMost (cost_at t (get_or (r ++ (v ∷ [])) i 0)) (d + c)
      go before (earlier a x) =
          let m = before a in
          record { cost = m.cost; is = rw x m.is; below = omega (arith, m.below) }
      go before (at_end a x) = record { cost = d + c; is = rw x e; below = le_refl (d + c) }

  rising_different : {d : ℕ} {r : List ℕ} → Rising t d r → Different r
  rising_different (first v e) = λ i j l m q. omega arith
  rising_different (next {d = d} {r = r} s v c h k e) = snoc_different r v (rising_different s) new
    where
      new : (i : ℕ) → i < length r → get_or r i 0 ≡ v → ⊥
      new i l q =
          let m = rising_entry s i l in
          let same : m.cost ≡ d + c = cc in
          omega (arith, m.below)

  rising_counts : {d : ℕ} {r : List ℕ} → Rising t d r → Counts t d r
  rising_counts (first v e) = record { some_place = omega arith; few_places_lem = omega arith; cost_above = omega arith; cost_below = omega arith }
  rising_counts (next {d = d} {r = r} s v c h k e) =
      let n = rising_counts s in
      let one_more : length (r ++ (v ∷ [])) ≡ length r + 1 = length-append r (v ∷ []) in
      let end = rising_end s in
      let fewer = cheaper_fewer t d (d + c) end.0 end.1 (omega arith) in
      record {
        some_place = omega arith;
        few_places_lem = omega (arith, n.few_places_lem);
        cost_above = omega (arith, n.some_place, n.cost_above);
        cost_below = omega (arith, n.some_place, n.cost_below);
      }

module _ (p : Problem) (ok : Valid p) (C : ℕ) where
  -- A path within C that costs as much as D at its end costs as much as D at each of its places.
  path_rising : {v d : ℕ} (w : PathTo p v d) → Within C w → cost_at (table p C) v ≡ some d → Rising (table p C) d (places w)
  unfolding places Within
  path_rising stay i e = first p.start e
  path_rising (on {d = d} a j w) i e =
      next (path_rising w i.0 (before_least p ok C a j d w i e)) a.to a.cost (ok.cost_above a j) (ok.cost_below a j) e

  rising_possible : (d : ℕ) (r : List ℕ) → Rising (table p C) d r → Possible d r
  rising_possible d r s =
      let n = rising_counts (table p C) s in
      let end = rising_end (table p C) s in
      let not-all-cheaper = cheaper_shorter (table p C) d end.0 end.1 in
      record {
        some_place = n.some_place;
        few_places_lem = omega (arith, n.few_places_lem, within-length (table p C), table-length p C, ok.few_places_lem);
        place_below = below;
        different = rising_different (table p C) s;
        cost_above = n.cost_above;
        cost_below = n.cost_below;
      }
    where
      below : (i : ℕ) → i < length r → get_or r i 0 < max_places
      below i l =
          let m = rising_entry (table p C) s i l in
          omega (arith, entry_place p C (get_or r i 0) m.cost m.is, ok.few_places_lem)

-- every cheapest route within C
cheapest_possible : (p : Problem) → Valid p → (C : ℕ) (g : Key) → first_goal p (table p C) ≡ some g
    → (r : List ℕ) → RouteWithin p C g.cost r → Possible g.cost r
cheapest_possible p ok C g e r q =
    let rising = path_rising p ok C q.route.path q.within (cheapest_entry p ok C g e r q) in
    rising_possible p ok C g.cost r (rw q.route.in_order at rising)

pub route_possible : (p : Problem) → Valid p → (C : ℕ) (g : Key) → first_goal p (table p C) ≡ some g
    → Possible g.cost (first_route p (table p C) g)
route_possible p ok C g e = cheapest_possible p ok C g e _ (route_within p ok C g e).first.member.member
