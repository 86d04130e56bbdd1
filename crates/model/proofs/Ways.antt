-- The problem's walks are just the ways over the lanes that an input states, at the cost of lanes plus waits. Assumes nothing.
use mathlib.Core.Path.{◌≡◌, refl, sym, ap, subst, ◌∙◌}
use mathlib.Core.Logic.{◌↔◌}
use mathlib.Core.List.Memᴰ
use mathlib.Core.List.{List, [], ◌∷◌, ◌++◌, map, map-append, Memᴰ}
use Prim.Native.Nat.{ℕ, ◌+◌, ◌<◌}
use native.Mathlib.Omega.{arith}
use Rattle.model.specs.Problem.{Problem, Arc, IsGoal}
use Rattle.model.specs.Sums.{sum_over}
use Rattle.model.specs.Paths.{Walk, stay, on, places, WalkAlong, Route, Overstates}
use Rattle.model.specs.Items.{Lane}
use Rattle.model.specs.Stated.{Stated, lane_cost, wait_at, arc_of, problem_of}
use Rattle.model.specs.Ways as ways
use Rattle.model.specs.Ways.{Way, lanes_cost, waits_cost, Travels}
use Rattle.model.proofs.Sums.{over_snoc}

module _ (s : Stated) where
  abbrev p : Problem
  p = problem_of s

  -- one lane more
  travels_on : {u d : ℕ} {r : List ℕ} (l : Lane) → Memᴰ l s.lanes → Travels s u l.from d r
      → Travels s u l.to (d + (arc_of s l).cost) (r ++ (l.to ∷ []))
  unfolding arc_of lanes_cost waits_cost
  travels_on {u = u} l is_lane t =
      let lanes = t.lanes in
      let own = over_snoc (lane_cost s) lanes l in
      let waits = over_snoc (λ (m : Lane). wait_at s m.from) lanes l in
      record {
        lanes = lanes ++ (l ∷ []);
        way = ways.on l is_lane t.way;
        cost = omega (arith, t.cost);
        in_order =
            ap (λ (r : List ℕ). r ++ (l.to ∷ [])) t.in_order
            ∙ ap (λ (r : List ℕ). u ∷ r) (sym (map-append (λ (m : Lane). m.to) lanes (l ∷ [])));
      }

  walk_travels : {u v d : ℕ} (w : Walk p u v d) → Travels s u v d (places w)
  unfolding places sum_over lanes_cost waits_cost problem_of arc_of
  walk_travels stay = record { lanes = []; way = ways.stay; cost = refl; in_order = refl }
  walk_travels {u = u} (on {d} a i w) =
      let (l, is_lane, is) = Memᴰ.of_map (arc_of s) s.lanes i in
      let r = places w in
      subst (λ (b : Arc). Travels s u b.from d r → Travels s u b.to (d + b.cost) (r ++ (b.to ∷ []))) is
      (travels_on l is_lane) (walk_travels w)

  way_walks : {u v : ℕ} {lanes : List Lane} → Way s u v lanes
      → WalkAlong p u v (lanes_cost s lanes + waits_cost s lanes) (u ∷ map (λ (l : Lane). l.to) lanes)
  unfolding places sum_over lanes_cost waits_cost problem_of arc_of
  way_walks ways.stay = record { walk = stay; in_order = refl }
  way_walks {u = u} (ways.on {lanes} l is_lane way) =
      let before = way_walks way in
      let a = arc_of s l in
      let cost : lanes_cost s (lanes ++ (l ∷ [])) + waits_cost s (lanes ++ (l ∷ [])) ≡ lanes_cost s lanes + waits_cost s lanes + a.cost
      = omega (arith, over_snoc (lane_cost s) lanes l, over_snoc (λ (m : Lane). wait_at s m.from) lanes l) in
      rw (cost, map-append (λ (m : Lane). m.to) lanes (l ∷ []))
      (record {
        walk = on a (Memᴰ.map (arc_of s) is_lane) before.walk;
        in_order = ap (λ (r : List ℕ). r ++ (l.to ∷ [])) before.in_order;
      })

  -- the problem's walks are the ways over the lanes
  pub walks_are_ways : (u v d : ℕ) (r : List ℕ) → WalkAlong p u v d r ↔ Travels s u v d r
  walks_are_ways u v d r = (λ w. rw (← w.in_order) (walk_travels w.walk), λ t. rw (t.cost, t.in_order) (way_walks t.way))

  -- and so are routes, and the walks from which it is seen whether an estimate overstates
  pub routes_are_ways : (d : ℕ) (r : List ℕ) → Route p d r ↔ ((g : ℕ) × IsGoal p g × Travels s p.start g d r)
  routes_are_ways d r = (
    λ x. (x.goal, x.is_goal, (walks_are_ways _ _ d r).0 (record { walk = x.path; in_order = x.in_order })),
    λ x. let (g, is_goal, t) = x in let w = (walks_are_ways _ g d r).1 t in
        record { goal = g; is_goal = is_goal; path = w.walk; in_order = w.in_order },
  )

  pub overstates_by_ways : (v : ℕ)
      → Overstates p v ↔ ((g d : ℕ) × (r : List ℕ) × IsGoal p g × Travels s v g d r × (d < p.estimate v))
  overstates_by_ways v = (
    λ x. (x.goal, x.cost, places x.walk, x.is_goal, walk_travels x.walk, x.above),
    λ x. let (g, d, r, is_goal, t, above) = x in
        record { goal = g; is_goal = is_goal; cost = d; walk = ((walks_are_ways v g d r).1 t).walk; above = above },
  )
