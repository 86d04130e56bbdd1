-- The least paths within C as a problem of their own: its routes are the cheapest ones within C, and each costs as many arcs as it has. So its
-- cheapest routes have the fewest places, and document 01's rule there gives the first cheapest route. Assumes nothing.
use mathlib.Core.Path.{◌≡◌, refl, sym, ap, subst, subst⁻¹, ◌∙◌}
use mathlib.Core.Logic.{◌↔◌}
use mathlib.Core.List.{List, [], ◌∷◌, ◌++◌}
use mathlib.Core.Option.{Option, none, some}
use Prim.Native.Nat.{ℕ, suc, ◌+◌, ◌≤◌}
use native.Mathlib.Nat.{le_refl}
use native.Mathlib.Omega.{arith}
use lib.Dec.{eqb}
use lib.ListN.{length, length-append}
use borrow.Author.Tests.{eqb-true, eq-eqb}
use Rattle.model.specs.Problem.{Problem, Arc, IsArc, IsGoal, Valid}
use Rattle.model.specs.Paths.{Walk, stay, on, places, arc_count, PathTo, Within, RouteWithin, First, FirstWithin}
use Rattle.model.specs.Costs.{Table, cost_at, same_entry, table}
use Rattle.model.specs.Query.{Key, first_goal}
use Rattle.model.specs.Routes.{route_to, tight_by, least_paths, route_to_first, first_route}
use Rattle.model.proofs.Lists.{none-some, filter-member, filter_map_member}
use Rattle.model.proofs.Relaxing.{same_entry_true, arcs_cost}
use Rattle.model.proofs.LeastCosts.{start_below, end_below, entry_path, path_entry, start_within}
use Rattle.model.proofs.Keys.{first_goal_none, first_goal_some}
use Rattle.model.proofs.Routes.{cond_some, before_least, cheapest_entry, within_cheapest, route_back}

-- a walk has one place more than arcs
pub places_count : {p : Problem} {u v d : ℕ} (w : Walk p u v d) → length (places w) ≡ suc (arc_count w)
unfolding places arc_count
places_count stay = refl
places_count (on a i w) = omega (arith, length-append (places w) (a.to ∷ []), places_count w)

-- the arc a counted as 1
abbrev one : Arc → Arc
one a = record { from = a.from; to = a.to; cost = 1 }

module _ (p : Problem) (t : Table) (c : ℕ) where
  -- b is a tight arc, counted as 1
  pub record Tight (b : Arc) : Type 0 where
    pub arc : Arc
    pub is_arc : IsArc p arc
    pub before : ℕ
    pub entry : cost_at t arc.from ≡ some before
    pub reached : cost_at t arc.to ≡ some (before + arc.cost)
    pub is : b ≡ one arc

  tight_by_lem : (a b : Arc) (o e : Option ℕ) → tight_by a o e ≡ some b → (d : ℕ) × (o ≡ some d) × (e ≡ some (d + a.cost)) × (b ≡ one a)
  unfolding tight_by
  tight_by_lem a b none e h = none-some h
  tight_by_lem a b (some d) none h = none-some h
  tight_by_lem a b (some d) (some e) h =
      let (test, is) = cond_some (eqb (d + a.cost) e) (one a) b h in
      (d, refl, ap some (sym (eqb-true (d + a.cost) e test)), sym is)

  pub arc_tight : (b : Arc) → IsArc (least_paths p t c) b → Tight b
  unfolding least_paths
  arc_tight b i =
      let (a, j, h) = (filter_map_member _ p.arcs b).0 i in
      let (d, entry, reached, is) = tight_by_lem a b (cost_at t a.from) (cost_at t a.to) h in
      record { arc = a; is_arc = j; before = d; entry = entry; reached = reached; is = is }

  pub tight_arc : (a : Arc) (d : ℕ) → IsArc p a → cost_at t a.from ≡ some d → cost_at t a.to ≡ some (d + a.cost)
      → IsArc (least_paths p t c) (one a)
  unfolding least_paths tight_by
  tight_arc a d i e f =
      (filter_map_member _ p.arcs (one a)).1 (a, i, rw (e, f, eq-eqb (d + a.cost) (d + a.cost) refl))

  pub goal_at : (g : ℕ) → IsGoal (least_paths p t c) g ↔ (IsGoal p g × (cost_at t g ≡ some c))
  unfolding least_paths same_entry
  goal_at g =
      let passes = filter-member (λ (g : ℕ). same_entry (cost_at t g) (some c)) p.goals g in (
        λ i. ((passes.0 i).0, same_entry_true (cost_at t g) (some c) (passes.0 i).1),
        λ h. passes.1 (h.0, rw h.1 (eq-eqb c c refl)),
      )

  pub least_paths_valid : Valid p → (g : ℕ) → IsGoal p g → cost_at t g ≡ some c → Valid (least_paths p t c)
  unfolding least_paths
  least_paths_valid ok g i e =
      record {
        some_place = ok.some_place;
        few_places_lem = ok.few_places_lem;
        arc_from = λ b j. let a = arc_tight b j in rw a.is (ok.arc_from a.arc a.is_arc);
        arc_to = λ b j. let a = arc_tight b j in rw a.is (ok.arc_to a.arc a.is_arc);
        cost_above = λ b j. rw (arc_tight b j).is (le_refl 1);
        cost_below = λ b j. rw (arc_tight b j).is (omega arith);
        estimate_below = λ v. omega arith;
        start_below = ok.start_below;
        some_goal = (g, (goal_at g).1 (i, e));
        goal_below = λ h j. ok.goal_below h ((goal_at h).0 j).0;
        goal_estimate = λ h j. refl;
        grows = ok.grows;
      }

  -- it has no estimates, so that a walk is within every limit from its cost on
  pub count_within : (E : ℕ) {u v k : ℕ} (w : Walk (least_paths p t c) u v k) → k ≤ E → Within E w
  unfolding least_paths Within
  count_within E stay h = omega arith
  count_within E (on b i w) h = (count_within E w (omega arith), omega arith)

-- a path within C at the D of its end, with k arcs, along the places r
pub record LeastPath (p : Problem) (C v k : ℕ) (r : List ℕ) : Type 0 where
  pub cost : ℕ
  pub entry : cost_at (table p C) v ≡ some cost
  pub path : PathTo p v cost
  pub within : Within C path
  pub arcs : arc_count path ≡ k
  pub in_order : places path ≡ r

-- a path among the least paths, of cost k
pub record Counted (p : Problem) (C c v k : ℕ) (r : List ℕ) : Type 0 where
  pub path : PathTo (least_paths p (table p C) c) v k
  pub in_order : places path ≡ r

module _ (p : Problem) (ok : Valid p) (C c : ℕ) where
  tight_on : (a : Arc) → IsArc p a → (d : ℕ) → cost_at (table p C) a.from ≡ some d → cost_at (table p C) a.to ≡ some (d + a.cost)
      → (k : ℕ) (r : List ℕ) → LeastPath p C a.from k r → LeastPath p C a.to (k + 1) (r ++ (a.to ∷ []))
  unfolding Within places arc_count
  tight_on a i d e f k r w =
      let same : w.cost ≡ d = cc w.entry in
      let below = end_below (entry_path p C a.to (d + a.cost) f) in
      record {
        cost = w.cost + a.cost;
        entry = rw same f;
        path = on a i w.path;
        within = (w.within, rw same below);
        arcs = omega (arith, w.arcs);
        in_order = ap (λ (l : List ℕ). l ++ (a.to ∷ [])) w.in_order;
      }

  counted_on : (b : Arc) → IsArc (least_paths p (table p C) c) b → (k : ℕ) (r : List ℕ) → LeastPath p C b.from k r
      → LeastPath p C b.to (k + b.cost) (r ++ (b.to ∷ []))
  counted_on b i k r =
      let a = arc_tight p (table p C) c b i in
      subst⁻¹ (λ (x : Arc). LeastPath p C x.from k r → LeastPath p C x.to (k + x.cost) (r ++ (x.to ∷ []))) a.is
      (tight_on a.arc a.is_arc a.before a.entry a.reached k r)

  -- A path among the least paths is one within C at its end's D, with as many arcs as it costs;
  pub counted_least : p.estimate p.start ≤ C → {v k : ℕ} (w : PathTo (least_paths p (table p C) c) v k) → LeastPath p C v k (places w)
  unfolding least_paths Within places arc_count
  counted_least h stay = record { cost = 0; entry = start_within p ok C h; path = stay; within = h; arcs = refl; in_order = refl }
  counted_least h (on {d = k} b i w) = counted_on b i k (places w) (counted_least h w)

  -- and every such path is among them.
  pub least_counted : {v d : ℕ} (w : PathTo p v d) → Within C w → cost_at (table p C) v ≡ some d → Counted p C c v (arc_count w) (places w)
  unfolding least_paths Within places arc_count
  least_counted stay i e = record { path = stay; in_order = refl }
  least_counted (on {d = d} a j w) i e =
      let before = before_least p ok C a j d w i e in
      let rest = least_counted w i.0 before in
      let more : Counted p C c a.to (arc_count w + 1) (places w ++ (a.to ∷ [])) = record {
        path = on (one a) (tight_arc p (table p C) c a d j before e) rest.path;
        in_order = ap (λ (l : List ℕ). l ++ (a.to ∷ [])) rest.in_order;
      } in
      subst (λ (k : ℕ). Counted p C c a.to k (places w ++ (a.to ∷ []))) (omega arith) more

-- g is the first goal within C
module _ (p : Problem) (ok : Valid p) (C : ℕ) (g : Key) (e : first_goal p (table p C) ≡ some g) where
  q : Problem
  q = least_paths p (table p C) g.cost

  start : p.estimate p.start ≤ C
  start = start_below (entry_path p C g.place g.cost (first_goal_some p (table p C) g e).entry)

  valid : Valid q
  unfolding q
  valid =
      let first = first_goal_some p (table p C) g e in
      least_paths_valid p (table p C) g.cost ok g.place first.is_goal first.entry

  -- A cheapest route within C is one of q, and costs there one less than it has places;
  to_count : (s : List ℕ) → RouteWithin p C g.cost s → (k : ℕ) × (length s ≡ suc k) × RouteWithin q g.cost k s
  unfolding q
  to_count s r =
      let w = r.route.path in
      let entry = cheapest_entry p ok C g e s r in
      let x = least_counted p ok C g.cost w r.within entry in
      let few = arcs_cost p ok C w in
      let size : length s ≡ suc (arc_count w) = ap length (sym r.route.in_order) ∙ places_count w in
      let goal = (goal_at p (table p C) g.cost r.route.goal).1 (r.route.is_goal, entry) in (
        arc_count w,
        size,
        record {
          route = record { goal = r.route.goal; is_goal = goal; path = x.path; in_order = x.in_order ∙ r.route.in_order };
          within = count_within p (table p C) g.cost g.cost x.path few;
        },
      )

  -- and every route of q is such a route.
  from_count : (k : ℕ) (s : List ℕ) → RouteWithin q g.cost k s → (length s ≡ suc k) × RouteWithin p C g.cost s
  unfolding q
  from_count k s r =
      let w = counted_least p ok C g.cost start r.route.path in
      let (goal, at_cost) = (goal_at p (table p C) g.cost r.route.goal).0 r.route.is_goal in
      let cost : w.cost ≡ g.cost = cc w.entry in
      let in_order = w.in_order ∙ r.route.in_order in
      let size : length s ≡ suc k = ap length (sym in_order) ∙ places_count w.path ∙ ap suc w.arcs in
      let found : RouteWithin p C w.cost s = record {
        route = record { goal = r.route.goal; is_goal = goal; path = w.path; in_order = in_order };
        within = w.within;
      } in
      (size, rw cost at found)

  first_counted : (h : Key) × (first_goal q (table q g.cost) ≡ some h)
  first_counted = go (first_goal q (table q g.cost)) refl
    where
      go : (o : Option Key) → first_goal q (table q g.cost) ≡ o → (h : Key) × (first_goal q (table q g.cost) ≡ some h)
      go (some h) z = (h, z)
      go none z =
          let (s, r) = (within_cheapest p ok C g e).holds in
          let (k, size, x) = to_count s r in
          let m = path_entry q valid g.cost x.route.goal k (record { path = x.route.path; within = x.within }) in
          absurd (first_goal_none q (table q g.cost) z x.route.goal x.route.is_goal (record { cost = m.cost; is = m.is }))

  -- The route is the first of the cheapest ones within C.
  pub route_within : FirstWithin p C g.cost (first_route p (table p C) g)
  unfolding first_route route_to_first q
  route_within =
      let (h, z) = first_counted in
      record { cheapest = within_cheapest p ok C g e; first = rw z (first_of h z) }
    where
      first_of : (h : Key) → first_goal q (table q g.cost) ≡ some h → First (RouteWithin p C g.cost) (route_to q (table q g.cost) h)
      first_of h z =
          let r = route_to q (table q g.cost) h in
          let back = route_back q valid g.cost h z in
          let (size, itself) = from_count h.cost r back.member in
          let no_fewer : (s : List ℕ) → RouteWithin p C g.cost s → length r ≤ length s = λ s x.
          let (k, other, y) = to_count s x in
          omega (arith, (within_cheapest q valid g.cost h z).least k (s, y)) in
          record {
            member = record { member = itself; fewest = no_fewer };
            lowest = λ x y read u v i s.
                let (k, other, z) = to_count (y ++ (v ∷ read)) s.member in
                let same : k ≡ h.cost = omega (arith, s.fewest r itself, no_fewer (y ++ (v ∷ read)) s.member) in
                back.lowest x y read u v i (rw same at z);
          }
