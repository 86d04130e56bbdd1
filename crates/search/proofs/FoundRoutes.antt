-- Goal and parents taken from the labels and depths of a query that found a goal lead along the first route of the limit's table. Assumes nothing.
use mathlib.Core.Path.{◌≡◌, refl, sym, ap, subst, subst⁻¹, ◌∙◌}
use mathlib.Core.Bool.{Bool, true, false, cond}
use mathlib.Core.List.{List, [], ◌∷◌, Memᴰ}
use mathlib.Core.Option.{Option, none, some, some-injective}
use Prim.Native.Nat.{ℕ, zero, suc, ◌+◌, ◌≤◌, ◌<◌}
use native.Mathlib.Nat.{le_refl}
use native.Mathlib.Omega.{arith}
use lib.Dec.{eqb}
use lib.ListN.{length, get_or, drop}
use borrow.Author.Tests.{eqb-true, eq-eqb}
use Rattle.map.specs.declared.Site.{Site}
use Rattle.layout.specs.Regions.{ends_at}
use Rattle.layout.specs.Map.{problem_at}
use Rattle.layout.specs.Labels.{labels, depths, parent_at, Follows, first, after}
use Rattle.layout.proofs.Held.{problem_same}
use Rattle.layout.proofs.Labels.{HasLabel, label_is, is_label, depth_at}
use Rattle.model.specs.Lists.{filter_map, least}
use Rattle.model.specs.Problem.{Problem, Arc, IsArc, IsGoal, Valid}
use Rattle.model.specs.Costs.{Table, cost_at, table}
use Rattle.model.specs.Query.{Key, first_goal}
use Rattle.model.specs.Routes.{parent_by, parent, extend, route_up_to, route_to, least_paths, route_to_first, first_route}
use Rattle.model.proofs.Lists.{none-some, filter_map_member}
use Rattle.model.proofs.LeastCosts.{entry_place}
use Rattle.model.proofs.Keys.{first_goal_some, first_goal_is}
use Rattle.model.proofs.Routes.{parent_by_some, parent_via}
use Rattle.model.proofs.LeastPaths.{Tight, arc_tight, tight_arc, goal_at, least_paths_valid}
use Rattle.model.specs.Terms.{NoMore}
use Rattle.model.proofs.Same.{same_least}
use Rattle.scans.specs.Area.{parent_from, HasParents, NearestGoal}
use Rattle.query.specs.Query.{Agrees, FoundAt}

-- an arc that gives v a parent, by label and by depth
parent_from-some : (t : Table) (ks : List ℕ) (v : ℕ) (a : Arc) (u : ℕ) → parent_from t ks v a ≡ some u
    → (get_or ks a.from 0 + 1 ≡ get_or ks v 0) × (parent_by a v (cost_at t a.from) (cost_at t v) ≡ some u)
unfolding parent_from
parent_from-some t ks v a u e = go (eqb (get_or ks a.from 0 + 1) (get_or ks v 0)) refl e
  where
    go : (b : Bool) → eqb (get_or ks a.from 0 + 1) (get_or ks v 0) ≡ b → cond b (parent_by a v (cost_at t a.from) (cost_at t v)) none ≡ some u
        → (get_or ks a.from 0 + 1 ≡ get_or ks v 0) × (parent_by a v (cost_at t a.from) (cost_at t v) ≡ some u)
    go true q e = (eqb-true _ _ q, e)
    go false q e = none-some e

-- The first goal was found at cost c; label and ks are the labels and the depths.
module _ (p : Problem) (ok : Valid p) (C : ℕ) (label : Table) (ks : List ℕ) (g : Key) (is_first : first_goal p (table p C) ≡ some g)
    (agrees : Agrees label (table p C) g.cost)
    (deep : (v d : ℕ) → cost_at label v ≡ some d → d ≤ g.cost
    → cost_at (table (least_paths p (table p C) g.cost) g.cost) v ≡ some (get_or ks v 0)) where
  abbrev c : ℕ
  c = g.cost

  -- the least paths, and their table of arcs
  abbrev q : Problem
  q = least_paths p (table p C) c

  abbrev arcs : Table
  arcs = table q c

  fine : Valid q
  fine =
      let found = first_goal_some p (table p C) g is_first in
      least_paths_valid p (table p C) c ok g.place found.is_goal found.entry

  abbrev candidate : ℕ → Arc → Option ℕ
  candidate v b = parent_by b v (cost_at arcs b.from) (cost_at arcs v)

  -- the parent by labels and depths of a place labelled no more than c is the one among the least paths
  module _ (v d : ℕ) (l : cost_at label v ≡ some d) (h : d ≤ c) where
    entry : cost_at (table p C) v ≡ some d
    entry = agrees.label_entry v d l h

    -- an arc among the least paths to v, and its start, which is labelled no more than c either
    record LastArc (b : Arc) : Type 0 where
      tight : Tight p (table p C) c b
      at_start : b.from ≡ tight.arc.from
      at_end : tight.arc.to ≡ v
      total : tight.before + tight.arc.cost ≡ d
      low : tight.before ≤ c
      known : cost_at label tight.arc.from ≡ some tight.before

    last_arc : (b : Arc) → IsArc q b → b.to ≡ v → LastArc b
    last_arc b i ends =
        let t = arc_tight p (table p C) c b i in
        let at_end : t.arc.to ≡ v = sym (ap (λ (x : Arc). x.to) t.is) ∙ ends in
        let total : t.before + t.arc.cost ≡ d = some-injective _ _ (sym t.reached ∙ ap (cost_at (table p C)) at_end ∙ entry) in
        let low : t.before ≤ c = omega arith in
        record {
          tight = t;
          at_start = ap (λ (x : Arc). x.from) t.is;
          at_end = at_end;
          total = total;
          low = low;
          known = agrees.entry_label t.arc.from t.before t.entry low;
        }

    to_counted : (u : ℕ) → Memᴰ u (filter_map (parent_from label ks v) p.arcs) → Memᴰ u (filter_map (candidate v) q.arcs)
    unfolding parent_by
    to_counted u m =
        let (a, i, e) = (filter_map_member (parent_from label ks v) p.arcs u).0 m in
        let (one_more, by) = parent_from-some label ks v a u e in
        let (before, start, sum, ends, from) = parent_by_some a v (cost_at label a.from) (cost_at label v) u by in
        let total : before + a.cost ≡ d = some-injective _ _ (sym sum ∙ l) in
        let low : before ≤ c = omega arith in
        let tight = tight_arc p (table p C) c a before i (agrees.label_entry a.from before start low) (rw (ends, total) entry) in
        (filter_map_member (candidate v) q.arcs u).1 (
          record { from = a.from; to = a.to; cost = 1 },
          tight,
          rw (deep a.from before start low, deep v d l h, eq-eqb a.to v ends, eq-eqb _ _ one_more) (ap some from),
        )

    from_counted : (u : ℕ) → Memᴰ u (filter_map (candidate v) q.arcs) → Memᴰ u (filter_map (parent_from label ks v) p.arcs)
    unfolding parent_from parent_by
    from_counted u m =
        let (b, i, e) = (filter_map_member (candidate v) q.arcs u).0 m in
        let (before, start, sum, ends, from) = parent_by_some b v (cost_at arcs b.from) (cost_at arcs v) u e in
        let x = last_arc b i ends in
        let t = x.tight in
        let a = t.arc in
        let own : get_or ks a.from 0 ≡ before =
        some-injective _ _ (sym (deep a.from t.before x.known x.low) ∙ ap (cost_at arcs) (sym x.at_start) ∙ start) in
        let end : get_or ks v 0 ≡ before + b.cost = some-injective _ _ (sym (deep v d l h) ∙ sum) in
        let one : b.cost ≡ 1 = ap (λ (x : Arc). x.cost) t.is in
        let deeper : get_or ks a.from 0 + 1 ≡ get_or ks v 0 = omega arith in
        (filter_map_member (parent_from label ks v) p.arcs u).1
        (a, t.is_arc, rw (eq-eqb _ _ deeper, x.known, l, eq-eqb a.to v x.at_end, eq-eqb _ _ x.total) (ap some (sym x.at_start ∙ from)))

    same_parent : least (filter_map (parent_from label ks v) p.arcs) ≡ parent q arcs v
    unfolding parent
    same_parent = same_least _ _ to_counted from_counted

  -- so the parents in the words w lead along the routes among the least paths
  module _ (n : ℕ) (w : List ℕ) (count : p.places ≡ n)
      (parents : (v : ℕ) → v < n → parent_at n w v ≡ least (filter_map (parent_from label ks v) p.arcs)) where
    place : (v d : ℕ) → cost_at label v ≡ some d → d ≤ c → v < n
    place v d l h = rw (← count) (entry_place p C v d (entry v d l h))

    parent_is : (v d : ℕ) → cost_at label v ≡ some d → d ≤ c → parent_at n w v ≡ parent q arcs v
    parent_is v d l h = parents v (place v d l h) ∙ same_parent v d l h

    follows_up_to : (k v j d : ℕ) → cost_at arcs v ≡ some j → j ≤ k → cost_at label v ≡ some d → d ≤ c → Follows n w v (route_up_to k q arcs v)
    unfolding route_up_to extend
    follows_up_to zero v j d e b l h = go (parent q arcs v) refl
      where
        go : (o : Option ℕ) → parent q arcs v ≡ o → Follows n w v (v ∷ [])
        go none z = first (place v d l h) (parent_is v d l h ∙ z)
        go (some u) z =
            let (by, from) = parent_via q c v j e u z in
            absurd (omega (arith, fine.cost_above by.arc by.is_arc, by.sum))
    follows_up_to (suc k) v j d e b l h = go (parent q arcs v) refl (follows_up_to k)
      where
        go : (o : Option ℕ) → parent q arcs v ≡ o
            → ((u i x : ℕ) → cost_at arcs u ≡ some i → i ≤ k → cost_at label u ≡ some x → x ≤ c → Follows n w u (route_up_to k q arcs u))
            → Follows n w v (extend v o (route_up_to k q arcs))
        go none z rest = first (place v d l h) (parent_is v d l h ∙ z)
        go (some u) z rest =
            let (by, from) = parent_via q c v j e u z in
            let x = last_arc v d l h by.arc by.is_arc by.ends in
            let known = rw (sym x.at_start ∙ from) at x.known in
            let less : by.before ≤ k = omega (arith, fine.cost_above by.arc by.is_arc, by.sum) in
            after (place v d l h) (parent_is v d l h ∙ z) (rest u by.before x.tight.before (rw from at by.entry) less known x.low)

    -- from the goal at cost c that comes first by depth, along the first route
    follows_first : (goal : ℕ) → IsGoal p goal → cost_at label goal ≡ some c
        → ((h : ℕ) → IsGoal p h → cost_at label h ≡ some c → NoMore (get_or ks goal 0) goal (get_or ks h 0) h)
        → Follows n w goal (first_route p (table p C) g)
    unfolding first_route route_to_first route_to
    follows_first goal i l nearest =
        let own = deep goal c l (le_refl c) in
        rw first_is (follows_up_to (get_or ks goal 0) goal (get_or ks goal 0) c own (le_refl _) l (le_refl c))
      where
        at_cost : (h : ℕ) → IsGoal q h → IsGoal p h × (cost_at label h ≡ some c)
        at_cost h j = let (k, e) = (goal_at p (table p C) c h).0 j in (k, agrees.entry_label h c e (le_refl c))

        depth_of : (h d : ℕ) → cost_at label h ≡ some c → cost_at arcs h ≡ some d → get_or ks h 0 ≡ d
        depth_of h d m e = some-injective _ _ (sym (deep h c m (le_refl c)) ∙ e)

        first_is : first_goal q arcs ≡ some (record { cost = get_or ks goal 0; place = goal })
        first_is =
            first_goal_is q arcs (record { cost = get_or ks goal 0; place = goal })
            (record {
              is_goal = (goal_at p (table p C) c goal).1 (i, agrees.label_entry goal c l (le_refl c));
              entry = deep goal c l (le_refl c);
              cheapest = λ h d j e. let (k, m) = at_cost h j in omega (arith, (nearest h k m).first, depth_of h d m e);
              lowest = λ h j e. let (k, m) = at_cost h j in (nearest h k m).second (sym (depth_of h (get_or ks goal 0) m e));
            })

-- In words w₁ with the map of w₀: following the parents back from the goal that was chosen leads along the route that the definitions give.
pub follows_route : (s : Site) (C found goal : ℕ) (w₀ w₁ w : List ℕ) → Valid (problem_at s w₀)
    → drop (ends_at s.places) w₁ ≡ drop (ends_at s.places) w₀ → s.places ≤ length w₁
    → (f : FoundAt (problem_at s w₀) C found w₁) → HasParents s w₁ w → NearestGoal s found w₁ goal
    → Follows s.places w goal (first_route (problem_at s w₀) (table (problem_at s w₀) C) (record { cost = f.cost; place = found }))
unfolding problem_at
follows_route s C found goal w₀ w₁ w ok same room f h nearest =
    follows_first p ok C (labels n w₁) (depths n w₁) g f.is_first f.agrees deep n w refl
    (λ v i. h.parents v i ∙ ap (λ (x : Problem). least (filter_map (parent_from (labels n w₁) (depths n w₁) v) x.arcs)) map) goal is_goal at_cost
    (λ x i l. rw (depth_at n w₁ goal (label_is n w₁ room goal f.cost at_cost).place, depth_at n w₁ x (label_is n w₁ room x f.cost l).place)
    (nearest.nearest x (subst⁻¹ (λ (y : Problem). IsGoal y x) map i) ((label_is n w₁ room x f.cost l).word ∙ sym own.word)))
  where
    n : ℕ
    n = s.places

    p : Problem
    p = problem_at s w₀

    g : Key
    g = record { cost = f.cost; place = found }

    map : problem_at s w₁ ≡ p
    map = problem_same s w₁ w₀ same

    is_goal : IsGoal p goal
    is_goal = subst (λ (x : Problem). IsGoal x goal) map nearest.is_goal

    own : HasLabel n w₁ found f.cost
    own =
        let entry = (first_goal_some p (table p C) g f.is_first).entry in
        label_is n w₁ room found f.cost (f.agrees.entry_label found f.cost entry (le_refl f.cost))

    at_cost : cost_at (labels n w₁) goal ≡ some f.cost
    at_cost = is_label n w₁ room goal f.cost (record { place = ok.goal_below goal is_goal; word = nearest.label ∙ own.word; some = own.some })

    deep : (v d : ℕ) → cost_at (labels n w₁) v ≡ some d → d ≤ f.cost
        → cost_at (table (least_paths p (table p C) f.cost) f.cost) v ≡ some (get_or (depths n w₁) v 0)
    deep v d l h = rw (depth_at n w₁ v (label_is n w₁ room v d l).place) (f.depths v d l h)
