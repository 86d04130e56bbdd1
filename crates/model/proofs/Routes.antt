-- The route that document 01's rule gives is the first, read from the goal back, of the cheapest ones within the limit; and a first cheapest route is
-- the only one. Assumes nothing.
use mathlib.Core.Path.{◌≡◌, refl, sym}
use mathlib.Core.Logic.{◌⊎◌, inl, inr}
use mathlib.Core.Bool.{Bool, true, false, cond, ◌&&◌}
use mathlib.Core.List.{List, [], ◌∷◌, ◌++◌, Memᴰ, append_assoc, concat-ne-nil, cons-ne-nil, append-ne-nil_of_right_ne-nil}
use mathlib.Core.Option.{Option, none, some}
use Prim.Native.Nat.{ℕ, zero, suc, ◌+◌, ◌≤◌}
use native.Mathlib.Omega.{arith}
use native.Mathlib.Nat.{le_refl}
use lib.Dec.{eqb}
use lib.ListN.{length, length-append}
use borrow.Author.Tests.{eqb-true, eq-eqb}
use Rattle.model.specs.Lists.{filter_map}
use Rattle.model.specs.Problem.{Problem, Arc, IsArc, Valid}
use Rattle.model.specs.Paths.{Least, Walk, stay, on, places, PathTo, Route, Within, RouteWithin, FirstBack, First, FirstCheapest}
use Rattle.model.specs.Costs.{Table, cost_at, table}
use Rattle.model.specs.Query.{Key, first_goal}
use Rattle.model.specs.Routes.{parent_by, parent, extend, route_up_to, route_to}
use Rattle.model.specs.Terms.{AtMost, NoMore}
use Rattle.model.proofs.Lists.{none-some, both, filter_map_member, least-none, least-some}
use Rattle.model.proofs.LeastCosts.{Via, start_below, end_below, entry_path, path_entry, arc_entry, entry_via}
use Rattle.model.proofs.Keys.{IsFirstGoal, first_goal_some}

pub cond_some : {A : Type 0} (b : Bool) (x y : A) → cond b (some x) none ≡ some y → (b ≡ true) × (x ≡ y)
cond_some false x y e = none-some e
cond_some true x y e = (refl, cc)

-- a list taken apart from its end
data Back {A : Type 0} : List A → Type 0 where
  empty : Back []
  snoc : {l : List A} → Back l → (a : A) → Back (l ++ (a ∷ []))

-- where l with v after it is x, then u, then read: v was read first, and the rest of what was read stands in l
record Passed {A : Type 0} (l : List A) (v : A) (x : List A) (u : A) (read : List A) : Type 0 where
  earlier : List A
  was_read : read ≡ earlier ++ (v ∷ [])
  left : l ≡ x ++ (u ∷ earlier)

module _ {A : Type 0} where
  cons_back : (a : A) {l : List A} → Back l → Back (a ∷ l)
  cons_back a empty = snoc empty a
  cons_back a (snoc b x) = snoc (cons_back a b) x

  back : (l : List A) → Back l
  back [] = empty
  back (a ∷ l) = cons_back a (back l)

  pub snoc_injective : (l m : List A) (a b : A) → l ++ (a ∷ []) ≡ m ++ (b ∷ []) → (l ≡ m) × (a ≡ b)
  snoc_injective [] [] a b e = (refl, cc)
  snoc_injective [] (y ∷ m) a b e = absurd (concat-ne-nil b m (cc))
  snoc_injective (x ∷ l) [] a b e = absurd (concat-ne-nil a l (cc))
  snoc_injective (x ∷ l) (y ∷ m) a b e =
      let rest : (l ≡ m) × (a ≡ b) = snoc_injective l m a b (cc) in
      (cc, rest.1)

  snoc_split : (l : List A) (v : A) (x : List A) (u : A) (read : List A) → l ++ (v ∷ []) ≡ x ++ (u ∷ read)
      → ((read ≡ []) × (u ≡ v)) ⊎ Passed l v x u read
  snoc_split l v x u read e = go (back read) e
    where
      go : {read : List A} → Back read → l ++ (v ∷ []) ≡ x ++ (u ∷ read) → ((read ≡ []) × (u ≡ v)) ⊎ Passed l v x u read
      go empty e = inl (refl, sym (snoc_injective l x v u e).1)
      go (snoc {l = m} b a) e =
          let same : (l ≡ x ++ (u ∷ m)) × (v ≡ a) = snoc_injective l (x ++ (u ∷ m)) v a (rw append_assoc e) in
          inr (record { earlier = m; was_read = cc; left = same.0 })

-- read from the back, r and s agree, or at the first place where they differ r has the lower number, or one of them ends
abbrev NotAfter : List ℕ → List ℕ → Type 0
NotAfter r s = (x y read : List ℕ) (u v : ℕ) → r ≡ x ++ (u ∷ read) → s ≡ y ++ (v ∷ read) → u ≤ v

nothing_not_after : (l m : List ℕ) → (l ≡ []) ⊎ (m ≡ []) → NotAfter l m
nothing_not_after l m (inl o) x y read u v e f = absurd (append-ne-nil_of_right_ne-nil x (cons-ne-nil u read) (cc))
nothing_not_after l m (inr o) x y read u v e f = absurd (append-ne-nil_of_right_ne-nil y (cons-ne-nil v read) (cc))

not_after_snoc : (l m : List ℕ) (a b : ℕ) → a ≤ b → (a ≡ b → NotAfter l m) → NotAfter (l ++ (a ∷ [])) (m ++ (b ∷ []))
not_after_snoc l m a b h before x y read u v e f = go (snoc_split l a x u read e) (snoc_split m b y v read f)
  where
    go : ((read ≡ []) × (u ≡ a)) ⊎ Passed l a x u read → ((read ≡ []) × (v ≡ b)) ⊎ Passed m b y v read → u ≤ v
    go (inl i) (inl j) = rw (i.1, j.1) h
    go (inl i) (inr j) = absurd (concat-ne-nil b j.earlier (cc))
    go (inr i) (inl j) = absurd (concat-ne-nil a i.earlier (cc))
    go (inr i) (inr j) =
        let same : (i.earlier ≡ j.earlier) × (a ≡ b) = snoc_injective i.earlier j.earlier a b (cc) in
        before same.1 x y i.earlier u v i.left (cc)

not_after_unsnoc : (l m : List ℕ) (a b : ℕ) → NotAfter (l ++ (a ∷ [])) (m ++ (b ∷ [])) → a ≡ b → NotAfter l m
not_after_unsnoc l m a b h same x y read u v e f =
    h x y (read ++ (a ∷ [])) u v (cc (append_assoc x (u ∷ read) (a ∷ []))) (cc (append_assoc y (v ∷ read) (a ∷ [])))

abbrev EndsIn : List ℕ → ℕ → Type 0
EndsIn r a = (x : List ℕ) × (r ≡ x ++ (a ∷ []))

not_after_ends : (r s : List ℕ) (a b : ℕ) → EndsIn r a → EndsIn s b → a ≤ b → (a ≡ b → NotAfter r s) → NotAfter r s
not_after_ends r s a b i j h same =
    rw (i.1, j.1) (not_after_snoc i.0 j.0 a b h (λ k. not_after_unsnoc i.0 j.0 a b (rw (i.1, j.1) at (same k)) k))

last_not_after : (s : List ℕ) (a : ℕ) → EndsIn s a → NotAfter (a ∷ []) s
last_not_after s a j = rw j.1 (not_after_snoc [] j.0 a a (le_refl a) (λ k. nothing_not_after [] j.0 (inl refl)))

-- two lists of one length that are not after one another are the same
same_from_back : (r s : List ℕ) → length r ≡ length s → NotAfter r s → NotAfter s r → r ≡ s
same_from_back r s n h k = go (back r) (back s) n h k
  where
    go : {r s : List ℕ} → Back r → Back s → length r ≡ length s → NotAfter r s → NotAfter s r → r ≡ s
    go empty empty n h k = refl
    go empty (snoc {l = m} c v) n h k = absurd (omega (arith, length-append m (v ∷ [])))
    go (snoc {l = l} b u) empty n h k = absurd (omega (arith, length-append l (u ∷ [])))
    go (snoc {l = l} b u) (snoc {l = m} c v) n h k =
        let same : u ≡ v = omega (arith, h l m [] u v refl refl, k m l [] v u refl refl) in
        let size : length l ≡ length m = omega (arith, length-append l (u ∷ []), length-append m (v ∷ [])) in
        let rest = go b c size (not_after_unsnoc l m u v h same) (not_after_unsnoc m l v u k (sym same)) in
        cc

places_end : {p : Problem} {u v d : ℕ} (w : Walk p u v d) → EndsIn (places w) v
unfolding places
places_end stay = ([], refl)
places_end (on a i w) = (places w, refl)

-- a path within C to v of cost d, with the places r
pub record Along (p : Problem) (C v d : ℕ) (r : List ℕ) : Type 0 where
  pub path : PathTo p v d
  pub within : Within C path
  pub in_order : places path ≡ r

pub parent_by_some : (a : Arc) (v : ℕ) (o e : Option ℕ) (u : ℕ) → parent_by a v o e ≡ some u
    → (d : ℕ) × (o ≡ some d) × (e ≡ some (d + a.cost)) × (a.to ≡ v) × (a.from ≡ u)
unfolding parent_by
parent_by_some a v none e u h = none-some h
parent_by_some a v (some d) none u h = none-some h
parent_by_some a v (some d) (some e) u h =
    let passed : (eqb a.to v && eqb (d + a.cost) e ≡ true) × (a.from ≡ u) = cond_some _ a.from u h in
    let parts : (eqb a.to v ≡ true) × (eqb (d + a.cost) e ≡ true) = both _ _ passed.0 in
    let sum : d + a.cost ≡ e = eqb-true (d + a.cost) e parts.1 in
    (d, refl, cc, eqb-true a.to v parts.0, passed.1)

-- the place, if any, from which the arc a ends a least path to v
abbrev candidate : Problem → ℕ → ℕ → Arc → Option ℕ
candidate p C v a = parent_by a v (cost_at (table p C) a.from) (cost_at (table p C) v)

-- the parent of a place within is the lowest place from which a least path can come
module _ (p : Problem) (C v d : ℕ) (e : cost_at (table p C) v ≡ some d) where
  via_candidate : (w : Via p C v d) → Memᴰ w.arc.from (filter_map (candidate p C v) p.arcs)
  unfolding parent_by
  via_candidate w = (filter_map_member (candidate p C v) p.arcs w.arc.from).1 (w.arc, w.is_arc, reaches)
    where
      reaches : candidate p C v w.arc ≡ some w.arc.from
      reaches = rw (e, w.entry, eq-eqb w.arc.to v w.ends, eq-eqb (w.before + w.arc.cost) d w.sum)

  parent-none : parent p (table p C) v ≡ none → Via p C v d → ⊥
  unfolding parent
  parent-none h w = least-none (filter_map (candidate p C v) p.arcs) h w.arc.from (via_candidate w)

  parent_lowest : (u : ℕ) → parent p (table p C) v ≡ some u → (w : Via p C v d) → u ≤ w.arc.from
  unfolding parent
  parent_lowest u h w = (least-some (filter_map (candidate p C v) p.arcs) u h).1 w.arc.from (via_candidate w)

  pub parent_via : (u : ℕ) → parent p (table p C) v ≡ some u → (w : Via p C v d) × (w.arc.from ≡ u)
  unfolding parent
  parent_via u h =
      let listed = (least-some (filter_map (candidate p C v) p.arcs) u h).0 in
      let (a, i, q) = (filter_map_member (candidate p C v) p.arcs u).0 listed in
      let (b, entry, sum, ends, from) = parent_by_some a v (cost_at (table p C) a.from) (cost_at (table p C) v) u q in
      (record { arc = a; is_arc = i; ends = ends; before = b; entry = entry; sum = cc }, from)

route_up_to_ends : (k : ℕ) (p : Problem) (t : Table) (v : ℕ) → EndsIn (route_up_to k p t v) v
unfolding route_up_to extend
route_up_to_ends zero p t v = ([], refl)
route_up_to_ends (suc k) p t v = go (parent p t v)
  where
    go : (o : Option ℕ) → EndsIn (extend v o (route_up_to k p t)) v
    go none = ([], refl)
    go (some u) = (route_up_to k p t u, refl)

-- no path within C at v's D comes before the table's route to v
abbrev RouteFirst : Problem → ℕ → ℕ → ℕ → Type 0
RouteFirst p C k v = (d : ℕ) (s : List ℕ) → cost_at (table p C) v ≡ some d → Along p C v d s → NotAfter (route_up_to k p (table p C) v) s

module _ (p : Problem) (ok : Valid p) (C : ℕ) where
  -- a place that no arc leads to at its D is the start
  start_along : (v d : ℕ) → cost_at (table p C) v ≡ some d → (Via p C v d → ⊥) → Along p C v d (v ∷ [])
  unfolding Within places
  start_along v d e alone = go (entry_via p ok C v d e)
    where
      go : ((v ≡ p.start) × (d ≡ 0)) ⊎ Via p C v d → Along p C v d (v ∷ [])
      go (inl h) = rw (h.0, h.1) (record { path = stay; within = start_below (entry_path p C v d e); in_order = refl })
      go (inr w) = absurd (alone w)

  along_via : (v d : ℕ) (w : Via p C v d) (r : List ℕ) → d + p.estimate v ≤ C → Along p C w.arc.from w.before r
      → Along p C v d (r ++ (v ∷ []))
  unfolding Within places
  along_via v d w r h b =
      let low : w.before + w.arc.cost + p.estimate w.arc.to ≤ C = rw (w.ends, w.sum) h in
      let along : places b.path ++ (w.arc.to ∷ []) ≡ r ++ (w.arc.to ∷ []) = rw b.in_order in
      rw (← w.ends, ← w.sum) (record { path = on w.arc w.is_arc b.path; within = (b.within, low); in_order = along })

  -- the table's route to a place within is a path within C, at the place's D
  pub route_along : (k v d : ℕ) → cost_at (table p C) v ≡ some d → d ≤ k → Along p C v d (route_up_to k p (table p C) v)
  unfolding route_up_to extend
  route_along zero v d e h = start_along v d e (λ w. omega (arith, ok.cost_above w.arc w.is_arc, w.sum))
  route_along (suc k) v d e h = go (parent p (table p C) v) refl (λ u b. route_along k u b)
    where
      go : (o : Option ℕ) → parent p (table p C) v ≡ o
          → ((u b : ℕ) → cost_at (table p C) u ≡ some b → b ≤ k → Along p C u b (route_up_to k p (table p C) u))
          → Along p C v d (extend v o (route_up_to k p (table p C)))
      go none q before = start_along v d e (parent-none p C v d e q)
      go (some u) q before =
          let (w, from) = parent_via p C v d e u q in
          let lower : w.before ≤ k = omega (arith, ok.cost_above w.arc w.is_arc, w.sum) in
          let along : Along p C u w.before (route_up_to k p (table p C) u) = before u w.before (rw from at w.entry) lower in
          along_via v d w (route_up_to k p (table p C) u) (end_below (entry_path p C v d e)) (rw from along)

  -- a least path's part before its last arc is least
  pub before_least : (a : Arc) (i : IsArc p a) (b : ℕ) (w : PathTo p a.from b) → Within C (on a i w)
      → cost_at (table p C) a.to ≡ some (b + a.cost) → cost_at (table p C) a.from ≡ some b
  unfolding Within
  before_least a i b w h e =
      let least : AtMost (cost_at (table p C) a.from) b = path_entry p ok C a.from b (record { path = w; within = h.0 }) in
      let low : least.cost ≤ b = least.below in
      let to : AtMost (cost_at (table p C) a.to) (least.cost + a.cost) = arc_entry p ok C a least.cost i least.is (omega (arith, h.1)) in
      let same : to.cost ≡ b + a.cost = cc in
      let equal : least.cost ≡ b = omega arith in
      rw equal at least.is

  -- the route to v by way of its parent u, where the route to u comes first
  parent_first : (k u : ℕ) → RouteFirst p C k u → {v d : ℕ} (w : PathTo p v d) → Within C w → cost_at (table p C) v ≡ some d
      → parent p (table p C) v ≡ some u → NotAfter (route_up_to k p (table p C) u ++ (v ∷ [])) (places w)
  unfolding places Within
  parent_first k u before stay i e h =
      not_after_snoc (route_up_to k p (table p C) u) [] p.start p.start (le_refl p.start)
      (λ same. nothing_not_after (route_up_to k p (table p C) u) [] (inr refl))
  parent_first k u before (on {d = b} a j w) i e h =
      let entry : cost_at (table p C) a.from ≡ some b = before_least a j b w i e in
      let via : Via p C a.to (b + a.cost) = record { arc = a; is_arc = j; ends = refl; before = b; entry = entry; sum = refl } in
      let lower : u ≤ a.from = parent_lowest p C a.to (b + a.cost) e u h via in
      let along : Along p C a.from b (places w) = record { path = w; within = i.0; in_order = refl } in
      not_after_snoc (route_up_to k p (table p C) u) (places w) a.to a.to (le_refl a.to)
      (λ same. not_after_ends (route_up_to k p (table p C) u) (places w) u a.from (route_up_to_ends k p (table p C) u) (places_end w) lower
      (λ equal. before b (places w) (rw equal entry) (rw equal along)))

  route_first : (k v : ℕ) → RouteFirst p C k v
  unfolding route_up_to extend
  route_first zero v d s e q = last_not_after s v (rw q.in_order at (places_end q.path))
  route_first (suc k) v d s e q = go (parent p (table p C) v) refl (λ u. route_first k u)
    where
      go : (o : Option ℕ) → parent p (table p C) v ≡ o → ((u : ℕ) → RouteFirst p C k u)
          → NotAfter (extend v o (route_up_to k p (table p C))) s
      go none h before = last_not_after s v (rw q.in_order at (places_end q.path))
      go (some u) h before = rw q.in_order at (parent_first k u (before u) q.path q.within e h)

module _ (p : Problem) (ok : Valid p) (C : ℕ) (g : Key) (e : first_goal p (table p C) ≡ some g) where
  first : IsFirstGoal p (table p C) g
  first = first_goal_some p (table p C) g e

  -- the goal of a route within C has a D of at most what the route costs
  goal_entry : (c : ℕ) (s : List ℕ) (q : RouteWithin p C c s) → AtMost (cost_at (table p C) q.route.goal) c
  goal_entry c s q = path_entry p ok C q.route.goal c (record { path = q.route.path; within = q.within })

  at_least : (c : ℕ) (s : List ℕ) → RouteWithin p C c s → g.cost ≤ c
  at_least c s q =
      let entry = goal_entry c s q in
      omega (arith, first.cheapest q.route.goal entry.cost q.route.is_goal entry.is, entry.below)

  -- and just that where the route costs as little as the first goal's D
  pub cheapest_entry : (s : List ℕ) (q : RouteWithin p C g.cost s) → cost_at (table p C) q.route.goal ≡ some g.cost
  cheapest_entry s q =
      let entry = goal_entry g.cost s q in
      let low = first.cheapest q.route.goal entry.cost q.route.is_goal entry.is in
      let equal : entry.cost ≡ g.cost = omega (arith, entry.below) in
      rw equal at entry.is

  along : Along p C g.place g.cost (route_to p (table p C) g)
  unfolding route_to
  along = route_along p ok C g.cost g.place g.cost first.entry (omega arith)

  itself : RouteWithin p C g.cost (route_to p (table p C) g)
  itself =
      let route : Route p g.cost (route_to p (table p C) g) =
      record { goal = g.place; is_goal = first.is_goal; path = along.path; in_order = along.in_order } in
      record { route = route; within = along.within }

  -- no route within C costs less than the first goal's D
  pub within_cheapest : Least (λ d. (s : List ℕ) × RouteWithin p C d s) g.cost
  within_cheapest = record { holds = (route_to p (table p C) g, itself); least = λ c s. at_least c s.0 s.1 }

  not_after : (s : List ℕ) → RouteWithin p C g.cost s → NotAfter (route_to p (table p C) g) s
  unfolding route_to
  not_after s q =
      let goal : ℕ = q.route.goal in
      let other : Along p C goal g.cost s = record { path = q.route.path; within = q.within; in_order = q.route.in_order } in
      not_after_ends (route_to p (table p C) g) s g.place goal
      (route_up_to_ends g.cost p (table p C) g.place) (rw q.route.in_order at (places_end q.route.path))
      (first.lowest goal q.route.is_goal (cheapest_entry s q))
      (λ same. route_first p ok C g.cost g.place g.cost s first.entry (rw same other))

  -- document 01's rule
  pub route_back : FirstBack (RouteWithin p C g.cost) (route_to p (table p C) g)
  route_back = record { member = itself; lowest = λ x y read u v i s. not_after (y ++ (v ∷ read)) s x y read u v i refl }

-- the first of the same routes is the same
pub first_same : {R S : List ℕ → Type 0} {r : List ℕ} → ((s : List ℕ) → R s → S s) → ((s : List ℕ) → S s → R s)
    → First R r → First S r
first_same to from f =
    record {
      member = record { member = to _ f.member.member; fewest = λ s z. f.member.fewest s (from s z) };
      lowest = λ x y read u v e z.
          f.lowest x y read u v e (record { member = from _ z.member; fewest = λ s i. z.fewest s (to s i) });
    }

-- Where the first route ends: at the goal that comes first by the number of places on the way to it, then by its own number.
pub first_ends : {R : List ℕ → Type 0} {r : List ℕ} → First R r → (x y : List ℕ) (g h : ℕ) → r ≡ x ++ (g ∷ []) → R (y ++ (h ∷ []))
    → NoMore (length r) g (length (y ++ (h ∷ []))) h
first_ends {r = r} f x y g h ends other =
    let fewest = f.member.fewest in
    record {
      first = fewest (y ++ (h ∷ [])) other;
      second = λ same. f.lowest x y [] g h ends (record { member = other; fewest = λ s i. omega (arith, fewest s i) });
    }

-- there is only one first route
first_unique : {R : List ℕ → Type 0} (r s : List ℕ) → First R r → First R s → r ≡ s
first_unique {R} r s f g = same_from_back r s size (not_after r s f g) (not_after s r g f)
  where
    size : length r ≡ length s
    size = omega (arith, f.member.fewest s g.member.member, g.member.fewest r f.member.member)

    not_after : (r s : List ℕ) → First R r → First R s → NotAfter r s
    not_after r s f g x y read u v i j = f.lowest x y read u v i (rw j at g.member)

pub first_cheapest_unique : (p : Problem) (c e : ℕ) (r s : List ℕ) → FirstCheapest p c r → FirstCheapest p e s → (c ≡ e) × (r ≡ s)
first_cheapest_unique p c e r s f g = (costs, first_unique r s f.first (rw costs g.first))
  where
    costs : c ≡ e
    costs = omega (arith, f.cheapest.least e (s, g.first.member.member), g.cheapest.least c (r, f.first.member.member))
