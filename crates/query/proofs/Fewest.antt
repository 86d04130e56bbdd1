-- Depths in a uniform-cost search under way: the fewest arcs over the paths found at a label's cost, kept as places are expanded; and where a goal is
-- the first open place, the fewest over all least paths. Assumes nothing.
use mathlib.Core.Path.{◌≡◌, refl, ap, ◌∙◌}
use mathlib.Core.Logic.{◌⊎◌, inl, inr}
use mathlib.Core.Bool.{Bool, true, false}
use mathlib.Core.List.{List}
use mathlib.Core.Option.{Option, some}
use Prim.Native.Nat.{ℕ, ◌+◌, ◌≤◌, ◌<◌}
use native.Mathlib.Omega.{arith}
use Rattle.model.specs.Problem.{Problem, Arc, IsArc, IsGoal, Valid}
use Rattle.model.specs.Paths.{Walk, stay, on, arc_count, PathTo, Within, PathWithin}
use Rattle.model.specs.Costs.{cost_at, table}
use Rattle.model.specs.Routes.{least_paths}
use Rattle.model.specs.Terms.{AtMost, NoMore}
use Rattle.model.proofs.Relaxing.{weaken, arcs_cost}
use Rattle.model.proofs.LeastCosts.{entry_below, entry_path, start_below, table_least}
use Rattle.model.proofs.Keys.{no_more_on}
use Rattle.model.proofs.Routes.{before_least}
use Rattle.model.proofs.LeastPaths.{LeastPath, count_within, least_paths_valid, counted_least, least_counted}
use Rattle.query.specs.Front.{Front, Through, PathFound, FewestFound, FirstOpen, Gives, Expanded, Deepened, also}
use Rattle.query.proofs.Settling.{also_true, also_same, also_still, old_label, still_labelled, expand_relaxed, path_after}
use Rattle.query.proofs.Front.{first_open_least}

-- ---- Paths found

module _ {p : Problem} {C : ℕ} {E : ℕ → Type 0} where
  -- one goes on by an arc of an expanded place
  found_on : (a : Arc) → IsArc p a → E a.from → {d k : ℕ} → PathFound p C E a.from d k → d + a.cost + p.estimate a.to ≤ C
      → PathFound p C E a.to (d + a.cost) (k + 1)
  unfolding Within Through arc_count
  found_on a i s f h =
      record { path = on a i f.path; within = (f.within, h); through = (f.through, s); arcs = omega (arith, f.arcs) }

module _ {p : Problem} {E F : ℕ → Type 0} (wider : (u : ℕ) → E u → F u) where
  through_wider : {u v d : ℕ} (w : Walk p u v d) → Through E w → Through F w
  unfolding Through
  through_wider stay t = tt
  through_wider (on a i w) t = (through_wider w t.0, wider a.from t.1)

  found_wider : {C v d k : ℕ} → PathFound p C E v d k → PathFound p C F v d k
  found_wider f = record { path = f.path; within = f.within; through = through_wider f.path f.through; arcs = f.arcs }

-- which places are expanded may be told in other words
pub fewest_same : {p : Problem} {C : ℕ} {E F : ℕ → Type 0} {label : ℕ → Option ℕ} {depth : ℕ → ℕ} → ((u : ℕ) → E u → F u) → ((u : ℕ) → F u → E u)
    → FewestFound p C E label depth → FewestFound p C F label depth
fewest_same to from f =
    record {
      cost = λ v d k g. f.cost v d k (found_wider from g);
      arcs = λ v d e.
          let l = f.arcs v d e in
          record { holds = found_wider to l.holds; least = λ k g. l.least k (found_wider from g) };
    }

-- Where each arc of an expanded place gives its end no less than its label, no path found gives less.
module _ (p : Problem) (C : ℕ) (E : ℕ → Type 0) (label : ℕ → Option ℕ) (begins : AtMost (label p.start) 0)
    (relaxed : (a : Arc) (z : ℕ) → IsArc p a → E a.from → label a.from ≡ some z → z + a.cost + p.estimate a.to ≤ C
    → AtMost (label a.to) (z + a.cost)) where
  found_labelled : {v d : ℕ} (w : PathTo p v d) → Within C w → Through E w → AtMost (label v) d
  unfolding Within Through
  found_labelled stay i t = begins
  found_labelled (on {d = d} a j w) i t =
      let m = found_labelled w i.0 t.0 in
      weaken (omega (arith, m.below)) (relaxed a m.cost j t.1 m.is (omega (arith, i.1, m.below)))

-- no place's label and depth are more than an arc of an expanded place gives it
abbrev PassedOn : Problem → (C : ℕ) (E : ℕ → Type 0) (label : ℕ → Option ℕ) (depth : ℕ → ℕ) → Type 0
PassedOn p C E label depth =
    (a : Arc) (z y : ℕ) → IsArc p a → E a.from → label a.from ≡ some z → z + a.cost + p.estimate a.to ≤ C
    → label a.to ≡ some y → NoMore y (depth a.to) (z + a.cost) (depth a.from + 1)

-- then they are no more than what a path found gives it
module _ (p : Problem) (C : ℕ) (E : ℕ → Type 0) (label : ℕ → Option ℕ) (depth : ℕ → ℕ)
    (begins : (y : ℕ) → label p.start ≡ some y → NoMore y (depth p.start) 0 0)
    (labelled : (u : ℕ) → E u → (z : ℕ) × (label u ≡ some z)) (passed_on : PassedOn p C E label depth) where
  found_no_less : {v d : ℕ} (w : PathTo p v d) → Within C w → Through E w → (y : ℕ) → label v ≡ some y → NoMore y (depth v) d (arc_count w)
  unfolding Within Through arc_count
  found_no_less stay i t y e = begins y e
  found_no_less (on {d = d} a j w) i t y e =
      let (z, l) = labelled a.from t.1 in
      let before = found_no_less w i.0 t.0 z l in
      let last = passed_on a z y j t.1 l (omega (arith, i.1, before.first)) e in
      record {
        first = omega (arith, last.first, before.first);
        second = λ q.
            let same : z ≡ d = omega (arith, last.first, before.first) in
            omega (arith, last.second (omega arith), before.second same);
      }

-- ---- One place expanded

module _ (p : Problem) (ok : Valid p) (C : ℕ) (label : ℕ → Option ℕ) (depth : ℕ → ℕ) (settled : ℕ → Bool) (front : Front p C label settled)
    (fewest : FewestFound p C (λ u. settled u ≡ true) label depth) where
  passed_on : PassedOn p C (λ u. settled u ≡ true) label depth
  passed_on a z y i s l h e =
      record {
        first = entry_below e (front.relaxed a z i s l h);
        second = λ q. (fewest.arcs a.to y e).least (depth a.from + 1) (rw q (found_on a i s (fewest.arcs a.from z l).holds h));
      }

  -- no record has more arcs than it costs
  pub depth_at_most : (v d : ℕ) → label v ≡ some d → depth v ≤ d
  depth_at_most v d e = let f = (fewest.arcs v d e).holds in omega (arith, f.arcs, arcs_cost p ok C f.path)

  module _ (v d : ℕ) (f : FirstOpen label settled v d) (after : ℕ → Option ℕ) (depth' : ℕ → ℕ) (x : Expanded p C v d label after)
      (deep : Deepened p C v d (depth v + 1) label depth after depth') where
    -- what is settled with v has the label and the depth that it had
    same_record : (u y : ℕ) → also settled v u ≡ true → after u ≡ some y → (label u ≡ some y) × (depth' u ≡ depth u)
    same_record u y s e = go (deep.sound u y e)
      where
        go : ((label u ≡ some y) × (depth' u ≡ depth u)) ⊎ (Gives p C v d u y × (depth' u ≡ depth v + 1))
            → (label u ≡ some y) × (depth' u ≡ depth u)
        go (inl h) = h
        go (inr (g, is)) =
            let (l, old) = old_label p ok C label settled front v d f after x u y s e in
            absurd (omega (arith, ok.cost_above g.arc g.is_arc, g.sum, entry_below old l))

    passed_on_next : PassedOn p C (λ u. also settled v u ≡ true) after depth'
    passed_on_next a z y i s l h e = go (also_true settled v a.from s) (same_record a.from z s l)
      where
        go : (settled a.from ≡ true) ⊎ (a.from ≡ v) → (label a.from ≡ some z) × (depth' a.from ≡ depth a.from)
            → NoMore y (depth' a.to) (z + a.cost) (depth' a.from + 1)
        go (inl t) (old, same) =
            let m = front.relaxed a z i t old h in
            rw same (no_more_on (deep.kept a.to m.cost y m.is e) (passed_on a z m.cost i t old h m.is))
        go (inr q) (old, same) =
            let at_d : z ≡ d = cc f.is_labelled in
            let deeper : depth a.from + 1 ≡ depth v + 1 = ap (λ (u : ℕ). depth u + 1) q in
            rw (same, deeper, at_d) (deep.reached a y i q (rw at_d at h) e)

    begins_next : (y : ℕ) → after p.start ≡ some y → NoMore y (depth' p.start) 0 0
    unfolding Within Through arc_count
    begins_next y e =
        let b = front.begins in
        let at-0 : label p.start ≡ some 0 = b.is ∙ ap some (omega (arith, b.below)) in
        let within = start_below (front.backed p.start 0 at-0) in
        let none = (fewest.arcs p.start 0 at-0).least 0 (record { path = stay; within = within; through = tt; arcs = refl }) in
        let kept = deep.kept p.start 0 y at-0 e in
        record { first = kept.first; second = λ q. omega (arith, kept.second q) }

    pub next_fewest : FewestFound p C (λ u. also settled v u ≡ true) after depth'
    next_fewest =
        record {
          cost = λ u y k g. found_labelled p C (λ w. also settled v w ≡ true) after (x.kept p.start 0 front.begins) relaxed
              g.path g.within g.through;
          arcs = λ u y e. record {
            holds = go u y (deep.sound u y e);
            least = λ k g. rw g.arcs at ((no_less g.path g.within g.through y e).second refl);
          };
        }
      where
        relaxed : (a : Arc) (z : ℕ) → IsArc p a → also settled v a.from ≡ true → after a.from ≡ some z
            → z + a.cost + p.estimate a.to ≤ C → AtMost (after a.to) (z + a.cost)
        relaxed = expand_relaxed p ok C label settled front v d f after x

        still : (w : ℕ) → settled w ≡ true → also settled v w ≡ true
        still w s = also_still settled v w s

        labelled : (w : ℕ) → also settled v w ≡ true → (z : ℕ) × (after w ≡ some z)
        labelled w s = still_labelled p ok C label settled front v d f after x w s

        no_less : {w z : ℕ} (path : PathTo p w z) → Within C path → Through (λ u. also settled v u ≡ true) path → (y : ℕ) → after w ≡ some y
            → NoMore y (depth' w) z (arc_count path)
        no_less = found_no_less p C (λ u. also settled v u ≡ true) after depth' begins_next labelled passed_on_next

        go : (u y : ℕ) → ((label u ≡ some y) × (depth' u ≡ depth u)) ⊎ (Gives p C v d u y × (depth' u ≡ depth v + 1))
            → PathFound p C (λ w. also settled v w ≡ true) u y (depth' u)
        go u y (inl (old, same)) = rw same (found_wider still (fewest.arcs u y old).holds)
        go u y (inr (g, is)) =
            let before = found_wider still (fewest.arcs v d f.is_labelled).holds in
            let at_start : PathFound p C (λ w. also settled v w ≡ true) g.arc.from d (depth v) = rw g.from before in
            let whole = found_on g.arc g.is_arc (also_same settled v g.arc.from g.from) at_start (rw (g.to, g.sum) g.within) in
            rw is (rw (g.to, g.sum) at whole)

-- ---- A goal is the first open place

module _ (p : Problem) (ok : Valid p) (C : ℕ) (label : ℕ → Option ℕ) (depth : ℕ → ℕ) (settled : ℕ → Bool) (front : Front p C label settled)
    (fewest : FewestFound p C (λ u. settled u ≡ true) label depth) (g c : ℕ) (f : FirstOpen label settled g c) (goal : IsGoal p g) where
  -- the places before the last of a least path that costs no more are expanded
  least_through : {v d : ℕ} (w : PathTo p v d) → Within C w → cost_at (table p C) v ≡ some d → d ≤ c → Through (λ u. settled u ≡ true) w
  unfolding Within Through
  least_through stay i e h = tt
  least_through (on {d = d} a j w) i e h =
      let before = before_least p ok C a j d w i e in
      let less : d < c = omega (arith, ok.cost_above a j) in
      (least_through w i.0 before (omega arith), expanded before less (settled a.from) refl)
    where
      expanded : cost_at (table p C) a.from ≡ some d → d < c → (b : Bool) → settled a.from ≡ b → b ≡ true
      expanded entry less true s = refl
      expanded entry less false s =
          absurd (omega (arith, (path_after p ok C label settled front g c f a.from d (entry_path p C a.from d entry) s).first))

  -- the depths up to its cost are the least numbers of arcs over all least paths
  pub depth_entry : (v d : ℕ) → label v ≡ some d → d ≤ c → cost_at (table p C) v ≡ some d
      → cost_at (table (least_paths p (table p C) c) c) v ≡ some (depth v)
  depth_entry v d l h e =
      let found = (fewest.arcs v d l).holds in
      let counted = least_counted p ok C c found.path found.within e in
      let few : arc_count found.path ≤ c = omega (arith, arcs_cost p ok C found.path) in
      let holds : PathWithin (least_paths p (table p C) c) c v (arc_count found.path) =
      record { path = counted.path; within = count_within p (table p C) c c counted.path few } in
      let start = start_below (entry_path p C v d e) in
      let valid = least_paths_valid p (table p C) c ok g goal (first_open_least p ok C label settled front g c f) in
      (table_least (least_paths p (table p C) c) valid c v (depth v)).1
      (record {
        holds = rw found.arcs at holds;
        least = λ k w.
            let path = counted_least p ok C c start w.path in
            let same : path.cost ≡ d = cc path.entry in
            let through = least_through path.path path.within path.entry (omega arith) in
            (fewest.arcs v d l).least k (rw same at (found_of path through));
      })
    where
      found_of : {k : ℕ} {r : List ℕ} (x : LeastPath p C v k r) → Through (λ u. settled u ≡ true) x.path
          → PathFound p C (λ u. settled u ≡ true) v x.cost k
      found_of x t = record { path = x.path; within = x.within; through = t; arcs = x.arcs }
