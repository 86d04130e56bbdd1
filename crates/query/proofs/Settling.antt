-- What paths pass in a uniform-cost search under way, and what expanding its first open place keeps. Assumes nothing.
use mathlib.Core.Path.{◌≡◌, refl, sym, ap, ◌∙◌}
use mathlib.Core.Logic.{◌⊎◌, inl, inr}
use mathlib.Core.Bool.{Bool, true, false, false≢true, ◌||◌, or-true, or-false}
use mathlib.Core.Option.{Option, some}
use Prim.Native.Nat.{ℕ, ◌+◌, ◌≤◌, ◌<◌}
use native.Mathlib.Nat.{le_refl}
use native.Mathlib.Omega.{arith}
use native.Mathlib.Decide.{ℕ_discrete}
use lib.Dec.{eqb}
use borrow.Author.Tests.{eqb-true, eqb-false, eq-eqb, ne_eqb}
use Rattle.model.specs.Problem.{Problem, Arc, IsArc, IsGoal, Valid}
use Rattle.model.specs.Paths.{stay, on, PathTo, Within, PathWithin}
use Rattle.model.specs.Costs.{cost_at, table}
use Rattle.model.specs.Terms.{AtMost}
use Rattle.model.proofs.Lists.{neither}
use Rattle.model.proofs.Relaxing.{weaken}
use Rattle.model.proofs.LeastCosts.{entry_below, table_least}
use Rattle.model.proofs.Keys.{NotBefore}
use Rattle.query.specs.Front.{Before, Front, FirstOpen, Gives, Expanded, also}

pub not_both : {b : Bool} → b ≡ true → b ≡ false → ⊥
not_both p q = false≢true (sym q ∙ p)

-- a test that cannot fail passes
pub cannot_fail : (b : Bool) → (b ≡ false → ⊥) → b ≡ true
cannot_fail true h = refl
cannot_fail false h = absurd (h refl)

pub also_true : (settled : ℕ → Bool) (v u : ℕ) → also settled v u ≡ true → (settled u ≡ true) ⊎ (u ≡ v)
unfolding also
also_true settled v u h = go (settled u) refl h
  where
    go : (b : Bool) → settled u ≡ b → b || eqb u v ≡ true → (settled u ≡ true) ⊎ (u ≡ v)
    go true e h = inl e
    go false e h = inr (eqb-true u v h)

also_false : (settled : ℕ → Bool) (v u : ℕ) → also settled v u ≡ false → (settled u ≡ false) × (u ≡ v → ⊥)
unfolding also
also_false settled v u h =
    let parts = neither (settled u) (eqb u v) h in
    (parts.0, eqb-false u v parts.1)

pub also_same : (settled : ℕ → Bool) (v u : ℕ) → u ≡ v → also settled v u ≡ true
unfolding also
also_same settled v u e = rw (eq-eqb u v e) (or-true (settled u))

pub also_still : (settled : ℕ → Bool) (v u : ℕ) → settled u ≡ true → also settled v u ≡ true
unfolding also
also_still settled v u s = rw s

pub also_other : (settled : ℕ → Bool) (v u : ℕ) → (u ≡ v → ⊥) → also settled v u ≡ settled u
unfolding also
also_other settled v u n = rw (ne_eqb u v n) (or-false (settled u))

pub before_below : {x u y w : ℕ} → Before x u y w → x ≤ y
before_below (inl h) = omega arith
before_below (inr h) = omega arith

path_on : {p : Problem} {C d : ℕ} (a : Arc) → IsArc p a → PathWithin p C a.from d → d + a.cost + p.estimate a.to ≤ C
    → PathWithin p C a.to (d + a.cost)
unfolding Within
path_on a i w h = record { path = on a i w.path; within = (w.within, h) }

-- an open place, labelled d at most: v itself, or labelled below d
record Passed (label : ℕ → Option ℕ) (settled : ℕ → Bool) (v d : ℕ) : Type 0 where
  place : ℕ
  cost : ℕ
  is_labelled : label place ≡ some cost
  is_open : settled place ≡ false
  below : cost ≤ d
  last : (place ≡ v) ⊎ (cost < d)

module _ (p : Problem) (ok : Valid p) (C : ℕ) (label : ℕ → Option ℕ) (settled : ℕ → Bool) (front : Front p C label settled) where
  -- v is settled, labelled d at most; or else an open place is passed
  abbrev Leads : ℕ → ℕ → Type 0
  Leads v d = ((settled v ≡ true) × AtMost (label v) d) ⊎ Passed label settled v d

  labelled_leads : (v d : ℕ) → AtMost (label v) d → Leads v d
  labelled_leads v d m = go (settled v) refl
    where
      go : (b : Bool) → settled v ≡ b → Leads v d
      go true e = inl (e, m)
      go false e = inr (record { place = v; cost = m.cost; is_labelled = m.is; is_open = e; below = m.below; last = inl refl })

  -- a path leads to a settled place, or passes an open one
  walk_leads : {v d : ℕ} (w : PathTo p v d) → Within C w → Leads v d
  unfolding Within
  walk_leads stay i = labelled_leads p.start 0 front.begins
  walk_leads (on {d} a j w) i = go (walk_leads w i.0)
    where
      go : Leads a.from d → Leads a.to (d + a.cost)
      go (inl (s, m)) =
          let reached = front.relaxed a m.cost j s m.is (omega (arith, i.1)) in
          labelled_leads a.to (d + a.cost) (weaken (omega arith) reached)
      go (inr o) =
          let further : o.cost < d + a.cost = omega (arith, ok.cost_above a j) in
          inr
          (record {
            place = o.place;
            cost = o.cost;
            is_labelled = o.is_labelled;
            is_open = o.is_open;
            below = omega arith;
            last = inr further;
          })

  path_leads : {v d : ℕ} → PathWithin p C v d → Leads v d
  path_leads w = walk_leads w.path w.within

  -- a label that is above no open place's is the least cost
  pub least_label : (v d : ℕ) → label v ≡ some d → ((w y : ℕ) → settled w ≡ false → label w ≡ some y → d ≤ y) → cost_at (table p C) v ≡ some d
  least_label v d e low = (table_least p ok C v d).1 (record { holds = front.backed v d e; least = λ k w. go k (path_leads w) })
    where
      go : (k : ℕ) → Leads v k → d ≤ k
      go k (inl h) = entry_below e h.1
      go k (inr o) = omega (arith, low o.place o.cost o.is_open o.is_labelled)

  -- with none open, paths lead to settled places
  pub path_settled : ((w y : ℕ) → label w ≡ some y → settled w ≡ true) → (v d : ℕ) → PathWithin p C v d → settled v ≡ true
  path_settled none_open v d w = go (path_leads w)
    where
      go : Leads v d → settled v ≡ true
      go (inl h) = h.0
      go (inr o) = absurd (not_both (none_open o.place o.cost o.is_labelled) o.is_open)

  -- a path to a place that is not settled does not come before the first open one
  pub path_after : (v d : ℕ) → FirstOpen label settled v d → (w x : ℕ) → PathWithin p C w x → settled w ≡ false
      → NotBefore (record { cost = x; place = w }) (record { cost = d; place = v })
  path_after v d f w x path s = go (path_leads path)
    where
      at_d : (o : Passed label settled w x) → d ≤ o.cost → x ≡ d → (o.place ≡ w) ⊎ (o.cost < x) → v ≤ w
      at_d o low q (inl r) =
          let same : o.cost ≡ d = omega arith in
          omega (arith, f.lowest o.place o.is_open (rw same at o.is_labelled))
      at_d o low q (inr r) = absurd (omega arith)

      go : Leads w x → NotBefore (record { cost = x; place = w }) (record { cost = d; place = v })
      go (inl h) = absurd (not_both h.0 s)
      go (inr o) =
          let low = f.least o.place o.cost o.is_open o.is_labelled in
          record { first = omega arith; second = λ q. at_d o low (sym q) o.last }

  -- a path to a place that is not settled, and that costs no more than the first open one, costs what the place is labelled
  pub path_label : (v d : ℕ) → FirstOpen label settled v d → (w x : ℕ) → PathWithin p C w x → settled w ≡ false → x ≤ d → label w ≡ some x
  path_label v d f w x path s h = go (path_leads path)
    where
      at_x : (o : Passed label settled w x) → d ≤ o.cost → (o.place ≡ w) ⊎ (o.cost < x) → label w ≡ some x
      at_x o low (inl r) =
          let same : o.cost ≡ x = omega (arith, o.below) in
          rw (r, same) at o.is_labelled
      at_x o low (inr r) = absurd (omega arith)

      go : Leads w x → label w ≡ some x
      go (inl t) = absurd (not_both t.0 s)
      go (inr o) = at_x o (f.least o.place o.cost o.is_open o.is_labelled) o.last

  module _ (v d : ℕ) (f : FirstOpen label settled v d) (after : ℕ → Option ℕ) (x : Expanded p C v d label after) where
    -- what is settled with v is labelled d at most
    also_labelled : (u : ℕ) → also settled v u ≡ true → AtMost (label u) d
    also_labelled u s = go (also_true settled v u s)
      where
        go : (settled u ≡ true) ⊎ (u ≡ v) → AtMost (label u) d
        go (inl t) =
            let l = front.labelled u t in
            let before = front.ordered u v l.0 d t l.1 f.is_open f.is_labelled in
            record { cost = l.0; is = l.1; below = before_below before }
        go (inr q) = record { cost = d; is = ap label q ∙ f.is_labelled; below = le_refl d }

    -- a new label is above d, and is the cost of a path by way of v
    old_or_new : (w y : ℕ) → after w ≡ some y → (label w ≡ some y) ⊎ ((d < y) × PathWithin p C w y)
    old_or_new w y e = go (x.sound w y e)
      where
        go : (label w ≡ some y) ⊎ Gives p C v d w y → (label w ≡ some y) ⊎ ((d < y) × PathWithin p C w y)
        go (inl q) = inl q
        go (inr g) =
            let first : PathWithin p C g.arc.from d = rw g.from (front.backed v d f.is_labelled) in
            let whole = path_on g.arc g.is_arc first (rw (g.to, g.sum) g.within) in
            inr (omega (arith, ok.cost_above g.arc g.is_arc, g.sum), rw (g.to, g.sum) at whole)

    pub keeps_label : (u y : ℕ) → also settled v u ≡ true → label u ≡ some y → after u ≡ some y
    keeps_label u y s e = go (old_or_new u m.cost m.is)
      where
        m : AtMost (after u) y
        m = x.kept u y (record { cost = y; is = e; below = le_refl y })

        go : (label u ≡ some m.cost) ⊎ ((d < m.cost) × PathWithin p C u m.cost) → after u ≡ some y
        go (inl q) = m.is ∙ sym q ∙ e
        go (inr h) =
            let l = also_labelled u s in
            let same : l.cost ≡ y = cc in
            absurd (omega (arith, m.below))

    pub old_label : (u y : ℕ) → also settled v u ≡ true → after u ≡ some y → AtMost (label u) d × (label u ≡ some y)
    old_label u y s e =
        let l = also_labelled u s in
        let keeps = keeps_label u l.cost s l.is in
        (l, cc)

    pub still_labelled : (u : ℕ) → also settled v u ≡ true → (y : ℕ) × (after u ≡ some y)
    still_labelled u s = let l = also_labelled u s in (l.cost, keeps_label u l.cost s l.is)

    pub expand_relaxed : (a : Arc) (y : ℕ) → IsArc p a → also settled v a.from ≡ true → after a.from ≡ some y
        → y + a.cost + p.estimate a.to ≤ C → AtMost (after a.to) (y + a.cost)
    expand_relaxed a y i s e h = go (also_true settled v a.from s) (old_label a.from y s e).1
      where
        go : (settled a.from ≡ true) ⊎ (a.from ≡ v) → label a.from ≡ some y → AtMost (after a.to) (y + a.cost)
        go (inl t) old = x.kept a.to (y + a.cost) (front.relaxed a y i t old h)
        go (inr q) old =
            let same : y ≡ d = cc in
            rw same (x.reached a i q (rw same at h))

    expand_ordered : (u w y z : ℕ) → also settled v u ≡ true → after u ≡ some y → also settled v w ≡ false → after w ≡ some z → Before y u z w
    expand_ordered u w y z s e o g = go (old_or_new w z g) (also_true settled v u s)
      where
        old : AtMost (label u) d × (label u ≡ some y)
        old = old_label u y s e

        below : y ≤ d
        below = entry_below old.1 old.0

        still_open : (settled w ≡ false) × (w ≡ v → ⊥)
        still_open = also_false settled v w o

        tie : Dec (z ≡ d) → u ≡ v → y ≡ d → label w ≡ some z → Before y u z w
        tie (yes t) q same l =
            let low = f.lowest w still_open.0 (rw t at l) in
            inr (omega arith, omega (arith, still_open.1))
        tie (no t) q same l = inl (omega (arith, f.least w z still_open.0 l))

        go : (label w ≡ some z) ⊎ ((d < z) × PathWithin p C w z) → (settled u ≡ true) ⊎ (u ≡ v) → Before y u z w
        go (inr h) t = inl (omega (arith, below))
        go (inl l) (inl t) = front.ordered u w y z t old.1 still_open.0 l
        go (inl l) (inr q) =
            let same : y ≡ d = cc old.1 in
            tie (ℕ_discrete z d) q same l

    pub next_front : (IsGoal p v → ⊥) → Front p C after (also settled v)
    next_front no_goal =
        record {
          begins = x.kept p.start 0 front.begins;
          backed = λ w y e. path w y (old_or_new w y e);
          labelled = still_labelled;
          relaxed = expand_relaxed;
          ordered = expand_ordered;
          no_goal = λ g i. also_other settled v g (λ q. no_goal (rw q at i)) ∙ front.no_goal g i;
        }
      where
        path : (w y : ℕ) → (label w ≡ some y) ⊎ ((d < y) × PathWithin p C w y) → PathWithin p C w y
        path w y (inl q) = front.backed w y q
        path w y (inr h) = h.1
