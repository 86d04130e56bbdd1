-- The ended number: above the limit, with nothing changed below it, and of bounded size. Assumes nothing.
use mathlib.Core.Path.{◌≡◌, refl, ap}
use mathlib.Core.Logic.{◌⊎◌, inl, inr}
use mathlib.Core.Bool.{Bool, true, false}
use mathlib.Core.List.Memᴰ
use mathlib.Core.List.{List, [], ◌∷◌, Memᴰ}
use mathlib.Core.Option.{Option, none, some}
use Prim.Native.Nat.{ℕ, zero, suc, ◌+◌, ◌-◌, ◌*◌, ◌^◌, ◌≤◌, ◌<◌}
use native.Mathlib.Nat.{le_refl}
use native.Mathlib.Omega.{arith}
use lib.Dec.{ltb}
use lib.ListN.{length}
use borrow.Author.Tests.{ltb-true, ltb-false, lt-ltb, le-ltb}
use Rattle.model.specs.Lists.{filter}
use Rattle.model.specs.Limits.{max_cost}
use Rattle.model.specs.Problem.{Problem, Arc, IsArc, Valid}
use Rattle.model.specs.Paths.{stay, on, places, PathTo, Within, PathWithin}
use Rattle.model.specs.Costs.{Table, cost_at, table}
use Rattle.model.specs.Query.{Key, within, next_limit, ended, query_on, query}
use Rattle.model.specs.Terms.{AtMost, IsWithin, Inside}
use Rattle.model.proofs.Lists.{none-some, filter_fewer, filter_shorter}
use Rattle.model.proofs.Keys.{key, key_entry, within_shorter}
use Rattle.model.proofs.LeastCosts.{Via, start_below, end_below, table-length, entry_path, start_within, arc_entry, entry_via, larger_limit}
use Rattle.model.proofs.LeastCosts.{inside_not_cheaper, same_entries}
use Rattle.model.proofs.Queries.{Crosses, IsLeastCrossing, next_limit_some, next_limit_none, ended_next}

none_not_most : {A : Type 0} (o : Option ℕ) (d : ℕ) → o ≡ none → AtMost o d → A
none_not_most o d e m = none-some {x = m.cost} (cc)

-- two entries, neither of which is above the other, are the same
same_entry_lem : (o u : Option ℕ) → ((d : ℕ) → o ≡ some d → AtMost u d) → ((d : ℕ) → u ≡ some d → AtMost o d) → o ≡ u
same_entry_lem none none f g = refl
same_entry_lem none (some e) f g = none_not_most none e refl (g e refl)
same_entry_lem (some d) none f g = none_not_most none d refl (f d refl)
same_entry_lem (some d) (some e) f g =
    let up = g e refl in
    let down = f d refl in
    let up_is : up.cost ≡ d = cc in
    let down_is : down.cost ≡ e = cc in
    let same : d ≡ e = omega arith in
    rw same

-- the keys of the places within whose cost is below d
abbrev pub cheaper : Table → ℕ → List Key
cheaper t d = filter (λ (k : Key). ltb k.cost d) (within t)

-- the key of a place within is not below its own cost, and is below each larger one
module _ (t : Table) where
  pub cheaper_fewer : (d e v : ℕ) → cost_at t v ≡ some d → d < e → length (cheaper t d) < length (cheaper t e)
  cheaper_fewer d e v i h =
      filter_fewer (λ (k : Key). ltb k.cost d) (λ (k : Key). ltb k.cost e)
      (λ k below. lt-ltb _ e (omega (arith, ltb-true k.cost d below)))
      (within t) (key d v) ((key_entry t (key d v)).1 i) (le-ltb d d (le_refl d)) (lt-ltb d e h)

  pub cheaper_shorter : (d v : ℕ) → cost_at t v ≡ some d → length (cheaper t d) < length (within t)
  cheaper_shorter d v i =
      filter_shorter (λ (k : Key). ltb k.cost d) (within t) (key d v) ((key_entry t (key d v)).1 i) (le-ltb d d (le_refl d))

module _ (p : Problem) (ok : Valid p) where
  -- an arc by which a path within E leaves the places within C: D, its cost and the estimate at its end are together at most E
  pub record Leaves (C E : ℕ) : Type 0 where
    pub arc : Arc
    pub cost : ℕ
    pub crosses : Crosses p (table p C) arc cost
    pub bound : cost + arc.cost + p.estimate arc.to ≤ E

  inside_on : (C : ℕ) {d : ℕ} (a : Arc) (i : IsArc p a) (w : PathTo p a.from d) → Inside C w → IsWithin (table p C) a.to → Inside C (on a i w)
  unfolding Inside places
  inside_on C a i w inside last x m = go (Memᴰ.append_cases (places w) m)
    where
      go : Memᴰ x (places w) ⊎ Memᴰ x (a.to ∷ []) → IsWithin (table p C) x
      go (inl before) = inside x before
      go (inr end) = rw (Memᴰ.eq_of_singleton end) last

  -- an arc from a place within leads to a place within, or leaves
  arc_within_or_leaves : (C E d : ℕ) (a : Arc) → IsArc p a → AtMost (cost_at (table p C) a.from) d → d + a.cost + p.estimate a.to ≤ E
      → IsWithin (table p C) a.to ⊎ Leaves C E
  arc_within_or_leaves C E d a i from below = go (cost_at (table p C) a.to) refl
    where
      go : (o : Option ℕ) → cost_at (table p C) a.to ≡ o → IsWithin (table p C) a.to ⊎ Leaves C E
      go (some x) e = inl (record { cost = x; is = e })
      go none e =
          inr (record {
            arc = a;
            cost = from.cost;
            crosses = record { is_arc = i; inside = from.is; outside = e };
            bound = omega arith;
          })

  -- a path within E, from a start within C, stays inside C or leaves it
  inside_or_leaves : (C E : ℕ) → C ≤ E → p.estimate p.start ≤ C → {v d : ℕ} (w : PathTo p v d) → Within E w → Inside C w ⊎ Leaves C E
  unfolding Within Inside places
  inside_or_leaves C E h s stay i =
      inl (λ x m. record { cost = 0; is = rw (Memᴰ.eq_of_singleton m) (start_within p ok C s) })
  inside_or_leaves C E h s (on {d = d} a i w) (inner, below) = go (inside_or_leaves C E h s w inner)
    where
      last : Inside C w → IsWithin (table p C) a.to ⊎ Leaves C E → Inside C (on a i w) ⊎ Leaves C E
      last inside (inl to) = inl (inside_on C a i w inside to)
      last inside (inr l) = inr l

      go : Inside C w ⊎ Leaves C E → Inside C (on a i w) ⊎ Leaves C E
      go (inr l) = inr l
      go (inl inside) = last inside (arc_within_or_leaves C E d a i (inside_not_cheaper p ok C E h w inner inside) below)

  -- a path within E to a place not within C, from a start within C, leaves the places within C
  pub leaves : (C E v d : ℕ) → C ≤ E → p.estimate p.start ≤ C → PathWithin p E v d → cost_at (table p C) v ≡ none → Leaves C E
  leaves C E v d h s w e = go (inside_or_leaves C E h s w.path w.within)
    where
      go : Inside C w.path ⊎ Leaves C E → Leaves C E
      go (inr l) = l
      go (inl inside) = none_not_most _ d e (inside_not_cheaper p ok C E h w.path w.within inside)

  pub next_above_limit : (C x : ℕ) → next_limit p (table p C) ≡ some x → C < x
  next_above_limit C x e = go (ltb C x) refl
    where
      n : IsLeastCrossing p (table p C) x
      n = next_limit_some p (table p C) x e

      go : (b : Bool) → ltb C x ≡ b → C < x
      go true f = ltb-true C x f
      go false f =
          let most = arc_entry p ok C n.arc n.cost n.crosses.is_arc n.crosses.inside (omega (arith, ltb-false C x f, n.sum)) in
          none_not_most _ _ n.crosses.outside most

  pub same_below_next : (C x E : ℕ) → next_limit p (table p C) ≡ some x → C ≤ E → E < x → table p E ≡ table p C
  same_below_next C x E e h l = same_entries p E C (λ v. same_entry_lem _ _ (down v) (larger_limit p ok C E h v))
    where
      n : IsLeastCrossing p (table p C) x
      n = next_limit_some p (table p C) x e

      start : p.estimate p.start ≤ C
      start = start_below (entry_path p C _ _ n.crosses.inside)

      down : (v d : ℕ) → cost_at (table p E) v ≡ some d → AtMost (cost_at (table p C) v) d
      down v d f = go (inside_or_leaves C E h start w.path w.within)
        where
          w : PathWithin p E v d
          w = entry_path p E v d f

          go : Inside C w.path ⊎ Leaves C E → AtMost (cost_at (table p C) v) d
          go (inl inside) = inside_not_cheaper p ok C E h w.path w.within inside
          go (inr out) = absurd (omega (arith, n.least out.arc out.cost out.crosses))

  -- where no arc crosses, the places within are closed under arcs
  pub closed : (C : ℕ) → next_limit p (table p C) ≡ none → (a : Arc) → IsArc p a → IsWithin (table p C) a.from → IsWithin (table p C) a.to
  closed C e a i w = go (cost_at (table p C) a.to) refl
    where
      go : (o : Option ℕ) → cost_at (table p C) a.to ≡ o → IsWithin (table p C) a.to
      go (some d) f = record { cost = d; is = f }
      go none f = absurd (next_limit_none p (table p C) e a w.cost (record { is_arc = i; inside = w.is; outside = f }))

  -- D is at most 65,535 for each place within that has a smaller D
  entry_at_most : (C n v d : ℕ) → d ≤ n → cost_at (table p C) v ≡ some d → d ≤ length (cheaper (table p C) d) * max_cost
  entry_at_most C zero v d h e = omega arith
  entry_at_most C (suc n) v d h e = go (λ u c. entry_at_most C n u c) (entry_via p ok C v d e)
    where
      go : ((u c : ℕ) → c ≤ n → cost_at (table p C) u ≡ some c → c ≤ length (cheaper (table p C) c) * max_cost)
          → ((v ≡ p.start) × (d ≡ 0)) ⊎ Via p C v d → d ≤ length (cheaper (table p C) d) * max_cost
      go earlier (inl z) = omega arith
      go earlier (inr via) =
          let arc-costs = ok.cost_above via.arc via.is_arc in
          let before-at-most = earlier via.arc.from via.before (omega arith) via.entry in
          let fewer = cheaper_fewer (table p C) via.before d via.arc.from via.entry (omega arith) in
          omega (arith, ok.cost_below via.arc via.is_arc)

  pub next_at_most : (H C x : ℕ) → ((v : ℕ) → p.estimate v ≤ H) → next_limit p (table p C) ≡ some x → x ≤ (p.places - 1) * max_cost + H
  next_at_most H C x h e =
      let n = next_limit_some p (table p C) x e in
      let a = n.arc in
      let from-at-most = entry_at_most C n.cost a.from n.cost (le_refl _) n.crosses.inside in
      let not-all-cheaper = cheaper_shorter (table p C) n.cost a.from n.crosses.inside in
      let end : a.to < length (table p C) = rw (table-length p C) (ok.arc_to a n.crosses.is_arc) in
      let not-all-within = within_shorter (table p C) a.to end n.crosses.outside in
      omega (arith, table-length p C, ok.cost_below a n.crosses.is_arc, h a.to, n.sum)

  pub sum_below : (C : ℕ) (a : Arc) (d : ℕ) → C < 2 ^ 30 → IsArc p a → cost_at (table p C) a.from ≡ some d
      → d + a.cost + p.estimate a.to < 2 ^ 31
  sum_below C a d h i e = omega (arith, end_below (entry_path p C a.from d e), ok.cost_below a i, ok.estimate_below a.to)

  -- ---- An ended query

  -- An ended number exceeds the limit.
  pub ended_above_limit : (C b x : ℕ) → (query p C b).outcome ≡ ended x → C < x
  ended_above_limit C b x e = next_above_limit C x (ended_next p C b x e).1

  -- For every limit from C up to below the ended number the table is the same,
  pub ended_same_table : (C b x E : ℕ) → (query p C b).outcome ≡ ended x → C ≤ E → E < x → table p E ≡ table p C
  ended_same_table C b x E e h l = same_below_next C x E (ended_next p C b x e).1 h l

  -- and so is the query, for each budget.
  pub ended_same_query : (C b x E : ℕ) → (query p C b).outcome ≡ ended x → C ≤ E → E < x → (a : ℕ) → query p E a ≡ query p C a
  unfolding query
  ended_same_query C b x E e h l a = ap (λ (t : Table). query_on p t a) (ended_same_table C b x E e h l)

  pub ended_at_most : (H C b x : ℕ) → ((v : ℕ) → p.estimate v ≤ H) → (query p C b).outcome ≡ ended x → x ≤ (p.places - 1) * max_cost + H
  ended_at_most H C b x h e = next_at_most H C x h (ended_next p C b x e).1
