-- The table of C holds exactly the least costs of paths within C. Assumes nothing.
use mathlib.Core.Path.{◌≡◌, refl, ap, sym, ◌∙◌}
use mathlib.Core.Logic.{◌↔◌, ◌⊎◌, inl, inr}
use mathlib.Core.List.Memᴰ
use mathlib.Core.List.{[], ◌∷◌}
use mathlib.Core.Option.{Option, none, some}
use Prim.Native.Nat.{ℕ, zero, suc, ◌+◌, ◌≤◌, ◌<◌}
use native.Mathlib.Nat.{le_refl, le_trans}
use native.Mathlib.Decide.{dec_le}
use native.Mathlib.Omega.{arith}
use lib.ListN.{length}
use lib.Seq.{ext_get_or}
use Rattle.model.specs.Problem.{Problem, Arc, IsArc, Valid}
use Rattle.model.specs.Paths.{Walk, stay, on, PathTo, places, Within, PathWithin, LeastWithin}
use Rattle.model.specs.Costs.{Table, cost_at, table}
use Rattle.model.specs.Terms.{AtMost, IsWithin, Inside}
use Rattle.model.proofs.Lists.{none-some}
use Rattle.model.proofs.Relaxing.{weaken, table_times, times-length, times_sound, times_complete}

-- the last step of a least path to v: an arc from a place within whose D and cost add up to v's D
pub record Via (p : Problem) (C v d : ℕ) : Type 0 where
  pub arc : Arc
  pub is_arc : IsArc p arc
  pub ends : arc.to ≡ v
  pub before : ℕ
  pub entry : cost_at (table p C) arc.from ≡ some before
  pub sum : before + arc.cost ≡ d

walk_start : {p : Problem} {C u v d : ℕ} (w : Walk p u v d) → Within C w → p.estimate u ≤ C
unfolding Within
walk_start stay h = h
walk_start (on a i w) h = walk_start w h.0

walk_end : {p : Problem} {C u v d : ℕ} (w : Walk p u v d) → Within C w → d + p.estimate v ≤ C
unfolding Within
walk_end stay h = omega arith
walk_end (on a i w) h = h.1

-- a walk within C is within every larger limit
pub walk_larger : {p : Problem} {C E u v d : ℕ} → C ≤ E → (w : Walk p u v d) → Within C w → Within E w
unfolding Within
walk_larger h stay i = le_trans i h
walk_larger h (on a j w) i = (walk_larger h w i.0, le_trans i.1 h)

-- an entry stands in the table
entry_in : (t : Table) (v d : ℕ) → cost_at t v ≡ some d → v < length t
entry_in [] v d e = none-some e
entry_in (x ∷ t) zero d e = omega arith
entry_in (x ∷ t) (suc v) d e = omega (arith, entry_in t v d e)

pub entry_below : {o : Option ℕ} {x d : ℕ} → o ≡ some x → AtMost o d → x ≤ d
entry_below {o} {x} e m = let same : m.cost ≡ x = cc in omega arith

-- an entry of at most d that is at least d is d
at_most_least : {o : Option ℕ} {d : ℕ} → AtMost o d → ((x : ℕ) → o ≡ some x → d ≤ x) → o ≡ some d
at_most_least m h = m.is ∙ ap some (omega (arith, h m.cost m.is))

-- a path within C begins at a start that is within C, and ends within C
pub start_below : {p : Problem} {C v d : ℕ} → PathWithin p C v d → p.estimate p.start ≤ C
start_below w = walk_start w.path w.within

pub end_below : {p : Problem} {C v d : ℕ} → PathWithin p C v d → d + p.estimate v ≤ C
end_below w = walk_end w.path w.within

module _ (p : Problem) (C : ℕ) where
  pub table-length : length (table p C) ≡ p.places
  table-length = rw (table_times p C) (times-length p C C)

  pub entry_path : (v d : ℕ) → cost_at (table p C) v ≡ some d → PathWithin p C v d
  entry_path v d e = times_sound p C C v d (rw (table_times p C) at e)

  pub entry_place : (v d : ℕ) → cost_at (table p C) v ≡ some d → v < p.places
  entry_place v d e = omega (arith, entry_in (table p C) v d e, table-length)

module _ (p : Problem) (ok : Valid p) (C : ℕ) where
  pub path_entry : (v d : ℕ) → PathWithin p C v d → AtMost (cost_at (table p C) v) d
  path_entry v d w =
      let cheap : d ≤ C = omega (arith, end_below w) in
      rw (table_times p C) (times_complete p ok C w.path w.within C cheap)

  pub table_least : (v d : ℕ) → (cost_at (table p C) v ≡ some d) ↔ LeastWithin p C v d
  table_least v d = (to, from)
    where
      to : cost_at (table p C) v ≡ some d → LeastWithin p C v d
      to e = record { holds = entry_path p C v d e; least = λ k w. entry_below e (path_entry v k w) }

      from : LeastWithin p C v d → cost_at (table p C) v ≡ some d
      from l = at_most_least (path_entry v d l.holds) (λ x e. l.least x (entry_path p C v x e))

  pub start_within : p.estimate p.start ≤ C → cost_at (table p C) p.start ≡ some 0
  unfolding Within
  start_within h = at_most_least (path_entry p.start 0 (record { path = stay; within = h })) (λ x e. omega arith)

  -- an arc from a place within, whose end is not above C, leads to a place within
  pub arc_entry : (a : Arc) (d : ℕ) → IsArc p a → cost_at (table p C) a.from ≡ some d → d + a.cost + p.estimate a.to ≤ C
      → AtMost (cost_at (table p C) a.to) (d + a.cost)
  unfolding Within
  arc_entry a d i e h =
      let w = entry_path p C a.from d e in
      path_entry a.to (d + a.cost) (record { path = on a i w.path; within = (w.within, h) })

  last_step : {v d : ℕ} (w : PathTo p v d) → Within C w → cost_at (table p C) v ≡ some d → ((v ≡ p.start) × (d ≡ 0)) ⊎ Via p C v d
  unfolding Within
  last_step stay i e = inl (refl, refl)
  last_step (on {d} a j w) i e =
      let m = path_entry a.from d (record { path = w; within = i.0 }) in
      let reached = arc_entry a m.cost j m.is (omega (arith, i.1)) in
      inr
      (record {
        arc = a;
        is_arc = j;
        ends = refl;
        before = m.cost;
        entry = m.is;
        sum = omega (arith, entry_below e reached);
      })

  -- a place within is the start at cost 0, or is reached by an arc that its D passes over
  pub entry_via : (v d : ℕ) → cost_at (table p C) v ≡ some d → ((v ≡ p.start) × (d ≡ 0)) ⊎ Via p C v d
  entry_via v d e = let w = entry_path p C v d e in last_step w.path w.within e

module _ (p : Problem) (ok : Valid p) (C E : ℕ) (h : C ≤ E) where
  pub larger_limit : (v d : ℕ) → cost_at (table p C) v ≡ some d → AtMost (cost_at (table p E) v) d
  larger_limit v d e =
      let w = entry_path p C v d e in
      path_entry p ok E v d (record { path = w.path; within = walk_larger h w.path w.within })

  -- an arc between places within C reaches its end at no less than the end's D
  arrival : {d : ℕ} (a : Arc) → IsArc p a → AtMost (cost_at (table p C) a.from) d → IsWithin (table p C) a.to
      → AtMost (cost_at (table p C) a.to) (d + a.cost)
  arrival {d} a j m end = go (dec_le (m.cost + a.cost + p.estimate a.to) C)
    where
      go : Dec (m.cost + a.cost + p.estimate a.to ≤ C) → AtMost (cost_at (table p C) a.to) (d + a.cost)
      go (yes k) = weaken (omega arith) (arc_entry p ok C a m.cost j m.is k)
      go (no k) =
          let within = end_below (entry_path p C a.to end.cost end.is) in
          record { cost = end.cost; is = end.is; below = omega arith }

  pub inside_not_cheaper : {v d : ℕ} (w : PathTo p v d) → Within E w → Inside C w → AtMost (cost_at (table p C) v) d
  unfolding Within Inside places
  inside_not_cheaper stay i s =
      let begin = s p.start (Memᴰ.head refl) in
      let below = start_below (entry_path p C p.start begin.cost begin.is) in
      record { cost = 0; is = start_within p ok C below; below = le_refl 0 }
  inside_not_cheaper (on {d} a j w) i s =
      arrival a j (inside_not_cheaper w i.0 (λ x k. s x (Memᴰ.append_left (a.to ∷ []) k)))
      (s a.to (Memᴰ.append_right (places w) (Memᴰ.head refl)))

-- two tables with the same entries are the same
pub same_entries : (p : Problem) (C E : ℕ) → ((v : ℕ) → cost_at (table p C) v ≡ cost_at (table p E) v) → table p C ≡ table p E
same_entries p C E h = ext_get_or none (table p C) (table p E) (table-length p C ∙ sym (table-length p E)) (λ i k. h i)
