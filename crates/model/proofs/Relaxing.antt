-- What relaxing does to a table: each entry is the cost of a path within C, no entry rises, and k rounds account for every path of k arcs.
-- Assumes nothing.
use mathlib.Core.Path.{◌≡◌, refl, ap, sym, ◌∙◌}
use mathlib.Core.Logic.{◌⊎◌, inl, inr}
use mathlib.Core.Bool.{Bool, true, false, cond, false≢true}
use mathlib.Core.List.{List, [], ◌∷◌, Memᴰ}
use mathlib.Core.Option.{Option, none, some}
use Prim.Native.Nat.{ℕ, zero, suc, ◌+◌, ◌≤◌, ◌<◌}
use native.Mathlib.Nat.{le_refl}
use native.Mathlib.Decide.{le_ind}
use native.Mathlib.Omega.{arith}
use lib.Dec.{leb, ltb}
use lib.ListN.{length, set, replicate, length-set, length-replicate}
use lib.Seq.{get_or-set_same}
use borrow.Author.Tests.{le-leb, leb-true, ltb-true, ltb-false, eqb-true}
use Rattle.model.specs.Problem.{Problem, Arc, IsArc, Valid}
use Rattle.model.specs.Paths.{Walk, stay, on, arc_count, PathTo, Within, PathWithin}
use Rattle.model.specs.Costs.{Table, cost_at, lowers, store_if, arrive, relax_from, relax, relax_all, relax_up_to, start_table, table}
use Rattle.model.specs.Costs.{same_entry, same_table}
use Rattle.model.specs.Terms.{AtMost}
use Rattle.model.proofs.Lists.{none-some, both}

-- an entry after a store is the stored one, or was there before
set_cases : (t : Table) (v w n d : ℕ) → cost_at (set t v (some n)) w ≡ some d → ((w ≡ v) × (n ≡ d)) ⊎ (cost_at t w ≡ some d)
set_cases [] v w n d e = inr e
set_cases (x ∷ t) zero zero n d e = inl (refl, cc)
set_cases (x ∷ t) zero (suc w) n d e = inr e
set_cases (x ∷ t) (suc v) zero n d e = inr e
set_cases (x ∷ t) (suc v) (suc w) n d e = up (set_cases t v w n d e)
  where
    up : ((w ≡ v) × (n ≡ d)) ⊎ (cost_at t w ≡ some d) → ((suc w ≡ suc v) × (n ≡ d)) ⊎ (cost_at t w ≡ some d)
    up (inl q) = inl (ap suc q.0, q.1)
    up (inr q) = inr q

-- a store of no more than the entry there raises none
set_keeps : (t : Table) (v w n x : ℕ) → cost_at t w ≡ some x → (w ≡ v → n ≤ x) → AtMost (cost_at (set t v (some n)) w) x
set_keeps [] v w n x e h = none-some e
set_keeps (y ∷ t) zero zero n x e h = record { cost = n; is = refl; below = h refl }
set_keeps (y ∷ t) zero (suc w) n x e h = record { cost = x; is = e; below = le_refl x }
set_keeps (y ∷ t) (suc v) zero n x e h = record { cost = x; is = e; below = le_refl x }
set_keeps (y ∷ t) (suc v) (suc w) n x e h = set_keeps t v w n x e (λ q. h (ap suc q))

nothing_entered : {A : Type 0} (n v d : ℕ) → cost_at (replicate n none) v ≡ some d → A
nothing_entered zero v d e = none-some e
nothing_entered (suc n) zero d e = none-some e
nothing_entered (suc n) (suc v) d e = nothing_entered n v d e

-- an entry of at most d is one of at most any larger number
pub weaken : {o : Option ℕ} {d e : ℕ} → d ≤ e → AtMost o d → AtMost o e
weaken h m = record { cost = m.cost; is = m.is; below = omega arith }

pub same_entry_true : (d e : Option ℕ) → same_entry d e ≡ true → d ≡ e
unfolding same_entry
same_entry_true none none h = refl
same_entry_true none (some e) h = absurd (false≢true h)
same_entry_true (some d) none h = absurd (false≢true h)
same_entry_true (some d) (some e) h = ap some (eqb-true d e h)

same_table_true : (t u : Table) → same_table t u ≡ true → t ≡ u
unfolding same_table
same_table_true [] [] h = refl
same_table_true [] (e ∷ u) h = absurd (false≢true h)
same_table_true (d ∷ t) [] h = absurd (false≢true h)
same_table_true (d ∷ t) (e ∷ u) h =
    let parts = both (same_entry d e) (same_table t u) h in
    cc (same_entry_true d e parts.0, same_table_true t u parts.1)

-- every arc relaxed, k times over
pub relax_times : ℕ → Problem → ℕ → Table → Table
relax_times zero p C t = t
relax_times (suc k) p C t = relax_all p C p.arcs (relax_times k p C t)

module _ (p : Problem) (C : ℕ) where
  -- the first round may be told apart as well as the last
  times_first : (k : ℕ) (t : Table) → relax_times (suc k) p C t ≡ relax_times k p C (relax_all p C p.arcs t)
  unfolding relax_times
  times_first zero t = refl
  times_first (suc k) t = ap (relax_all p C p.arcs) (times_first k t)

  times_fixed : (k : ℕ) (t : Table) → t ≡ relax_all p C p.arcs t → relax_times k p C t ≡ t
  unfolding relax_times
  times_fixed zero t e = refl
  times_fixed (suc k) t e = ap (relax_all p C p.arcs) (times_fixed k t e) ∙ sym e

  -- to stop where nothing changes changes nothing
  up_to_times : (k : ℕ) (t : Table) → relax_up_to k p C t ≡ relax_times k p C t
  unfolding relax_up_to relax_times
  up_to_times zero t = refl
  up_to_times (suc k) t = go (same_table t u) refl (up_to_times k u)
    where
      u : Table
      u = relax_all p C p.arcs t

      go : (b : Bool) → same_table t u ≡ b → relax_up_to k p C u ≡ relax_times k p C u → cond b t (relax_up_to k p C u) ≡ relax_times (suc k) p C t
      go true e more = sym (times_fixed (suc k) t (same_table_true t u e))
      go false e more = more ∙ sym (times_first k t)

  pub table_times : table p C ≡ relax_times C p C (start_table p C)
  unfolding table
  table_times = up_to_times C (start_table p C)

-- Each entry is the cost of a path within C.
module _ (p : Problem) (C : ℕ) where
  abbrev Sound : Table → Type 0
  Sound t = (v d : ℕ) → cost_at t v ≡ some d → PathWithin p C v d

  store_if_sound : (b : Bool) (t : Table) (v n : ℕ) → (b ≡ true → PathWithin p C v n) → Sound t → Sound (store_if b t v n)
  unfolding store_if
  store_if_sound false t v n r s w d e = s w d e
  store_if_sound true t v n r s w d e = go (set_cases t v w n d e)
    where
      go : ((w ≡ v) × (n ≡ d)) ⊎ (cost_at t w ≡ some d) → PathWithin p C w d
      go (inl q) = rw (q.0, ← q.1) (r refl)
      go (inr q) = s w d q

  arrive_sound : (t : Table) (v n : ℕ) → (n + p.estimate v ≤ C → PathWithin p C v n) → Sound t → Sound (arrive p C t v n)
  unfolding arrive
  arrive_sound t v n r s = store_if_sound _ t v n (λ b. r (leb-true _ C (both (leb (n + p.estimate v) C) _ b).0)) s

  relax_sound : (t : Table) (a : Arc) → IsArc p a → Sound t → Sound (relax p C t a)
  unfolding relax relax_from Within
  relax_sound t a i s = go (cost_at t a.from) refl
    where
      further : (d : ℕ) → PathWithin p C a.from d → d + a.cost + p.estimate a.to ≤ C → PathWithin p C a.to (d + a.cost)
      further d w h = record { path = on a i w.path; within = (w.within, h) }

      go : (o : Option ℕ) → cost_at t a.from ≡ o → Sound (relax_from p C t o a)
      go none e = s
      go (some d) e = arrive_sound t a.to (d + a.cost) (further d (s a.from d e)) s

  relax_all_sound : (l : List Arc) (t : Table) → ((a : Arc) → Memᴰ a l → IsArc p a) → Sound t → Sound (relax_all p C l t)
  unfolding relax_all
  relax_all_sound [] t i s = s
  relax_all_sound (a ∷ l) t i s =
      relax_all_sound l (relax p C t a) (λ b h. i b (Memᴰ.tail h)) (relax_sound t a (i a (Memᴰ.head refl)) s)

  start_table_sound : Sound (start_table p C)
  unfolding start_table Within
  start_table_sound =
      arrive_sound _ p.start 0 (λ h. record { path = stay; within = omega arith }) (λ v d e. nothing_entered p.places v d e)

  pub times_sound : (k : ℕ) → Sound (relax_times k p C (start_table p C))
  unfolding relax_times
  times_sound zero = start_table_sound
  times_sound (suc k) = relax_all_sound p.arcs _ (λ a h. h) (times_sound k)

lowers_lt : (n x : ℕ) (o : Option ℕ) → o ≡ some x → lowers n o ≡ true → n < x
unfolding lowers
lowers_lt n x none e t = none-some e
lowers_lt n x (some y) e t = let q : y ≡ x = cc in omega (arith, ltb-true n y t)

-- No entry rises, the length stays, and an arc's end is reached at no more than the arc gives.
store_if_keeps : (b : Bool) (t : Table) (v n : ℕ) → (b ≡ true → lowers n (cost_at t v) ≡ true) → (w d : ℕ) → AtMost (cost_at t w) d
    → AtMost (cost_at (store_if b t v n) w) d
unfolding store_if
store_if_keeps false t v n l w d m = m
store_if_keeps true t v n l w d m = weaken m.below (set_keeps t v w n m.cost m.is lower)
  where
    lower : w ≡ v → n ≤ m.cost
    lower q =
        let there : cost_at t v ≡ some m.cost = rw (← q) m.is in
        omega (arith, lowers_lt n m.cost (cost_at t v) there (l refl))

store_if-length : (b : Bool) (t : Table) (v n : ℕ) → length (store_if b t v n) ≡ length t
unfolding store_if
store_if-length true t v n = length-set t v (some n)
store_if-length false t v n = refl

store_if_hits : (t : Table) (v n : ℕ) → v < length t → AtMost (cost_at (store_if (lowers n (cost_at t v)) t v n) v) n
unfolding store_if lowers
store_if_hits t v n h = go (cost_at t v) refl
  where
    stored : AtMost (cost_at (set t v (some n)) v) n
    stored = record { cost = n; is = get_or-set_same t v (some n) none h; below = le_refl n }

    test : (x : ℕ) (b : Bool) → cost_at t v ≡ some x → ltb n x ≡ b → AtMost (cost_at (store_if b t v n) v) n
    test x true e f = stored
    test x false e f = record { cost = x; is = e; below = ltb-false n x f }

    go : (o : Option ℕ) → cost_at t v ≡ o → AtMost (cost_at (store_if (lowers n o) t v n) v) n
    go none e = stored
    go (some x) e = test x (ltb n x) e refl

module _ (p : Problem) (C : ℕ) where
  arrive_keeps : (t : Table) (v n w d : ℕ) → AtMost (cost_at t w) d → AtMost (cost_at (arrive p C t v n) w) d
  unfolding arrive
  arrive_keeps t v n w d m = store_if_keeps _ t v n (λ b. (both (leb (n + p.estimate v) C) _ b).1) w d m

  arrive-length : (t : Table) (v n : ℕ) → length (arrive p C t v n) ≡ length t
  unfolding arrive
  arrive-length t v n = store_if-length _ t v n

  arrive_hits : (t : Table) (v n : ℕ) → v < length t → n + p.estimate v ≤ C → AtMost (cost_at (arrive p C t v n) v) n
  unfolding arrive
  arrive_hits t v n i h = rw (le-leb (n + p.estimate v) C h) (store_if_hits t v n i)

  relax_keeps : (t : Table) (a : Arc) (w d : ℕ) → AtMost (cost_at t w) d → AtMost (cost_at (relax p C t a) w) d
  unfolding relax relax_from
  relax_keeps t a w d m = go (cost_at t a.from)
    where
      go : (o : Option ℕ) → AtMost (cost_at (relax_from p C t o a) w) d
      go none = m
      go (some x) = arrive_keeps t a.to (x + a.cost) w d m

  relax-length : (t : Table) (a : Arc) → length (relax p C t a) ≡ length t
  unfolding relax relax_from
  relax-length t a = go (cost_at t a.from)
    where
      go : (o : Option ℕ) → length (relax_from p C t o a) ≡ length t
      go none = refl
      go (some x) = arrive-length t a.to (x + a.cost)

  relax_hits : (t : Table) (a : Arc) (d : ℕ) → a.to < length t → d + a.cost + p.estimate a.to ≤ C → AtMost (cost_at t a.from) d
      → AtMost (cost_at (relax p C t a) a.to) (d + a.cost)
  unfolding relax relax_from
  relax_hits t a d i h m =
      rw m.is (weaken (omega arith) (arrive_hits t a.to (m.cost + a.cost) i (omega arith)))

  relax_all_keeps : (l : List Arc) (t : Table) (w d : ℕ) → AtMost (cost_at t w) d → AtMost (cost_at (relax_all p C l t) w) d
  unfolding relax_all
  relax_all_keeps [] t w d m = m
  relax_all_keeps (a ∷ l) t w d m = relax_all_keeps l (relax p C t a) w d (relax_keeps t a w d m)

  relax_all-length : (l : List Arc) (t : Table) → length (relax_all p C l t) ≡ length t
  unfolding relax_all
  relax_all-length [] t = refl
  relax_all-length (a ∷ l) t = relax_all-length l (relax p C t a) ∙ relax-length t a

  relax_all_hits : (l : List Arc) (t : Table) (a : Arc) (d : ℕ) → Memᴰ a l → a.to < length t → d + a.cost + p.estimate a.to ≤ C
      → AtMost (cost_at t a.from) d → AtMost (cost_at (relax_all p C l t) a.to) (d + a.cost)
  unfolding relax_all
  relax_all_hits [] t a d k i h m = elim k [ ]
  relax_all_hits (b ∷ l) t a d (Memᴰ.head e) i h m =
      rw e (relax_all_keeps l (relax p C t b) b.to (d + b.cost) (relax_hits t b d (rw e at i) (rw e at h) (rw e at m)))
  relax_all_hits (b ∷ l) t a d (Memᴰ.tail k) i h m =
      relax_all_hits l (relax p C t b) a d k (rw relax-length i) h (relax_keeps t b a.from d m)

  pub times-length : (k : ℕ) → length (relax_times k p C (start_table p C)) ≡ p.places
  unfolding relax_times start_table
  times-length zero = arrive-length _ p.start 0 ∙ length-replicate p.places none
  times-length (suc k) = relax_all-length p.arcs _ ∙ times-length k

module _ (p : Problem) (ok : Valid p) (C : ℕ) where
  pub arcs_cost : {u v d : ℕ} (w : Walk p u v d) → arc_count w ≤ d
  unfolding arc_count
  arcs_cost stay = le_refl 0
  arcs_cost (on a i w) = omega (arith, arcs_cost w, ok.cost_above a i)

  times_reach : {v d : ℕ} (w : PathTo p v d) → Within C w → AtMost (cost_at (relax_times (arc_count w) p C (start_table p C)) v) d
  unfolding relax_times start_table arc_count Within
  times_reach stay h = arrive_hits p C _ p.start 0 (rw length-replicate ok.start_below) (omega arith)
  times_reach (on {d} a i w) h =
      relax_all_hits p C p.arcs _ a d i (rw (times-length p C (arc_count w)) (ok.arc_to a i)) h.1 (times_reach w h.0)

  -- k rounds account for every path within C of cost at most k, since each of its arcs costs at least 1
  pub times_complete : {v d : ℕ} (w : PathTo p v d) → Within C w → (k : ℕ) → d ≤ k → AtMost (cost_at (relax_times k p C (start_table p C)) v) d
  unfolding relax_times
  times_complete {v} {d} w i k h =
      let few : arc_count w ≤ k = omega (arith, arcs_cost w) in
      le_ind (λ n. AtMost (cost_at (relax_times n p C (start_table p C)) v) d) (times_reach w i)
      (λ n g m. relax_all_keeps p C p.arcs _ v d m) k few
