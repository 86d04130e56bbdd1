-- The places within, as keys: their number, and the first goal among them. Assumes nothing.
use mathlib.Core.Path.{◌≡◌, refl, sym, ◌∙◌, ap}
use mathlib.Core.Logic.{◌↔◌, ◌⊎◌, inl, inr}
use mathlib.Core.Bool.{Bool, true, false, ◌&&◌, ◌||◌}
use mathlib.Core.List.{List, [], ◌∷◌, Memᴰ}
use mathlib.Core.Option.{Option, none, some, some-injective}
use Prim.Native.Nat.{ℕ, zero, suc, ◌+◌, ◌≤◌, ◌<◌}
use native.Mathlib.Nat.{le_refl}
use native.Mathlib.Omega.{arith}
use native.Mathlib.Decide.{ℕ_discrete}
use lib.Dec.{ltb, eqb}
use lib.ListN.{length}
use borrow.Author.Tests.{ltb-true, ltb-false, le-ltb, eqb-true, eq-eqb, ne_eqb}
use Rattle.model.specs.Lists.{filter, cons_if, member}
use Rattle.model.specs.Problem.{Problem, IsGoal}
use Rattle.model.specs.Costs.{Table, cost_at}
use Rattle.model.specs.Query.{Key, precedes, key_of, keys_from, within, first_goal, length_to}
use Rattle.model.specs.Terms.{NoMore, IsWithin}
use Rattle.model.proofs.Lists.{none-some, neither, both, filter-member, filter-length, least_by_none, least_by_member, least_by_least}
use Rattle.model.proofs.Lists.{member_true, member-length, cons_if_member, cons_if_length}

-- g's key comes first of those of the goals: by cost, then by number
pub record IsFirstGoal (p : Problem) (t : Table) (g : Key) : Type 0 where
  pub is_goal : IsGoal p g.place
  pub entry : cost_at t g.place ≡ some g.cost
  pub cheapest : (h d : ℕ) → IsGoal p h → cost_at t h ≡ some d → g.cost ≤ d
  pub lowest : (h : ℕ) → IsGoal p h → cost_at t h ≡ some g.cost → g.place ≤ h

abbrev pub key : ℕ → ℕ → Key
key d v = record { cost = d; place = v }

-- by two numbers: the order is transitive
pub no_more_on : {a b c d e f : ℕ} → NoMore a b c d → NoMore c d e f → NoMore a b e f
no_more_on {a} {c = c} {e = e} x y =
    record {
      first = omega (arith, x.first, y.first);
      second = λ q.
          let low : a ≡ c = omega (arith, x.first, y.first) in
          let high : c ≡ e = omega arith in
          omega (arith, x.second low, y.second high);
    }

-- Key j does not come before k: k is no more than it, by cost, then by number.
abbrev pub NotBefore : (j k : Key) → Type 0
NotBefore j k = NoMore k.cost k.place j.cost j.place

pub precedes_false : (j k : Key) → precedes j k ≡ false → NotBefore j k
unfolding precedes
precedes_false j k e =
    let parts = neither (ltb j.cost k.cost) (eqb j.cost k.cost && ltb j.place k.place) e in
    record { first = ltb-false _ _ parts.0; second = λ p. ltb-false _ _ (rw (eq-eqb j.cost k.cost (sym p)) at parts.1) }

pub not_precedes : (j k : Key) → NotBefore j k → precedes j k ≡ false
unfolding precedes
not_precedes j k h = go (ℕ_discrete j.cost k.cost)
  where
    go : Dec (j.cost ≡ k.cost) → ltb j.cost k.cost || (eqb j.cost k.cost && ltb j.place k.place) ≡ false
    go (yes p) = rw (le-ltb j.cost k.cost h.first, eq-eqb j.cost k.cost p, le-ltb j.place k.place (h.second (sym p)))
    go (no p) = rw (le-ltb j.cost k.cost h.first, ne_eqb j.cost k.cost p)

-- at most one of two keys comes before the other
pub precedes_true : (j k : Key) → precedes j k ≡ true → NotBefore k j
unfolding precedes
precedes_true j k e = go (ltb j.cost k.cost) refl e
  where
    go : (b : Bool) → ltb j.cost k.cost ≡ b → b || (eqb j.cost k.cost && ltb j.place k.place) ≡ true → NotBefore k j
    go true q h =
        let less = ltb-true j.cost k.cost q in
        record { first = omega arith; second = λ p. omega arith }
    go false q h =
        let tie = both (eqb j.cost k.cost) (ltb j.place k.place) h in
        let same = eqb-true j.cost k.cost tie.0 in
        let lower = ltb-true j.place k.place tie.1 in
        record { first = omega arith; second = λ p. omega arith }

key_of_some : (v : ℕ) (e : Option ℕ) (k : Key) → (key_of v e ≡ some k) ↔ ((k.place ≡ v) × (e ≡ some k.cost))
unfolding key_of
key_of_some v e k = (down e, λ h. up e h.0 h.1)
  where
    down : (e : Option ℕ) → key_of v e ≡ some k → (k.place ≡ v) × (e ≡ some k.cost)
    down none p = none-some p
    down (some d) p =
        let same = some-injective _ _ p in
        (ap (λ (j : Key). j.place) (sym same), ap (λ (j : Key). some j.cost) same)

    up : (e : Option ℕ) → k.place ≡ v → e ≡ some k.cost → key_of v e ≡ some k
    up none p q = none-some q
    up (some d) p q = ap {B = Option Key} some (λ i. record { cost = some-injective _ _ q i; place = sym p i })

-- a key in the list from place v on is the i-th entry's, of place v + i
keys_from-entry : (v : ℕ) (t : Table) (k : Key) → Memᴰ k (keys_from v t) ↔ ((i : ℕ) × (k.place ≡ v + i) × (cost_at t i ≡ some k.cost))
unfolding keys_from
keys_from-entry v [] k = (λ i. absurd (mathlib.Core.List.Memᴰ.not-nil i), λ h. none-some h.2)
keys_from-entry v (e ∷ t) k =
    let rest = keys_from-entry (suc v) t k in
    let first = cons_if_member (key_of v e) (keys_from (suc v) t) in
    (λ i. down rest.0 (first.0 i), λ h. first.1 (up rest.1 h.0 h.1 h.2))
  where
    IsEntry : ℕ → Table → Type 0
    IsEntry u s = (i : ℕ) × (k.place ≡ u + i) × (cost_at s i ≡ some k.cost)

    down : (Memᴰ k (keys_from (suc v) t) → IsEntry (suc v) t) → (key_of v e ≡ some k) ⊎ Memᴰ k (keys_from (suc v) t) → IsEntry v (e ∷ t)
    down rest (inl q) = let h = (key_of_some v e k).0 q in (0, h.0 ∙ omega arith, h.1)
    down rest (inr i) = let h = rest i in (suc h.0, h.1 ∙ omega arith, h.2)

    up : (IsEntry (suc v) t → Memᴰ k (keys_from (suc v) t)) → (i : ℕ) → k.place ≡ v + i → cost_at (e ∷ t) i ≡ some k.cost
        → (key_of v e ≡ some k) ⊎ Memᴰ k (keys_from (suc v) t)
    up rest zero p q = inl ((key_of_some v e k).1 (omega arith, q))
    up rest (suc i) p q = inr (rest (i, omega arith, q))

pub key_entry : (t : Table) (k : Key) → Memᴰ k (within t) ↔ (cost_at t k.place ≡ some k.cost)
unfolding within
key_entry t k = (down, λ e. (keys_from-entry 0 t k).1 (k.place, omega arith, e))
  where
    down : Memᴰ k (keys_from 0 t) → cost_at t k.place ≡ some k.cost
    down i = let h = (keys_from-entry 0 t k).0 i in ap (cost_at t) (h.1 ∙ omega arith) ∙ h.2

keys_from-length : (v : ℕ) (t : Table) → length (keys_from v t) ≤ length t
unfolding keys_from
keys_from-length v [] = omega arith
keys_from-length v (e ∷ t) =
    let rest = keys_from-length (suc v) t in
    omega (arith, cons_if_length (key_of v e) (keys_from (suc v) t))

pub within-length : (t : Table) → length (within t) ≤ length t
unfolding within
within-length t = keys_from-length 0 t

keys_from_shorter : (u : ℕ) (t : Table) (v : ℕ) → v < length t → cost_at t v ≡ none → length (keys_from u t) < length t
unfolding keys_from key_of cons_if
keys_from_shorter u [] v h e = absurd (omega arith)
keys_from_shorter u (x ∷ t) zero h e = rw e (omega (arith, keys_from-length (suc u) t))
keys_from_shorter u (x ∷ t) (suc v) h e =
    let rest = keys_from_shorter (suc u) t v (omega arith) e in
    omega (arith, cons_if_length (key_of u x) (keys_from (suc u) t))

-- a place that is not within is not counted
pub within_shorter : (t : Table) (v : ℕ) → v < length t → cost_at t v ≡ none → length (within t) < length t
unfolding within
within_shorter t v h e = keys_from_shorter 0 t v h e

pub within-some : (t : Table) (v : ℕ) → IsWithin t v → 1 ≤ length (within t)
within-some t v w = member-length ((key_entry t (key w.cost v)).1 w.is)

keys_from_monotone : (v : ℕ) (t u : Table) → length t ≡ length u → ((i : ℕ) → IsWithin t i → IsWithin u i)
    → length (keys_from v t) ≤ length (keys_from v u)
unfolding keys_from key_of cons_if
keys_from_monotone v [] [] e h = le_refl 0
keys_from_monotone v [] (y ∷ u) e h = absurd (omega arith)
keys_from_monotone v (x ∷ t) [] e h = absurd (omega arith)
keys_from_monotone v (x ∷ t) (y ∷ u) e h = go x y now (keys_from_monotone (suc v) t u (omega arith) later)
  where
    now : (d : ℕ) → x ≡ some d → (c : ℕ) × (y ≡ some c)
    now d q = let r = h 0 (record { cost = d; is = q }) in (r.cost, r.is)

    later : (i : ℕ) → IsWithin t i → IsWithin u i
    later i w = let r = h (suc i) (record { cost = w.cost; is = w.is }) in record { cost = r.cost; is = r.is }

    go : (x y : Option ℕ) → ((d : ℕ) → x ≡ some d → (c : ℕ) × (y ≡ some c)) → length (keys_from (suc v) t) ≤ length (keys_from (suc v) u)
        → length (cons_if (key_of v x) (keys_from (suc v) t)) ≤ length (cons_if (key_of v y) (keys_from (suc v) u))
    go none none f rest = rest
    go none (some c) f rest = omega arith
    go (some d) none f rest = none-some (f d refl).1
    go (some d) (some c) f rest = omega arith

-- where the places within the one are within the other there are no more of them
pub within_monotone : (t u : Table) → length t ≡ length u → ((v : ℕ) → IsWithin t v → IsWithin u v) → length (within t) ≤ length (within u)
unfolding within
within_monotone t u e h = keys_from_monotone 0 t u e h

-- the keys of the goals within
abbrev goal_keys : Problem → Table → List Key
goal_keys p t = filter (λ (k : Key). member k.place p.goals) (within t)

goal_key : (p : Problem) (t : Table) (k : Key) → Memᴰ k (goal_keys p t) ↔ (IsGoal p k.place × (cost_at t k.place ≡ some k.cost))
goal_key p t k =
    let passes = filter-member (λ (k : Key). member k.place p.goals) (within t) k in
    let goal = member_true k.place p.goals in
    let entry = key_entry t k in
    (λ i. (goal.0 (passes.0 i).1, entry.0 (passes.0 i).0), λ h. passes.1 (entry.1 h.1, goal.1 h.0))

-- no key of a goal comes before the first
first_goal_least : (p : Problem) (t : Table) (g k : Key) → first_goal p t ≡ some g → Memᴰ k (goal_keys p t) → NotBefore k g
unfolding first_goal
first_goal_least p t g k e i = precedes_false k g (least_by_least precedes trans asym irrefl (goal_keys p t) g e k i)
  where
    trans : (a b c : Key) → precedes a b ≡ false → precedes b c ≡ false → precedes a c ≡ false
    trans a b c h k = not_precedes a c (no_more_on (precedes_false b c k) (precedes_false a b h))

    asym : (a b : Key) → precedes a b ≡ true → precedes b a ≡ false
    asym a b h = not_precedes b a (precedes_true a b h)

    irrefl : (a : Key) → precedes a a ≡ false
    irrefl a = not_precedes a a (record { first = omega arith; second = λ q. omega arith })

pub first_goal_none : (p : Problem) (t : Table) → first_goal p t ≡ none → (g : ℕ) → IsGoal p g → IsWithin t g → ⊥
unfolding first_goal
first_goal_none p t e g i w =
    let inside : Memᴰ (key w.cost g) (goal_keys p t) = (goal_key p t (key w.cost g)).1 (i, w.is) in
    mathlib.Core.List.Memᴰ.not-nil (rw (least_by_none precedes (goal_keys p t) e) at inside)

pub first_goal_some : (p : Problem) (t : Table) (g : Key) → first_goal p t ≡ some g → IsFirstGoal p t g
unfolding first_goal
first_goal_some p t g e =
    let own = (goal_key p t g).0 (least_by_member precedes (goal_keys p t) g e) in
    record { is_goal = own.0; entry = own.1; cheapest = λ h d i q. (low h d i q).first; lowest = λ h i q. (low h g.cost i q).second refl }
  where
    low : (h d : ℕ) → IsGoal p h → cost_at t h ≡ some d → NotBefore (key d h) g
    low h d i q = first_goal_least p t g (key d h) e ((goal_key p t (key d h)).1 (i, q))

-- and there is only one that comes first
pub first_goal_is : (p : Problem) (t : Table) (g : Key) → IsFirstGoal p t g → first_goal p t ≡ some g
first_goal_is p t g f = go (first_goal p t) refl
  where
    go : (o : Option Key) → first_goal p t ≡ o → o ≡ some g
    go none e = absurd (first_goal_none p t e g.place f.is_goal (record { cost = g.cost; is = f.entry }))
    go (some k) e =
        let other = first_goal_some p t k e in
        let no-dearer = other.cheapest g.place g.cost f.is_goal f.entry in
        let cost : k.cost ≡ g.cost = omega (arith, f.cheapest k.place k.cost other.is_goal other.entry) in
        let no-higher = other.lowest g.place f.is_goal (rw cost f.entry) in
        let place : k.place ≡ g.place = omega (arith, f.lowest k.place other.is_goal (rw cost at other.entry)) in
        ap {B = Option Key} some (λ j. record { cost = cost j; place = place j })

pub length_at_most : (g : Option Key) (ks : List Key) → length_to g ks ≤ length ks
unfolding length_to
length_at_most none ks = le_refl (length ks)
length_at_most (some g) ks = filter-length (λ (k : Key). precedes k g) ks
