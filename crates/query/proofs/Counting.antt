-- How many places below n pass a test, and how many keys of a table do. Assumes nothing.
use mathlib.Core.Path.{◌≡◌, refl, ap, ◌∙◌}
use mathlib.Core.Bool.{Bool, true, false, cond}
use mathlib.Core.List.{List, [], ◌∷◌}
use mathlib.Core.Option.{Option, none, some}
use Prim.Native.Nat.{ℕ, zero, suc, ◌+◌, ◌≤◌, ◌<◌}
use native.Mathlib.Nat.{add-zero, add-suc, suc-add, zero-add}
use native.Mathlib.Decide.{ℕ_discrete}
use native.Mathlib.Omega.{arith}
use lib.ListN.{length}
use Rattle.model.specs.Lists.{filter, cons_if}
use Rattle.model.specs.Costs.{Table, cost_at}
use Rattle.model.specs.Query.{Key, key_of, keys_from, within}
use Rattle.query.specs.Front.{also, count_below}
use Rattle.query.proofs.Settling.{also_same, also_other}

-- tests that agree below n count the same
count_same : (f g : ℕ → Bool) (n : ℕ) → ((i : ℕ) → i < n → f i ≡ g i) → count_below f n ≡ count_below g n
unfolding count_below
count_same f g zero h = refl
count_same f g (suc n) h = rw (h n (omega arith), count_same f g n (λ i l. h i (omega arith)))

pub count_at_most : (f : ℕ → Bool) (n : ℕ) → count_below f n ≤ n
unfolding count_below
count_at_most f zero = omega arith
count_at_most f (suc n) = go (f n) (count_at_most f n)
  where
    go : (b : Bool) → count_below f n ≤ n → cond b (suc (count_below f n)) (count_below f n) ≤ suc n
    go true h = omega arith
    go false h = omega arith

pub count_none : (n : ℕ) → count_below (λ v. false) n ≡ 0
unfolding count_below
count_none zero = refl
count_none (suc n) = count_none n

-- one place more is settled
pub count_also : (settled : ℕ → Bool) (v n : ℕ) → v < n → settled v ≡ false → count_below (also settled v) n ≡ suc (count_below settled n)
unfolding count_below
count_also settled v zero h e = absurd (omega arith)
count_also settled v (suc n) h e = go (ℕ_discrete n v) (λ l. count_also settled v n l e)
  where
    joins : (b : Bool) (k : ℕ) → cond b (suc (suc k)) (suc k) ≡ suc (cond b (suc k) k)
    joins true k = refl
    joins false k = refl

    go : Dec (n ≡ v) → (v < n → count_below (also settled v) n ≡ suc (count_below settled n))
        → count_below (also settled v) (suc n) ≡ suc (count_below settled (suc n))
    go (yes q) rest = rw (also_same settled v n q, ap settled q ∙ e) (ap suc (count_same _ settled n (λ i l. also_other settled v i (omega arith))))
    go (no q) rest = rw (also_other settled v n q, rest (omega arith)) (joins (settled n) (count_below settled n))

-- place 0 is counted apart
count_first : (f : ℕ → Bool) (n : ℕ) → count_below f (suc n) ≡ cond (f 0) 1 0 + count_below (λ i. f (suc i)) n
unfolding count_below
count_first f zero = rw add-zero
count_first f (suc n) = rw (count_first f n) (go (f (suc n)))
  where
    first : ℕ
    first = cond (f 0) 1 0

    rest : ℕ
    rest = count_below (λ i. f (suc i)) n

    go : (b : Bool) → cond b (suc (first + rest)) (first + rest) ≡ first + cond b (suc rest) rest
    go true = omega arith
    go false = refl

-- one key more is counted where there is one that passes
key_counted : (test : Key → Bool) (now : Bool) (v : ℕ) (e : Option ℕ) (ks : List Key)
    → ((d : ℕ) → e ≡ some d → test (record { cost = d; place = v }) ≡ now) → (e ≡ none → now ≡ false)
    → length (filter test (cons_if (key_of v e) ks)) ≡ cond now 1 0 + length (filter test ks)
unfolding key_of cons_if filter
key_counted test now v none ks inside outside = rw (outside refl) (omega arith)
key_counted test now v (some d) ks inside outside = rw (inside d refl) (go now)
  where
    go : (b : Bool) → length (cond b (record { cost = d; place = v } ∷ filter test ks) (filter test ks)) ≡ cond b 1 0 + length (filter test ks)
    go true = omega arith
    go false = omega arith

-- where f tells which entries of the table, whose first is place v's, have a key that passes
keys_from-counted : (test : Key → Bool) (f : ℕ → Bool) (v : ℕ) (t : Table)
    → ((i d : ℕ) → cost_at t i ≡ some d → test (record { cost = d; place = v + i }) ≡ f i) → ((i : ℕ) → cost_at t i ≡ none → f i ≡ false)
    → length (filter test (keys_from v t)) ≡ count_below f (length t)
unfolding keys_from filter count_below
keys_from-counted test f v [] inside outside = refl
keys_from-counted test f v (e ∷ t) inside outside =
    let now = key_counted test (f 0) v e (keys_from (suc v) t) (λ d q. rw add-zero at (inside 0 d q)) (outside 0) in
    let later = keys_from-counted test (λ i. f (suc i)) (suc v) t (λ i d q. rw (suc-add, ← add-suc) (inside (suc i) d q)) (λ i. outside (suc i)) in
    omega (arith, count_first f (length t))

pub within_counted : (test : Key → Bool) (f : ℕ → Bool) (t : Table)
    → ((v d : ℕ) → cost_at t v ≡ some d → test (record { cost = d; place = v }) ≡ f v) → ((v : ℕ) → cost_at t v ≡ none → f v ≡ false)
    → length (filter test (within t)) ≡ count_below f (length t)
unfolding within
within_counted test f t inside outside = keys_from-counted test f 0 t (λ i d q. rw zero-add (inside i d q)) outside
