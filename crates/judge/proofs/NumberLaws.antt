-- The number of a table of conditions: of two tables put together, of one table after another, and against the first that holds. Assumes nothing.
use mathlib.Core.Path.{◌≡◌, refl}
use mathlib.Core.Logic.{◌≢◌}
use mathlib.Core.Bool.{Bool, true, false, cond, ◌||◌}
use mathlib.Core.List.{List, [], ◌∷◌, ◌++◌}
use Prim.Native.Nat.{ℕ, zero, suc, ◌≤◌, ◌<◌, min}
use native.Mathlib.Omega.{arith}
use lib.Dec.{ltb, leb}
use borrow.Author.Tests.{ltb-true, ltb-false, leb-false}
use Rattle.judge.specs.Numbers.{number_or}
use Rattle.model.specs.Refusals.{row}
use Rattle.model.specs.Lists.{any}
use Rattle.model.specs.Refusals.{Row, first_that_holds, first_of}
use Rattle.model.proofs.Lists.{neither}

-- The conditions of zs hold where those of xs or those of ys do. All numbers rise, from above k to below d.
pub data Joined (d : ℕ) : ℕ → (xs ys zs : List Row) → Type 0 where
  none : {k : ℕ} → ltb k d ≡ true → Joined d k [] [] []
  more : {k : ℕ} (n : ℕ) {a b c : Bool} {xs ys zs : List Row} → ltb k n ≡ true → c ≡ (a || b) → Joined d n xs ys zs
      → Joined d k (row n a ∷ xs) (row n b ∷ ys) (row n c ∷ zs)

module _ (d : ℕ) where
  joined_above : {k : ℕ} {xs ys zs : List Row} → Joined d k xs ys zs → (k < number_or d xs) × (k < number_or d ys)
  unfolding number_or
  joined_above (none {k} h) = let below = ltb-true k d h in (below, below)
  joined_above (more {k} n {a} {b} {c} {xs} {ys} h e rest) =
      let above = joined_above rest in
      (go a above.0, go b above.1)
    where
      go : {x : ℕ} (t : Bool) → n < x → k < cond t n x
      go true l = ltb-true k n h
      go false l = omega (arith, ltb-true k n h)

  -- the least of two tables' numbers is the number of both tables put together
  pub joined_least : {k : ℕ} {xs ys zs : List Row} → Joined d k xs ys zs → min (number_or d xs) (number_or d ys) ≡ number_or d zs
  unfolding number_or
  joined_least (none h) = omega arith
  joined_least (more {k} n {a} {b} {c} {xs} {ys} {zs} h e rest) =
      rw e (go a b (joined_above rest) (joined_least rest))
    where
      go : {x y z : ℕ} (a b : Bool) → (n < x) × (n < y) → min x y ≡ z → min (cond a n x) (cond b n y) ≡ cond (a || b) n z
      go true true l e = omega arith
      go true false l e = omega (arith, l.1)
      go false true l e = omega (arith, l.0)
      go false false l e = e

-- all numbers of the table are below k, or k or above
abbrev pub Below : ℕ → List Row → Type 0
Below k rs = any (λ (r : Row). leb k r.number) rs ≡ false

abbrev pub From : ℕ → List Row → Type 0
From k rs = any (λ (r : Row). ltb r.number k) rs ≡ false

module _ (d k : ℕ) where
  pub number_from : (rs : List Row) → From k rs → k ≤ d → k ≤ number_or d rs
  unfolding number_or any
  number_from [] h l = l
  number_from (r ∷ rs) h l =
      let own = neither _ _ h in
      go r.holds (ltb-false r.number k own.0) (number_from rs own.1 l)
    where
      go : {x : ℕ} (t : Bool) → k ≤ r.number → k ≤ x → k ≤ cond t r.number x
      go true a b = a
      go false a b = b

  -- a number below k is that of the first table; another is that of the second, and the first has none
  module _ (ss : List Row) (above : k ≤ number_or d ss) where
    pub number_early : (rs : List Row) → Below k rs → number_or d (rs ++ ss) < k → first_that_holds rs ≡ number_or d (rs ++ ss)
    unfolding number_or any first_that_holds
    number_early [] h l = absurd (omega arith)
    number_early (r ∷ rs) h l = go r.holds l (number_early rs (neither (leb k r.number) _ h).1)
      where
        go : (t : Bool) → cond t r.number (number_or d (rs ++ ss)) < k
            → (number_or d (rs ++ ss) < k → first_that_holds rs ≡ number_or d (rs ++ ss))
            → cond t r.number (first_that_holds rs) ≡ cond t r.number (number_or d (rs ++ ss))
        go true l rest = refl
        go false l rest = rest l

    pub number_late : (rs : List Row) → Below k rs → k ≤ number_or d (rs ++ ss)
        → (first_that_holds rs ≡ 0) × (number_or d (rs ++ ss) ≡ number_or d ss)
    unfolding number_or any first_that_holds
    number_late [] h l = (refl, refl)
    number_late (r ∷ rs) h l =
        let own = neither _ _ h in
        go r.holds l (leb-false k r.number own.0) (number_late rs own.1)
      where
        go : (t : Bool) → k ≤ cond t r.number (number_or d (rs ++ ss)) → r.number < k
            → (k ≤ number_or d (rs ++ ss) → (first_that_holds rs ≡ 0) × (number_or d (rs ++ ss) ≡ number_or d ss))
            → (cond t r.number (first_that_holds rs) ≡ 0) × (cond t r.number (number_or d (rs ++ ss)) ≡ number_or d ss)
        go true l b rest = absurd (omega arith)
        go false l b rest = rest l

-- the first number that holds, where one does, and none otherwise
module _ (d : ℕ) where
  pub number_some : (rs : List Row) → number_or d rs ≢ d → first_that_holds rs ≡ number_or d rs
  unfolding number_or first_that_holds
  number_some [] h = absurd (h refl)
  number_some (r ∷ rs) h = go r.holds h (number_some rs)
    where
      go : (t : Bool) → cond t r.number (number_or d rs) ≢ d → (number_or d rs ≢ d → first_that_holds rs ≡ number_or d rs)
          → cond t r.number (first_that_holds rs) ≡ cond t r.number (number_or d rs)
      go true h rest = refl
      go false h rest = rest h

  pub number_none : (rs : List Row) → Below d rs → number_or d rs ≡ d → first_that_holds rs ≡ 0
  unfolding number_or first_that_holds any
  number_none [] h e = refl
  number_none (r ∷ rs) h e =
      let own = neither _ _ h in
      go r.holds e (leb-false d r.number own.0) (number_none rs own.1)
    where
      go : (t : Bool) → cond t r.number (number_or d rs) ≡ d → r.number < d → (number_or d rs ≡ d → first_that_holds rs ≡ 0)
          → cond t r.number (first_that_holds rs) ≡ 0
      go true e l rest = absurd (omega arith)
      go false e l rest = rest e

-- of two groups, the first's number where it gives one, and the second's otherwise
module _ (n k : ℕ) where
  pub first_given : (m : ℕ) → n ≡ m → m ≢ 0 → first_of n k ≡ m
  unfolding first_of
  first_given zero e h = absurd (h refl)
  first_given (suc m) e h = rw e

  pub none-given : n ≡ 0 → first_of n k ≡ k
  unfolding first_of
  none-given e = rw e
