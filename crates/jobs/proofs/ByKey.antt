-- Lists of what a function gives of the numbers below n, and what a list comes to key by key: with one element more, and added up. Assumes nothing.
use mathlib.Core.Path.{◌≡◌, refl, sym, ◌∙◌, ap}
use mathlib.Core.List.{List, [], ◌∷◌, ◌++◌, map, map-append, Memᴰ}
use Prim.Native.Nat.{ℕ, zero, suc, ◌+◌, ◌<◌}
use native.Mathlib.Decide.{ℕ_discrete}
use native.Mathlib.Omega.{arith}
use lib.Dec.{eqb}
use lib.ListN.{length, drop, get_or, set, replicate, length-map, length-set, length-replicate, get_or-replicate, get_or-append}
use lib.Seq.{drop_at, ext_get_or, get_or_at, get_or-set_same, get_or-set_other}
use borrow.Author.Tests.{eq-eqb, ne_eqb}
use Rattle.model.specs.Lists.{filter, below}
use Rattle.model.specs.Sums.{sum_below}
use Rattle.model.proofs.Lists.{filter-append, below_length}
use Rattle.model.proofs.Sums.{sum_same}
use Rattle.jobs.specs.Steps.{raised}

-- ---- What a function gives of the numbers below n

pub values_length : {A : Type 0} (f : ℕ → A) (n : ℕ) → length (map f (below n)) ≡ n
values_length f n = length-map (below n) f ∙ below_length n

-- at each number stands its value
pub value_at : {A : Type 0} (f : ℕ → A) (d : A) (n i : ℕ) → i < n → get_or (map f (below n)) i d ≡ f i
unfolding below
value_at f d zero i l = absurd (omega arith)
value_at {A} f d (suc n) i l =
    ap (λ (vs : List A). get_or vs i d) (map-append f (below n) (n ∷ [])) ∙ go (ℕ_discrete i n) (value_at f d n i)
  where
    go : Dec (i ≡ n) → (i < n → get_or (map f (below n)) i d ≡ f i) → get_or (map f (below n) ++ (f n ∷ [])) i d ≡ f i
    go (yes e) rest = get_or_at (map f (below n)) (f n) [] d i (values_length f n ∙ sym e) ∙ ap f (sym e)
    go (no e) rest =
        let less : i < n = omega arith in
        get_or-append (map f (below n)) (f n ∷ []) d i (omega (arith, values_length f n)) ∙ rest less

-- with other values behind them: each is where it was, and the others follow
module _ {A : Type 0} (f : ℕ → A) (n : ℕ) (others : List A) where
  pub value_before : (d : A) (i : ℕ) → i < n → get_or (map f (below n) ++ others) i d ≡ f i
  value_before d i l = get_or-append (map f (below n)) others d i (omega (arith, values_length f n)) ∙ value_at f d n i l

  pub others_behind : drop n (map f (below n) ++ others) ≡ others
  others_behind = drop_at (map f (below n)) others n (values_length f n)

-- functions that agree below n give the same list
pub values_same : {A : Type 0} (f g : ℕ → A) (n : ℕ) → ((i : ℕ) → i < n → f i ≡ g i) → map f (below n) ≡ map g (below n)
unfolding below
values_same f g zero same = refl
values_same f g (suc n) same =
    let rest = values_same f g n (λ i l. same i (omega arith)) in
    let last = same n (omega arith) in
    simp map-append (cc (rest, last))

-- a function that is 0 gives zeros, which add up to 0
pub values_zero : (n : ℕ) → map {B = ℕ} (λ (i : ℕ). 0) (below n) ≡ replicate n 0
values_zero n =
    let size = values_length {A = ℕ} (λ i. 0) n in
    ext_get_or 0 _ _ (size ∙ sym (length-replicate n 0)) λ i l.
    let less : i < n = omega (arith, size) in
    value_at (λ i. 0) 0 n i less ∙ sym (get_or-replicate n i 0 0 less)

pub sum-zero : (f : ℕ → ℕ) (n : ℕ) → ((i : ℕ) → f i ≡ 0) → sum_below f n ≡ 0
unfolding sum_below
sum-zero f zero none = refl
sum-zero f (suc n) none = omega (arith, sum-zero f n none, none n)

-- g is f with w more at k
module _ (f g : ℕ → ℕ) (k w : ℕ) (elsewhere : (i : ℕ) → (i ≡ k → ⊥) → g i ≡ f i) (there : (i : ℕ) → i ≡ k → g i ≡ f i + w) where
  -- its list is raised there
  pub values_raised : (n : ℕ) → map g (below n) ≡ raised (map f (below n)) k w
  unfolding raised
  values_raised n = ext_get_or 0 _ _ (after ∙ sym (length-set before k new ∙ size)) λ i l. at i (omega (arith, after)) (ℕ_discrete i k)
    where
      before : List ℕ
      before = map f (below n)

      new : ℕ
      new = get_or before k 0 + w

      size : length before ≡ n
      size = values_length f n

      after : length (map g (below n)) ≡ n
      after = values_length g n

      at : (i : ℕ) → i < n → Dec (i ≡ k) → get_or (map g (below n)) i 0 ≡ get_or (set before k new) i 0
      at i l (yes e) =
          let less : k < n = omega arith in
          let inside : k < length before = omega (arith, size) in
          rw (e, value_at g 0 n k less, get_or-set_same before k new 0 inside) (omega (arith, there k refl, value_at f 0 n k less))
      at i l (no e) = value_at g 0 n i l ∙ elsewhere i e ∙ sym (value_at f 0 n i l) ∙ sym (get_or-set_other before k i new 0 e)

  -- and so is its sum
  pub sum-raised : (n : ℕ) → k < n → sum_below g n ≡ sum_below f n + w
  unfolding sum_below
  sum-raised zero l = absurd (omega arith)
  sum-raised (suc n) l = go (ℕ_discrete n k) (sum-raised n)
    where
      go : Dec (n ≡ k) → (k < n → sum_below g n ≡ sum_below f n + w) → sum_below g n + g n ≡ sum_below f n + f n + w
      go (yes e) rest =
          let before = sum_same g f n (λ i l. elsewhere i (omega arith)) in
          omega (arith, there n e)
      go (no e) rest = omega (arith, elsewhere n e, rest (omega arith))

-- ---- A list key by key

-- the measure of the elements that have key g
abbrev pub measure_at : {A : Type 0} → (A → ℕ) → (List A → ℕ) → List A → ℕ → ℕ
measure_at {A} key measure xs g = measure (filter (λ (x : A). eqb (key x) g) xs)

-- a measure that adds up over lists put together
module _ {A : Type 0} (key : A → ℕ) (measure : List A → ℕ) (adds : (xs ys : List A) → measure (xs ++ ys) ≡ measure xs + measure ys) where
  abbrev at : List A → ℕ → ℕ
  at = measure_at key measure

  nothing : measure [] ≡ 0
  nothing = omega (arith, adds [] [])

  at_adds : (xs ys : List A) (g : ℕ) → at (xs ++ ys) g ≡ at xs g + at ys g
  at_adds xs ys g = ap measure (filter-append _ xs ys) ∙ adds (filter _ xs) (filter _ ys)

  -- one element counts at its key
  one_there : (x : A) (g : ℕ) → g ≡ key x → at (x ∷ []) g ≡ measure (x ∷ [])
  unfolding filter
  one_there x g e = rw (eq-eqb (key x) g (sym e))

  -- and nowhere else
  one_elsewhere : (x : A) (g : ℕ) → (g ≡ key x → ⊥) → at (x ∷ []) g ≡ 0
  unfolding filter
  one_elsewhere x g e = rw (ne_eqb (key x) g (λ d. e (sym d))) nothing

  -- With one element more, the measures key by key are raised at its key.
  pub measures_next : (n : ℕ) (xs : List A) (x : A)
      → map (at (xs ++ (x ∷ []))) (below n) ≡ raised (map (at xs) (below n)) (key x) (measure (x ∷ []))
  measures_next n xs x =
      values_raised (at xs) (at (xs ++ (x ∷ []))) (key x) (measure (x ∷ []))
      (λ g e. omega (arith, at_adds xs (x ∷ []) g, one_elsewhere x g e))
      (λ g e. omega (arith, at_adds xs (x ∷ []) g, one_there x g e))
      n

  -- Where all keys are below n, the measures at the numbers below n add up to the measure of all.
  pub regrouped : (n : ℕ) (xs : List A) → ((x : A) → Memᴰ x xs → key x < n) → sum_below (at xs) n ≡ measure xs
  unfolding filter
  regrouped n [] within = sum-zero (at []) n (λ g. nothing) ∙ sym nothing
  regrouped n (x ∷ xs) within =
      let rest = regrouped n xs (λ y i. within y (Memᴰ.tail i)) in
      let first =
      sum-raised (at xs) (at (x ∷ xs)) (key x) (measure (x ∷ []))
      (λ g e. omega (arith, at_adds (x ∷ []) xs g, one_elsewhere x g e))
      (λ g e. omega (arith, at_adds (x ∷ []) xs g, one_there x g e))
      n (within x (Memᴰ.head refl)) in
      omega (arith, adds (x ∷ []) xs)
