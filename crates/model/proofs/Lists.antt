-- Laws of tests and choices over lists. Assumes nothing.
use mathlib.Core.Path.{◌≡◌, refl, sym, ◌∙◌, ap, ap₂}
use mathlib.Core.Logic.{◌↔◌, ◌⊎◌, inl, inr, ⊎_elim}
use mathlib.Core.Bool.{Bool, true, false, cond, not, ◌&&◌, ◌||◌, true≢false, false≢true}
use mathlib.Core.List.Memᴰ
use mathlib.Core.List.{List, [], ◌∷◌, ◌++◌, map, head_d, Memᴰ}
use mathlib.Core.Option.{Option, none, some, none-ne-some, some-injective}
use Prim.Native.Nat.{ℕ, zero, suc, ◌+◌, ◌≤◌, ◌<◌}
use native.Mathlib.Decide.{ℕ_discrete}
use native.Mathlib.Numerals.{add-one}
use native.Mathlib.Omega.{arith}
use lib.Dec.{ltb, eqb}
use lib.ListN.{length, get_or, set, length-append}
use lib.Seq.{paste, paste-suc}
use borrow.Author.Tests.{ltb-true, ltb-false, le-ltb, eqb-true, eqb-false, eq-eqb}
use Rattle.model.specs.Lists.{any, filter, cons_if, filter_map, lesser, least_by, least, member, repeats, same_numbers, below}

pub none-some : {A B : Type 0} {x : A} → ◌≡◌ {A = Option A} none (some x) → B
none-some e = absurd (none-ne-some _ e)

pub neither : (a b : Bool) → a || b ≡ false → (a ≡ false) × (b ≡ false)
neither true b e = absurd (true≢false e)
neither false b e = (refl, e)

pub both : (a b : Bool) → a && b ≡ true → (a ≡ true) × (b ≡ true)
both true b e = (refl, e)
both false b e = absurd (false≢true e)

-- the first of a list that has one element at most, and of one that has none
pub only_one : {A : Type 0} (xs : List A) (d x : A) → length xs ≤ 1 → Memᴰ x xs → head_d xs d ≡ x
unfolding head_d
only_one [] d x few i = absurd (Memᴰ.not-nil i)
only_one (y ∷ []) d x few i = sym (Memᴰ.eq_of_singleton i)
only_one (y ∷ z ∷ xs) d x few i = absurd (omega arith)

pub none_first : {A : Type 0} (xs : List A) (d : A) → ((x : A) → Memᴰ x xs → ⊥) → head_d xs d ≡ d
unfolding head_d
none_first [] d h = refl
none_first (x ∷ xs) d h = absurd (h x (Memᴰ.head refl))

pub member-length : {A : Type 0} {x : A} {xs : List A} → Memᴰ x xs → 1 ≤ length xs
member-length (Memᴰ.head e) = omega arith
member-length (Memᴰ.tail i) = omega arith

-- an element of a list that y joins if the test passes
pub cond_member : {A : Type 0} {x y : A} (b : Bool) (ys : List A) → Memᴰ x (cond b (y ∷ ys) ys) ↔ (((x ≡ y) × (b ≡ true)) ⊎ Memᴰ x ys)
cond_member {x = x} {y = y} b ys = (down b, up b)
  where
    down : (b : Bool) → Memᴰ x (cond b (y ∷ ys) ys) → ((x ≡ y) × (b ≡ true)) ⊎ Memᴰ x ys
    down true (Memᴰ.head e) = inl (e, refl)
    down true (Memᴰ.tail i) = inr i
    down false i = inr i

    up : (b : Bool) → ((x ≡ y) × (b ≡ true)) ⊎ Memᴰ x ys → Memᴰ x (cond b (y ∷ ys) ys)
    up true (inl e) = Memᴰ.head e.0
    up true (inr i) = Memᴰ.tail i
    up false (inl e) = absurd (false≢true e.1)
    up false (inr i) = i

pub cons_if_member : {A : Type 0} {x : A} (o : Option A) (xs : List A) → Memᴰ x (cons_if o xs) ↔ ((o ≡ some x) ⊎ Memᴰ x xs)
unfolding cons_if
cons_if_member {A} {x} o xs = (down o, up o)
  where
    down : (o : Option A) → Memᴰ x (cons_if o xs) → (o ≡ some x) ⊎ Memᴰ x xs
    down none i = inr i
    down (some y) (Memᴰ.head e) = inl (ap {B = Option A} some (sym e))
    down (some y) (Memᴰ.tail i) = inr i

    up : (o : Option A) → (o ≡ some x) ⊎ Memᴰ x xs → Memᴰ x (cons_if o xs)
    up none (inl e) = none-some e
    up none (inr i) = i
    up (some y) (inl e) = Memᴰ.head (sym (some-injective _ _ e))
    up (some y) (inr i) = Memᴰ.tail i

module _ {A : Type 0} (f : A → Bool) where
  pub any_false : (xs : List A) → any f xs ≡ false → (x : A) → Memᴰ x xs → f x ≡ false
  unfolding any
  any_false [] e x i = absurd (Memᴰ.not-nil i)
  any_false (y ∷ ys) e x (Memᴰ.head p) = rw p (neither (f y) (any f ys) e).0
  any_false (y ∷ ys) e x (Memᴰ.tail i) = any_false ys (neither (f y) (any f ys) e).1 x i

  pub any_true : (xs : List A) → any f xs ≡ true → (x : A) × Memᴰ x xs × (f x ≡ true)
  unfolding any
  any_true [] e = absurd (false≢true e)
  any_true (y ∷ ys) e = go (f y) refl e (any_true ys)
    where
      Found : List A → Type 0
      Found xs = (x : A) × Memᴰ x xs × (f x ≡ true)

      go : (b : Bool) → f y ≡ b → b || any f ys ≡ true → (any f ys ≡ true → Found ys) → Found (y ∷ ys)
      go true p h rest = (y, Memᴰ.head refl, p)
      go false p h rest = let r = rest h in (r.0, Memᴰ.tail r.1, r.2)

  pub filter-member : (xs : List A) (x : A) → Memᴰ x (filter f xs) ↔ (Memᴰ x xs × (f x ≡ true))
  unfolding filter
  filter-member [] x = (λ i. absurd (Memᴰ.not-nil i), λ h. h.0)
  filter-member (y ∷ ys) x =
      let rest = filter-member ys x in
      let first = cond_member (f y) (filter f ys) in
      (λ i. down rest.0 (first.0 i), λ h. first.1 (up rest.1 h.1 h.0))
    where
      Passes : List A → Type 0
      Passes xs = Memᴰ x xs × (f x ≡ true)

      down : (Memᴰ x (filter f ys) → Passes ys) → ((x ≡ y) × (f y ≡ true)) ⊎ Memᴰ x (filter f ys) → Passes (y ∷ ys)
      down rest (inl e) = (Memᴰ.head e.0, ap f e.0 ∙ e.1)
      down rest (inr i) = (Memᴰ.tail (rest i).0, (rest i).1)

      up : (Passes ys → Memᴰ x (filter f ys)) → f x ≡ true → Memᴰ x (y ∷ ys) → ((x ≡ y) × (f y ≡ true)) ⊎ Memᴰ x (filter f ys)
      up rest h (Memᴰ.head e) = inl (e, ap f (sym e) ∙ h)
      up rest h (Memᴰ.tail i) = inr (rest (i, h))

pub cons_if_length : {A : Type 0} (o : Option A) (xs : List A) → length (cons_if o xs) ≤ length xs + 1
unfolding cons_if
cons_if_length none xs = omega arith
cons_if_length (some x) xs = omega arith

-- a longer list stays as much longer where an element joins the shorter only if one joins the longer
cond_longer : {A : Type 0} (k : ℕ) (a b : Bool) → (a ≡ true → b ≡ true) → (x : A) (xs ys : List A)
    → k + length xs ≤ length ys → k + length (cond a (x ∷ xs) xs) ≤ length (cond b (x ∷ ys) ys)
cond_longer k true true h x xs ys l = omega arith
cond_longer k true false h x xs ys l = absurd (false≢true (h refl))
cond_longer k false true h x xs ys l = omega arith
cond_longer k false false h x xs ys l = l

-- a test that implies another counts no more; and fewer where an element passes only the other
module _ {A : Type 0} (f g : A → Bool) (implies : (x : A) → f x ≡ true → g x ≡ true) where
  pub filter_implies : (xs : List A) → length (filter f xs) ≤ length (filter g xs)
  unfolding filter
  filter_implies [] = omega arith
  filter_implies (y ∷ ys) =
      let rest = filter_implies ys in
      omega (arith, cond_longer 0 (f y) (g y) (implies y) y (filter f ys) (filter g ys) (omega arith))

  pub filter_fewer : (xs : List A) (x : A) → Memᴰ x xs → f x ≡ false → g x ≡ true → length (filter f xs) < length (filter g xs)
  unfolding filter
  filter_fewer [] x i e h = absurd (Memᴰ.not-nil i)
  filter_fewer (y ∷ ys) x (Memᴰ.head p) e h =
      let more = filter_implies ys in
      rw (← p, e, h) (omega arith)
  filter_fewer (y ∷ ys) x (Memᴰ.tail i) e h =
      let rest = filter_fewer ys x i e h in
      omega (arith, cond_longer 1 (f y) (g y) (implies y) y (filter f ys) (filter g ys) (omega arith))

pub filter_all : {A : Type 0} (xs : List A) → filter (λ (x : A). true) xs ≡ xs
unfolding filter
filter_all [] = refl
filter_all (x ∷ xs) = rw (filter_all xs)

pub filter-append : {A : Type 0} (f : A → Bool) (xs ys : List A) → filter f (xs ++ ys) ≡ filter f xs ++ filter f ys
unfolding filter
filter-append f [] ys = refl
filter-append {A} f (x ∷ xs) ys = go (f x) (filter-append f xs ys)
  where
    go : (b : Bool) → filter f (xs ++ ys) ≡ filter f xs ++ filter f ys
        → cond b (x ∷ filter f (xs ++ ys)) (filter f (xs ++ ys)) ≡ cond b (x ∷ filter f xs) (filter f xs) ++ filter f ys
    go true e = ap (λ (zs : List A). x ∷ zs) e
    go false e = e

module _ {A : Type 0} (f : A → Bool) where
  pub filter-length : (xs : List A) → length (filter f xs) ≤ length xs
  filter-length xs = rw filter_all at (filter_implies f (λ (x : A). true) (λ x e. refl) xs)

  -- an element that fails the test is not counted
  pub filter_shorter : (xs : List A) (x : A) → Memᴰ x xs → f x ≡ false → length (filter f xs) < length xs
  filter_shorter xs x i e = rw filter_all at (filter_fewer f (λ (x : A). true) (λ x e. refl) xs x i e refl)

module _ {A B : Type 0} (f : A → Option B) where
  pub filter_map_member : (xs : List A) (y : B) → Memᴰ y (filter_map f xs) ↔ ((x : A) × Memᴰ x xs × (f x ≡ some y))
  unfolding filter_map
  filter_map_member [] y = (λ i. absurd (Memᴰ.not-nil i), λ h. absurd (Memᴰ.not-nil h.1))
  filter_map_member (z ∷ zs) y =
      let rest = filter_map_member zs y in
      let first = cons_if_member (f z) (filter_map f zs) in
      (λ i. down rest.0 (first.0 i), λ h. first.1 (up rest.1 h.0 h.2 h.1))
    where
      Image : List A → Type 0
      Image xs = (x : A) × Memᴰ x xs × (f x ≡ some y)

      down : (Memᴰ y (filter_map f zs) → Image zs) → (f z ≡ some y) ⊎ Memᴰ y (filter_map f zs) → Image (z ∷ zs)
      down rest (inl e) = (z, Memᴰ.head refl, e)
      down rest (inr i) = let h = rest i in (h.0, Memᴰ.tail h.1, h.2)

      up : (Image zs → Memᴰ y (filter_map f zs)) → (x : A) → f x ≡ some y → Memᴰ x (z ∷ zs)
          → (f z ≡ some y) ⊎ Memᴰ y (filter_map f zs)
      up rest x h (Memᴰ.head e) = inl (ap f (sym e) ∙ h)
      up rest x h (Memᴰ.tail i) = inr (rest (x, i, h))

-- the least element by an order; nothing is before an element that nothing in the list is before
module _ {A : Type 0} (before : A → A → Bool) where
  pub least_by_none : (xs : List A) → least_by before xs ≡ none → xs ≡ []
  unfolding least_by
  least_by_none [] e = refl
  least_by_none (x ∷ xs) e = none-some (sym e)

  pub least_by_member : (xs : List A) (x : A) → least_by before xs ≡ some x → Memᴰ x xs
  unfolding least_by
  least_by_member [] x e = none-some e
  least_by_member (y ∷ ys) x e = go (least_by before ys) refl (least_by_member ys) (some-injective _ _ e)
    where
      pick : (b : Bool) (z : A) → Memᴰ z ys → cond b z y ≡ x → Memᴰ x (y ∷ ys)
      pick true z i p = Memᴰ.tail (Memᴰ.cast (sym p) i)
      pick false z i p = Memᴰ.head (sym p)

      go : (o : Option A) → least_by before ys ≡ o → ((z : A) → least_by before ys ≡ some z → Memᴰ z ys)
          → lesser before y o ≡ x → Memᴰ x (y ∷ ys)
      go none q rest p = Memᴰ.head (sym p)
      go (some z) q rest p = pick (before z y) z (rest z q) p

  pub least_by_least : ((x y z : A) → before x y ≡ false → before y z ≡ false → before x z ≡ false)
      → ((x y : A) → before x y ≡ true → before y x ≡ false) → ((x : A) → before x x ≡ false)
      → (xs : List A) (x : A) → least_by before xs ≡ some x → (y : A) → Memᴰ y xs → before y x ≡ false
  unfolding least_by
  least_by_least trans asym irrefl [] x e y i = none-some e
  least_by_least trans asym irrefl (z ∷ zs) x e y i =
      rw (← some-injective _ _ e) (go (least_by before zs) refl (least_by_least trans asym irrefl zs) (Memᴰ.cases_cons i))
    where
      pick : (w : A) (b : Bool) → before w z ≡ b → ((y : A) → Memᴰ y zs → before y w ≡ false)
          → (y ≡ z) ⊎ Memᴰ y zs → before y (cond b w z) ≡ false
      pick w true q low (inl p) = rw p (asym w z q)
      pick w true q low (inr i) = low y i
      pick w false q low (inl p) = rw p (irrefl z)
      pick w false q low (inr i) = trans y w z (low y i) q

      go : (o : Option A) → least_by before zs ≡ o
          → ((x : A) → least_by before zs ≡ some x → (y : A) → Memᴰ y zs → before y x ≡ false)
          → (y ≡ z) ⊎ Memᴰ y zs → before y (lesser before z o) ≡ false
      go none q low (inl p) = rw p (irrefl z)
      go none q low (inr i) = absurd (Memᴰ.not-nil (rw (least_by_none zs q) at i))
      go (some w) q low m = pick w (before w z) refl (low w q) m

pub least-none : (xs : List ℕ) → least xs ≡ none → (x : ℕ) → Memᴰ x xs → ⊥
least-none xs e x i = Memᴰ.not-nil (rw (least_by_none ltb xs e) at i)

pub least-some : (xs : List ℕ) (x : ℕ) → least xs ≡ some x → Memᴰ x xs × ((y : ℕ) → Memᴰ y xs → x ≤ y)
least-some xs x e = (least_by_member ltb xs x e, λ y i. ltb-false y x (least_by_least ltb trans asym irrefl xs x e y i))
  where
    trans : (a b c : ℕ) → ltb a b ≡ false → ltb b c ≡ false → ltb a c ≡ false
    trans a b c h k = le-ltb a c (omega (arith, ltb-false a b h, ltb-false b c k))

    asym : (a b : ℕ) → ltb a b ≡ true → ltb b a ≡ false
    asym a b h = le-ltb b a (omega (arith, ltb-true a b h))

    irrefl : (a : ℕ) → ltb a a ≡ false
    irrefl a = le-ltb a a (omega arith)

pub member_true : (x : ℕ) (xs : List ℕ) → (member x xs ≡ true) ↔ Memᴰ x xs
unfolding member
member_true x xs = (equal, go (any (eqb x) xs) refl)
  where
    equal : any (eqb x) xs ≡ true → Memᴰ x xs
    equal e = let found = any_true (eqb x) xs e in Memᴰ.cast (eqb-true x found.0 found.2) found.1

    go : (b : Bool) → any (eqb x) xs ≡ b → Memᴰ x xs → b ≡ true
    go true e i = refl
    go false e i = absurd (eqb-false x x (any_false (eqb x) xs e x i) refl)

-- a list that no element passes the test of, at each position
pub any_false_at : {A : Type 0} (f : A → Bool) (d : A) (xs : List A) → any f xs ≡ false → (i : ℕ) → i < length xs → f (get_or xs i d) ≡ false
unfolding any
any_false_at f d [] e i h = absurd (omega arith)
any_false_at f d (x ∷ xs) e zero h = (neither (f x) (any f xs) e).0
any_false_at f d (x ∷ xs) e (suc i) h = any_false_at f d xs (neither (f x) (any f xs) e).1 i (omega arith)

pub any_none_at : {A : Type 0} (f : A → Bool) (d : A) (xs : List A) → ((i : ℕ) → i < length xs → f (get_or xs i d) ≡ false) → any f xs ≡ false
unfolding any
any_none_at f d [] fails = refl
any_none_at f d (x ∷ xs) fails = rw (fails 0 (omega arith)) (any_none_at f d xs (λ i h. fails (suc i) (omega arith)))

pub not_true_false : (b : Bool) → (b ≡ true → ⊥) → b ≡ false
not_true_false true h = absurd (h refl)
not_true_false false h = refl

-- a member stands somewhere, and what stands somewhere is a member
module _ {A B : Type 0} (f : A → B) (d : A) where
  pub member-at : (xs : List A) (y : B) → Memᴰ y (map f xs) → (i : ℕ) × (i < length xs) × (y ≡ f (get_or xs i d))
  member-at [] y m = absurd (Memᴰ.not-nil m)
  member-at (x ∷ xs) y (Memᴰ.head e) = (0, omega arith, e)
  member-at (x ∷ xs) y (Memᴰ.tail m) = let r = member-at xs y m in (suc r.0, omega (arith, r.1), r.2)

  pub at-member : (xs : List A) (i : ℕ) → i < length xs → Memᴰ (f (get_or xs i d)) (map f xs)
  at-member [] i h = absurd (omega arith)
  at-member (x ∷ xs) zero h = Memᴰ.head refl
  at-member (x ∷ xs) (suc i) h = Memᴰ.tail (at-member xs i (omega arith))

pub below-member : (n g : ℕ) → Memᴰ g (below n) ↔ (g < n)
unfolding below
below-member zero g = (λ i. absurd (Memᴰ.not-nil i), λ l. absurd (omega arith))
below-member (suc n) g = (down (below-member n g).0, up (below-member n g).1 (ℕ_discrete g n))
  where
    down : (Memᴰ g (below n) → g < n) → Memᴰ g (below n ++ (n ∷ [])) → g < suc n
    down rest i =
        ⊎_elim (λ m. omega (arith, rest m)) (λ m. omega (arith, Memᴰ.eq_of_singleton m)) (Memᴰ.append_cases (below n) i)

    up : (g < n → Memᴰ g (below n)) → Dec (g ≡ n) → g < suc n → Memᴰ g (below n ++ (n ∷ []))
    up rest (yes e) l = Memᴰ.append_right (below n) (Memᴰ.head e)
    up rest (no e) l = Memᴰ.append_left (n ∷ []) (rest (omega arith))

-- numbers that do not repeat and that all stand in a list are at most as many as the list has
pub different_among : (xs ys : List ℕ) → repeats xs ≡ false → ((x : ℕ) → Memᴰ x xs → Memᴰ x ys) → length xs ≤ length ys
unfolding repeats member
different_among [] ys e h = omega arith
different_among (x ∷ xs) ys e h =
    let (new, rest) = neither (member x xs) (repeats xs) e in
    let other : ℕ → Bool = λ y. not (eqb x y) in
    let shorter = filter_shorter other ys x (h x (Memᴰ.head refl)) (ap not (eq-eqb x x refl)) in
    let among : (y : ℕ) → Memᴰ y xs → Memᴰ y (filter other ys) =
    λ y i. (filter-member other ys y).1 (h y (Memᴰ.tail i), ap not (any_false (eqb x) xs new y i)) in
    omega (arith, different_among xs (filter other ys) rest among)

pub below_length : (n : ℕ) → length (below n) ≡ n
unfolding below
below_length zero = refl
below_length (suc n) = omega (arith, length-append (below n) (n ∷ []), below_length n)

-- one more element of a run is put, where i is its place by the code's sum
pub one_more : (area : List ℕ) (from : ℕ) (new : List ℕ) (n : ℕ) {i : ℕ} {now : List ℕ} → i ≡ from + n → i < length area → n < length new
    → now ≡ paste area from new n → set now i (get_or new n 0) ≡ paste area from new (n + 1)
one_more area from new n at inside more are = rw (at, are, add-one n) (paste-suc area from new n 0 (omega arith) more)

-- lists have the same numbers exactly where they are the same list
pub same_numbers_lem : (xs ys : List ℕ) → (same_numbers xs ys ≡ true) ↔ (xs ≡ ys)
unfolding same_numbers
same_numbers_lem xs ys = (equal xs ys, λ e. rw (← e) (own xs))
  where
    own : (xs : List ℕ) → same_numbers xs xs ≡ true
    own [] = refl
    own (x ∷ xs) = rw (eq-eqb x x refl) (own xs)

    equal : (xs ys : List ℕ) → same_numbers xs ys ≡ true → xs ≡ ys
    equal [] [] e = refl
    equal [] (y ∷ ys) e = absurd (false≢true e)
    equal (x ∷ xs) [] e = absurd (false≢true e)
    equal (x ∷ xs) (y ∷ ys) e =
        let (first, rest) = both (eqb x y) (same_numbers xs ys) e in
        ap₂ {C = List ℕ} ◌∷◌ (eqb-true x y first) (equal xs ys rest)
