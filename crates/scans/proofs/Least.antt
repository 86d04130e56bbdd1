-- The least of what a function gives of the elements of a list, kept in a word as the elements are passed. Assumes nothing.
use mathlib.Core.Path.{◌≡◌, refl, sym, ◌∙◌}
use mathlib.Core.Logic.{◌⊎◌, inl, inr}
use mathlib.Core.Bool.{Bool, true, false, cond}
use mathlib.Core.List.Memᴰ
use mathlib.Core.List.{List, [], ◌∷◌, ◌++◌, map, append-nil, Memᴰ}
use mathlib.Core.Option.{Option, none, some}
use Prim.Native.Nat.{ℕ, ◌≤◌, ◌<◌}
use native.Mathlib.Decide.{ℕ_discrete, dec_lt}
use native.Mathlib.Omega.{arith}
use lib.Dec.{ltb}
use borrow.Author.Tests.{lt-ltb, le-ltb}
use Rattle.model.specs.Lists.{cons_if, filter_map, least, least_by, lesser}
use Rattle.model.proofs.Same.{same_least}
use Rattle.model.proofs.Tests.{filter_map_append}
use Rattle.layout.specs.Labels.{no_word, word_or}
use Rattle.layout.proofs.Labels.{word_or-none, word_or-some, word_or-is}

pub lesser_below : (r u : ℕ) (o : Option ℕ) → ((y : ℕ) → o ≡ some y → y ≤ u) → ((y : ℕ) → word_or r ≡ some y → y ≤ u)
    → (y : ℕ) → word_or (lesser ltb r o) ≡ some y → y ≤ u
unfolding lesser
lesser_below r u none h k y e = k y e
lesser_below r u (some z) h k y e = go (ltb z r) e
  where
    go : (b : Bool) → word_or (cond b z r) ≡ some y → y ≤ u
    go true e = omega (arith, (word_or-is z y e).0, h z refl)
    go false e = k y e

module _ {A : Type 0} (f : A → Option ℕ) where
  -- elements of which f gives nothing add nothing
  pub filter_map_nothing : {B : Type 0} (g : B → A) → ((y : B) → f (g y) ≡ none) → (xs : List A) (ys : List B)
      → filter_map f (xs ++ map g ys) ≡ filter_map f xs
  unfolding filter_map cons_if
  filter_map_nothing {B} g h xs ys = filter_map_append f xs (map g ys) ∙ rw (nothing ys) (append-nil (filter_map f xs))
    where
      nothing : (ys : List B) → filter_map f (map g ys) ≡ []
      nothing [] = refl
      nothing (y ∷ ys) = rw (h y) (nothing ys)

least_snoc : (xs : List ℕ) (x : ℕ) → least (xs ++ (x ∷ [])) ≡ some (lesser ltb x (least xs))
unfolding least_by
least_snoc xs x = same_least (xs ++ (x ∷ [])) (x ∷ xs) to from
  where
    to : (y : ℕ) → Memᴰ y (xs ++ (x ∷ [])) → Memᴰ y (x ∷ xs)
    to y i = go (Memᴰ.append_cases xs i)
      where
        go : Memᴰ y xs ⊎ Memᴰ y (x ∷ []) → Memᴰ y (x ∷ xs)
        go (inl j) = Memᴰ.tail j
        go (inr j) = Memᴰ.head (Memᴰ.eq_of_singleton j)

    from : (y : ℕ) → Memᴰ y (x ∷ xs) → Memᴰ y (xs ++ (x ∷ []))
    from y (Memᴰ.head e) = Memᴰ.append_right xs (Memᴰ.head e)
    from y (Memᴰ.tail i) = Memᴰ.append_left (x ∷ []) i

-- the lesser of a word and a number that is not the largest word
word_snoc : (r x : ℕ) (xs : List ℕ) → x < no_word → word_or r ≡ least xs → word_or (lesser ltb r (some x)) ≡ least (xs ++ (x ∷ []))
unfolding lesser
word_snoc r x xs l e = go (ℕ_discrete r no_word) ∙ sym (least_snoc xs x)
  where
    by : word_or r ≡ some r → (r ≡ no_word → ⊥) → Dec (x < r) → word_or (lesser ltb r (some x)) ≡ some (lesser ltb x (some r))
    by h k (yes q) = rw (lt-ltb x r q, le-ltb r x (omega arith)) (word_or-some x (λ p. omega arith))
    by h k (no q) = go (dec_lt r x)
      where
        go : Dec (r < x) → word_or (lesser ltb r (some x)) ≡ some (lesser ltb x (some r))
        go (yes g) = rw (le-ltb x r (omega arith), lt-ltb r x g) h
        go (no g) = let same : x ≡ r = omega arith in rw (le-ltb x r (omega arith), le-ltb r x (omega arith), same) h

    go : Dec (r ≡ no_word) → word_or (lesser ltb r (some x)) ≡ some (lesser ltb x (least xs))
    go (yes p) =
        let nothing : least xs ≡ none = sym e ∙ word_or-none r p in
        rw (nothing, p, lt-ltb x no_word l) (word_or-some x (λ q. omega arith))
    go (no p) =
        let found : least xs ≡ some r = sym e ∙ word_or-some r p in
        rw found (by (word_or-some r p) p (dec_lt x r))

-- one element more
pub word_step : {A : Type 0} (f : A → Option ℕ) (xs : List A) (a : A) (r : ℕ) → ((x : ℕ) → f a ≡ some x → x < no_word)
    → word_or r ≡ least (filter_map f xs) → word_or (lesser ltb r (f a)) ≡ least (filter_map f (xs ++ (a ∷ [])))
unfolding filter_map cons_if lesser
word_step f xs a r h e = rw (filter_map_append f xs (a ∷ [])) (go (f a) h)
  where
    go : (o : Option ℕ) → ((x : ℕ) → o ≡ some x → x < no_word) → word_or (lesser ltb r o) ≡ least (filter_map f xs ++ cons_if o [])
    go none h = rw append-nil e
    go (some x) h = word_snoc r x (filter_map f xs) (h x refl) e
