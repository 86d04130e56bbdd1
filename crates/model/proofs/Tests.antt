-- Tests and choices of lists put together or with one element more, and flags kept over a list. Assumes nothing.
use mathlib.Core.Path.{◌≡◌, refl, ap, ap₂, sym, ◌∙◌}
use mathlib.Core.Bool.{Bool, true, false, ◌||◌, or-false, or_assoc}
use mathlib.Core.List.{List, [], ◌∷◌, ◌++◌, foldl, Memᴰ}
use mathlib.Core.Option.{Option, none, some}
use Prim.Native.Nat.{ℕ, ◌≤◌}
use native.Mathlib.Omega.{arith}
use lib.Dec.{eqb}
use lib.ListN.{length}
use borrow.Author.Tests.{eqb-true, eqb-false, eq-eqb, ne_eqb}
use Rattle.model.specs.Lists.{any, cons_if, filter_map, member, repeats}
use Rattle.model.proofs.Lists.{cons_if_length}

-- a flag that each element may set is set where some element sets it
module _ {A S : Type 0} (step : S → A → S) (flag : S → Bool) (sets : A → Bool)
    (each : (s : S) (x : A) → flag (step s x) ≡ (flag s || sets x)) where
  pub some-sets : (s : S) (xs : List A) → flag (foldl step s xs) ≡ (flag s || any sets xs)
  unfolding any
  some-sets s [] = sym (or-false (flag s))
  some-sets s (x ∷ xs) = some-sets (step s x) xs ∙ ap (λ (t : Bool). t || any sets xs) (each s x) ∙ or_assoc (flag s) (sets x) (any sets xs)

pub any_same : {A : Type 0} (f g : A → Bool) (xs : List A) → ((x : A) → Memᴰ x xs → f x ≡ g x) → any f xs ≡ any g xs
unfolding any
any_same f g [] h = refl
any_same f g (x ∷ xs) h = ap₂ (λ (a b : Bool). a || b) (h x (Memᴰ.head refl)) (any_same f g xs λ y i. h y (Memᴰ.tail i))

pub any_append : {A : Type 0} (f : A → Bool) (xs ys : List A) → any f (xs ++ ys) ≡ (any f xs || any f ys)
unfolding any
any_append f [] ys = refl
any_append f (x ∷ xs) ys = ap (λ (t : Bool). f x || t) (any_append f xs ys) ∙ sym (or_assoc (f x) (any f xs) (any f ys))

module _ {A B : Type 0} (f : A → Option B) where
  pub filter_map_append : (xs ys : List A) → filter_map f (xs ++ ys) ≡ filter_map f xs ++ filter_map f ys
  unfolding filter_map cons_if
  filter_map_append [] ys = refl
  filter_map_append (x ∷ xs) ys = go (f x) (filter_map_append xs ys)
    where
      go : (o : Option B) → filter_map f (xs ++ ys) ≡ filter_map f xs ++ filter_map f ys
          → cons_if o (filter_map f (xs ++ ys)) ≡ cons_if o (filter_map f xs) ++ filter_map f ys
      go none e = e
      go (some y) e = ap {B = List B} (λ (l : List B). y ∷ l) e

  -- a test of what f gives
  pub any_filter_map_append : (g : B → Bool) (xs ys : List A)
      → any g (filter_map f (xs ++ ys)) ≡ (any g (filter_map f xs) || any g (filter_map f ys))
  any_filter_map_append g xs ys = ap (any g) (filter_map_append xs ys) ∙ any_append g (filter_map f xs) (filter_map f ys)

  pub filter_map_length : (xs : List A) → length (filter_map f xs) ≤ length xs
  unfolding filter_map
  filter_map_length [] = omega arith
  filter_map_length (x ∷ xs) = omega (arith, filter_map_length xs, cons_if_length (f x) (filter_map f xs))

-- two by two
pub or_swap : (a b c d : Bool) → ((a || b) || (c || d)) ≡ ((a || c) || (b || d))
or_swap true b c d = refl
or_swap false true true d = refl
or_swap false true false d = refl
or_swap false false c d = refl

pub eqb_comm : (a b : ℕ) → eqb a b ≡ eqb b a
eqb_comm a b = go (eqb a b) refl
  where
    go : (t : Bool) → eqb a b ≡ t → t ≡ eqb b a
    go true e = sym (eq-eqb b a (sym (eqb-true a b e)))
    go false e = sym (ne_eqb b a λ p. eqb-false a b e (sym p))

pub repeats_snoc : (xs : List ℕ) (x : ℕ) → repeats (xs ++ (x ∷ [])) ≡ (repeats xs || member x xs)
unfolding repeats member any
repeats_snoc [] x = refl
repeats_snoc (y ∷ ys) x =
    ap₂ (λ (a b : Bool). a || b) (any_append (eqb y) ys (x ∷ [])) (repeats_snoc ys x)
    ∙ rw (or-false (eqb y x), eqb_comm y x) (or_swap (any (eqb y) ys) (eqb x y) (repeats ys) (any (eqb x) ys))

-- no element passes a test that none of them passes
pub any_none : {A : Type 0} (f : A → Bool) (xs : List A) → ((x : A) → Memᴰ x xs → f x ≡ false) → any f xs ≡ false
unfolding any
any_none f [] fails = refl
any_none f (x ∷ xs) fails = rw (fails x (Memᴰ.head refl)) (any_none f xs (λ y i. fails y (Memᴰ.tail i)))

pub or_none : (a b : Bool) → a ≡ false → b ≡ false → a || b ≡ false
or_none a b p q = rw (p, q)
