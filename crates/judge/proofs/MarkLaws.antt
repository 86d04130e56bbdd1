-- Marks of places: the first number for a place marks it, so that a second one meets a mark. Assumes nothing.
use mathlib.Core.Path.{◌≡◌, refl, ap, sym, ◌∙◌}
use mathlib.Core.Bool.{Bool, true, false, cond, not, ◌&&◌, ◌||◌, true≢false, false≢true}
use mathlib.Core.List.{List, [], ◌∷◌, ◌++◌}
use Prim.Native.Nat.{ℕ, zero, suc, ◌≤◌, ◌<◌}
use native.Mathlib.Omega.{arith}
use lib.Dec.{ltb, eqb}
use lib.ListN.{length, get_or, set, replicate, length-set}
use lib.Seq.{get_or-set_same, get_or-set_other}
use borrow.Author.Tests.{ltb-true, eqb-true, eqb-false, ne_eqb, lt-ltb}
use Rattle.judge.specs.Marks.{mark_of, first_mark, marked, marked_by, Clear}
use Rattle.model.proofs.Tests.{eqb_comm}
use Rattle.model.specs.Items.{PlaceValue}
use Rattle.model.specs.Limits.{max_places}
use Rattle.model.specs.Lists.{any, member}
use Rattle.model.specs.Refusals.{places_in}
use Rattle.model.specs.Stated.{lookup}

-- zeros are marks of no place
pub zeros_clear : Clear (replicate max_places 0)
zeros_clear = record { room = refl; zero = zeros max_places }
  where
    zeros : (n v : ℕ) → ◌≡◌ {A = ℕ} (get_or (replicate n 0) v 0) 0
    zeros zero v = refl
    zeros (suc n) zero = refl
    zeros (suc n) (suc v) = zeros n v

-- a mark that is never 0
abbrev pub Positive : (ℕ → ℕ) → Type 0
Positive mark = (x : ℕ) → eqb (mark x) 0 ≡ false

pub mark_positive : Positive mark_of
unfolding mark_of
mark_positive x = go (eqb x 0)
  where
    go : (t : Bool) → eqb (cond t 1 2) 0 ≡ false
    go true = refl
    go false = refl

-- a place has the mark 2 where its estimate is above 0
pub mark_two : (es : List PlaceValue) (v : ℕ) → eqb (first_mark mark_of es v) 2 ≡ not (eqb (lookup 0 es v) 0)
unfolding first_mark lookup mark_of
mark_two [] v = refl
mark_two (e ∷ es) v = go (eqb e.place v) (mark_two es v)
  where
    is_two : (t : Bool) → eqb (cond t 1 2) 2 ≡ not t
    is_two true = refl
    is_two false = refl

    go : (t : Bool) → eqb (first_mark mark_of es v) 2 ≡ not (eqb (lookup 0 es v) 0)
        → eqb (cond t (cond (eqb e.value 0) 1 2) (first_mark mark_of es v)) 2 ≡ not (eqb (cond t e.value (lookup 0 es v)) 0)
    go true h = is_two (eqb e.value 0)
    go false h = h

-- a number is set at a place that has none
pub first-set : (m : List ℕ) (place new : ℕ) → place < length m → (v : ℕ)
    → get_or (cond (eqb (get_or m place 0) 0) (set m place new) m) v 0 ≡ cond (eqb place v && eqb (get_or m v 0) 0) new (get_or m v 0)
first-set m place new room v = go (eqb place v) refl
  where
    here : (t : Bool) → get_or (cond t (set m place new) m) place 0 ≡ cond t new (get_or m place 0)
    here true = get_or-set_same m place new 0 room
    here false = refl

    elsewhere : (t : Bool) → (v ≡ place → ⊥) → get_or (cond t (set m place new) m) v 0 ≡ get_or m v 0
    elsewhere true d = get_or-set_other m place v new 0 d
    elsewhere false d = refl

    go : (t : Bool) → eqb place v ≡ t
        → get_or (cond (eqb (get_or m place 0) 0) (set m place new) m) v 0 ≡ cond (t && eqb (get_or m v 0) 0) new (get_or m v 0)
    go true e = rw (← eqb-true place v e) (here (eqb (get_or m place 0) 0))
    go false e = elsewhere (eqb (get_or m place 0) 0) (λ is. eqb-false place v e (sym is))

pub set-length : (t : Bool) (m : List ℕ) (place new : ℕ) → length (cond t (set m place new) m) ≡ length m
set-length true m place new = length-set m place new
set-length false m place new = refl

module _ (mark : ℕ → ℕ) where
  pub marked-length : (n : ℕ) (m : List ℕ) (place value : ℕ) → length (marked_by mark n m place value) ≡ length m
  unfolding marked_by
  marked-length n m place value = set-length (ltb place n && eqb (get_or m place 0) 0) m place (mark value)

  module _ (positive : Positive mark) where
    -- a place has a mark where a number is for it
    pub mark_member : (xs : List PlaceValue) (v : ℕ) → not (eqb (first_mark mark xs v) 0) ≡ member v (places_in xs)
    unfolding first_mark member any
    mark_member [] v = refl
    mark_member (x ∷ xs) v = rw (eqb_comm v x.place) (go (eqb x.place v) (mark_member xs v))
      where
        go : (t : Bool) → not (eqb (first_mark mark xs v) 0) ≡ member v (places_in xs)
            → not (eqb (cond t (mark x.value) (first_mark mark xs v)) 0) ≡ (t || any (eqb v) (places_in xs))
        go true h = rw (positive x.value)
        go false h = h

    -- one number more marks its place, if no other has
    pub mark_snoc : (xs : List PlaceValue) (x : PlaceValue) (v : ℕ)
        → first_mark mark (xs ++ (x ∷ [])) v ≡ cond (eqb x.place v && eqb (first_mark mark xs v) 0) (mark x.value) (first_mark mark xs v)
    unfolding first_mark
    mark_snoc [] x v = go (eqb x.place v)
      where
        go : (t : Bool) → cond t (mark x.value) 0 ≡ cond (t && true) (mark x.value) 0
        go true = refl
        go false = refl
    mark_snoc (y ∷ xs) x v = go (eqb y.place v) (mark_snoc xs x v)
      where
        kept : (t : Bool) → mark y.value ≡ cond (t && eqb (mark y.value) 0) (mark x.value) (mark y.value)
        kept true = rw (positive y.value)
        kept false = refl

        marked_first : ℕ → ℕ
        marked_first k = cond (eqb x.place v && eqb k 0) (mark x.value) k

        go : (t : Bool) → first_mark mark (xs ++ (x ∷ [])) v ≡ marked_first (first_mark mark xs v)
            → cond t (mark y.value) (first_mark mark (xs ++ (x ∷ [])) v) ≡ marked_first (cond t (mark y.value) (first_mark mark xs v))
        go true h = kept (eqb x.place v)
        go false h = h

    -- marks are those of the numbers, for the map's places
    module _ (n : ℕ) (xs : List PlaceValue) (m : List ℕ) (marks : (v : ℕ) → get_or m v 0 ≡ cond (ltb v n) (first_mark mark xs v) 0) where
      pub marked-member : (v : ℕ) → v < n → marked n m v ≡ member v (places_in xs)
      unfolding marked
      marked-member v h = rw (marks v, lt-ltb v n h) (mark_member xs v)

      pub marked_after : n ≤ length m → (x : PlaceValue) (v : ℕ)
          → get_or (marked_by mark n m x.place x.value) v 0 ≡ cond (ltb v n) (first_mark mark (xs ++ (x ∷ [])) v) 0
      unfolding marked_by
      marked_after room x v = rw (mark_snoc xs x v) (go (ltb x.place n) (ltb v n) refl refl)
        where
          new : ℕ
          new = mark x.value

          first : ℕ
          first = first_mark mark xs v

          apart : {s t : Bool} → ltb x.place n ≡ s → ltb v n ≡ t → (s ≡ t → ⊥) → eqb x.place v ≡ false
          apart p e differ = ne_eqb x.place v λ is. differ (sym p ∙ ap (λ (k : ℕ). ltb k n) is ∙ e)

          go : (inside t : Bool) → ltb x.place n ≡ inside → ltb v n ≡ t
              → get_or (cond (inside && eqb (get_or m x.place 0) 0) (set m x.place new) m) v 0
              ≡ cond t (cond (eqb x.place v && eqb first 0) new first) 0
          go true true p e = first-set m x.place new (omega (arith, ltb-true x.place n p)) v ∙ rw (marks v, e)
          go true false p e =
              first-set m x.place new (omega (arith, ltb-true x.place n p)) v ∙ rw (apart p e true≢false) (marks v ∙ rw e)
          go false true p e = rw (apart p e false≢true) (marks v ∙ rw e)
          go false false p e = marks v ∙ rw e
