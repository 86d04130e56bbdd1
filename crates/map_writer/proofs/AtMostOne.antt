-- One thing, or none where a test holds: what is written of a table and of a default, unless it says what holds without a record. Assumes nothing.
use mathlib.Core.Path.{◌≡◌, refl, sym}
use mathlib.Core.Bool.{Bool, true, false, cond}
use mathlib.Core.List.Memᴰ
use mathlib.Core.List.{List, [], ◌∷◌, flat_map, head_d, append-nil, Memᴰ}
use Prim.Native.Nat.{ℕ, ◌≤◌}
use native.Mathlib.Omega.{arith}
use lib.ListN.{length}

abbrev pub one_unless : {A : Type 0} → Bool → A → List A
one_unless t x = cond t [] (x ∷ [])

module _ {A : Type 0} (x : A) where
  pub unless_few : (t : Bool) → length (one_unless t x) ≤ 1
  unless_few true = omega arith
  unless_few false = omega arith

  pub unless_member : (t : Bool) (y : A) → Memᴰ y (one_unless t x) → y ≡ x
  unless_member true y i = absurd (Memᴰ.not-nil i)
  unless_member false y i = Memᴰ.eq_of_singleton i

  pub unless_put : (put : A → List ℕ) (t : Bool) → flat_map put (one_unless t x) ≡ cond t [] (put x)
  unfolding flat_map
  unless_put put true = refl
  unless_put put false = append-nil (put x)

  -- where none says d, it says x
  pub unless_first : (d : A) (t : Bool) → (t ≡ true → x ≡ d) → head_d (one_unless t x) d ≡ x
  unfolding head_d
  unless_first d true is = sym (is refl)
  unless_first d false is = refl

-- what the first of some records says, or d where there is none, is written only where there is one
pub unless_recorded : {A : Type 0} (test : A → Bool) (d : A) → test d ≡ true → (xs : List A)
    → length (one_unless (test (head_d xs d)) (head_d xs d)) ≤ length xs
unfolding head_d
unless_recorded test d holds [] = rw holds (omega arith)
unless_recorded test d holds (x ∷ xs) = omega (arith, unless_few x (test x))
