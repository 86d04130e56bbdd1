-- Tests of lists, told by the elements at their indices. Assumes nothing.
use mathlib.Core.Path.{◌≡◌, refl}
use mathlib.Core.Bool.{Bool, false}
use mathlib.Core.List.{List, [], ◌∷◌}
use Prim.Native.Nat.{ℕ, zero, suc, ◌<◌}
use native.Mathlib.Omega.{arith}
use lib.Dec.{eqb}
use lib.ListN.{length, get_or}
use borrow.Author.Tests.{eqb-false, ne_eqb}
use Rattle.model.specs.Lists.{any, member, repeats}
use Rattle.model.proofs.Lists.{neither}

-- a test passes no element exactly when it passes the element at no index
pub any_nowhere : (f : ℕ → Bool) (xs : List ℕ) → any f xs ≡ false → (i : ℕ) → i < length xs → f (get_or xs i 0) ≡ false
unfolding any
any_nowhere f [] e i l = absurd (omega arith)
any_nowhere f (x ∷ xs) e zero l = (neither (f x) (any f xs) e).0
any_nowhere f (x ∷ xs) e (suc i) l = any_nowhere f xs (neither (f x) (any f xs) e).1 i (omega arith)

pub nowhere_any : (f : ℕ → Bool) (xs : List ℕ) → ((i : ℕ) → i < length xs → f (get_or xs i 0) ≡ false) → any f xs ≡ false
unfolding any
nowhere_any f [] h = refl
nowhere_any f (x ∷ xs) h = rw (h 0 (omega arith)) (nowhere_any f xs (λ i l. h (suc i) (omega arith)))

-- elements at different indices differ
abbrev pub Different : List ℕ → Type 0
Different xs = (i j : ℕ) → i < j → j < length xs → get_or xs i 0 ≡ get_or xs j 0 → ⊥

pub repeats_different : (xs : List ℕ) → repeats xs ≡ false → Different xs
unfolding repeats member
repeats_different [] e i j l m q = omega arith
repeats_different (x ∷ xs) e i zero l m q = omega arith
repeats_different (x ∷ xs) e zero (suc j) l m q =
    eqb-false x (get_or xs j 0) (any_nowhere (eqb x) xs (neither (member x xs) (repeats xs) e).0 j (omega arith)) q
repeats_different (x ∷ xs) e (suc i) (suc j) l m q =
    repeats_different xs (neither (member x xs) (repeats xs) e).1 i j (omega arith) (omega arith) q

pub different_repeats : (xs : List ℕ) → Different xs → repeats xs ≡ false
unfolding repeats member
different_repeats [] h = refl
different_repeats (x ∷ xs) h =
    let new : any (eqb x) xs ≡ false = nowhere_any (eqb x) xs (λ i l. ne_eqb x (get_or xs i 0) (h 0 (suc i) (omega arith) (omega arith))) in
    rw new (different_repeats xs (λ i j l m. h (suc i) (suc j) (omega arith) (omega arith)))

-- an element that is there is the same under any default
pub get_d_default : (xs : List ℕ) (i d e : ℕ) → i < length xs → get_or xs i d ≡ get_or xs i e
get_d_default [] i d e h = absurd (omega arith)
get_d_default (x ∷ xs) zero d e h = refl
get_d_default (x ∷ xs) (suc i) d e h = get_d_default xs i d e (omega arith)
