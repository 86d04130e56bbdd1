-- What the pass over the goals notes of all of them. Assumes nothing.
use mathlib.Core.Path.{◌≡◌, refl, ap, ap₂, sym, ◌∙◌}
use mathlib.Core.Bool.{Bool, true, false, not, ◌&&◌, ◌||◌, or-false, or_assoc}
use mathlib.Core.List.{List, [], ◌∷◌, foldl}
use Prim.Native.Nat.{ℕ, zero, suc, ◌+◌, ◌-◌, ◌<◌}
use native.Mathlib.Omega.{arith}
use lib.Dec.{ltb, leb}
use borrow.Author.Tests.{ltb-true, ltb-false, lt-ltb, le-ltb}
use Rattle.judge.specs.declared.goals.Goals.{Goals}
use Rattle.judge.specs.Goals.{estimated_at, note, nothing, GoalsWalked, Checked}
use Rattle.model.proofs.Tests.{some-sets}
use Rattle.model.specs.Bytes.{u16, u16s}
use Rattle.model.specs.Lists.{rises}

-- a goal is below the least that may stand there
unfoldable falls_from : ℕ → List ℕ → Bool
falls_from low [] = false
falls_from low (x ∷ xs) = ltb x low || falls_from (x + 1) xs

falls_noted : (n : ℕ) (m : List ℕ) (s : Goals) (gs : List ℕ) → (foldl (note n m) s gs).falls ≡ (s.falls || falls_from s.next gs)
unfolding note falls_from
falls_noted n m s [] = sym (or-false s.falls)
falls_noted n m s (g ∷ gs) = falls_noted n m (note n m s g) gs ∙ or_assoc s.falls (ltb g s.next) (falls_from (g + 1) gs)

not_above : (x y : ℕ) (t : Bool) → ltb x y ≡ t → ltb y (x + 1) ≡ not t
not_above x y true e = let h = ltb-true x y e in le-ltb y (x + 1) (omega arith)
not_above x y false e = let h = ltb-false x y e in lt-ltb y (x + 1) (omega arith)

falls_after : (x : ℕ) (ys : List ℕ) → falls_from (x + 1) ys ≡ not (rises (x ∷ ys))
unfolding falls_from rises
falls_after x [] = refl
falls_after x (y ∷ ys) =
    ap₂ (λ (a b : Bool). a || b) (not_above x y (ltb x y) refl) (falls_after y ys) ∙ either (ltb x y) (rises (y ∷ ys))
  where
    either : (a b : Bool) → (not a || not b) ≡ not (a && b)
    either true b = refl
    either false b = refl

falls_rises : (gs : List ℕ) → falls_from 0 gs ≡ not (rises gs)
unfolding falls_from rises
falls_rises [] = refl
falls_rises (g ∷ gs) = let low = le-ltb g 0 (omega arith) in rw low (falls_after g gs)

u16s_cons : (k : ℕ) (b : List ℕ) (i : ℕ) → 0 < k → u16s k b i ≡ u16 b i ∷ u16s (k - 1) b (i + 2)
unfolding u16s
u16s_cons zero b i h = absurd (omega arith)
u16s_cons (suc k) b i h = let back : suc k - 1 ≡ k = omega arith in rw back

module _ (input goals : List ℕ) (n : ℕ) (marks : List ℕ) where
  pub walk_again : (at left : ℕ) (s t : Goals) → GoalsWalked input goals n marks at left s → 0 < left → t ≡ note n marks s (u16 input at)
      → GoalsWalked input goals n marks (at + 2) (left - 1) t
  walk_again at left s t w h e =
      let more = w.inside in
      record {
        inside = omega arith;
        noted = ap (λ (x : Goals). foldl (note n marks) x (u16s (left - 1) input (at + 2))) e
            ∙ sym (ap (foldl (note n marks) s) (u16s_cons left input at h))
            ∙ w.noted;
      }

  pub walk_checked : (at left : ℕ) (s : Goals) → GoalsWalked input goals n marks at left s → left ≡ 0 → Checked goals n marks s
  unfolding u16s note
  walk_checked at left s w e =
      let all : s ≡ foldl (note n marks) nothing goals = sym (ap (λ (k : ℕ). foldl (note n marks) s (u16s k input at)) e) ∙ w.noted in
      record {
        outside = ap (λ (x : Goals). x.outside) all ∙ some-sets (note n marks) (λ x. x.outside) (leb n) (λ x g. refl) nothing goals;
        falls = ap (λ (x : Goals). x.falls) all ∙ falls_noted n marks nothing goals ∙ falls_rises goals;
        estimated = ap (λ (x : Goals). x.estimated) all
            ∙ some-sets (note n marks) (λ x. x.estimated) (estimated_at n marks) (λ x g. refl) nothing goals;
      }
