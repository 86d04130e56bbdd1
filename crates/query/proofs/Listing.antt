-- The list of expanded places: what else the places listed are, and one place more. Assumes nothing.
use mathlib.Core.Path.{◌≡◌, sym, ◌∙◌}
use mathlib.Core.Logic.{⊎_elim}
use mathlib.Core.Bool.{Bool, true}
use mathlib.Core.List.{List}
use Prim.Native.Nat.{ℕ, ◌+◌, ◌<◌}
use native.Mathlib.Omega.{arith}
use native.Mathlib.Decide.{ℕ_discrete}
use Rattle.layout.specs.Labels.{listed_at, Lists}
use Rattle.query.specs.Front.{also}
use Rattle.query.proofs.Settling.{also_true, also_same}

-- where P and Q hold of the same places
pub lists_same : {n count : ℕ} {P Q : ℕ → Type 0} {w : List ℕ} → ((v : ℕ) → P v → Q v) → ((v : ℕ) → Q v → P v)
    → Lists n count P w → Lists n count Q w
lists_same to from l = record { few = l.few; each = λ i h. to _ (l.each i h); all = λ v q. l.all v (from v q) }

-- v is settled besides, and listed after the others
pub lists_also : (n count v : ℕ) (settled : ℕ → Bool) (w₀ w : List ℕ) → count < n → listed_at n w count ≡ v
    → ((i : ℕ) → i < count → listed_at n w i ≡ listed_at n w₀ i)
    → Lists n count (λ u. settled u ≡ true) w₀ → Lists n (count + 1) (λ u. also settled v u ≡ true) w
unfolding also
lists_also n count v settled w₀ w more last before l =
    record {
      few = omega arith;
      each = λ i h. each i h (ℕ_discrete i count);
      all = λ u t.
          ⊎_elim (λ s. let (i, h, e) = l.all u s in (i, omega arith, before i h ∙ e)) (λ q. (count, omega arith, last ∙ sym q))
          (also_true settled v u t);
    }
  where
    each : (i : ℕ) → i < count + 1 → Dec (i ≡ count) → also settled v (listed_at n w i) ≡ true
    each i h (yes q) = also_same settled v (listed_at n w i) (rw q last)
    each i h (no q) = let lower : i < count = omega arith in rw (before i lower, l.each i lower)
