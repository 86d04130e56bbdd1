-- Laws of runs of stores.
-- Assumes nothing.
use mathlib.Core.Path.{◌≡◌, refl, ap, sym, ◌∙◌}
use mathlib.Core.List.{List, [], ◌∷◌, ◌++◌, append_assoc}
use Prim.Native.Nat.{ℕ, suc, ◌+◌, ◌-◌, ◌/◌, ◌≤◌}
use native.Mathlib.Omega.{arith}
use lib.ListN.{length, drop}
use lib.Seq.{sets, sets-eq, drop-drop}
use borrow.Rule.Slice.PartMut.{put_mid}
use Rattle.model.specs.Bytes.{put16, put32}

-- two runs of stores, one directly after the other, are one run
pub sets_join : (vs ws l : List ℕ) (i j : ℕ) → j ≡ i + length vs → sets (sets l i vs) j ws ≡ sets l i (vs ++ ws)
sets_join [] ws l i j q = ap (λ (k : ℕ). sets l k ws) (omega arith)
sets_join (v ∷ vs) ws l i j q = sets_join vs ws _ (suc i) j (omega arith)

-- the same of three states: the run ys was stored after the run xs
pub sets_then : {mid out : List ℕ} (old xs ys : List ℕ) (i j : ℕ) → j ≡ i + length xs → mid ≡ sets old i xs → out ≡ sets mid j ys
    → out ≡ sets old i (xs ++ ys)
sets_then old xs ys i j q e f = f ∙ ap (λ (l : List ℕ). sets l j ys) e ∙ sets_join xs ys old i j q

-- a run of stores from the front on
pub sets-front : (vs l : List ℕ) → length vs ≤ length l → sets l 0 vs ≡ vs ++ drop (length vs) l
sets-front vs l h =
    let z : 0 + length vs ≡ length vs = omega arith in
    sets-eq vs l 0 (omega arith) ∙ rw z

-- two fields of 2 bytes, one after the other, are one of 4
pub two_fields : {s₁ s : List ℕ} (s₀ : List ℕ) (x i : ℕ) → s₁ ≡ sets s₀ i (put16 x) → s ≡ sets s₁ (i + 2) (put16 (x / 65536))
    → s ≡ sets s₀ i (put32 x)
unfolding put16 put32
two_fields s₀ x i low high =
    let last : x / 65536 / 256 ≡ x / 16777216 = omega arith in
    high ∙ ap (λ (l : List ℕ). sets l (i + 2) (put16 (x / 65536))) low ∙ sets_join (put16 x) (put16 (x / 65536)) s₀ i (i + 2) refl ∙ rw last

-- a part that is copied over is a run of stores
pub copied : {xs : List ℕ} (s bytes : List ℕ) (i : ℕ) → xs ≡ bytes → i + length bytes ≤ length s
    → put_mid i (i + length bytes - i) s xs ≡ sets s i bytes
copied s bytes i e h =
    let n : i + length bytes - i ≡ length bytes = omega arith in
    rw (e, n, drop-drop (length bytes) i s, ← append_assoc) (sym (sets-eq bytes s i h))
