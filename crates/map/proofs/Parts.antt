-- Fields of a part of a list of bytes are fields of the whole. Assumes nothing.
use mathlib.Core.Path.{◌≡◌, refl, ap₂, ◌∙◌}
use mathlib.Core.List.{List, ◌∷◌}
use Prim.Native.Nat.{ℕ, zero, suc, ◌+◌, ◌*◌, ◌≤◌, ◌<◌}
use native.Mathlib.Omega.{arith}
use native.Mathlib.Nat.{add_assoc}
use lib.ListN.{take, drop}
use lib.Seq.{get_or-take, get_or-drop}
use Rattle.model.specs.Bytes.{u16, u32, u16s}

module _ (n : ℕ) (b : List ℕ) where
  pub u16-drop : (i j : ℕ) → j ≡ n + i → u16 (drop n b) i ≡ u16 b j
  unfolding u16
  u16-drop i j e = rw (e, get_or-drop n b i 0, get_or-drop n b (i + 1) 0, add_assoc)

  pub u32-drop : (i j : ℕ) → j ≡ n + i → u32 (drop n b) i ≡ u32 b j
  unfolding u32
  u32-drop i j e = rw (u16-drop i j e, u16-drop (i + 2) (j + 2) (omega arith))

  u16-take : (i : ℕ) → i + 1 < n → u16 (take n b) i ≡ u16 b i
  unfolding u16
  u16-take i h = rw (get_or-take n b i 0 (omega arith), get_or-take n b (i + 1) 0 h)

module _ (s : List ℕ) (start k : ℕ) where
  pub u16_part : (i j : ℕ) → i + 1 < k → j ≡ start + i → u16 (take k (drop start s)) i ≡ u16 s j
  u16_part i j l e = u16-take k (drop start s) i l ∙ u16-drop start s i j e

  pub u32_part : (i j : ℕ) → i + 3 < k → j ≡ start + i → u32 (take k (drop start s)) i ≡ u32 s j
  unfolding u32
  u32_part i j l e = rw (u16_part i j (omega arith) e, u16_part (i + 2) (j + 2) (omega arith) (omega arith))

  pub u16s_part : (n i j : ℕ) → i + 2 * n ≤ k → j ≡ start + i → u16s n (take k (drop start s)) i ≡ u16s n s j
  unfolding u16s
  u16s_part zero i j l e = refl
  u16s_part (suc n) i j l e =
      ap₂ (λ (x : ℕ) (xs : List ℕ). x ∷ xs) (u16_part i j (omega arith) e) (u16s_part n (i + 2) (j + 2) (omega arith) (omega arith))
