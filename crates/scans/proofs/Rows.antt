-- The rows of the listed places, and of those whose arcs give nothing. Assumes nothing.
use mathlib.Core.Path.{◌≡◌}
use mathlib.Core.Logic.{⊎_elim}
use mathlib.Core.List.Memᴰ
use mathlib.Core.List.{List, ◌++◌, Memᴰ}
use mathlib.Core.Option.{Option, none}
use Prim.Native.Nat.{ℕ, zero, suc, ◌+◌, ◌-◌, ◌<◌}
use native.Mathlib.Decide.{ℕ_discrete}
use native.Mathlib.Omega.{arith}
use lib.ListN.{take, drop}
use Rattle.model.specs.Lists.{filter_map}
use Rattle.model.specs.Problem.{Arc}
use Rattle.layout.specs.Regions.{arcs_at}
use Rattle.layout.specs.Map.{row_start, row_end, arc_in, row, rows_below}
use Rattle.layout.specs.Labels.{listed_at}
use Rattle.scans.specs.Scans.{rows_listed}
use Rattle.scans.proofs.Least.{filter_map_nothing}

-- a row of whose arcs f gives nothing adds nothing
pub row_nothing : (n : ℕ) (w : List ℕ) (u : ℕ) (f : Arc → Option ℕ) → ((x : ℕ) → f (arc_in u x) ≡ none)
    → filter_map f (rows_below n w (suc u)) ≡ filter_map f (rows_below n w u)
unfolding rows_below row
row_nothing n w u f h =
    filter_map_nothing f (arc_in u) h (rows_below n w u) (take (row_end n w u - row_start n w u) (drop (arcs_at n + row_start n w u) w))

-- ---- the rows of the listed places
module _ (n : ℕ) (w : List ℕ) where
  pub listed_of : (k : ℕ) (a : Arc) → Memᴰ a (rows_listed n w k) → (i : ℕ) × (i < k) × Memᴰ a (row n w (listed_at n w i))
  unfolding rows_listed
  listed_of zero a m = absurd (Memᴰ.not-nil m)
  listed_of (suc k) a m =
      ⊎_elim (λ j. let r = listed_of k a j in (r.0, omega (arith, r.1), r.2)) (λ j. (k, omega arith, j))
      (Memᴰ.append_cases (rows_listed n w k) m)

  pub of_listed : (k : ℕ) (a : Arc) (i : ℕ) → i < k → Memᴰ a (row n w (listed_at n w i)) → Memᴰ a (rows_listed n w k)
  unfolding rows_listed
  of_listed zero a i h m = absurd (omega arith)
  of_listed (suc k) a i h m = go (ℕ_discrete i k) (λ l. of_listed k a i l m)
    where
      go : Dec (i ≡ k) → (i < k → Memᴰ a (rows_listed n w k)) → Memᴰ a (rows_listed n w k ++ row n w (listed_at n w k))
      go (yes q) rest = Memᴰ.append_right (rows_listed n w k) (rw q at m)
      go (no q) rest = Memᴰ.append_left (row n w (listed_at n w k)) (rest (omega arith))
