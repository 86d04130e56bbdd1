-- The eight factors of a table, read one after another into an array. Assumes nothing.
use mathlib.Core.Path.{◌≡◌, refl}
use mathlib.Core.List.{List, append-nil}
use Rattle.std.specs.Prelude.{Option, Some, None}
use Prim.Native.Nat.{ℕ, ◌+◌, ◌*◌, ◌<◌}
use native.Mathlib.Omega.{arith}
use lib.ListN.{length, set, replicate}
use lib.Seq.{paste, take_all}
use Rattle.model.specs.Bytes.{u16, u16s}
use Rattle.model.specs.Stated.{fixed_factors}
use Rattle.model.proofs.Bytes.{u16s-length, u16s_at}
use Rattle.model.proofs.Lists.{one_more}
use Rattle.map.specs.Items.{table_at}

module _ (input : List ℕ) (at : ℕ) where
  -- those of the classes below this one are read
  abbrev pub read_below : ℕ → List ℕ
  read_below class = paste (replicate 8 0) 0 (u16s 8 input at) class

  pub one_factor_more : {now : List ℕ} (class : ℕ) → class < 8 → now ≡ read_below class
      → set now class (u16 input (at + class + class)) ≡ read_below (class + 1)
  one_factor_more class small are =
      let place : at + class + class ≡ at + 2 * class = omega arith in
      let long = u16s-length 8 input at in
      rw (place, ← u16s_at 8 input at class small)
      (one_more (replicate 8 0) 0 (u16s 8 input at) class (omega arith) (omega arith) (omega arith) are)

  pub all_factors : read_below 8 ≡ u16s 8 input at
  all_factors = rw (take_all 8 (u16s 8 input at) (omega (arith, u16s-length 8 input at))) (append-nil (u16s 8 input at))

-- the table in force, where the map has its own
pub own_table : (input : List ℕ) (at : ℕ) → table_at input (Some at) ≡ u16s 8 input at
unfolding table_at
own_table input at = refl

pub eight_factors : (input : List ℕ) (at : Option ℕ) → length (table_at input at) ≡ 8
unfolding table_at
eight_factors input None = refl
eight_factors input (Some at) = u16s-length 8 input at

pub fixed_table : (input : List ℕ) → table_at input None ≡ fixed_factors
unfolding table_at
fixed_table input = refl
