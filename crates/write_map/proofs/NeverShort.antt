-- The output area that the program lends is never too short. Assumes nothing.
use mathlib.Core.Path.{◌≡◌, sym, ◌∙◌}
use mathlib.Core.Bool.{Bool, true, false, cond, ◌&&◌, true≢false}
use mathlib.Core.List.{List, [], ◌∷◌}
use Prim.Native.Nat.{ℕ, ◌≤◌}
use native.Mathlib.Omega.{arith}
use lib.Dec.{eqb}
use lib.ListN.{length}
use borrow.Author.Tests.{eq-eqb, le-ltb}
use Rattle.model.specs.Lists.{any}
use Rattle.model.specs.Stated.{stated_in}
use Rattle.model.specs.Refusals.{Row, form_rows, size_rows, map_rows, factor_rows, cost_rows, job_rows, input_rows, first_that_holds}
use Rattle.model.proofs.Lists.{neither}
use Rattle.map_writer.specs.Call.{short_output, output_rows, write_rows, write_refusal, write_map}
use Rattle.map_writer.proofs.Acceptance.{number_given}
use Rattle.write_map.specs.Printed.{answered}

-- a number is not given where no row that has it holds
not_given : (n : ℕ) (rs : List Row) → (n ≡ 0 → ⊥) → any (λ (r : Row). eqb r.number n && r.holds) rs ≡ false → first_that_holds rs ≡ n → ⊥
unfolding any first_that_holds
not_given n [] above fails e = above (sym e)
not_given n (r ∷ rs) above fails e =
    let own = neither (eqb r.number n && r.holds) _ fails in
    go r.holds own.0 e (not_given n rs above own.1)
  where
    go : (t : Bool) → (eqb r.number n && t) ≡ false → cond t r.number (first_that_holds rs) ≡ n → (first_that_holds rs ≡ n → ⊥) → ⊥
    go true fails e later = true≢false (rw (eq-eqb r.number n e) at fails)
    go false fails e later = later e

-- Refusal 15 never comes: the output area is as long as the longest input.
pub never_short_output : (input : List ℕ) → length input ≤ 65536 → (answered input).answer.number ≡ 15 → ⊥
unfolding answered write_map write_refusal write_rows output_rows input_rows form_rows size_rows map_rows factor_rows cost_rows job_rows short_output any
never_short_output input h e =
    not_given 15 (write_rows input 16384 65536) (λ z. omega arith) (rw (le-ltb 65536 (length input) h))
    (sym (number_given _ (stated_in input) _ _) ∙ e)
