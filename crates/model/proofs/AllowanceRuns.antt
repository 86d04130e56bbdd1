-- Map A with each allowance from 0 to one more than its search costs, computed from the definitions. The numbers are those of tests/reference.py.
use mathlib.Core.Path.{◌≡◌, refl}
use mathlib.Core.Bool.{Bool, true, false, ◌&&◌}
use mathlib.Core.List.{List, [], ◌∷◌, ◌++◌}
use Prim.Native.Nat.{ℕ, suc}
use native.Mathlib.Omega.{arith}
use lib.ListN.{replicate}
use Rattle.model.specs.Lists.{same_numbers}
use Rattle.model.specs.Bytes.{put16s}
use Rattle.model.specs.Jobs.{put_job}
use Rattle.model.specs.Stated.{stated_in, problem_of}
use Rattle.model.specs.Rounds.{trace}
use Rattle.model.specs.Answer.{route}
use Rattle.model.specs.Allowances.{Around, input_with}
use Rattle.model.specs.Terms.{is_ended, some_ended, ends_between}
use Rattle.model.proofs.Compute.{compute}
use Rattle.model.proofs.Runs.{map_a}

-- map A and its job from 0 to 3, but for the allowance
around : Around
unfolding compute map_a
around = record { earlier = map_a 4; whole = refl; body = 10; room = omega arith; two_bytes = omega arith; start = 0; later = put16s (1 ∷ 3 ∷ []) }

is_map_a : input_with around 944 ≡ map_a 4 ++ put_job 0 944 (3 ∷ [])
unfolding compute around map_a input_with
is_map_a = refl

-- number, floor, expansions and queries with this allowance and those that follow
rows_from : ℕ → List (List ℕ) → Bool
unfolding input_with same_numbers
rows_from allowance [] = true
rows_from allowance (r ∷ rs) =
    let a = (route (input_with around allowance) (replicate 72 7) (replicate 18 9)).answer in
    same_numbers (a.number ∷ a.floor ∷ a.expansions ∷ a.queries ∷ []) r && rows_from (suc allowance) rs

-- the floor rises with the queries that end, the first and the ninth
each_allowance : rows_from 0 (
    (16 ∷ 0 ∷ 0 ∷ 1 ∷ [])
    ∷ (16 ∷ 4 ∷ 1 ∷ 2 ∷ [])
    ∷ (16 ∷ 4 ∷ 2 ∷ 3 ∷ [])
    ∷ (16 ∷ 4 ∷ 3 ∷ 4 ∷ [])
    ∷ (16 ∷ 4 ∷ 4 ∷ 5 ∷ [])
    ∷ (16 ∷ 4 ∷ 5 ∷ 6 ∷ [])
    ∷ (16 ∷ 4 ∷ 6 ∷ 6 ∷ [])
    ∷ (16 ∷ 4 ∷ 7 ∷ 7 ∷ [])
    ∷ (16 ∷ 4 ∷ 8 ∷ 7 ∷ [])
    ∷ (16 ∷ 4 ∷ 9 ∷ 8 ∷ [])
    ∷ (16 ∷ 4 ∷ 10 ∷ 8 ∷ [])
    ∷ (16 ∷ 4 ∷ 11 ∷ 9 ∷ [])
    ∷ (16 ∷ 4 ∷ 12 ∷ 9 ∷ [])
    ∷ (16 ∷ 5 ∷ 13 ∷ 10 ∷ [])
    ∷ (16 ∷ 5 ∷ 14 ∷ 10 ∷ [])
    ∷ (16 ∷ 5 ∷ 15 ∷ 10 ∷ [])
    ∷ (0 ∷ 0 ∷ 16 ∷ 10 ∷ [])
    ∷ (0 ∷ 0 ∷ 16 ∷ 10 ∷ [])
    ∷ []) ≡ true
unfolding compute around map_a input_with rows_from
each_allowance = refl

ended : ℕ → ℕ → Bool
ended m n = ends_between m n (trace (problem_of (stated_in (input_with around 0))))

queries_that_end : (ended 1 2 ≡ true) × (ended 2 9 ≡ false) × (ended 9 10 ≡ true) × (ended 1 1 ≡ false)
unfolding compute around map_a input_with ended ends_between some_ended is_ended
queries_that_end = (refl, refl, refl, refl)
