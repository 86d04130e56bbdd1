-- Document 01's map A, where the true distance of place 1 is 4: with any estimate up to 4 there, as in P1, nothing overstates; with any
-- above, as in P5, place 1 does.
use mathlib.Core.Path.{refl}
use mathlib.Core.Bool.{Bool}
use mathlib.Core.List.Memᴰ
use mathlib.Core.List.{[], ◌∷◌, ◌++◌}
use Prim.Native.Nat.{ℕ, zero, suc, ◌+◌, ◌≤◌, ◌<◌}
use native.Mathlib.Omega.{arith}
use lib.Dec.{ltb}
use borrow.Author.Tests.{ltb-false, ne_eqb}
use Rattle.model.specs.Limits.{max_estimate}
use Rattle.model.specs.Problem.{Problem, Arc}
use Rattle.model.specs.Paths.{stay, on, Overstates, Admissible}
use Rattle.model.specs.Stated.{stated_in, problem_of}
use Rattle.model.specs.Jobs.{put_job}
use Rattle.model.specs.Terms.{Consistent}
use Rattle.model.proofs.Lists.{any_false}
use Rattle.model.proofs.Bytes.{u32_put32}
use Rattle.model.proofs.Compute.{compute}
use Rattle.model.proofs.Runs.{map_a}
use Rattle.model.proofs.Overstating.{below_consistent}

-- map A with the estimate h at place 1, from 0 to 3
problem_a : ℕ → Problem
problem_a h = problem_of (stated_in (map_a h ++ put_job 0 944 (3 ∷ [])))

-- the least costs to place 3
distance : ℕ → ℕ
distance zero = 5
distance (suc zero) = 4
distance (suc (suc zero)) = 3
distance (suc (suc (suc v))) = 0

-- both by a test that is computed over the whole list
distances_consistent : (h : ℕ) → Consistent (problem_a h) distance
unfolding compute map_a problem_a distance
distances_consistent h =
    record {
      at_goals = λ g i. let zeros = any_false (λ (g : ℕ). ltb 0 (distance g)) _ refl g i in omega (arith, ltb-false 0 (distance g) zeros);
      along_arcs = λ a i.
          let steep : Arc → Bool = λ a. ltb (a.cost + distance a.to) (distance a.from) in
          ltb-false (a.cost + distance a.to) (distance a.from) (any_false steep _ refl a i);
    }

estimates_below : (h : ℕ) → h ≤ 4 → (v : ℕ) → (problem_a h).estimate v ≤ distance v
unfolding compute map_a problem_a distance
estimates_below h l zero = omega arith
estimates_below h l (suc zero) = omega arith
estimates_below h l (suc (suc zero)) = omega arith
estimates_below h l (suc (suc (suc zero))) = omega arith
estimates_below h l (suc (suc (suc (suc v)))) =
    let w : ℕ = suc (suc (suc (suc v))) in
    rw (ne_eqb w 3 (λ e. omega arith), ne_eqb 0 w (λ e. omega arith), ne_eqb 1 w (λ e. omega arith), ne_eqb 2 w (λ e. omega arith), ne_eqb 3 w (λ e. omega arith)) (omega arith)

admissible_up_to_4 : (h : ℕ) → h ≤ 4 → Admissible (problem_a h)
admissible_up_to_4 h l = below_consistent (problem_a h) distance (distances_consistent h) (estimates_below h l)

-- from place 1 by way of 2 to 3, at cost 1 + 3
overstates_above_4 : (h : ℕ) → 4 < h → h ≤ max_estimate → Overstates (problem_a h) 1
unfolding compute map_a problem_a
overstates_above_4 h l m =
    record {
      goal = 3;
      is_goal = Memᴰ.head refl;
      cost = 4;
      walk =
          on (record { from = 2; to = 3; cost = 3 }) (Memᴰ.tail (Memᴰ.tail (Memᴰ.tail (Memᴰ.head refl))))
          (on (record { from = 1; to = 2; cost = 1 }) (Memᴰ.tail (Memᴰ.tail (Memᴰ.head refl))) stay);
      above = omega (arith, u32_put32 [] h [] (omega arith));
    }
