-- What the host gets of a reading, question by question. Assumes nothing.
use mathlib.Core.Path.{◌≡◌, ap}
use Prim.Native.Nat.{ℕ, zero, suc, ◌-◌, ◌≤◌}
use native.Mathlib.Omega.{arith}
use lib.ListN.{length, get_or, get_or-eq_default}
use Rattle.model.specs.Sheets.{Reading, host_answer}

module _ (r : Reading) (question : ℕ) where
  pub host_number : question ≡ 0 → r.number ≡ host_answer r question
  unfolding host_answer
  host_number e = rw e

  pub host_cost : question ≡ 1 → r.cost ≡ host_answer r question
  unfolding host_answer
  host_cost e = rw e

  pub host_count : question ≡ 2 → r.count ≡ host_answer r question
  unfolding host_answer
  host_count e = rw e

pub host_place : (r : Reading) (question : ℕ) → 3 ≤ question → get_or r.places (question - 3) 0 ≡ host_answer r question
unfolding host_answer
host_place r zero l = absurd (omega arith)
host_place r (suc zero) l = absurd (omega arith)
host_place r (suc (suc zero)) l = absurd (omega arith)
host_place r (suc (suc (suc i))) l = let at : suc (suc (suc i)) - 3 ≡ i = omega arith in ap (λ (n : ℕ). get_or r.places n 0) at

-- a place beyond the last is 0
pub host_beyond : (r : Reading) (question : ℕ) → 3 ≤ question → length r.places ≤ question - 3 → 0 ≡ host_answer r question
host_beyond r question l m = rw (← get_or-eq_default r.places 0 m) (host_place r question l)
