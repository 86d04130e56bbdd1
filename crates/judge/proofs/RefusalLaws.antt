-- The number of a refusal that may be given. Assumes nothing.
use mathlib.Core.Path.{◌≡◌, refl}
use mathlib.Core.Bool.{Bool, true, false, cond}
use Prim.Native.Nat.{◌≤◌, min}
use native.Mathlib.Omega.{arith}
use lib.Dec.{ltb}
use borrow.Author.Tests.{ltb-true, ltb-false}
use Rattle.std.specs.Prelude.{Some, None}
use Rattle.judge.specs.Numbers.{no_number, Given, given_number, earlier}
use Rattle.map.specs.Refusals.{number_of}
use Rattle.map.proofs.RefusalLaws.{number_within}

pub given_cond : (t : Bool) (a b : Given) → given_number (cond t a b) ≡ cond t (given_number a) (given_number b)
given_cond true a b = refl
given_cond false a b = refl

given_within : (g : Given) → given_number g ≤ no_number
given_within None = omega arith
given_within (Some r) = let within = number_within r in omega (arith, within.1)

-- of two refusals the earlier one has the lesser number
pub earlier_least : (a b : Given) → given_number (earlier a b) ≡ min (given_number a) (given_number b)
unfolding earlier
earlier_least None b = let within = given_within b in omega arith
earlier_least (Some x) None = let within = given_within (Some x) in omega arith
earlier_least (Some x) (Some y) = go (ltb (number_of y) (number_of x)) refl
  where
    go : (t : Bool) → ltb (number_of y) (number_of x) ≡ t → given_number (cond t (Some y) (Some x)) ≡ min (number_of x) (number_of y)
    go true e = let less = ltb-true (number_of y) (number_of x) e in omega arith
    go false e = let least = ltb-false (number_of y) (number_of x) e in omega arith
