-- The number of a table of conditions, with a number above all where none of them holds, and of a refusal that may be given.
use Rattle.std.specs.Prelude.{cond, List, [], ◌∷◌, ℕ, ltb, Option, Some, None, Result, Ok, Err}
use Rattle.map.specs.declared.refusal.Refusal.{Refusal}
use Rattle.map.specs.Refusals.{number_of}
use Rattle.model.specs.Refusals.{Row}

abbrev pub no_number : ℕ
no_number = 255

-- the number of the first row that holds, and d where none does
unfoldable pub number_or : ℕ → List Row → ℕ
number_or d [] = d
number_or d (r ∷ rs) = cond r.holds r.number (number_or d rs)

-- a refusal, or none
abbrev pub Given : Type 0
Given = Option Refusal

abbrev pub given_number : Given → ℕ
given_number None = no_number
given_number (Some r) = number_of r

abbrev pub number_given : {A : Type 0} → Result A Refusal → ℕ
number_given (Ok x) = no_number
number_given (Err r) = number_of r

-- of two, the one of the lower number
unfoldable pub earlier : Given → Given → Given
earlier None b = b
earlier (Some x) None = Some x
earlier (Some x) (Some y) = cond (ltb (number_of y) (number_of x)) (Some y) (Some x)
