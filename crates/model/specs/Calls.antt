-- A call, a program that answers calls, and what it writes, in short words for the demands.
use Rattle.std.specs.Prelude.{◌≡◌, List, ℕ, length, take}
use Rattle.model.specs.Bytes.{Bytes}
use Rattle.model.specs.Problem.{Problem}
use Rattle.model.specs.Framing.{frame}
use Rattle.model.specs.Items.{Item, items}
use Rattle.model.specs.Stated.{stated_in, problem_of}
use Rattle.model.specs.Refusals.{Accepted}
use Rattle.model.specs.Answer.{Result, route}

-- what a call is given: the input's bytes, and what the lent areas hold
pub record Call : Type 0 where
  pub input : List ℕ
  pub work : List ℕ
  pub sheet : List ℕ
  pub bytes : Bytes input

module _ (c : Call) where
  -- what the input's records say
  abbrev pub items_in : List Item
  items_in = items (frame c.input).records

  -- the problem and the allowance that the input states
  abbrev pub problem : Problem
  problem = problem_of (stated_in c.input)

  abbrev pub allowance : ℕ
  allowance = (stated_in c.input).job.allowance

  abbrev pub IsAccepted : Type 0
  IsAccepted = Accepted c.input (length c.work) (length c.sheet)

  -- what the definition makes of it
  abbrev pub result : Result
  result = route c.input c.work c.sheet

-- the sheet: the first `sheet bytes` bytes of the sheet area after the call
abbrev pub written : Result → List ℕ
written r = take r.answer.sheet_bytes r.sheet

-- the allowance is spent
abbrev pub Spent : Result → Type 0
Spent r = r.answer.number ≡ 16

-- all seven numbers are the same, and the sheet
pub record Alike (r s : Result) : Type 0 where
  pub numbers : r.answer ≡ s.answer
  pub sheets : written r ≡ written s

-- A program, by its promise: the results that a call may come to.
abbrev pub Program : Type 1
Program = Call → Result → Type 0

-- the definition as a program
abbrev pub Defined : Program
Defined c r = r ≡ result c

-- A program does what a definition says, and nothing else: whatever its calls are given and come to.
pub record KeepsTo {C R : Type 0} (definition : C → R) (P : C → R → Type 0) : Type 0 where
  pub gives : (c : C) → P c (definition c)
  pub only : (c : C) (r : R) → P c r → r ≡ definition c

-- it routes
abbrev pub Keeps : Program → Type 0
Keeps P = KeepsTo result P

-- the bytes b are the sheet that the program writes for this job, which is accepted, with the number n in its answer
pub record Writes (P : Program) (job : List ℕ) (n : ℕ) (b : List ℕ) : Type 0 where
  pub call : Call
  pub after : Result
  pub comes : P call after
  pub is_job_lem : call.input ≡ job
  pub accepted : IsAccepted call
  pub number : after.answer.number ≡ n
  pub on_sheet : written after ≡ b
