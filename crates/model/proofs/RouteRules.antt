-- The rule by which a route is chosen decides its places, and no number but the length of its sheet. Assumes nothing.
use mathlib.Core.Path.{◌≡◌, refl}
use mathlib.Core.Bool.{Bool, true, false}
use mathlib.Core.List.{List}
use mathlib.Core.Option.{Option, none, some}
use Prim.Native.Nat.{ℕ, zero, suc}
use lib.ListN.{length}
use Rattle.model.specs.Framing.{frame}
use Rattle.model.specs.Problem.{Problem}
use Rattle.model.specs.Costs.{Table, table}
use Rattle.model.specs.Query.{Key, first_goal}
use Rattle.model.specs.Rounds.{Search, search}
use Rattle.model.specs.Stated.{Stated, stated, problem_of}
use Rattle.model.specs.Refusals.{refusal}
use Rattle.model.specs.Endings.{RouteRule, finished, ending_if, budgeted_by}
use Rattle.model.specs.Answer.{Answer, answer_of, refused_with, ended_with, call_if, call}

-- all but the sheet's bytes are the same
pub record SameNumbers (a b : Answer) : Type 0 where
  pub number : a.number ≡ b.number
  pub cost : a.cost ≡ b.cost
  pub limit : a.limit ≡ b.limit
  pub floor : a.floor ≡ b.floor
  pub expansions : a.expansions ≡ b.expansions
  pub queries : a.queries ≡ b.queries

no_change : (a : Answer) → SameNumbers a a
no_change a = record { number = refl; cost = refl; limit = refl; floor = refl; expansions = refl; queries = refl }

module _ (f g : RouteRule) where
  finished_numbers : (p : Problem) (s : Search) (t : Table) (o : Option Key)
      → SameNumbers (answer_of (finished f p s t o)) (answer_of (finished g p s t o))
  unfolding finished answer_of
  finished_numbers p s t none = no_change _
  finished_numbers p s t (some k) = record { number = refl; cost = refl; limit = refl; floor = refl; expansions = refl; queries = refl }

  ending_numbers : (b : Bool) (p : Problem) (s : Search) → SameNumbers (answer_of (ending_if f b p s)) (answer_of (ending_if g b p s))
  unfolding ending_if
  ending_numbers true p s = no_change _
  ending_numbers false p s = let t = table p s.last.limit in finished_numbers p s t (first_goal p t)

  call_numbers : (n : ℕ) (s : Stated) (work sheet : List ℕ)
      → SameNumbers (call_if n (budgeted_by f) s work sheet).answer (call_if n (budgeted_by g) s work sheet).answer
  unfolding call_if refused_with ended_with budgeted_by
  call_numbers zero s work sheet = let x = search (problem_of s) s.job.allowance in ending_numbers x.spent (problem_of s) x
  call_numbers (suc n) s work sheet = no_change _

  pub same_numbers_lem : (input work sheet : List ℕ)
      → SameNumbers (call (budgeted_by f) input work sheet).answer (call (budgeted_by g) input work sheet).answer
  unfolding call
  same_numbers_lem input work sheet =
      let framed = frame input in
      call_numbers (refusal framed (length work) (length sheet)) (stated framed.records) work sheet
