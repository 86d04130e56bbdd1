-- The rounds: low, high and the budget b; the queries one after another; their total; the cut by the allowance.
use Rattle.std.specs.Prelude.{Bool, true, false, cond, ℕ, zero, suc, ◌+◌, ◌-◌, ◌*◌, ◌/◌, ◌^◌, ltb, eqb, length}
use mathlib.Core.List.{List, [], ◌∷◌, get_last_d}
use Rattle.std.proofs.Math.Option.{Option, none, some}
use Rattle.model.specs.Problem.{Problem}
use Rattle.model.specs.Query.{Query, Outcome, ended, over, found, nothing, query}

pub record Round : Type 0 where
  pub low : ℕ
  -- none while unset
  pub high : Option ℕ
  pub budget : ℕ

-- "Low starts as the start's estimate, b as 1. A round begins with high unset."
unfoldable pub first_round : Problem → Round
first_round p = record { low = p.estimate p.start; high = none; budget = 1 }

-- "While high is unset, C is 2 × low. Afterwards C is half of low + high, rounded down."
unfoldable pub limit_of : ℕ → Option ℕ → ℕ
limit_of low none = 2 * low
limit_of low (some high) = (low + high) / 2

-- "When low equals high the round closes, b doubles, and high is unset again." The growth q is 2 there.
unfoldable pub close_if : Bool → ℕ → ℕ → ℕ → ℕ → Round
close_if true q low high b = record { low = low; high = none; budget = q * b }
close_if false q low high b = record { low = low; high = some high; budget = b }

unfoldable pub settle : ℕ → ℕ → Option ℕ → ℕ → Round
settle q low none b = record { low = low; high = none; budget = b }
settle q low (some high) b = close_if (eqb low high) q low high b

-- "Ended sets low to its number, over sets high to C." "Found and none finish the job."
unfoldable pub after : ℕ → Round → ℕ → Outcome → Option Round
after q r C (ended x) = some (settle q x r.high r.budget)
after q r C over = some (settle q r.low (some C) r.budget)
after q r C found = none
after q r C nothing = none

-- a query begun: the round as it begins, the limit, and what it gives
pub record Step : Type 0 where
  pub round : Round
  pub limit : ℕ
  pub query : Query

unfoldable pub ask : Problem → Round → Step
ask p r =
    let C = limit_of r.low r.high in
    record { round = r; limit = C; query = query p C r.budget }

unfoldable pub next : Problem → Step → Option Round
next p s = after p.growth s.round s.limit s.query.outcome

unfoldable pub go_on : Option Round → (Round → List Step) → List Step
go_on none rest = []
go_on (some r) rest = rest r

-- the queries from a round on, at most as many as the first number says
unfoldable pub trace_up_to : ℕ → Problem → Round → List Step
trace_up_to zero p r = []
trace_up_to (suc k) p r = let s = ask p r in s ∷ go_on (next p s) (trace_up_to k p)

-- far more queries than any accepted input takes
abbrev pub enough : ℕ
enough = 2 ^ 64

-- the queries of the search where nothing cuts it
unfoldable pub trace : Problem → List Step
trace p = trace_up_to enough p (first_round p)

-- "The total is the sum of what all queries begun cost."
unfoldable pub total : List Step → ℕ
total [] = 0
total (s ∷ ss) = s.query.cost + total ss

-- the queries begun under an allowance: up to and with the first that would exceed what is left of it. "A budget reached on the same expansion as
-- the allowance counts first": a query that costs just what is left is not cut.
unfoldable pub begun : ℕ → List Step → List Step
begun allowance [] = []
begun allowance (s ∷ ss) =
    s ∷ cond (ltb allowance s.query.cost) [] (begun (allowance - s.query.cost) ss)

-- An allowance that is never spent, under any estimates: 59 × q × q × N divided by q − 1 and rounded up, for a growth of q. "An allowance of
-- 236 × N is never spent": that is this one at 2.
unfoldable pub never_spent : Problem → ℕ
never_spent p = let q = p.growth in (59 * q * q * p.places + (q - 2)) / (q - 1)

-- how the search ends under an allowance
pub record Search : Type 0 where
  pub spent : Bool
  pub expansions : ℕ
  pub queries : ℕ
  -- the last query begun, which is the one cut where the allowance is spent
  pub last : Step

-- "16 is given exactly when the uncut total exceeds the allowance. Expansions then equals the allowance." "Queries counts every query begun."
unfoldable pub search : Problem → ℕ → Search
search p allowance =
    let ss = trace p in
    let bs = begun allowance ss in
    let spent = ltb allowance (total ss) in
    record {
      spent = spent;
      expansions = cond spent allowance (total ss);
      queries = length bs;
      last = get_last_d bs (ask p (first_round p));
    }
