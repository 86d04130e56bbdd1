-- The router's two calls as programs: what the contract of each lets a call come to.
use Rattle.std.specs.Prelude.{◌≡◌, List, ℕ, ◌≤◌, length, get_or}
use Rattle.model.specs.Answer as model
use Rattle.model.specs.Answer.{Result, answer}
use Rattle.model.specs.Calls.{Call}
use Rattle.answer.specs.Numbers.{answer_of}
use Rattle.answer.specs.declared.Answer.{Answer}
use Rattle.router.specs.Call.{Routed, RoutedFor}

-- router::route: an answer with r's numbers, and r's areas after the call
pub record Routes (c : Call) (r : Result) : Type 0 where
  pub code : Answer
  pub numbers : answer_of code ≡ r.answer
  pub contract : Routed c.input c.work c.sheet code r.work r.sheet

-- the seven numbers that stand first in the words of an answer
unfoldable pub answer_in : List ℕ → model.Answer
answer_in w = answer (get_or w 0 0) (get_or w 1 0) (get_or w 2 0) (get_or w 3 0) (get_or w 4 0) (get_or w 5 0) (get_or w 6 0)

-- r3_route: r's number, r's areas after the call, and r's numbers in lent words that have room for seven
pub record Exports (c : Call) (r : Result) : Type 0 where
  pub lent : List ℕ
  pub words : List ℕ
  pub room : 7 ≤ length lent
  pub numbers : answer_in words ≡ r.answer
  pub contract : RoutedFor c.input c.work c.sheet lent r.answer.number r.work r.sheet words
