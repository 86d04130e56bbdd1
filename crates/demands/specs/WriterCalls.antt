-- The map writer's two calls as programs, as the router's are; a call's sheet area is the output area.
use Rattle.std.specs.Prelude.{◌≡◌, List, ℕ, ◌≤◌, length}
use Rattle.model.specs.Answer.{Result}
use Rattle.model.specs.Calls.{Call}
use Rattle.answer.specs.Numbers.{answer_of}
use Rattle.answer.specs.declared.Answer.{Answer}
use Rattle.map_writer.specs.Call.{Wrote, WroteFor}
use Rattle.demands.specs.Calls.{answer_in}

-- map_writer::write
pub record WritesMap (c : Call) (r : Result) : Type 0 where
  pub code : Answer
  pub numbers : answer_of code ≡ r.answer
  pub contract : Wrote c.input c.work c.sheet code r.work r.sheet

-- r3_write_map
pub record ExportsMap (c : Call) (r : Result) : Type 0 where
  pub lent : List ℕ
  pub words : List ℕ
  pub room : 7 ≤ length lent
  pub numbers : answer_in words ≡ r.answer
  pub contract : WroteFor c.input c.work c.sheet lent r.answer.number r.work r.sheet words
