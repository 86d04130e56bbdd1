-- All demands hold of the router's calls, and all promises of the map writer's, as their contracts give them. Assumes nothing.
use mathlib.Core.Path.{◌≡◌, refl, sym, ap, ◌∙◌}
use mathlib.Core.List.{List}
use Prim.Native.Nat.{ℕ, ◌≤◌}
use native.Mathlib.Omega.{arith}
use lib.ListN.{length, take, replicate}
use lib.Seq.{take_all}
use Rattle.model.specs.Answer as model
use Rattle.model.specs.Answer.{Result, over_front}
use Rattle.model.specs.Calls.{result, KeepsTo, Keeps}
use Rattle.model.proofs.Demands.{Demands, demands}
use Rattle.answer.specs.Numbers.{seven}
use Rattle.answer.specs.declared.Answer.{Answer}
use Rattle.map_writer.proofs.Promises.{rewritten, Promises, promises}
use Rattle.demands.specs.Calls.{Routes, Exports, answer_in}
use Rattle.demands.specs.WriterCalls.{WritesMap, ExportsMap}

-- the code's answer with these numbers
answer_with : model.Answer → Answer
answer_with a =
    record {
      number = a.number;
      cost = a.cost;
      limit = a.limit;
      floor = a.floor;
      expansions = a.expansions;
      queries = a.queries;
      sheet_bytes = a.sheet_bytes;
    }

-- results are the same where their numbers and their areas are
same_result : (r s : Result) → r.answer ≡ s.answer → r.work ≡ s.work → r.sheet ≡ s.sheet → r ≡ s
same_result r s answers works sheets =
    ap (λ (x : model.Answer). record { answer = x; work = r.work; sheet = r.sheet }) answers
    ∙ ap (λ (x : List ℕ). record { answer = s.answer; work = x; sheet = r.sheet }) works
    ∙ ap (λ (x : List ℕ). record { answer = s.answer; work = s.work; sheet = x }) sheets

routes_keeps : Keeps Routes
unfolding answer_with
routes_keeps = record {
  gives = λ c. record { code = answer_with (result c).answer; numbers = refl; contract = record { result = refl } };
  only = λ c r g. same_result r _ (sym g.numbers) refl refl ∙ g.contract.result;
}

-- All demands hold of router::route.
pub router_demands : Demands Routes
router_demands = demands Routes routes_keeps

-- seven numbers in words that have room for them
seven_in : (a : model.Answer) (lent : List ℕ) → 7 ≤ length lent → answer_in (over_front (take (length lent) (seven a)) lent) ≡ a
unfolding answer_in over_front
seven_in a lent h = rw (take_all (length lent) (seven a) h)

exports_keeps : Keeps Exports
unfolding answer_in over_front
exports_keeps = record {
  gives = λ c.
      record {
        lent = replicate 7 0;
        words = seven (result c).answer;
        room = omega arith;
        numbers = refl;
        contract = record { gives = refl; leaves_work = refl; leaves_sheet = refl; leaves_answer = refl };
      };
  only = λ c r g.
      let k = g.contract in
      let numbers = sym g.numbers ∙ ap answer_in k.leaves_answer ∙ seven_in (result c).answer g.lent g.room in
      same_result r (result c) numbers k.leaves_work k.leaves_sheet;
}

-- and of the call that is exported for C.
pub exported_demands : Demands Exports
exported_demands = demands Exports exports_keeps

writes_map_keeps : KeepsTo rewritten WritesMap
unfolding answer_with
writes_map_keeps = record {
  gives = λ c. record { code = answer_with (rewritten c).answer; numbers = refl; contract = record { result = refl } };
  only = λ c r g. same_result r _ (sym g.numbers) refl refl ∙ g.contract.result;
}

-- All promises hold of map_writer::write, beside router::route.
pub writer_promises : Promises WritesMap Routes
writer_promises = promises WritesMap Routes writes_map_keeps routes_keeps

exports_map_keeps : KeepsTo rewritten ExportsMap
unfolding answer_in over_front
exports_map_keeps = record {
  gives = λ c.
      record {
        lent = replicate 7 0;
        words = seven (rewritten c).answer;
        room = omega arith;
        numbers = refl;
        contract = record { gives = refl; leaves_work = refl; leaves_output = refl; leaves_answer = refl };
      };
  only = λ c r g.
      let k = g.contract in
      let numbers = sym g.numbers ∙ ap answer_in k.leaves_answer ∙ seven_in (rewritten c).answer g.lent g.room in
      same_result r (rewritten c) numbers k.leaves_work k.leaves_output;
}

-- and of the call that is exported for C.
pub exported_writer_promises : Promises ExportsMap Exports
exported_writer_promises = promises ExportsMap Exports exports_map_keeps exports_keeps
