use mathlib.Core.Path.{◌≡◌, refl, ap, ◌∙◌}
use Rattle.model.specs.Bytes.{Bytes}
use Rattle.std.specs.Prelude.{Some, Ok, Err}
use Rattle.map.specs.Records.{read_at}
use lib.ListN.{length}
use Rattle.jobs.proofs.EntryLaws.{map_inside, at_step}
use Rattle.jobs.proofs.Running.{same_sizes, underway_start, next_runnable, record_notable, record_talliable, record_underway}
use Rattle.jobs.proofs.Running.{tail_notable, tail_underway, end_run}
use Rattle.jobs.proofs.run_all.Goals.{At-loop-record, In-Ok, In-Err}
use Rattle.jobs.proofs.run_all.Goals as goal

bytes : (c : At-loop-record) → Bytes c.args.input.now
bytes c = λ i. (c.shared_slice_known-1.given i).fits

-- the record that was read
found : (c : In-Ok) → read_at c.args.input.now c.loop-record.record-iterator.at ≡ Some (Ok c.in-Ok.r)
found c = (at_step c.loop-record.invariant.same c.next.ensures.steps).1 ∙ c.in-Some.is ∙ ap Some c.in-Ok.is

-- the broken tail that was read
broken : (c : In-Err) → read_at c.args.input.now c.loop-record.record-iterator.at ≡ Some (Err c.in-Err.refusal)
broken c = (at_step c.loop-record.invariant.same c.next.ensures.steps).1 ∙ c.in-Some.is ∙ ap Some c.in-Err.is

pub from-record-items-requires : goal.from-record-items-requires
from-record-items-requires c = rw c.requires.map_bytes (map_inside c.args.input.now)

pub loop-record-init : goal.loop-record-init
loop-record-init c =
    rw (c.into_iter-record-iterator.ensures.into_iter_gives ∙ c.from-record-items.ensures)
    (record { same = refl; underway = underway_start c.requires c.without-day.ensures; sizes = same_sizes })

pub run_record-a-requires : goal.run_record-a-requires
run_record-a-requires c = next_runnable c.requires c.loop-record.invariant.underway (found (goal.at.run_record-a-requires c).In-Ok)

pub tally_answer-requires : goal.tally_answer-requires
tally_answer-requires c =
    let at = goal.at.tally_answer-requires c in
    record_talliable c.requires c.loop-record.invariant.underway (bytes at.At-loop-record) (found at.In-Ok) c.run_record-a.ensures

pub note-requires : goal.note-requires
note-requires c =
    let at = goal.at.note-requires c in
    record_notable c.requires c.loop-record.invariant.underway (bytes at.At-loop-record) (found at.In-Ok) c.run_record-a.ensures

pub loop-record-preserved-in-Ok : goal.loop-record-preserved-in-Ok
loop-record-preserved-in-Ok c =
    let at = goal.at.loop-record-preserved-in-Ok c in
    let w = c.loop-record.invariant in
    let step = c.next.ensures.steps in
    let same = w.sizes in
    let ended : c.next.new.self.at ≡ c.in-Ok.r.end = rw (c.in-Some.is ∙ ap Some c.in-Ok.is) at step.moves in
    record {
      same = step.same ∙ w.same;
      underway = rw ended (record_underway c.requires w.underway (bytes at.At-loop-record) (found at.In-Ok) c.run_record-a.ensures c.note.ensures c.tally_answer.ensures);
      sizes = record {
        work_same = c.run_record-a.auto.work ∙ same.work_same;
        sheet_same = c.run_record-a.auto.sheet ∙ same.sheet_same;
        routes_same = c.tally_answer.auto.routes ∙ same.routes_same;
        costs_same = c.tally_answer.auto.costs ∙ same.costs_same;
      };
    }

pub note-requires-in-Err : goal.note-requires-in-Err
note-requires-in-Err c =
    let at = goal.at.note-requires-in-Err c in
    tail_notable c.requires c.loop-record.invariant.underway (bytes at.At-loop-record) (broken at.In-Err) (rw c.number.ensures at c.refused.ensures)

pub loop-record-preserved : goal.loop-record-preserved
loop-record-preserved c =
    let at = goal.at.loop-record-preserved c in
    let w = c.loop-record.invariant in
    let step = c.next.ensures.steps in
    let ended : c.next.new.self.at ≡ length c.args.input.now = rw (c.in-Some.is ∙ ap Some c.in-Err.is, w.same) at step.moves in
    record {
      same = step.same ∙ w.same;
      underway = rw ended (tail_underway c.requires w.underway (bytes at.At-loop-record) (broken at.In-Err) (rw c.number.ensures at c.refused.ensures) c.note-in-Err.ensures);
      sizes = w.sizes;
    }

pub returns : goal.returns
returns c = end_run c.requires c.loop-record.invariant.underway ((at_step c.loop-record.invariant.same c.next.ensures.steps).1 ∙ c.in-None.is)
