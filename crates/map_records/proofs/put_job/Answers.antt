-- The fields stand one after another, and then the goals, which are the rest of the input.
use Prim.Native.Nat.{◌+◌, ◌*◌, ◌≤◌}
use native.Mathlib.Omega.{arith}
use lib.ListN.{length}
use Rattle.model.specs.Bytes.{put16}
use Rattle.map_records.proofs.PutRecords.{job_length, goals-length, job_fields}
use Rattle.map_records.proofs.put_job.Goals.{Start}
use Rattle.map_records.proofs.put_job.Goals as goal

room : (c : Start) → let a = c.args in a.at + 12 + 2 * a.job.goals ≤ length a.out.now
room c = omega (arith, job_length c.args.input.now c.args.job, c.requires.1)

pub put_header-body-requires : goal.put_header-body-requires
put_header-body-requires c = let r = room (goal.at.put_header-body-requires c).Start in (omega (arith, c.requires.0.few), omega arith)

pub put16-requires : goal.put16-requires
unfolding put16
put16-requires c = let r = room (goal.at.put16-requires c).Start in omega arith

pub overflow_add-body : goal.overflow_add-body
unfolding put16
overflow_add-body c = let r = room (goal.at.overflow_add-body c).Start in omega arith

pub put32-requires : goal.put32-requires
unfolding put16
put32-requires c = let r = room (goal.at.put32-requires c).Start in omega arith

pub overflow_add-body-2 : goal.overflow_add-body-2
unfolding put16
overflow_add-body-2 c = let r = room (goal.at.overflow_add-body-2 c).Start in omega arith

pub put16-requires-2 : goal.put16-requires-2
unfolding put16
put16-requires-2 c = let r = room (goal.at.put16-requires-2 c).Start in omega arith

pub overflow_add-body-3 : goal.overflow_add-body-3
unfolding put16
overflow_add-body-3 c = let r = room (goal.at.overflow_add-body-3 c).Start in omega arith

pub put_bytes-requires : goal.put_bytes-requires
unfolding put16
put_bytes-requires c =
    let goals = goals-length _ _ c.requires.0 in
    let r = room (goal.at.put_bytes-requires c).Start in
    omega arith

pub overflow_add-result : goal.overflow_add-result
unfolding put16
overflow_add-result c = let r = room (goal.at.overflow_add-result c).Start in omega arith

pub returns : goal.returns
returns c =
    job_fields _ _ c.requires.0 _ _ (λ i. (c.shared_slice_known-1.given i).fits)
    c.put_header-body.ensures
    c.put16.ensures
    c.put32.ensures
    c.put16-2.ensures
    c.put_bytes.ensures
