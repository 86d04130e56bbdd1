-- The fields stand one after another.
use mathlib.Core.Path.{refl}
use native.Mathlib.Omega.{arith}
use Rattle.model.specs.Bytes.{put16, put32}
use Rattle.model.specs.Framing.{put_record}
use Rattle.model.specs.Jobs.{put_estimate}
use Rattle.map_records.specs.Puts.{put_value}
use Rattle.map_records.proofs.PutRecords.{put_next, put_is}
use Rattle.map_records.proofs.EstimatePlaceRecord.put.Goals as goal

pub put_header-body-requires : goal.put_header-body-requires
unfolding put_value put_estimate put_record put16 put32
put_header-body-requires c = let room = c.requires.1 in (omega arith, omega arith)

pub put16-requires : goal.put16-requires
unfolding put_value put_estimate put_record put16 put32
put16-requires c = let room = c.requires.1 in omega arith

pub overflow_add-body : goal.overflow_add-body
unfolding put_value put_estimate put_record put16 put32
overflow_add-body c = let room = c.requires.1 in omega arith

pub put32-requires : goal.put32-requires
unfolding put_value put_estimate put_record put16 put32
put32-requires c = let room = c.requires.1 in omega arith

pub overflow_add-result : goal.overflow_add-result
unfolding put_value put_estimate put_record put16 put32
overflow_add-result c = let room = c.requires.1 in omega arith

pub returns : goal.returns
unfolding put_value put_estimate put_record put16 put32
returns c =
    let a = c.args in
    let place = put_next (put16 a.place) c.put_header-body.ensures c.put16.ensures refl refl in
    put_is (put_next (put32 a.value) place c.put32.ensures refl (omega arith)) refl
