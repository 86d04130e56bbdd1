use mathlib.Core.Path.{refl, sym}
use native.Mathlib.Omega.{arith}
use Rattle.map.specs.Items.{kind_number}
use Rattle.model.specs.Bytes.{put16, put16s}
use Rattle.model.proofs.Bytes.{put16s-length}
use Rattle.map_records.proofs.PutRecords.{put_as, record-length}
use Rattle.map_records.proofs.PutLoops.{all_left, next_fits, next_put, none_left, record_first, fields_from, fields_done}
use Rattle.map_records.proofs.put_fields.Goals as goal

pub put_header-end-requires : goal.put_header-end-requires
put_header-end-requires c =
    (omega arith, omega (arith, c.requires.1, record-length (kind_number c.args.kind) (put16s c.args.fields.now)))

pub loop-field-init : goal.loop-field-init
loop-field-init c =
    next_put (record_first _ _ (sym (put16s-length c.args.fields.now))) (all_left c.requires.1) c.put_header-end.ensures

pub put16-requires : goal.put16-requires
unfolding put16
put16-requires c =
    let room = next_fits (fields_from _ _ c.loop-field-test.true) c.loop-field.invariant in
    omega arith

pub loop-field-preserved : goal.loop-field-preserved
unfolding put16
loop-field-preserved c =
    next_put (fields_from _ _ c.loop-field-test.true) c.loop-field.invariant (put_as refl c.put16.ensures)

pub returns : goal.returns
returns c = none_left (fields_done _ _ c.loop-field-test.false) c.loop-field.invariant
