-- A default of 0 is not put; of any other the header and the number stand one after another.
use mathlib.Core.Path.{refl}
use native.Mathlib.Omega.{arith}
use Rattle.model.specs.Bytes.{put16, put32}
use Rattle.map_records.proofs.PutRecords.{put_next, put_is, zero_left_out, default_text, default-length}
use Rattle.map_records.proofs.put_default.Goals as goal

pub returns-then-value-eq0 : goal.returns-then-value-eq0
returns-then-value-eq0 c = zero_left_out _ c.if-value-eq0.true _ _

pub put_header-body-requires : goal.put_header-body-requires
put_header-body-requires c = (omega arith, omega (arith, default-length _ c.if-value-eq0.false, c.requires))

pub put32-requires : goal.put32-requires
unfolding put16
put32-requires c = omega (arith, default-length _ c.if-value-eq0.false, c.requires)

pub overflow_add-result : goal.overflow_add-result
unfolding put16
overflow_add-result c = omega (arith, default-length _ c.if-value-eq0.false, c.requires)

pub returns : goal.returns
unfolding put32
returns c =
    put_is (put_next (put32 c.args.value) c.put_header-body.ensures c.put32.ensures refl refl) (default_text _ c.if-value-eq0.false)
