-- The fixed table is not put; of any other its header is put, and then the bytes of its record.
use mathlib.Core.Path.{◌≡◌, ◌∙◌}
use mathlib.Core.Bool.{false}
use Prim.Native.Nat.{◌+◌, ◌≤◌}
use native.Mathlib.Omega.{arith}
use lib.ListN.{length}
use borrow.Author.Rules.{rules}
use Rattle.model.specs.Bytes.{put16}
use Rattle.model.specs.Lists.{same_numbers}
use Rattle.model.specs.Items.{factors_bytes}
use Rattle.model.specs.Stated.{fixed_factors}
use Rattle.std.specs.Prelude.{Some}
use Rattle.map.specs.Items.{table_at}
use Rattle.map_records.proofs.Tables.{tables_compared, fixed_left_out, none_left_out, factor_bytes_length, table-length, table_fields}
use Rattle.map_records.proofs.put_table.Goals.{Else-eq}
use Rattle.map_records.proofs.put_table.Goals as goal

-- the table is not the fixed one, so it stands in the input, and there is room for it
differs : (c : Else-eq) → same_numbers (table_at c.args.input.now (Some c.in-Some.from)) fixed_factors ≡ false
differs c = tables_compared c.eq.ensures c.factors-factors.ensures c.fixed_factors-fixed.ensures ∙ c.if-eq.false

lies : (c : Else-eq) → c.in-Some.from + factors_bytes ≤ length c.args.input.now
lies c = c.requires.0 _ c.in-Some.is

room : (c : Else-eq) → let a = c.args in a.at + 4 + factors_bytes ≤ length a.out.now
room c = omega (arith, table-length _ _ (lies c) (differs c), rw c.in-Some.is at c.requires.1)

pub returns-in_default : goal.returns-in_default
returns-in_default c = rw c.in_default.is (none_left_out _ _ _)

pub returns-then-eq : goal.returns-then-eq
returns-then-eq c =
    let same = tables_compared c.eq.ensures c.factors-factors.ensures c.fixed_factors-fixed.ensures ∙ c.if-eq.true in
    rw c.in-Some.is (fixed_left_out _ same _ _)

pub put_header-body-requires : goal.put_header-body-requires
put_header-body-requires c = let r = room (goal.at.put_header-body-requires c).Else-eq in (omega arith, omega arith)

pub slice_bounds-put_bytes-end : goal.slice_bounds-put_bytes-end
slice_bounds-put_bytes-end c = let l = lies (goal.at.slice_bounds-put_bytes-end c).Else-eq in search rules

pub put_bytes-requires : goal.put_bytes-requires
unfolding put16
put_bytes-requires c =
    let own = (goal.at.put_bytes-requires c).Else-eq in
    let size = factor_bytes_length _ _ (lies own) (differs own) in
    let r = room own in
    omega arith

pub overflow_add-result : goal.overflow_add-result
unfolding put16
overflow_add-result c = let r = room (goal.at.overflow_add-result c).Else-eq in omega arith

pub returns : goal.returns
returns c =
    let own = (goal.at.returns c).Else-eq in
    rw own.in-Some.is
    (table_fields _ _ (lies own) (differs own) _ _ (λ i. (c.shared_slice_known-1.given i).fits) c.put_header-body.ensures c.put_bytes.ensures)
