use mathlib.Core.Path.{ap, ◌∙◌}
use mathlib.Core.List.{List, [], ◌∷◌}
use Prim.Native.Nat.{ℕ, ◌+◌}
use native.Mathlib.Numerals.{add-one}
use native.Mathlib.Omega.{arith}
use lib.ListN.{get_or, take, set, length-set}
use lib.Seq.{take-suc, length-take-le}
use Rattle.area.proofs.Sets.{sets_join}
use Rattle.area.proofs.put_bytes.Goals as goal

pub loop-k-preserved : goal.loop-k-preserved
loop-k-preserved c =
    let l = c.loop-k in
    let a = c.args in
    let bytes = a.bytes.now in
    let x = get_or bytes l.k 0 in
    let joined = sets_join (take l.k bytes) (x ∷ []) a.s.now a.i (a.i + l.k) (rw (length-take-le l.k bytes (omega arith))) in (
      length-set l.s (a.i + l.k) x ∙ l.invariant.0,
      ap (λ (s : List ℕ). set s (a.i + l.k) x) l.invariant.1 ∙ joined ∙ rw (add-one, take-suc bytes l.k 0 (omega arith)),
    )
