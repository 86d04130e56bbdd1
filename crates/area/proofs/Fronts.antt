-- The front of the words was lent and has come back. Assumes nothing.
use mathlib.Core.Path.{◌≡◌}
use mathlib.Core.List.{List}
use Prim.Native.Nat.{ℕ, ◌-◌, ◌≤◌}
use native.Mathlib.Omega.{arith}
use lib.ListN.{length, take, drop, replicate, length-replicate}
use lib.Seq.{length-take-le}
use borrow.Rule.Slice.PartMut.{put_mid}
use Rattle.model.specs.Answer.{over_front}

-- it comes back as zeros, and the rest is as in work₀.
pub cleared : (need : ℕ) (work₀ work front : List ℕ) → need ≤ length work → drop need work ≡ drop need work₀
    → front ≡ replicate (length (take (need - 0) (drop 0 work))) 0 → put_mid 0 (need - 0) work front ≡ over_front (replicate need 0) work₀
unfolding over_front
cleared need work₀ work front l e f =
    let all : need - 0 ≡ need = omega arith in
    let zeros : front ≡ replicate need 0 = rw (f, all, length-take-le need work l) in
    rw (zeros, all, length-replicate, e)
