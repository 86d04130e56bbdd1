-- For k = (places + 47) / 56, the 56 * k + 8 keys are enough, and their 72 * k + 10 words are at most ten a place.
-- Assumes nothing.
use Prim.Native.Nat.{◌+◌, ◌/◌}
use native.Mathlib.Omega.{arith}
use Rattle.open_list.specs.Size.{nodes_for}
use Rattle.open_list.proofs.tree.nodes.Goals as goal

pub returns : goal.returns
unfolding nodes_for
returns c =
    record {
      rows = (c.args.places + 47) / 56;
      form = omega arith;
      same = omega arith;
      keys = omega arith;
      words = omega arith;
    }
