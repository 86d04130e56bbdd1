-- The cost is the first goal's label; goal and parents are what the passes over the records give. Assumes nothing.
use mathlib.Core.Path.{refl}
use Rattle.layout.proofs.Labels.{label_kept}
use Rattle.search.proofs.found.Goals as goal

pub label-cost-requires : goal.label-cost-requires
label-cost-requires c = (label_kept _ _ _ refl _ _ c.requires.label).1

pub returns : goal.returns
returns c =
    let word = (label_kept _ _ _ refl _ _ c.requires.label).2 in
    record {
      parents = c.parents.ensures;
      cost = c.requires.cost;
      label = c.requires.label;
      goal = c.nearest_goal-goal.result;
      nearest = c.nearest_goal-goal.ensures;
      verdict = rw (c.label-cost.ensures, word);
    }
