-- The invariants of the tree's loops. They speak first of any numbers f in an eight-fold tree.
use Rattle.std.specs.Prelude.{◌≡◌, List, ◌≢◌, ℕ, ◌<◌, min}
use Rattle.open_list.specs.Entry.{no_entry}
use Rattle.open_list.specs.Tree.{Shape, Right, tree_keys, entry_at, least8, first_child}

-- all of m nodes are right but i, whose children's least is y
pub record Mending (m : ℕ) (f : ℕ → ℕ) (i y : ℕ) : Type 0 where
  pub low : i < m
  pub rest : (j : ℕ) → j < m → j ≢ i → Right f j
  pub here : least8 f (first_child i) ≡ y

-- lower: entry x has reached the children of node i
pub record Lowering (n m : ℕ) (keys words : List ℕ) (x i : ℕ) : Type 0 where
  pub shape : Shape n m words
  pub same : tree_keys n words ≡ keys
  pub next : Mending m (entry_at m words) i (min (entry_at m words i) (min x no_entry))

-- close: node i is to get entry x, and is not stored yet
pub record Closing (n m : ℕ) (keys words : List ℕ) (x i : ℕ) : Type 0 where
  pub shape : Shape n m words
  pub same : tree_keys n words ≡ keys
  pub next : Mending m (entry_at m words) i (min x no_entry)
