-- How many words the open list has for n places, and how many nodes its tree has in them.
use Rattle.std.specs.Prelude.{◌≡◌, List, ℕ, ◌+◌, ◌*◌, ◌/◌, ◌≤◌, length}
use Rattle.model.specs.Limits.{max_places}

-- ten words for each place
abbrev pub words_for : ℕ → ℕ
words_for n = 10 * n

-- what `clear` asks: words for n places
pub record Room (n : ℕ) (words : List ℕ) : Type 0 where
  pub some : 1 ≤ n
  pub few : n ≤ max_places
  pub len : length words ≡ words_for n

-- the nodes for n places: one node has 8 keys, and each 8 nodes more have 56 keys more
unfoldable pub nodes_for : ℕ → ℕ
nodes_for n = 8 * ((n + 47) / 56) + 1

-- the words that a tree of m nodes uses: two for each node, and one for each of their 7 * m + 1 keys
abbrev pub words_of : ℕ → ℕ
words_of m = 9 * m + 1

-- what the tree's `nodes` says: the children of each of m nodes are all nodes or all leaves, and n places have leaves and words enough
pub record Nodes (n m : ℕ) : Type 0 where
  pub rows : ℕ
  pub form : m ≡ 8 * rows + 1
  pub same : m ≡ nodes_for n
  pub keys : n ≤ 7 * m + 1
  pub words : words_of m ≤ words_for n
