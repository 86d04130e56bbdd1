-- The tournament tree under the open list of n places: m nodes of two words, the place and the key of an entry, then 7 * m + 1 keys.
-- What stands at m + p is the leaf of place p; the leaves beyond the n places have no key.
use Rattle.std.specs.Prelude.{◌≡◌, List, ℕ, zero, suc, ◌+◌, ◌-◌, ◌*◌, ◌/◌, ◌<◌, ◌≤◌, min, length, get_or, take, drop, set, replicate}
use Rattle.std.proofs.Math.Logic.{ite}
use Rattle.std.proofs.Math.Decide.{dec_lt}
use Rattle.open_list.specs.Entry.{entry, place_of, key_of, word_end, no_key, no_entry}
use Rattle.open_list.specs.Size.{Room, Nodes, nodes_for}

-- the keys, one for each place
unfoldable pub tree_keys : ℕ → List ℕ → List ℕ
tree_keys n words = take n (drop (nodes_for n + nodes_for n) words)

-- the entries of a node and of a place
unfoldable pub node_entry : List ℕ → ℕ → ℕ
node_entry words i = entry (get_or words (i + i) 0) (get_or words (i + i + 1) 0)

unfoldable pub leaf_entry : ℕ → List ℕ → ℕ → ℕ
leaf_entry m words p = entry p (get_or words (m + m + p) 0)

-- the words once entry x is put down at node i
abbrev pub stored : List ℕ → ℕ → ℕ → List ℕ
stored words i x = set (set words (i + i) (place_of x)) (i + i + 1) (key_of x)

-- the least of f c, f (c + 1) and so on up to f (c + k); and of eight that follow one another
unfoldable pub least_to : (ℕ → ℕ) → ℕ → ℕ → ℕ
least_to f c zero = f c
least_to f c (suc k) = min (least_to f c k) (f (c + suc k))

abbrev pub least8 : (ℕ → ℕ) → ℕ → ℕ
least8 f c = least_to f c 7

-- the least of four, in the order in which the code takes it
abbrev pub least4 : (ℕ → ℕ) → ℕ → ℕ
least4 f c = min (min (f c) (f (c + 1))) (min (f (c + 2)) (f (c + 3)))

-- the first of the eight children of node j, and the node that has the child i
abbrev pub first_child : ℕ → ℕ
first_child j = 8 * j + 1

abbrev pub parent : ℕ → ℕ
parent i = (i - 1) / 8

-- of numbers f in a tree, that of node j is the least of its children's; and so it is for each of m nodes
abbrev pub Right : (ℕ → ℕ) → ℕ → Type 0
Right f j = f j ≡ least8 f (first_child j)

abbrev pub AllRight : ℕ → (ℕ → ℕ) → Type 0
AllRight m f = (j : ℕ) → j < m → Right f j

-- what stands at j: a node's entry, or beyond the nodes a place's. All entries without a key count as one.
unfoldable pub entry_at : ℕ → List ℕ → ℕ → ℕ
entry_at m words j = min (ite (dec_lt j m) (node_entry words j) (leaf_entry m words (j - m))) no_entry

-- words for n places and m nodes, with no key beyond the places
pub record Shape (n m : ℕ) (words : List ℕ) : Type 0 where
  pub room : Room n words
  pub nodes : Nodes n m
  pub beyond : (p : ℕ) → n ≤ p → p < 7 * m + 1 → get_or words (m + m + p) 0 ≡ no_key

pub record Tournament (n : ℕ) (words : List ℕ) : Type 0 where
  pub shape : Shape n (nodes_for n) words
  pub right : AllRight (nodes_for n) (entry_at (nodes_for n) words)

-- l leaves from place p on are in the words, and each place fits into an entry
pub record LeafRun (l m p : ℕ) (words : List ℕ) : Type 0 where
  pub inside : m + m + p + l ≤ length words
  pub small : p + l ≤ word_end

-- what the tree's `close` and `key` ask
pub record TreePlace (n p : ℕ) (words : List ℕ) : Type 0 where
  pub tree : Tournament n words
  pub place_in : p < n

-- what its `lower` asks
pub record TreeLowers (n p key : ℕ) (words : List ℕ) : Type 0 where
  pub tree : Tournament n words
  pub place_in : p < n
  pub below : key ≤ get_or (tree_keys n words) p 0

-- what `lower` and `close` leave: a tree in which p has got this key, and no other place another
pub record TreePut (n p key : ℕ) (old words : List ℕ) : Type 0 where
  pub tree : Tournament n words
  pub keys_set : tree_keys n words ≡ set (tree_keys n old) p key

-- what `clear` leaves
pub record TreeCleared (n : ℕ) (words : List ℕ) : Type 0 where
  pub tree : Tournament n words
  pub keys_none : tree_keys n words ≡ replicate n no_key
