-- Laws for callers, who see the list of keys alone.
-- Assumes nothing.
use mathlib.Core.Path.{◌≡◌, ◌∙◌}
use mathlib.Core.List.{List}
use Prim.Native.Nat.{ℕ}
use lib.ListN.{length, length-set}
use Rattle.open_list.specs.Entry.{place_of, key_of}
use Rattle.open_list.specs.Hand.{with_hand}
use Rattle.open_list.specs.Keys.{OpenList, keys_of, words_for}
use Rattle.open_list.specs.Size.{nodes_for}
use Rattle.open_list.specs.Tree.{tree_keys}
use Rattle.open_list.proofs.Stores as stores

-- an open list of n places has a key for each of them
pub keys_length : (n hand : ℕ) (words : List ℕ) → OpenList n hand words → length (keys_of n hand words) ≡ n
unfolding OpenList keys_of with_hand
keys_length n hand words o =
    length-set (tree_keys n words) (place_of hand) (key_of hand) ∙ stores.keys_length n (nodes_for n) words o.tree.shape

-- and all the words that were lent for it
pub words_length : (n hand : ℕ) (words : List ℕ) → OpenList n hand words → length words ≡ words_for n
unfolding OpenList
words_length n hand words o = o.tree.shape.room.len
