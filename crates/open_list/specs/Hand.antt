-- One place held in hand beside a list of keys. The hand is an entry; that of an empty hand has a place beyond the list.
use Rattle.std.specs.Prelude.{◌≡◌, List, ℕ, ◌<◌, ◌≤◌, length, get_or, set}
use Rattle.open_list.specs.Entry.{place_of, key_of, no_key}
use Rattle.open_list.specs.Tree.{Tournament, tree_keys}

-- the keys of the list and the hand together
unfoldable pub with_hand : List ℕ → ℕ → List ℕ
with_hand keys hand = set keys (place_of hand) (key_of hand)

-- a place in hand has a key, and none in the list; an empty hand has none
pub record Held (keys : List ℕ) (hand : ℕ) : Type 0 where
  pub free : place_of hand < length keys → get_or keys (place_of hand) 0 ≡ no_key
  pub some : place_of hand < length keys → key_of hand < no_key
  pub idle : length keys ≤ place_of hand → key_of hand ≡ no_key

-- list and hand together: the place has got this key, and no other place another
pub record HandPut (place key : ℕ) (old_keys : List ℕ) (old_hand : ℕ) (keys : List ℕ) (hand : ℕ) : Type 0 where
  pub held : Held keys hand
  pub keys_set : with_hand keys hand ≡ set (with_hand old_keys old_hand) place key

-- all that the open list's structure needs
pub record TreeAndHand (n hand : ℕ) (words : List ℕ) : Type 0 where
  pub tree : Tournament n words
  pub held : Held (tree_keys n words) hand
