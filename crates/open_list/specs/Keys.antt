-- What callers see of the open list of n places: a key for each place, 2^32 - 1 for a place that is not open.
-- `OpenList`, `keys_of` and `empty_hand` stay folded in callers' proofs, so that another structure may stand behind them.
use Rattle.std.specs.Prelude.{◌≡◌, List, ℕ, ◌<◌, ◌≤◌, length, get_or, set, replicate}
use Rattle.open_list.specs.Entry.{no_key}
use Rattle.open_list.specs.Hand.{TreeAndHand, with_hand}
use Rattle.open_list.specs.Tree.{tree_keys}
-- the words to lend, and what `clear` asks of them
pub use Rattle.open_list.specs.Size.{words_for, Room}

-- k is the least key; where it is a key at all (below 2^32 - 1), p is the lowest place that has it
pub record LeastKey (ks : List ℕ) (p k : ℕ) : Type 0 where
  pub least : (q : ℕ) → q < length ks → k ≤ get_or ks q 0
  pub place : k < no_key → p < length ks
  pub key : k < no_key → get_or ks p 0 ≡ k
  pub before : (q : ℕ) → k < no_key → q < p → k < get_or ks q 0

-- the words and the hand are an open list of n places
unfoldable pub OpenList : ℕ → ℕ → List ℕ → Type 0
OpenList n hand words = TreeAndHand n hand words

-- its keys, one for each place
unfoldable pub keys_of : ℕ → ℕ → List ℕ → List ℕ
keys_of n hand words = with_hand (tree_keys n words) hand

-- the hand with nothing in it
unfoldable pub empty_hand : ℕ
empty_hand = 18446744073709551615

-- what `reset` asks: words that an open list has been kept in, with some hand
pub record Used (n : ℕ) (words : List ℕ) : Type 0 where
  pub hand : ℕ
  pub list : OpenList n hand words

-- what `clear` and `reset` leave: no place is open
pub record Cleared (n : ℕ) (words : List ℕ) : Type 0 where
  pub list : OpenList n empty_hand words
  pub keys_none : keys_of n empty_hand words ≡ replicate n no_key

-- what `lower` asks: the key is one, and none above the one that the place has
pub record CanLower (n hand place key : ℕ) (words : List ℕ) : Type 0 where
  pub list : OpenList n hand words
  pub place_in : place < n
  pub some : key < no_key
  pub below : key ≤ get_or (keys_of n hand words) place 0

-- what `close` asks
pub record CanClose (n hand place : ℕ) (words : List ℕ) : Type 0 where
  pub list : OpenList n hand words
  pub place_in : place < n

-- what `lower` and `close` leave: the place has got this key, and no other place another
pub record Put (n place key old_hand : ℕ) (old : List ℕ) (hand : ℕ) (words : List ℕ) : Type 0 where
  pub list : OpenList n hand words
  pub keys_set : keys_of n hand words ≡ set (keys_of n old_hand old) place key
