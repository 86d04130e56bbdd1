-- The open list in the work area, its keys, and which places are settled.
use Rattle.std.specs.Prelude.{Bool, not, ◌&&◌, List, ℕ, eqb, ltb, get_or, take, drop}
use Rattle.open_list.specs.Entry.{no_key}
use Rattle.open_list.specs.Keys.{words_for, keys_of}
use Rattle.layout.specs.Regions.{open_at, label_word}
use Rattle.layout.specs.Labels.{no_word}

-- the words of the open list, and its keys
unfoldable pub open_words : ℕ → List ℕ → List ℕ
open_words n w = take (words_for n) (drop (open_at n) w)

unfoldable pub keys : (n hand : ℕ) → List ℕ → List ℕ
keys n hand w = keys_of n hand (open_words n w)

-- a place is settled when it has a label and is not open
unfoldable pub settled_at : (n hand : ℕ) → List ℕ → ℕ → Bool
settled_at n hand w v = ltb v n && (not (eqb (label_word w v) no_word) && eqb (get_or (keys n hand w) v 0) no_key)
