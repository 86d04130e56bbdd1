-- An entry: a place and its key as one number, the key before the place.
use Rattle.std.specs.Prelude.{◌≡◌, ℕ, ◌+◌, ◌*◌, ◌/◌, ◌%◌, ◌<◌}

-- 2^32: words, and so places and keys, are below it
abbrev pub word_end : ℕ
word_end = 4294967296

abbrev pub entry : ℕ → ℕ → ℕ
entry place key = key * word_end + place

abbrev pub place_of : ℕ → ℕ
place_of e = e % word_end

abbrev pub key_of : ℕ → ℕ
key_of e = e / word_end

-- the key of a place that is not open, 2^32 - 1, and the least entry with it
abbrev pub no_key : ℕ
no_key = 0xFFFF_FFFF

abbrev pub no_entry : ℕ
no_entry = 18446744069414584320

pub record IsEntry (place key e : ℕ) : Type 0 where
  pub place_is : place_of e ≡ place
  pub key_is : key_of e ≡ key

-- r is this word
pub record IsWord (word r : ℕ) : Type 0 where
  pub same : r ≡ word
  pub small : r < word_end
