-- Numbers in decimal and lines of them as bytes, and what putting bytes into a text leaves.
use Rattle.std.specs.Prelude.{◌≡◌, cond, List, [], ◌∷◌, ◌++◌, ℕ, zero, suc, ◌+◌, ◌/◌, ◌%◌, ltb, length, take, drop}

-- the ASCII codes of what stands between numbers and after a line
abbrev pub blank : ℕ
blank = 32

abbrev pub line_feed : ℕ
line_feed = 10

-- a number's decimal digits in ASCII, as few as hold it; the first number bounds them
unfoldable pub decimal_up_to : ℕ → ℕ → List ℕ
decimal_up_to zero n = (48 + n % 10) ∷ []
decimal_up_to (suc k) n = cond (ltb n 10) ((48 + n) ∷ []) (decimal_up_to k (n / 10) ++ ((48 + n % 10) ∷ []))

unfoldable pub decimal : ℕ → List ℕ
decimal n = decimal_up_to n n

-- numbers parted by one blank
unfoldable pub parted : List ℕ → List ℕ
parted [] = []
parted (x ∷ []) = decimal x
parted (x ∷ y ∷ xs) = decimal x ++ (blank ∷ parted (y ∷ xs))

-- what number i of a line, x, adds to it: a blank before all but the first
unfoldable pub in_line : ℕ → ℕ → List ℕ
in_line zero x = decimal x
in_line (suc i) x = blank ∷ decimal x

-- a line: numbers parted by one blank, then a line feed
unfoldable pub line : List ℕ → List ℕ
line xs = parted xs ++ (line_feed ∷ [])

-- the ASCII of `too long` and a line feed, which the programs say of an input that is longer than they take
abbrev pub too_long : List ℕ
too_long = 116 ∷ 111 ∷ 111 ∷ 32 ∷ 108 ∷ 111 ∷ 110 ∷ 103 ∷ line_feed ∷ []

-- What a function that puts bytes into a text at a position leaves: the new bytes there, and nothing else changed. The position after them
-- comes back.
pub record Put (new : List ℕ) (at : ℕ) (old text : List ℕ) (r : ℕ) : Type 0 where
  pub end : r ≡ at + length new
  pub bytes : text ≡ take at old ++ (new ++ drop (at + length new) old)
