-- Fields of 2 and 4 bytes, little-endian, read from a list of bytes and written as one.
use Rattle.std.specs.Prelude.{List, [], ◌∷◌, ◌++◌, ℕ, zero, suc, ◌+◌, ◌*◌, ◌/◌, ◌%◌, ◌<◌, get_or}

-- what a slice of bytes holds
abbrev pub Bytes : List ℕ → Type 0
Bytes b = (i : ℕ) → get_or b i 0 < 256

-- the 2-byte field that begins at byte i
unfoldable pub u16 : List ℕ → ℕ → ℕ
u16 b i = get_or b i 0 + 256 * get_or b (i + 1) 0

unfoldable pub u32 : List ℕ → ℕ → ℕ
u32 b i = u16 b i + 65536 * u16 b (i + 2)

-- n fields of 2 bytes, the first at byte i
unfoldable pub u16s : ℕ → List ℕ → ℕ → List ℕ
u16s zero b i = []
u16s (suc n) b i = u16 b i ∷ u16s n b (i + 2)

unfoldable pub put16 : ℕ → List ℕ
put16 n = n % 256 ∷ n / 256 % 256 ∷ []

unfoldable pub put32 : ℕ → List ℕ
put32 n = n % 256 ∷ n / 256 % 256 ∷ n / 65536 % 256 ∷ n / 16777216 % 256 ∷ []

unfoldable pub put16s : List ℕ → List ℕ
put16s [] = []
put16s (x ∷ xs) = put16 x ++ put16s xs
