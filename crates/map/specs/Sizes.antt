-- Which numbers of places and arcs are a map's size, and what a map of that size asks to be lent.
use Rattle.std.specs.Prelude.{Bool, cond, ◌||◌, ℕ, ltb, Option, Some, None}
use Rattle.map.specs.declared.Map.{Map}
use Rattle.map.specs.declared.Site.{Site}
use Rattle.model.specs.Items.{Size}
use Rattle.model.specs.Refusals.{work_words, sheet_bytes}
use Rattle.model.specs.Limits.{max_places, max_arcs}

-- "N or M out of range"
abbrev pub out_of_range : ℕ → ℕ → Bool
out_of_range n m = ltb n 1 || ltb max_places n || ltb max_arcs m

-- the map of n places and m arcs, where the limits allow it
unfoldable pub map_of : ℕ → ℕ → Option Map
map_of n m = cond (out_of_range n m) None (Some (record { places = n; arcs = m }))

-- a site's size in the definitions' terms; the words and bytes that document 01 asks for it
abbrev pub size_of : Site → Size
size_of s = record { places = s.places; arcs = s.arcs }

abbrev pub words_of : Site → ℕ
words_of s = work_words (size_of s)

abbrev pub bytes_of : Site → ℕ
bytes_of s = sheet_bytes (size_of s)
