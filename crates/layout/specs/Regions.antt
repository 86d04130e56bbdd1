-- The regions of the work area for n places, one after another: n labels, n depths, 10 × n words of the open list, n parents, n row ends,
-- n estimates, n goal marks; then a word for each arc, the arcs of a place side by side; then as many words that nobody uses. While a map is loaded
-- its waits lie where the parents will.
use Rattle.std.specs.Prelude.{List, ℕ, ◌+◌, ◌*◌, ◌/◌, ◌%◌, ◌≤◌, ◌<◌, length, get_or, set}
use Rattle.model.specs.Limits.{max_places}

-- where each region begins; the labels begin at 0
abbrev pub depths_at : ℕ → ℕ
depths_at n = n

abbrev pub open_at : ℕ → ℕ
open_at n = 2 * n

abbrev pub parents_at : ℕ → ℕ
parents_at n = 12 * n

-- the waits, until the map is loaded
abbrev pub waits_at : ℕ → ℕ
waits_at n = parents_at n

abbrev pub ends_at : ℕ → ℕ
ends_at n = 13 * n

abbrev pub estimates_at : ℕ → ℕ
estimates_at n = 14 * n

abbrev pub goals_at : ℕ → ℕ
goals_at n = 15 * n

abbrev pub arcs_at : ℕ → ℕ
arcs_at n = 16 * n

-- a place's label, depth, parent, wait, row end, estimate and goal mark, and the word of arc number k
abbrev pub label_word : List ℕ → ℕ → ℕ
label_word w v = get_or w v 0

abbrev pub depth_word : ℕ → List ℕ → ℕ → ℕ
depth_word n w v = get_or w (depths_at n + v) 0

abbrev pub parent_word : ℕ → List ℕ → ℕ → ℕ
parent_word n w v = get_or w (parents_at n + v) 0

abbrev pub wait_word : ℕ → List ℕ → ℕ → ℕ
wait_word n w v = get_or w (waits_at n + v) 0

abbrev pub end_word : ℕ → List ℕ → ℕ → ℕ
end_word n w v = get_or w (ends_at n + v) 0

abbrev pub estimate_word : ℕ → List ℕ → ℕ → ℕ
estimate_word n w v = get_or w (estimates_at n + v) 0

abbrev pub goal_word : ℕ → List ℕ → ℕ → ℕ
goal_word n w v = get_or w (goals_at n + v) 0

abbrev pub arc_word : ℕ → List ℕ → ℕ → ℕ
arc_word n w k = get_or w (arcs_at n + k) 0

-- the words with another label, depth or parent of v
abbrev pub with_label : List ℕ → ℕ → ℕ → List ℕ
with_label w v d = set w v d

abbrev pub with_depth : ℕ → List ℕ → ℕ → ℕ → List ℕ
with_depth n w v k = set w (depths_at n + v) k

abbrev pub with_parent : ℕ → List ℕ → ℕ → ℕ → List ℕ
with_parent n w v u = set w (parents_at n + v) u

-- An arc in one word: its end, and its cost. Both are below this number.
abbrev pub part_end : ℕ
part_end = 65536

abbrev pub arc_end : ℕ → ℕ
arc_end x = x / part_end

abbrev pub arc_cost : ℕ → ℕ
arc_cost x = x % part_end

abbrev pub word_of_arc : ℕ → ℕ → ℕ
word_of_arc to cost = part_end * to + cost

-- v is one of n places, whose regions the words have
pub record HasPlace (n v : ℕ) (w : List ℕ) : Type 0 where
  pub few : n ≤ max_places
  pub place : v < n
  pub room : arcs_at n ≤ length w

-- the words have an arc number k
pub record HasArc (n k : ℕ) (w : List ℕ) : Type 0 where
  pub few : n ≤ max_places
  pub room : arcs_at n + k < length w
