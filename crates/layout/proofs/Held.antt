-- A map that the work area holds: it depends on the words from the row ends on alone; its arcs are the words of its rows, its goals the
-- marks. Assumes nothing.
use mathlib.Core.Path.{◌≡◌, refl, sym, ap, ◌∙◌}
use mathlib.Core.Logic.{◌⊎◌, inl, inr}
use mathlib.Core.Bool.{cond, not}
use mathlib.Core.List.Memᴰ
use mathlib.Core.List.{List, ◌++◌, Memᴰ}
use Prim.Native.Nat.{ℕ, zero, suc, ◌+◌, ◌-◌, ◌≤◌, ◌<◌}
use native.Mathlib.Omega.{arith}
use native.Mathlib.Decide.{ℕ_discrete}
use lib.Dec.{eqb, ltb}
use lib.ListN.{length, get_or, take, drop, length-take, length-drop}
use lib.Seq.{get_or-take, get_or-drop}
use borrow.Author.Tests.{lt-ltb, le-ltb, ne_eqb, eqb-false, not-true}
use Rattle.model.specs.Lists.{filter, below}
use Rattle.model.specs.Limits.{max_places, max_cost}
use Rattle.model.specs.Problem.{Arc, IsArc, IsGoal}
use Rattle.model.proofs.Lists.{filter-member, below-member, member-at, at-member}
use Rattle.area.proofs.Parts.{same_after, less_after}
use Rattle.map.specs.declared.Site.{Site}
use Rattle.layout.specs.Regions.{ends_at, estimates_at, goals_at, arcs_at, estimate_word, goal_word, arc_word, arc_end, arc_cost, word_of_arc, HasPlace}
use Rattle.layout.specs.Map.{row_start, row_end, row, rows_below, arc_in, problem_at, Holds}

-- the row of a place after the first begins where the row before it ends
pub row_start_after : (n : ℕ) (w : List ℕ) (v : ℕ) → (v ≡ 0 → ⊥) → row_end n w (v - 1) ≡ row_start n w v
unfolding row_start row_end
row_start_after n w zero h = absurd (h refl)
row_start_after n w (suc v) h = let before : suc v - 1 ≡ v = omega arith in rw before

module _ (n : ℕ) (w w₀ : List ℕ) (same : drop (ends_at n) w ≡ drop (ends_at n) w₀) where
  -- a word of the map
  pub map-word : (i : ℕ) → ends_at n ≤ i → get_or w i 0 ≡ get_or w₀ i 0
  map-word i h = same_after (ends_at n) w₀ w i same h

  map-rest : (i : ℕ) → ends_at n ≤ i → drop i w ≡ drop i w₀
  map-rest i h = less_after i (ends_at n) w₀ w h same

  pub start_same : (v : ℕ) → row_start n w v ≡ row_start n w₀ v
  unfolding row_start
  start_same zero = refl
  start_same (suc v) = map-word (ends_at n + v) (omega arith)

  pub end_same : (v : ℕ) → row_end n w v ≡ row_end n w₀ v
  unfolding row_end
  end_same v = map-word (ends_at n + v) (omega arith)

  row_same : (v : ℕ) → row n w v ≡ row n w₀ v
  unfolding row
  row_same v = rw (start_same v, end_same v, map-rest (arcs_at n + row_start n w₀ v) (omega arith))

  pub rows_same : (k : ℕ) → rows_below n w k ≡ rows_below n w₀ k
  unfolding rows_below
  rows_same zero = refl
  rows_same (suc k) = rw (rows_same k, row_same k)

module _ (s : Site) (w w₀ : List ℕ) (same : drop (ends_at s.places) w ≡ drop (ends_at s.places) w₀) where
  pub problem_same : problem_at s w ≡ problem_at s w₀
  unfolding problem_at
  problem_same i =
      let n = s.places in
      let word = map-word n w w₀ same in
      record {
        places = n;
        arcs = rows_same n w w₀ same n i;
        estimate = λ v. cond (ltb v n) (word (estimates_at n + v) (omega arith) i) 0;
        start = s.start;
        goals = filter (λ v. not (eqb (word (goals_at n + v) (omega arith) i) 0)) (below n);
        growth = s.growth;
      }

  pub holds_same : length w ≡ length w₀ → Holds s w₀ → Holds s w
  holds_same l h =
      let start = start_same s.places w w₀ same in
      let end = end_same s.places w w₀ same in
      record {
        valid = rw problem_same h.valid;
        room = omega (arith, h.room);
        row_rises = λ v k. rw (start v, end v) (h.row_rises v k);
        row_in = λ v k. rw (end v) (h.row_in v k);
        growth_below = h.growth_below;
      }

-- an arc is read back from its word
pub arc_back : (v : ℕ) (a : Arc) → a.from ≡ v → a.cost ≤ max_cost → arc_in v (word_of_arc a.to a.cost) ≡ a
unfolding arc_in
arc_back v a from small =
    let to : arc_end (word_of_arc a.to a.cost) ≡ a.to = omega arith in
    let cost : arc_cost (word_of_arc a.to a.cost) ≡ a.cost = omega arith in
    λ i. record { from = sym from i; to = to i; cost = cost i }

-- an arc of a map, by its number
pub record ArcAt (n : ℕ) (w : List ℕ) (a : Arc) : Type 0 where
  pub from : a.from < n
  pub number : ℕ
  pub begins : row_start n w a.from ≤ number
  pub ends : number < row_end n w a.from
  pub to : arc_end (arc_word n w number) ≡ a.to
  pub cost : arc_cost (arc_word n w number) ≡ a.cost

-- the words of a row
abbrev row_words : ℕ → List ℕ → ℕ → List ℕ
row_words n w v = take (row_end n w v - row_start n w v) (drop (arcs_at n + row_start n w v) w)

module _ (n : ℕ) (w : List ℕ) where
  -- an arc of the rows is in the row of a place, and an arc of a row is one of the rows
  pub row_of : (k : ℕ) (a : Arc) → Memᴰ a (rows_below n w k) → (v : ℕ) × (v < k) × Memᴰ a (row n w v)
  unfolding rows_below
  row_of zero a i = absurd (Memᴰ.not-nil i)
  row_of (suc k) a i = go (Memᴰ.append_cases (rows_below n w k) i) (row_of k a)
    where
      go : Memᴰ a (rows_below n w k) ⊎ Memᴰ a (row n w k)
          → (Memᴰ a (rows_below n w k) → (v : ℕ) × (v < k) × Memᴰ a (row n w v)) → (v : ℕ) × (v < suc k) × Memᴰ a (row n w v)
      go (inl j) rest = let r = rest j in (r.0, omega (arith, r.1), r.2)
      go (inr j) rest = (k, omega arith, j)

  pub of_row : (k : ℕ) (a : Arc) (v : ℕ) → v < k → Memᴰ a (row n w v) → Memᴰ a (rows_below n w k)
  unfolding rows_below
  of_row zero a v h i = absurd (omega arith)
  of_row (suc k) a v h i = go (ℕ_discrete v k) (λ l. of_row k a v l i)
    where
      go : Dec (v ≡ k) → (v < k → Memᴰ a (rows_below n w k)) → Memᴰ a (rows_below n w k ++ row n w k)
      go (yes q) rest = Memᴰ.append_right (rows_below n w k) (rw q at i)
      go (no q) rest = Memᴰ.append_left (row n w k) (rest (omega arith))

  -- an arc of a row leaves the row's place
  pub row_from : (u : ℕ) (a : Arc) → Memᴰ a (row n w u) → a.from ≡ u
  unfolding row arc_in
  row_from u a m = ap (λ (b : Arc). b.from) (member-at (arc_in u) 0 (row_words n w u) a m).2

  word_number : (v i : ℕ) → i < row_end n w v - row_start n w v → get_or (row_words n w v) i 0 ≡ arc_word n w (row_start n w v + i)
  word_number v i h =
      let q : arcs_at n + row_start n w v + i ≡ arcs_at n + (row_start n w v + i) = omega arith in
      let begin = arcs_at n + row_start n w v in
      get_or-take (row_end n w v - row_start n w v) (drop begin w) i 0 h ∙ get_or-drop begin w i 0 ∙ rw q

module _ (s : Site) (w : List ℕ) where
  abbrev n : ℕ
  n = s.places

  pub arc_at : (a : Arc) → IsArc (problem_at s w) a → ArcAt n w a
  unfolding problem_at row arc_in
  arc_at a i =
      let (v, below, in_row) = row_of n w n a i in
      let (k, inside, is) = member-at (arc_in v) 0 (row_words n w v) a in_row in
      let size = length-take (row_end n w v - row_start n w v) (drop (arcs_at n + row_start n w v) w) in
      let l : k < row_end n w v - row_start n w v = omega arith in
      let from : a.from ≡ v = ap (λ (b : Arc). b.from) is in
      let word = ap (arc_in v) (sym (word_number n w v k l)) ∙ sym is in
      record {
        from = omega arith;
        number = row_start n w v + k;
        begins = omega (arith, ap (row_start n w) from);
        ends = omega (arith, ap (row_end n w) from);
        to = ap (λ (b : Arc). b.to) word;
        cost = ap (λ (b : Arc). b.cost) word;
      }

  -- a goal is a place whose mark is not 0, and such a place is a goal
  pub goal_place : (g : ℕ) → IsGoal (problem_at s w) g → g < n
  unfolding problem_at
  goal_place g i = (below-member n g).0 ((filter-member _ (below n) g).0 i).0

  pub goal_mark : (g : ℕ) → IsGoal (problem_at s w) g → goal_word n w g ≡ 0 → ⊥
  unfolding problem_at
  goal_mark g i = eqb-false (goal_word n w g) 0 (not-true _ ((filter-member _ (below n) g).0 i).1)

  pub mark_goal : (g : ℕ) → g < n → (goal_word n w g ≡ 0 → ⊥) → IsGoal (problem_at s w) g
  unfolding problem_at
  mark_goal g h m = (filter-member _ (below n) g).1 ((below-member n g).1 h, rw (ne_eqb (goal_word n w g) 0 m))

  pub estimate_word_lem : (v : ℕ) → v < n → (problem_at s w).estimate v ≡ estimate_word n w v
  unfolding problem_at
  estimate_word_lem v h = rw (lt-ltb v n h)

  -- what is no place has the estimate 0
  pub no_estimate : (v : ℕ) → n ≤ v → (problem_at s w).estimate v ≡ 0
  unfolding problem_at
  no_estimate v l = rw (le-ltb v n l)

  module _ (holds : Holds s w) where
    pub few_places_lem : n ≤ max_places
    unfolding problem_at
    few_places_lem = holds.valid.few_places_lem

    pub map_room : arcs_at n ≤ length w
    map_room = omega (arith, holds.room)

    pub has_place : (u : ℕ) → u < n → HasPlace n u w
    has_place u h = record { few = few_places_lem; place = h; room = map_room }

    pub at_arc : (v k : ℕ) → v < n → row_start n w v ≤ k → k < row_end n w v → IsArc (problem_at s w) (arc_in v (arc_word n w k))
    unfolding problem_at row
    at_arc v k h b e =
        let i = k - row_start n w v in
        let q : row_start n w v + i ≡ k = omega arith in
        let l : i < row_end n w v - row_start n w v = omega arith in
        let room : i < length (row_words n w v) = simp (length-take, length-drop) (omega (arith, holds.row_in v h, holds.room)) in
        let word = ap (arc_in v) (rw q at (sym (word_number n w v i l))) in
        of_row n w n _ v h (Memᴰ.cast word (at-member (arc_in v) 0 (row_words n w v) i room))
