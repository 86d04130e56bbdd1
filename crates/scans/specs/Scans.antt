-- What the passes over what a search has recorded keep while under way.
use Rattle.std.specs.Prelude.{◌≡◌, Bool, cond, not, ◌&&◌, List, [], ◌++◌, ℕ, zero, suc, ◌+◌, ◌≤◌, ◌<◌, eqb, ltb}
use Rattle.std.proofs.Math.Option.{Option, some}
use Rattle.model.specs.Costs.{Table, cost_at}
use Rattle.model.specs.Lists.{filter_map, least, lesser}
use Rattle.model.specs.Problem.{Arc, IsGoal}
use Rattle.model.specs.Query.{crossing}
use Rattle.model.specs.Terms.{NoMore}
use Rattle.map.specs.declared.Site.{Site}
use Rattle.layout.specs.Regions.{label_word, depth_word, parent_word, goal_word, with_parent, arc_end, arc_cost, HasPlace}
use Rattle.layout.specs.Map.{row, rows_below, arc_in, problem_at}
use Rattle.layout.specs.Rows.{InRow, passed}
use Rattle.layout.specs.Labels.{no_word, word_or, labels, depths, Labelled, Kept, listed_at}
use Rattle.scans.specs.Area.{Recorded, parent_from, LowestGoal}

-- the rows of the first k places of the list
unfoldable pub rows_listed : ℕ → List ℕ → ℕ → List Arc
rows_listed n w zero = []
rows_listed n w (suc k) = rows_listed n w k ++ row n w (listed_at n w k)

-- the sum that an arc gives, where it leads from a labelled place to one with no label
unfoldable pub sum_of : Site → List ℕ → Arc → Option ℕ
sum_of s w a = let t = labels s.places w in crossing (problem_at s w) a (cost_at t a.from) (cost_at t a.to)

-- the word r is the lesser of `least` and what the arc with the word x, from a place labelled d, gives
pub record Crossed (s : Site) (d x least : ℕ) (w : List ℕ) (r : ℕ) : Type 0 where
  pub lowered : (u : ℕ) → r ≡ lesser ltb least (crossing (problem_at s w) (arc_in u x) (some d) (cost_at (labels s.places w) (arc_end x)))

-- the word r holds the least sum that the arcs give
pub record LimitOver (s : Site) (w : List ℕ) (arcs : List Arc) (r : ℕ) : Type 0 where
  pub least_sum : word_or r ≡ least (filter_map (sum_of s w) arcs)

-- u, whose row comes next, has a label
pub record LimitRow (s : Site) (u : ℕ) (w : List ℕ) : Type 0 where
  pub labelled : Labelled s w
  pub row : HasPlace s.places u w
  pub label : cost_at (labels s.places w) u ≡ some (label_word w u)

-- r holds the least sum over the row of u and whatever arcs `least` holds it over
pub record LimitByRow (s : Site) (u least : ℕ) (w : List ℕ) (r : ℕ) : Type 0 where
  pub over : (done : List Arc) → LimitOver s w done least → LimitOver s w (done ++ row s.places w u) r

-- under way in the row of u
pub record Limiting (s : Site) (u k end least : ℕ) (w : List ℕ) (r : ℕ) : Type 0 where
  pub inside : InRow s.places u k end w
  pub so_far : (done : List Arc) → LimitOver s w done least → LimitOver s w (passed s.places w done u k) r

-- under way before the row of place number i of the list
pub record LimitUpTo (s : Site) (count i least : ℕ) (w : List ℕ) : Type 0 where
  pub to_end : i ≤ count
  pub so_far : LimitOver s w (rows_listed s.places w i) least

-- the words after the arc with the word x, from u with the label d, which makes k arcs from the start
unfoldable pub parent_stored : (n u d k x : ℕ) → List ℕ → List ℕ
parent_stored n u d k x w =
    let v = arc_end x in
    cond (eqb (label_word w v) (d + arc_cost x) && (eqb (depth_word n w v) k && eqb (parent_word n w v) no_word)) (with_parent n w v u) w

-- the parents that the arcs give, with the labels t and the depths ks: of each place the lowest-numbered, and none above u
pub record ParentsOver (n : ℕ) (t : Table) (ks : List ℕ) (arcs : List Arc) (u : ℕ) (w : List ℕ) : Type 0 where
  pub lowest : (v : ℕ) → v < n → word_or (parent_word n w v) ≡ least (filter_map (parent_from t ks v) arcs)
  pub none_above : (v x : ℕ) → v < n → word_or (parent_word n w v) ≡ some x → x ≤ u

-- the rows of the places below u are passed, and the row of u comes next
pub record ParentsRow (s : Site) (u : ℕ) (w : List ℕ) : Type 0 where
  pub recorded : Recorded s w
  pub row : HasPlace s.places u w
  pub so_far : ParentsOver s.places (labels s.places w) (depths s.places w) (rows_below s.places w u) u w

-- the arcs of the rows below u are passed
pub record ParentsBelow (n u : ℕ) (w₀ w : List ℕ) : Type 0 where
  pub kept : Kept n w₀ w
  pub so_far : ParentsOver n (labels n w₀) (depths n w₀) (rows_below n w₀ u) u w

-- under way in the row of u
pub record Parenting (n u k end : ℕ) (w₀ w : List ℕ) : Type 0 where
  pub inside : InRow n u k end w₀
  pub kept : Kept n w₀ w
  pub so_far : ParentsOver n (labels n w₀) (depths n w₀) (passed n w₀ (rows_below n w₀ u) u k) u w

-- under way before the row of u
pub record ParentsUpTo (s : Site) (u : ℕ) (w₀ w : List ℕ) : Type 0 where
  pub recorded : Recorded s w₀
  pub to_end : u ≤ s.places
  pub so_far : ParentsBelow s.places u w₀ w

-- what a step of the choice among goals asks: `goal` and v are places
pub record Choosable (s : Site) (goal v : ℕ) (w : List ℕ) : Type 0 where
  pub goal_place : HasPlace s.places goal w
  pub place : HasPlace s.places v w

-- v is a goal with the label of `goal` and a smaller depth
abbrev pub is_nearer : (n goal v : ℕ) → List ℕ → Bool
is_nearer n goal v w =
    not (eqb (goal_word n w v) 0) && (eqb (label_word w v) (label_word w goal) && ltb (depth_word n w v) (depth_word n w goal))

unfoldable pub nearer_of : (n goal v : ℕ) → List ℕ → ℕ
nearer_of n goal v w = cond (is_nearer n goal v w) v goal

-- under way among the goals below v
pub record Choosing (s : Site) (first : ℕ) (w : List ℕ) (goal v : ℕ) : Type 0 where
  pub asks : LowestGoal s first w
  pub is_goal : IsGoal (problem_at s w) goal
  pub label : label_word w goal ≡ label_word w first
  pub below : goal < v
  pub nearest : (g : ℕ) → g < v → IsGoal (problem_at s w) g → label_word w g ≡ label_word w first
      → NoMore (depth_word s.places w goal) goal (depth_word s.places w g) g
