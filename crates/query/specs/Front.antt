-- A uniform-cost search under way within limit C: labels and depths of places, and which of them are settled (expanded).
use Rattle.std.specs.Prelude.{◌≡◌, ◌⊎◌, Bool, true, false, cond, ◌||◌, ℕ, zero, suc, ◌+◌, ◌≤◌, ◌<◌, eqb}
use Rattle.std.proofs.Math.Option.{Option, some}
use Rattle.model.specs.Problem.{Problem, Arc, IsArc, IsGoal}
use Rattle.model.specs.Paths.{Least, Walk, stay, on, arc_count, PathTo, Within, PathWithin}
use Rattle.model.specs.Terms.{AtMost, NoMore}

-- u at cost x comes before w at cost y: by cost, then by number
abbrev pub Before : (x u y w : ℕ) → Type 0
Before x u y w = (x < y) ⊎ ((x ≡ y) × (u < w))

pub record Front (p : Problem) (C : ℕ) (label : ℕ → Option ℕ) (settled : ℕ → Bool) : Type 0 where
  -- the start is labelled 0
  pub begins : AtMost (label p.start) 0
  -- each label is the cost of a path within C
  pub backed : (v d : ℕ) → label v ≡ some d → PathWithin p C v d
  -- a settled place is labelled, and its arcs are relaxed
  pub labelled : (u : ℕ) → settled u ≡ true → (d : ℕ) × (label u ≡ some d)
  pub relaxed : (a : Arc) (d : ℕ) → IsArc p a → settled a.from ≡ true → label a.from ≡ some d
      → d + a.cost + p.estimate a.to ≤ C → AtMost (label a.to) (d + a.cost)
  -- settled places come before those that are labelled and not settled
  pub ordered : (u w x y : ℕ) → settled u ≡ true → label u ≡ some x → settled w ≡ false → label w ≡ some y → Before x u y w
  -- no goal is settled
  pub no_goal : (g : ℕ) → IsGoal p g → settled g ≡ false

-- every place of the walk before its last is one of E
unfoldable pub Through : {p : Problem} (E : ℕ → Type 0) {u v d : ℕ} → Walk p u v d → Type 0
Through E stay = Unit {0}
Through E (on a i w) = Through E w × E a.from

-- a path found to v, of cost d and with k arcs: it is within C, and its places before the last have all been expanded, which are those of E
pub record PathFound (p : Problem) (C : ℕ) (E : ℕ → Type 0) (v d k : ℕ) : Type 0 where
  pub path : PathTo p v d
  pub within : Within C path
  pub through : Through E path
  pub arcs : arc_count path ≡ k

-- Document 02, paper 2: "Each place's search record therefore carries the number of arcs so far, and after every expansion in a query it is the
-- fewest over the paths found there at the record's cost." The record's cost is a label, and its arcs so far a depth.
pub record FewestFound (p : Problem) (C : ℕ) (E : ℕ → Type 0) (label : ℕ → Option ℕ) (depth : ℕ → ℕ) : Type 0 where
  -- no path found to a place costs less than its label
  pub cost : (v d k : ℕ) → PathFound p C E v d k → AtMost (label v) d
  -- and of those that cost as much the depth is the fewest arcs
  pub arcs : (v d : ℕ) → label v ≡ some d → Least (PathFound p C E v d) (depth v)

-- v, labelled d, is the first of the open places: labelled and not settled
pub record FirstOpen (label : ℕ → Option ℕ) (settled : ℕ → Bool) (v d : ℕ) : Type 0 where
  pub is_labelled : label v ≡ some d
  pub is_open : settled v ≡ false
  pub least : (w y : ℕ) → settled w ≡ false → label w ≡ some y → d ≤ y
  pub lowest : (w : ℕ) → settled w ≡ false → label w ≡ some d → v ≤ w

-- no place is open
abbrev pub NoneOpen : (label : ℕ → Option ℕ) (settled : ℕ → Bool) → Type 0
NoneOpen label settled = (w y : ℕ) → label w ≡ some y → settled w ≡ true

-- an arc of v, labelled d, gives w the cost y within C
pub record Gives (p : Problem) (C v d w y : ℕ) : Type 0 where
  pub arc : Arc
  pub is_arc : IsArc p arc
  pub from : arc.from ≡ v
  pub to : arc.to ≡ w
  pub sum : d + arc.cost ≡ y
  pub within : y + p.estimate w ≤ C

-- the arcs of v, labelled d, have been relaxed: labels only fall, to what an arc of v gives within C
pub record Expanded (p : Problem) (C v d : ℕ) (before after : ℕ → Option ℕ) : Type 0 where
  pub kept : (w y : ℕ) → AtMost (before w) y → AtMost (after w) y
  pub reached : (a : Arc) → IsArc p a → a.from ≡ v → d + a.cost + p.estimate a.to ≤ C → AtMost (after a.to) (d + a.cost)
  pub sound : (w y : ℕ) → after w ≡ some y → (before w ≡ some y) ⊎ Gives p C v d w y

-- and so have the depths, where an arc of v makes k arcs from the start: a place's label with its depth is no more than it was and no more than
-- what an arc of v gives, and is one of these
pub record Deepened (p : Problem) (C v d k : ℕ) (before : ℕ → Option ℕ) (depth₀ : ℕ → ℕ) (after : ℕ → Option ℕ) (depth : ℕ → ℕ) : Type 0 where
  pub kept : (w x y : ℕ) → before w ≡ some x → after w ≡ some y → NoMore y (depth w) x (depth₀ w)
  pub reached : (a : Arc) (y : ℕ) → IsArc p a → a.from ≡ v → d + a.cost + p.estimate a.to ≤ C → after a.to ≡ some y
      → NoMore y (depth a.to) (d + a.cost) k
  pub sound : (w y : ℕ) → after w ≡ some y
      → ((before w ≡ some y) × (depth w ≡ depth₀ w)) ⊎ (Gives p C v d w y × (depth w ≡ k))

unfoldable pub also : (ℕ → Bool) → ℕ → ℕ → Bool
also settled v u = settled u || eqb u v

-- how many of the places below n are settled
unfoldable pub count_below : (ℕ → Bool) → ℕ → ℕ
count_below settled zero = 0
count_below settled (suc n) = cond (settled n) (suc (count_below settled n)) (count_below settled n)
