-- The goal that comes first by depth, then by number, among those with one label, as place after place is passed. Assumes nothing.
use mathlib.Core.Path.{◌≡◌, refl, sym, ◌∙◌}
use mathlib.Core.Bool.{true, not, Bool-discrete}
use mathlib.Core.List.{List}
use Prim.Native.Nat.{ℕ, ◌+◌, ◌≤◌, ◌<◌}
use native.Mathlib.Decide.{ℕ_discrete}
use native.Mathlib.Omega.{arith}
use lib.Dec.{eqb}
use borrow.Author.Tests.{lt-ltb, ltb-true, eq-eqb, eqb-true, ne_eqb, eqb-false, not-true}
use Rattle.model.specs.Problem.{IsGoal}
use Rattle.model.specs.Terms.{NoMore}
use Rattle.model.proofs.Lists.{both, not_true_false}
use Rattle.map.specs.declared.Site.{Site}
use Rattle.layout.specs.Regions.{label_word, depth_word, goal_word}
use Rattle.layout.specs.Map.{problem_at}
use Rattle.layout.proofs.Held.{goal_place, goal_mark, mark_goal, has_place}
use Rattle.scans.specs.Area.{LowestGoal, NearestGoal}
use Rattle.scans.specs.Scans.{Choosable, is_nearer, nearer_of, Choosing}

-- ---- one place: v is a goal with the label of `goal` and a smaller depth
pub record Nearer (n goal v : ℕ) (w : List ℕ) : Type 0 where
  pub mark : goal_word n w v ≡ 0 → ⊥
  pub label : label_word w v ≡ label_word w goal
  pub depth : depth_word n w v < depth_word n w goal

module _ (n goal v : ℕ) (w : List ℕ) where
  true_nearer : Nearer n goal v w → is_nearer n goal v w ≡ true
  true_nearer h =
      rw (ne_eqb (goal_word n w v) 0 h.mark, eq-eqb (label_word w v) (label_word w goal) h.label)
      (lt-ltb (depth_word n w v) (depth_word n w goal) h.depth)

  nearer_true : is_nearer n goal v w ≡ true → Nearer n goal v w
  nearer_true e =
      let parts = both (not (eqb (goal_word n w v) 0)) _ e in
      let rest = both (eqb (label_word w v) (label_word w goal)) _ parts.1 in
      record {
        mark = eqb-false (goal_word n w v) 0 (not-true _ parts.0);
        label = eqb-true (label_word w v) (label_word w goal) rest.0;
        depth = ltb-true (depth_word n w v) (depth_word n w goal) rest.1;
      }

  pub chosen : Nearer n goal v w → nearer_of n goal v w ≡ v
  unfolding nearer_of
  chosen h = rw (true_nearer h)

  pub not_chosen : (Nearer n goal v w → ⊥) → nearer_of n goal v w ≡ goal
  unfolding nearer_of
  not_chosen h = rw (not_true_false (is_nearer n goal v w) (λ e. h (nearer_true e)))

  nearer_or_not : Dec (Nearer n goal v w)
  nearer_or_not = go (Bool-discrete (is_nearer n goal v w) true)
    where
      go : Dec (is_nearer n goal v w ≡ true) → Dec (Nearer n goal v w)
      go (yes e) = yes (nearer_true e)
      go (no e) = no (λ h. e (true_nearer h))

-- ---- all places
no_more_itself : (x j : ℕ) → NoMore x j x j
no_more_itself x j = record { first = omega arith; second = λ e. omega arith }

no_more_through : (x j y k z l : ℕ) → NoMore x j y k → NoMore y k z l → NoMore x j z l
no_more_through x j y k z l p q =
    record {
      first = omega (arith, p.first, q.first);
      second = λ e.
          let one : x ≡ y = omega (arith, p.first, q.first) in
          let two : y ≡ z = omega arith in
          omega (arith, p.second one, q.second two);
    }

module _ (s : Site) (first : ℕ) (w : List ℕ) where
  abbrev n : ℕ
  n = s.places

  -- by depth, then by number, goal is no more than g
  abbrev Before : ℕ → ℕ → Type 0
  Before goal g = NoMore (depth_word n w goal) goal (depth_word n w g) g

  -- no goal with that label is before the first
  pub choosing_start : LowestGoal s first w → Choosing s first w first (first + 1)
  choosing_start c =
      record {
        asks = c;
        is_goal = c.is_goal;
        label = refl;
        below = omega arith;
        nearest = λ g below is_goal label.
            let same : g ≡ first = omega (arith, c.lowest g is_goal label) in
            rw same (no_more_itself (depth_word n w first) first);
      }

  module _ (goal v : ℕ) (c : Choosing s first w goal v) where
    pub choosable : v < n → Choosable s goal v w
    choosable l =
        let holds = c.asks.holds in
        record { goal_place = has_place s w holds goal (goal_place s w goal c.is_goal); place = has_place s w holds v l }

    -- r is no more than `goal`, nor than v, where that is a goal with the label
    choosing_on : (r : ℕ) → IsGoal (problem_at s w) r → label_word w r ≡ label_word w first → r < v + 1 → Before r goal
        → (IsGoal (problem_at s w) v → label_word w v ≡ label_word w first → Before r v) → Choosing s first w r (v + 1)
    choosing_on r is_goal label below before-goal before-v =
        record { asks = c.asks; is_goal = is_goal; label = label; below = below; nearest = λ g. nearest g (ℕ_discrete g v) }
      where
        nearest : (g : ℕ) → Dec (g ≡ v) → g < v + 1 → IsGoal (problem_at s w) g → label_word w g ≡ label_word w first → Before r g
        nearest g (yes q) below is_goal label = rw q (before-v (rw q at is_goal) (rw q at label))
        nearest g (no q) below is_goal label = no_more_through _ _ _ _ _ _ before-goal (c.nearest g (omega arith) is_goal label)

    pub choosing_step : v < n → Choosing s first w (nearer_of n goal v w) (v + 1)
    choosing_step l = go (nearer_or_not n goal v w)
      where
        goal_before : (Nearer n goal v w → ⊥) → IsGoal (problem_at s w) v → label_word w v ≡ label_word w first → Before goal v
        goal_before h is_goal label =
            let far : depth_word n w v < depth_word n w goal → ⊥ =
            λ l. h (record { mark = goal_mark s w v is_goal; label = label ∙ sym c.label; depth = l }) in
            record { first = omega arith; second = λ e. omega (arith, c.below) }

        go : Dec (Nearer n goal v w) → Choosing s first w (nearer_of n goal v w) (v + 1)
        go (yes h) =
            let before : Before v goal = record { first = omega (arith, h.depth); second = λ e. omega (arith, h.depth) } in
            rw (chosen n goal v w h)
            (choosing_on v (mark_goal s w v l h.mark) (h.label ∙ c.label) (omega arith) before
            (λ is_goal label. no_more_itself (depth_word n w v) v))
        go (no h) =
            rw (not_chosen n goal v w h)
            (choosing_on goal c.is_goal c.label (omega (arith, c.below)) (no_more_itself (depth_word n w goal) goal) (goal_before h))

    -- every goal is a place
    pub choosing_end : n ≤ v → NearestGoal s first w goal
    choosing_end l =
        record {
          is_goal = c.is_goal;
          label = c.label;
          nearest = λ g is_goal. c.nearest g (omega (arith, goal_place s w g is_goal)) is_goal;
        }
