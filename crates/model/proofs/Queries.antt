-- What a query's outcome says of the table of its limit. Assumes nothing.
use mathlib.Core.Path.{◌≡◌, refl, sym}
use mathlib.Core.Bool.{Bool, true, false}
use mathlib.Core.List.{List, Memᴰ}
use mathlib.Core.Option.{Option, none, some, some-injective}
use Prim.Native.Nat.{ℕ, ◌+◌, ◌≤◌, ◌<◌}
use native.Mathlib.Nat.{le_refl}
use native.Mathlib.Omega.{arith}
use lib.Dec.{ltb}
use lib.ListN.{length}
use borrow.Author.Tests.{ltb-true, ltb-false}
use Rattle.model.specs.Lists.{filter_map}
use Rattle.model.specs.Problem.{Problem, Arc, IsArc}
use Rattle.model.specs.Costs.{Table, cost_at, table}
use Rattle.model.specs.Query.{Key, within, first_goal, length_to, crossing, next_limit, Outcome, ended, over, found, nothing}
use Rattle.model.specs.Query.{not_over, judge, query_on, query}
use Rattle.model.proofs.Lists.{none-some, filter_map_member, least-none, least-some}
use Rattle.model.proofs.Keys.{length_at_most}

-- an arc from a place within to one not within
pub record Crosses (p : Problem) (t : Table) (a : Arc) (d : ℕ) : Type 0 where
  pub is_arc : IsArc p a
  pub inside : cost_at t a.from ≡ some d
  pub outside : cost_at t a.to ≡ none

-- x is the least D + arc cost + estimate over the arcs that cross
pub record IsLeastCrossing (p : Problem) (t : Table) (x : ℕ) : Type 0 where
  pub arc : Arc
  pub cost : ℕ
  pub crosses : Crosses p t arc cost
  pub sum : x ≡ cost + arc.cost + p.estimate arc.to
  pub least : (a : Arc) (d : ℕ) → Crosses p t a d → x ≤ d + a.cost + p.estimate a.to

-- what each outcome says of the first goal, the next limit, the budget and the length
abbrev OutcomeSays : Option Key → Option ℕ → ℕ → ℕ → Outcome → Type 0
OutcomeSays goal next b n (ended x) = (goal ≡ none) × (next ≡ some x)
OutcomeSays goal next b n over = b < n
OutcomeSays goal next b n found = (g : Key) × (goal ≡ some g)
OutcomeSays goal next b n nothing = (goal ≡ none) × (next ≡ none)

judge_says : (exceeds : Bool) (goal : Option Key) (next : Option ℕ) (b n : ℕ) → ltb b n ≡ exceeds
    → OutcomeSays goal next b n (judge exceeds b n (not_over goal next)).outcome
unfolding judge not_over
judge_says true goal next b n e = ltb-true b n e
judge_says false (some g) next b n e = (g, refl)
judge_says false none (some x) b n e = (refl, refl)
judge_says false none none b n e = (refl, refl)

judge_cost : (exceeds : Bool) (b n : ℕ) (o : Outcome) → ltb b n ≡ exceeds → (judge exceeds b n o).cost ≤ b
unfolding judge
judge_cost true b n o e = le_refl b
judge_cost false b n o e = ltb-false b n e

-- a query's length: the places that it counts where its budget lasts
abbrev pub query_length : Problem → ℕ → ℕ
query_length p C = length_to (first_goal p (table p C)) (within (table p C))

module _ (p : Problem) where
  abbrev sum : Arc → ℕ → ℕ
  sum a d = d + a.cost + p.estimate a.to

  crossing-some : (a : Arc) (from to : Option ℕ) (x : ℕ) → crossing p a from to ≡ some x → (d : ℕ) × (from ≡ some d) × (to ≡ none) × (x ≡ sum a d)
  unfolding crossing
  crossing-some a none to x e = none-some e
  crossing-some a (some d) (some c) x e = none-some e
  crossing-some a (some d) none x e = (d, refl, refl, sym (some-injective _ _ e))

  abbrev crossings : Table → List ℕ
  crossings t = filter_map (λ (a : Arc). crossing p a (cost_at t a.from) (cost_at t a.to)) p.arcs

  crossing-member : (t : Table) (a : Arc) (d : ℕ) → Crosses p t a d → Memᴰ (sum a d) (crossings t)
  unfolding crossing
  crossing-member t a d c = (filter_map_member _ p.arcs (sum a d)).1 (a, c.is_arc, rw (c.inside, c.outside))

  pub next_limit_some : (t : Table) (x : ℕ) → next_limit p t ≡ some x → IsLeastCrossing p t x
  unfolding next_limit
  next_limit_some t x e =
      let least = least-some (crossings t) x e in
      let image = (filter_map_member _ p.arcs x).0 least.0 in
      let crosses = crossing-some image.0 _ _ x image.2 in
      record {
        arc = image.0;
        cost = crosses.0;
        crosses = record { is_arc = image.1; inside = crosses.1; outside = crosses.2 };
        sum = crosses.3;
        least = λ a d c. least.1 (sum a d) (crossing-member t a d c);
      }

  pub next_limit_none : (t : Table) → next_limit p t ≡ none → (a : Arc) (d : ℕ) → Crosses p t a d → ⊥
  unfolding next_limit
  next_limit_none t e a d c = least-none (crossings t) e (sum a d) (crossing-member t a d c)

  module _ (C b : ℕ) where
    outcome_says : OutcomeSays (first_goal p (table p C)) (next_limit p (table p C)) b (query_length p C) (query p C b).outcome
    unfolding query query_on
    outcome_says = judge_says (ltb b (query_length p C)) (first_goal p (table p C)) (next_limit p (table p C)) b (query_length p C) refl

    pub ended_next : (x : ℕ) → (query p C b).outcome ≡ ended x → (first_goal p (table p C) ≡ none) × (next_limit p (table p C) ≡ some x)
    ended_next x e = rw e at outcome_says

    pub nothing_next : (query p C b).outcome ≡ nothing → (first_goal p (table p C) ≡ none) × (next_limit p (table p C) ≡ none)
    nothing_next e = rw e at outcome_says

    pub found_goal : (query p C b).outcome ≡ found → (g : Key) × (first_goal p (table p C) ≡ some g)
    found_goal e = rw e at outcome_says

    pub over_exceeds : (query p C b).outcome ≡ over → b < length (within (table p C))
    over_exceeds e =
        let longer : b < query_length p C = rw e at outcome_says in
        omega (arith, length_at_most (first_goal p (table p C)) (within (table p C)))

    pub cost_at_most_budget : (query p C b).cost ≤ b
    unfolding query query_on
    cost_at_most_budget = judge_cost (ltb b (query_length p C)) b (query_length p C) (not_over (first_goal p (table p C)) (next_limit p (table p C))) refl
