-- What a query answers: at a goal, at the end of its budget or of the allowance, and when nothing is open. Assumes nothing.
use mathlib.Core.Path.{◌≡◌, refl, sym, subst, ◌∙◌}
use mathlib.Core.Bool.{Bool, true, false}
use mathlib.Core.List.{List}
use mathlib.Core.Option.{Option, none, some}
use Prim.Native.Nat.{ℕ, ◌≤◌}
use native.Mathlib.Omega.{arith}
use lib.ListN.{drop}
use lib.Seq.{ext_get_or}
use Rattle.map.specs.declared.Site.{Site}
use Rattle.layout.specs.Regions.{ends_at, depth_word}
use Rattle.layout.specs.Map.{problem_at}
use Rattle.layout.specs.Labels.{no_word, labels}
use Rattle.layout.proofs.Held.{problem_same}
use Rattle.layout.proofs.Labels.{word_or-none, word_or-some, labels_length}
use Rattle.model.specs.Problem.{Problem, IsGoal, Valid}
use Rattle.model.specs.Costs.{cost_at, table}
use Rattle.model.specs.Query as model
use Rattle.model.specs.Query.{next_limit, not_over, query}
use Rattle.model.proofs.LeastCosts.{table-length, entry_path}
use Rattle.query.specs.Front.{Front, FewestFound, FirstOpen, NoneOpen, count_below}
use Rattle.scans.specs.Area.{IsNextLimit}
use Rattle.query.specs.Open.{settled_at}
use Rattle.std.specs.Prelude.{Result, Ok, Err}
use Rattle.query.specs.Query.{Ready, Agrees, IsExpanded, Given, Answered, outcome_of}
use Rattle.query.specs.State.{Searching, AllSettled}
use Rattle.query.specs.declared.Outcome.TheVariants.{Ended, Over, Found, None}
use Rattle.query.specs.declared.Asked.{Asked}
use Rattle.query.specs.declared.Spent.{Spent}
use Rattle.query.proofs.Settling.{least_label, path_label}
use Rattle.query.proofs.Front.{settled_least, labels_are_table, goal_found, goal_outcome, over_outcome, spent_cost, all_settled}
use Rattle.query.proofs.Fewest.{fewest_same, depth_entry}
use Rattle.query.proofs.QueryUnderway.{QueryUnderway, label_below, depth_below}

-- the next limit that was found, as an outcome
module _ (s : Site) (count : ℕ) (w : List ℕ) (next : ℕ) (i : IsNextLimit s w next) where
  pub ended-none : next ≡ no_word → AllSettled s count w (record { outcome = None; count = count; place = 0 })
  unfolding not_over
  ended-none e = record { count_is = refl; outcome_is = rw (← i.next, word_or-none next e) }

  pub ended_next : (next ≡ no_word → ⊥) → AllSettled s count w (record { outcome = Ended next; count = count; place = 0 })
  unfolding not_over
  ended_next e = record { count_is = refl; outcome_is = rw (← i.next, word_or-some next e) }

-- what is given is the one answer
given_ok : {p : Problem} {limit budget left : ℕ} {w : List ℕ} {r : Asked} → Given p limit budget left w r → (a : Asked)
    → ◌≡◌ {A = Result Asked Spent} (Ok r) (Ok a) → Given p limit budget left w a
given_ok {r = r} g a e = let same : r ≡ a = cc in rw (← same) g

-- words with the same map are answered the same
pub answered_same : (s : Site) (limit budget left : ℕ) (w₀ w₁ w : List ℕ) (r : Result Asked Spent) → drop (ends_at s.places) w₁ ≡ drop (ends_at s.places) w₀
    → Answered s limit budget left w₁ w r → Answered s limit budget left w₀ w r
answered_same s limit budget left w₀ w₁ w r same a =
    let p = problem_same s w₁ w₀ same in
    record {
      same_map = a.same_map ∙ same;
      ready = a.ready;
      spent = rw p at a.spent;
      given = rw p at a.given;
      fewest = rw p at a.fewest;
    }

module _ {s : Site} {limit budget left : ℕ} {w₀ : List ℕ} {hand : ℕ} {w : List ℕ} {count : ℕ}
    (under : QueryUnderway s limit budget left w₀ hand w count) where
  searching : Searching s limit budget left w₀ hand w count
  searching = under.search

  abbrev n : ℕ
  n = s.places

  p : Problem
  p = problem_at s w₀

  label : ℕ → Option ℕ
  label v = cost_at (labels n w) v

  settled : ℕ → Bool
  settled = settled_at n hand w

  front : Front p limit label settled
  unfolding p label settled
  front = searching.front

  valid : Valid p
  unfolding p
  valid = under.ask.holds.valid

  counted : count_below settled p.places ≡ count
  unfolding p settled problem_at
  counted = searching.counted

  ready : Ready n w
  ready = record { hand = hand; list = searching.coherent.list }

  -- the places expanded are those listed
  fewest : FewestFound p limit (IsExpanded n count w) label (depth_word n w)
  unfolding p label
  fewest = fewest_same searching.listed.all (λ u (i, l, e). rw e at (searching.listed.each i l)) searching.fewest

  -- nothing is open: the labels are the table, and the outcome is by its next limit
  pub answered_settled : NoneOpen (λ v. cost_at (labels n w) v) (settled_at n hand w) → (r : Asked) → AllSettled s count w r
      → Answered s limit budget left w₀ w (Ok r)
  unfolding p label settled problem_at not_over
  answered_settled none_open r a =
      let result = all_settled p valid limit label settled front budget none_open (omega (arith, counted, searching.in_budget)) in
      let cost : (query p limit budget).cost ≡ count = result.0 ∙ counted in
      let outcome : outcome_of r.outcome ≡ not_over none (next_limit p (table p limit)) =
      a.outcome_is ∙ rw (problem_same s w w₀ searching.same_map, labels_table) in
      record {
        same_map = searching.same_map;
        ready = ready;
        spent = λ e t. cc;
        given = given_ok (record {
          lasts = omega (arith, cost, searching.lasts);
          outcome = outcome ∙ sym result.1;
          count = a.count_is ∙ sym cost;
          found = λ q. absurd (not_found (next_limit p (table p limit)) (rw q at outcome));
        });
        fewest = rw a.count_is fewest;
      }
    where
      labels_table : labels n w ≡ table p limit
      labels_table =
          let size = labels_length n w (omega (arith, searching.coherent.regions.room)) in
          ext_get_or none (labels n w) (table p limit) (size ∙ sym (table-length p limit))
          (λ v h. labels_are_table p valid limit label settled front none_open v)

      not_found : (o : Option ℕ) → model.found ≡ not_over none o → ⊥
      not_found (some x) e = let z : ◌≡◌ {A = ℕ} 0 1 = cc in omega arith
      not_found none e = let z : ◌≡◌ {A = ℕ} 0 1 = cc in omega arith

  module _ {v d : ℕ} (f : FirstOpen (λ u. cost_at (labels n w) u) (settled_at n hand w) v d) where
    first : FirstOpen label settled v d
    unfolding label settled
    first = f

    labels_agree : Agrees (labels n w) (table (problem_at s w₀) limit) d
    unfolding p label settled
    labels_agree = record { entry_label = λ u x e l. entry u x e l (settled u) refl; label_entry = λ u x e l. own u x e l (settled u) refl }
      where
        entry : (u x : ℕ) → cost_at (table p limit) u ≡ some x → x ≤ d → (b : Bool) → settled u ≡ b → label u ≡ some x
        entry u x e l true o =
            let y = front.labelled u o in
            let least = settled_least p valid limit label settled front u y.0 o y.1 in
            let same : y.0 ≡ x = cc in
            rw same at y.1
        entry u x e l false o = path_label p valid limit label settled front v d first u x (entry_path p limit u x e) o l

        own : (u x : ℕ) → label u ≡ some x → x ≤ d → (b : Bool) → settled u ≡ b → cost_at (table p limit) u ≡ some x
        own u x e l true o = settled_least p valid limit label settled front u x o e
        own u x e l false o =
            least_label p valid limit label settled front u x e (λ y z i q. omega (arith, first.least y z i q))

    -- the first open place is a goal
    pub answered_goal : IsGoal (problem_at s w₀) v
        → Answered s limit budget left w₀ w (Ok (record { outcome = Found; count = count; place = v }))
    unfolding p label settled problem_at
    answered_goal goal =
        let result = goal_outcome p valid limit label settled front v d budget first goal (omega (arith, counted, searching.in_budget)) in
        let cost : (query p limit budget).cost ≡ count = result.1 ∙ counted in
        record {
          same_map = searching.same_map;
          ready = ready;
          spent = λ e t. cc;
          given = given_ok (record {
            lasts = omega (arith, cost, searching.lasts);
            outcome = sym result.0;
            count = sym cost;
            found = λ q. record {
              cost = d;
              is_first = goal_found p valid limit label settled front v d first goal;
              agrees = labels_agree;
              depths = λ u x e l.
                  let entry = labels_agree.label_entry u x e l in
                  depth_entry p valid limit label (depth_word n w) settled front searching.fewest v d first goal u x e l entry;
              label_below = label_below s under;
              depth_below = depth_below s under;
            };
          });
          fewest = fewest;
        }

    -- it is none, and the budget is used up
    pub answered_over : (IsGoal (problem_at s w₀) v → ⊥) → count ≡ budget
        → Answered s limit budget left w₀ w (Ok (record { outcome = Over; count = count; place = 0 }))
    unfolding p label
    answered_over no_goal b =
        let result = over_outcome p valid limit label settled front v d budget first no_goal (counted ∙ b) in
        record {
          same_map = searching.same_map;
          ready = ready;
          spent = λ e t. cc;
          given = given_ok (record {
            lasts = omega (arith, result.1, searching.lasts);
            outcome = sym result.0;
            count = b ∙ sym result.1;
            found = λ q. absurd (let z : ◌≡◌ {A = ℕ} 0 1 = cc in omega arith);
          });
          fewest = fewest;
        }

    -- it is none, the budget is not used up, and what is left of the allowance is
    pub answered_spent : (IsGoal (problem_at s w₀) v → ⊥) → (count ≡ budget → ⊥) → count ≡ left → (e : Spent)
        → Answered s limit budget left w₀ w (Err e)
    unfolding p label
    answered_spent no_goal b l e =
        record {
          same_map = searching.same_map;
          ready = ready;
          spent = λ x t. spent_cost p valid limit label settled front v d budget left first no_goal (counted ∙ l) (omega (arith, searching.in_budget));
          given = λ a t. cc;
          fewest = subst (λ (x : ℕ). FewestFound p limit (IsExpanded n x w) label (depth_word n w)) l fewest;
        }
