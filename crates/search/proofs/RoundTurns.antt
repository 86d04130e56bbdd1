-- A turn of the rounds: from the area and the round's record as a query begins to the next turn or the end. Assumes nothing.
use mathlib.Core.Path.{◌≡◌, refl, sym, ap, subst, subst⁻¹, ◌∙◌}
use mathlib.Core.List.{List}
use mathlib.Core.Option.{some}
use Prim.Native.Nat.{ℕ, ◌+◌, ◌-◌, ◌*◌, ◌^◌, ◌≤◌, ◌<◌}
use native.Mathlib.Nat.{le_refl, mul-le-mul}
use native.Mathlib.Omega.{arith}
use lib.ListN.{length, drop}
use Rattle.map.specs.declared.Site.{Site}
use Rattle.layout.specs.Regions.{ends_at, estimate_word, HasPlace}
use Rattle.layout.specs.Map.{problem_at, Holds}
use Rattle.layout.specs.Labels.{labels}
use Rattle.layout.proofs.Labels.{label_is, is_label}
use Rattle.layout.proofs.Held.{problem_same, holds_same, few_places_lem, map_room, has_place, estimate_word_lem}
use Rattle.model.specs.Limits.{max_places}
use Rattle.model.specs.Problem.{Problem, IsGoal, Valid}
use Rattle.model.specs.Costs.{cost_at, table}
use Rattle.model.specs.Query as model
use Rattle.model.specs.Query.{Key, query}
use Rattle.model.specs.Rounds as rounds
use Rattle.model.specs.Rounds.{first_round, limit_of, ask, next, trace}
use Rattle.model.specs.Routes.{first_route}
use Rattle.model.specs.Endings.{routed, budgeted}
use Rattle.model.proofs.Keys.{first_goal_some}
use Rattle.model.proofs.Laws as laws
use Rattle.query.specs.Query.{Ready, Preparable, outcome_of, Askable, Given, Answered, FoundAt}
use Rattle.query.specs.declared.Asked.{Asked}
use Rattle.query.specs.declared.Spent as cut
use Rattle.query.specs.declared.Outcome.{Outcome}
use Rattle.query.specs.declared.Outcome.TheVariants.{Ended, Over, Found, None}
use Rattle.search.specs.Rounds.{high_of, round_of, reached_by, Searched}
use Rattle.search.specs.Underway.{BudgetFitsAfter, RoundAfter, GoalLabelled, Parented, Underway, BetweenQueries}
use Rattle.std.specs.Prelude as std
use Rattle.std.specs.Prelude.{Result, Ok, Err}
use Rattle.search.specs.declared.Reached.{Reached}
use Rattle.search.specs.declared.Round.{Round}
use Rattle.search.specs.declared.Verdict.{Verdict}
use Rattle.search.specs.declared.Verdict.TheVariants.{Spent, NoRoute}
use Rattle.search.proofs.FoundRoutes.{follows_route}
use Rattle.search.proofs.RoundsUnderway as underway

-- the limit that the round asks
abbrev pub limit_in : Round → ℕ
limit_in round = limit_of round.low (high_of round.high)

-- what is searched over words with the same map is searched over the others
pub searched_same : {s : Site} {a : ℕ} {w₀ w₁ w : List ℕ} {v : Verdict} → drop (ends_at s.places) w₁ ≡ drop (ends_at s.places) w₀
    → Searched s a w₁ w v → Searched s a w₀ w v
searched_same {s} {a} {w₀} {w₁} same h = record { same_map = h.same_map ∙ same; means = rw (problem_same s w₁ w₀ same) at h.means }

-- A query has ended: it began in the round, with t expansions after q queries, in the area w of a search that began with w₀, and left w' and r.
pub record Turn (s : Site) (a : ℕ) (w₀ w : List ℕ) (round : Round) (t q limit : ℕ) (w' : List ℕ) (r : Result Asked cut.Spent) : Type 0 where
  pub holds : Holds s w₀
  pub between : BetweenQueries s a w₀ w round t q
  pub limit_is : limit ≡ limit_in round
  pub answered : Answered s limit round.budget (a - t) w w' r
  pub same_length : length w' ≡ length w

module _ {s : Site} {w₀ : List ℕ} (holds : Holds s w₀) where
  pub start_place : HasPlace s.places s.start w₀
  unfolding problem_at
  start_place = has_place s w₀ holds s.start holds.valid.start_below

  pub preparable : Preparable s.places w₀
  unfolding problem_at
  preparable = record { some = holds.valid.some_place; few = few_places_lem s w₀ holds; words = map_room s w₀ holds }

  -- the search begins in the first round
  pub begins : Ready s.places w₀ → (a low : ℕ) (o : Outcome) → low ≡ estimate_word s.places w₀ s.start
      → BetweenQueries s a w₀ w₀ (record { low = low; high = std.None; budget = 1; outcome = o }) 0 0
  unfolding first_round problem_at
  begins ready a low o e =
      record {
        same_map = refl;
        same_length = refl;
        ready = ready;
        underway = rw (e, ← estimate_word_lem s w₀ s.start start_place.place) (underway.begins (problem_at s w₀) holds.valid a (outcome_of o));
      }

  module _ {a : ℕ} {w : List ℕ} {round : Round} {t q : ℕ} (between : BetweenQueries s a w₀ w round t q) where
    abbrev p : Problem
    p = problem_at s w₀

    pub limit_below : limit_in round < 2 ^ 30
    limit_below = underway.asked_limit_below p holds.valid a between.underway

    start_low : p.estimate s.start ≤ limit_in round
    unfolding problem_at
    start_low = underway.start_within_asked p holds.valid a between.underway

    pub askable : (limit : ℕ) → limit ≡ limit_in round → Askable s limit w
    askable limit is =
        record {
          holds = holds_same s w w₀ between.same_map between.same_length holds;
          ready = between.ready;
          start_within = rw (problem_same s w w₀ between.same_map, is) start_low;
          limit_below = rw is limit_below;
        }

    pub query_left : q < length (trace p)
    query_left = underway.query_left p holds.valid a between.underway

    pub queries_below : q < 59 * max_places
    unfolding problem_at
    queries_below = omega (arith, query_left, laws.trace-length p holds.valid, few_places_lem s w₀ holds)

module _ {s : Site} {a : ℕ} {w₀ w : List ℕ} {round : Round} {t q limit : ℕ} {w' : List ℕ} {r : Result Asked cut.Spent}
    (u : Turn s a w₀ w round t q limit w' r) where
  abbrev problem : Problem
  problem = problem_at s w₀

  valid : Valid problem
  valid = u.holds.valid

  answer : Answered s (limit_in round) round.budget (a - t) w w' r
  answer = rw u.limit_is at u.answered

  same : problem_at s w ≡ problem
  same = problem_same s w w₀ u.between.same_map

  kept_map : drop (ends_at s.places) w' ≡ drop (ends_at s.places) w₀
  kept_map = answer.same_map ∙ u.between.same_map

  kept-length : length w' ≡ length w₀
  kept-length = u.same_length ∙ u.between.same_length

  under_way : Underway problem a (round_of round) (outcome_of round.outcome) t q
  under_way = u.between.underway

  abbrev asked : model.Query
  asked = query problem (limit_in round) round.budget

  pub turn_spent : (e : cut.Spent) → r ≡ Err e → Searched s a w₀ w' (Spent (record { floor = round.low; expansions = a; queries = q + 1 }))
  turn_spent e is =
      record { same_map = kept_map; means = underway.ends_spent problem valid a under_way (rw same at (answer.spent e is)) }

  module _ (g : Asked) (e : r ≡ Ok g) where
    given : Given problem (limit_in round) round.budget (a - t) w' g
    given = rw same at (answer.given g e)

    lasts : asked.cost ≤ a - t
    lasts = given.lasts

    count : g.count ≡ asked.cost
    count = given.count

    asked_outcome : outcome_of g.outcome ≡ asked.outcome
    asked_outcome = given.outcome

    -- the expansions stay within the allowance
    pub total_within : t + g.count ≤ a
    total_within = omega (arith, lasts, count, under_way.lasts)

    -- a round that follows is one of the trace's, so that its budget is at most the growth times the number of places
    pub turn_fits : BudgetFitsAfter round s.growth limit g.outcome
    unfolding next ask problem_at
    turn_fits =
        record {
          fits = λ x f.
              let goes_on = underway.goes_on problem valid a under_way x (rw (u.limit_is, asked_outcome) at f) lasts in
              let most : s.growth * s.places ≤ 65535 * max_places =
              mul-le-mul {n₂ = 65535} {m₂ = max_places} (omega (arith, u.holds.growth_below)) (few_places_lem s w₀ u.holds) in
              omega (arith, underway.asked_budget_at_most problem valid a goes_on);
        }

    -- the record that the query leaves has its outcome
    module _ (left : Round) (h : RoundAfter round s.growth limit g.outcome left) where
      outcome : (o : Outcome) → left.outcome ≡ o → asked.outcome ≡ outcome_of o
      outcome o f = sym asked_outcome ∙ ap outcome_of (sym h.carries ∙ f)

      pub turn_no_route : left.outcome ≡ None
          → Searched s a w₀ w' (NoRoute (record { limit = limit; expansions = t + g.count; queries = q + 1 }))
      unfolding problem_at
      turn_no_route f =
          record { same_map = kept_map; means = rw (u.limit_is, count) (underway.ends_no_route problem valid a under_way (outcome None f) lasts) }

      -- a round follows
      onward : (x : rounds.Round) → next problem (ask problem (round_of round)) ≡ some x → BetweenQueries s a w₀ w' left (t + g.count) (q + 1)
      unfolding next ask problem_at
      onward x f =
          let is : round_of left ≡ x = h.next x (rw (u.limit_is, asked_outcome) f) in
          record {
            same_map = kept_map;
            same_length = kept-length;
            ready = answer.ready;
            underway = rw (count, h.carries, asked_outcome, is) (underway.goes_on problem valid a under_way x f lasts);
          }

      pub turn_ended : {x : ℕ} → left.outcome ≡ Ended x → BetweenQueries s a w₀ w' left (t + g.count) (q + 1)
      turn_ended {x} f = onward _ (underway.after_ended problem (round_of round) x (outcome (Ended x) f))

      pub turn_over : left.outcome ≡ Over → BetweenQueries s a w₀ w' left (t + g.count) (q + 1)
      turn_over f = onward _ (underway.after_over problem (round_of round) (outcome Over f))

      module _ (f : left.outcome ≡ Found) where
        goal : FoundAt problem (limit_in round) g.place w'
        goal = given.found (sym h.carries ∙ f)

        key : Key
        key = record { cost = goal.cost; place = g.place }

        room : s.places ≤ length w'
        room = omega (arith, map_room s w₀ u.holds, kept-length)

        goal_label : cost_at (labels s.places w') g.place ≡ some goal.cost
        unfolding problem_at key
        goal_label =
            let entry = (first_goal_some problem (table problem (limit_in round)) key goal.is_first).entry in
            goal.agrees.entry_label g.place goal.cost entry (le_refl goal.cost)

        pub turn_goal : GoalLabelled s g.place w'
        unfolding problem_at key
        turn_goal =
            let holds = holds_same s w' w₀ kept_map kept-length u.holds in
            let same = problem_same s w' w₀ kept_map in
            let first = first_goal_some problem (table problem (limit_in round)) key goal.is_first in
            let own = label_is s.places w' room g.place goal.cost goal_label in
            record {
              recorded = record { labelled = record { holds = holds; label_below = goal.label_below }; depth_below = goal.depth_below };
              lowest = record {
                holds = holds;
                is_goal = subst⁻¹ (λ (x : Problem). IsGoal x g.place) same first.is_goal;
                lowest = λ h i l.
                    let is = subst (λ (x : Problem). IsGoal x h) same i in
                    let label = is_label s.places w' room h goal.cost (record {
                      place = valid.goal_below h is;
                      word = l ∙ own.word;
                      some = own.some;
                    }) in
                    first.lowest h is (goal.agrees.label_entry h goal.cost label (le_refl goal.cost));
              };
              cost = goal.cost;
              label = goal_label;
            }

        -- goal and parents are found, and the area is w''
        module _ (w'' : List ℕ) (v : Verdict) (parented : Parented s g.place limit (t + g.count) (q + 1) w' w'' v) where
          route : List ℕ
          route = first_route problem (table problem (limit_in round)) key

          same-cost : goal.cost ≡ parented.cost
          same-cost = let found = goal_label in let label = parented.label in cc

          reached : Reached
          reached = record { cost = parented.cost; goal = parented.goal; limit = limit; expansions = t + g.count; queries = q + 1 }

          ends : budgeted problem a ≡ routed (reached_by route reached)
          unfolding key route reached
          ends =
              underway.ends_routed problem valid a under_way (outcome Found f) lasts key goal.is_first
              ∙ (λ i. routed (record {
                cost = same-cost i;
                places = route;
                limit = sym u.limit_is i;
                expansions = t + sym count i;
                queries = q + 1;
              }))

          pub turn_routed : Searched s a w₀ w'' v
          unfolding key route reached
          turn_routed =
              let follows =
              follows_route s (limit_in round) g.place parented.goal w₀ w' w'' valid kept_map room goal parented.parents parented.nearest in
              record { same_map = parented.parents.same_map ∙ kept_map; means = rw parented.verdict (route, ends, follows) }
