-- The rounds under way: what is known as a query begins, and what follows from how it ends. Assumes nothing.
use mathlib.Core.Path.{◌≡◌, refl, sym, ap, ◌∙◌}
use mathlib.Core.Bool.{false}
use mathlib.Core.List.Memᴰ
use mathlib.Core.List.{List, [], ◌∷◌, ◌++◌, append_assoc, concat-ne-nil, Memᴰ}
use mathlib.Core.Option.{none, some}
use Prim.Native.Nat.{ℕ, ◌+◌, ◌-◌, ◌*◌, ◌^◌, ◌≤◌, ◌<◌}
use native.Mathlib.Omega.{arith}
use lib.ListN.{length, length-append}
use borrow.Author.Tests.{le-ltb}
use Rattle.model.specs.Problem.{Problem, Valid}
use Rattle.model.specs.Costs.{table}
use Rattle.model.specs.Query.{Key, first_goal, Outcome, ended, over, found, nothing, query}
use Rattle.model.specs.Rounds.{Round, Step, first_round, limit_of, settle, after, ask, next, trace, total, search}
use Rattle.model.specs.Routes.{first_route}
use Rattle.model.specs.Endings.{spent, no_route, routed, finished, ending_if, budgeted_by, budgeted}
use Rattle.model.specs.Terms.{RoundKept, CutAt, Run, last, more}
use Rattle.model.proofs.Lists.{none-some}
use Rattle.model.proofs.Queries.{nothing_next}
use Rattle.model.proofs.Rounds.{low_limit}
use Rattle.model.proofs.Routes.{snoc_injective}
use Rattle.model.proofs.Laws as laws
use Rattle.search.specs.Underway.{Underway}

total-append : (xs ys : List Step) → total (xs ++ ys) ≡ total xs + total ys
unfolding total
total-append [] ys = omega arith
total-append (x ∷ xs) ys = let rest = total-append xs ys in omega arith

total_snoc : (xs : List Step) (s : Step) → total (xs ++ (s ∷ [])) ≡ total xs + s.query.cost
unfolding total
total_snoc xs s = omega (arith, total-append xs (s ∷ []))

-- what is asked in the round is the run's first query
run_first : {p : Problem} {r : Round} {ss : List Step} → Run p r ss → (later : List Step) × (ss ≡ ask p r ∷ later)
run_first (last e) = ([], refl)
run_first (more {ss = ss} e run) = (ss, refl)

run_onward : {p : Problem} {r s : Round} {ss : List Step} → Run p r ss → next p (ask p r) ≡ some s
    → (later : List Step) × (ss ≡ ask p r ∷ later) × Run p s later
run_onward (last e) h = none-some (sym e ∙ h)
run_onward {s = s} (more {s = t} {ss = ss} e run) h = let same : s ≡ t = cc in (ss, refl, rw same run)

run_over : {p : Problem} {r : Round} {ss : List Step} → Run p r ss → next p (ask p r) ≡ none → ss ≡ ask p r ∷ []
run_over (last e) h = refl
run_over (more e run) h = none-some (sym h ∙ e)

-- what the query that is asked in the round costs, and how it ends
abbrev cost_of : Problem → Round → ℕ
cost_of p r = (query p (limit_of r.low r.high) r.budget).cost

abbrev outcome_in : Problem → Round → Outcome
outcome_in p r = (query p (limit_of r.low r.high) r.budget).outcome

module _ (p : Problem) (ok : Valid p) (a : ℕ) where
  -- nothing is done as the search begins
  pub begins : (o : Outcome) → Underway p a (first_round p) o 0 0
  unfolding total
  begins o =
      record {
        done = [];
        rest = trace p;
        split = refl;
        run = laws.trace_run p ok;
        sum = refl;
        lasts = omega arith;
        counted = refl;
        last_outcome = λ before s e. absurd (concat-ne-nil s before (sym e));
      }

  module _ {r : Round} {o : Outcome} {t q : ℕ} (u : Underway p a r o t q) where
    in-trace : Memᴰ (ask p r) (trace p)
    in-trace = rw (u.split, (run_first u.run).1) (Memᴰ.append_right u.done (Memᴰ.head refl))

    kept : RoundKept p r
    unfolding ask
    kept = laws.rounds_kept p ok (ask p r) in-trace

    pub asked_limit_below : limit_of r.low r.high < 2 ^ 30
    unfolding ask
    asked_limit_below = laws.limit_below p ok (ask p r) in-trace

    pub asked_budget_at_most : r.budget ≤ p.growth * p.places
    unfolding ask
    asked_budget_at_most = laws.budget_at_most p ok (ask p r) in-trace

    pub start_within_asked : p.estimate p.start ≤ limit_of r.low r.high
    start_within_asked = omega (arith, kept.start_low, low_limit p ok r kept)

    -- the query that begins is one of the trace's
    pub query_left : q < length (trace p)
    query_left =
        let (later, first) = run_first u.run in
        rw (u.split, first) (simp length-append (omega (arith, u.counted)))

    -- the allowance lasts for the query, and a round follows
    pub goes_on : (s : Round) → next p (ask p r) ≡ some s → cost_of p r ≤ a - t → Underway p a s (outcome_in p r) (t + cost_of p r) (q + 1)
    unfolding ask
    goes_on s e h =
        let (later, first, run) = run_onward u.run e in
        record {
          done = u.done ++ (ask p r ∷ []);
          rest = later;
          split = u.split ∙ ap (◌++◌ u.done) first ∙ sym (append_assoc u.done (ask p r ∷ []) later);
          run = run;
          sum = omega (arith, u.sum, total_snoc u.done (ask p r));
          lasts = omega (arith, u.lasts);
          counted = simp length-append (omega (arith, u.counted));
          last_outcome = λ before x f. ap (λ (y : Step). y.query.outcome) (sym (snoc_injective u.done before (ask p r) x f).1);
        }

    -- the allowance does not last for the query
    is_cut : a - t < cost_of p r → CutAt a (trace p) (ask p r) (q + 1)
    unfolding ask
    is_cut h =
        let (later, first) = run_first u.run in
        record {
          earlier = u.done;
          later = later;
          split = u.split ∙ ap (◌++◌ u.done) first;
          lasts = omega (arith, u.sum, u.lasts);
          exceeds = omega (arith, u.sum, u.lasts);
          counted = omega (arith, u.counted);
        }

    pub ends_spent : a - t < cost_of p r → budgeted p a ≡ spent (record { floor = r.low; expansions = a; queries = q + 1 })
    unfolding budgeted_by ending_if ask total
    ends_spent h =
        let here = is_cut h in
        let whole = total-append here.earlier (ask p r ∷ here.later) in
        let exceeds : a < total (trace p) = rw here.split (omega (arith, here.exceeds)) in
        let cut = laws.spent_cut p a exceeds in
        let once = laws.cut_once (trace p) a (search p a).queries (q + 1) (search p a).last (ask p r) cut.1 here in
        rw ((laws.spent_exactly p a).1 exceeds, once.0, cut.0, once.1)

    -- the allowance lasts for the query, and it is the last
    closed : next p (ask p r) ≡ none → cost_of p r ≤ a - t
        → search p a ≡ record { spent = false; expansions = t + cost_of p r; queries = q + 1; last = ask p r }
    unfolding ask search
    closed e h j =
        record { spent = le-ltb a (total (trace p)) lasts j; expansions = (uncut.0 ∙ sum) j; queries = (uncut.1 ∙ count) j; last = is_last j }
      where
        whole : trace p ≡ u.done ++ (ask p r ∷ [])
        whole = u.split ∙ ap (◌++◌ u.done) (run_over u.run e)

        sum : total (trace p) ≡ t + cost_of p r
        sum = rw whole (omega (arith, u.sum, total_snoc u.done (ask p r)))

        count : length (trace p) ≡ q + 1
        count = rw whole (simp length-append (omega (arith, u.counted)))

        lasts : total (trace p) ≤ a
        lasts = omega (arith, sum, u.lasts)

        uncut : ((search p a).expansions ≡ total (trace p)) × ((search p a).queries ≡ length (trace p))
            × ((x : List Step) × (trace p ≡ x ++ ((search p a).last ∷ [])))
        uncut = laws.not_spent p a (laws.trace_finished p ok) lasts

        is_last : (search p a).last ≡ ask p r
        is_last =
            let (x, ends) = uncut.2 in
            (snoc_injective x u.done (search p a).last (ask p r) (sym ends ∙ whole)).1

    pub ends_no_route : outcome_in p r ≡ nothing → cost_of p r ≤ a - t
        → budgeted p a ≡ no_route (record { start = p.start; limit = limit_of r.low r.high; expansions = t + cost_of p r; queries = q + 1 })
    unfolding budgeted_by ending_if finished ask next after
    ends_no_route e h =
        let no_goal = (nothing_next p (limit_of r.low r.high) r.budget e).0 in
        rw (closed (rw e refl) h, no_goal)

    pub ends_routed : outcome_in p r ≡ found → cost_of p r ≤ a - t
        → (g : Key) → first_goal p (table p (limit_of r.low r.high)) ≡ some g
        → budgeted p a
        ≡ routed (record {
          cost = g.cost;
          places = first_route p (table p (limit_of r.low r.high)) g;
          limit = limit_of r.low r.high;
          expansions = t + cost_of p r;
          queries = q + 1;
        })
    unfolding budgeted_by ending_if finished ask next after
    ends_routed e h g is_first = rw (closed (rw e refl) h, is_first)

-- what follows a query that neither found a goal nor the lack of one
module _ (p : Problem) (r : Round) where
  pub after_ended : (x : ℕ) → outcome_in p r ≡ ended x
      → next p (ask p r) ≡ some (settle p.growth x r.high r.budget)
  unfolding next after ask
  after_ended x e = rw e

  pub after_over : outcome_in p r ≡ over
      → next p (ask p r) ≡ some (settle p.growth r.low (some (limit_of r.low r.high)) r.budget)
  unfolding next after ask
  after_over e = rw e
