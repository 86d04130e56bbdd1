-- The trace as a run from the first round, and bounds on its queries and budgets. Assumes nothing.
use mathlib.Core.Path.{◌≡◌, refl}
use mathlib.Core.Logic.{inl, inr}
use mathlib.Core.List.{List, [], ◌∷◌, Memᴰ}
use mathlib.Core.Option.{Option, none, some}
use Prim.Native.Nat.{ℕ, zero, suc, ◌+◌, ◌-◌, ◌*◌, ◌^◌, ◌≤◌, ◌<◌}
use native.Mathlib.Nat.{mul-le-mul_left, mul-le-mul_right, one-le-mul}
use native.Mathlib.Omega.{arith}
use lib.ListN.{length}
use Rattle.model.specs.Numbers.{binary_digits}
use Rattle.model.specs.Problem.{Problem, Valid}
use Rattle.model.specs.Rounds.{Round, Step, first_round, ask, next, go_on, trace_up_to, enough, trace}
use Rattle.model.specs.Terms.{RoundKept, Final, Finished, Run, last, more}
use Rattle.model.proofs.Rounds.{final_has_no_next, kept_first, over_short, kept_next, low_below, trace_finished, along}
use Rattle.model.proofs.Total.{digits_below, left, left_at_first, left_some, IsClosed, Proceeds, proceeds}

finished_rest : (s : Step) (ss : List Step) → (Final s.query.outcome → ⊥) → Finished (s ∷ ss) → Finished ss
unfolding Finished
finished_rest s [] n f = absurd (n f)
finished_rest s (t ∷ ss) n f = f.1

-- Queries of which the last is final are a run: the number they were bounded by did not end them.
finished_run : (p : Problem) (k : ℕ) (r : Round) → Finished (trace_up_to k p r) → Run p r (trace_up_to k p r)
unfolding trace_up_to go_on Finished next ask
finished_run p zero r f = absurd f
finished_run p (suc k) r f = go (next p (ask p r)) refl f (finished_run p k)
  where
    go : (o : Option Round) → next p (ask p r) ≡ o → Finished (ask p r ∷ go_on o (trace_up_to k p))
        → ((s : Round) → Finished (trace_up_to k p s) → Run p s (trace_up_to k p s)) → Run p r (ask p r ∷ go_on o (trace_up_to k p))
    go none e f rest = last e
    go (some s) e f rest =
        let not-final = final_has_no_next p.growth r (ask p r).limit (ask p r).query.outcome s e in
        more e (rest s (finished_rest (ask p r) (trace_up_to k p s) not-final f))

module _ (p : Problem) (ok : Valid p) where
  pub trace_run : Run p (first_round p) (trace p)
  unfolding trace
  trace_run = finished_run p enough (first_round p) (trace_finished p ok)

  closed_short : (r s : Round) → IsClosed p r s → r.budget < p.places
  closed_short r s c = over_short p ok s.low r.budget c.was_over

  abbrev LowBelow : List Step → Type 0
  LowBelow ss = (s : Step) → Memᴰ s ss → s.round.low < 2 ^ 29

  -- the queries left in the round, and 59 in each later one: at most N − b of them, as only a budget below N grows
  abbrev most_left : Round → ℕ
  most_left r = left 29 r.low r.high + 59 * (p.places - r.budget)

  run_length : (r : Round) (ss : List Step) → Run p r ss → RoundKept p r → LowBelow ss → length ss ≤ most_left r
  unfolding ask
  run_length r ss (last e) k low =
      omega (arith, left_some 29 r.low r.high (low (ask p r) (Memᴰ.head refl)) k.high_above)
  run_length r ss (more {s = s} {ss = rest} e run) k low =
      onward (proceeds p ok 29 r s k low_now e) (run_length s rest run (kept_next p ok r s k e) (λ t i. low t (Memᴰ.tail i)))
    where
      low_now : r.low < 2 ^ 29
      low_now = low (ask p r) (Memᴰ.head refl)

      onward : Proceeds p ok 29 r s → length rest ≤ most_left s → suc (length rest) ≤ most_left r
      onward (inl on) h = omega (arith, on.fewer, rw on.same at h)
      onward (inr c) h =
          let first : left 29 s.low s.high ≤ 59 = rw c.unset (left_at_first 29 s.low) in
          let some_left = left_some 29 r.low r.high low_now k.high_above in
          let twice : 2 * r.budget ≤ p.growth * r.budget = mul-le-mul_right r.budget ok.grows in
          omega (arith, closed_short r s c, k.some_budget, c.grown)

  -- there are at most 59 queries in each of at most N rounds
  pub trace-length : length (trace p) ≤ 59 * p.places
  unfolding first_round
  trace-length =
      let all = run_length (first_round p) (trace p) trace_run (kept_first p ok) (low_below p ok) in
      omega (arith, left_at_first 29 (p.estimate p.start), ok.some_place)

  abbrev BudgetBelow : Round → Type 0
  BudgetBelow r = r.budget ≤ p.growth * p.places

  -- the budget is 1, or the growth times one below N
  pub budget_at_most : (s : Step) → Memᴰ s (trace p) → s.round.budget ≤ p.growth * p.places
  unfolding first_round
  budget_at_most s i = (along p (λ r. RoundKept p r × BudgetBelow r) (kept_first p ok, first) step s i).1
    where
      first : BudgetBelow (first_round p)
      first = one-le-mul (omega (arith, ok.grows)) ok.some_place

      onward : (d : ℕ) (r t : Round) → BudgetBelow r → Proceeds p ok d r t → BudgetBelow t
      onward d r t h (inl on) = rw on.same h
      onward d r t h (inr c) = rw c.grown (mul-le-mul_left p.growth (omega (arith, closed_short r t c)))

      step : (r t : Round) → RoundKept p r × BudgetBelow r → next p (ask p r) ≡ some t → RoundKept p t × BudgetBelow t
      step r t h e =
          let d = binary_digits r.low in
          let proceeding = proceeds p ok d r t h.0 ((digits_below r.low d).0 (omega arith)) e in
          (kept_next p ok r t h.0 e, onward d r t h.1 proceeding)
