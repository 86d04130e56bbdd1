-- What a longer allowance does to the floor: it rises exactly where a query ends that the shorter one was cut before. Assumes nothing.
use mathlib.Core.Path.{◌≡◌, refl, ap}
use mathlib.Core.Bool.{Bool, true, false, ◌||◌, false≢true}
use mathlib.Core.List.{List, [], ◌∷◌, ◌++◌, head-eq_of_cons-eq, tail-eq_of_cons-eq}
use mathlib.Core.Option.{some, some_inj}
use Prim.Native.Nat.{ℕ, ◌+◌, ◌-◌, ◌≤◌, ◌<◌}
use native.Mathlib.Omega.{arith}
use lib.ListN.{length, take, drop, length-append}
use lib.Seq.{take-append_seam, drop-append_seam}
use Rattle.model.specs.Lists.{any}
use Rattle.model.specs.Problem.{Problem, Valid}
use Rattle.model.specs.Query.{Outcome, ended, over, found, nothing, query}
use Rattle.model.specs.Rounds.{Round, Step, limit_of, after, ask, next, trace}
use Rattle.model.specs.Terms.{RoundKept, CutAt, Run, last, more, is_ended, some_ended, ends_between}
use Rattle.model.proofs.Lists.{none-some}
use Rattle.model.proofs.Rounds.{settle_low, kept_next, low_limit, ended_above, rounds_kept}
use Rattle.model.proofs.Traces.{trace_run}
use Rattle.model.proofs.Allowance.{cut_inside, cut_forward}

-- low in a round and in a later one, and whether a query between them was ended
pub record Rises (low later : ℕ) (ended : Bool) : Type 0 where
  pub never_falls : low ≤ later
  pub if_ended : ended ≡ true → low < later
  pub only_if : low < later → ended ≡ true

module _ (p : Problem) (ok : Valid p) where
  next_rises : (r s : Round) → RoundKept p r → next p (ask p r) ≡ some s → Rises r.low s.low (is_ended (ask p r).query.outcome)
  unfolding ask next after is_ended
  next_rises r s k e = go (query p C r.budget).outcome refl e
    where
      C : ℕ
      C = limit_of r.low r.high

      go : (o : Outcome) → (query p C r.budget).outcome ≡ o → after p.growth r C o ≡ some s → Rises r.low s.low (is_ended o)
      go (ended x) o e =
          let higher : r.low < s.low
          = rw (← some_inj.0 e, settle_low) (omega (arith, low_limit p ok r k, ended_above p ok C r.budget x o)) in
          record { never_falls = omega arith; if_ended = λ t. higher; only_if = λ h. refl }
      go over o e =
          let same : s.low ≡ r.low = rw (← some_inj.0 e) (settle_low _ _ _ _) in
          record { never_falls = omega arith; if_ended = λ t. absurd (false≢true t); only_if = λ h. absurd (omega arith) }
      go found o e = none-some e
      go nothing o e = none-some e

  -- no query, no rise
  none_rises : (r : Round) (t : Step) → ask p r ≡ t → Rises r.low t.round.low false
  unfolding ask
  none_rises r t e =
      let same : r.low ≡ t.round.low = ap (λ (s : Step). s.round.low) e in
      record { never_falls = omega arith; if_ended = λ t. absurd (false≢true t); only_if = λ h. absurd (omega arith) }

  rises_then : {x y z : ℕ} (s t : Bool) → Rises x y s → Rises y z t → Rises x z (s || t)
  rises_then true t f g =
      let higher = f.if_ended refl in
      record { never_falls = omega (arith, g.never_falls); if_ended = λ e. omega (arith, g.never_falls); only_if = λ h. refl }
  rises_then {x} {y} {z} false t f g =
      let not-higher : x < y → ⊥ = λ h. false≢true (f.only_if h) in
      let same : x ≡ y = omega (arith, f.never_falls, not-higher) in
      rw same g

  -- along the queries that come before t
  run_rises : {r : Round} {ss : List Step} → Run p r ss → (zs later : List Step) (t : Step) → ss ≡ zs ++ (t ∷ later) → RoundKept p r
      → Rises r.low t.round.low (some_ended zs)
  unfolding any some_ended
  run_rises {r} (last e) [] later t split k = none_rises r t (head-eq_of_cons-eq split)
  run_rises (last e) (z ∷ zs) later t split k = absurd (omega (arith, ap length split, length-append zs (t ∷ later)))
  run_rises {r} (more e run) [] later t split k = none_rises r t (head-eq_of_cons-eq split)
  run_rises {r} (more {s = s} e run) (z ∷ zs) later t split k =
      let here = next_rises r s k e in
      let onward = run_rises run zs later t (tail-eq_of_cons-eq split) (kept_next p ok r s k e) in
      rw (← head-eq_of_cons-eq split) (rises_then _ _ here onward)

  -- the run from one of its queries on
  from : (r : Round) {rest later : List Step} {s : Step} → Run p r (ask p r ∷ rest) → ask p r ∷ rest ≡ s ∷ later → Run p s.round (s ∷ later)
  unfolding ask
  from r run e = rw (← head-eq_of_cons-eq e, ← tail-eq_of_cons-eq e) run

  run_from : {r : Round} {ss : List Step} → Run p r ss → (xs later : List Step) (s : Step) → ss ≡ xs ++ (s ∷ later) → Run p s.round (s ∷ later)
  unfolding ask
  run_from {r} (last e) [] later s split = from r (last e) split
  run_from (last e) (x ∷ xs) later s split = absurd (omega (arith, ap length split, length-append xs (s ∷ later)))
  run_from {r} (more e run) [] later s split = from r (more e run) split
  run_from (more e run) (x ∷ xs) later s split = run_from run xs later s (tail-eq_of_cons-eq split)

  -- the queries from one cut on and before the other
  between_cuts : (ss xs zs later : List Step) (t : Step) (m n : ℕ) → ss ≡ (xs ++ zs) ++ (t ∷ later) → m ≡ length xs + 1 → n ≡ length (xs ++ zs) + 1
      → drop (m - 1) (take (n - 1) ss) ≡ zs
  between_cuts ss xs zs later t m n split first second =
      let before : m - 1 ≡ length xs = omega arith in
      let until : n - 1 ≡ length (xs ++ zs) = omega arith in
      rw (split, until, take-append_seam (xs ++ zs) (t ∷ later), before) (drop-append_seam xs zs)

  pub cut_rises : (a b m n : ℕ) (s t : Step) → a ≤ b → CutAt a (trace p) s m → CutAt b (trace p) t n
      → Rises s.round.low t.round.low (ends_between m n (trace p))
  unfolding ends_between
  cut_rises a b m n s t h x y =
      let (zs, front, rest) = cut_forward (trace p) a b m n s t h x y in
      let run = run_from (trace_run p ok) x.earlier x.later s x.split in
      let split : trace p ≡ (x.earlier ++ zs) ++ (t ∷ y.later) = rw (← front) y.split in
      let counted : n ≡ length (x.earlier ++ zs) + 1 = rw (← front) y.counted in
      let between : ends_between m n (trace p) ≡ some_ended zs
      = ap some_ended (between_cuts (trace p) x.earlier zs y.later t m n split x.counted counted) in
      rw between (run_rises run zs y.later t rest (rounds_kept p ok s (cut_inside x).0))
