-- The rounds keep their invariant and end. Assumes nothing.
use mathlib.Core.Path.{◌≡◌, refl, sym, ◌∙◌, ap}
use mathlib.Core.Logic.{◌⊎◌, inl, inr}
use mathlib.Core.Bool.{Bool, true, false}
use mathlib.Core.List.Memᴰ
use mathlib.Core.List.{List, [], ◌∷◌, Memᴰ}
use mathlib.Core.Option.{Option, none, some, some_inj}
use Prim.Native.Nat.{ℕ, zero, suc, ◌+◌, ◌-◌, ◌*◌, ◌/◌, ◌^◌, ◌≤◌, ◌<◌}
use native.Mathlib.Nat.{mul-le-mul_right}
use native.Mathlib.Decide.{dec_lt}
use native.Mathlib.Omega.{arith}
use lib.Dec.{eqb}
use borrow.Author.Tests.{eqb-false}
use Rattle.model.specs.Limits.{max_estimate}
use Rattle.model.specs.Problem.{Problem, Valid}
use Rattle.model.specs.Costs.{Table, cost_at, table}
use Rattle.model.specs.Query.{Outcome, ended, over, found, nothing, query_on, query}
use Rattle.model.specs.Rounds.{Round, Step, first_round, limit_of, close_if, settle, after, ask, next, go_on, trace_up_to, enough, trace}
use Rattle.model.specs.Terms.{RoundKept, Final, Finished}
use Rattle.model.proofs.Lists.{none-some}
use Rattle.model.proofs.LeastCosts.{table-length, start_within}
use Rattle.model.proofs.Keys.{within-length}
use Rattle.model.proofs.Queries.{ended_next, over_exceeds}
use Rattle.model.proofs.Crossing.{next_above_limit, same_below_next, next_at_most}

-- whether the round closes or not, low is what it is set to
pub settle_low : (q low : ℕ) (high : Option ℕ) (b : ℕ) → (settle q low high b).low ≡ low
unfolding settle close_if
settle_low q low none b = refl
settle_low q low (some h) b = go (eqb low h)
  where
    go : (t : Bool) → (close_if t q low h b).low ≡ low
    go true = refl
    go false = refl

-- the step is what is asked in its round, and the round has the property
abbrev AskedIn : (p : Problem) (P : Round → Type 0) → Step → Type 0
AskedIn p P s = (s ≡ ask p s.round) × P s.round

-- From a round on that has an invariant of the rounds, every step is what is asked in a round that has it.
along_from : (p : Problem) (P : Round → Type 0) → ((r s : Round) → P r → next p (ask p r) ≡ some s → P s)
    → (k : ℕ) (r : Round) → P r → (s : Step) → Memᴰ s (trace_up_to k p r) → AskedIn p P s
unfolding trace_up_to ask go_on
along_from p P step zero r h s i = absurd (Memᴰ.not-nil i)
along_from p P step (suc k) r h s i = go (Memᴰ.cases_cons i) (along_from p P step k)
  where
    later : (o : Option Round) → next p (ask p r) ≡ o → Memᴰ s (go_on o (trace_up_to k p))
        → ((t : Round) → P t → (u : Step) → Memᴰ u (trace_up_to k p t) → AskedIn p P u) → AskedIn p P s
    later none e i rest = absurd (Memᴰ.not-nil i)
    later (some t) e i rest = rest t (step r t h e) s i

    go : (s ≡ ask p r) ⊎ Memᴰ s (go_on (next p (ask p r)) (trace_up_to k p))
        → ((t : Round) → P t → (u : Step) → Memᴰ u (trace_up_to k p t) → AskedIn p P u) → AskedIn p P s
    go (inl e) rest = rw e (refl, h)
    go (inr i) rest = later (next p (ask p r)) refl i rest

-- An invariant of the rounds holds of every round of the trace.
pub along : (p : Problem) (P : Round → Type 0) → P (first_round p) → ((r s : Round) → P r → next p (ask p r) ≡ some s → P s)
    → (s : Step) → Memᴰ s (trace p) → P s.round
unfolding trace
along p P first step s i = (along_from p P step enough (first_round p) first s i).1

-- Every step of the trace is what is asked in its round.
pub asked : (p : Problem) (s : Step) → Memᴰ s (trace p) → s ≡ ask p s.round
unfolding trace
asked p s i = (along_from p (λ r. Unit {0}) (λ r t h e. tt) enough (first_round p) tt s i).0

final_stops : (q : ℕ) (r : Round) (C : ℕ) (o : Outcome) → after q r C o ≡ none → Final o
unfolding after
final_stops q r C (ended x) e = none-some (sym e)
final_stops q r C over e = none-some (sym e)
final_stops q r C found e = tt
final_stops q r C nothing e = tt

pub final_has_no_next : (q : ℕ) (r : Round) (C : ℕ) (o : Outcome) (s : Round) → after q r C o ≡ some s → Final o → ⊥
unfolding after
final_has_no_next q r C (ended x) s e f = f
final_has_no_next q r C over s e f = f
final_has_no_next q r C found s e f = none-some e
final_has_no_next q r C nothing s e f = none-some e

finished_longer : (s : Step) (ss : List Step) → (Final s.query.outcome → ⊥) → Finished ss → Finished (s ∷ ss)
unfolding Finished
finished_longer s [] n f = absurd f
finished_longer s (t ∷ ss) n f = (n, f)

abbrev pub round : ℕ → Option ℕ → ℕ → Round
round low high b = record { low = low; high = high; budget = b }

kept_unset : (p : Problem) (low b : ℕ) → p.estimate p.start ≤ low → 1 ≤ b → RoundKept p (round low none b)
kept_unset p low b l one = record { start_low = l; some_budget = one; high_above = λ h e. none-some e; high_over = λ h e. none-some e }

-- low and high fit
record Small (r : Round) : Type 0 where
  low_small : r.low < 2 ^ 29
  high_small : (h : ℕ) → r.high ≡ some h → h < 2 ^ 30

small_unset : (low b : ℕ) → low < 2 ^ 29 → Small (round low none b)
small_unset low b l = record { low_small = l; high_small = λ h e. none-some e }

-- how far low can still rise in the round
abbrev room : ℕ → Option ℕ → ℕ
room low none = 2 ^ 30 - low
room low (some h) = h - low

-- A crude weight, which falls with every query: what b can still grow by counts for more than all that low can rise by.
abbrev weight : Problem → Round → ℕ
weight p r = (p.places - r.budget) * 2 ^ 30 + room r.low r.high

module _ (p : Problem) (ok : Valid p) where
  pub kept_first : RoundKept p (first_round p)
  unfolding first_round
  kept_first = kept_unset p (p.estimate p.start) 1 (omega arith) (omega arith)

  -- the limit is at least low
  pub low_limit : (r : Round) → RoundKept p r → r.low ≤ limit_of r.low r.high
  unfolding limit_of
  low_limit r k = go r.high refl
    where
      go : (high : Option ℕ) → r.high ≡ high → r.low ≤ limit_of r.low high
      go none e = omega arith
      go (some h) e = omega (arith, k.high_above h e)

  pub ended_above : (C b x : ℕ) → (query p C b).outcome ≡ ended x → C < x
  ended_above C b x e = next_above_limit p ok C x (ended_next p C b x e).1

  -- 4095 × 65535 + 268435455 < 2 ^ 29
  ended_below : (C b x : ℕ) → (query p C b).outcome ≡ ended x → x < 2 ^ 29
  ended_below C b x e = omega (arith, next_at_most p ok max_estimate C x ok.estimate_below (ended_next p C b x e).1, ok.few_places_lem)

  -- below the ended number the query has the same outcome, so it is over only from there on
  ended_at_most_over : (C E b x : ℕ) → (query p C b).outcome ≡ ended x → (query p E b).outcome ≡ over → C ≤ E → x ≤ E
  unfolding query
  ended_at_most_over C E b x e o h = go (dec_lt E x)
    where
      go : Dec (E < x) → x ≤ E
      go (no n) = omega (arith, n)
      go (yes l) =
          let same : table p E ≡ table p C = same_below_next p ok C x E (ended_next p C b x e).1 h l in
          let clash : over ≡ ended x = sym o ∙ ap (λ (t : Table). (query_on p t b).outcome) same ∙ e in
          let z : ◌≡◌ {A = ℕ} 0 1 = cc in omega arith

  pub over_short : (C b : ℕ) → (query p C b).outcome ≡ over → b < p.places
  over_short C b e = omega (arith, over_exceeds p C b e, within-length (table p C), table-length p C)

  -- what holds of the round that follows a kept one
  record Follows (r s : Round) : Type 0 where
    kept : RoundKept p s
    small : Small r → Small s
    lighter : Small r → weight p s < weight p r

  -- the round closes, and the query at high was over, so b is below N
  closes : (r : Round) (low : ℕ) → RoundKept p r → r.low ≤ low → r.budget < p.places
      → (Small r → (low < 2 ^ 29) × (1 ≤ room r.low r.high)) → Follows r (round low none (p.growth * r.budget))
  closes r low k rises few bounds =
      let grown : 2 * r.budget ≤ p.growth * r.budget = mul-le-mul_right r.budget ok.grows in
      record {
        kept = kept_unset p low (p.growth * r.budget) (omega arith) (omega arith);
        small = λ m. small_unset low (p.growth * r.budget) (bounds m).0;
        lighter = λ m. omega (arith, bounds m);
      }

  -- low and high have moved towards each other, and the round closes where they meet
  settles : (r : Round) (low high : ℕ) → RoundKept p r → r.low ≤ low → low ≤ high → (query p high r.budget).outcome ≡ over
      → (Small r → (low < 2 ^ 29) × (high < 2 ^ 30) × (high - low < room r.low r.high))
      → Follows r (settle p.growth low (some high) r.budget)
  unfolding settle close_if
  settles r low high k rises ordered exceeded bounds = go (eqb low high) refl
    where
      go : (x : Bool) → eqb low high ≡ x → Follows r (close_if x p.growth low high r.budget)
      go true e = closes r low k rises (over_short high r.budget exceeded) (λ m. omega (arith, bounds m))
      go false e =
          let apart : low ≡ high → ⊥ = eqb-false low high e in
          record {
            kept = record {
              start_low = omega arith;
              some_budget = k.some_budget;
              high_above = λ h f. let same : high ≡ h = cc in omega (arith, apart);
              high_over = λ h f. let same : high ≡ h = cc in rw (← same) exceeded;
            };
            small = λ m. record { low_small = (bounds m).0; high_small = λ h f. let same : high ≡ h = cc in omega (arith, bounds m) };
            lighter = λ m. omega (arith, bounds m);
          }

  after_ended : (low : ℕ) (high : Option ℕ) (b x : ℕ) → RoundKept p (round low high b) → (query p (limit_of low high) b).outcome ≡ ended x
      → Follows (round low high b) (settle p.growth x high b)
  unfolding limit_of settle
  after_ended low none b x k e =
      let above : 2 * low < x = ended_above (2 * low) b x e in
      let below : x < 2 ^ 29 = ended_below (2 * low) b x e in
      record {
        kept = kept_unset p x b (omega arith) (omega arith);
        small = λ m. small_unset x b below;
        lighter = λ m. omega arith;
      }
  after_ended low (some h) b x k e =
      let C = (low + h) / 2 in
      let ordered : low < h = k.high_above h refl in
      let exceeded = k.high_over h refl in
      let above : C < x = ended_above C b x e in
      let below : x < 2 ^ 29 = ended_below C b x e in
      let at_most : x ≤ h = ended_at_most_over C h b x e exceeded (omega arith) in
      settles (round low (some h) b) x h k (omega arith) at_most exceeded (λ m. (below, m.high_small h refl, omega arith))

  after_over : (low : ℕ) (high : Option ℕ) (b : ℕ) → RoundKept p (round low high b) → (query p (limit_of low high) b).outcome ≡ over
      → Follows (round low high b) (settle p.growth low (some (limit_of low high)) b)
  unfolding limit_of
  after_over low none b k e = settles (round low none b) low (2 * low) k (omega arith) (omega arith) e (λ m. omega arith)
  after_over low (some h) b k e =
      let ordered : low < h = k.high_above h refl in
      settles (round low (some h) b) low ((low + h) / 2) k (omega arith) (omega arith) e (λ m. omega (arith, m.high_small h refl))

  follows : (r s : Round) → RoundKept p r → next p (ask p r) ≡ some s → Follows r s
  unfolding ask next after
  follows r s k e = go (query p C r.budget).outcome refl e
    where
      C : ℕ
      C = limit_of r.low r.high

      go : (o : Outcome) → (query p C r.budget).outcome ≡ o → after p.growth r C o ≡ some s → Follows r s
      go (ended x) o e = rw (← some_inj.0 e) (after_ended r.low r.high r.budget x k o)
      go over o e = rw (← some_inj.0 e) (after_over r.low r.high r.budget k o)
      go found o e = none-some e
      go nothing o e = none-some e

  pub kept_next : (r s : Round) → RoundKept p r → next p (ask p r) ≡ some s → RoundKept p s
  kept_next r s k e = (follows r s k e).kept

  pub rounds_kept : (s : Step) → Memᴰ s (trace p) → RoundKept p s.round
  rounds_kept s i = along p (RoundKept p) kept_first kept_next s i

  small_first : Small (first_round p)
  unfolding first_round
  small_first = small_unset (p.estimate p.start) 1 (omega (arith, ok.estimate_below p.start))

  rounds_small : (s : Step) → Memᴰ s (trace p) → Small s.round
  rounds_small s i = (along p (λ r. RoundKept p r × Small r) (kept_first, small_first) step s i).1
    where
      step : (r t : Round) → RoundKept p r × Small r → next p (ask p r) ≡ some t → RoundKept p t × Small t
      step r t h e = let f = follows r t h.0 e in (f.kept, f.small h.1)

  pub low_below : (s : Step) → Memᴰ s (trace p) → s.round.low < 2 ^ 29
  low_below s i = (rounds_small s i).low_small

  pub limit_below : (s : Step) → Memᴰ s (trace p) → s.limit < 2 ^ 30
  unfolding ask limit_of
  limit_below s i = rw (asked p s i) (go s.round.high refl)
    where
      small : Small s.round
      small = rounds_small s i

      go : (high : Option ℕ) → s.round.high ≡ high → limit_of s.round.low high < 2 ^ 30
      go none e = omega (arith, small.low_small)
      go (some h) e = omega (arith, small.low_small, small.high_small h e)

  -- so the start is within every limit that the rounds ask
  pub start_within_asked : (s : Step) → Memᴰ s (trace p) → cost_at (table p s.limit) p.start ≡ some 0
  unfolding ask
  start_within_asked s i =
      let kept = rounds_kept s i in
      let limit = ap (λ (x : Step). x.limit) (asked p s i) in
      start_within p ok s.limit (omega (arith, low_limit s.round kept, kept.start_low))

  finishes : (k : ℕ) (r : Round) → RoundKept p r → Small r → weight p r < k → Finished (trace_up_to k p r)
  unfolding trace_up_to go_on Finished ask next
  finishes zero r g m h = absurd (omega arith)
  finishes (suc k) r g m h = go (next p (ask p r)) refl (finishes k)
    where
      go : (o : Option Round) → next p (ask p r) ≡ o → ((s : Round) → RoundKept p s → Small s → weight p s < k → Finished (trace_up_to k p s))
          → Finished (ask p r ∷ go_on o (trace_up_to k p))
      go none e rest = final_stops p.growth r (ask p r).limit (ask p r).query.outcome e
      go (some s) e rest =
          let f = follows r s g e in
          let finished : Finished (trace_up_to k p s) = rest s f.kept (f.small m) (omega (arith, f.lighter m)) in
          finished_longer (ask p r) (trace_up_to k p s) (final_has_no_next p.growth r (ask p r).limit (ask p r).query.outcome s e) finished

  pub trace_finished : Finished (trace p)
  unfolding trace first_round
  trace_finished = finishes enough (first_round p) kept_first small_first light
    where
      light : weight p (first_round p) < enough
      light = omega (arith, ok.few_places_lem)
