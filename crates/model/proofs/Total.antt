-- The bound on the total of the queries, by one invariant over what is still to come, the budget and the queries left in the round.
-- Assumes nothing.
use mathlib.Core.Path.{◌≡◌, refl, sym, ◌∙◌, ap}
use mathlib.Core.Logic.{◌⊎◌, inl, inr, ◌↔◌}
use mathlib.Core.Bool.{Bool, true, false}
use mathlib.Core.List.{List, [], ◌∷◌, Memᴰ}
use mathlib.Core.Option.{Option, none, some}
use Prim.Native.Nat.{ℕ, zero, suc, ◌+◌, ◌-◌, ◌*◌, ◌/◌, ◌^◌, ◌≤◌, ◌<◌}
use native.Mathlib.Nat.{two-pow-succ, mul-suc, mul-add, suc-mul, mul_assoc, mul_comm, mul_left_comm}
use native.Mathlib.Nat.{mul-le-mul_left, mul-le-mul_right, one-le-mul, le-div_iff_mul-le, div-one}
use native.Mathlib.Omega.{arith}
use lib.Dec.{eqb}
use lib.Pow.{pow_pos}
use borrow.Author.Tests.{eqb-true}
use Rattle.model.specs.Numbers.{digits_up_to, binary_digits}
use Rattle.model.specs.Problem.{Problem, Valid}
use Rattle.model.specs.Query.{Outcome, ended, over, found, nothing, query}
use Rattle.model.specs.Rounds.{Round, Step, first_round, limit_of, close_if, settle, after, ask, next, go_on, trace_up_to, enough, trace, total}
use Rattle.model.specs.Rounds.{never_spent}
use Rattle.model.specs.Terms.{RoundKept, Closes}
use Rattle.model.proofs.Lists.{none-some}
use Rattle.model.proofs.Queries.{ended_next, cost_at_most_budget}
use Rattle.model.proofs.Crossing.{next_above_limit}
use Rattle.model.proofs.Rounds.{round, over_short, asked, kept_first, kept_next, rounds_kept, low_below}

digits_up_to_lem : (k n d : ℕ) → n ≤ k → (digits_up_to k n ≤ d) ↔ (n < 2 ^ d)
unfolding digits_up_to
digits_up_to_lem zero n d h = (λ x. omega (arith, pow_pos d), λ x. omega arith)
digits_up_to_lem (suc k) zero d h = (λ x. pow_pos d, λ x. omega arith)
digits_up_to_lem (suc k) (suc n) zero h = (λ x. omega arith, λ x. omega arith)
digits_up_to_lem (suc k) (suc n) (suc d) h =
    let half = digits_up_to_lem k (suc n / 2) d (omega arith) in
    (λ x. omega (arith, half.0 (omega arith), two-pow-succ d), λ x. omega (arith, half.1 (omega (arith, two-pow-succ d))))

pub digits_below : (n d : ℕ) → (binary_digits n ≤ d) ↔ (n < 2 ^ d)
unfolding binary_digits
digits_below n d = digits_up_to_lem n n d (omega arith)

-- a number at least twice as large has more digits
digits_rise : (x y : ℕ) → 1 ≤ y → 2 * x ≤ y → binary_digits x < binary_digits y
digits_rise x y s h = go (binary_digits y) ((digits_below y (binary_digits y)).0 (omega arith))
  where
    go : (k : ℕ) → y < 2 ^ k → binary_digits x < k
    go zero l = absurd (omega arith)
    go (suc k) l = omega (arith, (digits_below x k).1 (omega (arith, two-pow-succ k)))

digits_some : (x : ℕ) → 1 ≤ x → 1 ≤ binary_digits x
digits_some x h = omega (arith, digits_rise 0 x h (omega arith))

-- A query costs c, at most b, and the number of queries left falls from Q to P: what g b Q falls by pays for g c.
pays_for : (g t m B : ℕ) {b c P Q : ℕ} → c ≤ b → P < Q → g * t + m ≤ B + g * (b * P) → g * (c + t) + m ≤ B + g * (b * Q)
pays_for g t m B {b} {c} {P} {Q} h l e =
    let price : g * c ≤ g * b = mul-le-mul_left g h in
    let less : g * (b * suc P) ≤ g * (b * Q) = mul-le-mul_left g (mul-le-mul_left b l) in
    omega (arith, mul-add g c t, simp (mul-suc, mul-add) at less)

-- The whole of w q x covers w x and a round of at most w queries at the budget x.
grow : (t x : ℕ) {q g w B Q : ℕ} → q ≡ suc g → Q ≤ w → g * t + w * (q * x) ≤ B + g * (x * Q) → g * t + w * x ≤ B
grow t x {q} {g} {w} {B} {Q} s h e =
    let most : g * (x * Q) ≤ g * (x * w) = mul-le-mul_left g (mul-le-mul_left x h) in
    let parts : w * (q * x) ≡ g * (x * w) + w * x = rw (s, suc-mul, mul-add, mul_left_comm w g x, mul_comm w x) in
    omega arith

-- the number of queries left in the round, at most: d is such that low stays below 2 ^ d
pub left : ℕ → ℕ → Option ℕ → ℕ
left d low none = 2 * d + 2 - binary_digits (low + 1)
left d low (some high) = binary_digits (high - low)

pub left_at_first : (d low : ℕ) → left d low none ≤ 2 * d + 1
unfolding left
left_at_first d low = omega (arith, digits_some (low + 1) (omega arith))

pub left_some : (d low : ℕ) (high : Option ℕ) → low < 2 ^ d → ((h : ℕ) → high ≡ some h → low < h) → 1 ≤ left d low high
unfolding left
left_some d low none l a = omega (arith, (digits_below (low + 1) (suc d)).1 (omega (arith, two-pow-succ d)))
left_some d low (some h) l a = digits_some (h - low) (omega (arith, a h refl))

-- the query goes on in the same round, with fewer queries left
pub record GoesOn (d : ℕ) (r s : Round) : Type 0 where
  pub same : s.budget ≡ r.budget
  pub fewer : left d s.low s.high < left d r.low r.high

-- the query closes the round
pub record IsClosed (p : Problem) (r s : Round) : Type 0 where
  pub unset : s.high ≡ none
  pub grown : s.budget ≡ p.growth * r.budget
  pub was_over : (query p s.low r.budget).outcome ≡ over

module _ (p : Problem) (ok : Valid p) where
  abbrev pub Proceeds : ℕ → Round → Round → Type 0
  Proceeds d r s = GoesOn d r s ⊎ IsClosed p r s

  -- low and high move to these, which close the round where they are equal
  settles : (d : ℕ) (r : Round) (low h : ℕ) → RoundKept p (settle p.growth low (some h) r.budget) → (query p h r.budget).outcome ≡ over
      → (low < h → binary_digits (h - low) < left d r.low r.high) → Proceeds d r (settle p.growth low (some h) r.budget)
  unfolding settle close_if left
  settles d r low h k o f = go (eqb low h) refl k
    where
      go : (x : Bool) → eqb low h ≡ x → RoundKept p (close_if x p.growth low h r.budget)
          → Proceeds d r (close_if x p.growth low h r.budget)
      go true e c = inr (record { unset = refl; grown = refl; was_over = rw (eqb-true low h e) o })
      go false e c = inl (record { same = refl; fewer = f (c.high_above h refl) })

  proceeds_ended : (d low : ℕ) (high : Option ℕ) (b x : ℕ) → RoundKept p (round low high b) → RoundKept p (settle p.growth x high b)
      → low < 2 ^ d → limit_of low high < x → Proceeds d (round low high b) (settle p.growth x high b)
  unfolding limit_of settle left
  proceeds_ended d low none b x k c l a =
      let some_left = left_some d low none l k.high_above in
      let rise = digits_rise (low + 1) (x + 1) (omega arith) (omega arith) in
      inl (record { same = refl; fewer = omega arith })
  proceeds_ended d low (some h) b x k c l a =
      let gap : low < h = k.high_above h refl in
      settles d (round low (some h) b) x h c (k.high_over h refl) (λ f. digits_rise (h - x) (h - low) (omega arith) (omega arith))

  proceeds_over : (d low : ℕ) (high : Option ℕ) (b : ℕ) → RoundKept p (round low high b)
      → RoundKept p (settle p.growth low (some (limit_of low high)) b) → low < 2 ^ d → (query p (limit_of low high) b).outcome ≡ over
      → Proceeds d (round low high b) (settle p.growth low (some (limit_of low high)) b)
  unfolding limit_of left
  proceeds_over d low none b k c l o = settles d (round low none b) low (2 * low) c o λ f.
      let below = (digits_below (2 * low - low) d).1 (omega arith) in
      let top = (digits_below (low + 1) (suc d)).1 (omega (arith, two-pow-succ d)) in
      omega arith
  proceeds_over d low (some h) b k c l o =
      let gap : low < h = k.high_above h refl in
      settles d (round low (some h) b) low ((low + h) / 2) c o (λ f. digits_rise ((low + h) / 2 - low) (h - low) (omega arith) (omega arith))

  pub proceeds : (d : ℕ) (r s : Round) → RoundKept p r → r.low < 2 ^ d → next p (ask p r) ≡ some s → Proceeds d r s
  unfolding next ask after
  proceeds d r s k l e = go (query p C r.budget).outcome refl e
    where
      C : ℕ
      C = limit_of r.low r.high

      kept : RoundKept p s
      kept = kept_next p ok r s k e

      go : (o : Outcome) → (query p C r.budget).outcome ≡ o → after p.growth r C o ≡ some s → Proceeds d r s
      go (ended x) o a =
          let is : settle p.growth x r.high r.budget ≡ s = cc in
          let above : C < x = next_above_limit p ok C x (ended_next p C r.budget x o).1 in
          rw (← is) (proceeds_ended d r.low r.high r.budget x k (rw is kept) l above)
      go over o a =
          let is : settle p.growth r.low (some C) r.budget ≡ s = cc in
          rw (← is) (proceeds_over d r.low r.high r.budget k (rw is kept) l o)
      go found o a = none-some a
      go nothing o a = none-some a

  -- low stays below 2 ^ d in these queries, and only rounds with a budget below n close
  record Bounded (n d : ℕ) (ss : List Step) : Type 0 where
    low_below : (s : Step) → Memᴰ s ss → s.round.low < 2 ^ d
    closes_below : (s : Step) → Memᴰ s ss → Closes p s → s.round.budget < n

  abbrev bound : ℕ → ℕ → ℕ
  bound n d = p.growth * p.growth * n * (2 * d + 1)

  -- what of the bound is used up when the round with budget b ends
  abbrev used : ℕ → ℕ → ℕ
  used d b = (2 * d + 1) * (p.growth * b)

  -- The queries ss, the first of which begins in round r, keep within the bound.
  abbrev Keeps : ℕ → ℕ → Round → List Step → Type 0
  Keeps n d r ss =
      (p.growth - 1) * total ss + used d r.budget ≤ bound n d + (p.growth - 1) * (r.budget * left d r.low r.high)

  used_below : (n d b : ℕ) → b ≤ p.growth * n → used d b ≤ bound n d
  used_below n d b h =
      let most = mul-le-mul_left (2 * d + 1) (mul-le-mul_left p.growth h) in
      rw (mul_comm (p.growth * p.growth * n) (2 * d + 1), mul_assoc p.growth p.growth n) most

  module _ (n d : ℕ) (r : Round) (ss : List Step) where
    pays : {Q : ℕ} → Q < left d r.low r.high → (p.growth - 1) * total ss + used d r.budget ≤ bound n d + (p.growth - 1) * (r.budget * Q)
        → Keeps n d r (ask p r ∷ ss)
    unfolding total ask
    pays = pays_for (p.growth - 1) (total ss) (used d r.budget) (bound n d) (cost_at_most_budget p (limit_of r.low r.high) r.budget)

    -- the last query of a round
    keeps_last : RoundKept p r → r.low < 2 ^ d → (p.growth - 1) * total ss + used d r.budget ≤ bound n d → Keeps n d r (ask p r ∷ ss)
    keeps_last k l h = pays (left_some d r.low r.high l k.high_above) (omega arith)

    keeps_on : (s : Round) → GoesOn d r s → Keeps n d s ss → Keeps n d r (ask p r ∷ ss)
    keeps_on s on h = pays on.fewer (rw on.same at h)

    keeps_closed : (s : Round) → IsClosed p r s → RoundKept p r → r.low < 2 ^ d → Keeps n d s ss → Keeps n d r (ask p r ∷ ss)
    keeps_closed s c k l h =
        let first : left d s.low s.high ≤ 2 * d + 1 = rw c.unset (left_at_first d s.low) in
        keeps_last k l (grow (total ss) (p.growth * r.budget) (omega (arith, ok.grows)) first (rw c.grown at h))

  keeps : (n d k : ℕ) (r : Round) → RoundKept p r → r.budget ≤ p.growth * n → Bounded n d (trace_up_to k p r) → Keeps n d r (trace_up_to k p r)
  unfolding trace_up_to total go_on ask
  keeps n d zero r k small w = omega (arith, used_below n d r.budget small)
  keeps n d (suc j) r k small w = go (next p (ask p r)) refl rest (keeps n d j)
    where
      rest : Bounded n d (go_on (next p (ask p r)) (trace_up_to j p))
      rest = record { low_below = λ s i. w.low_below s (Memᴰ.tail i); closes_below = λ s i. w.closes_below s (Memᴰ.tail i) }

      low : r.low < 2 ^ d
      low = w.low_below (ask p r) (Memᴰ.head refl)

      onward : (s : Round) → next p (ask p r) ≡ some s → (s.budget ≤ p.growth * n → Keeps n d s (trace_up_to j p s))
          → Proceeds d r s → Keeps n d r (ask p r ∷ trace_up_to j p s)
      onward s e ih (inl on) = keeps_on n d r (trace_up_to j p s) s on (ih (rw on.same small))
      onward s e ih (inr c) =
          let closes : Closes p (ask p r) = record { round = s; comes_next = e; grown = c.grown } in
          let below : r.budget ≤ n = omega (arith, w.closes_below (ask p r) (Memᴰ.head refl) closes) in
          keeps_closed n d r (trace_up_to j p s) s c k low (ih (rw c.grown (mul-le-mul_left p.growth below)))

      go : (o : Option Round) → next p (ask p r) ≡ o → Bounded n d (go_on o (trace_up_to j p))
          → ((s : Round) → RoundKept p s → s.budget ≤ p.growth * n → Bounded n d (trace_up_to j p s) → Keeps n d s (trace_up_to j p s))
          → Keeps n d r (ask p r ∷ go_on o (trace_up_to j p))
      go none e v ih = keeps_last n d r [] k low (omega (arith, used_below n d r.budget small))
      go (some s) e v ih = onward s e (λ h. ih s (kept_next p ok r s k e) h v) (proceeds d r s k low e)

  pub total_bounded : (n d : ℕ) → 1 ≤ n → ((s : Step) → Memᴰ s (trace p) → s.round.low < 2 ^ d)
      → ((s : Step) → Memᴰ s (trace p) → Closes p s → s.round.budget < n)
      → (p.growth - 1) * total (trace p) ≤ p.growth * p.growth * n * (2 * d + 1)
  unfolding trace first_round
  total_bounded n d h l c =
      let small = one-le-mul {a = p.growth} (omega (arith, ok.grows)) h in
      let first = keeps n d enough (first_round p) (kept_first p ok) small (record { low_below = l; closes_below = c }) in
      omega (arith, grow (total (trace p)) 1 (omega (arith, ok.grows)) (left_at_first d (p.estimate p.start)) first)

  -- a round closes with low at a limit at which the query was over
  pub closes_over : (s : Step) → Memᴰ s (trace p) → (c : Closes p s) → (query p c.round.low s.round.budget).outcome ≡ over
  closes_over s i c = go (proceeds 29 s.round c.round kept (low_below p ok s i) (ap (next p) (sym (asked p s i)) ∙ c.comes_next))
    where
      kept : RoundKept p s.round
      kept = rounds_kept p ok s i

      go : Proceeds 29 s.round c.round → (query p c.round.low s.round.budget).outcome ≡ over
      go (inl on) =
          let twice : 2 * s.round.budget ≤ p.growth * s.round.budget = mul-le-mul_right s.round.budget ok.grows in
          absurd (omega (arith, c.grown, on.same, kept.some_budget))
      go (inr x) = x.was_over

  pub total_any : (p.growth - 1) * total (trace p) ≤ 59 * p.growth * p.growth * p.places
  total_any =
      let closes_below : (s : Step) → Memᴰ s (trace p) → Closes p s → s.round.budget < p.places =
      λ s i c. over_short p ok _ _ (closes_over s i c) in
      let all = total_bounded p.places 29 ok.some_place (low_below p ok) closes_below in
      omega (arith, all, mul_assoc 59 p.growth p.growth, mul_assoc 59 (p.growth * p.growth) p.places)

  pub total_at_most : total (trace p) ≤ never_spent p
  unfolding never_spent
  total_at_most =
      let some-growth : 0 < p.growth - 1 = omega (arith, ok.grows) in
      (le-div_iff_mul-le some-growth).1 (omega (arith, total_any, mul_comm (total (trace p)) (p.growth - 1)))

-- at growth 2 that is document 01's figure
pub never_spent_at_2 : (p : Problem) → p.growth ≡ 2 → never_spent p ≡ 236 * p.places
unfolding never_spent
never_spent_at_2 p two = rw two (div-one (59 * 2 * 2 * p.places + 0) ∙ omega arith)
