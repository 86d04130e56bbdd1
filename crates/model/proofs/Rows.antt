-- Rows of conditions: the first that holds, found by its number, and groups of rows put together. Assumes nothing.
use mathlib.Core.Path.{◌≡◌, refl, sym}
use mathlib.Core.Bool.{Bool, true, false, cond}
use mathlib.Core.List.{List, [], ◌∷◌, ◌++◌, Memᴰ}
use Prim.Native.Nat.{ℕ, zero, suc}
use native.Mathlib.Omega.{arith}
use lib.Dec.{eqb}
use borrow.Author.Tests.{eqb-false}
use Rattle.model.specs.Lists.{any}
use Rattle.model.specs.Framing.{Framed}
use Rattle.model.specs.Stated.{stated}
use Rattle.model.specs.Items.{items}
use Rattle.model.specs.Refusals.{Row, first_that_holds, first_of, holds_at, form_rows, size_rows, map_rows, factor_rows, cost_rows, job_rows, input_rows}
use Rattle.model.specs.Refusals.{room_rows, rows}
use Rattle.model.specs.Refusals.{refusal, input_refusal}
use Rattle.model.proofs.Lists.{neither}

-- no row has number 0
abbrev pub Numbered : List Row → Type 0
Numbered rs = any (λ (r : Row). eqb r.number 0) rs ≡ false

abbrev pub NoneHolds : List Row → Type 0
NoneHolds rs = (r : Row) → Memᴰ r rs → r.holds ≡ false

-- the number of the first row that holds is given
pub first_given : (earlier : List Row) (n : ℕ) (later : List Row) → NoneHolds earlier
    → first_that_holds (earlier ++ (record { number = n; holds = true } ∷ later)) ≡ n
unfolding first_that_holds
first_given [] n later fails = refl
first_given (r ∷ rs) n later fails = rw (fails r (Memᴰ.head refl)) (first_given rs n later (λ s i. fails s (Memᴰ.tail i)))

pub none-given : (rs : List Row) → NoneHolds rs → first_that_holds rs ≡ 0
unfolding first_that_holds
none-given [] fails = refl
none-given (r ∷ rs) fails = rw (fails r (Memᴰ.head refl)) (none-given rs (λ s i. fails s (Memᴰ.tail i)))

first_false : (r : Row) (rs : List Row) → (r.number ≡ 0 → ⊥) → first_that_holds (r ∷ rs) ≡ 0 → (r.holds ≡ false) × (first_that_holds rs ≡ 0)
unfolding first_that_holds
first_false r rs numbered e = go r.holds e
  where
    go : (t : Bool) → cond t r.number (first_that_holds rs) ≡ 0 → (t ≡ false) × (first_that_holds rs ≡ 0)
    go true e = absurd (numbered e)
    go false e = (refl, e)

-- where no number is given, the row of each number does not hold
pub row_fails : (rs : List Row) → Numbered rs → first_that_holds rs ≡ 0 → (n : ℕ) → holds_at n rs ≡ false
unfolding any holds_at
row_fails [] numbered e n = refl
row_fails (r ∷ rs) numbered e n =
    let own = neither (eqb r.number 0) _ numbered in
    let first = first_false r rs (eqb-false r.number 0 own.0) e in
    go (eqb r.number n) first.0 (row_fails rs own.1 first.1 n)
  where
    go : (t : Bool) → r.holds ≡ false → holds_at n rs ≡ false → cond t r.holds (holds_at n rs) ≡ false
    go true here later = here
    go false here later = later

-- a number that no row has is not given
pub not_given : (n : ℕ) (rs : List Row) → any (λ (r : Row). eqb r.number n) rs ≡ false → first_that_holds rs ≡ n → n ≡ 0
unfolding any first_that_holds
not_given n [] other e = sym e
not_given n (r ∷ rs) other e =
    let apart = neither (eqb r.number n) _ other in
    go r.holds (eqb-false r.number n apart.0) (not_given n rs apart.1) e
  where
    go : (t : Bool) → (r.number ≡ n → ⊥) → (first_that_holds rs ≡ n → n ≡ 0) → cond t r.number (first_that_holds rs) ≡ n → n ≡ 0
    go true here later e = absurd (here e)
    go false here later e = later e

-- Groups put together give the first group's number, and the next one's where it gives none.
pub groups : (rs ss : List Row) → Numbered rs → first_that_holds (rs ++ ss) ≡ first_of (first_that_holds rs) (first_that_holds ss)
unfolding any first_that_holds first_of
groups [] ss numbered = refl
groups (r ∷ rs) ss numbered =
    let own = neither (eqb r.number 0) _ numbered in
    go r.holds r.number (eqb-false r.number 0 own.0) (groups rs ss own.1)
  where
    go : (t : Bool) (n : ℕ) → (n ≡ 0 → ⊥) → first_that_holds (rs ++ ss) ≡ first_of (first_that_holds rs) (first_that_holds ss)
        → cond t n (first_that_holds (rs ++ ss)) ≡ first_of (cond t n (first_that_holds rs)) (first_that_holds ss)
    go true zero above rest = absurd (above refl)
    go true (suc n) above rest = refl
    go false n above rest = rest

-- ---- The table of a route

pub rows_numbered : (f : Framed) (words bytes : ℕ) → Numbered (rows f words bytes)
unfolding rows input_rows form_rows size_rows map_rows factor_rows cost_rows job_rows room_rows any
rows_numbered f words bytes = refl

-- 16 is no refusal's number
pub no_refusal_16 : (f : Framed) (words bytes : ℕ) → refusal f words bytes ≡ 16 → ⊥
unfolding refusal rows input_rows form_rows size_rows map_rows factor_rows cost_rows job_rows room_rows any
no_refusal_16 f words bytes e = let none : ◌≡◌ {A = ℕ} 16 0 = not_given 16 (rows f words bytes) refl e in omega arith

pub input_numbered : (f : Framed) → Numbered (input_rows f)
unfolding input_rows form_rows size_rows map_rows factor_rows cost_rows job_rows any
input_numbered f = refl

-- the call adds the rows of what is lent
pub refusal_parts : (f : Framed) (words bytes : ℕ)
    → refusal f words bytes ≡ first_of (input_refusal f) (first_that_holds (room_rows (stated f.records).size words bytes))
unfolding refusal input_refusal rows
refusal_parts f words bytes = groups (input_rows f) (room_rows (stated f.records).size words bytes) (input_numbered f)

-- an input's number, group by group
pub input_groups : (f : Framed)
    → input_refusal f
    ≡ first_of (first_that_holds (form_rows f))
    (first_of (first_that_holds (size_rows (stated f.records)))
    (first_of (first_that_holds (map_rows (stated f.records)))
    (first_of (first_that_holds (factor_rows (items f.records)))
    (first_of (first_that_holds (cost_rows (stated f.records))) (first_that_holds (job_rows (items f.records) (stated f.records)))))))
unfolding input_refusal input_rows form_rows size_rows map_rows factor_rows cost_rows any
input_groups f =
    let s = stated f.records in
    let factors = factor_rows (items f.records) in
    let job = job_rows (items f.records) s in
    rw (
      groups (form_rows f) (size_rows s ++ (map_rows s ++ (factors ++ (cost_rows s ++ job)))) refl,
      groups (size_rows s) (map_rows s ++ (factors ++ (cost_rows s ++ job))) refl,
      groups (map_rows s) (factors ++ (cost_rows s ++ job)) refl,
      groups factors (cost_rows s ++ job) refl,
      groups (cost_rows s) job refl,
    )
