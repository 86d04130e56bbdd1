-- Lists of records that are set from their front on: their length, and what they are.
use mathlib.Core.Path.{◌≡◌, refl, sym, ◌∙◌, ap}
use Prim.Native.Nat.{ℕ, zero, suc, ◌≤◌, ◌<◌}
use native.Mathlib.Omega.{arith}
use mathlib.Core.List.{List, [], ◌∷◌, ◌++◌, map, map-append}
use lib.ListN.{length, drop, set, length-set, length-map}
use lib.Seq.{drop-cons, append_snoc, set_at}
use Rattle.model.specs.Lists.{below}
use Rattle.model.proofs.Lists.{below_length}
use Rattle.tally.specs.declared.Tally.{Tally}
use Rattle.tally.specs.Tallied.{record_at, put_to}

-- no record is added or lost
pub put_length : (n : ℕ) (routes costs : List ℕ) (tally : List Tally) → length (put_to n routes costs tally) ≡ length tally
put_length zero routes costs tally = refl
put_length (suc n) routes costs tally =
    length-set (put_to n routes costs tally) n (record_at routes costs n) ∙ put_length n routes costs tally

module _ (routes costs : List ℕ) (tally : List Tally) where
  -- the records that are set
  abbrev front : ℕ → List Tally
  front n = map (record_at routes costs) (below n)

  front_length : (n : ℕ) → length (front n) ≡ n
  front_length n = length-map (below n) (record_at routes costs) ∙ below_length n

  -- the first record behind them is set too
  front_grows : (n : ℕ) → n < length tally → set (front n ++ drop n tally) n (record_at routes costs n) ≡ front (suc n) ++ drop (suc n) tally
  unfolding below
  front_grows n less =
      let first : Tally = record_at routes costs n in
      let later : List Tally = drop (suc n) tally in
      ap (λ (l : List Tally). set (front n ++ l) n first) (drop-cons tally n first less)
      ∙ set_at (front n) _ later first n (front_length n)
      ∙ sym (append_snoc (front n) first later)
      ∙ ap (λ (l : List Tally). l ++ later) (sym (map-append (record_at routes costs) (below n) (n ∷ [])))

-- the first n records are those of the lists, and the others are as they were
pub put_is : (n : ℕ) (routes costs : List ℕ) (tally : List Tally) → n ≤ length tally
    → put_to n routes costs tally ≡ map (record_at routes costs) (below n) ++ drop n tally
unfolding below
put_is zero routes costs tally within = refl
put_is (suc n) routes costs tally within =
    ap (λ (l : List Tally). set l n (record_at routes costs n)) (put_is n routes costs tally (omega (arith, within)))
    ∙ front_grows routes costs tally n within
