-- The keys of the lanes, sorted row by row: the rows one after another are all keys sorted. Assumes nothing.
use mathlib.Core.Path.{◌≡◌, refl, sym, ap, ◌∙◌}
use mathlib.Core.Bool.{Bool, true, false}
use mathlib.Core.Logic.{⊎_elim}
use mathlib.Core.List.Memᴰ
use mathlib.Core.List.{List, [], ◌∷◌, ◌++◌, map, Memᴰ}
use Prim.Native.Nat.{ℕ, zero, suc, ◌+◌, ◌/◌, ◌≤◌, ◌<◌}
use native.Mathlib.Omega.{arith}
use lib.Dec.{eqb, leb}
use lib.ListN.{length, length-append}
use borrow.Author.Tests.{eqb-true, eqb-false}
use Rattle.model.specs.Lists.{filter}
use Rattle.model.specs.Limits.{max_places}
use Rattle.model.specs.Items.{Lane}
use Rattle.model.proofs.Lists.{filter-append, filter-member}
use Rattle.load.specs.Load.{Fit, lanes_from}
use Rattle.sort.specs.Keys.{word_end}
use Rattle.sort.specs.Sorting.{sort_by, one_if}
use Rattle.sort.proofs.SortLaws.{filter_cons}
use Rattle.sort.proofs.SortedNumbers.{same_sorts, sort_append}
use Rattle.map_writer.specs.Order.{no_later}
use Rattle.lane_rows.specs.Keys.{key_of}
use Rattle.map_writer.proofs.KeyLaws.{key_parts, sorted_keys}

-- the keys of the lanes that leave v
abbrev pub lane_keys : List ℕ → List Lane → ℕ → List ℕ
lane_keys f lanes v = map (key_of f) (lanes_from v lanes)

-- the sorted keys of the rows of places below v, one row after another
unfoldable pub sorted_rows : List ℕ → List Lane → ℕ → List ℕ
sorted_rows f lanes zero = []
sorted_rows f lanes (suc v) = sorted_rows f lanes v ++ sort_by leb (lane_keys f lanes v)

-- the same, each row as it is
unfoldable rows_below : List ℕ → List Lane → ℕ → List ℕ
rows_below f lanes zero = []
rows_below f lanes (suc v) = rows_below f lanes v ++ lane_keys f lanes v

-- ---- a key's place is that of its row
module _ (n : ℕ) (f : List ℕ) (lanes : List Lane) (few : n ≤ max_places) (fits : (l : Lane) → Memᴰ l lanes → Fit n f l) where
  row_place : (v k : ℕ) → Memᴰ k (lane_keys f lanes v) → k / word_end / 4096 ≡ v
  unfolding lanes_from
  row_place v k i =
      let (l, member, is) = Memᴰ.of_map (key_of f) (lanes_from v lanes) i in
      let (lane, leaves) = (filter-member (λ (l : Lane). eqb l.from v) lanes l).0 member in
      let high = (key_parts n f l few (fits l lane)).0 in
      let from = eqb-true l.from v leaves in
      omega (arith, is, high, from, (fits l lane).to)

  rows_place : (v k : ℕ) → Memᴰ k (rows_below f lanes v) → k / word_end / 4096 < v
  unfolding rows_below
  rows_place zero k i = absurd (Memᴰ.not-nil i)
  rows_place (suc v) k i =
      ⊎_elim (λ m. omega (arith, rows_place v k m)) (λ m. omega (arith, row_place v k m)) (Memᴰ.append_cases (rows_below f lanes v) i)

  rows_sort : (v : ℕ) → sorted_rows f lanes v ≡ sort_by leb (rows_below f lanes v)
  unfolding sorted_rows rows_below sort_by
  rows_sort zero = refl
  rows_sort (suc v) =
      let rest = rows_sort v in
      let apart = sort_append (rows_below f lanes v) (lane_keys f lanes v)
      (λ j k i i'. omega (arith, rows_place v j i, row_place v k i')) in
      ap (λ (ks : List ℕ). ks ++ sort_by leb (lane_keys f lanes v)) rest ∙ sym apart

-- ---- every key is in one row
filter_both : (p : ℕ → Bool) (xs ys : List ℕ) → length (filter p (xs ++ ys)) ≡ length (filter p xs) + length (filter p ys)
filter_both p xs ys = ap length (filter-append p xs ys) ∙ length-append (filter p xs) (filter p ys)

lanes_own : (v : ℕ) (l : Lane) (lanes : List Lane) → eqb l.from v ≡ true → lanes_from v (l ∷ lanes) ≡ l ∷ lanes_from v lanes
unfolding lanes_from filter
lanes_own v l lanes e = rw e refl

lanes_other : (v : ℕ) (l : Lane) (lanes : List Lane) → eqb l.from v ≡ false → lanes_from v (l ∷ lanes) ≡ lanes_from v lanes
unfolding lanes_from filter
lanes_other v l lanes e = rw e refl

module _ (f : List ℕ) (p : ℕ → Bool) where
  abbrev passed : List ℕ → ℕ
  passed ks = length (filter p ks)

  -- a lane more counts in the row of the place that it leaves
  row_own : (l : Lane) (lanes : List Lane) (v : ℕ) → eqb l.from v ≡ true
      → passed (lane_keys f (l ∷ lanes) v) ≡ one_if (p (key_of f l)) + passed (lane_keys f lanes v)
  row_own l lanes v e = ap (λ (ls : List Lane). passed (map (key_of f) ls)) (lanes_own v l lanes e) ∙ filter_cons p (key_of f l) (lane_keys f lanes v)

  row_other : (l : Lane) (lanes : List Lane) (v : ℕ) → eqb l.from v ≡ false
      → passed (lane_keys f (l ∷ lanes) v) ≡ passed (lane_keys f lanes v)
  row_other l lanes v e = ap (λ (ls : List Lane). passed (map (key_of f) ls)) (lanes_other v l lanes e)

  -- in the rows of places below v a lane more counts if it leaves such a place
  record More (l : Lane) (lanes : List Lane) (v : ℕ) : Type 0 where
    low : l.from < v → passed (rows_below f (l ∷ lanes) v) ≡ one_if (p (key_of f l)) + passed (rows_below f lanes v)
    high : v ≤ l.from → passed (rows_below f (l ∷ lanes) v) ≡ passed (rows_below f lanes v)

  rows_more : (l : Lane) (lanes : List Lane) (v : ℕ) → More l lanes v
  unfolding rows_below
  rows_more l lanes zero = record { low = λ h. absurd (omega arith); high = λ h. refl }
  rows_more l lanes (suc v) = go (rows_more l lanes v) (eqb l.from v) refl
    where
      both : (ls : List Lane) → passed (rows_below f ls (suc v)) ≡ passed (rows_below f ls v) + passed (lane_keys f ls v)
      both ls = filter_both p (rows_below f ls v) (lane_keys f ls v)

      go : More l lanes v → (b : Bool) → eqb l.from v ≡ b → More l lanes (suc v)
      go rest true e =
          let here = eqb-true l.from v e in
          let counts = row_own l lanes v e in
          let before = rest.high (omega arith) in
          record { low = λ h. omega (arith, both (l ∷ lanes), both lanes); high = λ h. absurd (omega arith) }
      go rest false e =
          let elsewhere = eqb-false l.from v e in
          let counts = row_other l lanes v e in
          record {
            low = λ h. omega (arith, both (l ∷ lanes), both lanes, rest.low (omega arith));
            high = λ h. omega (arith, both (l ∷ lanes), both lanes, rest.high (omega arith));
          }

  rows_none : (v : ℕ) → passed (rows_below f [] v) ≡ 0
  unfolding rows_below lanes_from filter
  rows_none zero = refl
  rows_none (suc v) = omega (arith, filter_both p (rows_below f [] v) [], rows_none v)

  rows_pass : (n : ℕ) (lanes : List Lane) → ((l : Lane) → Memᴰ l lanes → l.from < n)
      → passed (rows_below f lanes n) ≡ passed (map (key_of f) lanes)
  unfolding filter
  rows_pass n [] h = rows_none n
  rows_pass n (l ∷ lanes) h =
      let first = (rows_more l lanes n).low (h l (Memᴰ.head refl)) in
      let rest = rows_pass n lanes (λ m i. h m (Memᴰ.tail i)) in
      omega (arith, first, rest, filter_cons p (key_of f l) (map (key_of f) lanes))

pub rows_sorted : (n : ℕ) (f : List ℕ) (lanes : List Lane) → n ≤ max_places → ((l : Lane) → Memᴰ l lanes → Fit n f l)
    → sorted_rows f lanes n ≡ map (key_of f) (sort_by (no_later f) lanes)
rows_sorted n f lanes few fits =
    rows_sort n f lanes few fits n
    ∙ same_sorts (rows_below f lanes n) (map (key_of f) lanes) (λ p. rows_pass f p n lanes (λ l i. (fits l i).from))
    ∙ sym (sorted_keys n f lanes few fits)
