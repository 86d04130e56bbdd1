-- A lane as the number that it is sorted by: the lane is read back from it, and the order of lanes is that of the numbers. Assumes nothing.
use mathlib.Core.Path.{◌≡◌, refl, sym, ap, ap₂, ◌∙◌}
use mathlib.Core.Bool.{Bool, true, false, ◌&&◌, ◌||◌}
use mathlib.Core.List.{List, [], ◌∷◌, map, Memᴰ}
use Prim.Native.Nat.{ℕ, ◌+◌, ◌*◌, ◌/◌, ◌%◌, ◌≤◌, ◌<◌}
use native.Mathlib.Omega.{arith}
use lib.Dec.{ltb, eqb, leb}
use lib.ListN.{get_or}
use borrow.Author.Tests.{ltb-true, ltb-false, eqb-true, eqb-false, eq-eqb, ne_eqb, le-leb, lt-leb}
use Rattle.model.specs.Limits.{max_places, max_length, max_class}
use Rattle.model.specs.Items.{Charge, flat, measured, Lane}
use Rattle.model.specs.Stated.{cost_under}
use Rattle.model.specs.Refusals.{mismeasured}
use Rattle.model.proofs.Charges.{length_below, class_below}
use Rattle.load.specs.Load.{Fit}
use Rattle.sort.specs.Keys.{word_end}
use Rattle.sort.specs.Sorting.{sort_by}
use Rattle.sort.proofs.SortLaws.{sort_map}
use Rattle.map_writer.specs.Order.{kind_fields, order_fields, no_greater, no_later}
use Rattle.lane_rows.specs.Keys.{ends_word, measure_bits, charge_word, key_of, charge_in, lane_in}

-- ---- the two words of a key
measure_below : (c : Charge) → mismeasured c ≡ false → measure_bits c < 65536
unfolding measure_bits
measure_below (flat cost) ok = omega arith
measure_below (measured length class) ok = omega (arith, length_below length class ok, class_below length class ok)

module _ (n : ℕ) (f : List ℕ) (l : Lane) (few : n ≤ max_places) (fit : Fit n f l) where
  pub key_below : (ends_word l.from l.to < 4096 * 4096) × (charge_word f l.charge < word_end)
  key_below =
      (omega (arith, fit.from, fit.to, few), omega (arith, fit.cost, measure_below l.charge fit.measure))

  pub key_parts : (key_of f l / word_end ≡ ends_word l.from l.to) × (key_of f l % word_end ≡ charge_word f l.charge)
  unfolding key_of
  key_parts = (omega (arith, key_below.1), omega (arith, key_below.1))

-- ---- a lane read back
charge_back : (f : List ℕ) (c : Charge) → mismeasured c ≡ false → charge_in (charge_word f c) ≡ c
unfolding charge_in measure_bits cost_under
charge_back f (flat cost) ok =
    let even : (65536 * cost + 0) / 32768 % 2 ≡ 0 = omega arith in
    let is : (65536 * cost + 0) / 65536 ≡ cost = omega arith in
    rw (eq-eqb _ 0 even) (ap flat is)
charge_back f (measured length class) ok = go (length * get_or f class 0) (length_below length class ok) (class_below length class ok)
  where
    go : (cost : ℕ) → length ≤ max_length → class ≤ max_class → charge_in (65536 * cost + (32768 + 8 * length + class)) ≡ measured length class
    go cost short low =
        let x = 65536 * cost + (32768 + 8 * length + class) in
        let odd : x / 32768 % 2 ≡ 1 = omega arith in
        let length-is : x / 8 % 4096 ≡ length = omega arith in
        let class-is : x % 8 ≡ class = omega arith in
        rw (ne_eqb (x / 32768 % 2) 0 (λ e. omega (arith, e, odd))) (ap₂ measured length-is class-is)

pub key_back : (n : ℕ) (f : List ℕ) (l : Lane) → n ≤ max_places → Fit n f l → lane_in (key_of f l) ≡ l
unfolding lane_in
key_back n f l few fit =
    let (high, low) = key_parts n f l few fit in
    let from_is : key_of f l / word_end / 4096 ≡ l.from = omega (arith, high, fit.to) in
    let to_is : key_of f l / word_end % 4096 ≡ l.to = omega (arith, high, fit.to) in
    let charge-is : charge_in (key_of f l % word_end) ≡ l.charge = ap charge_in low ∙ charge_back f l.charge fit.measure in
    λ i. record { from = from_is i; to = to_is i; charge = charge-is i }

pub keys_back : (n : ℕ) (f : List ℕ) (lanes : List Lane) → n ≤ max_places → ((l : Lane) → Memᴰ l lanes → Fit n f l)
    → map lane_in (map (key_of f) lanes) ≡ lanes
keys_back n f [] few fits = refl
keys_back n f (l ∷ lanes) few fits =
    ap₂ (λ (m : Lane) (ms : List Lane). m ∷ ms) (key_back n f l few (fits l (Memᴰ.head refl)))
    (keys_back n f lanes few (λ m i. fits m (Memᴰ.tail i)))

-- ---- the order
-- numbers j and k are in the order of lists that begin with x and y
by_first : (x y j k : ℕ) (rest : Bool) → (x < y → j ≤ k) → (y < x → k < j) → (x ≡ y → rest ≡ leb j k)
    → (ltb x y || (eqb x y && rest)) ≡ leb j k
by_first x y j k rest less more same = go (ltb x y) (eqb x y) refl refl
  where
    go : (a b : Bool) → ltb x y ≡ a → eqb x y ≡ b → (a || (b && rest)) ≡ leb j k
    go true b p q = sym (le-leb j k (less (ltb-true x y p)))
    go false true p q = same (eqb-true x y q)
    go false false p q =
        let differ = eqb-false x y q in
        let above = ltb-false x y p in
        sym (lt-leb j k (more (omega arith)))

measures_order : (a l c m d j k : ℕ) → j ≡ a + (32768 + 8 * l + c) → k ≡ a + (32768 + 8 * m + d) → c ≤ max_class → d ≤ max_class
    → no_greater (l ∷ c ∷ []) (m ∷ d ∷ []) ≡ leb j k
unfolding no_greater
measures_order a l c m d j k p q low low' =
    by_first l m j k _ (λ h. omega arith) (λ h. omega arith)
    (λ e. by_first c d j k _ (λ h. omega arith) (λ h. omega arith) (λ e'. sym (le-leb j k (omega arith))))

-- lanes between the same places and of the same cost
kinds_order : (c d : Charge) (a j k : ℕ) → mismeasured c ≡ false → mismeasured d ≡ false → j ≡ a + measure_bits c → k ≡ a + measure_bits d
    → no_greater (kind_fields c) (kind_fields d) ≡ leb j k
unfolding no_greater kind_fields measure_bits
kinds_order (flat c) (flat d) a j k ok ok' p q = sym (le-leb j k (omega arith))
kinds_order (flat c) (measured m d) a j k ok ok' p q = sym (le-leb j k (omega arith))
kinds_order (measured l c) (flat d) a j k ok ok' p q = sym (lt-leb j k (omega arith))
kinds_order (measured l c) (measured m d) a j k ok ok' p q =
    measures_order a l c m d j k p q (class_below l c ok) (class_below m d ok')

pub key_order : (n : ℕ) (f : List ℕ) (l m : Lane) → n ≤ max_places → Fit n f l → Fit n f m → no_later f l m ≡ leb (key_of f l) (key_of f m)
unfolding no_later order_fields no_greater key_of
key_order n f l m few fit fit' =
    let low = (key_below n f l few fit).1 in
    let low' = (key_below n f m few fit').1 in
    let bits = measure_below l.charge fit.measure in
    let bits' = measure_below m.charge fit'.measure in
    let first = ends_word l.from l.to * word_end + 65536 * cost_under f l.charge in
    by_first l.from m.from (key_of f l) (key_of f m) _ (λ h. omega (arith, fit.to)) (λ h. omega (arith, fit'.to)) λ from.
    by_first l.to m.to (key_of f l) (key_of f m) _ (λ h. omega arith) (λ h. omega arith) λ to.
    by_first (cost_under f l.charge) (cost_under f m.charge) (key_of f l) (key_of f m) _ (λ h. omega arith) (λ h. omega arith) λ cost.
    kinds_order l.charge m.charge first (key_of f l) (key_of f m) fit.measure fit'.measure (omega arith) (omega arith)

pub sorted_keys : (n : ℕ) (f : List ℕ) (lanes : List Lane) → n ≤ max_places → ((l : Lane) → Memᴰ l lanes → Fit n f l)
    → map (key_of f) (sort_by (no_later f) lanes) ≡ sort_by leb (map (key_of f) lanes)
sorted_keys n f lanes few fits =
    sort_map (key_of f) (no_later f) leb lanes (λ l m i j. key_order n f l m few (fits l i) (fits m j))
