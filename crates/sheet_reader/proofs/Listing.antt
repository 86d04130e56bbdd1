-- The places of a route sheet's body, read one after another. Assumes nothing.
use mathlib.Core.Path.{◌≡◌, refl, sym, ap, ◌∙◌}
use mathlib.Core.Bool.{Bool, true, false, ◌||◌, or-true}
use mathlib.Core.List.{List, [], ◌∷◌, ◌++◌, append_assoc}
use Rattle.std.specs.Prelude.{Some, None}
use Prim.Native.Nat.{ℕ, zero, suc, ◌+◌, ◌-◌, ◌*◌, ◌≤◌, ◌<◌}
use native.Mathlib.Numerals.{add-one}
use native.Mathlib.Decide.{ℕ_discrete}
use native.Mathlib.Omega.{arith}
use lib.Dec.{leb}
use lib.ListN.{get_or, set, replicate, length-set, length-replicate}
use lib.Seq.{get_or-set_same, get_or-set_other, set_at}
use borrow.Author.Count.{below_more}
use borrow.Author.Tests.{leb-false, lt-leb}
use Rattle.model.specs.Lists.{any, repeats}
use Rattle.model.specs.Bytes.{u16, u16s}
use Rattle.model.specs.Limits.{max_places}
use Rattle.model.proofs.Bytes.{u16s-length, u16s_at}
use Rattle.model.proofs.Indices.{any_nowhere, nowhere_any, repeats_different, different_repeats}
use Rattle.sheet_reader.specs.Listing.{place_at, Passed}
use Rattle.sheet_reader.specs.Read.{listed}

-- one field more
u16s_more : (n : ℕ) (b : List ℕ) (k : ℕ) → u16s (suc n) b k ≡ u16s n b k ++ (u16 b (k + 2 * n) ∷ [])
unfolding u16s
u16s_more zero b k = let at : k ≡ k + 2 * 0 = omega arith in ap (λ (i : ℕ). u16 b i ∷ []) at
u16s_more (suc n) b k =
    let at : k + 2 + 2 * n ≡ k + 2 * suc n = omega arith in
    ap (λ (xs : List ℕ). u16 b k ∷ xs) (u16s_more n b (k + 2) ∙ ap (λ (i : ℕ). u16s n b (k + 2) ++ (u16 b i ∷ [])) at)

unmarked : (n v : ℕ) → get_or (replicate n false) v false ≡ false
unmarked zero v = refl
unmarked (suc n) zero = refl
unmarked (suc n) (suc v) = unmarked n v

module _ (body : List ℕ) (count : ℕ) where
  pub passed_none : Passed body count 0 (replicate max_places 0) (replicate max_places false)
  unfolding u16s
  passed_none =
      record {
        within = omega arith;
        listed = refl;
        marks = length-replicate max_places false;
        below = λ j l. absurd (omega arith);
        marked = λ j l. absurd (omega arith);
        met = λ v e. let none = unmarked max_places v in cc;
        different = λ j k l m. absurd (omega arith);
      }

  module _ (i : ℕ) (list : List ℕ) (seen : List Bool) (h : Passed body count i list seen) where
    -- a place below the limit that bears no mark is passed
    module _ (place : ℕ) (is : place ≡ place_at body i) (l : i < count) (m : count ≤ max_places) (small : place < max_places)
        (new : get_or seen place false ≡ false) where
      listed_more : set list i place ≡ u16s (i + 1) body 6 ++ replicate (max_places - (i + 1)) 0
      listed_more =
          let zeros : List ℕ = replicate (max_places - (i + 1)) 0 in
          let more : max_places - i ≡ suc (max_places - (i + 1)) = omega arith in
          let stored = set_at (u16s i body 6) 0 zeros place i (u16s-length i body 6) in
          rw (h.listed, more) (stored ∙ rw (is, add-one, u16s_more, append_assoc))

      below_here : place_at body i < max_places
      below_here = omega arith

      -- the place is no marked one
      clash : {v : ℕ} → get_or seen v false ≡ true → v ≡ place → ⊥
      clash {v} old e = let same = ap (λ (n : ℕ). get_or seen n false) e in cc

      marked_here : get_or (set seen place true) (place_at body i) false ≡ true
      marked_here = rw (← is) (get_or-set_same seen place true false (omega (arith, h.marks)))

      marked_before : (j : ℕ) → j < i → get_or (set seen place true) (place_at body j) false ≡ true
      marked_before j k =
          let old = h.marked j k in
          get_or-set_other seen place (place_at body j) true false (λ e. clash old e) ∙ old

      met_more : (v : ℕ) → get_or (set seen place true) v false ≡ true → (j : ℕ) × (j < i + 1) × (place_at body j ≡ v)
      met_more v e = go (ℕ_discrete v place)
        where
          go : Dec (v ≡ place) → (j : ℕ) × (j < i + 1) × (place_at body j ≡ v)
          go (yes same) = (i, omega arith, sym is ∙ sym same)
          go (no other) =
              let old = h.met v (sym (get_or-set_other seen place v true false other) ∙ e) in
              (old.0, omega (arith, old.1), old.2)

      different_here : (j : ℕ) → j < i → place_at body j ≡ place_at body i → ⊥
      different_here j p e = clash (h.marked j p) (e ∙ sym is)

      different_more : (j k : ℕ) → j < k → k < i + 1 → place_at body j ≡ place_at body k → ⊥
      different_more j k jk ki =
          below_more (λ (n : ℕ). j < n → place_at body j ≡ place_at body n → ⊥) i (λ n q p. h.different j n p q) (different_here j) k ki jk

      pub passed_more : (at : ℕ) → at ≡ place → Passed body count (i + 1) (set list i place) (set seen at true)
      passed_more at e =
          rw e
          (record {
            within = omega arith;
            listed = listed_more;
            marks = length-set seen place true ∙ h.marks;
            below = below_more (λ (j : ℕ). place_at body j < max_places) i h.below below_here;
            marked = below_more (λ (j : ℕ). get_or (set seen place true) (place_at body j) false ≡ true) i marked_before marked_here;
            met = met_more;
            different = different_more;
          })

    -- a place beyond the last one of any map, or one that is marked, makes the list impossible
    module _ (l : i < count) where
      none_listed : any (leb max_places) (u16s count body 6) || repeats (u16s count body 6) ≡ true → None ≡ listed body count
      unfolding listed
      none_listed e = rw e

      pub place_beyond : max_places ≤ place_at body i → None ≡ listed body count
      place_beyond b = go (any (leb max_places) (u16s count body 6)) refl
        where
          go : (t : Bool) → any (leb max_places) (u16s count body 6) ≡ t → None ≡ listed body count
          go true e = none_listed (rw e)
          go false e =
              let here = any_nowhere (leb max_places) (u16s count body 6) e i (rw u16s-length l) in
              let place = u16s_at count body 6 i l in
              absurd (omega (arith, leb-false max_places (place_at body i) (rw place at here)))

      pub place_again : (at : ℕ) → at ≡ place_at body i → get_or seen at false ≡ true → None ≡ listed body count
      place_again at is b = go (repeats (u16s count body 6)) refl
        where
          go : (t : Bool) → repeats (u16s count body 6) ≡ t → None ≡ listed body count
          go true e = none_listed (rw (e, or-true))
          go false e =
              let old = h.met at b in
              let first = u16s_at count body 6 old.0 (omega (arith, old.1)) in
              let again = u16s_at count body 6 i l in
              absurd (repeats_different (u16s count body 6) e old.0 i old.1 (rw u16s-length l) (first ∙ old.2 ∙ is ∙ sym again))

    -- where all are passed, the list is possible
    pub all_passed : count ≤ i → Some list ≡ listed body count
    unfolding listed
    all_passed l =
        let all : i ≡ count = omega (arith, h.within) in
        rw (none_beyond, none_twice, h.listed, all)
      where
        none_beyond : any (leb max_places) (u16s count body 6) ≡ false
        none_beyond =
            nowhere_any (leb max_places) (u16s count body 6)
            (λ j m. let k : j < count = rw u16s-length at m in
            rw (u16s_at count body 6 j k) (lt-leb max_places (place_at body j) (h.below j (omega arith))))

        none_twice : repeats (u16s count body 6) ≡ false
        none_twice =
            different_repeats (u16s count body 6)
            (λ j k m n e. let q : k < count = rw u16s-length at n in
            let p : j < count = omega arith in
            h.different j k m (omega arith) (rw (u16s_at count body 6 j p, u16s_at count body 6 k q) at e))
