-- The numbers that records give to places, each once and without those that are d, which a place has without a record: each is the number of its
-- place, no place has two, they are no more than before, and the number of every place is what it was. So it is of the estimates of the canonical
-- form, where d is the default, and of its waits, where d is 0. Assumes nothing.
use mathlib.Core.Path.{◌≡◌, refl, sym, ap, ◌∙◌}
use mathlib.Core.Logic.{◌⊎◌, inl, inr}
use mathlib.Core.Bool.{Bool, true, false, cond, not, true≢false, false≢true}
use mathlib.Core.List.Memᴰ
use mathlib.Core.List.{List, [], ◌∷◌, map, head_d, Memᴰ}
use Prim.Native.Nat.{ℕ, zero, suc, ◌≤◌, ◌<◌}
use native.Mathlib.Decide.{ℕ_discrete, dec_le}
use native.Mathlib.Omega.{arith}
use lib.Dec.{eqb}
use lib.ListN.{length, length-map}
use borrow.Author.Tests.{eqb-true, ne_eqb, eq-eqb, not-true}
use Rattle.model.specs.Lists.{filter, below, member, repeats}
use Rattle.model.specs.Items.{PlaceValue, Lane}
use Rattle.model.specs.Stated.{Stated, lookup, default, estimate_at, lane_cost, wait_at, arc_of}
use Rattle.model.specs.Refusals.{places_in}
use Rattle.model.proofs.Lists.{neither, filter-member, filter-length, member_true, below-member, below_length, different_among, not_true_false}
use Rattle.model.proofs.Tests.{or_none, repeats_snoc}
use Rattle.model.proofs.Lookups.{lookup_absent}
use Rattle.map_writer.specs.Canonical.{by_place, others_by_place, own_estimates, some_default, canonical}
use Rattle.map_writer.proofs.AtMostOne.{unless_first}

-- ---- the numbers that a function gives to places, without those that are d
abbrev given : (ℕ → ℕ) → ℕ → PlaceValue
given f v = record { place = v; value = f v }

module _ (d : ℕ) where
  abbrev pub is_other : PlaceValue → Bool
  is_other x = not (eqb x.value d)

  abbrev kept : (ℕ → ℕ) → List ℕ → List PlaceValue
  kept f vs = filter is_other (map (given f) vs)

  -- a place has its number if it is among the places, or if it is d
  kept_lookup : (f : ℕ → ℕ) (vs : List ℕ) (v : ℕ) → (f v ≡ d) ⊎ Memᴰ v vs → lookup d (kept f vs) v ≡ f v
  unfolding filter lookup
  kept_lookup f [] v (inl e) = sym e
  kept_lookup f [] v (inr i) = elim i [ ]
  kept_lookup f (u ∷ us) v h = go (ℕ_discrete u v) (eqb (f u) d) refl (kept_lookup f us v) h
    where
      go : Dec (u ≡ v) → (z : Bool) → eqb (f u) d ≡ z → ((f v ≡ d) ⊎ Memᴰ v us → lookup d (kept f us) v ≡ f v)
          → (f v ≡ d) ⊎ Memᴰ v (u ∷ us)
          → lookup d (cond (not z) (given f u ∷ kept f us) (kept f us)) v ≡ f v
      go (yes e) true z rest h = rest (inl (ap f (sym e) ∙ eqb-true (f u) d z))
      go (yes e) false z rest h = rw (eq-eqb u v e) (ap f e)
      go (no n) true z rest (inl e) = rest (inl e)
      go (no n) true z rest (inr (Memᴰ.head e)) = absurd (n (sym e))
      go (no n) true z rest (inr (Memᴰ.tail i)) = rest (inr i)
      go (no n) false z rest (inl e) = rw (ne_eqb u v n) (rest (inl e))
      go (no n) false z rest (inr (Memᴰ.head e)) = absurd (n (sym e))
      go (no n) false z rest (inr (Memᴰ.tail i)) = rw (ne_eqb u v n) (rest (inr i))

  -- and what is kept depends on the numbers of these places alone
  kept_same : (f g : ℕ → ℕ) (vs : List ℕ) → ((v : ℕ) → Memᴰ v vs → f v ≡ g v) → kept f vs ≡ kept g vs
  unfolding filter
  kept_same f g [] same = refl
  kept_same f g (v ∷ vs) same =
      rw (same v (Memᴰ.head refl), kept_same f g vs (λ u i. same u (Memᴰ.tail i))) refl

  -- what is kept is of these places, with the numbers given, and not d
  kept-member : (f : ℕ → ℕ) (vs : List ℕ) (x : PlaceValue) → Memᴰ x (kept f vs)
      → Memᴰ x.place vs × (x.value ≡ f x.place) × (is_other x ≡ true)
  kept-member f vs x i =
      let (m, differs) = (filter-member is_other (map (given f) vs) x).0 i in
      let (v, j, is) = Memᴰ.of_map (given f) vs m in
      (rw (← is) j, rw (← is) refl, differs)

  -- places that do not repeat have at most one number each
  kept_single : (f : ℕ → ℕ) (vs : List ℕ) → repeats vs ≡ false → repeats (places_in (kept f vs)) ≡ false
  unfolding filter repeats
  kept_single f [] h = refl
  kept_single f (u ∷ us) h =
      let (new, rest) = neither (member u us) (repeats us) h in
      go (not (eqb (f u) d)) (not_true_false _ (λ m. absent new m)) (kept_single f us rest)
    where
      absent : member u us ≡ false → member u (places_in (kept f us)) ≡ true → ⊥
      absent new m =
          let (x, i, is) = Memᴰ.of_map (λ (x : PlaceValue). x.place) (kept f us) ((member_true u (places_in (kept f us))).0 m) in
          let there : member u us ≡ true = (member_true u us).1 (rw is at (kept-member f us x i).0) in
          true≢false (sym there ∙ new)

      go : (z : Bool) → member u (places_in (kept f us)) ≡ false → repeats (places_in (kept f us)) ≡ false
          → repeats (places_in (cond z (given f u ∷ kept f us) (kept f us))) ≡ false
      go true new rest = or_none (member u (places_in (kept f us))) (repeats (places_in (kept f us))) new rest
      go false new rest = rest

  -- a place whose number is not d is given it
  other_given : (xs : List PlaceValue) (v : ℕ) → not (eqb (lookup d xs v) d) ≡ true → Memᴰ v (places_in xs)
  unfolding lookup
  other_given [] v h = absurd (false≢true (sym (ap not (eq-eqb d d refl)) ∙ h))
  other_given (x ∷ xs) v h = go (eqb x.place v) refl h (other_given xs v)
    where
      go : (t : Bool) → eqb x.place v ≡ t → not (eqb (cond t x.value (lookup d xs v)) d) ≡ true
          → (not (eqb (lookup d xs v) d) ≡ true → Memᴰ v (places_in xs)) → Memᴰ v (places_in (x ∷ xs))
      go true q h later = Memᴰ.head (sym (eqb-true x.place v q))
      go false q h later = Memᴰ.tail (later h)

-- the numbers below n are different
below_different : (n : ℕ) → repeats (below n) ≡ false
unfolding below repeats
below_different zero = refl
below_different (suc n) =
    let new : member n (below n) ≡ false
    = not_true_false _ (λ m. let l = (below-member n n).0 ((member_true n (below n)).0 m) in omega (arith, l)) in
    repeats_snoc (below n) n ∙ or_none (repeats (below n)) (member n (below n)) (below_different n) new

-- ---- the numbers that records give
-- all are of the first n places
abbrev pub Inside : ℕ → List PlaceValue → Type 0
Inside n xs = (x : PlaceValue) → Memᴰ x xs → x.place < n

module _ (d n : ℕ) (xs : List PlaceValue) where
  -- every place has its number
  pub by_place_lookup : Inside n xs → (v : ℕ) → lookup d (others_by_place d n xs) v ≡ lookup d xs v
  unfolding others_by_place by_place
  by_place_lookup inside v = kept_lookup d (lookup d xs) (below n) v (go (dec_le n v))
    where
      go : Dec (n ≤ v) → (lookup d xs v ≡ d) ⊎ Memᴰ v (below n)
      go (yes l) = inl (lookup_absent d xs v (λ x i is. omega (arith, inside x i)))
      go (no l) = inr ((below-member n v).1 (omega arith))

  -- each is the number of its place, which is one of the n
  pub by_place_member : (x : PlaceValue) → Memᴰ x (others_by_place d n xs) → (x.place < n) × (x.value ≡ lookup d xs x.place)
  unfolding others_by_place by_place
  by_place_member x i =
      let (place, value, _) = kept-member d (lookup d xs) (below n) x i in
      ((below-member n x.place).0 place, value)

  -- and was given to it
  pub by_place_given : (x : PlaceValue) → Memᴰ x (others_by_place d n xs) → Memᴰ x.place (places_in xs)
  unfolding others_by_place by_place
  by_place_given x i =
      let (_, value, differs) = kept-member d (lookup d xs) (below n) x i in
      other_given d xs x.place (rw value at differs)

  -- no place has two
  pub by_place_single : repeats (places_in (others_by_place d n xs)) ≡ false
  unfolding others_by_place by_place
  by_place_single = kept_single d (lookup d xs) (below n) (below_different n)

  -- they are no more than there are places
  pub by_place_few : length (others_by_place d n xs) ≤ n
  unfolding others_by_place by_place
  by_place_few =
      let each = length-map (below n) (given (lookup d xs)) in
      omega (arith, filter-length (is_other d) (by_place d n xs), each, below_length n)

  -- and no more than before
  pub by_place_fewer : length (others_by_place d n xs) ≤ length xs
  by_place_fewer =
      let some : List PlaceValue = others_by_place d n xs in
      let among : (v : ℕ) → Memᴰ v (places_in some) → Memᴰ v (places_in xs)
      = λ v i. let (x, j, is) = Memᴰ.of_map (λ (x : PlaceValue). x.place) some i in rw (← is) (by_place_given x j) in
      let fewer = different_among (places_in some) (places_in xs) by_place_single among in
      omega (arith, length-map some (λ (x : PlaceValue). x.place), length-map xs (λ (x : PlaceValue). x.place))

-- they depend on d and on the number of each place only
pub by_place_same : (d e m n : ℕ) (xs ys : List PlaceValue) → d ≡ e → m ≡ n → ((v : ℕ) → v < m → lookup d xs v ≡ lookup e ys v)
    → others_by_place d m xs ≡ others_by_place e n ys
unfolding others_by_place by_place
by_place_same d e m n xs ys same size looks =
    kept_same d (lookup d xs) (lookup d ys) (below m) (λ v i. looks v ((below-member m v).0 i) ∙ ap (λ x. lookup x ys v) (sym same))
    ∙ (λ i. others_by_place (same i) (size i) ys)

-- without those of places that pass a test, these places have d
module _ (d : ℕ) (p : ℕ → Bool) where
  abbrev without : List PlaceValue → List PlaceValue
  without xs = filter (λ (x : PlaceValue). not (p x.place)) xs

  lookup_without : (xs : List PlaceValue) (v : ℕ) → lookup d (without xs) v ≡ cond (p v) d (lookup d xs v)
  unfolding filter lookup
  lookup_without [] v = go (p v)
    where
      go : (t : Bool) → d ≡ cond t d d
      go true = refl
      go false = refl
  lookup_without (x ∷ xs) v = go (ℕ_discrete x.place v) (p x.place) refl (lookup_without xs v)
    where
      go : Dec (x.place ≡ v) → (t : Bool) → p x.place ≡ t → lookup d (without xs) v ≡ cond (p v) d (lookup d xs v)
          → lookup d (cond (not t) (x ∷ without xs) (without xs)) v ≡ cond (p v) d (cond (eqb x.place v) x.value (lookup d xs v))
      go (yes is) true q later = let here = ap p (sym is) ∙ q in rw here (rw here at later)
      go (yes is) false q later = let here = ap p (sym is) ∙ q in rw (here, eq-eqb x.place v is)
      go (no other) true q later = rw (ne_eqb x.place v other) later
      go (no other) false q later = rw (ne_eqb x.place v other) later

-- ---- the canonical form
-- all estimates and waits are of places of the map
pub record ValuesInside (s : Stated) : Type 0 where
  pub estimates : Inside s.size.places s.estimates
  pub waits : Inside s.size.places s.waits

-- a test that decides twice
twice : {A : Type 0} (t : Bool) (x y z : A) → cond t x (cond t y z) ≡ cond t x z
twice true x y z = refl
twice false x y z = refl

module _ (s : Stated) where
  -- at a goal, d stands for the own estimate
  pub own_lookup : (d v : ℕ) → lookup d (own_estimates s) v ≡ cond (member v s.job.goals) d (lookup d s.estimates v)
  unfolding own_estimates
  own_lookup d v = lookup_without d (λ u. member u s.job.goals) s.estimates v

  -- so it is known from the estimate and the default
  pub own_known : (v : ℕ) → lookup (default s) (own_estimates s) v ≡ cond (member v s.job.goals) (default s) (estimate_at s v)
  unfolding estimate_at
  own_known v = own_lookup (default s) v ∙ sym (twice (member v s.job.goals) (default s) 0 (lookup (default s) s.estimates v))

  pub own-member : (e : PlaceValue) → Memᴰ e (own_estimates s) → Memᴰ e s.estimates × (member e.place s.job.goals ≡ false)
  unfolding own_estimates
  own-member e i = let (m, other) = (filter-member _ s.estimates e).0 i in (m, not-true _ other)

  pub own_fewer : length (own_estimates s) ≤ length s.estimates
  unfolding own_estimates
  own_fewer = filter-length _ s.estimates

  -- no goal has a record
  pub canonical_own : (e : PlaceValue) → Memᴰ e (canonical s).estimates → member e.place s.job.goals ≡ false
  unfolding canonical
  canonical_own e i =
      let (x, j, is) = Memᴰ.of_map _ (own_estimates s) (by_place_given (default s) s.size.places (own_estimates s) e i) in
      rw (← is) (own-member x j).1

  pub canonical_default : default (canonical s) ≡ default s
  unfolding default canonical some_default
  canonical_default = let d = head_d s.defaults 0 in unless_first d 0 (eqb d 0) (eqb-true d 0)

  module _ (inside : ValuesInside s) where
    pub canonical_estimate : (v : ℕ) → estimate_at (canonical s) v ≡ estimate_at s v
    unfolding canonical estimate_at
    canonical_estimate v =
        let own = by_place_lookup (default s) s.size.places (own_estimates s) (λ e i. inside.estimates e (own-member e i).0) v in
        rw (canonical_default, own, own_lookup (default s) v) (twice (member v s.job.goals) 0 (default s) (lookup (default s) s.estimates v))

    pub canonical_wait : (v : ℕ) → wait_at (canonical s) v ≡ wait_at s v
    unfolding canonical wait_at
    canonical_wait = by_place_lookup 0 s.size.places s.waits inside.waits

    -- a lane becomes the same arc
    pub canonical_arc : (l : Lane) → arc_of (canonical s) l ≡ arc_of s l
    unfolding canonical lane_cost arc_of
    canonical_arc l = rw (canonical_wait l.from)
