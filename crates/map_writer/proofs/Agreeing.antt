-- Inputs that state the same: agreement is an equivalence, the canonical form agrees with what it is of, and inputs that agree have one canonical
-- form. Assumes nothing.
use mathlib.Core.Path.{◌≡◌, refl, sym, ap, ap₂, ◌∙◌}
use mathlib.Core.Logic.{◌↔◌}
use mathlib.Core.Bool.{Bool, true, cond, false≢true}
use mathlib.Core.List.{List, [], ◌∷◌, map, Memᴰ}
use Prim.Native.Nat.{ℕ, ◌+◌, ◌≤◌, ◌<◌}
use native.Mathlib.Omega.{arith}
use lib.Dec.{eqb}
use lib.ListN.{length}
use borrow.Author.Tests.{eqb-true, eq-eqb}
use Rattle.model.specs.Lists.{filter, member}
use Rattle.model.specs.Limits.{max_places}
use Rattle.model.specs.Items.{Charge, flat, measured, Lane}
use Rattle.model.specs.Stated.{Stated, lookup, default, estimate_at, wait_at}
use Rattle.model.proofs.Lists.{both, filter-member, filter_all}
use Rattle.load.specs.Load.{Fit}
use Rattle.sort.specs.Sorting.{sort_by, one_if}
use Rattle.sort.proofs.SortLaws.{filter_cons, sort_filter, sort_member}
use Rattle.sort.proofs.SortedNumbers.{same_sorts}
use Rattle.map_writer.specs.Order.{no_later}
use Rattle.map_writer.specs.Canonical.{own_estimates, some_default, canonical}
use Rattle.map_writer.specs.Agree.{same_charge, same_lane, copies, Agree}
use Rattle.lane_rows.specs.Keys.{key_of, lane_in}
use Rattle.map_writer.proofs.KeyLaws.{keys_back, sorted_keys}
use Rattle.map_writer.proofs.PlaceValues.{by_place_same, ValuesInside, own_known, canonical_default, canonical_estimate, canonical_wait}

-- ---- the test of equality
same_charge_lem : (c d : Charge) → same_charge c d ≡ true → c ≡ d
unfolding same_charge
same_charge_lem (flat c) (flat d) e = ap flat (eqb-true c d e)
same_charge_lem (flat c) (measured m b) e = absurd (false≢true e)
same_charge_lem (measured l a) (flat d) e = absurd (false≢true e)
same_charge_lem (measured l a) (measured m b) e =
    let (length, class) = both (eqb l m) (eqb a b) e in
    ap₂ measured (eqb-true l m length) (eqb-true a b class)

own_charge : (c : Charge) → same_charge c c ≡ true
unfolding same_charge
own_charge (flat c) = eq-eqb c c refl
own_charge (measured l a) = rw (eq-eqb l l refl, eq-eqb a a refl)

own_lane : (l : Lane) → same_lane l l ≡ true
unfolding same_lane
own_lane l = rw (eq-eqb l.from l.from refl, eq-eqb l.to l.to refl, own_charge l.charge)

pub same_lane_lem : (l m : Lane) → (same_lane l m ≡ true) ↔ (l ≡ m)
unfolding same_lane
same_lane_lem l m = (equal, λ e. rw (← e) (own_lane l))
  where
    equal : same_lane l m ≡ true → l ≡ m
    equal h =
        let (from, rest) = both (eqb l.from m.from) _ h in
        let (to, charge) = both (eqb l.to m.to) _ rest in
        let from_is = eqb-true l.from m.from from in
        let to_is = eqb-true l.to m.to to in
        let charge-is = same_charge_lem l.charge m.charge charge in
        λ i. record { from = from_is i; to = to_is i; charge = charge-is i }

-- ---- lists with as many copies of every lane
-- a member taken out once
record Taken {A : Type 0} (x : A) (xs : List A) : Type 0 where
  rest : List A
  counts : (p : A → Bool) → length (filter p xs) ≡ one_if (p x) + length (filter p rest)

take-member : {A : Type 0} (x : A) (xs : List A) → Memᴰ x xs → Taken x xs
take-member x [] i = elim i [ ]
take-member x (y ∷ ys) (Memᴰ.head e) = record { rest = ys; counts = λ p. rw e (filter_cons p y ys) }
take-member x (y ∷ ys) (Memᴰ.tail i) =
    let t = take-member x ys i in
    record { rest = y ∷ t.rest; counts = λ p. omega (arith, filter_cons p y ys, filter_cons p y t.rest, t.counts p) }

copied_member : (l : Lane) (lanes : List Lane) → 0 < copies l lanes → Memᴰ l lanes
unfolding copies
copied_member l lanes h = go (filter (same_lane l) lanes) h (λ m i. (filter-member (same_lane l) lanes m).0 i)
  where
    go : (ms : List Lane) → 0 < length ms → ((m : Lane) → Memᴰ m ms → Memᴰ m lanes × (same_lane l m ≡ true)) → Memᴰ l lanes
    go [] h all = absurd (omega arith)
    go (m ∷ ms) h all =
        let (there, same) = all m (Memᴰ.head refl) in
        rw ((same_lane_lem l m).0 same) there

copies_cons : (l m : Lane) (lanes : List Lane) → copies l (m ∷ lanes) ≡ one_if (same_lane l m) + copies l lanes
unfolding copies
copies_cons l m lanes = filter_cons (same_lane l) m lanes

own_copy : (l : Lane) (lanes : List Lane) → copies l (l ∷ lanes) ≡ 1 + copies l lanes
own_copy l lanes = rw (own_lane l) at (copies_cons l l lanes)

-- every test passes as many of both
pub copies_count : (ls ms : List Lane) → ((l : Lane) → copies l ls ≡ copies l ms)
    → (p : Lane → Bool) → length (filter p ls) ≡ length (filter p ms)
unfolding copies filter
copies_count [] [] same p = refl
copies_count [] (m ∷ ms) same p = absurd (omega (arith, same m, own_copy m ms))
copies_count (l ∷ ls) ms same p =
    let found = copied_member l ms (omega (arith, same l, own_copy l ls)) in
    let taken = take-member l ms found in
    let less : (m : Lane) → copies m ls ≡ copies m taken.rest =
    λ m. omega (arith, same m, copies_cons m l ls, taken.counts (same_lane m)) in
    omega (arith, copies_count ls taken.rest less p, filter_cons p l ls, taken.counts p)

-- ---- lanes in order
filter-keys : (f : List ℕ) (p : ℕ → Bool) (lanes : List Lane)
    → length (filter p (map (key_of f) lanes)) ≡ length (filter (λ (l : Lane). p (key_of f l)) lanes)
unfolding filter
filter-keys f p [] = refl
filter-keys f p (l ∷ lanes) =
    omega (arith, filter_cons p (key_of f l) (map (key_of f) lanes), filter_cons (λ (m : Lane). p (key_of f m)) l lanes, filter-keys f p lanes)

-- lanes with as many copies of each have one order
pub copies_sort : (n : ℕ) (f : List ℕ) (ls ms : List Lane) → n ≤ max_places
    → ((l : Lane) → Memᴰ l ls → Fit n f l) → ((l : Lane) → Memᴰ l ms → Fit n f l) → ((l : Lane) → copies l ls ≡ copies l ms)
    → sort_by (no_later f) ls ≡ sort_by (no_later f) ms
copies_sort n f ls ms few fits fits' same = sym (back ls fits) ∙ ap (map lane_in) keys ∙ back ms fits'
  where
    counts : (p : ℕ → Bool) → length (filter p (map (key_of f) ls)) ≡ length (filter p (map (key_of f) ms))
    counts p = filter-keys f p ls ∙ copies_count ls ms same (λ l. p (key_of f l)) ∙ sym (filter-keys f p ms)

    keys : map (key_of f) (sort_by (no_later f) ls) ≡ map (key_of f) (sort_by (no_later f) ms)
    keys = sorted_keys n f ls few fits ∙ same_sorts (map (key_of f) ls) (map (key_of f) ms) counts ∙ sym (sorted_keys n f ms few fits')

    back : (lanes : List Lane) → ((l : Lane) → Memᴰ l lanes → Fit n f l)
        → map lane_in (map (key_of f) (sort_by (no_later f) lanes)) ≡ sort_by (no_later f) lanes
    back lanes fits = keys_back n f (sort_by (no_later f) lanes) few (λ l i. fits l ((sort_member (no_later f) lanes l).0 i))

-- ---- agreement
pub agree_back : (s t : Stated) → Agree s t → Agree t s
agree_back s t a =
    record {
      places = sym a.places;
      lanes = λ l. sym (a.lanes l);
      estimates = λ v l. sym (a.estimates v (omega (arith, a.places)));
      default = sym a.default;
      waits = λ v. sym (a.waits v);
      factors = sym a.factors;
      job = sym a.job;
    }

pub agree_then : (s t u : Stated) → Agree s t → Agree t u → Agree s u
agree_then s t u a b =
    record {
      places = a.places ∙ b.places;
      lanes = λ l. a.lanes l ∙ b.lanes l;
      estimates = λ v l. a.estimates v l ∙ b.estimates v (omega (arith, a.places));
      default = a.default ∙ b.default;
      waits = λ v. a.waits v ∙ b.waits v;
      factors = a.factors ∙ b.factors;
      job = a.job ∙ b.job;
    }

pub canonical_agrees : (s : Stated) → ValuesInside s → Agree s (canonical s)
unfolding canonical copies
canonical_agrees s inside =
    record {
      places = refl;
      lanes = λ l. sym (sort_filter (no_later s.factors) (same_lane l) s.lanes);
      estimates = λ v l. sym (canonical_estimate s inside v);
      default = sym (canonical_default s);
      waits = λ v. sym (canonical_wait s inside v);
      factors = refl;
      job = refl;
    }

-- what a canonical form depends on
canonical_same : (s t : Stated) → s.size ≡ t.size → sort_by (no_later s.factors) s.lanes ≡ sort_by (no_later t.factors) t.lanes
    → s.factors ≡ t.factors → s.growth ≡ t.growth → s.job ≡ t.job → default s ≡ default t
    → ((v : ℕ) → v < s.size.places → estimate_at s v ≡ estimate_at t v) → ((v : ℕ) → wait_at s v ≡ wait_at t v) → canonical s ≡ canonical t
unfolding canonical wait_at
canonical_same s t size lanes factors growth job given estimates waits i =
    record {
      size = size i;
      lanes = lanes i;
      estimates = by_place_same _ _ _ _ (own_estimates s) (own_estimates t) given (λ j. (size j).places) own i;
      defaults = some_default (given i);
      waits = by_place_same 0 0 _ _ s.waits t.waits refl (λ j. (size j).places) (λ v l. waits v) i;
      factors = factors i;
      growth = growth i;
      job = job i;
    }
  where
    own : (v : ℕ) → v < s.size.places → lookup (default s) (own_estimates s) v ≡ lookup (default t) (own_estimates t) v
    own v l = own_known s v ∙ (λ j. cond (member v (job j).goals) (given j) (estimates v l j)) ∙ sym (own_known t v)

pub agree_canonical : (s t : Stated) → s.growth ≡ t.growth
    → s.size.arcs ≡ length s.lanes → t.size.arcs ≡ length t.lanes → s.size.places ≤ max_places
    → ((l : Lane) → Memᴰ l s.lanes → Fit s.size.places s.factors l)
    → ((l : Lane) → Memᴰ l t.lanes → Fit t.size.places t.factors l)
    → Agree s t → canonical s ≡ canonical t
agree_canonical s t growth arcs arcs' few fits fits' a = canonical_same s t size lanes factors growth a.job a.default a.estimates a.waits
  where
    factors : s.factors ≡ t.factors
    factors = a.factors

    lengths : length s.lanes ≡ length t.lanes
    lengths =
        ap length (sym (filter_all s.lanes)) ∙ copies_count s.lanes t.lanes a.lanes (λ l. true) ∙ ap length (filter_all t.lanes)

    size : s.size ≡ t.size
    size i = record { places = a.places i; arcs = (arcs ∙ lengths ∙ sym arcs') i }

    lanes : sort_by (no_later s.factors) s.lanes ≡ sort_by (no_later t.factors) t.lanes
    lanes =
        copies_sort s.size.places s.factors s.lanes t.lanes few fits (λ l i. rw (a.places, factors) (fits' l i)) a.lanes
        ∙ ap (λ (f : List ℕ). sort_by (no_later f) t.lanes) factors
