-- The map that the words hold, once the lanes are in order, is the written map. Assumes nothing.
use mathlib.Core.Path.{◌≡◌, refl, sym, ap, ap₂, ◌∙◌}
use mathlib.Core.Bool.{Bool, true, false, cond, not}
use mathlib.Core.List.{List, [], ◌∷◌, ◌++◌, map, flat_map, append-nil, append_assoc, map-append, Memᴰ}
use Prim.Native.Nat.{ℕ, zero, suc, ◌+◌, ◌*◌, ◌≤◌, ◌<◌, ◌^◌}
use native.Mathlib.Omega.{arith}
use lib.Dec.{eqb}
use lib.ListN.{length, get_or, take}
use lib.Seq.{take-suc, take_all, length-take-le}
use Rattle.area.specs.Part.{part}
use Rattle.area.proofs.Parts.{part_length, part_at}
use Rattle.model.specs.Lists.{filter, below}
use Rattle.model.specs.Limits.{max_places, max_arcs, max_goals}
use Rattle.model.specs.Items.{estimate_kind, wait_kind, Charge, flat, measured, Lane, PlaceValue, charge_bytes}
use Rattle.model.specs.Stated.{Stated, stated_in, lookup, default, wait_at}
use Rattle.model.specs.Jobs.{put_default, put_some_default, put_lane}
use Rattle.model.proofs.Lists.{filter-append}
use Rattle.map.specs.declared.Job.{Job}
use Rattle.map.specs.Jobs.{States}
use Rattle.layout.specs.Regions.{waits_at, ends_at, estimates_at, goals_at, arcs_at}
use Rattle.load.specs.Load.{Fit}
use Rattle.sort.proofs.SortLaws.{sort_member, sort_length}
use Rattle.map_writer.specs.Order.{no_later}
use Rattle.map_writer.specs.Canonical.{by_place, others_by_place, own_estimates, some_default, canonical, put_stated, write}
use Rattle.lane_rows.specs.Keys.{lane_in, keys_between}
use Rattle.map_records.specs.Puts.{put_lanes, put_value, put_unless, put_by_place, put_job_of, map_text}
use Rattle.map_writer.specs.Steps.{InOrder}
use Rattle.map_writer.proofs.KeyLaws.{keys_back}
use Rattle.map_writer.proofs.AtMostOne.{unless_few, unless_put}
use Rattle.map_writer.proofs.PlaceValues.{is_other, by_place_few}
use Rattle.map_writer.proofs.WrittenRecords.{tables_few}
use Rattle.map_writer.proofs.Shorter.{lane_bytes, stated_bytes, written-length}

-- ---- Numbers by place

flat_map-append : {A : Type 0} (f : A → List ℕ) (xs ys : List A) → flat_map f (xs ++ ys) ≡ flat_map f xs ++ flat_map f ys
unfolding flat_map
flat_map-append f [] ys = refl
flat_map-append f (x ∷ xs) ys = ap (λ (zs : List ℕ). f x ++ zs) (flat_map-append f xs ys) ∙ sym (append_assoc (f x) (flat_map f xs) (flat_map f ys))

module _ (kind d : ℕ) where
  -- one word more
  words_more : (v : ℕ) (ws : List ℕ) (x : ℕ) → put_by_place kind d v (ws ++ (x ∷ [])) ≡ put_by_place kind d v ws ++ put_unless kind d (v + length ws) x
  unfolding put_by_place
  words_more v [] x = let z : v + 0 ≡ v = omega arith in rw z (append-nil (put_unless kind d v x))
  words_more v (w ∷ ws) x =
      let next : v + 1 + length ws ≡ v + suc (length ws) = omega arith in
      ap (λ (zs : List ℕ). put_unless kind d v w ++ zs) (words_more (v + 1) ws x ∙ rw next)
      ∙ sym (append_assoc (put_unless kind d v w) (put_by_place kind d (v + 1) ws) (put_unless kind d (v + suc (length ws)) x))

  -- the record of a number
  abbrev put_one : PlaceValue → List ℕ
  put_one x = put_value kind x.place x.value

  one_put : (x : PlaceValue) → flat_map put_one (filter (is_other d) (x ∷ [])) ≡ put_unless kind d x.place x.value
  unfolding filter flat_map put_unless
  one_put x = go (eqb x.value d)
    where
      go : (t : Bool) → flat_map put_one (cond (not t) (x ∷ []) []) ≡ cond t [] (put_one x)
      go true = refl
      go false = append-nil (put_one x)

  -- the numbers of the first k places are those of the first k words
  module _ (xs : List PlaceValue) (ws : List ℕ) (say : (v : ℕ) → v < length ws → get_or ws v 0 ≡ lookup d xs v) where
    first_words : (k : ℕ) → k ≤ length ws → put_by_place kind d 0 (take k ws) ≡ flat_map put_one (others_by_place d k xs)
    unfolding below put_by_place filter flat_map by_place others_by_place
    first_words zero l = refl
    first_words (suc k) l =
        let earlier = first_words k (omega arith) in
        let x = lookup d xs k in
        let taken : take (suc k) ws ≡ take k ws ++ (x ∷ []) = take-suc ws k 0 (omega arith) ∙ rw (say k (omega arith)) in
        let size : 0 + length (take k ws) ≡ k = omega (arith, length-take-le k ws (omega arith)) in
        let last : List PlaceValue = record { place = k; value = x } ∷ [] in
        let places : others_by_place d (suc k) xs ≡ others_by_place d k xs ++ filter (is_other d) last =
        ap (filter (is_other d)) (map-append _ (below k) (k ∷ [])) ∙ filter-append (is_other d) (by_place d k xs) last in
        ap (put_by_place kind d 0) taken
        ∙ words_more 0 (take k ws) x
        ∙ ap₂ {C = List ℕ} ◌++◌ earlier (ap (λ (v : ℕ). put_unless kind d v x) size ∙ sym (one_put (record { place = k; value = x })))
        ∙ sym (ap (flat_map put_one) places ∙ flat_map-append put_one (others_by_place d k xs) (filter (is_other d) last))

-- ---- All of it

module _ (input : List ℕ) (j : Job) (w₀ w : List ℕ) (states : States input j) (few : j.site.places ≤ max_places)
    (fits : (l : Lane) → Memᴰ l (stated_in input).lanes → Fit j.site.places (stated_in input).factors l)
    (room : arcs_at j.site.places + 2 * j.site.arcs ≤ length w) (order : InOrder input j.site w₀ w) where
  abbrev n : ℕ
  n = j.site.places

  abbrev m : ℕ
  m = j.site.arcs

  abbrev s : Stated
  s = stated_in input

  lanes_text : put_lanes (part (arcs_at n) (arcs_at n + 2 * m) w) ≡ flat_map put_lane (canonical s).lanes
  unfolding put_lanes keys_between canonical
  lanes_text =
      let z : arcs_at n + 2 * 0 ≡ arcs_at n = omega arith in
      let keys = rw z at order.keys in
      let fit : (l : Lane) → Memᴰ l (canonical s).lanes → Fit n s.factors l
      = λ l i. fits l ((sort_member (no_later s.factors) s.lanes l).0 i) in
      ap (λ (ks : List ℕ). flat_map put_lane (map lane_in ks)) keys ∙ ap (flat_map put_lane) (keys_back n s.factors (canonical s).lanes few fit)

  -- words from a on that hold a number for each place
  words_text : (kind d a e : ℕ) (xs : List PlaceValue) → e ≡ a + n → e ≤ length w → ((v : ℕ) → v < n → get_or w (a + v) 0 ≡ lookup d xs v)
      → put_by_place kind d 0 (part a e w) ≡ flat_map (put_one kind d) (others_by_place d s.size.places xs)
  words_text kind d a e xs end within hold =
      let ws = part a e w in
      let size : length ws ≡ n = part_length a e w within ∙ omega arith in
      let say : (v : ℕ) → v < length ws → get_or ws v 0 ≡ lookup d xs v = λ v l. part_at a e w v (omega arith) ∙ hold v (omega arith) in
      ap (put_by_place kind d 0) (sym (take_all (length ws) ws (omega arith)))
      ∙ first_words kind d xs ws say (length ws) (omega arith)
      ∙ ap (λ (k : ℕ). flat_map (put_one kind d) (others_by_place d k xs)) (size ∙ states.places)

  pub text_written : map_text input j w ≡ write s
  unfolding map_text put_value put_job_of put_some_default write put_stated some_default canonical wait_at
  text_written =
      let own = own_estimates s in
      let estimates = words_text estimate_kind (default s) (estimates_at n) (goals_at n) own (omega arith) (omega arith) order.estimates in
      let waits = words_text wait_kind 0 (waits_at n) (ends_at n) s.waits (omega arith) (omega arith) order.waits in
      let defaults = unless_put (default s) put_default (eqb (default s) 0) in
      rw (
        states.default,
        lanes_text,
        estimates,
        waits,
        states.factors.are,
        defaults,
        states.goals,
        states.start,
        states.allowance,
        states.places,
        states.arcs,
      )

-- ---- Its length is a number of 32 bits

lane_bytes_below : (ls : List Lane) → lane_bytes ls ≤ 12 * length ls
unfolding lane_bytes charge_bytes
lane_bytes_below [] = omega arith
lane_bytes_below (l ∷ ls) = go l.charge (lane_bytes_below ls)
  where
    go : (c : Charge) → lane_bytes ls ≤ 12 * length ls → 4 + charge_bytes c + lane_bytes ls ≤ 12 * suc (length ls)
    go (flat cost) rest = omega arith
    go (measured length class) rest = omega arith

pub text_short : (s : Stated) → s.size.places ≤ max_places → length s.lanes ≤ max_arcs → length s.job.goals ≤ max_goals
    → length s.factors ≡ 8 → length (write s) < 2 ^ 32
unfolding stated_bytes canonical some_default
text_short s few few_lanes few_goals eight =
    let n = s.size.places in
    let lanes = lane_bytes_below (canonical s).lanes in
    let sorted = sort_length (no_later s.factors) s.lanes in
    let tables = tables_few s.factors in
    let defaults = unless_few (default s) (eqb (default s) 0) in
    omega (arith, written-length s eight, lanes, sorted, by_place_few (default s) n (own_estimates s), by_place_few 0 n s.waits)
