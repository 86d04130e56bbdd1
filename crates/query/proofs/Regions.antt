-- The regions of labels and depths, of the open list and of the listed places: what a store, and the open list that has come back, do to them and to
-- the map. Assumes nothing.
use mathlib.Core.Path.{◌≡◌, sym, ◌∙◌}
use mathlib.Core.List.{List}
use Prim.Native.Nat.{ℕ, ◌+◌, ◌-◌, ◌<◌}
use native.Mathlib.Omega.{arith}
use native.Mathlib.Nat.{sub-zero}
use lib.ListN.{length, drop, length-set}
use lib.Seq.{take-set-le, drop-set-add}
use borrow.Rule.Slice.PartMut.{put_mid}
use Rattle.area.specs.Part.{part}
use Rattle.area.proofs.Parts.{same_before, same_after, less_after, part_back, part_back_low, drop_back, back_length}
use Rattle.open_list.specs.Entry.{no_key}
use Rattle.open_list.specs.Keys.{words_for, CanLower, CanClose, Put, Cleared, Used, empty_hand}
use Rattle.layout.specs.Regions.{depths_at, open_at, parents_at, ends_at, label_word, depth_word, with_label, with_depth, with_parent}
use Rattle.layout.specs.Labels.{Kept, NoLabels, listed_at}
use Rattle.layout.proofs.Labels.{kept_on, with_label_rest, with_label_same, with_label_other, with_parent_kept, with_parent_same, with_parent_other}
use Rattle.layout.proofs.Labels.{with_depth_rest, with_depth_labels, with_depth_same, with_depth_other}
use Rattle.query.specs.Open.{open_words, keys}
use Rattle.query.specs.Query.{Preparable, Prepared}
use Rattle.query.specs.State.{HasRegions, Clears, Blank, Arrives, Arrived, Settles, Settled}

-- words that are the same from the parents on hold the same list and the same map
pub listed_same : (n : ℕ) (w₀ w : List ℕ) → drop (parents_at n) w ≡ drop (parents_at n) w₀ → (i : ℕ) → listed_at n w i ≡ listed_at n w₀ i
unfolding listed_at
listed_same n w₀ w same i = same_after (parents_at n) w₀ w (parents_at n + i) same (omega arith)

pub map_same : (n : ℕ) (w₀ w : List ℕ) → drop (parents_at n) w ≡ drop (parents_at n) w₀ → drop (ends_at n) w ≡ drop (ends_at n) w₀
map_same n w₀ w same = less_after (ends_at n) (parents_at n) w₀ w (omega arith) same

-- so the map is as before once the area is cleared and a place is arrived at
pub begun-map : {n v d k hand₀ hand : ℕ} {w₀ w₁ w : List ℕ} → Blank n w₀ w₁ → Arrived n v d k hand₀ w₁ hand w
    → drop (ends_at n) w ≡ drop (ends_at n) w₀
begun-map {n = n} {w₀ = w₀} {w = w} b a = map_same n w₀ w (a.same_rest ∙ b.same_rest)

-- words that are the same after the labels and depths hold the same open list
pub open_same : (n : ℕ) (w₀ w : List ℕ) → drop (open_at n) w ≡ drop (open_at n) w₀ → open_words n w ≡ open_words n w₀
unfolding open_words
open_same n w₀ w same = rw same

-- The open list is lent, from a to e.
module _ (n a e : ℕ) (p : a ≡ open_at n) (q : e ≡ parents_at n) where
  pub open_part : (w : List ℕ) → part a e w ≡ open_words n w
  unfolding open_words part
  open_part w = let size : parents_at n - open_at n ≡ words_for n = omega arith in rw (p, q, size)

  -- what the words are when it has come back as ys
  record Back (w ys w' : List ℕ) : Type 0 where
    kept : Kept n w w'
    same_rest : drop (parents_at n) w' ≡ drop (parents_at n) w
    label : (v : ℕ) → v < n → label_word w' v ≡ label_word w v
    depth : (v : ℕ) → v < n → depth_word n w' v ≡ depth_word n w v
    list : open_words n w' ≡ ys

  back : (w ys : List ℕ) → HasRegions n w → length ys ≡ length (part a e w) → Back w ys (put_mid a (e - a) w ys)
  unfolding part
  back w ys r l =
      let w' = put_mid a (e - a) w ys in
      let rest = drop_back a e w ys (parents_at n) (omega arith) (omega (arith, r.room)) l (omega arith) in
      let front = simp sub-zero at (part_back_low a e w ys 0 (open_at n) (omega arith) (omega (arith, r.room)) (omega arith) (omega arith)) in
      record {
        kept = record { same_length = back_length a e w ys l; same_front = front; same_map = map_same n w w' rest };
        same_rest = rest;
        label = λ v h. same_before (open_at n) w w' v front (omega arith);
        depth = λ v h. same_before (open_at n) w w' (depths_at n + v) front (omega arith);
        list = sym (open_part w') ∙ part_back a e w ys (omega arith) (omega (arith, r.room)) l;
      }

  -- cleared, before the queries
  pub prepared : (w ys : List ℕ) → Preparable n w → length ys ≡ length (part a e w) → Cleared n ys → Prepared n w (put_mid a (e - a) w ys)
  prepared w ys g l z =
      let b = back w ys (record { few = g.few; room = g.words }) l in
      record { same_map = b.kept.same_map; ready = record { hand = empty_hand; list = rw b.list z.list } }

  -- cleared, once the labels are
  module _ (w₀ w : List ℕ) (g : Clears n w₀) (none : NoLabels n w₀ w) (len : length w ≡ length w₀) where
    pub still_used : Used n (part a e w)
    still_used = rw (open_part w, open_same n w₀ w (less_after (open_at n) (depths_at n) w₀ w (omega arith) none.same_rest)) g.ready

    pub blank : (ys : List ℕ) → length ys ≡ length (part a e w) → Cleared n ys → Blank n w₀ (put_mid a (e - a) w ys)
    blank ys l z =
        let b = back w ys (record { few = g.regions.few; room = omega (arith, g.regions.room) }) l in
        record {
          same_length = b.kept.same_length ∙ len;
          same_rest = b.same_rest ∙ less_after (parents_at n) (depths_at n) w₀ w (omega arith) none.same_rest;
          unlabelled = λ v h. b.label v h ∙ none.none v h;
          none_open = rw b.list z;
        }

  -- lowered at v, whose label and depth are stored
  module _ (hand v d k : ℕ) (w : List ℕ) (g : Arrives n hand v d w) where
    abbrev labelled : List ℕ
    labelled = with_label w v d

    abbrev stored : List ℕ
    stored = with_depth n labelled v k

    place : v < n
    place = g.lowers.place_in

    same_list : drop (open_at n) stored ≡ drop (open_at n) w
    same_list =
        with_depth_rest n labelled v k place
        ∙ less_after (open_at n) (depths_at n) w labelled (omega arith) (with_label_rest n w v d place)

    stored_list : part a e stored ≡ open_words n w
    stored_list = open_part stored ∙ open_same n w stored same_list

    stored_label : (u : ℕ) → u < n → label_word stored u ≡ label_word labelled u
    stored_label u h = same_before n labelled stored u (with_depth_labels n labelled v k) h

    labelled_depth : (u : ℕ) → depth_word n labelled u ≡ depth_word n w u
    labelled_depth u = same_after (depths_at n) w labelled (depths_at n + u) (with_label_rest n w v d place) (omega arith)

    pub arrive_lowers : CanLower n hand v d (part a e stored)
    arrive_lowers = rw stored_list g.lowers

    pub arrived : (r : ℕ) (ys : List ℕ) → length ys ≡ length (part a e stored) → Put n v d hand (part a e stored) r ys
        → Arrived n v d k hand w r (put_mid a (e - a) stored ys)
    unfolding keys
    arrived r ys l put =
        let room = g.regions.room in
        let size : length stored ≡ length w = length-set labelled (depths_at n + v) k ∙ length-set w v d in
        let b = back stored ys (record { few = g.regions.few; room = omega arith }) l in
        record {
          same_length = b.kept.same_length ∙ size;
          same_rest = b.same_rest ∙ less_after (parents_at n) (open_at n) w stored (omega arith) same_list;
          list = rw b.list put.list;
          label = b.label v place ∙ stored_label v place ∙ with_label_same n w v d (omega (arith, place));
          other_labels = λ u h q. b.label u h ∙ stored_label u h ∙ with_label_other n w v d u q;
          depth = b.depth v place ∙ with_depth_same n labelled v k (omega (arith, place, length-set w v d));
          other_depths = λ u h q. b.depth u h ∙ with_depth_other n labelled v k u q ∙ labelled_depth u;
          keys_set = rw (b.list, ← stored_list) put.keys_set;
        }

  -- closed at v, which is listed as number `count`
  module _ (hand count v : ℕ) (w : List ℕ) (g : Settles n hand count v w) where
    abbrev listing : List ℕ
    listing = with_parent n w count v

    listing_list : part a e listing ≡ open_words n w
    unfolding open_words
    listing_list =
        let after : parents_at n + count ≡ open_at n + (words_for n + count) = omega arith in
        let same = take-set-le (words_for n) (drop (open_at n) w) (words_for n + count) v (omega arith) in
        open_part listing ∙ rw (after, drop-set-add, same)

    pub settle_closes : CanClose n hand v (part a e listing)
    settle_closes = rw listing_list (record { list = g.coherent.list; place_in = g.place })

    pub settled : (r : ℕ) (ys : List ℕ) → length ys ≡ length (part a e listing) → Put n v no_key hand (part a e listing) r ys
        → Settled n count v hand w r (put_mid a (e - a) listing ys)
    unfolding keys listed_at
    settled r ys l put =
        let kept = with_parent_kept n w count v g.more in
        let regions = g.coherent.regions in
        let b = back listing ys (record { few = regions.few; room = omega (arith, regions.room, kept.same_length) }) l in
        let w' = put_mid a (e - a) listing ys in
        let listed = listed_same n listing w' b.same_rest in
        record {
          kept = kept_on n w listing w' kept b.kept;
          list = rw b.list put.list;
          keys_set = rw (b.list, ← listing_list) put.keys_set;
          listed = listed count ∙ with_parent_same n w count v (omega (arith, g.more, regions.room));
          listed_before = λ i h. listed i ∙ with_parent_other n w count v i (λ z. omega arith);
        }
