-- Records put into the output area one after another: what is left to be put, in a loop over the words and in a whole map. Assumes nothing.
use mathlib.Core.Path.{◌≡◌, refl, ap, ◌∙◌}
use mathlib.Core.Logic.{◌≢◌}
use mathlib.Core.List.{List, [], ◌∷◌, ◌++◌, flat_map, append_assoc}
use Prim.Native.Nat.{ℕ, zero, suc, ◌+◌, ◌*◌, ◌/◌, ◌≤◌, ◌<◌}
use native.Mathlib.Numerals.{add-one}
use native.Mathlib.Omega.{arith}
use lib.ListN.{length, get_or, drop, length-append, length-drop, drop_of_length-le}
use lib.Seq.{length-sets, drop-cons, get_or-take, get_or-drop}
use Rattle.std.specs.Simd.{first_chunks}
use borrow.Author.Tests.{eq-eqb, ne_eqb}
use Rattle.area.specs.Part.{part}
use Rattle.area.proofs.Parts.{part_length}
use Rattle.model.specs.Bytes.{put16, put16s}
use Rattle.model.specs.Framing.{put_record}
use Rattle.model.specs.Limits.{max_places}
use Rattle.model.specs.Items.{head_kind, estimate_kind, wait_kind}
use Rattle.model.specs.Jobs.{put_head, put_table, put_some_default, put_lane}
use Rattle.map.specs.declared.Job.{Job}
use Rattle.map.specs.Items.{table_at}
use Rattle.layout.specs.Regions.{waits_at, ends_at, estimates_at, goals_at, arcs_at}
use Rattle.sort.specs.Keys.{keys_of, key_from}
use Rattle.lane_rows.specs.Keys.{lane_in}
use Rattle.map_records.specs.Puts.{Put, Fits, put_lanes, put_value, put_unless, put_by_place, put_job_of, map_text, Puttable}
use Rattle.map_records.proofs.PutRecords.{put_none, put_then}

-- Of all that is to be put, `rest` is left: once it is put where the others end, all is put.
pub record Putting (all rest : List ℕ) (start : ℕ) (old mid : List ℕ) (at : ℕ) : Type 0 where
  pub size : length mid ≡ length old
  pub room : Fits rest at mid
  pub whole : {out : List ℕ} {r : ℕ} → Put rest at mid out r → Put all start old out r

-- what is left begins with `a`, and the rest follows
pub record Begins (left a rest : List ℕ) : Type 0 where
  pub split : left ≡ a ++ rest

module _ {all : List ℕ} {start : ℕ} {old : List ℕ} where
  pub all_left : Fits all start old → Putting all all start old old start
  all_left fits = record { size = refl; room = fits; whole = λ p. p }

  module _ {a rest left mid : List ℕ} {at : ℕ} (first : Begins left a rest) (p : Putting all left start old mid at) where
    pub next_fits : Fits a at mid
    next_fits = omega (arith, p.room, ap length first.split, length-append a rest)

    pub next_put : {out : List ℕ} {r : ℕ} → Put a at mid out r → Putting all rest start old out r
    next_put {out} {r} q =
        let same : length out ≡ length mid = ap length q.bytes ∙ length-sets mid at a in
        record {
          size = same ∙ p.size;
          room = omega (arith, p.room, q.end, ap length first.split, length-append a rest);
          whole = λ s. p.whole (rw first.split (put_then q s));
        }

  -- nothing stands before what is left
  pub same_put : {rest left mid : List ℕ} {at : ℕ} → left ≡ rest → Putting all left start old mid at → Putting all rest start old mid at
  same_put same p = rw (← same) p

  pub none_left : {left mid : List ℕ} {at : ℕ} → left ≡ [] → Putting all left start old mid at → Put all start old mid at
  none_left {left} {mid} {at} none p = p.whole (rw none (put_none at mid))

-- ---- Loops

-- a record begins with its length and its kind
pub record_first : (kind : ℕ) (body : List ℕ) {bytes : ℕ} → bytes ≡ length body → Begins (put_record kind body) (put16 bytes ++ put16 kind) body
unfolding put_record
record_first kind body is = record { split = rw is (simp append_assoc) }

-- fields from number k on
module _ (fields : List ℕ) (k : ℕ) where
  pub fields_from : k < length fields → Begins (put16s (drop k fields)) (put16 (get_or fields k 0)) (put16s (drop (k + 1) fields))
  unfolding put16s
  fields_from h = record { split = rw (drop-cons fields k 0 h, add-one k) }

  pub fields_done : length fields ≤ k → put16s (drop k fields) ≡ []
  unfolding put16s
  fields_done h = rw (drop_of_length-le fields h)

-- the lanes of words from number k on
pub lanes_from_lem : (words : List ℕ) (k : ℕ) → 2 * k + 1 < length words
    → Begins (put_lanes (drop (2 * k) words)) (put_lane (lane_in (key_from (get_or words (2 * k) 0) (get_or words (2 * k + 1) 0))))
    (put_lanes (drop (2 * (k + 1)) words))
unfolding put_lanes keys_of flat_map
lanes_from_lem words k h =
    let high = drop-cons words (2 * k) 0 (omega arith) in
    let low = drop-cons words (suc (2 * k)) 0 (omega arith) in
    let next : 2 * (k + 1) ≡ suc (suc (2 * k)) = omega arith in
    record { split = rw (high, low, next, add-one (2 * k)) }

-- number i of pair number k of the words
pair_at : (words : List ℕ) (n k i : ℕ) → k < n → i < 2 → get_or (get_or (first_chunks 2 n words) k []) i 0 ≡ get_or words (2 * k + i) 0
pair_at words zero k i h l = absurd (omega arith)
pair_at words (suc n) zero i h l = let z : 2 * 0 + i ≡ i = omega arith in rw z (get_or-take 2 words i 0 l)
pair_at words (suc n) (suc k) i h l =
    let next : 2 * suc k + i ≡ 2 + (2 * k + i) = omega arith in
    rw next (pair_at (drop 2 words) n k i (omega arith) l ∙ get_or-drop 2 words (2 * k + i) 0)

pub pairs_from : (words : List ℕ) (k : ℕ) {pairs : List (List ℕ)} → pairs ≡ first_chunks 2 (length words / 2) words → k < length words / 2
    → let pair = get_or pairs k [] in
    Begins (put_lanes (drop (2 * k) words)) (put_lane (lane_in (key_from (get_or pair 0 0) (get_or pair 1 0)))) (put_lanes (drop (2 * (k + 1)) words))
pairs_from words k is h =
    let high = pair_at words (length words / 2) k 0 h (omega arith) in
    let low = pair_at words (length words / 2) k 1 h (omega arith) in
    let first : 2 * k + 0 ≡ 2 * k = omega arith in
    rw (is, high, low, first) (lanes_from_lem words k (omega arith))

no_lanes : (words : List ℕ) → length words ≤ 1 → put_lanes words ≡ []
unfolding put_lanes keys_of flat_map
no_lanes [] h = refl
no_lanes (x ∷ []) h = refl
no_lanes (x ∷ y ∷ words) h = absurd (omega arith)

pub lanes_done : (words : List ℕ) (k : ℕ) → length words ≤ 2 * k + 1 → put_lanes (drop (2 * k) words) ≡ []
lanes_done words k h = no_lanes (drop (2 * k) words) (omega (arith, length-drop (2 * k) words))

-- the numbers of places from v on, but those that are d
module _ (kind d : ℕ) (words : List ℕ) (v : ℕ) where
  abbrev pub from_here : List ℕ
  from_here = put_by_place kind d v (drop v words)

  abbrev pub from_next : List ℕ
  from_next = put_by_place kind d (v + 1) (drop (v + 1) words)

  pub by_place_from : v < length words → from_here ≡ put_unless kind d v (get_or words v 0) ++ from_next
  unfolding put_by_place
  by_place_from h = rw (drop-cons words v 0 h, add-one v)

  pub by_place_same : v < length words → (get_or words v 0 ≡ d) → from_here ≡ from_next
  unfolding put_unless
  by_place_same h same = by_place_from h ∙ rw (eq-eqb (get_or words v 0) d same)

  pub by_place_other : v < length words → (get_or words v 0 ≢ d) → Begins from_here (put_value kind v (get_or words v 0)) from_next
  unfolding put_unless
  by_place_other h differs = record { split = by_place_from h ∙ rw (ne_eqb (get_or words v 0) d differs) }

  pub by_place_done : length words ≤ v → from_here ≡ []
  unfolding put_by_place
  by_place_done h = rw (drop_of_length-le words h)

-- ---- A map

-- what is left after the table, after the waits, after the estimates, after the lanes, and after the head
unfoldable pub after_table : List ℕ → Job → List ℕ → List ℕ
after_table input j w = put_some_default j.default ++ put_job_of input j

unfoldable pub after_waits : List ℕ → Job → List ℕ → List ℕ
after_waits input j w = put_table (table_at input j.factors_at) ++ after_table input j w

unfoldable pub after_estimates : List ℕ → Job → List ℕ → List ℕ
after_estimates input j w = put_by_place wait_kind 0 0 (part (waits_at j.site.places) (ends_at j.site.places) w) ++ after_waits input j w

unfoldable pub after_lanes : List ℕ → Job → List ℕ → List ℕ
after_lanes input j w =
    put_by_place estimate_kind j.default 0 (part (estimates_at j.site.places) (goals_at j.site.places) w) ++ after_estimates input j w

unfoldable pub after_head : List ℕ → Job → List ℕ → List ℕ
after_head input j w =
    let start = arcs_at j.site.places in
    put_lanes (part start (start + 2 * j.site.arcs) w) ++ after_lanes input j w

pub head_first : (input : List ℕ) (j : Job) (w : List ℕ)
    → Begins (map_text input j w) (put_record head_kind (put16s (j.site.places ∷ j.site.arcs ∷ []))) (after_head input j w)
unfolding map_text after_head after_lanes after_estimates after_waits after_table put_head put16s put16
head_first input j w = record { split = simp append_assoc }

-- what stands first comes next
pub first_next : (a rest : List ℕ) → Begins (a ++ rest) a rest
first_next a rest = record { split = refl }

-- what is put of a part of the words comes next
pub part_next : (put : List ℕ → List ℕ) (w rest : List ℕ) {first last a e : ℕ} → first ≡ a → last ≡ e
    → Begins (put (part a e w) ++ rest) (put (part first last w)) rest
part_next put w rest is is' = record { split = rw (is, is') }

module _ {input : List ℕ} {j : Job} {w out : List ℕ} (can : Puttable input j w out) where
  -- a region with a word for each place
  pub few_words : {first last a e : ℕ} → first ≡ a → last ≡ e → e ≡ a + j.site.places → e ≤ arcs_at j.site.places
      → length (part first last w) ≤ max_places
  few_words {first} {last} is is' each inside =
      rw (part_length first last w (omega (arith, can.words))) (omega (arith, can.few))
