-- What stands in an input: the map, and behind it one entry for each whole record and one for a broken tail. Assumes nothing.
use mathlib.Core.Path.{◌≡◌, refl, sym, ap, ◌∙◌}
use mathlib.Core.Bool.{Bool, true, false, cond}
use mathlib.Core.Logic.{◌⊎◌, ⊎_elim, ⊎_map}
use mathlib.Core.List.Memᴰ
use mathlib.Core.List.{List, [], ◌∷◌, ◌++◌, cons-ne-nil, Memᴰ}
use Prim.Native.Nat.{ℕ, suc, ◌+◌, ◌*◌, ◌-◌, ◌≤◌, ◌<◌}
use native.Mathlib.Omega.{arith}
use native.Mathlib.Nat.{le_refl}
use lib.Dec.{leb, eqb}
use lib.ListN.{length, take, drop, length-append, length-drop, drop_of_length-le}
use lib.Seq.{length-take-le, take-take, take-add, drop-drop}
use borrow.Author.Tests.{leb-true, eq-eqb, ne_eqb}
use Rattle.model.specs.Bytes.{Bytes}
use Rattle.model.specs.Framing.{Record, Framed, stop, push, frame}
use Rattle.model.specs.Items.{job_kind, Item, item_of, job_in}
use Rattle.model.specs.Lists.{is_given}
use Rattle.model.specs.Sums.{sum_over}
use Rattle.model.proofs.Bytes.{take_bytes, drop_bytes, append_bytes}
use Rattle.model.proofs.Framing.{frame-none, frame_short, frame_cons, frame_more, frame_whole}
use Rattle.model.proofs.Items.{KindOf, is-head, is_lane, is_estimate, is_job_lem, is_measured, is_wait, is_factors, is_default, is_other_lem, kind_of}
use Rattle.area.specs.Part.{part}
use Rattle.map.specs.declared.record as declared
use Rattle.std.specs.Prelude.{Result, Some, None, Ok, Err}
use Rattle.map.specs.declared.refusal.Refusal.{Refusal}
use Rattle.map.specs.Walks.{Position, NextReads}
use Rattle.map.specs.Records.{Read, read_at, record_in}
use Rattle.map.proofs.Records as reading
use Rattle.jobs.specs.Entries.{Entry, alone, refused, is_job, before_job, from_job, bytes_of, map_in, entry_of, entries_of, tail_of, entries}
use Rattle.jobs.specs.Steps.{bytes_in, left_at}
use Rattle.jobs.proofs.Bounded.{Sound}

-- ---- Records and their bytes

-- whole records and nothing more
abbrev whole : List Record → Framed
whole rs = record { records = rs; broken = false }

-- the first n bytes are the records xs, and the bytes behind them are the records ys and the tail
record Splits (bs : List ℕ) (n : ℕ) (xs ys : List Record) : Type 0 where
  inside : n ≤ length bs
  front : frame (take n bs) ≡ whole xs
  behind : frame (drop n bs) ≡ record { records = ys; broken = (frame bs).broken }

-- where a first record fits, its bytes are framed as that record alone
begins : (a b c d : ℕ) (rest : List ℕ) (r : Record) → a + 256 * b ≤ length rest
    → r ≡ record { kind = c + 256 * d; body = take (a + 256 * b) rest }
    → Splits (a ∷ b ∷ c ∷ d ∷ rest) (bytes_of r) (r ∷ []) (frame (drop (a + 256 * b) rest)).records
unfolding bytes_of stop push
begins a b c d rest r h is =
    let n = a + 256 * b in
    let own : length (take n rest) ≡ n = length-take-le n rest h in
    let size : bytes_of r ≡ suc (suc (suc (suc n))) = rw is (omega arith) in
    let nothing : drop n (take n rest) ≡ [] = drop_of_length-le (take n rest) {i = n} (omega arith) in
    rw (size, is) (record {
      inside = omega arith;
      front = frame_more a b c d (take n rest) (omega arith) ∙ rw (take-take n n rest (le_refl n), nothing, frame-none [] refl);
      behind = rw (frame_more a b c d rest h);
    })

-- fewer than four bytes hold no record
no_record : (bs : List ℕ) → length bs < 4 → (frame bs).records ≡ []
unfolding stop
no_record [] h = rw (frame-none [] refl)
no_record (x ∷ bs) h = rw (frame_short (x ∷ bs) (omega arith) h)

-- bytes whose first record is r begin with the bytes of r
first_splits : (bs : List ℕ) (r : Record) (rs : List Record) → (frame bs).records ≡ r ∷ rs → Splits bs (bytes_of r) (r ∷ []) rs
unfolding stop push
first_splits [] r rs e = absurd (cons-ne-nil r rs (sym e ∙ no_record [] (omega arith)))
first_splits (a ∷ []) r rs e = absurd (cons-ne-nil r rs (sym e ∙ no_record (a ∷ []) (omega arith)))
first_splits (a ∷ b ∷ []) r rs e = absurd (cons-ne-nil r rs (sym e ∙ no_record (a ∷ b ∷ []) (omega arith)))
first_splits (a ∷ b ∷ c ∷ []) r rs e = absurd (cons-ne-nil r rs (sym e ∙ no_record (a ∷ b ∷ c ∷ []) (omega arith)))
first_splits (a ∷ b ∷ c ∷ d ∷ rest) r rs e = go (leb n (length rest)) refl (rw frame_cons at e)
  where
    n : ℕ
    n = a + 256 * b

    first : Record
    first = record { kind = c + 256 * d; body = take n rest }

    go : (t : Bool) → leb n (length rest) ≡ t → (cond t (push first (frame (drop n rest))) (stop true)).records ≡ r ∷ rs
        → Splits (a ∷ b ∷ c ∷ d ∷ rest) (bytes_of r) (r ∷ []) rs
    go true fits e =
        let r-is : r ≡ first = cc in
        let rs-are : (frame (drop n rest)).records ≡ rs = cc in
        rw rs-are at (begins a b c d rest r (leb-true n (length rest) fits) r-is)
    go false fits e = absurd (cons-ne-nil r rs (sym e))

-- Bytes whose first records are xs begin with the bytes of these, and the bytes behind them are framed by themselves.
splits : (bs : List ℕ) (xs ys : List Record) → (frame bs).records ≡ xs ++ ys → Splits bs (sum_over bytes_of xs) xs ys
unfolding sum_over stop
splits bs [] ys e = record { inside = omega arith; front = frame-none [] refl; behind = rw (← e) }
splits bs (x ∷ xs) ys e =
    let one = first_splits bs x (xs ++ ys) e in
    let m = bytes_of x in
    let n = sum_over bytes_of xs in
    let more = splits (drop m bs) xs ys (rw one.behind) in
    let broken : (frame (drop m bs)).broken ≡ (frame bs).broken = rw one.behind in
    let own : (frame (take m bs)).broken ≡ false = rw one.front in
    record {
      inside = omega (arith, one.inside, simp length-drop at more.inside);
      front = rw (take-add m n bs, frame_whole (take m bs) (take n (drop m bs)) own, one.front, more.front);
      behind = rw (← drop-drop n m bs, more.behind, broken);
    }

-- ---- The map

-- the records before the first job and those from it on are all of them
before_from : (rs : List Record) → before_job rs ++ from_job rs ≡ rs
unfolding before_job from_job
before_from [] = refl
before_from (r ∷ rs) = go (is_job r) (before_from rs)
  where
    go : (t : Bool) → before_job rs ++ from_job rs ≡ rs → cond t [] (r ∷ before_job rs) ++ cond t (r ∷ rs) (from_job rs) ≡ r ∷ rs
    go true e = refl
    go false e = ap (λ (l : List Record). r ∷ l) e

module _ (input : List ℕ) where
  map_splits : let rs = (frame input).records in Splits input (sum_over bytes_of (before_job rs)) (before_job rs) (from_job rs)
  map_splits = splits input _ _ (sym (before_from _))

  -- the map has the bytes of its records
  pub map_length : length (map_in input) ≡ sum_over bytes_of (before_job (frame input).records)
  unfolding map_in
  map_length = length-take-le _ input map_splits.inside

  pub map_inside : length (map_in input) ≤ length input
  map_inside = rw map_length map_splits.inside

  -- the map stands at the front of the input
  pub map-front : map_in input ≡ take (length (map_in input)) input
  unfolding map_in
  map-front = ap (λ (n : ℕ). take n input) (sym map_length)

  pub map_is_bytes : Bytes input → Bytes (map_in input)
  map_is_bytes B = rw map-front (take_bytes (length (map_in input)) input B)

  -- the map's bytes are the records before the first job
  pub map_whole : frame (map_in input) ≡ record { records = before_job (frame input).records; broken = false }
  unfolding map_in
  map_whole = map_splits.front

  -- the bytes behind the map are the other records and the tail
  pub behind_map : frame (drop (length (map_in input)) input) ≡ record { records = from_job (frame input).records; broken = (frame input).broken }
  behind_map = rw map_length map_splits.behind

  -- the entries are those from the end of the map on
  pub start_left : entries input ≡ left_at input (length (map_in input))
  unfolding entries left_at
  start_left = rw behind_map

-- ---- What is left from a byte on

module _ (input : List ℕ) (at : ℕ) (inside : at ≤ length input) where
  -- a record that was read takes the bytes from here up to its end
  pub whole_bytes : (r : declared.Record.Record) → read_at input at ≡ Some (Ok r) → at + bytes_of (record_in input r) ≡ r.end
  unfolding bytes_of
  whole_bytes r e =
      let is = reading.frame_whole input at inside r e in
      let body : length (take (r.end - r.start) (drop r.start input)) ≡ r.end - r.start
      = length-take-le _ _ (simp length-drop (omega (arith, is.lies.ends))) in
      omega (arith, is.begins, is.lies.forward)

  -- a whole record is the first entry left, and the others begin where it ends
  pub left_whole : (r : declared.Record.Record) → read_at input at ≡ Some (Ok r)
      → left_at input at ≡ entry_of (map_in input) (record_in input r) (bytes_in input r) ∷ left_at input r.end
  unfolding left_at entries_of push part
  left_whole r e =
      let is = reading.frame_whole input at inside r e in
      let all = whole_bytes r e in
      let size : bytes_of (record_in input r) ≡ r.end - (r.start - 4) = omega (arith, is.begins) in
      let start : r.start - 4 ≡ at = omega (arith, is.begins) in
      rw (is.framed, drop-drop (bytes_of (record_in input r)) at input, all, size, start)

  -- a broken tail is the only entry left
  pub left_broken : {r : Refusal} → read_at input at ≡ Some (Err r) → left_at input at ≡ refused 1 ∷ []
  unfolding left_at entries_of tail_of stop
  left_broken {r} e = rw (reading.frame_broken input at inside r e).1

  -- at the end none is left
  pub left_end : read_at input at ≡ None → left_at input at ≡ []
  unfolding left_at entries_of tail_of stop
  left_end e = rw (reading.frame_end input at inside e).1

-- behind the last byte none is left
pub end_left : (input : List ℕ) → left_at input (length input) ≡ []
unfolding read_at
end_left input =
    let nothing : length input - length input ≡ 0 = omega arith in
    left_end input (length input) (omega arith) (rw (eq-eqb _ _ nothing))

-- ---- All of them

entries_of-length : (map : List ℕ) (rs : List Record) (bytes : List ℕ) → length (entries_of map rs bytes) ≡ length rs
unfolding entries_of
entries_of-length map [] bytes = refl
entries_of-length map (r ∷ rs) bytes = ap suc (entries_of-length map rs (drop (bytes_of r) bytes))

tail_of-length : (t : Bool) → length (tail_of t) ≡ cond t 1 0
unfolding tail_of
tail_of-length true = refl
tail_of-length false = refl

-- Each record from the first job on is one entry, and so is a broken tail.
pub entries_count : (input : List ℕ) → length (entries input) ≡ length (from_job (frame input).records) + cond (frame input).broken 1 0
unfolding entries
entries_count input = rw (length-append, entries_of-length, tail_of-length)

-- the entry of one of the records rs, whose own bytes are among these
record OfRecord (map : List ℕ) (rs : List Record) (bytes : List ℕ) (e : Entry) : Type 0 where
  r : Record
  among : Memᴰ r rs
  own : List ℕ
  own_bytes : Bytes bytes → Bytes own
  own_framed : frame own ≡ whole (r ∷ [])
  is : e ≡ entry_of map r own

of_record : (map : List ℕ) (rs : List Record) (bytes : List ℕ) (e : Entry) → (frame bytes).records ≡ rs
    → Memᴰ e (entries_of map rs bytes) → OfRecord map rs bytes e
unfolding entries_of
of_record map [] bytes e framed m = absurd (Memᴰ.not-nil m)
of_record map (r ∷ rs) bytes e framed (Memᴰ.head is) =
    let first = first_splits bytes r rs framed in
    record {
      r = r;
      among = Memᴰ.head refl;
      own = take (bytes_of r) bytes;
      own_bytes = take_bytes (bytes_of r) bytes;
      own_framed = first.front;
      is = is;
    }
of_record map (r ∷ rs) bytes e framed (Memᴰ.tail m) =
    let first = first_splits bytes r rs framed in
    let later = of_record map rs (drop (bytes_of r) bytes) e (rw first.behind) m in
    record {
      r = later.r;
      among = Memᴰ.tail later.among;
      own = later.own;
      own_bytes = λ B. later.own_bytes (drop_bytes (bytes_of r) bytes B);
      own_framed = later.own_framed;
      is = later.is;
    }

module _ (input : List ℕ) where
  -- the map with one whole record behind it
  with-map : (r : Record) (own : List ℕ) → frame own ≡ whole (r ∷ [])
      → frame (map_in input ++ own) ≡ whole (before_job (frame input).records ++ (r ∷ []))
  with-map r own e = rw (frame_whole (map_in input) own (rw (map_whole input)), map_whole input, e)

  -- an entry is that of a record behind the map, or of a broken tail
  each_entry : (e : Entry) → Memᴰ e (entries input)
      → OfRecord (map_in input) (from_job (frame input).records) (drop (length (map_in input)) input) e ⊎ (e ≡ refused 1)
  unfolding entries tail_of
  each_entry e m =
      let records = ap (λ (f : Framed). f.records) (behind_map input) in
      ⊎_map (of_record _ _ _ e records) (of_tail (frame input).broken) (Memᴰ.append_cases _ m)
    where
      of_tail : (t : Bool) → Memᴰ e (tail_of t) → e ≡ refused 1
      of_tail true m = Memᴰ.eq_of_singleton m
      of_tail false m = absurd (Memᴰ.not-nil m)

  -- What is run is bytes, and what is not is refused with 10 or with 1.
  pub all_sound : Bytes input → (e : Entry) → Memᴰ e (entries input) → Sound e
  unfolding entry_of
  all_sound B e m =
      let behind : Bytes (drop (length (map_in input)) input) = drop_bytes (length (map_in input)) input B in
      ⊎_elim (λ o. rw o.is (by_kind (is_job o.r) o.own (o.own_bytes behind))) (λ is. rw is (omega arith, omega arith)) (each_entry e m)
    where
      by_kind : (t : Bool) (own : List ℕ) → Bytes own → Sound (cond t (alone (map_in input ++ own)) (refused 10))
      by_kind true own C = append_bytes (map_in input) own (map_is_bytes input B) C
      by_kind false own C = (omega arith, omega arith)

  -- What is run is the map's records and one job behind them, whole.
  pub alone_records : (i : List ℕ) → Memᴰ (alone i) (entries input)
      → (r : Record) × Memᴰ r (from_job (frame input).records) × (is_job r ≡ true)
      × (frame i ≡ record { records = before_job (frame input).records ++ (r ∷ []); broken = false })
  unfolding entry_of
  alone_records i m =
      ⊎_elim
      (λ o. let (job, is) = by_kind (is_job o.r) o.own o.is in (o.r, o.among, job, rw is (with-map o.r o.own o.own_framed)))
      (λ is. let z : ◌≡◌ {A = ℕ} 0 1 = cc in absurd (omega arith)) (each_entry (alone i) m)
    where
      by_kind : (t : Bool) (own : List ℕ) → alone i ≡ cond t (alone (map_in input ++ own)) (refused 10)
          → (t ≡ true) × (i ≡ map_in input ++ own)
      by_kind true own e = (refl, cc)
      by_kind false own e = let z : ◌≡◌ {A = ℕ} 0 1 = cc in absurd (omega arith)

-- ---- Looking for the end of the map

-- a record is a job by its kind alone
pub job_by_kind : (r : Record) → is_job r ≡ eqb r.kind job_kind
unfolding is_job is_given job_in
job_by_kind r = go (item_of r) (kind_of r)
  where
    go : (i : Item) → KindOf r i → is_given (job_in i) ≡ eqb r.kind job_kind
    go i (is-head k) = rw k
    go i (is_lane k) = rw k
    go i (is_estimate k) = rw k
    go i (is_job_lem k) = rw k
    go i (is_measured k) = rw k
    go i (is_wait k) = rw k
    go i (is_factors k) = rw k
    go i (is_default k) = rw k
    go i (is_other_lem a b c not-job d e f g) = sym (ne_eqb r.kind job_kind not-job)

-- what a step of a walk over the input reads, and where it stands
pub at_step : {input : List ℕ} {s t : Position} {read : Read} → s.input ≡ input → NextReads s read t → (s.at ≤ length input) × (read_at input s.at ≡ read)
at_step same step = (rw same at step.inside, sym (rw same at step.reads))

-- the map is the bytes before the place of the walk, and the records from there up to the first job
pub record MapLeft (input : List ℕ) (s : Position) (bytes : ℕ) : Type 0 where
  pub same : s.input ≡ input
  pub walked : s.at ≡ bytes
  pub ends : length (map_in input) ≡ bytes + sum_over bytes_of (before_job (frame (drop bytes input)).records)

pub map-begins : {input : List ℕ} {s : Position} → s ≡ record { input = input; at = 0 } → MapLeft input s 0
map-begins {input} {s} is =
    rw is (record { same = refl; walked = refl; ends = omega (arith, map_length input) })

module _ {input : List ℕ} {s t : Position} {bytes : ℕ} {read : Read} (m : MapLeft input s bytes) (step : NextReads s read t) where
  inside : bytes ≤ length input
  inside = rw m.walked at (at_step m.same step).0

  here : read_at input bytes ≡ read
  here = rw m.walked at (at_step m.same step).1

  -- it ends where no record is left
  none_read : (frame (drop bytes input)).records ≡ [] → bytes ≡ length (map_in input)
  unfolding before_job sum_over
  none_read none = omega (arith, rw none at m.ends)

  pub map_broken : {r : Refusal} → read ≡ Some (Err r) → bytes ≡ length (map_in input)
  unfolding stop
  map_broken {r} is = none_read (ap (λ (f : Framed). f.records) (reading.frame_broken input bytes inside r (here ∙ is)).1)

  pub map_ends : read ≡ None → bytes ≡ length (map_in input)
  unfolding stop
  map_ends is = none_read (ap (λ (f : Framed). f.records) (reading.frame_end input bytes inside (here ∙ is)).1)

  module _ {r : declared.Record.Record} (is : read ≡ Some (Ok r)) where
    first_left : length (map_in input)
        ≡ bytes + sum_over bytes_of (cond (eqb r.kind job_kind) [] (record_in input r ∷ before_job (frame (drop r.end input)).records))
    unfolding push before_job
    first_left =
        let whole = reading.frame_whole input bytes inside r (here ∙ is) in
        rw (whole.framed, job_by_kind (record_in input r)) at m.ends

    -- and at a job
    pub map_ends_at_job : r.kind ≡ job_kind → bytes ≡ length (map_in input)
    unfolding sum_over
    map_ends_at_job job = omega (arith, rw (eq-eqb r.kind job_kind job) at first_left)

    -- a record that is no job is one of the map's
    pub map_goes_on : (r.kind ≡ job_kind → ⊥) → MapLeft input t r.end
    unfolding sum_over
    map_goes_on not-job =
        record {
          same = step.same ∙ m.same;
          walked = rw is at step.moves;
          ends = omega (arith, rw (ne_eqb r.kind job_kind not-job) at first_left, whole_bytes input bytes inside r (here ∙ is));
        }

-- n entries stand before the place of the walk, each of one byte or more, and the others from there on
pub record CountLeft (input : List ℕ) (s : Position) (n : ℕ) : Type 0 where
  pub same : s.input ≡ input
  pub few : n ≤ s.at
  pub all : length (entries input) ≡ n + length (left_at input s.at)

pub count_begins : {input : List ℕ} {s : Position} {at : ℕ} → s ≡ record { input = input; at = at } → at ≡ length (map_in input) → CountLeft input s 0
count_begins {input} is from =
    rw (is, from) (record { same = refl; few = omega arith; all = omega (arith, ap length (start_left input)) })

module _ {input : List ℕ} {s t : Position} {n : ℕ} {read : Read} (k : CountLeft input s n) (step : NextReads s read t) where
  abbrev place : (s.at ≤ length input) × (read_at input s.at ≡ read)
  place = at_step k.same step

  pub count_goes_on : {x : Result declared.Record.Record Refusal} → read ≡ Some x → CountLeft input t (n + 1)
  count_goes_on {x} is = go x is
    where
      go : (x : Result declared.Record.Record Refusal) → read ≡ Some x → CountLeft input t (n + 1)
      go (Ok r) is =
          let next = reading.frame_whole input s.at place.0 r (place.1 ∙ is) in
          let at : t.at ≡ r.end = rw is at step.moves in
          record {
            same = step.same ∙ k.same;
            few = omega (arith, at, k.few, next.begins, next.lies.forward);
            all = rw at (omega (arith, k.all, ap length (left_whole input s.at place.0 r (place.1 ∙ is))));
          }
      go (Err r) is =
          let at : t.at ≡ length input = rw (is, k.same) at step.moves in
          record {
            same = step.same ∙ k.same;
            few = omega (arith, at, k.few, reading.broken_left input s.at place.0 r (place.1 ∙ is));
            all = rw (at, end_left input) (omega (arith, k.all, ap length (left_broken input s.at place.0 (place.1 ∙ is))));
          }

  pub count_ends : read ≡ None → n ≡ length (entries input)
  count_ends is = omega (arith, k.all, ap length (left_end input s.at place.0 (place.1 ∙ is)))
