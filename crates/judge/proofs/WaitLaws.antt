-- Refusal 21: the waits as they are noted, and the lanes as they are weighed with them. Assumes nothing.
use mathlib.Core.Path.{◌≡◌, refl, sym, ◌∙◌}
use mathlib.Core.Bool.{Bool, true, false, cond, not, ◌||◌, or-false, or_assoc}
use mathlib.Core.List.{List, [], ◌∷◌, ◌++◌, append-nil, map-append, Memᴰ}
use mathlib.Core.Option.{none, some}
use Prim.Native.Nat.{ℕ, ◌+◌, ◌≤◌, ◌<◌}
use native.Mathlib.Omega.{arith}
use lib.Dec.{ltb, eqb}
use lib.ListN.{length, get_or, set}
use lib.Seq.{append_snoc}
use borrow.Author.Tests.{eq-eqb, ne_eqb, le-ltb}
use types.Run.{OneOf, miss}
use denote.Enum.Declared.{tag_of}
use Rattle.model.specs.Framing.{frame}
use Rattle.model.specs.Items.{Lane, PlaceValue, Item, head, lane, estimate, job, wait, own_factors, default_estimate, other, items, lane_in, wait_in}
use Rattle.model.specs.Limits.{max_places, max_cost}
use Rattle.model.specs.Lists.{any, cons_if, filter_map, member, repeats}
use Rattle.model.specs.Refusals.{places_in, wrong_wait}
use Rattle.model.specs.Stated.{Stated, stated_by, stated, stated_in, lookup, cost_under, lane_cost, wait_at, arc_of}
use Rattle.model.proofs.Lists.{filter_map_member}
use Rattle.model.proofs.Lookups.{lookup_below}
use Rattle.model.proofs.Tests.{any_none, repeats_snoc}
use Rattle.map.specs.declared.record as declared
use Rattle.map.specs.declared.record.Item.TheVariants as variants
use Rattle.map.specs.Items.{meant, of_map, Priced}
use Rattle.map.specs.contracts.record.Item.{the_type}
use Rattle.map.proofs.Walks.{Comes, of_map_lem}
use Rattle.judge.specs.Marks.{first_mark, Clear}
use Rattle.judge.specs.Waits.{note_of, wait_noted, Fitting, CanNote, noted_by, note_again, NotedItem, NotedAll, Noting}
use Rattle.judge.specs.Waits.{any_too_dear, exceeds, too_dear, CanWeigh, Weighable, Weighing}
use Rattle.judge.proofs.MarkLaws.{Positive, first-set, set-length, mark_member, mark_snoc}

-- something is noted of a wait of 0 too
note_positive : Positive note_of
note_positive x = ne_eqb (note_of x) 0 λ z. omega arith

-- one less than what is noted of a place is its wait
noted_wait : (ws : List PlaceValue) (v : ℕ) → wait_noted (first_mark note_of ws v) ≡ lookup 0 ws v
unfolding first_mark lookup
noted_wait [] v = refl
noted_wait (w ∷ ws) v = go (eqb w.place v) (noted_wait ws v)
  where
    go : (t : Bool) → wait_noted (first_mark note_of ws v) ≡ lookup 0 ws v
        → wait_noted (cond t (note_of w.value) (first_mark note_of ws v)) ≡ cond t w.value (lookup 0 ws v)
    go true h = omega arith
    go false h = h

-- what an item says is stated, and so it is as no earlier refusal leaves it
module _ {input : List ℕ} (fits : Fitting input) {i : Item} (in_all : Memᴰ i (items (frame input).records)) where
  said_wait : (w : PlaceValue) → wait_in i ≡ some w → Memᴰ w (stated_in input).waits
  unfolding stated stated_by
  said_wait w is = (filter_map_member wait_in (items (frame input).records) w).1 (i, in_all, is)

  said_lane : (l : Lane) → lane_in i ≡ some l → Memᴰ l (stated_in input).lanes
  unfolding stated stated_by
  said_lane l is = (filter_map_member lane_in (items (frame input).records) l).1 (i, in_all, is)

  wait_place : (w : PlaceValue) → wait_in i ≡ some w → w.place < max_places
  wait_place w is = omega (arith, fits.few, fits.place w (said_wait w is))

-- ---- Noting the waits

-- one item more is looked at: a wait is noted, and nothing else is
module _ {s : Stated} {is : List Item} {noted : List ℕ} {twice : Bool} where
  step_wait : (w : PlaceValue) → w.place < max_places → Noting s (wait w ∷ is) noted twice
      → Noting s is (noted_by (wait w) noted) (twice || note_again (wait w) noted)
  unfolding noted_by note_again filter_map cons_if wait_in
  step_wait w inside now =
      let place = w.place in
      let done = now.done in
      let new = note_of w.value in
      let again : not (eqb (get_or noted place 0) 0) ≡ member place (places_in done) =
      rw (now.notes place) (mark_member note_of note_positive done place) in
      record {
        done = done ++ (w ∷ []);
        split = append_snoc done w (filter_map wait_in is) ∙ now.split;
        room = set-length (eqb (get_or noted place 0) 0) noted place new ∙ now.room;
        notes = λ v.
            first-set noted place new (omega (arith, now.room)) v
            ∙ rw (now.notes v) (sym (mark_snoc note_of note_positive done w v));
        repeated = rw (now.repeated, again, map-append (λ (x : PlaceValue). x.place) done (w ∷ [])) (sym (repeats_snoc (places_in done) place));
      }

  step_none : {i : Item} → wait_in i ≡ none → Noting s (i ∷ is) noted twice → Noting s is noted (twice || false)
  unfolding filter_map cons_if
  step_none no-wait now =
      rw (or-false twice)
      (record { done = now.done; split = rw no-wait at now.split; room = now.room; notes = now.notes; repeated = now.repeated })

  one_noted : (i : Item) → ((w : PlaceValue) → wait_in i ≡ some w → w.place < max_places) → Noting s (i ∷ is) noted twice
      → Noting s is (noted_by i noted) (twice || note_again i noted)
  unfolding noted_by note_again wait_in
  one_noted (head z) inside now = step_none refl now
  one_noted (lane l) inside now = step_none refl now
  one_noted (estimate e) inside now = step_none refl now
  one_noted (job j) inside now = step_none refl now
  one_noted (wait w) inside now = step_wait w (inside w refl) now
  one_noted (own_factors fs) inside now = step_none refl now
  one_noted (default_estimate x) inside now = step_none refl now
  one_noted other inside now = step_none refl now

-- what is kept while waits are noted: the notes, and whether two are for one place
abbrev pub NotingKept : Stated → List Item → List ℕ × Bool → Type 0
NotingKept s is kept = Noting s is kept.0 kept.1

-- the walk over an input has come to the item i
module _ {input : List ℕ} {kept : List ℕ × Bool} {i : declared.Item.Item} {rest : List Item} (fits : Fitting input)
    (comes : Comes (NotingKept (stated_in input)) input kept i rest) where
  pub noting_can : CanNote (of_map i) kept.0
  unfolding wait_in
  noting_can =
      of_map_lem input (λ k. CanNote k kept.0)
      (λ j k c. record { room = c.room; place = c.place; value = c.value })
      (λ fs gs c. record { room = c.room; place = c.place; value = c.value })
      i
      (record {
        room = comes.first.room;
        place = wait_place fits comes.in_all;
        value = λ w is. fits.value w (said_wait fits comes.in_all w is);
      })

  pub noting_step : {again : Bool} {noted : List ℕ} → NotedItem (of_map i) kept.0 again noted
      → NotingKept (stated_in input) rest (noted, kept.1 || again)
  unfolding noted_by note_again
  noting_step step =
      let after = of_map_lem input (λ k. noted_by k kept.0 ≡ noted_by (meant input i) kept.0) (λ j k e. e) (λ fs gs e. e) i refl in
      let before = of_map_lem input (λ k. note_again k kept.0 ≡ note_again (meant input i) kept.0) (λ j k e. e) (λ fs gs e. e) i refl in
      rw (step.after ∙ after, step.before ∙ before) (one_noted (meant input i) (wait_place fits comes.in_all) comes.first)

-- at the first item, and after the last
pub noting_begins : (input : List ℕ) {noted : List ℕ} → Clear noted → NotingKept (stated_in input) (items (frame input).records) (noted, false)
unfolding stated stated_by first_mark repeats
noting_begins input clear = record { done = []; split = refl; room = clear.room; notes = clear.zero; repeated = refl }

pub noting_ends : {s : Stated} {noted : List ℕ} {twice : Bool} → NotingKept s [] (noted, twice) → NotedAll s twice noted
unfolding filter_map
noting_ends end =
    let all = sym (append-nil end.done) ∙ end.split in
    record { room = end.room; notes = rw all at end.notes; repeated = rw all at end.repeated }

-- a wait is noted at its place, where none is
pub record NotesWait (i : declared.Item.Item) (noted : List ℕ) (w : declared.PlaceValue.PlaceValue) : Type 0 where
  pub inside : w.place < max_places
  pub small : w.value < 65536
  pub again : (get_or noted w.place 0 ≡ 0 → ⊥) → NotedItem (of_map i) noted true noted
  pub first : get_or noted w.place 0 ≡ 0 → NotedItem (of_map i) noted false (set noted w.place (note_of w.value))

pub notes_wait : {i : declared.Item.Item} {noted : List ℕ} {w : declared.PlaceValue.PlaceValue} → CanNote (of_map i) noted → i ≡ variants.Wait w
    → NotesWait i noted w
unfolding meant wait_in noted_by note_again
notes_wait {i} {noted} {w} can is =
    let own = rw is at can in
    rw is
    (record {
      inside = own.place _ refl;
      small = own.value _ refl;
      again = λ met. let e = ne_eqb (get_or noted w.place 0) 0 met in record { before = rw e; after = rw e };
      first = λ free. let e = eq-eqb (get_or noted w.place 0) 0 free in record { before = rw e; after = rw e };
    })

-- nothing else is noted
pub notes_none : (i : declared.Item.Item) (noted : List ℕ) → OneOf (0 ∷ 1 ∷ 2 ∷ 3 ∷ 5 ∷ 6 ∷ 7 ∷ 8 ∷ 9 ∷ []) (tag_of the_type i)
    → NotedItem (of_map i) noted false noted
unfolding meant noted_by note_again
notes_none (variants.Head s) noted k = record { before = refl; after = refl }
notes_none (variants.Lane l) noted k = record { before = refl; after = refl }
notes_none (variants.Measured l) noted k = record { before = refl; after = refl }
notes_none (variants.Estimate e) noted k = record { before = refl; after = refl }
notes_none (variants.Wait w) noted k = absurd (miss (0 ∷ 1 ∷ 2 ∷ 3 ∷ 5 ∷ 6 ∷ 7 ∷ 8 ∷ 9 ∷ []) 4 tt k)
notes_none (variants.Factors at) noted k = record { before = refl; after = refl }
notes_none (variants.Default x) noted k = record { before = refl; after = refl }
notes_none (variants.Job j) noted k = record { before = refl; after = refl }
notes_none variants.Misfit noted k = record { before = refl; after = refl }
notes_none variants.Other noted k = record { before = refl; after = refl }

-- ---- Weighing the lanes

module _ {factors input noted : List ℕ} (can : Weighable factors input noted) where
  abbrev st : Stated
  st = stated_in input

  -- a lane's cost with what is noted of its place is the cost of its arc
  dear_same : (l : Lane) → too_dear factors noted (lane l) ≡ ltb max_cost (arc_of st l).cost
  unfolding too_dear arc_of lane_cost wait_at
  dear_same l = rw (can.notes l.from, noted_wait st.waits l.from, can.stated_factors)

  -- one item more is weighed
  one_weighed : (is : List Item) (dear : Bool) (i : Item) → Weighing st (i ∷ is) dear → Weighing st is (dear || too_dear factors noted i)
  unfolding filter_map cons_if lane_in any too_dear
  one_weighed is dear (head z) now = rw (or-false dear) now
  one_weighed is dear (lane l) now = rw (dear_same l, or_assoc dear _ _) now
  one_weighed is dear (estimate e) now = rw (or-false dear) now
  one_weighed is dear (job j) now = rw (or-false dear) now
  one_weighed is dear (wait w) now = rw (or-false dear) now
  one_weighed is dear (own_factors fs) now = rw (or-false dear) now
  one_weighed is dear (default_estimate x) now = rw (or-false dear) now
  one_weighed is dear other now = rw (or-false dear) now

  -- a wait is at most 65,535
  notes_small : (v : ℕ) → get_or noted v 0 ≤ 65536
  notes_small v =
      let ws = st.waits in
      let small = lookup_below 0 ws 65535 (omega arith) (λ w i. let h = can.fits.value w i in omega arith) v in
      omega (arith, can.notes v, noted_wait ws v)

  -- the walk over an input has come to the item i
  module _ {dear : Bool} {i : declared.Item.Item} {rest : List Item} (comes : Comes (Weighing st) input dear i rest) where
    pub weighing_can : CanWeigh factors (of_map i) noted
    unfolding lane_in
    weighing_can =
        let stated-lane = said_lane can.fits comes.in_all in
        of_map_lem input (λ k. CanWeigh factors k noted)
        (λ j k c. record { room = c.room; small = c.small; from = c.from; measure = c.measure; cost = c.cost })
        (λ fs gs c. record { room = c.room; small = c.small; from = c.from; measure = c.measure; cost = c.cost })
        i
        (record {
          room = can.room;
          small = notes_small;
          from = λ l is. omega (arith, can.fits.few, can.fits.from l (stated-lane l is));
          measure = λ l is. can.fits.measure l (stated-lane l is);
          cost = λ l is. rw can.stated_factors (can.fits.cost l (stated-lane l is));
        })

    pub weighing_step : {found : Bool} → found ≡ too_dear factors noted (of_map i) → Weighing st rest (dear || found)
    unfolding too_dear
    weighing_step is =
        let same = of_map_lem input (λ k. too_dear factors noted k ≡ too_dear factors noted (meant input i)) (λ j k e. e) (λ fs gs e. e) i refl in
        rw (is ∙ same) (one_weighed rest dear (meant input i) comes.first)

-- at the first item, and after the last
pub weighing_begins : (input : List ℕ) → Weighing (stated_in input) (items (frame input).records) false
unfolding stated stated_by any_too_dear
weighing_begins input = refl

pub weighing_ends : (s : Stated) (dear : Bool) → Weighing s [] dear → dear ≡ any_too_dear s
unfolding filter_map any
weighing_ends s dear end = sym (or-false dear) ∙ end

-- a lane of either kind is weighed at its cost
module _ (factors noted : List ℕ) {i : Item} {l : Lane} (is : i ≡ lane l) where
  module _ (can : CanWeigh factors i noted) where
    pub lane_bounded : (l.from < max_places) × (cost_under factors l.charge ≤ max_cost) × (get_or noted l.from 0 ≤ 65536)
    unfolding lane_in
    lane_bounded = let own = rw is at can in (own.from l refl, own.cost l refl, own.small l.from)

    pub lane_priced : Priced factors l.charge
    unfolding lane_in
    lane_priced = let own = rw is at can in record { measure = own.measure l refl; cost = own.cost l refl }

  pub lane_weighed : exceeds noted l.from (cost_under factors l.charge) ≡ too_dear factors noted i
  unfolding too_dear
  lane_weighed = rw is

-- nothing else is too dear
pub weighs_none : (factors noted : List ℕ) (i : declared.Item.Item) → OneOf (0 ∷ 3 ∷ 4 ∷ 5 ∷ 6 ∷ 7 ∷ 8 ∷ 9 ∷ []) (tag_of the_type i)
    → false ≡ too_dear factors noted (of_map i)
unfolding meant too_dear
weighs_none factors noted (variants.Head s) k = refl
weighs_none factors noted (variants.Lane l) k = absurd (miss (0 ∷ 3 ∷ 4 ∷ 5 ∷ 6 ∷ 7 ∷ 8 ∷ 9 ∷ []) 1 tt k)
weighs_none factors noted (variants.Measured l) k = absurd (miss (0 ∷ 3 ∷ 4 ∷ 5 ∷ 6 ∷ 7 ∷ 8 ∷ 9 ∷ []) 2 tt k)
weighs_none factors noted (variants.Estimate e) k = refl
weighs_none factors noted (variants.Wait w) k = refl
weighs_none factors noted (variants.Factors at) k = refl
weighs_none factors noted (variants.Default x) k = refl
weighs_none factors noted (variants.Job j) k = refl
weighs_none factors noted variants.Misfit k = refl
weighs_none factors noted variants.Other k = refl

-- ---- Both

-- once the waits are noted, the lanes can be weighed
pub weighable : {input factors noted : List ℕ} {twice : Bool} → Fitting input → factors ≡ (stated_in input).factors
    → NotedAll (stated_in input) twice noted → Weighable factors input noted
weighable fits in_force all = record { fits = fits; stated_factors = in_force; room = all.room; notes = all.notes }

-- without waits no arc is too dear, since no lane is by itself
pub no_waits : {input : List ℕ} → Fitting input → length (stated_in input).waits ≡ 0 → wrong_wait (stated_in input) ≡ false
unfolding wrong_wait arc_of lane_cost wait_at repeats lookup
no_waits {input} fits empty = go (stated_in input).waits empty
  where
    s : Stated
    s = stated_in input

    go : (ws : List PlaceValue) → length ws ≡ 0
        → (repeats (places_in ws) || any (λ (l : Lane). ltb max_cost (cost_under s.factors l.charge + lookup 0 ws l.from)) s.lanes) ≡ false
    go [] e = any_none _ s.lanes λ l i. le-ltb max_cost (cost_under s.factors l.charge + 0) (omega (arith, fits.cost l i))
    go (w ∷ ws) e = absurd (omega arith)

-- the two passes find what is wrong
pub waits_same : {s : Stated} {twice dear : Bool} {noted : List ℕ} → NotedAll s twice noted → dear ≡ any_too_dear s → (twice || dear) ≡ wrong_wait s
unfolding wrong_wait any_too_dear
waits_same all is = rw (all.repeated, is)
