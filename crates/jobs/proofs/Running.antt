-- Running all that stands behind the map, entry after entry: what has been run, and what is left. Assumes nothing.
use mathlib.Core.Path.{◌≡◌, refl, sym, ap, ◌∙◌}
use mathlib.Core.List.Memᴰ
use mathlib.Core.List.{List, [], ◌∷◌, ◌++◌, append-nil, Memᴰ}
use Prim.Native.Nat.{ℕ, ◌+◌, ◌≤◌}
use native.Mathlib.Omega.{arith}
use lib.ListN.{length, take, length-append}
use lib.Seq.{append_snoc}
use Rattle.model.specs.Answer as model
use Rattle.model.specs.Answer.{Result, answer, refused_with}
use Rattle.model.specs.Bytes.{Bytes}
use Rattle.model.specs.Lists.{filter}
use Rattle.map.specs.declared.record.Record.{Record}
use Rattle.std.specs.Prelude.{Some, None, Ok, Err}
use Rattle.map.specs.declared.refusal.Refusal.{Refusal}
use Rattle.map.specs.Refusals.{number_of}
use Rattle.map.proofs.Records.{frame_broken}
use Rattle.map.specs.Records.{read_at, record_in}
use Rattle.map.specs.Walks.{Position}
use Rattle.map.proofs.Records.{frame_whole}
use Rattle.answer.specs.declared.Answer.{Answer}
use Rattle.answer.specs.Numbers.{answer_of}
use Rattle.jobs.specs.declared.Day.{Day}
use Rattle.jobs.specs.declared.Status.TheVariants.{Reported}
use Rattle.jobs.specs.Entries.{Entry, refused, map_in, entry_of, entries}
use Rattle.jobs.specs.Figures.{result_of, results, work_after, sheet_after, arrivals}
use Rattle.jobs.specs.Report.{max_input, max_entries, without}
use Rattle.jobs.specs.Steps.{noted, Notable, Talliable, Tallies, Runnable, bytes_in, RecordRun, left_at, results_in, Startable}
use Rattle.jobs.specs.Steps.{Underway, AllRun}
use Rattle.jobs.proofs.Bounded.{Bounded}
use Rattle.jobs.proofs.EntryLaws.{map_inside, start_left, left_whole, left_broken, left_end, end_left, all_sound}
use Rattle.jobs.proofs.FigureLaws.{figures-none, routes_none, costs_none, figures_next, routes_next, costs_next, notable, talliable}
use Rattle.jobs.proofs.ResultLaws.{results_bounded, results-length}
use Rattle.jobs.proofs.Tallying.{tallies_none}

-- all that is lent keeps its length
pub record SameSizes (work₀ sheet₀ routes₀ costs₀ work sheet routes costs : List ℕ) : Type 0 where
  pub work_same : length work ≡ length work₀
  pub sheet_same : length sheet ≡ length sheet₀
  pub routes_same : length routes ≡ length routes₀
  pub costs_same : length costs ≡ length costs₀

pub same_sizes : {work sheet routes costs : List ℕ} → SameSizes work sheet routes costs work sheet routes costs
same_sizes = record { work_same = refl; sheet_same = refl; routes_same = refl; costs_same = refl }

-- the entries before the place of a walk over the input have been run, and the others are left
pub record Walked (input work₀ sheet₀ routes₀ costs₀ : List ℕ) (s : Position) (d : Day) (buffer work sheet routes costs : List ℕ) : Type 0 where
  pub same : s.input ≡ input
  pub underway : Underway input work₀ sheet₀ s.at d buffer work sheet routes costs
  pub sizes : SameSizes work₀ sheet₀ routes₀ costs₀ work sheet routes costs

-- the areas after one result more are those that it leaves
work_after_lem : (rs : List Result) (r : Result) (work : List ℕ) → work_after (rs ++ (r ∷ [])) work ≡ r.work
unfolding work_after
work_after_lem [] r work = refl
work_after_lem (s ∷ rs) r work = work_after_lem rs r s.work

sheet_after_lem : (rs : List Result) (r : Result) (sheet : List ℕ) → sheet_after (rs ++ (r ∷ [])) sheet ≡ r.sheet
unfolding sheet_after
sheet_after_lem [] r sheet = refl
sheet_after_lem (s ∷ rs) r sheet = sheet_after_lem rs r s.sheet

-- ---- Nothing left

-- where no entry is left, all have been run
all_run : {input work₀ sheet₀ : List ℕ} {at : ℕ} {d : Day} {buffer work sheet routes costs : List ℕ}
    → Underway input work₀ sheet₀ at d buffer work sheet routes costs → left_at input at ≡ [] → AllRun input work₀ sheet₀ d work sheet routes costs
unfolding results
all_run {input} {work₀} {sheet₀} u none =
    let all : results_in input work₀ sheet₀ ≡ u.done = u.split ∙ rw none (append-nil u.done) in
    record {
      day_is = rw all u.day_is;
      work_is = rw all u.work_is;
      sheet_is = rw all u.sheet_is;
      routes_are = rw all u.routes_are;
      costs_are = rw all u.costs_are;
    }

-- ---- One entry more

-- the next entry comes to r, and the others are left from byte `after` on
record Next (input : List ℕ) (at : ℕ) (work sheet : List ℕ) (after : ℕ) (r : Result) : Type 0 where
  entry : Entry
  first : left_at input at ≡ entry ∷ left_at input after
  comes : r ≡ result_of entry work sheet
  forward : at ≤ after
  inside : after ≤ length input

module _ {input work₀ sheet₀ : List ℕ} {at : ℕ} {d : Day} {buffer work sheet routes costs : List ℕ} {after : ℕ} {r : Result} (B : Bytes input)
    (few : length (entries input) ≤ max_entries) (u : Underway input work₀ sheet₀ at d buffer work sheet routes costs)
    (n : Next input at work sheet after r) where
  split_next : results_in input work₀ sheet₀ ≡ u.done ++ (r ∷ []) ++ results (left_at input after) r.work r.sheet
  unfolding results
  split_next =
      u.split ∙ rw (n.first, ← n.comes) (sym (append_snoc u.done r (results (left_at input after) r.work r.sheet)))

  -- it is one of the results that the input's entries come to, and so is each before it
  among_bounded : (s : Result) → Memᴰ s (u.done ++ (r ∷ [])) → Bounded s
  among_bounded s i = results_bounded (entries input) (all_sound input B) work₀ sheet₀ s (rw split_next (Memᴰ.append_left _ i))

  done_bounded : (s : Result) → Memᴰ s u.done → Bounded s
  done_bounded s i = among_bounded s (Memᴰ.append_left _ i)

  own_bounded : Bounded r
  own_bounded = among_bounded r (Memᴰ.append_right u.done (Memᴰ.head refl))

  few_done : length u.done + 1 ≤ max_entries
  few_done = omega (arith, results-length (entries input) work₀ sheet₀, simp length-append at (ap length split_next))

  -- so it can be noted and tallied
  notable_next : Notable d r.answer
  notable_next = rw u.day_is (notable u.done r done_bounded own_bounded few_done)

  talliable_next : Talliable r.answer r.sheet routes costs
  talliable_next = rw (u.routes_are, u.costs_are) (talliable u.done r done_bounded own_bounded few_done)

  underway_next : {d₁ : Day} {buffer₁ routes₁ costs₁ : List ℕ} → d₁ ≡ noted d r.answer
      → Tallies r.answer r.sheet routes costs routes₁ costs₁ → take (length (map_in input)) buffer₁ ≡ map_in input → length buffer₁ ≡ max_input
      → Underway input work₀ sheet₀ after d₁ buffer₁ r.work r.sheet routes₁ costs₁
  underway_next day tallied map_there room =
      record {
        inside = n.inside;
        behind = omega arith;
        done = u.done ++ (r ∷ []);
        split = split_next;
        work_is = sym (work_after_lem u.done r work₀);
        sheet_is = sym (sheet_after_lem u.done r sheet₀);
        day_is = day ∙ rw u.day_is (sym (figures_next u.done r));
        routes_are = tallied.routes_are ∙ rw u.routes_are (sym (routes_next u.done r own_bounded.last));
        costs_are = tallied.costs_are ∙ rw u.costs_are (sym (costs_next u.done r own_bounded.last));
        map_there = map_there;
        room = room;
      }

-- ---- From the start to the end

module _ {input : List ℕ} {map : ℕ} {buffer₀ routes₀ costs₀ : List ℕ} (can : Startable input map buffer₀ routes₀ costs₀) {work₀ sheet₀ : List ℕ} where
  -- Before the first entry nothing has been run.
  pub underway_start : {d : Day} → d ≡ without Reported → Underway input work₀ sheet₀ map d buffer₀ work₀ sheet₀ routes₀ costs₀
  unfolding work_after sheet_after arrivals filter
  underway_start none =
      record {
        inside = omega (arith, map_inside input);
        behind = omega arith;
        done = [];
        split = rw (can.map_bytes, ← start_left input);
        work_is = refl;
        sheet_is = refl;
        day_is = none ∙ sym figures-none;
        routes_are = can.blank.no_routes ∙ sym routes_none;
        costs_are = can.blank.no_costs ∙ sym costs_none;
        map_there = rw (← can.map_bytes) can.map_there;
        room = can.room;
      }

  module _ {at : ℕ} {d : Day} {buffer work sheet routes costs : List ℕ} (u : Underway input work₀ sheet₀ at d buffer work sheet routes costs) where
    -- At the end all have been run.
    pub end_run : read_at input at ≡ None → AllRun input work₀ sheet₀ d work sheet routes costs
    end_run read = all_run u (left_end input at u.inside read)

    -- A record that is read next can be run.
    pub next_runnable : {r : Record} → read_at input at ≡ Some (Ok r) → Runnable input map r buffer
    next_runnable {r} read =
        let is = frame_whole input at u.inside r read in
        record { lies = is.lies; behind = omega arith; short = can.short; room = u.room }

    module _ {r : Record} (B : Bytes input) (read : read_at input at ≡ Some (Ok r)) {a : Answer} {buffer₁ work₁ sheet₁ : List ℕ}
        (ran : RecordRun input map r buffer work sheet a buffer₁ work₁ sheet₁) where
      map_is : take map buffer ≡ map_in input
      map_is = rw can.map_bytes u.map_there

      record_next : Next input at work sheet r.end (record { answer = answer_of a; work = work₁; sheet = sheet₁ })
      record_next =
          let is = frame_whole input at u.inside r read in
          record {
            entry = entry_of (map_in input) (record_in input r) (bytes_in input r);
            first = left_whole input at u.inside r read;
            comes = rw map_is at ran.result;
            forward = omega arith;
            inside = is.lies.ends;
          }

      -- Once it is run, its answer can be noted and tallied.
      pub record_notable : Notable d (answer_of a)
      record_notable = notable_next B can.few u record_next

      pub record_talliable : Talliable (answer_of a) sheet₁ routes costs
      record_talliable = talliable_next B can.few u record_next

      -- And then the entries before its end have been run.
      pub record_underway : {d₁ : Day} {routes₁ costs₁ : List ℕ} → d₁ ≡ noted d (answer_of a)
          → Tallies (answer_of a) sheet₁ routes costs routes₁ costs₁
          → Underway input work₀ sheet₀ r.end d₁ buffer₁ work₁ sheet₁ routes₁ costs₁
      record_underway day tallied =
          underway_next B can.few u record_next day tallied (rw (← can.map_bytes) (ran.map_stays ∙ map_is)) ran.room

    module _ (B : Bytes input) {e : Refusal} (read : read_at input at ≡ Some (Err e)) {a : Answer} (is : answer_of a ≡ answer (number_of e) 0 0 0 0 0 0)
      where
        refused_first : answer_of a ≡ answer 1 0 0 0 0 0 0
        refused_first = is ∙ rw (frame_broken input at u.inside e read).0

        tail_next : Next input at work sheet (length input) (record { answer = answer_of a; work = work; sheet = sheet })
        unfolding result_of refused_with
        tail_next =
            record {
              entry = refused 1;
              first = rw (end_left input) (left_broken input at u.inside read);
              comes = rw refused_first;
              forward = u.inside;
              inside = omega arith;
            }

        -- The refusal of a broken tail can be noted, and then all have been run.
        pub tail_notable : Notable d (answer_of a)
        tail_notable = notable_next B can.few u tail_next

        pub tail_underway : {d₁ : Day} → d₁ ≡ noted d (answer_of a) → Underway input work₀ sheet₀ (length input) d₁ buffer work sheet routes costs
        tail_underway day =
            let number : a.number ≡ 1 = ap (λ (b : model.Answer). b.number) refused_first in
            underway_next B can.few u tail_next day (tallies_none (λ e. omega arith)) u.map_there u.room
