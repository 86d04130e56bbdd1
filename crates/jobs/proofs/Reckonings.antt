-- The report as plain numbers: what is refused leaves all as it was; else the map is put into the buffer, all is run, and the tallies make the
-- tally's records. Assumes nothing.
use mathlib.Core.Path.{◌≡◌, sym, ap, ◌∙◌}
use mathlib.Core.Bool.{false, or-true}
use mathlib.Core.List.{List}
use Prim.Native.Nat.{ℕ, ◌+◌, ◌≤◌, ◌<◌}
use native.Mathlib.Omega.{arith}
use lib.Dec.{ltb}
use lib.ListN.{length, take}
use lib.Seq.{sets, length-sets, length-take-le, take_at}
use borrow.Author.Tests.{lt-ltb, le-ltb}
use Rattle.model.specs.Limits.{max_places}
use Rattle.area.proofs.Sets.{sets-front}
use Rattle.tally.specs.declared.Tally.{Tally}
use Rattle.tally.specs.Tallied.{put_to}
use Rattle.tally.proofs.Lists.{put_is}
use Rattle.jobs.specs.declared.Status.{Status}
use Rattle.jobs.specs.declared.Status.TheVariants.{TooLong, ShortTally}
use Rattle.jobs.specs.declared.Reckoning.{Reckoning}
use Rattle.jobs.specs.Entries.{map_in, entries}
use Rattle.jobs.specs.Figures.{arrivals}
use Rattle.jobs.specs.Report.{max_input, max_entries, too_long, without, tallied, unchanged, after_jobs, report}
use Rattle.jobs.specs.Steps.{routes_by, costs_by, results_in, Startable, AllRun, Blank, Reckoned}
use Rattle.jobs.proofs.ByKey.{values_length}
use Rattle.jobs.proofs.EntryLaws.{map_inside, map-front}
use Rattle.jobs.proofs.FigureLaws.{tally_is}

-- ---- The map in the buffer

module _ (input : List ℕ) {map : ℕ} (is : map ≡ length (map_in input)) where
  -- the input begins with the map
  pub front_length : length (take map input) ≡ map
  front_length = length-take-le map input (omega (arith, map_inside input))

  front_is : take map input ≡ map_in input
  front_is = rw is (sym (map-front input))

  module _ (short : length input ≤ max_input) (old : List ℕ) (room : length old ≡ max_input) where
    -- the buffer has room for it
    pub map-fits : 0 + length (take map input) ≤ length old
    map-fits = omega (arith, front_length, map_inside input)

    -- Once the map is there, all that stands behind it can be run.
    pub startable : {buffer routes costs : List ℕ} → buffer ≡ sets old 0 (take map input) → length (entries input) ≤ max_entries → Blank routes costs
        → Startable input map buffer routes costs
    startable {buffer} put few blank =
        let whole : length (take map input) ≤ length old = omega (arith, map-fits) in
        record {
          map_bytes = is;
          short = short;
          few = few;
          map_there = ap (take map) (put ∙ sets-front (take map input) old whole) ∙ take_at (take map input) _ map front_length ∙ front_is;
          room = rw (put, length-sets) room;
          blank = blank;
        }

-- ---- Refused

not_long : (input : List ℕ) → length input ≤ max_input → length (entries input) ≤ max_entries → too_long input ≡ false
unfolding too_long
not_long input short few = rw (le-ltb max_input (length input) short, le-ltb max_entries (length (entries input)) few)

module _ {input work sheet : List ℕ} {records : ℕ} {r : Reckoning} {routes costs : List ℕ} where
  -- with no record to set, any tally stays as it is
  refused_reckoned : (s : Status) → ((tally : List Tally) → length tally ≡ records → report input work sheet tally ≡ unchanged s work sheet tally)
      → (r.day ≡ without s) × (r.records ≡ 0) → Reckoned input work sheet records r work sheet routes costs
  unfolding unchanged
  refused_reckoned s says (day, none) =
      record {
        puttable = λ tally size. rw none (record { records = omega arith; routes_there = omega arith; costs_there = omega arith; few = omega arith });
        reports = λ tally size. record { result = rw (day, none) (sym (says tally size)) };
      }

  -- More bytes than an input may have are too long,
  pub many_bytes : max_input < length input → (r.day ≡ without TooLong) × (r.records ≡ 0) → Reckoned input work sheet records r work sheet routes costs
  unfolding report too_long
  many_bytes long = refused_reckoned TooLong λ tally size. rw (lt-ltb max_input (length input) long)

  -- and so are more entries than it may have.
  pub many_entries : max_entries < length (entries input) → (r.day ≡ without TooLong) × (r.records ≡ 0)
      → Reckoned input work sheet records r work sheet routes costs
  unfolding report too_long
  many_entries many = refused_reckoned TooLong λ tally size. rw (lt-ltb max_entries (length (entries input)) many, or-true (ltb max_input (length input)))

  -- With fewer records than there can be goals, the tally is short.
  pub short_tally : length input ≤ max_input → length (entries input) ≤ max_entries → records < max_places
      → (r.day ≡ without ShortTally) × (r.records ≡ 0) → Reckoned input work sheet records r work sheet routes costs
  unfolding report
  short_tally short few less = refused_reckoned ShortTally λ tally size. rw (not_long input short few, lt-ltb (length tally) max_places (omega arith))

-- ---- Reported

module _ {input work₀ sheet₀ : List ℕ} {records : ℕ} {r : Reckoning} {work sheet routes costs : List ℕ} (short : length input ≤ max_input)
    (few : length (entries input) ≤ max_entries) (enough : max_places ≤ records) (ran : AllRun input work₀ sheet₀ r.day work sheet routes costs)
    (all : r.records ≡ max_places) where
  -- the tallies make the records
  tally_reckoned : (tally : List Tally) → max_places ≤ length tally
      → put_to r.records routes costs tally ≡ tallied (arrivals (results_in input work₀ sheet₀)) tally
  unfolding tallied
  tally_reckoned tally room =
      put_is r.records routes costs tally (omega arith)
      ∙ rw (all, ran.routes_are, ran.costs_are, tally_is (arrivals (results_in input work₀ sheet₀)))

  routes_length : length routes ≡ max_places
  unfolding routes_by
  routes_length = rw ran.routes_are (values_length _ max_places)

  costs_length : length costs ≡ max_places
  unfolding costs_by
  costs_length = rw ran.costs_are (values_length _ max_places)

  -- What was run gives the figures and the tally of the report.
  pub all_reckoned : Reckoned input work₀ sheet₀ records r work sheet routes costs
  unfolding report after_jobs
  all_reckoned =
      record {
        puttable = λ tally size.
            record {
              records = omega arith;
              routes_there = omega (arith, routes_length);
              costs_there = omega (arith, costs_length);
              few = omega arith;
            };
        reports = λ tally size.
            let room : max_places ≤ length tally = omega arith in
            record {
              result =
                  rw (ran.day_is, ran.work_is, ran.sheet_is, tally_reckoned tally room, not_long input short few, le-ltb (length tally) max_places room);
            };
      }
