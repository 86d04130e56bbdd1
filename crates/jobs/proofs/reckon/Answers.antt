-- What is too long, or has too short a tally, is refused. Else the map is put into an empty buffer, and all behind it is run. Assumes nothing.
use mathlib.Core.Path.{◌≡◌, refl, sym}
use mathlib.Core.List.{List}
use Prim.Native.Nat.{ℕ, ◌≤◌}
use lib.ListN.{length, replicate, length-replicate}
use Rattle.jobs.specs.Entries.{map_in, entries}
use Rattle.jobs.specs.Report.{max_input, max_entries}
use Rattle.jobs.proofs.Reckonings.{front_length, startable, many_bytes, many_entries, short_tally, all_reckoned}
use Rattle.jobs.proofs.reckon.Goals.{Else-count-gt-ENTRIES}
use Rattle.jobs.proofs.reckon.Goals as goal

-- the buffer before the map is put there
abbrev zeros : List ℕ
zeros = replicate max_input 0

mapped : (c : Else-count-gt-ENTRIES) → c.map_bytes-map.result ≡ length (map_in c.args.input.now)
mapped c = c.map_bytes-map.ensures

short : (c : Else-count-gt-ENTRIES) → length c.args.input.now ≤ max_input
short c = c.if-input-gt-INPUT.false

few : (c : Else-count-gt-ENTRIES) → length (entries c.args.input.now) ≤ max_entries
few c = rw (← c.count.ensures) c.if-count-gt-ENTRIES.false

pub returns-then-input-gt-INPUT : goal.returns-then-input-gt-INPUT
returns-then-input-gt-INPUT c = many_bytes c.if-input-gt-INPUT.true c.refused.ensures

pub returns-then-count-gt-ENTRIES : goal.returns-then-count-gt-ENTRIES
returns-then-count-gt-ENTRIES c = many_entries (rw (← c.count.ensures) c.if-count-gt-ENTRIES.true) c.refused-then-count-gt-ENTRIES.ensures

pub returns-then-records-lt-PLACES : goal.returns-then-records-lt-PLACES
returns-then-records-lt-PLACES c = short_tally (short (goal.at.returns-then-records-lt-PLACES c).Else-count-gt-ENTRIES) (few (goal.at.returns-then-records-lt-PLACES c).Else-count-gt-ENTRIES) c.if-records-lt-PLACES.true c.refused-then-records-lt-PLACES.ensures

pub slice_bounds-put_bytes-end-2 : goal.slice_bounds-put_bytes-end-2
slice_bounds-put_bytes-end-2 c = sym (front_length _ (mapped (goal.at.slice_bounds-put_bytes-end-2 c).Else-count-gt-ENTRIES))

pub run_all-day-requires : goal.run_all-day-requires
run_all-day-requires c =
    startable _ (mapped (goal.at.run_all-day-requires c).Else-count-gt-ENTRIES) (short (goal.at.run_all-day-requires c).Else-count-gt-ENTRIES) zeros (length-replicate {A = ℕ} max_input 0) c.put_bytes.ensures (few (goal.at.run_all-day-requires c).Else-count-gt-ENTRIES) c.requires

pub returns : goal.returns
returns c =
    all_reckoned (short (goal.at.returns c).Else-count-gt-ENTRIES) (few (goal.at.returns c).Else-count-gt-ENTRIES) c.if-records-lt-PLACES.false c.run_all-day.ensures refl
