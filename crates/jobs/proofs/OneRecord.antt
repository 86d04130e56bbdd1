-- Running one record behind the map: a job is put behind the map in the buffer, and anything else is refused. Assumes nothing.
use mathlib.Core.Path.{◌≡◌, refl, ap, ◌∙◌}
use mathlib.Core.List.{List, ◌++◌, append_assoc}
use Prim.Native.Nat.{ℕ, ◌+◌, ◌-◌, ◌≤◌}
use native.Mathlib.Omega.{arith}
use lib.ListN.{length, take, drop, length-append}
use lib.Seq.{sets, sets-eq, length-sets, length-take-le, take_at}
use borrow.Author.Tests.{eq-eqb, ne_eqb}
use Rattle.model.specs.Answer.{answer, refused_with}
use Rattle.model.specs.Items.{job_kind}
use Rattle.area.proofs.Parts.{part_length}
use Rattle.map.specs.declared.record.Record.{Record}
use Rattle.map.specs.Records.{record_in}
use Rattle.answer.specs.declared.Answer.{Answer}
use Rattle.answer.specs.Numbers.{answer_of}
use Rattle.router.specs.Call.{Routed}
use Rattle.jobs.specs.Entries.{entry_of}
use Rattle.jobs.specs.Figures.{result_of}
use Rattle.jobs.specs.Report.{max_input}
use Rattle.jobs.specs.Steps.{Runnable, bytes_in, RecordRun}
use Rattle.jobs.proofs.EntryLaws.{job_by_kind}

-- where a record ends that is put behind a map of so many bytes
abbrev pub put_end : (map : ℕ) → Record → ℕ
put_end map r = map + (r.end - (r.start - 4))

module _ {input : List ℕ} {map : ℕ} {r : Record} {buffer₀ : List ℕ} (can : Runnable input map r buffer₀) where
  -- the record has the bytes of its header and of its body
  bytes_length : length (bytes_in input r) ≡ r.end - (r.start - 4)
  bytes_length = part_length (r.start - 4) r.end input can.lies.ends

  -- behind the map the buffer has room for them
  pub bytes_fit : map + length (bytes_in input r) ≤ length buffer₀
  bytes_fit = omega (arith, bytes_length)

  -- what is no job is refused, and nothing lent changes
  pub other_run : {work sheet : List ℕ} {a : Answer} → (r.kind ≡ job_kind → ⊥) → answer_of a ≡ answer 10 0 0 0 0 0 0
      → RecordRun input map r buffer₀ work sheet a buffer₀ work sheet
  unfolding entry_of result_of refused_with
  other_run not-job is =
      record { result = rw (job_by_kind (record_in input r), ne_eqb r.kind job_kind not-job, is); map_stays = refl; room = can.room }

  -- the job's bytes stand behind the map
  module _ {buffer : List ℕ} (put : buffer ≡ sets buffer₀ map (bytes_in input r)) where
    map_length : length (take map buffer₀) ≡ map
    map_length = length-take-le map buffer₀ (omega (arith, bytes_fit))

    buffer_length : length buffer ≡ max_input
    buffer_length = rw (put, length-sets) can.room

    buffer_is : buffer ≡ take map buffer₀ ++ bytes_in input r ++ drop (map + length (bytes_in input r)) buffer₀
    buffer_is = put ∙ sets-eq (bytes_in input r) buffer₀ map bytes_fit

    front_length : length (take map buffer₀ ++ bytes_in input r) ≡ put_end map r
    front_length = rw length-append (omega (arith, map_length, bytes_length))

    -- so the map with the job is the buffer's front
    front_is : take (put_end map r) buffer ≡ take map buffer₀ ++ bytes_in input r
    front_is = rw buffer_is (take_at (take map buffer₀ ++ bytes_in input r) _ _ front_length)

    pub whole_front : length (take (put_end map r) buffer) ≡ put_end map r
    whole_front = rw front_is front_length

    map_is : take map buffer ≡ take map buffer₀
    map_is = ap (take map) buffer_is ∙ rw append_assoc (take_at (take map buffer₀) _ map map_length)

    -- a job comes to what it does alone with the map
    pub job_run : {work₀ sheet₀ work sheet : List ℕ} {a : Answer} → r.kind ≡ job_kind
        → Routed (take (put_end map r) buffer) work₀ sheet₀ a work sheet
        → RecordRun input map r buffer₀ work₀ sheet₀ a buffer work sheet
    unfolding entry_of result_of
    job_run job routed =
        record {
          result = rw (job_by_kind (record_in input r), eq-eqb r.kind job_kind job, ← front_is) routed.result;
          map_stays = map_is;
          room = buffer_length;
        }
