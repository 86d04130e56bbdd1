-- What the steps of the call ask and leave: an input that passes is given room, loaded and searched; the verdict is concluded by its sheet, zeros and
-- numbers.
use Rattle.std.specs.Prelude as std
use Rattle.std.specs.Prelude.{◌≡◌, List, ℕ, ◌≤◌, length, Ok}
use Rattle.map.specs.Sizes.{size_of, words_of}
use Rattle.map.specs.Jobs.{States}
use Rattle.map.specs.declared.Job.{Job}
use Rattle.map.specs.declared.Site.{Site}
use Rattle.map.specs.declared.refusal.Refusal.{Refusal}
use Rattle.map.specs.Refusals.{refusal_number}
use Rattle.model.specs.Framing.{frame}
use Rattle.model.specs.Limits.{max_places, max_arcs}
use Rattle.model.specs.Refusals.{room_rows, first_that_holds, refusal, Accepted}
use Rattle.model.specs.Endings.{Ending}
use Rattle.model.specs.Answer as model
use Rattle.model.specs.Answer.{Result, answer, sheet_of, over_front, ended_with}
use Rattle.search.specs.Rounds.{Means}
use Rattle.search.specs.declared.Verdict.{Verdict}
use Rattle.search.specs.declared.Verdict.TheVariants.{Spent, NoRoute, Routed}
use Rattle.sheet_writer.specs.Write.{FitsNoRoute, FitsRoute}
use Rattle.answer.specs.Numbers.{answer_of}
use Rattle.answer.specs.declared.Answer.{Answer}

-- no condition of the input holds, nor one of what is lent, and the job is what it states
pub record HasRoom (input : List ℕ) (j : Job) (work sheet : List ℕ) : Type 0 where
  pub accepted : Accepted input (length work) (length sheet)
  pub states : States input j

-- the job of an accepted input and lent areas, or the refusal
pub record Ready (input : List ℕ) (words bytes : ℕ) (r : std.Result Job Refusal) : Type 0 where
  pub number : refusal_number r ≡ refusal (frame input) words bytes
  pub states : (j : Job) → r ≡ Ok j → States input j

-- the number that is given for too little room: 14, 15, or 0 for none
abbrev pub room_number : Site → (words bytes : ℕ) → ℕ
room_number s words bytes = first_that_holds (room_rows (size_of s) words bytes)

-- what the writer asks for the sheet of a verdict, if it has one
abbrev pub Writable : Site → Verdict → (work sheet : List ℕ) → Type 0
Writable s (Spent v) work sheet = Unit {0}
Writable s (NoRoute v) work sheet = FitsNoRoute sheet
Writable s (Routed v) work sheet = FitsRoute s.places v.goal work sheet

-- the sheet is that of the ending which the verdict means; the bytes beyond it are as before
pub record Written (s : Site) (v : Verdict) (work sheet₀ : List ℕ) (bytes : ℕ) (sheet : List ℕ) : Type 0 where
  pub sheet_bytes : (e : Ending) → Means s work v e → bytes ≡ length (sheet_of e)
  pub over_front_lem : (e : Ending) → Means s work v e → sheet ≡ over_front (sheet_of e) sheet₀

-- the seven numbers of a verdict whose sheet has so many bytes
abbrev pub numbers_of : Verdict → ℕ → model.Answer
numbers_of (Spent v) bytes = answer 16 0 0 v.floor v.expansions v.queries bytes
numbers_of (NoRoute v) bytes = answer 17 0 v.limit 0 v.expansions v.queries bytes
numbers_of (Routed v) bytes = answer 0 v.cost v.limit 0 v.expansions v.queries bytes

-- what concluding asks
pub record Concludable (s : Site) (v : Verdict) (work sheet : List ℕ) : Type 0 where
  pub writable : Writable s v work sheet
  pub few : s.places ≤ max_places
  pub few_arcs : s.arcs ≤ max_arcs
  pub room : words_of s ≤ length work

-- the result is that of a search which ended as the verdict means
pub record Concluded (s : Site) (v : Verdict) (work₀ sheet₀ : List ℕ) (r : Answer) (work sheet : List ℕ) : Type 0 where
  pub result : (e : Ending) → Means s work₀ v e
      → ◌≡◌ {A = Result} (record { answer = answer_of r; work = work; sheet = sheet }) (ended_with e (words_of s) work₀ sheet₀)
