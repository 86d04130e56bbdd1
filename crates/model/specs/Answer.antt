-- The call as a whole: from the input and the two lent areas to the answer and both areas after it. The call's promise cites `route`.
use Rattle.std.specs.Prelude.{List, [], ◌++◌, ℕ, zero, suc, length, drop, replicate}
use Rattle.model.specs.Framing.{frame}
use Rattle.model.specs.Stated.{Stated, stated, problem_of}
use Rattle.model.specs.Refusals.{refusal, work_words}
use Rattle.model.specs.Sheets.{route_sheet, no_route_sheet}
use Rattle.model.specs.Endings.{Ending, spent, no_route, routed, Engine, budgeted}

-- ---- The seven numbers

pub record Answer : Type 0 where
  pub number : ℕ
  pub cost : ℕ
  pub limit : ℕ
  pub floor : ℕ
  pub expansions : ℕ
  pub queries : ℕ
  pub sheet_bytes : ℕ

abbrev pub answer : (number cost limit floor expansions queries sheet_bytes : ℕ) → Answer
answer n c l f e q b =
    record { number = n; cost = c; limit = l; floor = f; expansions = e; queries = q; sheet_bytes = b }

-- the sheet: no bytes where none is written
unfoldable pub sheet_of : Ending → List ℕ
sheet_of (spent e) = []
sheet_of (no_route e) = no_route_sheet e.start
sheet_of (routed e) = route_sheet e.cost e.places

-- "Floor is 0 in every other answer. Cost is 0 after 17. Sheet bytes is the sheet's whole length, and 0 after 16."
unfoldable pub answer_of : Ending → Answer
answer_of (spent e) = answer 16 0 0 e.floor e.expansions e.queries 0
answer_of (no_route e) = answer 17 0 e.limit 0 e.expansions e.queries (length (no_route_sheet e.start))
answer_of (routed e) = answer 0 e.cost e.limit 0 e.expansions e.queries (length (route_sheet e.cost e.places))

-- ---- The call

-- what a call gives back and leaves in what it was lent
pub record Result : Type 0 where
  pub answer : Answer
  pub work : List ℕ
  pub sheet : List ℕ

-- `new` over the front of an area, the rest of which is unchanged
unfoldable pub over_front : List ℕ → List ℕ → List ℕ
over_front new area = new ++ drop (length new) area

-- "For 1 to 15, and for later refusals whose paper says nothing else, all but the first are 0, and input, work area and sheet area are unchanged."
unfoldable pub refused_with : ℕ → (work sheet : List ℕ) → Result
refused_with n work sheet = record { answer = answer n 0 0 0 0 0 0; work = work; sheet = sheet }

-- "After 0, 16 or 17 the first 16 × N + 2 × M work words are 0 and the rest unchanged. After 16 the sheet area is unchanged. After 0 and 17
-- bytes beyond the sheet are unchanged."
unfoldable pub ended_with : Ending → (words : ℕ) (work sheet : List ℕ) → Result
ended_with e words work sheet =
    record { answer = answer_of e; work = over_front (replicate words 0) work; sheet = over_front (sheet_of e) sheet }

unfoldable pub call_if : ℕ → Engine → Stated → (work sheet : List ℕ) → Result
call_if (suc n) engine s work sheet = refused_with (suc n) work sheet
call_if zero engine s work sheet = ended_with (engine (problem_of s) s.job.allowance) (work_words s.size) work sheet

-- A call with an engine: an input is judged, and an accepted one is searched.
unfoldable pub call : Engine → (input work sheet : List ℕ) → Result
call engine input work sheet =
    let f = frame input in
    call_if (refusal f (length work) (length sheet)) engine (stated f.records) work sheet

abbrev pub route : (input work sheet : List ℕ) → Result
route = call budgeted
