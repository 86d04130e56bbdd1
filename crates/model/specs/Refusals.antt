-- Document 01, "Turned down, by who can cause it", with document 02's own numbers: each condition beside the paper's words, in groups, and the
-- number that is given.
use Rattle.std.specs.Prelude.{◌≡◌, Bool, false, cond, not, ◌||◌, List, [], ◌∷◌, ◌++◌, map, ℕ, zero, suc, ◌+◌, ◌*◌, ltb, leb, eqb, length}
use Rattle.model.specs.Lists.{any, filter_map, is_given, repeats, rises, falls}
use Rattle.model.specs.Framing.{Record, Framed, frame}
use Rattle.model.specs.Limits.{max_places, max_arcs, max_cost, max_estimate, max_goals, max_length, max_class, max_factor}
use Rattle.model.specs.Items.{Size, Charge, flat, measured, Lane, PlaceValue, Item, body_length, misfits, items, size_in, job_in, factors_in}
use Rattle.model.specs.Stated.{Stated, stated, lookup, arc_of}

-- ---- Form: what records there are

-- 2: "a kind other than 1 to 4", and document 02: "2 and 3 follow each new kind"
unfoldable pub unknown_kind : List Item → Bool
unknown_kind is = any (λ (i : Item). not (is_given (body_length i))) is

-- 3: "a body length that its kind doesn't have"
unfoldable pub wrong_length : List Record → Bool
wrong_length rs = any misfits rs

unfoldable pub begins_with_head : List Item → Bool
begins_with_head [] = false
begins_with_head (i ∷ is) = is_given (size_in i)

-- 4: "the first record isn't a head (empty input too), or a second head"
unfoldable pub wrong_head : List Item → Bool
wrong_head is = not (begins_with_head is) || ltb 1 (length (filter_map size_in is))

-- ---- Size

-- 5: "N or M out of range, or M isn't the number of arc records"
unfoldable pub wrong_size : Stated → Bool
wrong_size s =
    let n = s.size.places in
    let m = s.size.arcs in
    ltb n 1 || ltb max_places n || ltb max_arcs m || not (eqb m (length s.lanes))

-- ---- Map

-- the places that numbers are given for
abbrev pub places_in : List PlaceValue → List ℕ
places_in xs = map (λ (x : PlaceValue). x.place) xs

-- one of them is n or above
abbrev pub names_outside : ℕ → List PlaceValue → Bool
names_outside n xs = any (λ (x : PlaceValue). leb n x.place) xs

-- 6: "an arc or estimate names a place of N or above"; document 02, paper 5, of a wait: "A place of N or above is still 6."
unfoldable pub outside_map : Stated → Bool
outside_map s =
    let n = s.size.places in
    any (λ (l : Lane). leb n l.from || leb n l.to) s.lanes
    || names_outside n s.estimates
    || names_outside n s.waits

unfoldable pub is_free : Charge → Bool
is_free (flat cost) = eqb cost 0
is_free (measured length class) = false

-- 7: "an arc of cost 0"; "7 stays with kind 2"
unfoldable pub free_arc : Stated → Bool
free_arc s = any (λ (l : Lane). is_free l.charge) s.lanes

-- 8: "an estimate above 268,435,455"; document 02, paper 8, of a default: "Too large is 8"
unfoldable pub large_estimate : Stated → Bool
large_estimate s = any (λ (e : PlaceValue). ltb max_estimate e.value) s.estimates || any (ltb max_estimate) s.defaults

-- 9: "two estimates for one place"; of a default: "a second record is 9"
unfoldable pub two_estimates : Stated → Bool
two_estimates s = repeats (places_in s.estimates) || ltb 1 (length s.defaults)

unfoldable pub mismeasured : Charge → Bool
mismeasured (flat cost) = false
mismeasured (measured length class) = ltb length 1 || ltb max_length length || ltb max_class class

-- 20: "a kind 5 record with a length or class out of range"
unfoldable pub wrong_measure : Stated → Bool
wrong_measure s = any (λ (l : Lane). mismeasured l.charge) s.lanes

-- ---- Factors

-- "Each must be 1 to 16, and none smaller than the one before."
unfoldable pub breaks_rules : List ℕ → Bool
breaks_rules factors = any (λ (f : ℕ). ltb f 1 || ltb max_factor f) factors || falls factors

-- 22: "A second such record or a factor breaking these rules"
unfoldable pub wrong_factors : List Item → Bool
wrong_factors is =
    let tables = filter_map factors_in is in
    ltb 1 (length tables) || any breaks_rules tables

-- ---- Costs

-- 21: "Two waits for one place, or an arc whose cost with its wait exceeds 65,535"
unfoldable pub wrong_wait : Stated → Bool
wrong_wait s = repeats (places_in s.waits) || any (λ (l : Lane). ltb max_cost (arc_of s l).cost) s.lanes

-- ---- Job

unfoldable pub ends_with_job : List Item → Bool
ends_with_job [] = false
ends_with_job (i ∷ []) = is_given (job_in i)
ends_with_job (i ∷ j ∷ is) = ends_with_job (j ∷ is)

-- 10: "not exactly one job, or it isn't last"
unfoldable pub wrong_job : List Item → Bool
wrong_job is = not (eqb (length (filter_map job_in is)) 1) || not (ends_with_job is)

-- 11: "start or a goal is N or above"
unfoldable pub job_outside_map : Stated → Bool
job_outside_map s =
    let n = s.size.places in
    leb n s.job.start || any (leb n) s.job.goals

-- 12: "k is 0 or above 64, or goals don't rise strictly"
unfoldable pub wrong_goals : Stated → Bool
wrong_goals s =
    let k = length s.job.goals in
    ltb k 1 || ltb max_goals k || not (rises s.job.goals)

-- 13: "a goal has an estimate other than 0", which is one of its own, since of a default goals are excepted
unfoldable pub goal_estimate : Stated → Bool
goal_estimate s = any (λ (g : ℕ). not (eqb (lookup 0 s.estimates g) 0)) s.job.goals

-- ---- Room

-- what the work area must hold, in words, and what is zero after a search
abbrev pub work_words : Size → ℕ
work_words s = 16 * s.places + 2 * s.arcs

-- what the sheet area must hold, in bytes
abbrev pub sheet_bytes : Size → ℕ
sheet_bytes s = 10 + 2 * s.places

-- 14: "work area under 16 × N + 2 × M words of 32 bits"
unfoldable pub short_work : Size → ℕ → Bool
short_work s words = ltb words (work_words s)

-- 15: "sheet area under 10 + 2 × N bytes"
unfoldable pub short_sheet : Size → ℕ → Bool
short_sheet s bytes = ltb bytes (sheet_bytes s)

-- ---- The conditions in the order in which they are looked for

pub record Row : Type 0 where
  pub number : ℕ
  pub holds : Bool

abbrev pub row : ℕ → Bool → Row
row n b = record { number = n; holds = b }

-- 1: "one to three bytes are left where a record should begin, or a body runs past the end"
unfoldable pub form_rows : Framed → List Row
form_rows f =
    row 1 f.broken
    ∷ row 2 (unknown_kind (items f.records))
    ∷ row 3 (wrong_length f.records)
    ∷ row 4 (wrong_head (items f.records))
    ∷ []

unfoldable pub size_rows : Stated → List Row
size_rows s = row 5 (wrong_size s) ∷ []

unfoldable pub map_rows : Stated → List Row
map_rows s = row 6 (outside_map s) ∷ row 7 (free_arc s) ∷ row 8 (large_estimate s) ∷ row 9 (two_estimates s) ∷ row 20 (wrong_measure s) ∷ []

-- "after 20 and before 21"
unfoldable pub factor_rows : List Item → List Row
factor_rows is = row 22 (wrong_factors is) ∷ []

-- "after 20 and before 10"
unfoldable pub cost_rows : Stated → List Row
cost_rows s = row 21 (wrong_wait s) ∷ []

unfoldable pub job_rows : List Item → Stated → List Row
job_rows is s = row 10 (wrong_job is) ∷ row 11 (job_outside_map s) ∷ row 12 (wrong_goals s) ∷ row 13 (goal_estimate s) ∷ []

-- of an input, whatever is lent
unfoldable pub input_rows : Framed → List Row
input_rows f =
    let is = items f.records in
    let s = stated f.records in
    form_rows f ++ (size_rows s ++ (map_rows s ++ (factor_rows is ++ (cost_rows s ++ job_rows is s))))

-- of what is lent to a route
unfoldable pub room_rows : Size → (words bytes : ℕ) → List Row
room_rows s words bytes = row 14 (short_work s words) ∷ row 15 (short_sheet s bytes) ∷ []

unfoldable pub rows : Framed → (words bytes : ℕ) → List Row
rows f words bytes = input_rows f ++ room_rows (stated f.records).size words bytes

-- the number of the first row that holds, 0 where none does
unfoldable pub first_that_holds : List Row → ℕ
first_that_holds [] = 0
first_that_holds (r ∷ rs) = cond r.holds r.number (first_that_holds rs)

-- "The lowest number whose condition holds is given, and none otherwise"; document 02 puts its own between these. 0 is acceptance.
unfoldable pub refusal : Framed → (words bytes : ℕ) → ℕ
refusal f words bytes = first_that_holds (rows f words bytes)

-- the number that the input alone is given
unfoldable pub input_refusal : Framed → ℕ
input_refusal f = first_that_holds (input_rows f)

-- of two groups' numbers the one that is given: the second's where the first has none
unfoldable pub first_of : ℕ → ℕ → ℕ
first_of zero n = n
first_of (suc m) n = suc m

-- whether the row of this number holds
unfoldable pub holds_at : ℕ → List Row → Bool
holds_at n [] = false
holds_at n (r ∷ rs) = cond (eqb r.number n) r.holds (holds_at n rs)

-- A job is accepted when no condition holds of its input and of the lengths of the lent areas.
abbrev pub Accepted : List ℕ → ℕ → ℕ → Type 0
Accepted input words bytes = refusal (frame input) words bytes ≡ 0
