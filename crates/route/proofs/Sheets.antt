-- The sheet of a call is within its area, a reading has room for the places that it counts, and these are small. Assumes nothing.
use mathlib.Core.Path.{◌≡◌}
use mathlib.Core.List.{List, [], ◌∷◌}
use Prim.Native.Nat.{ℕ, zero, suc, ◌^◌, ◌≤◌, ◌<◌}
use native.Mathlib.Decide.{ℕ_discrete}
use native.Mathlib.Omega.{arith}
use lib.ListN.{length, get_or, length-append}
use lib.Seq.{take-append_seam}
use Rattle.model.specs.Bytes.{Bytes}
use Rattle.model.specs.Limits.{max_places}
use Rattle.model.specs.Sheets.{reading, refused_read, read_sheet}
use Rattle.model.specs.Stated.{Stated, problem_of}
use Rattle.model.specs.Endings.{Ending, spent, no_route, routed, Engine, budgeted}
use Rattle.model.specs.Answer.{sheet_of, answer_of, over_front, refused_with, ended_with, call_if, call}
use Rattle.model.proofs.Sheets.{accepted_route, accepted_no_route, refused_otherwise}
use Rattle.text.proofs.Lines.{Below}
use Rattle.route.specs.Printed.{places_on, answered}

-- the sheet bytes of a call are within the sheet area
ended_within : (e : Ending) (sheet : List ℕ) → (answer_of e).sheet_bytes ≤ length (over_front (sheet_of e) sheet)
unfolding sheet_of answer_of over_front
ended_within (spent e) sheet = omega arith
ended_within (no_route e) sheet = rw length-append (omega arith)
ended_within (routed e) sheet = rw length-append (omega arith)

call_within : (n : ℕ) (engine : Engine) (s : Stated) (work sheet : List ℕ)
    → (call_if n engine s work sheet).answer.sheet_bytes ≤ length (call_if n engine s work sheet).sheet
unfolding call_if refused_with ended_with
call_within zero engine s work sheet = ended_within (engine (problem_of s) s.job.allowance) sheet
call_within (suc n) engine s work sheet = omega arith

pub sheet_within : (input : List ℕ) → (answered input).answer.sheet_bytes ≤ length (answered input).sheet
unfolding answered call
sheet_within input = call_within _ budgeted _ _ _

-- a reading counts at most 4,096 places
pub few_read : (b : List ℕ) → Bytes b → (read_sheet b).count ≤ max_places
unfolding reading refused_read
few_read b bytes = go (ℕ_discrete (read_sheet b).number 0) (ℕ_discrete (read_sheet b).number 17)
  where
    go : Dec ((read_sheet b).number ≡ 0) → Dec ((read_sheet b).number ≡ 17) → (read_sheet b).count ≤ max_places
    go (yes e) t = let s = accepted_route b bytes e in rw s.read s.can_be.few_places_lem
    go (no x) (yes e) = let s = accepted_no_route b bytes e in rw s.read (omega arith)
    go (no x) (no y) = let s = refused_otherwise b x y in rw s.1 (omega arith)

-- where each of a list's numbers is below a bound, all are
all-below : (bound : ℕ) (xs : List ℕ) → ((i : ℕ) → i < length xs → get_or xs i 0 < bound) → Below bound xs
all-below bound [] h = tt
all-below bound (x ∷ xs) h = (h 0 (omega arith), all-below bound xs (λ i l. h (suc i) (omega arith)))

-- the places that any bytes say are numbers of 32 bits
pub places_small : (b : List ℕ) → Bytes b → Below (2 ^ 32) (places_on b)
unfolding reading refused_read places_on
places_small b bytes = go (ℕ_discrete (read_sheet b).number 0) (ℕ_discrete (read_sheet b).number 17)
  where
    go : Dec ((read_sheet b).number ≡ 0) → Dec ((read_sheet b).number ≡ 17) → Below (2 ^ 32) (places_on b)
    go (yes e) t =
        let s = accepted_route b bytes e in
        let same : places_on b ≡ s.places = rw s.read (take-append_seam s.places _) in
        rw same (all-below (2 ^ 32) s.places (λ i l. omega (arith, s.can_be.place_below i l)))
    go (no x) (yes e) = let s = accepted_no_route b bytes e in rw s.read (omega (arith, s.can_be), tt)
    go (no x) (no y) = let s = refused_otherwise b x y in rw s.1 tt
