-- What entries come to is within bounds, and each comes to what it would come to alone. Assumes nothing.
use mathlib.Core.Path.{◌≡◌, refl, sym, ap, ◌∙◌}
use mathlib.Core.Logic.{◌⊎◌, inl, inr}
use mathlib.Core.Bool.{Bool, true, false, cond}
use mathlib.Core.List.Memᴰ
use mathlib.Core.List.{List, [], ◌∷◌, Memᴰ}
use Prim.Native.Nat.{ℕ, zero, suc, ◌+◌, ◌-◌, ◌*◌, ◌≤◌, ◌<◌}
use native.Mathlib.Omega.{arith}
use lib.Dec.{leb}
use lib.ListN.{length, get_or, take, replicate, length-append, length-take, length-drop, length-replicate, get_or-append}
use lib.Seq.{get_or-take}
use borrow.Author.Tests.{ltb-false, leb-false}
use Rattle.model.specs.Lists.{any, below}
use Rattle.model.specs.Bytes.{Bytes, u16, put16, put32, put16s}
use Rattle.model.specs.Framing.{Framed, frame, put_record}
use Rattle.model.specs.Limits.{max_places}
use Rattle.model.specs.Problem.{Problem, Valid}
use Rattle.model.specs.Paths.{stay, on, places, PathTo}
use Rattle.model.specs.Costs.{table}
use Rattle.model.specs.Rounds.{never_spent}
use Rattle.model.specs.Routes.{first_route}
use Rattle.model.specs.Stated.{Stated, stated_in, problem_of}
use Rattle.model.specs.Refusals.{Row, first_that_holds, refusal, rows, input_rows, form_rows, size_rows, map_rows, factor_rows, cost_rows, job_rows, room_rows}
use Rattle.model.specs.Refusals.{holds_at, work_words, sheet_bytes, short_work, short_sheet, Accepted}
use Rattle.model.specs.Sheets.{route_sheet, no_route_sheet, reading}
use Rattle.model.specs.Endings.{Ending, budgeted}
use Rattle.model.specs.Answer.{Result, answer, sheet_of, over_front, refused_with, ended_with, call_if, call, route}
use Rattle.model.specs.Calls.{Call, result, problem, IsAccepted, written, Alike}
use Rattle.model.proofs.Lists.{neither, below-member, below_length, different_among}
use Rattle.model.proofs.Bytes.{u16_put16, u16_behind}
use Rattle.model.proofs.Indices.{different_repeats}
use Rattle.model.proofs.Rows.{row_fails, rows_numbered}
use Rattle.model.proofs.Acceptance.{accepted_valid, states_growth}
use Rattle.model.proofs.Total.{total_at_most, never_spent_at_2}
use Rattle.model.proofs.LeastPaths.{route_within}
use Rattle.model.proofs.Sheets.{Possible, route-length}
use Rattle.model.proofs.RouteSheets.{route_possible}
use Rattle.model.proofs.Endings.{Ends, spent_ends, none_ends, route_ends, IsRouted, budgeted_ends}
use Rattle.model.proofs.Promises.{EndsAs, comes, valid, ends, refusal_of, lengths_decide, spent_answer, none-answer, route_answer, places_of, route_sheet_is}
use Rattle.model.proofs.Promises.{route_by_number, expansions_at_most, route_reads_back}
use Rattle.jobs.specs.Entries.{Entry, alone, refused}
use Rattle.jobs.specs.Figures.{result_of, results, goal_of}
use Rattle.jobs.specs.Report.{numbers}
use Rattle.jobs.specs.Steps.{last_on}
use Rattle.jobs.proofs.Bounded.{Sound, max_route, max_expansions, Bounded}

-- ---- Refused

-- a refusal has a number other than 0, and zeros
refused_below : (number : ℕ) (work sheet : List ℕ) → 1 ≤ number → number < numbers → Bounded (refused_with number work sheet)
unfolding refused_with
refused_below number work sheet some small =
    record {
      number = small;
      cost = omega arith;
      expansions = λ h. omega arith;
      goal = λ e. absurd (omega arith);
      some_place = λ e. absurd (omega arith);
      sheet_there = λ e. absurd (omega arith);
      last = λ e. absurd (omega arith);
    }

-- What is refused as a map or a job is within the bounds.
pub refused_bounded : (number : ℕ) (work sheet : List ℕ) → 1 ≤ number → number ≤ 15 → Bounded (refused_with number work sheet)
refused_bounded number work sheet some few = refused_below number work sheet some (omega arith)

-- where all rows' numbers are below m, so is the one that is given
given_below : (m : ℕ) (rs : List Row) → 0 < m → any (λ (r : Row). leb m r.number) rs ≡ false → first_that_holds rs < m
unfolding any first_that_holds
given_below m [] some small = some
given_below m (r ∷ rs) some small =
    let own = neither (leb m r.number) _ small in
    go r.holds (leb-false m r.number own.0) (given_below m rs some own.1)
  where
    go : (t : Bool) → r.number < m → first_that_holds rs < m → cond t r.number (first_that_holds rs) < m
    go true here later = here
    go false here later = later

-- every refusal's number is one of the papers'
refusal_below : (f : Framed) (words bytes : ℕ) → refusal f words bytes < numbers
unfolding refusal rows input_rows form_rows size_rows map_rows factor_rows cost_rows job_rows room_rows any
refusal_below f words bytes = given_below numbers (rows f words bytes) (omega arith) refl

-- ---- A route's sheet

-- field k holds number k
field_at : (xs : List ℕ) (k : ℕ) → k < length xs → get_or xs k 0 < 65536 → u16 (put16s xs) (2 * k) ≡ get_or xs k 0
unfolding put16 put16s
field_at [] k l h = absurd (omega arith)
field_at (x ∷ xs) zero l h = u16_put16 [] x (put16s xs) h
field_at (x ∷ xs) (suc k) l h =
    let behind : 2 * suc k ≡ 2 + 2 * k = omega arith in
    rw (behind, u16_behind (put16 x) (put16s xs) (2 * k)) (field_at xs k (omega arith) h)

-- place k stands behind the 10 bytes of the header and 2 for each place before it
place_at : (cost : ℕ) (r : List ℕ) (k : ℕ) → k < length r → get_or r k 0 < 65536 → u16 (route_sheet cost r) (10 + 2 * k) ≡ get_or r k 0
unfolding route_sheet put_record put16 put32
place_at cost r k l h = u16_behind (take 10 (route_sheet cost r)) (put16s r) (2 * k) ∙ field_at r k l h

-- a field of a front is one of the whole
field_in_front : (n : ℕ) (b : List ℕ) (i : ℕ) → i + 2 ≤ n → u16 (take n b) i ≡ u16 b i
unfolding u16
field_in_front n b i h = rw (get_or-take n b i 0 (omega arith), get_or-take n b (i + 1) 0 (omega arith))

-- ---- Accepted

-- a call that ended with a route
module _ {p : Problem} {a : ℕ} {e : Ending} {r : Result} (k : EndsAs e r) (ok : Valid p) (f : IsRouted p a e) where
  route_can_be : Possible r.answer.cost (places_of k f)
  route_can_be = rw (route_answer k f) (route_possible p ok f.last.limit f.goal f.is_first)

  route_cost : r.answer.cost ≤ max_route
  route_cost = omega (arith, route_can_be.cost_below, route_can_be.few_places_lem)

  -- the goal is the last place
  goal_is : goal_of r ≡ get_or (places_of k f) (length (places_of k f) - 1) 0
  unfolding goal_of reading
  goal_is = rw (route_reads_back k ok f) (get_or-append (places_of k f) _ 0 _ (omega (arith, route_can_be.some_place)))

  goal_below : goal_of r < max_places
  goal_below = rw goal_is (route_can_be.place_below _ (omega (arith, route_can_be.some_place)))

  route_bytes : r.answer.sheet_bytes ≡ 10 + 2 * length (places_of k f)
  route_bytes = rw (route_answer k f) (route-length f.goal.cost (places_of k f))

  route_there : r.answer.sheet_bytes ≤ length r.sheet
  route_there =
      let whole : length (written r) ≡ 10 + 2 * length (places_of k f) =
      ap length (route_sheet_is k f) ∙ route-length r.answer.cost (places_of k f) in
      omega (arith, length-take r.answer.sheet_bytes r.sheet, route_bytes)

  -- the last two bytes of the sheet hold the goal
  last_is_goal : last_on r.sheet r.answer.sheet_bytes ≡ goal_of r
  unfolding last_on
  last_is_goal =
      let places = places_of k f in
      let some_place = route_can_be.some_place in
      let bytes = route_bytes in
      let behind : r.answer.sheet_bytes - 2 ≡ 10 + 2 * (length places - 1) = omega arith in
      let small : get_or places (length places - 1) 0 < 65536 = omega (arith, route_can_be.place_below (length places - 1) (omega arith)) in
      sym (field_in_front r.answer.sheet_bytes r.sheet (r.answer.sheet_bytes - 2) (omega arith))
      ∙ rw (route_sheet_is k f, behind, goal_is) (place_at r.answer.cost places (length places - 1) (omega arith) small)

-- a call that ended in any way
module _ {p : Problem} {a : ℕ} {e : Ending} {r : Result} (k : EndsAs e r) where
  any_cost : Valid p → Ends p a e → r.answer.cost ≤ max_route
  any_cost ok (spent_ends s) = rw (spent_answer k s) (omega arith)
  any_cost ok (none_ends n) = rw (none-answer k n) (omega arith)
  any_cost ok (route_ends f) = route_cost k ok f

  any_number : Ends p a e → r.answer.number < numbers
  any_number (spent_ends s) = rw (spent_answer k s) (omega arith)
  any_number (none_ends n) = rw (none-answer k n) (omega arith)
  any_number (route_ends f) = rw (route_answer k f) (omega arith)

-- an accepted call expands at most 236 times as many as its map has places
any_expansions : (c : Call) → IsAccepted c → (result c).answer.expansions ≤ max_expansions
unfolding problem_of
any_expansions c A =
    let p = problem c in
    let ok = valid c A in
    let most : never_spent p ≡ 236 * p.places = never_spent_at_2 p (states_growth (frame c.input).records) in
    omega (arith, expansions_at_most (comes c A) (ends c A), total_at_most p ok, most, ok.few_places_lem)

accepted_bounded : (c : Call) → IsAccepted c → Bounded (result c)
accepted_bounded c A =
    let k = comes c A in
    let e = ends c A in
    let ok = valid c A in
    record {
      number = any_number k e;
      cost = any_cost k ok e;
      expansions = λ h. any_expansions c A;
      goal = λ n. goal_below k ok (route_by_number k e n);
      some_place = λ n. omega (arith, route_bytes k ok (route_by_number k e n));
      sheet_there = λ n. route_there k ok (route_by_number k e n);
      last = λ n. last_is_goal k ok (route_by_number k e n);
    }

-- What a call comes to is within the bounds.
pub route_bounded : (input work sheet : List ℕ) → Bytes input → Bounded (route input work sheet)
unfolding call call_if
route_bounded input work sheet B = go (refusal_of c) refl
  where
    c : Call
    c = record { input = input; work = work; sheet = sheet; bytes = B }

    go : (n : ℕ) → refusal_of c ≡ n → Bounded (result c)
    go zero e = accepted_bounded c e
    go (suc n) e = rw e (refused_below (suc n) work sheet (omega arith) (omega (arith, refusal_below (frame input) (length work) (length sheet))))

entry_bounded : (e : Entry) → Sound e → (work sheet : List ℕ) → Bounded (result_of e work sheet)
unfolding result_of
entry_bounded (alone input) B work sheet = route_bounded input work sheet B
entry_bounded (refused number) (some, few) work sheet = refused_bounded number work sheet some few

-- All that sound entries come to is within the bounds.
pub results_bounded : (es : List Entry) → ((e : Entry) → Memᴰ e es → Sound e) → (work sheet : List ℕ) → (r : Result)
    → Memᴰ r (results es work sheet) → Bounded r
unfolding results
results_bounded [] sound work sheet r i = absurd (Memᴰ.not-nil i)
results_bounded (e ∷ es) sound work sheet r i =
    go (results_bounded es (λ f j. sound f (Memᴰ.tail j)) first.work first.sheet r) (Memᴰ.cases_cons i)
  where
    first : Result
    first = result_of e work sheet

    go : (Memᴰ r (results es first.work first.sheet) → Bounded r) → (r ≡ first) ⊎ Memᴰ r (results es first.work first.sheet)
        → Bounded r
    go later (inl is) = rw is (entry_bounded e (sound e (Memᴰ.head refl)) work sheet)
    go later (inr j) = later j

-- ---- The lent areas

module _ {p : Problem} (ok : Valid p) where
  -- a path goes along places of the map
  path_below : {v d : ℕ} (w : PathTo p v d) (x : ℕ) → Memᴰ x (places w) → x < p.places
  unfolding places
  path_below stay x i = rw (Memᴰ.eq_of_singleton i) ok.start_below
  path_below (on a j w) x i = go (λ m. path_below w x m) (Memᴰ.append_cases (places w) i)
    where
      go : (Memᴰ x (places w) → x < p.places) → Memᴰ x (places w) ⊎ Memᴰ x (a.to ∷ []) → x < p.places
      go before (inl m) = before m
      go before (inr m) = rw (Memᴰ.eq_of_singleton m) (ok.arc_to a j)

  -- a route has at most as many places as the map
  route_few : {a : ℕ} {e : Ending} (f : IsRouted p a e) → length (first_route p (table p f.last.limit) f.goal) ≤ p.places
  route_few f =
      let C = f.last.limit in
      let r = first_route p (table p C) f.goal in
      let way = (route_within p ok C f.goal f.is_first).first.member.member.route in
      let once = different_repeats r (route_possible p ok C f.goal f.is_first).different in
      let inside : (x : ℕ) → Memᴰ x r → Memᴰ x (below p.places) =
      λ x i. (below-member p.places x).1 (path_below way.path x (rw way.in_order i)) in
      omega (arith, different_among r (below p.places) once inside, below_length p.places)

  -- so the sheet of every ending has room in 10 bytes and 2 for each place of the map
  sheet_fits : {a : ℕ} {e : Ending} → Ends p a e → length (sheet_of e) ≤ 10 + 2 * p.places
  unfolding sheet_of no_route_sheet put_record put16
  sheet_fits (spent_ends s) = rw s.is (omega arith)
  sheet_fits (none_ends n) = rw n.is (omega arith)
  sheet_fits (route_ends f) =
      let few = route_few f in
      rw f.is (omega (arith, route-length f.goal.cost (first_route p (table p f.last.limit) f.goal)))

-- an area keeps its length when as much as it has room for is written over its front
over-length : (new area : List ℕ) → length new ≤ length area → length (over_front new area) ≡ length area
unfolding over_front
over-length new area room = simp (length-append, length-drop) (omega arith)

-- the areas of an accepted call have the room that 14 and 15 ask for
module _ (input : List ℕ) (words bytes : ℕ) (A : Accepted input words bytes) where
  enough_words : work_words (stated_in input).size ≤ words
  unfolding rows input_rows form_rows size_rows map_rows factor_rows cost_rows job_rows room_rows holds_at refusal short_work
  enough_words = ltb-false _ _ (row_fails (rows (frame input) words bytes) (rows_numbered (frame input) words bytes) A 14)

  enough_bytes : sheet_bytes (stated_in input).size ≤ bytes
  unfolding rows input_rows form_rows size_rows map_rows factor_rows cost_rows job_rows room_rows holds_at refusal short_sheet
  enough_bytes = ltb-false _ _ (row_fails (rows (frame input) words bytes) (rows_numbered (frame input) words bytes) A 15)

-- A call keeps the lengths of the areas that it is lent.
pub areas_keep : (input work sheet : List ℕ)
    → (length (route input work sheet).work ≡ length work) × (length (route input work sheet).sheet ≡ length sheet)
unfolding call call_if refused_with ended_with problem_of
areas_keep input work sheet = go (refusal (frame input) (length work) (length sheet)) refl
  where
    s : Stated
    s = stated_in input

    e : Ending
    e = budgeted (problem_of s) s.job.allowance

    go : (n : ℕ) → refusal (frame input) (length work) (length sheet) ≡ n → let r = call_if n budgeted s work sheet in
        (length r.work ≡ length work) × (length r.sheet ≡ length sheet)
    go zero A =
        let ok = accepted_valid input (length work) (length sheet) A in
        let fits : length (sheet_of e) ≤ length sheet =
        omega (arith, sheet_fits ok (budgeted_ends (problem_of s) s.job.allowance ok), enough_bytes input (length work) (length sheet) A) in
        let zeros : List ℕ = replicate (work_words s.size) 0 in
        let clears : length zeros ≤ length work = rw length-replicate (enough_words input (length work) (length sheet) A) in
        (over-length zeros work clears, over-length (sheet_of e) sheet fits)
    go (suc n) A = (refl, refl)

-- ---- As if alone

-- every entry keeps the lengths of the areas too
entry_keeps : (e : Entry) (work sheet : List ℕ)
    → (length (result_of e work sheet).work ≡ length work) × (length (result_of e work sheet).sheet ≡ length sheet)
unfolding result_of refused_with
entry_keeps (alone input) work sheet = areas_keep input work sheet
entry_keeps (refused number) work sheet = (refl, refl)

-- Each entry has one result.
pub results-length : (es : List Entry) (work sheet : List ℕ) → length (results es work sheet) ≡ length es
unfolding results
results-length [] work sheet = refl
results-length (e ∷ es) work sheet = ap suc (results-length es (result_of e work sheet).work (result_of e work sheet).sheet)

module _ (i : List ℕ) (work₀ sheet₀ : List ℕ) where
  -- a job among entries that are run with areas of these lengths, whatever they hold
  alone_among : (es : List Entry) (work sheet : List ℕ) → length work ≡ length work₀ → length sheet ≡ length sheet₀
      → ((e : Entry) → Memᴰ e es → Sound e) → (k : ℕ) → k < length es → get_or es k (refused 0) ≡ alone i
      → Alike (get_or (results es work sheet) k (route i work₀ sheet₀)) (route i work₀ sheet₀)
  unfolding results result_of
  alone_among [] work sheet words bytes sound k l is = absurd (omega arith)
  alone_among (e ∷ es) work sheet words bytes sound zero l is =
      let B : Bytes i = rw is at (sound e (Memᴰ.head refl)) in
      rw is (lengths_decide i B work work₀ sheet sheet₀ words bytes)
  alone_among (e ∷ es) work sheet words bytes sound (suc k) l is =
      let (same-words, same_bytes) = entry_keeps e work sheet in
      alone_among es (result_of e work sheet).work (result_of e work sheet).sheet (same-words ∙ words) (same_bytes ∙ bytes)
      (λ f j. sound f (Memᴰ.tail j)) k (omega arith) is

-- Whatever ran before it, a job comes to what it comes to alone with the areas as they were lent.
pub each_alone : (es : List Entry) (work sheet : List ℕ) → ((e : Entry) → Memᴰ e es → Sound e) → (k : ℕ) (i : List ℕ)
    → k < length es → get_or es k (refused 0) ≡ alone i → Alike (get_or (results es work sheet) k (route i work sheet)) (route i work sheet)
each_alone es work sheet sound k i l is = alone_among i work sheet es work sheet refl refl sound k l is

-- What is refused unrun has its number and zeros.
pub each_refused : (d : Result) (es : List Entry) (work sheet : List ℕ) (k n : ℕ) → k < length es → get_or es k (refused 0) ≡ refused n
    → (get_or (results es work sheet) k d).answer ≡ answer n 0 0 0 0 0 0
unfolding results result_of refused_with
each_refused d [] work sheet k n l is = absurd (omega arith)
each_refused d (e ∷ es) work sheet zero n l is = rw is refl
each_refused d (e ∷ es) work sheet (suc k) n l is =
    each_refused d es (result_of e work sheet).work (result_of e work sheet).sheet k n (omega arith) is
