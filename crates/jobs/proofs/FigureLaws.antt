-- The figures of a day and its tallies: with no result, with one more, how large they can be, and what they add up to. Assumes nothing.
use mathlib.Core.Path.{◌≡◌, refl, sym, ◌∙◌, ap}
use mathlib.Core.Logic.{◌⊎◌, inl, inr}
use mathlib.Core.Bool.{Bool, true, false, cond, ◌||◌}
use mathlib.Core.List.Memᴰ
use mathlib.Core.List.{List, [], ◌∷◌, ◌++◌, map, append-nil, map-append, Memᴰ}
use Prim.Native.Nat.{ℕ, ◌+◌, ◌*◌, ◌≤◌, ◌<◌, max}
use native.Mathlib.Nat.{suc-mul}
use native.Mathlib.Omega.{arith}
use lib.Dec.{eqb}
use lib.ListN.{length, get_or, replicate, length-append, length-map}
use borrow.Author.Tests.{eqb-true}
use Rattle.model.specs.Answer.{Result}
use Rattle.model.specs.Limits.{max_places}
use Rattle.model.specs.Lists.{filter, below}
use Rattle.model.specs.Sums.{sum_below, sum_over}
use Rattle.model.proofs.Lists.{filter-member, filter-append, filter-length}
use Rattle.model.proofs.Sums.{over_snoc}
use Rattle.tally.specs.Tallied.{record_at}
use Rattle.jobs.specs.declared.Status.TheVariants.{Reported}
use Rattle.jobs.specs.Figures.{has_number, count, Arrival, goal_of, arrival_of, arrivals, total_cost, largest_cost, ending_at, total_expansions}
use Rattle.jobs.specs.Report.{max_entries, numbers, figures, without, tally_of}
use Rattle.jobs.specs.Steps.{noted, Notable, routes_by, costs_by, raised, Addable, last_on, routes_with, costs_with}
use Rattle.jobs.specs.Steps.{Talliable}
use Rattle.jobs.proofs.Bounded.{Bounded, max_route, max_expansions}
use Rattle.jobs.proofs.ByKey.{values_length, value_at, values_same, values_zero, measures_next, regrouped}

-- ---- Lists and sums over them

-- an element more at the end stays if it passes the test
module _ {A : Type 0} (test : A → Bool) (xs : List A) (x : A) where
  pub filter_keeps : test x ≡ true → filter test (xs ++ (x ∷ [])) ≡ filter test xs ++ (x ∷ [])
  unfolding filter
  filter_keeps e = filter-append test xs (x ∷ []) ∙ rw e

  pub filter_leaves : test x ≡ false → filter test (xs ++ (x ∷ [])) ≡ filter test xs
  unfolding filter
  filter_leaves e = filter-append test xs (x ∷ []) ∙ rw e (append-nil (filter test xs))

module _ {A : Type 0} (f : A → ℕ) where
  -- a sum over lists put together is that of their sums
  pub over_adds : (xs ys : List A) → sum_over f (xs ++ ys) ≡ sum_over f xs + sum_over f ys
  unfolding sum_over
  over_adds [] ys = omega arith
  over_adds (x ∷ xs) ys = omega (arith, over_adds xs ys)

  -- a sum of numbers that are at most m is at most m for each
  pub over_at_most : (m : ℕ) (xs : List A) → ((x : A) → Memᴰ x xs → f x ≤ m) → sum_over f xs ≤ length xs * m
  unfolding sum_over
  over_at_most m [] low = omega arith
  over_at_most m (x ∷ xs) low =
      let rest = over_at_most m xs (λ y i. low y (Memᴰ.tail i)) in
      omega (arith, low x (Memᴰ.head refl), suc-mul (length xs) m)

  -- those that pass a test come to no more than all
  pub over_chosen : (test : A → Bool) (xs : List A) → sum_over f (filter test xs) ≤ sum_over f xs
  unfolding sum_over filter
  over_chosen test [] = omega arith
  over_chosen test (x ∷ xs) = go (test x) (over_chosen test xs)
    where
      go : (t : Bool) → sum_over f (filter test xs) ≤ sum_over f xs → sum_over f (cond t (x ∷ filter test xs) (filter test xs)) ≤ f x + sum_over f xs
      go true rest = omega arith
      go false rest = omega arith

-- ---- Arrivals

-- each arrival is that of a route among the results
pub arrival_from : (rs : List Result) (x : Arrival) → Memᴰ x (arrivals rs)
    → (s : Result) × Memᴰ s rs × (s.answer.number ≡ 0) × (arrival_of s ≡ x)
unfolding arrivals has_number
arrival_from rs x i =
    let (s, j, e) = Memᴰ.of_map arrival_of (filter (has_number 0) rs) i in
    let (k, t) = (filter-member (has_number 0) rs s).0 j in
    (s, k, eqb-true s.answer.number 0 t, e)

-- there are as many as there are answers 0
pub arrivals-length : (rs : List Result) → length (arrivals rs) ≡ count 0 rs
unfolding arrivals count
arrivals-length rs = length-map (filter (has_number 0) rs) arrival_of

module _ (rs : List Result) (r : Result) where
  -- a route more is an arrival more
  pub arrivals_route : has_number 0 r ≡ true → arrivals (rs ++ (r ∷ [])) ≡ arrivals rs ++ (arrival_of r ∷ [])
  unfolding arrivals
  arrivals_route e =
      ap (map arrival_of) (filter_keeps (has_number 0) rs r e) ∙ map-append arrival_of (filter (has_number 0) rs) (r ∷ [])

  -- and any other result is none
  pub arrivals_other : has_number 0 r ≡ false → arrivals (rs ++ (r ∷ [])) ≡ arrivals rs
  unfolding arrivals
  arrivals_other e = ap (map arrival_of) (filter_leaves (has_number 0) rs r e)

-- the cost of arrivals put together is that of their costs, and one costs its own
pub cost_adds : (xs ys : List Arrival) → total_cost (xs ++ ys) ≡ total_cost xs + total_cost ys
unfolding total_cost
cost_adds xs ys = over_adds _ xs ys

cost_alone : (x : Arrival) → total_cost (x ∷ []) ≡ x.cost
unfolding total_cost sum_over
cost_alone x = omega arith

-- ---- With no result

-- the figures are 0
pub figures-none : figures [] ≡ without Reported
unfolding figures without count arrivals total_cost largest_cost total_expansions filter sum_over
figures-none = rw (values_zero numbers)

-- and so are the tallies
pub routes_none : routes_by [] ≡ replicate max_places 0
unfolding routes_by ending_at filter
routes_none = values_zero max_places

pub costs_none : costs_by [] ≡ replicate max_places 0
unfolding costs_by total_cost ending_at filter sum_over
costs_none = values_zero max_places

-- ---- With one more

module _ (rs : List Result) (r : Result) where
  -- expansions are added after a route and after no route
  pub expansions_counted : (has_number 0 r || has_number 17 r) ≡ true
      → total_expansions (rs ++ (r ∷ [])) ≡ total_expansions rs + r.answer.expansions
  unfolding total_expansions
  expansions_counted e = ap (sum_over _) (filter_keeps _ rs r e) ∙ over_snoc _ (filter _ rs) r

  -- and after nothing else
  pub expansions_passed : (has_number 0 r || has_number 17 r) ≡ false → total_expansions (rs ++ (r ∷ [])) ≡ total_expansions rs
  unfolding total_expansions
  expansions_passed e = ap (sum_over _) (filter_leaves _ rs r e)

  -- the count of its number is raised by 1
  pub counts_next : map (λ n. count n (rs ++ (r ∷ []))) (below numbers) ≡ raised (map (λ n. count n rs) (below numbers)) r.answer.number 1
  unfolding count has_number
  counts_next = measures_next (λ (s : Result). s.answer.number) length length-append numbers rs r

-- the total cost is raised by the arrival's
pub cost_next : (xs : List Arrival) (x : Arrival) → total_cost (xs ++ (x ∷ [])) ≡ total_cost xs + x.cost
unfolding total_cost
cost_next xs x = over_snoc _ xs x

-- and the largest is the larger of the two
pub largest_next : (xs : List Arrival) (x : Arrival) → largest_cost (xs ++ (x ∷ [])) ≡ max (largest_cost xs) x.cost
unfolding largest_cost
largest_next [] x = omega arith
largest_next (y ∷ ys) x = rw (largest_next ys x) (omega arith)

-- The figures of one result more are those before it with its answer noted.
pub figures_next : (rs : List Result) (r : Result) → figures (rs ++ (r ∷ [])) ≡ noted (figures rs) r.answer
unfolding figures noted raised has_number arrival_of
figures_next rs r = go (has_number 0 r) (has_number 17 r) refl refl
  where
    go : (route none : Bool) → has_number 0 r ≡ route → has_number 17 r ≡ none → figures (rs ++ (r ∷ [])) ≡ noted (figures rs) r.answer
    go true none e h =
        rw (
          e,
          counts_next rs r,
          arrivals_route rs r e,
          cost_next (arrivals rs) (arrival_of r),
          largest_next (arrivals rs) (arrival_of r),
          expansions_counted rs r (rw e),
        )
    go false true e h = rw (e, h, counts_next rs r, arrivals_other rs r e, expansions_counted rs r (rw (e, h)))
    go false false e h = rw (e, h, counts_next rs r, arrivals_other rs r e, expansions_passed rs r (rw (e, h)))

-- an arrival is one route more at its goal
pub routes_arrive : (xs : List Arrival) (x : Arrival) → routes_by (xs ++ (x ∷ [])) ≡ raised (routes_by xs) x.goal 1
unfolding routes_by ending_at
routes_arrive xs x = measures_next (λ (y : Arrival). y.goal) length length-append max_places xs x

-- and its cost more
pub costs_arrive : (xs : List Arrival) (x : Arrival) → costs_by (xs ++ (x ∷ [])) ≡ raised (costs_by xs) x.goal x.cost
unfolding costs_by ending_at total_cost
costs_arrive xs x = measures_next (λ (y : Arrival). y.goal) total_cost cost_adds max_places xs x ∙ ap (raised (costs_by xs) x.goal) (cost_alone x)

module _ (rs : List Result) (r : Result) (last : r.answer.number ≡ 0 → last_on r.sheet r.answer.sheet_bytes ≡ goal_of r) where
  -- what an arrival raises by `more` at its goal, an answer does at the last place of its sheet
  raised_next : (by : List Arrival → List ℕ) (more : ℕ)
      → by (arrivals rs ++ (arrival_of r ∷ [])) ≡ raised (by (arrivals rs)) (goal_of r) more
      → by (arrivals (rs ++ (r ∷ [])))
      ≡ cond (eqb r.answer.number 0) (raised (by (arrivals rs)) (last_on r.sheet r.answer.sheet_bytes) more) (by (arrivals rs))
  unfolding has_number
  raised_next by more arrives = go (has_number 0 r) refl
    where
      go : (route : Bool) → has_number 0 r ≡ route
          → by (arrivals (rs ++ (r ∷ [])))
          ≡ cond route (raised (by (arrivals rs)) (last_on r.sheet r.answer.sheet_bytes) more) (by (arrivals rs))
      go true e =
          let place = last (eqb-true r.answer.number 0 e) in
          ap by (arrivals_route rs r e) ∙ arrives ∙ ap (λ (g : ℕ). raised (by (arrivals rs)) g more) (sym place)
      go false e = ap by (arrivals_other rs r e)

  -- The tallies of one result more are those before it, raised at the last place of its sheet where it is a route.
  pub routes_next : routes_by (arrivals (rs ++ (r ∷ []))) ≡ routes_with r.answer r.sheet (routes_by (arrivals rs))
  unfolding routes_with arrival_of
  routes_next = raised_next routes_by 1 (routes_arrive (arrivals rs) (arrival_of r))

  pub costs_next : costs_by (arrivals (rs ++ (r ∷ []))) ≡ costs_with r.answer r.sheet (costs_by (arrivals rs))
  unfolding costs_with arrival_of
  costs_next = raised_next costs_by r.answer.cost (costs_arrive (arrivals rs) (arrival_of r))

-- ---- At one place

-- at each place stand its routes, and what they cost
pub routes_at : (xs : List Arrival) (g : ℕ) → g < max_places → get_or (routes_by xs) g 0 ≡ length (ending_at g xs)
unfolding routes_by
routes_at xs g l = value_at (λ h. length (ending_at h xs)) 0 max_places g l

pub costs_at : (xs : List Arrival) (g : ℕ) → g < max_places → get_or (costs_by xs) g 0 ≡ total_cost (ending_at g xs)
unfolding costs_by
costs_at xs g l = value_at (λ h. total_cost (ending_at h xs)) 0 max_places g l

-- The records made of the two lists are the records of the tally.
pub tally_is : (xs : List Arrival) → map (record_at (routes_by xs) (costs_by xs)) (below max_places) ≡ map (tally_of xs) (below max_places)
unfolding tally_of
tally_is xs = values_same (record_at (routes_by xs) (costs_by xs)) (tally_of xs) max_places λ g l. rw (routes_at xs g l, costs_at xs g l)

-- ---- How large they can be

-- no number is counted more often than there are results
pub count_at_most : (n : ℕ) (rs : List Result) → count n rs ≤ length rs
unfolding count
count_at_most n rs = filter-length (has_number n) rs

-- what ends at one goal costs no more than all, and is no more than all
pub goal_cost_at_most : (g : ℕ) (xs : List Arrival) → total_cost (ending_at g xs) ≤ total_cost xs
unfolding total_cost ending_at
goal_cost_at_most g xs = over_chosen _ _ xs

pub goal_routes_at_most : (g : ℕ) (rs : List Result) → length (ending_at g (arrivals rs)) ≤ length rs
unfolding ending_at
goal_routes_at_most g rs =
    omega (arith, filter-length (λ (x : Arrival). eqb x.goal g) (arrivals rs), arrivals-length rs, count_at_most 0 rs)

-- a route or no route
counted_number : (r : Result) → (has_number 0 r || has_number 17 r) ≡ true → (r.answer.number ≡ 0) ⊎ (r.answer.number ≡ 17)
unfolding has_number
counted_number r e = go (has_number 0 r) refl e
  where
    go : (t : Bool) → has_number 0 r ≡ t → (t || has_number 17 r) ≡ true → (r.answer.number ≡ 0) ⊎ (r.answer.number ≡ 17)
    go true h e = inl (eqb-true r.answer.number 0 h)
    go false h e = inr (eqb-true r.answer.number 17 e)

module _ (rs : List Result) (bounded : (s : Result) → Memᴰ s rs → Bounded s) where
  -- the total cost is at most that of the costliest route for each result
  pub total_cost_at_most : total_cost (arrivals rs) ≤ length rs * max_route
  unfolding total_cost arrival_of
  total_cost_at_most =
      let each : (x : Arrival) → Memᴰ x (arrivals rs) → x.cost ≤ max_route =
      λ x i. let (s, j, z, e) = arrival_from rs x i in rw (← e) (bounded s j).cost in
      omega (arith, over_at_most (λ (x : Arrival). x.cost) max_route (arrivals rs) each, arrivals-length rs, count_at_most 0 rs)

  -- and so with expansions
  pub expansions_at_most : total_expansions rs ≤ length rs * max_expansions
  unfolding total_expansions
  expansions_at_most =
      let test : Result → Bool = λ r. has_number 0 r || has_number 17 r in
      let each : (s : Result) → Memᴰ s (filter test rs) → s.answer.expansions ≤ max_expansions =
      λ s i. let (j, t) = (filter-member test rs s).0 i in (bounded s j).expansions (counted_number s t) in
      omega (arith, over_at_most (λ (r : Result). r.answer.expansions) max_expansions (filter test rs) each, filter-length test rs)

-- one result more, all within their bounds and few enough
module _ (rs : List Result) (r : Result) (bounded : (s : Result) → Memᴰ s rs → Bounded s) (own : Bounded r) (few : length rs + 1 ≤ max_entries) where
  -- its answer can be noted
  pub notable : Notable (figures rs) r.answer
  unfolding figures
  notable =
      let number = r.answer.number in
      let there = value_at (λ n. count n rs) 0 numbers number own.number in
      record {
        number = own.number;
        count = omega (arith, there, count_at_most number rs);
        cost = omega (arith, total_cost_at_most rs bounded);
        expansions = λ searched. omega (arith, own.expansions searched, expansions_at_most rs bounded);
      }

  -- and tallied
  pub talliable : Talliable r.answer r.sheet (routes_by (arrivals rs)) (costs_by (arrivals rs))
  unfolding routes_by costs_by
  talliable = record { some_place = own.some_place; sheet_there = own.sheet_there; addable = λ routed. addable (own.goal routed) (own.last routed) }
    where
      xs : List Arrival
      xs = arrivals rs

      addable : goal_of r < max_places → last_on r.sheet r.answer.sheet_bytes ≡ goal_of r
          → Addable (routes_by xs) (costs_by xs) (last_on r.sheet r.answer.sheet_bytes) r.answer.cost
      addable less place =
          rw place
          (record {
            routes_there = omega (arith, values_length (λ g. length (ending_at g xs)) max_places);
            costs_there = omega (arith, values_length (λ g. total_cost (ending_at g xs)) max_places);
            routes_fit = omega (arith, routes_at xs (goal_of r) less, goal_routes_at_most (goal_of r) rs);
            costs_fit = omega (arith, costs_at xs (goal_of r) less, goal_cost_at_most (goal_of r) xs, total_cost_at_most rs bounded);
          })

-- ---- What they add up to

module _ (rs : List Result) (bounded : (s : Result) → Memᴰ s rs → Bounded s) where
  -- every goal is a place
  goal_within : (x : Arrival) → Memᴰ x (arrivals rs) → x.goal < max_places
  unfolding arrival_of
  goal_within x i = let (s, j, z, e) = arrival_from rs x i in rw (← e) ((bounded s j).goal z)

  -- The counts of all numbers add up to the number of results.
  pub counts_sum : sum_below (λ n. count n rs) numbers ≡ length rs
  unfolding count has_number
  counts_sum = regrouped (λ (s : Result). s.answer.number) length length-append numbers rs (λ s i. (bounded s i).number)

  -- The routes of all goals add up to the count of 0.
  pub routes_sum : sum_below (λ g. length (ending_at g (arrivals rs))) max_places ≡ count 0 rs
  unfolding ending_at
  routes_sum = regrouped (λ (x : Arrival). x.goal) length length-append max_places (arrivals rs) goal_within ∙ arrivals-length rs

  -- The costs of all goals add up to the total cost.
  pub costs_sum : sum_below (λ g. total_cost (ending_at g (arrivals rs))) max_places ≡ total_cost (arrivals rs)
  unfolding ending_at
  costs_sum = regrouped (λ (x : Arrival). x.goal) total_cost cost_adds max_places (arrivals rs) goal_within
