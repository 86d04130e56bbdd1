use mathlib.Core.Path.{◌≡◌, sym, ◌∙◌}
use mathlib.Core.List.{List}
use Prim.Native.Nat.{ℕ}
use native.Mathlib.Omega.{arith}
use lib.ListN.{drop}
use Rattle.area.specs.Part.{part}
use Rattle.layout.specs.Regions.{ends_at}
use Rattle.layout.specs.Labels.{labels}
use Rattle.layout.proofs.Held.{few_places_lem}
use Rattle.model.specs.Costs.{cost_at}
use Rattle.query.specs.Front.{NoneOpen}
use Rattle.query.specs.Open.{settled_at}
use Rattle.map.specs.declared.Site.{Site}
use Rattle.query.specs.Query.{Askable}
use Rattle.query.specs.State.{Blank, Arrived, Searching}
use Rattle.query.proofs.Regions.{begun-map}
use Rattle.query.proofs.QueryUnderway as underway
use Rattle.query.proofs.QueryUnderway.{QueryUnderway, Taken}
use Rattle.query.proofs.Expansions as expansions
use Rattle.query.proofs.Answers as answers
use Rattle.query.proofs.query.Goals.{After-slice_known-3-1, At-loop-work, Else-d, Then-d}
use Rattle.query.proofs.query.Goals as goal

-- the words with which the loop begins hold the map that was there at entry
same_map : (c : After-slice_known-3-1)
    → (let a = c.args in drop (ends_at a.site.places) c.arrive-hand.new.work ≡ drop (ends_at a.site.places) a.work.now)
same_map c = begun-map c.clear.ensures c.arrive-hand.ensures

-- a search that began by arriving at the start, over cleared words
searching : {s : Site} {limit budget left v d k hand₀ hand₁ hand count : ℕ} {w₀ w₁ w₂ w : List ℕ}
    → Askable s limit w₀ → Blank s.places w₀ w₁ → Arrived s.places v d k hand₀ w₁ hand₁ w₂
    → Searching s limit budget left w₂ hand w count → QueryUnderway s limit budget left w₂ hand w count
searching asked blank arrived search =
    let length = arrived.same_length ∙ blank.same_length in
    record { ask = underway.ask_same _ asked _ (begun-map blank arrived) length _ arrived.list; search = search }

under : (c : At-loop-work)
    → (let a = c.args in let l = c.loop-work in QueryUnderway a.site a.limit a.budget a.left c.arrive-hand.new.work l.hand l.work l.count)
under c = searching c.requires c.clear.ensures c.arrive-hand.ensures c.loop-work.invariant

-- where the first of the open list is a place, and where it is none
taken : (c : Else-d)
    → (let a = c.args in let l = c.loop-work in
    Taken a.site a.limit a.budget a.left c.arrive-hand.new.work l.hand l.work l.count c.low-place.result c.high-d.result)
unfolding part
taken c =
    let search = searching c.requires c.clear.ensures c.arrive-hand.ensures c.loop-work.invariant in
    let first = rw (← c.low-place.ensures, ← c.high-d.ensures) at c.least-first.ensures in
    underway.taken _ search _ _ c.open_at-open_start.ensures c.parents_at-open_end.ensures _ _ first (omega (arith, c.if-d.false))

none_open : (c : Then-d)
    → (let n = c.args.site.places in let l = c.loop-work in NoneOpen (λ v. cost_at (labels n l.work) v) (settled_at n l.hand l.work))
unfolding part
none_open c =
    let search = searching c.requires c.clear.ensures c.arrive-hand.ensures c.loop-work.invariant in
    let first = rw (← c.low-place.ensures, ← c.high-d.ensures) at c.least-first.ensures in
    underway.none_open _ search _ _ c.open_at-open_start.ensures c.parents_at-open_end.ensures _ _ first (omega (arith, c.if-d.true))

pub open_at-open_start-requires : goal.open_at-open_start-requires
open_at-open_start-requires c = few_places_lem _ _ c.requires.holds

pub parents_at-open_end-requires : goal.parents_at-open_end-requires
parents_at-open_end-requires c = few_places_lem _ _ c.requires.holds

pub clear-requires : goal.clear-requires
clear-requires c = underway.ask_clears _ c.requires

pub arrive-hand-requires : goal.arrive-hand-requires
arrive-hand-requires c =
    underway.start_arrives _ c.requires _ c.clear.ensures _ c.empty.ensures

pub loop-work-init : goal.loop-work-init
loop-work-init c =
    let blank = c.clear.ensures in
    underway.searching_starts _ c.requires blank _ c.empty.ensures c.arrive-hand.ensures _ _

pub least-first-requires : goal.least-first-requires
unfolding part
least-first-requires c =
    underway.search_list _ (under (goal.at.least-first-requires c).At-loop-work) _ _ c.open_at-open_start.ensures c.parents_at-open_end.ensures

pub all_settled-requires : goal.all_settled-requires
all_settled-requires c = underway.search_listed _ (under (goal.at.all_settled-requires c).At-loop-work) (none_open c)

pub returns-then-d : goal.returns-then-d
returns-then-d c =
    let answered = answers.answered_settled (under (goal.at.returns-then-d c).At-loop-work) (none_open (goal.at.returns-then-d c).Then-d) _ c.all_settled.ensures in
    answers.answered_same _ _ _ _ _ _ _ _ (same_map (goal.at.returns-then-d c).After-slice_known-3-1) answered

pub is_goal-requires : goal.is_goal-requires
is_goal-requires c = underway.taken_place _ (taken c)

pub returns-then-is_goal : goal.returns-then-is_goal
returns-then-is_goal c =
    let t = (taken (goal.at.returns-then-is_goal c).Else-d) in
    let reached = underway.taken_goal _ t (sym c.is_goal.ensures ∙ c.if-is_goal.true) in
    let answered = answers.answered_goal t.under t.first reached in
    answers.answered_same _ _ _ _ _ _ _ _ (same_map (goal.at.returns-then-is_goal c).After-slice_known-3-1) answered

pub returns-then-count-budget : goal.returns-then-count-budget
returns-then-count-budget c =
    let t = (taken (goal.at.returns-then-count-budget c).Else-d) in
    let no_goal = underway.taken_no_goal _ t (sym c.is_goal.ensures ∙ c.if-is_goal.false) in
    let answered = answers.answered_over t.under t.first no_goal c.if-count-budget.true in
    answers.answered_same _ _ _ _ _ _ _ _ (same_map (goal.at.returns-then-count-budget c).After-slice_known-3-1) answered

pub returns-then-count-left : goal.returns-then-count-left
returns-then-count-left c =
    let t = (taken (goal.at.returns-then-count-left c).Else-d) in
    let no_goal = underway.taken_no_goal _ t (sym c.is_goal.ensures ∙ c.if-is_goal.false) in
    let answered = answers.answered_spent t.under t.first no_goal c.if-count-budget.false c.if-count-left.true _ in
    answers.answered_same _ _ _ _ _ _ _ _ (same_map (goal.at.returns-then-count-left c).After-slice_known-3-1) answered

pub settle-hand-requires : goal.settle-hand-requires
settle-hand-requires c = expansions.turn_settles (taken (goal.at.settle-hand-requires c).Else-d)

pub expand-hand-requires : goal.expand-hand-requires
expand-hand-requires c =
    expansions.turn_expands (taken (goal.at.expand-hand-requires c).Else-d) _ _ c.settle-hand.ensures

pub loop-work-smaller : goal.loop-work-smaller
loop-work-smaller c = omega (arith, expansions.count_below_lem (taken (goal.at.loop-work-smaller c).Else-d))

pub loop-work-preserved : goal.loop-work-preserved
loop-work-preserved c =
    let t = (taken (goal.at.loop-work-preserved c).Else-d) in
    let no_goal = underway.taken_no_goal _ t (sym c.is_goal.ensures ∙ c.if-is_goal.false) in
    expansions.searching_on t _ _ c.settle-hand.ensures no_goal _ _ c.expand-hand.ensures
    c.if-count-budget.false c.if-count-left.false
