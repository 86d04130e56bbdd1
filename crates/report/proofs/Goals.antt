-- The lines of goals, put one after another. Assumes nothing.
use mathlib.Core.Path.{◌≡◌}
use mathlib.Core.List.{List, [], ◌∷◌, ◌++◌, append_assoc, append-nil}
use Prim.Native.Nat.{ℕ, zero, suc, ◌+◌, ◌*◌, ◌<◌}
use native.Mathlib.Numerals.{add-one}
use native.Mathlib.Omega.{arith}
use lib.ListN.{length, get_or, take}
use Rattle.tally.specs.declared.Tally.{Tally}
use Rattle.report.specs.Printed.{goal_line, goal_lines, PutWithin, wide_room}
use Rattle.report.proofs.Lines.{nothing, within_then}

-- one goal more is one line more
goals_more : (ts : List Tally) (g : ℕ) (d : Tally) → g < length ts → goal_lines (take (suc g) ts) ≡ goal_lines (take g ts) ++ goal_line (get_or ts g d)
unfolding goal_lines
goals_more [] g d l = absurd (omega arith)
goals_more (t ∷ ts) zero d l = append-nil (goal_line t)
goals_more (t ∷ ts) (suc g) d l = rw (goals_more ts g d (omega arith), append_assoc)

pub no_goals : (text : List ℕ) → PutWithin (wide_room * 0) (goal_lines []) text text
unfolding goal_lines
no_goals text = nothing text

pub one_goal_more : (tally : List Tally) {old mid text : List ℕ} {g : ℕ} (d : Tally) → g < length tally
    → PutWithin (wide_room * g) (goal_lines (take g tally)) old mid → PutWithin wide_room (goal_line (get_or tally g d)) mid text
    → PutWithin (wide_room * (g + 1)) (goal_lines (take (g + 1) tally)) old text
one_goal_more tally {g = g} d l lines line =
    let both = within_then lines line in
    record { put = rw (add-one, goals_more tally g d l) both.put; short = omega (arith, both.short) }
