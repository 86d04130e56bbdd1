-- The pass over a job's goals: what is noted of them one by one, and what it then says of all of them.
use Rattle.std.specs.Prelude.{◌≡◌, Bool, false, not, ◌&&◌, ◌||◌, ℕ, ◌+◌, ◌*◌, ◌≤◌, ltb, leb, eqb, length, get_or}
use mathlib.Core.List.{List, foldl}
use Rattle.judge.specs.declared.goals.Goals.{Goals}
use Rattle.model.specs.Bytes.{u16s}
use Rattle.model.specs.Lists.{any, rises}

-- the mark of a place of the map says that its estimate is above 0
abbrev pub estimated_at : ℕ → List ℕ → ℕ → Bool
estimated_at n marks g = ltb g n && eqb (get_or marks g 0) 2

-- with one goal more
unfoldable pub note : ℕ → List ℕ → Goals → ℕ → Goals
note n marks s g =
    record {
      outside = s.outside || leb n g;
      falls = s.falls || ltb g s.next;
      estimated = s.estimated || estimated_at n marks g;
      next = g + 1;
    }

abbrev pub nothing : Goals
nothing = record { outside = false; falls = false; estimated = false; next = 0 }

-- what is noted before byte `at`, with the `left` goals from there on, is what is noted of all goals
pub record GoalsWalked (input : List ℕ) (goals : List ℕ) (n : ℕ) (marks : List ℕ) (at left : ℕ) (s : Goals) : Type 0 where
  pub inside : at + 2 * left ≤ length input
  pub noted : foldl (note n marks) s (u16s left input at) ≡ foldl (note n marks) nothing goals

pub record Checked (goals : List ℕ) (n : ℕ) (marks : List ℕ) (s : Goals) : Type 0 where
  pub outside : s.outside ≡ any (leb n) goals
  pub falls : s.falls ≡ not (rises goals)
  pub estimated : s.estimated ≡ any (estimated_at n marks) goals
