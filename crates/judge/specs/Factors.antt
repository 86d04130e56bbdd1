-- Refusal 22: a table's factors, looked at one after another.
use Rattle.std.specs.Prelude.{◌≡◌, Bool, false, ◌||◌, List, [], ◌∷◌, ℕ, ◌≤◌, ltb, drop}
use Rattle.model.specs.Limits.{max_factor}
use Rattle.model.specs.Refusals.{breaks_rules}

-- one of these factors, which come after this one, breaks the rules
unfoldable pub breaks_after : ℕ → List ℕ → Bool
breaks_after before [] = false
breaks_after before (f ∷ fs) = (ltb f 1 || ltb max_factor f || ltb f before) || breaks_after f fs

-- what is found of the factors of the classes below this one, with what the others will be, is what is found of all
pub record RulesWalked (factors : List ℕ) (wrong : Bool) (before class : ℕ) : Type 0 where
  pub inside : class ≤ 8
  pub found : (wrong || breaks_after before (drop class factors)) ≡ breaks_rules factors
