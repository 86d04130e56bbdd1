-- The promise of the public call: answer, work area and sheet area after it are those of the definition `route`.
use Rattle.std.specs.Prelude.{◌≡◌, List, ℕ, length, take}
use Rattle.model.specs.Answer.{Result, route, over_front}
use Rattle.answer.specs.Numbers.{answer_of, seven}
use Rattle.answer.specs.declared.Answer.{Answer}

pub record Routed (input work₀ sheet₀ : List ℕ) (r : Answer) (work sheet : List ℕ) : Type 0 where
  pub result : ◌≡◌ {A = Result} (record { answer = answer_of r; work = work; sheet = sheet }) (route input work₀ sheet₀)

-- The same for a host: the number comes back, and the lent words have as many of the seven numbers as there is room for.
pub record RoutedFor (input work₀ sheet₀ answer₀ : List ℕ) (r : ℕ) (work sheet answer : List ℕ) : Type 0 where
  pub gives : r ≡ (route input work₀ sheet₀).answer.number
  pub leaves_work : work ≡ (route input work₀ sheet₀).work
  pub leaves_sheet : sheet ≡ (route input work₀ sheet₀).sheet
  pub leaves_answer : answer ≡ over_front (take (length answer₀) (seven (route input work₀ sheet₀).answer)) answer₀
