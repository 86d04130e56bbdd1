-- The numbers of an answer that the code gives: as those of the definitions, and as a list.
use Rattle.std.specs.Prelude.{List, [], ◌∷◌, ◌++◌, ℕ, length, take, drop}
use Rattle.model.specs.Answer as model
use Rattle.answer.specs.declared.Answer.{Answer}

abbrev pub answer_of : Answer → model.Answer
answer_of r =
    record {
      number = r.number;
      cost = r.cost;
      limit = r.limit;
      floor = r.floor;
      expansions = r.expansions;
      queries = r.queries;
      sheet_bytes = r.sheet_bytes;
    }

-- the seven numbers in order
abbrev pub seven : model.Answer → List ℕ
seven a = a.number ∷ a.cost ∷ a.limit ∷ a.floor ∷ a.expansions ∷ a.queries ∷ a.sheet_bytes ∷ []

-- as many of the items as there is room for, over the front of an area
abbrev pub put_over : {A : Type 0} → (items area : List A) → List A
put_over items area = let front = take (length area) items in front ++ drop (length front) area
