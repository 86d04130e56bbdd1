-- Document 02, paper 6: what stands in a day's input. "The map is all records before the first job; a later record that is no job counts as one job
-- refused with 10, and a broken tail, even with no job before it, as one refused with 1."
use Rattle.std.specs.Prelude.{Bool, cond, List, [], ◌∷◌, ◌++◌, ℕ, ◌+◌, length, take, drop}
use Rattle.model.specs.Framing.{Record, frame}
use Rattle.model.specs.Items.{item_of, job_in}
use Rattle.model.specs.Lists.{is_given}
use Rattle.model.specs.Sums.{sum_over}

-- What counts as one job.
pub data Entry : Type 0 where
  -- a job with the map before it, as an input of its own
  alone : (input : List ℕ) → Entry
  -- what is not run, and the number that it is refused with
  refused : (number : ℕ) → Entry

unfoldable pub is_job : Record → Bool
is_job r = is_given (job_in (item_of r))

-- the records before the first job, and those from it on
unfoldable pub before_job : List Record → List Record
before_job [] = []
before_job (r ∷ rs) = cond (is_job r) [] (r ∷ before_job rs)

unfoldable pub from_job : List Record → List Record
from_job [] = []
from_job (r ∷ rs) = cond (is_job r) (r ∷ rs) (from_job rs)

-- how many bytes a record takes: its length, its kind and its body
unfoldable pub bytes_of : Record → ℕ
bytes_of r = 4 + length r.body

-- the bytes of the map
unfoldable pub map_in : List ℕ → List ℕ
map_in input = take (sum_over bytes_of (before_job (frame input).records)) input

-- a record behind the map, as its bytes stand in the input
unfoldable pub entry_of : (map : List ℕ) → Record → (bytes : List ℕ) → Entry
entry_of map r bytes = cond (is_job r) (alone (map ++ bytes)) (refused 10)

-- records one after another at the front of the bytes
unfoldable pub entries_of : (map : List ℕ) → List Record → (bytes : List ℕ) → List Entry
entries_of map [] bytes = []
entries_of map (r ∷ rs) bytes = entry_of map r (take (bytes_of r) bytes) ∷ entries_of map rs (drop (bytes_of r) bytes)

unfoldable pub tail_of : Bool → List Entry
tail_of broken = cond broken (refused 1 ∷ []) []

-- all that counts as a job, in the order of the input
unfoldable pub entries : List ℕ → List Entry
entries input =
    let f = frame input in
    let map = map_in input in
    entries_of map (from_job f.records) (drop (length map) input) ++ tail_of f.broken
