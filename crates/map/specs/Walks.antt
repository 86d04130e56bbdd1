-- Walking the records of an input, one after another.
use Rattle.std.specs.Prelude.{◌≡◌, List, ℕ, ◌≤◌, length, Option, Some, None, Ok, Err}
use Rattle.std.specs.Iterator.{YieldsFirstBy}
use mathlib.Core.List.{Memᴰ}
use Rattle.model.specs.Framing.{frame}
use Rattle.model.specs.Items.{Item, items}
use Rattle.map.specs.declared.record as declared
use Rattle.map.specs.Records.{Read, read_at}
use Rattle.map.specs.Items.{meant}

-- Where a walk over the records of an input stands.
pub record Position : Type 0 where
  pub input : List ℕ
  pub at : ℕ

-- where it stands after this read at byte `at`
abbrev pub after : List ℕ → ℕ → Read → ℕ
after input at (Some (Ok r)) = r.end
after input at (Some (Err e)) = length input
after input at None = at

-- one step gives what is read where the walk stands
pub record NextReads (s : Position) (read : Read) (t : Position) : Type 0 where
  pub same : t.input ≡ s.input
  pub inside : s.at ≤ length s.input
  pub reads : read ≡ read_at s.input s.at
  pub moves : t.at ≡ after s.input s.at read

-- What is left of a walk over an input: what its records say that are still to come.
pub record Left : Type 0 where
  pub input : List ℕ
  pub items : List Item

-- a whole input
abbrev pub all_of : List ℕ → Left
all_of input = record { input = input; items = items (frame input).records }

-- one step gives what the first of them says, if any is left, and leaves the others
pub record NextSays (s : Left) (r : Option declared.Item.Item) (t : Left) : Type 0 where
  pub same : t.input ≡ s.input
  pub gives : YieldsFirstBy (meant s.input) (λ (l : Left). l.items) s r t

-- `I` holds of what is left of the input and of what is kept on the way.
pub record Walking {S : Type 0} (I : List Item → S → Type 0) (input : List ℕ) (left : Left) (kept : S) : Type 0 where
  pub same : left.input ≡ input
  pub among : (i : Item) → Memᴰ i left.items → Memᴰ i (items (frame input).records)
  pub holds : I left.items kept
