-- Refusal 21: what is noted of each place while the waits are looked at, and what is then found of the lanes.
use Rattle.std.specs.Prelude.{◌≡◌, Bool, false, cond, not, ◌||◌, ℕ, ◌+◌, ◌-◌, ◌≤◌, ◌<◌, ltb, eqb, length, get_or, set}
use mathlib.Core.List.{List, ◌++◌, Memᴰ}
use Rattle.std.proofs.Math.Option.{some}
use Rattle.model.specs.Framing.{frame}
use Rattle.model.specs.Items.{Lane, PlaceValue, Item, head, lane, estimate, job, wait, own_factors, default_estimate, other, lane_in, wait_in}
use Rattle.model.specs.Limits.{max_places, max_cost}
use Rattle.model.specs.Lists.{any, filter_map, repeats}
use Rattle.model.specs.Refusals.{wrong_length, mismeasured, places_in}
use Rattle.model.specs.Stated.{Stated, stated_in, cost_under, arc_of}
use Rattle.judge.specs.Marks.{first_mark}

-- one more than a wait, since a wait of 0 is one too
abbrev pub note_of : ℕ → ℕ
note_of x = x + 1

-- the wait of which this is noted; 0 where nothing is
abbrev pub wait_noted : ℕ → ℕ
wait_noted x = x - 1

-- what is known of an input of which none of 1 to 9, 20 and 22 holds
pub record Fitting (input : List ℕ) : Type 0 where
  pub lengths : wrong_length (frame input).records ≡ false
  pub few : (stated_in input).size.places ≤ max_places
  pub from : (l : Lane) → Memᴰ l (stated_in input).lanes → l.from < (stated_in input).size.places
  pub measure : (l : Lane) → Memᴰ l (stated_in input).lanes → mismeasured l.charge ≡ false
  pub cost : (l : Lane) → Memᴰ l (stated_in input).lanes → cost_under (stated_in input).factors l.charge ≤ max_cost
  pub place : (w : PlaceValue) → Memᴰ w (stated_in input).waits → w.place < (stated_in input).size.places
  pub value : (w : PlaceValue) → Memᴰ w (stated_in input).waits → w.value < 65536

-- Noting: an item that is a wait is noted at its place, if none is.
pub record CanNote (i : Item) (noted : List ℕ) : Type 0 where
  pub room : length noted ≡ max_places
  pub place : (w : PlaceValue) → wait_in i ≡ some w → w.place < max_places
  pub value : (w : PlaceValue) → wait_in i ≡ some w → w.value < 65536

unfoldable pub noted_by : Item → List ℕ → List ℕ
noted_by (head s) noted = noted
noted_by (lane l) noted = noted
noted_by (estimate e) noted = noted
noted_by (job j) noted = noted
noted_by (wait w) noted = cond (eqb (get_or noted w.place 0) 0) (set noted w.place (note_of w.value)) noted
noted_by (own_factors fs) noted = noted
noted_by (default_estimate x) noted = noted
noted_by other noted = noted

-- its place has a wait already
unfoldable pub note_again : Item → List ℕ → Bool
note_again (head s) noted = false
note_again (lane l) noted = false
note_again (estimate e) noted = false
note_again (job j) noted = false
note_again (wait w) noted = not (eqb (get_or noted w.place 0) 0)
note_again (own_factors fs) noted = false
note_again (default_estimate x) noted = false
note_again other noted = false

pub record NotedItem (i : Item) (noted₀ : List ℕ) (again : Bool) (noted : List ℕ) : Type 0 where
  pub before : again ≡ note_again i noted₀
  pub after : noted ≡ noted_by i noted₀

-- the waits that are stated are noted; whether two are for one place
pub record NotedAll (s : Stated) (twice : Bool) (noted : List ℕ) : Type 0 where
  pub room : length noted ≡ max_places
  pub notes : (v : ℕ) → get_or noted v 0 ≡ first_mark note_of s.waits v
  pub repeated : twice ≡ repeats (places_in s.waits)

-- while the items `is` are left
pub record Noting (s : Stated) (is : List Item) (noted : List ℕ) (twice : Bool) : Type 0 where
  pub done : List PlaceValue
  pub split : done ++ filter_map wait_in is ≡ s.waits
  pub room : length noted ≡ max_places
  pub notes : (v : ℕ) → get_or noted v 0 ≡ first_mark note_of done v
  pub repeated : twice ≡ repeats (places_in done)

-- Lanes: one costs more with its wait than an arc may.
unfoldable pub any_too_dear : Stated → Bool
any_too_dear s = any (λ (l : Lane). ltb max_cost (arc_of s l).cost) s.lanes

abbrev pub exceeds : (noted : List ℕ) (from cost : ℕ) → Bool
exceeds noted from cost = ltb max_cost (cost + wait_noted (get_or noted from 0))

unfoldable pub too_dear : List ℕ → List ℕ → Item → Bool
too_dear factors noted (head s) = false
too_dear factors noted (lane l) = exceeds noted l.from (cost_under factors l.charge)
too_dear factors noted (estimate e) = false
too_dear factors noted (job j) = false
too_dear factors noted (wait w) = false
too_dear factors noted (own_factors fs) = false
too_dear factors noted (default_estimate x) = false
too_dear factors noted other = false

pub record CanWeigh (factors : List ℕ) (i : Item) (noted : List ℕ) : Type 0 where
  pub room : length noted ≡ max_places
  pub small : (v : ℕ) → get_or noted v 0 ≤ 65536
  pub from : (l : Lane) → lane_in i ≡ some l → l.from < max_places
  pub measure : (l : Lane) → lane_in i ≡ some l → mismeasured l.charge ≡ false
  pub cost : (l : Lane) → lane_in i ≡ some l → cost_under factors l.charge ≤ max_cost

-- the lanes that are stated can be weighed: the waits are noted
pub record Weighable (factors : List ℕ) (input : List ℕ) (noted : List ℕ) : Type 0 where
  pub fits : Fitting input
  pub stated_factors : factors ≡ (stated_in input).factors
  pub room : length noted ≡ max_places
  pub notes : (v : ℕ) → get_or noted v 0 ≡ first_mark note_of (stated_in input).waits v

-- while the items `is` are left: with what they find, what all lanes do
abbrev pub Weighing : Stated → List Item → Bool → Type 0
Weighing s is dear = (dear || any (λ (l : Lane). ltb max_cost (arc_of s l).cost) (filter_map lane_in is)) ≡ any_too_dear s
