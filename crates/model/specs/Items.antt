-- Document 01, "Records", and document 02: what a record of each kind says. Kinds, fields and body lengths stand here and nowhere else.
use Rattle.std.specs.Prelude.{Bool, false, cond, not, List, map, ℕ, ◌+◌, ◌*◌, eqb, length}
use Rattle.std.proofs.Math.Option.{Option, none, some}
use Rattle.model.specs.Bytes.{u16, u32, u16s}
use Rattle.model.specs.Framing.{Record}

abbrev pub head_kind : ℕ
head_kind = 1

abbrev pub arc_kind : ℕ
arc_kind = 2

abbrev pub estimate_kind : ℕ
estimate_kind = 3

abbrev pub job_kind : ℕ
job_kind = 4

-- an arc with a length and a class
abbrev pub measured_kind : ℕ
measured_kind = 5

-- a wait at a place
abbrev pub wait_kind : ℕ
wait_kind = 6

-- the owner's own factors
abbrev pub factors_kind : ℕ
factors_kind = 7

-- one estimate for all places that have none of their own
abbrev pub default_kind : ℕ
default_kind = 8

-- how many bytes a body has; a job's, before its goals
abbrev pub head_bytes : ℕ
head_bytes = 4

abbrev pub arc_bytes : ℕ
arc_bytes = 6

abbrev pub estimate_bytes : ℕ
estimate_bytes = 6

abbrev pub job_bytes : ℕ
job_bytes = 8

abbrev pub measured_bytes : ℕ
measured_bytes = 8

abbrev pub wait_bytes : ℕ
wait_bytes = 4

abbrev pub factors_bytes : ℕ
factors_bytes = 16

abbrev pub default_bytes : ℕ
default_bytes = 4

-- head: places N, arcs M
pub record Size : Type 0 where
  pub places : ℕ
  pub arcs : ℕ

-- What a lane's record says of its cost: the cost itself, or a length and a class.
pub data Charge : Type 0 where
  flat : (cost : ℕ) → Charge
  measured : (length class : ℕ) → Charge

-- An arc record. What it says is kept apart from the arc that it becomes under a table of factors.
pub record Lane : Type 0 where
  pub from : ℕ
  pub to : ℕ
  pub charge : Charge

-- A number for a place: what an estimate's record says, and what a wait's does.
pub record PlaceValue : Type 0 where
  pub place : ℕ
  pub value : ℕ

pub record Job : Type 0 where
  pub start : ℕ
  pub allowance : ℕ
  pub goals : List ℕ

-- what a record says, by its kind
pub data Item : Type 0 where
  head : Size → Item
  lane : Lane → Item
  estimate : PlaceValue → Item
  job : Job → Item
  wait : PlaceValue → Item
  -- factors that replace the fixed ones
  own_factors : List ℕ → Item
  default_estimate : ℕ → Item
  -- a kind that the papers do not have
  other : Item

-- head: places N (2 bytes), arcs M (2)
unfoldable pub head_of : List ℕ → Size
head_of b = record { places = u16 b 0; arcs = u16 b 2 }

-- arc: from (2), to (2), cost (2)
unfoldable pub lane_of : List ℕ → Lane
lane_of b = record { from = u16 b 0; to = u16 b 2; charge = flat (u16 b 4) }

-- Document 02, paper 1: "arc records of kind 5: from, to, length, class, each 2 bytes"
unfoldable pub measured_of : List ℕ → Lane
measured_of b = record { from = u16 b 0; to = u16 b 2; charge = measured (u16 b 4) (u16 b 6) }

-- estimate: place (2), estimate (4)
unfoldable pub estimate_of : List ℕ → PlaceValue
estimate_of b = record { place = u16 b 0; value = u32 b 2 }

-- job: start (2), allowance (4), goal count k (2), k goals (2 each)
unfoldable pub job_of : List ℕ → Job
job_of b = record { start = u16 b 0; allowance = u32 b 2; goals = u16s (u16 b 6) b job_bytes }

-- Document 02, paper 5: "Record kind 6 gives a place (2 bytes) a wait (2 bytes, 0 to 65,535)"
unfoldable pub wait_of : List ℕ → PlaceValue
wait_of b = record { place = u16 b 0; value = u16 b 2 }

-- Document 02, paper 7: "Record kind 7 holds eight 2-byte factors"
unfoldable pub factors_of : List ℕ → List ℕ
factors_of b = u16s 8 b 0

-- Document 02, paper 8: "Record kind 8 holds one 4-byte estimate"
unfoldable pub default_of : List ℕ → ℕ
default_of b = u32 b 0

unfoldable pub item_of : Record → Item
item_of r =
    let b = r.body in
    cond (eqb r.kind head_kind) (head (head_of b))
    (cond (eqb r.kind arc_kind) (lane (lane_of b))
    (cond (eqb r.kind estimate_kind) (estimate (estimate_of b))
    (cond (eqb r.kind job_kind) (job (job_of b))
    (cond (eqb r.kind measured_kind) (lane (measured_of b))
    (cond (eqb r.kind wait_kind) (wait (wait_of b))
    (cond (eqb r.kind factors_kind) (own_factors (factors_of b))
    (cond (eqb r.kind default_kind) (default_estimate (default_of b)) other)))))))

unfoldable pub charge_bytes : Charge → ℕ
charge_bytes (flat cost) = arc_bytes
charge_bytes (measured length class) = measured_bytes

-- How many bytes the body of a record has that says this. "A job needs 8 bytes or more, and exactly 8 + 2 × k."
unfoldable pub body_length : Item → Option ℕ
body_length (head s) = some head_bytes
body_length (lane l) = some (charge_bytes l.charge)
body_length (estimate e) = some estimate_bytes
body_length (job j) = some (job_bytes + 2 * length j.goals)
body_length (wait w) = some wait_bytes
body_length (own_factors fs) = some factors_bytes
body_length (default_estimate x) = some default_bytes
body_length other = none

unfoldable pub other_than : Option ℕ → ℕ → Bool
other_than none n = false
other_than (some m) n = not (eqb n m)

-- the record's body has a length that its kind doesn't have
unfoldable pub misfits : Record → Bool
misfits r = other_than (body_length (item_of r)) (length r.body)

unfoldable pub items : List Record → List Item
items rs = map item_of rs

-- what an item says, where it is of one kind
unfoldable pub size_in : Item → Option Size
size_in (head s) = some s
size_in (lane l) = none
size_in (estimate e) = none
size_in (job j) = none
size_in (wait w) = none
size_in (own_factors fs) = none
size_in (default_estimate x) = none
size_in other = none

unfoldable pub lane_in : Item → Option Lane
lane_in (head s) = none
lane_in (lane l) = some l
lane_in (estimate e) = none
lane_in (job j) = none
lane_in (wait w) = none
lane_in (own_factors fs) = none
lane_in (default_estimate x) = none
lane_in other = none

unfoldable pub estimate_in : Item → Option PlaceValue
estimate_in (head s) = none
estimate_in (lane l) = none
estimate_in (estimate e) = some e
estimate_in (job j) = none
estimate_in (wait w) = none
estimate_in (own_factors fs) = none
estimate_in (default_estimate x) = none
estimate_in other = none

unfoldable pub job_in : Item → Option Job
job_in (head s) = none
job_in (lane l) = none
job_in (estimate e) = none
job_in (job j) = some j
job_in (wait w) = none
job_in (own_factors fs) = none
job_in (default_estimate x) = none
job_in other = none

unfoldable pub wait_in : Item → Option PlaceValue
wait_in (head s) = none
wait_in (lane l) = none
wait_in (estimate e) = none
wait_in (job j) = none
wait_in (wait w) = some w
wait_in (own_factors fs) = none
wait_in (default_estimate x) = none
wait_in other = none

unfoldable pub factors_in : Item → Option (List ℕ)
factors_in (head s) = none
factors_in (lane l) = none
factors_in (estimate e) = none
factors_in (job j) = none
factors_in (wait w) = none
factors_in (own_factors fs) = some fs
factors_in (default_estimate x) = none
factors_in other = none

unfoldable pub default_in : Item → Option ℕ
default_in (head s) = none
default_in (lane l) = none
default_in (estimate e) = none
default_in (job j) = none
default_in (wait w) = none
default_in (own_factors fs) = none
default_in (default_estimate x) = some x
default_in other = none
