-- What a record of the input says, as the reader hands it on.
use Rattle.std.specs.Prelude.{◌≡◌, Bool, true, false, cond, ◌||◌, not, List, [], ℕ, Option, Some, None, ◌+◌, ◌*◌, ◌≤◌, ltb, eqb, length, drop}
use Rattle.map.specs.declared.record as declared
use Rattle.map.specs.declared.record.Item.{Item}
use Rattle.map.specs.declared.record.Item.TheVariants.{Head, Lane, Measured, Estimate, Wait, Factors, Default, Job, Misfit, Other}
use Rattle.map.specs.declared.record.Kind.{Kind}
use Rattle.map.specs.declared.record.Kind.TheVariants as kinds
use Rattle.map.specs.Records.{record_in}
use Rattle.model.specs.Bytes.{u16s}
use Rattle.model.specs.Items as model
use Rattle.model.specs.Limits.{max_cost}
use Rattle.model.specs.Refusals.{mismeasured}
use Rattle.model.specs.Stated.{fixed_factors, cost_under}

-- the papers' number of each kind
abbrev pub kind_number : Kind → ℕ
kind_number kinds.Head = model.head_kind
kind_number kinds.Arc = model.arc_kind
kind_number kinds.Estimate = model.estimate_kind
kind_number kinds.Job = model.job_kind
kind_number kinds.Measured = model.measured_kind
kind_number kinds.Wait = model.wait_kind
kind_number kinds.Factors = model.factors_kind
kind_number kinds.Default = model.default_kind

-- what a body that begins at byte `at` says, in the code's types
unfoldable pub size_at : List ℕ → ℕ → declared.Size.Size
size_at input at = let s = model.head_of (drop at input) in record { places = s.places; arcs = s.arcs }

unfoldable pub estimate_body_at : List ℕ → ℕ → declared.PlaceValue.PlaceValue
estimate_body_at input at = let e = model.estimate_of (drop at input) in record { place = e.place; value = e.value }

unfoldable pub wait_body_at : List ℕ → ℕ → declared.PlaceValue.PlaceValue
wait_body_at input at = let w = model.wait_of (drop at input) in record { place = w.place; value = w.value }

-- a job's body has `len` bytes
unfoldable pub job_at : List ℕ → ℕ → ℕ → Item
job_at input at len =
    let j = model.job_of (drop at input) in
    let goals = length j.goals in
    cond (ltb len model.job_bytes || not (eqb len (model.job_bytes + 2 * goals))) Misfit
    (Job (record { start = j.start; allowance = j.allowance; goals = goals; goals_at = at + model.job_bytes }))

unfoldable pub is_misfit : Item → Bool
is_misfit (Head s) = false
is_misfit (Lane l) = false
is_misfit (Measured l) = false
is_misfit (Estimate e) = false
is_misfit (Wait w) = false
is_misfit (Factors at) = false
is_misfit (Default x) = false
is_misfit (Job j) = false
is_misfit Misfit = true
is_misfit Other = false

-- the lane of either kind, and the job, of these fields
abbrev pub lane_meant : declared.Lane.Lane → model.Lane
lane_meant l = record { from = l.from; to = l.to; charge = model.flat l.cost }

abbrev pub measured_meant : declared.MeasuredLane.MeasuredLane → model.Lane
measured_meant l = record { from = l.from; to = l.to; charge = model.measured l.length l.class }

unfoldable pub job_of : List ℕ → declared.JobFields.JobFields → model.Job
job_of input j = record { start = j.start; allowance = j.allowance; goals = u16s j.goals input j.goals_at }

-- in the definitions' terms; a record that does not fit says nothing
unfoldable pub meant : List ℕ → Item → model.Item
meant input (Head s) = model.head (record { places = s.places; arcs = s.arcs })
meant input (Lane l) = model.lane (lane_meant l)
meant input (Measured l) = model.lane (measured_meant l)
meant input (Estimate e) = model.estimate (record { place = e.place; value = e.value })
meant input (Wait w) = model.wait (record { place = w.place; value = w.value })
meant input (Factors at) = model.own_factors (u16s 8 input at)
meant input (Default x) = model.default_estimate x
meant input (Job j) = model.job (job_of input j)
meant input Misfit = model.other
meant input Other = model.other

-- as far as the item has it itself: neither goals nor factors are read
abbrev pub of_map : Item → model.Item
of_map i = meant [] i

-- the table in force: the factors that begin at this byte, or the fixed ones where there is none
unfoldable pub table_at : List ℕ → Option ℕ → List ℕ
table_at input None = fixed_factors
table_at input (Some at) = u16s 8 input at

-- and they lie in the input
abbrev pub TableLies : List ℕ → Option ℕ → Type 0
TableLies input table = (at : ℕ) → table ≡ Some at → at + model.factors_bytes ≤ length input

-- the factors in force are these, and begin there
pub record InForce (input : List ℕ) (at : Option ℕ) (factors : List ℕ) : Type 0 where
  pub lie : TableLies input at
  pub are : table_at input at ≡ factors

-- a charge that is in range and costs no more than an arc may
pub record Priced (factors : List ℕ) (c : model.Charge) : Type 0 where
  pub measure : mismeasured c ≡ false
  pub cost : cost_under factors c ≤ max_cost

-- where the body ends, by what it says
unfoldable pub end_by : declared.Record.Record → Item → ℕ
end_by r (Head s) = r.start + model.head_bytes
end_by r (Lane l) = r.start + model.arc_bytes
end_by r (Measured l) = r.start + model.measured_bytes
end_by r (Estimate e) = r.start + model.estimate_bytes
end_by r (Wait w) = r.start + model.wait_bytes
end_by r (Factors at) = at + model.factors_bytes
end_by r (Default x) = r.start + model.default_bytes
end_by r (Job j) = j.goals_at + 2 * j.goals
end_by r Misfit = r.end
end_by r Other = r.end

-- where the body begins, by what it says
unfoldable pub start_by : declared.Record.Record → Item → ℕ
start_by r (Head s) = r.start
start_by r (Lane l) = r.start
start_by r (Measured l) = r.start
start_by r (Estimate e) = r.start
start_by r (Wait w) = r.start
start_by r (Factors at) = at
start_by r (Default x) = r.start
start_by r (Job j) = r.start
start_by r Misfit = r.start
start_by r Other = r.start

abbrev pub EndsBy : declared.Record.Record → Item → Type 0
EndsBy r i = end_by r i ≡ r.end

-- the record's body lies in the input
pub record LiesIn (input : List ℕ) (r : declared.Record.Record) : Type 0 where
  pub forward : r.start ≤ r.end
  pub ends : r.end ≤ length input

-- and it has the length of its kind
pub record FitsIn (input : List ℕ) (r : declared.Record.Record) : Type 0 where
  pub lies : LiesIn input r
  pub fits : model.misfits (record_in input r) ≡ false

-- the record r of the input says i
pub record Says (input : List ℕ) (r : declared.Record.Record) (i : Item) : Type 0 where
  pub misfit : model.misfits (record_in input r) ≡ is_misfit i
  pub item : is_misfit i ≡ false → model.item_of (record_in input r) ≡ meant input i
  pub begins : start_by r i ≡ r.start
  pub ends : EndsBy r i
