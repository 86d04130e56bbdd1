-- The pass over the records: what each is given by itself, what is noted of it, and what that then says of all records.
use Rattle.std.specs.Prelude.{◌≡◌, Bool, true, false, cond, not, ◌||◌, ℕ, ◌+◌, ◌*◌, ◌^◌, ◌≤◌, ◌<◌, min, ltb, leb, eqb, length, get_or, drop}
use mathlib.Core.List.{List, [], ◌∷◌, ◌++◌, map, head_d}
use Rattle.std.proofs.Math.Option.{Option, none, some}
use Rattle.judge.specs.declared.survey.Survey.{Survey}
use Rattle.judge.specs.Numbers.{Given, no_number, number_or, given_number, earlier}
use Rattle.judge.specs.Marks.{mark_of, first_mark, marked, marked_by}
use Rattle.std.specs.Prelude as std
use Rattle.std.specs.Prelude.{Some, None}
use Rattle.map.specs.declared.refusal.Refusal.TheVariants.{UnknownKind, WrongLength, WrongHead, OutsideMap, FreeArc, LargeEstimate, TwoEstimates, WrongMeasure}
use Rattle.map.specs.declared.record as declared
use Rattle.map.specs.declared.record.Item.{Item}
use Rattle.map.specs.declared.record.Item.TheVariants.{Head, Lane, Measured, Estimate, Wait, Factors, Default, Job, Misfit, Other}
use Rattle.map.specs.Items.{job_of, InForce}
use Rattle.model.specs.Framing.{Record, frame}
use Rattle.model.specs.Items as model
use Rattle.model.specs.Limits.{max_places, max_estimate, max_length, max_class}
use Rattle.model.specs.Lists.{any, is_given, filter_map}
use Rattle.model.specs.Refusals.{Row, row, unknown_kind, wrong_length, ends_with_job, form_rows, map_rows, first_that_holds}
use Rattle.model.specs.Stated.{Stated, no_size, no_job, fixed_factors, stated_by, stated_in, lookup, default}

-- ---- What a record is given by itself

-- what a record is given that is no head and may stand anywhere but first
abbrev pub headless : Bool → Given
headless first = cond first (Some WrongHead) None

abbrev pub cost_refusal : ℕ → Given
cost_refusal cost = cond (eqb cost 0) (Some FreeArc) None

abbrev pub measure_refusal : (length class : ℕ) → Given
measure_refusal length class = cond (ltb length 1 || ltb max_length length || ltb max_class class) (Some WrongMeasure) None

-- own: what its cost or its measure is given
abbrev pub lane_refusal : Bool → (n from to : ℕ) → (own : Given) → Given
lane_refusal first n from to own = cond first (Some WrongHead) (cond (leb n from || leb n to) (Some OutsideMap) own)

-- of a place or as a default alike
abbrev pub value_refusal : Bool → ℕ → Given
value_refusal again value = cond (ltb max_estimate value) (Some LargeEstimate) (cond again (Some TwoEstimates) None)

-- again: its place has an estimate already
abbrev pub estimate_refusal : Bool → ℕ → Bool → declared.PlaceValue.PlaceValue → Given
estimate_refusal first n again e = cond first (Some WrongHead) (cond (leb n e.place) (Some OutsideMap) (value_refusal again e.value))

-- again: there is a default already
abbrev pub default_refusal : Bool → Bool → ℕ → Given
default_refusal first again value = cond first (Some WrongHead) (value_refusal again value)

-- two waits for one place, and an arc that is too dear with its wait, are looked for later
abbrev pub wait_refusal : Bool → (n place : ℕ) → Given
wait_refusal first n place = cond first (Some WrongHead) (cond (leb n place) (Some OutsideMap) None)

unfoldable pub given : Bool → ℕ → Bool → Item → Given
given first n again (Head z) = cond first None (Some WrongHead)
given first n again (Lane l) = lane_refusal first n l.from l.to (cost_refusal l.cost)
given first n again (Measured l) = lane_refusal first n l.from l.to (measure_refusal l.length l.class)
given first n again (Estimate e) = estimate_refusal first n again e
given first n again (Wait w) = wait_refusal first n w.place
given first n again (Factors at) = headless first
given first n again (Default x) = default_refusal first again x
given first n again (Job j) = headless first
given first n again Misfit = Some WrongLength
given first n again Other = Some UnknownKind

-- ---- What is noted of a record

-- no places where they are more than a map can have
abbrev pub few_places : ℕ → ℕ
few_places n = cond (ltb max_places n) 0 n

-- with one record more, which is given this refusal or none
abbrev pub passed : Survey → Given → Survey
passed s refusal =
    record {
      refusal = earlier s.refusal refusal;
      records = s.records + 1;
      places = s.places;
      arcs = s.arcs;
      lanes = s.lanes;
      waits = s.waits;
      tables = s.tables;
      factors_at = s.factors_at;
      defaults = s.defaults;
      default = s.default;
      jobs = s.jobs;
      job_last = false;
      job = s.job;
    }

abbrev pub opened : Survey → declared.Size.Size → Survey
opened s z =
    record {
      refusal = s.refusal;
      records = s.records;
      places = few_places z.places;
      arcs = z.arcs;
      lanes = s.lanes;
      waits = s.waits;
      tables = s.tables;
      factors_at = s.factors_at;
      defaults = s.defaults;
      default = s.default;
      jobs = s.jobs;
      job_last = s.job_last;
      job = s.job;
    }

unfoldable pub with_head : Survey → declared.Size.Size → Survey
with_head s z = cond (eqb s.records 0) (opened (passed s None) z) (passed s (Some WrongHead))

unfoldable pub with_lane : Survey → (from to : ℕ) → (own : Given) → Survey
with_lane s from to own =
    let t = passed s (lane_refusal (eqb s.records 0) s.places from to own) in
    record {
      refusal = t.refusal;
      records = t.records;
      places = t.places;
      arcs = t.arcs;
      lanes = t.lanes + 1;
      waits = t.waits;
      tables = t.tables;
      factors_at = t.factors_at;
      defaults = t.defaults;
      default = t.default;
      jobs = t.jobs;
      job_last = t.job_last;
      job = t.job;
    }

unfoldable pub with_wait : Survey → ℕ → Survey
with_wait s place =
    let t = passed s (wait_refusal (eqb s.records 0) s.places place) in
    record {
      refusal = t.refusal;
      records = t.records;
      places = t.places;
      arcs = t.arcs;
      lanes = t.lanes;
      waits = t.waits + 1;
      tables = t.tables;
      factors_at = t.factors_at;
      defaults = t.defaults;
      default = t.default;
      jobs = t.jobs;
      job_last = t.job_last;
      job = t.job;
    }

-- a first table, whose factors begin at byte `at`, replaces the fixed one
abbrev pub first_table : (tables : ℕ) → (noted : std.Option ℕ) → (at : ℕ) → std.Option ℕ
first_table tables noted at = cond (eqb tables 0) (Some at) noted

-- second tables and the rules of factors are looked for later
unfoldable pub with_factors : Survey → ℕ → Survey
with_factors s at =
    let t = passed s (headless (eqb s.records 0)) in
    record {
      refusal = t.refusal;
      records = t.records;
      places = t.places;
      arcs = t.arcs;
      lanes = t.lanes;
      waits = t.waits;
      tables = t.tables + 1;
      factors_at = first_table s.tables s.factors_at at;
      defaults = t.defaults;
      default = t.default;
      jobs = t.jobs;
      job_last = t.job_last;
      job = t.job;
    }

-- a first default replaces 0
abbrev pub first_default : (defaults noted value : ℕ) → ℕ
first_default defaults noted value = cond (eqb defaults 0) value noted

unfoldable pub with_default : Bool → Survey → ℕ → Survey
with_default again s value =
    let t = passed s (default_refusal (eqb s.records 0) again value) in
    record {
      refusal = t.refusal;
      records = t.records;
      places = t.places;
      arcs = t.arcs;
      lanes = t.lanes;
      waits = t.waits;
      tables = t.tables;
      factors_at = t.factors_at;
      defaults = t.defaults + 1;
      default = first_default s.defaults s.default value;
      jobs = t.jobs;
      job_last = t.job_last;
      job = t.job;
    }

unfoldable pub with_job : Survey → declared.JobFields.JobFields → Survey
with_job s j =
    let t = passed s (headless (eqb s.records 0)) in
    record {
      refusal = t.refusal;
      records = t.records;
      places = t.places;
      arcs = t.arcs;
      lanes = t.lanes;
      waits = t.waits;
      tables = t.tables;
      factors_at = t.factors_at;
      defaults = t.defaults;
      default = t.default;
      jobs = t.jobs + 1;
      job_last = true;
      job = j;
    }

unfoldable pub noted : Bool → Survey → Item → Survey
noted again s (Head z) = with_head s z
noted again s (Lane l) = with_lane s l.from l.to (cost_refusal l.cost)
noted again s (Measured l) = with_lane s l.from l.to (measure_refusal l.length l.class)
noted again s (Estimate e) = passed s (estimate_refusal (eqb s.records 0) s.places again e)
noted again s (Wait w) = with_wait s w.place
noted again s (Factors at) = with_factors s at
noted again s (Default x) = with_default again s x
noted again s (Job j) = with_job s j
noted again s Misfit = passed s (Some WrongLength)
noted again s Other = passed s (Some UnknownKind)

-- its place has an estimate already, by the marks; or there is a default already
unfoldable pub again_in : Survey → List ℕ → Item → Bool
again_in s marks (Head z) = false
again_in s marks (Lane l) = false
again_in s marks (Measured l) = false
again_in s marks (Estimate e) = marked s.places marks e.place
again_in s marks (Wait w) = false
again_in s marks (Factors at) = false
again_in s marks (Default x) = not (eqb s.defaults 0)
again_in s marks (Job j) = false
again_in s marks Misfit = false
again_in s marks Other = false

-- the marks with its own
unfoldable pub marks_by : ℕ → List ℕ → Item → List ℕ
marks_by n marks (Head z) = marks
marks_by n marks (Lane l) = marks
marks_by n marks (Measured l) = marks
marks_by n marks (Estimate e) = marked_by mark_of n marks e.place e.value
marks_by n marks (Wait w) = marks
marks_by n marks (Factors at) = marks
marks_by n marks (Default x) = marks
marks_by n marks (Job j) = marks
marks_by n marks Misfit = marks
marks_by n marks Other = marks

pub record Noted (marks₀ : List ℕ) (s : Survey) (i : Item) (marks : List ℕ) (t : Survey) : Type 0 where
  pub survey : t ≡ noted (again_in s marks₀ i) s i
  pub mark : marks ≡ marks_by s.places marks₀ i

-- the counts have room for one record more
pub record Counted (s : Survey) : Type 0 where
  pub records : s.records < 2 ^ 63
  pub lanes : s.lanes ≤ s.records
  pub waits : s.waits ≤ s.records
  pub tables : s.tables ≤ s.records
  pub defaults : s.defaults ≤ s.records
  pub jobs : s.jobs ≤ s.records
  pub places : s.places ≤ max_places

-- ---- What it says of all records

-- what a record says that fits; another says nothing
unfoldable pub said_of : Record → model.Item
said_of r = cond (model.misfits r) model.other (model.item_of r)

unfoldable pub said : List Record → List model.Item
said rs = map said_of rs

abbrev pub size_or : Option model.Size → model.Size
size_or none = no_size
size_or (some z) = z

-- what the first item states, if it is a head
unfoldable pub opening : List model.Item → model.Size
opening [] = no_size
opening (i ∷ is) = size_or (model.size_in i)

abbrev pub is_head : model.Item → Bool
is_head i = is_given (model.size_in i)

-- a first item that is no head, or a head that is not first
unfoldable pub stray : List model.Item → Bool
stray [] = false
stray (i ∷ is) = not (is_head i) || any is_head is

abbrev pub job_or : model.Job → Option model.Job → model.Job
job_or d none = d
job_or d (some j) = j

-- the last job among the items, d where there is none
unfoldable pub last_job : model.Job → List model.Item → model.Job
last_job d [] = d
last_job d (i ∷ is) = last_job (job_or d (model.job_in i)) is

-- the same, with n places
unfoldable pub placed : ℕ → Stated → Stated
placed n s =
    record {
      size = record { places = n; arcs = s.size.arcs };
      lanes = s.lanes;
      estimates = s.estimates;
      defaults = s.defaults;
      waits = s.waits;
      factors = s.factors;
      growth = s.growth;
      job = s.job;
    }

-- the conditions of 2 to 4, 6 to 9 and 20, of items on a map of n places
unfoldable pub item_rows : (unknown misfit : Bool) → ℕ → List model.Item → List Row
item_rows unknown misfit n is = row 2 unknown ∷ row 3 misfit ∷ row 4 (stray is) ∷ map_rows (placed n (stated_by is))

-- the survey of the records rs
pub record Notes (input : List ℕ) (rs : List Record) (marks : List ℕ) (s : Survey) : Type 0 where
  pub number : given_number s.refusal ≡ number_or no_number (item_rows (unknown_kind (model.items rs)) (wrong_length rs) s.places (said rs))
  pub records : s.records ≡ length rs
  pub places : s.places ≡ few_places (opening (said rs)).places
  pub arcs : s.arcs ≡ (opening (said rs)).arcs
  pub lanes : s.lanes ≡ length (filter_map model.lane_in (said rs))
  pub waits : s.waits ≡ length (filter_map model.wait_in (said rs))
  pub tables : s.tables ≡ length (filter_map model.factors_in (said rs))
  pub factors : InForce input s.factors_at (head_d (filter_map model.factors_in (said rs)) fixed_factors)
  pub defaults : s.defaults ≡ length (filter_map model.default_in (said rs))
  pub default : s.default ≡ head_d (filter_map model.default_in (said rs)) 0
  pub jobs : s.jobs ≡ length (filter_map model.job_in (said rs))
  pub job_last : s.job_last ≡ ends_with_job (said rs)
  pub job : job_of input s.job ≡ last_job no_job (said rs)
  pub room : length marks ≡ max_places
  pub mark : (v : ℕ) → get_or marks v 0 ≡ cond (ltb v s.places) (first_mark mark_of (filter_map model.estimate_in (said rs)) v) 0

-- the survey of the records before byte `at`
pub record Walked (input : List ℕ) (at : ℕ) (marks : List ℕ) (s : Survey) : Type 0 where
  pub inside : at ≤ length input
  pub passed : List Record
  pub split : (frame input).records ≡ passed ++ (frame (drop at input)).records
  pub broken : (frame input).broken ≡ (frame (drop at input)).broken
  pub few : length passed ≤ at
  pub notes : Notes input passed marks s
  pub goals_end : s.job_last ≡ true → s.job.goals_at + 2 * s.job.goals ≡ at

-- with the refusal of an input that has no record
unfoldable pub at_end : Survey → Survey
at_end s =
    record {
      refusal = cond (eqb s.records 0) (Some WrongHead) s.refusal;
      records = s.records;
      places = s.places;
      arcs = s.arcs;
      lanes = s.lanes;
      waits = s.waits;
      tables = s.tables;
      factors_at = s.factors_at;
      defaults = s.defaults;
      default = s.default;
      jobs = s.jobs;
      job_last = s.job_last;
      job = s.job;
    }

-- the mark of each of n places says whether its estimate is above 0
abbrev pub MarksTell : (input marks : List ℕ) → ℕ → Type 0
MarksTell input marks n = (v : ℕ) → v < n → eqb (get_or marks v 0) 2 ≡ not (eqb (lookup 0 (stated_in input).estimates v) 0)

-- what a survey states of an input of which none of 1 to 4 holds
pub record Stating (input : List ℕ) (marks : List ℕ) (s : Survey) : Type 0 where
  pub places : s.places ≡ few_places (stated_in input).size.places
  pub arcs : s.arcs ≡ (stated_in input).size.arcs
  pub lanes : s.lanes ≡ length (stated_in input).lanes
  pub waits : s.waits ≡ length (stated_in input).waits
  pub tables : s.tables ≡ length (filter_map model.factors_in (model.items (frame input).records))
  pub factors : InForce input s.factors_at (stated_in input).factors
  pub default : s.default ≡ default (stated_in input)
  pub jobs : s.jobs ≡ length (filter_map model.job_in (model.items (frame input).records))
  pub job_last : s.job_last ≡ ends_with_job (model.items (frame input).records)
  pub job : s.jobs ≡ 1 → job_of input s.job ≡ (stated_in input).job
  pub goals_end : s.job_last ≡ true → s.job.goals_at + 2 * s.job.goals ≡ length input
  pub estimated : MarksTell input marks s.places

-- the survey of a whole input
pub record Surveyed (input : List ℕ) (marks : List ℕ) (s : Survey) : Type 0 where
  pub number : given_number s.refusal ≡ number_or no_number (form_rows (frame input) ++ map_rows (placed s.places (stated_in input)))
  pub states : first_that_holds (form_rows (frame input)) ≡ 0 → Stating input marks s
