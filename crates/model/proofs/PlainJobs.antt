-- The job of a problem with 4,096 places, no estimates and one goal states that problem. Assumes nothing.
use mathlib.Core.Path.{◌≡◌, refl, sym, ap, ap₂, ◌∙◌}
use mathlib.Core.Bool.{Bool, true, false, cond}
use mathlib.Core.List.{List, [], ◌∷◌, ◌++◌, map, head_d, append-nil, append_assoc}
use mathlib.Core.List.Memᴰ
use mathlib.Core.List.{Memᴰ}
use mathlib.Core.Option.{Option, none}
use Prim.Native.Nat.{ℕ, ◌+◌, ◌≤◌, ◌<◌}
use native.Mathlib.Omega.{arith}
use lib.ListN.{length}
use Rattle.model.specs.Lists.{filter_map, cons_if, member}
use Rattle.model.specs.Bytes.{Bytes, u16, u32, u16s, put16, put32, put16s}
use Rattle.model.specs.Framing.{Record, frame, put_record}
use Rattle.model.specs.Limits.{max_places, max_arcs}
use Rattle.model.specs.Problem.{Problem, Arc, Valid}
use Rattle.model.specs.Items.{head_kind, arc_kind, job_kind, Lane, flat, Item, head, lane, job, head_of, lane_of, job_of, item_of, items}
use Rattle.model.specs.Items.{size_in, lane_in, estimate_in, job_in, wait_in, factors_in, default_in}
use Rattle.model.specs.Stated.{Stated, fixed_factors, stated_by, stated, lookup, default, estimate_at, cost_under, lane_cost, wait_at, arc_of}
use Rattle.model.specs.Stated.{problem_of}
use Rattle.model.specs.Jobs.{put_head, put_arc, put_job, ample}
use Rattle.model.proofs.Bytes.{two_bytes, append_bytes, put16_is_bytes, put32_is_bytes, put16s_is_bytes}
use Rattle.model.proofs.Records.{put_records, Fits, AllFit, put_records_is_bytes, frame_records}

-- ---- The problem and its job

unfoldable pub plain : List Arc → ℕ → ℕ → Problem
plain arcs start goal =
    record { places = max_places; arcs = arcs; estimate = λ v. 0; start = start; goals = goal ∷ []; growth = 2 }

unfoldable pub put_arcs : List Arc → List ℕ
put_arcs [] = []
put_arcs (a ∷ arcs) = put_arc a.from a.to a.cost ++ put_arcs arcs

unfoldable pub plain_job : List Arc → ℕ → ℕ → List ℕ
plain_job arcs start goal = put_head max_places (length arcs) ++ put_arcs arcs ++ put_job start ample (goal ∷ [])

-- ---- Its records

abbrev head_body : ℕ → List ℕ
head_body m = put16 max_places ++ put16 m

abbrev arc_body : Arc → List ℕ
arc_body a = put16 a.from ++ put16 a.to ++ put16 a.cost

abbrev job_body : ℕ → ℕ → List ℕ
job_body start goal = put16 start ++ put32 ample ++ put16 1 ++ put16s (goal ∷ [])

abbrev arc_record : Arc → Record
arc_record a = record { kind = arc_kind; body = arc_body a }

abbrev head_record : ℕ → Record
head_record m = record { kind = head_kind; body = head_body m }

abbrev job_record : ℕ → ℕ → Record
job_record start goal = record { kind = job_kind; body = job_body start goal }

-- arcs, and then other records
unfoldable pub with_arcs : List Arc → List Record → List Record
with_arcs [] rs = rs
with_arcs (a ∷ arcs) rs = arc_record a ∷ with_arcs arcs rs

unfoldable pub plain_records : List Arc → ℕ → ℕ → List Record
plain_records arcs start goal = head_record (length arcs) ∷ with_arcs arcs (job_record start goal ∷ [])

with_arcs_put : (arcs : List Arc) (rs : List Record) → put_records (with_arcs arcs rs) ≡ put_arcs arcs ++ put_records rs
unfolding with_arcs put_records put_arcs put_arc
with_arcs_put [] rs = refl
with_arcs_put (a ∷ arcs) rs = rw (with_arcs_put arcs rs) (sym (append_assoc (put_record arc_kind (arc_body a)) (put_arcs arcs) (put_records rs)))

plain_records_put : (arcs : List Arc) (start goal : ℕ) → put_records (plain_records arcs start goal) ≡ plain_job arcs start goal
unfolding plain_records plain_job put_records put_head put_job
plain_records_put arcs start goal =
    let head : List ℕ = put_record head_kind (head_body (length arcs)) in
    let job : List ℕ = put_record job_kind (job_body start goal) in
    rw (with_arcs_put, append-nil job) (sym (append_assoc head (put_arcs arcs) job))

-- ---- They fit

-- a short body of bytes, of a kind below 5
fits : (kind : ℕ) (body : List ℕ) → kind < 5 → length body ≤ 10 → Bytes body → Fits (record { kind = kind; body = body })
fits kind body k l B = record { kind_below = omega arith; length_below = omega arith; bytes = B }

two_fields : (x y : ℕ) → Bytes (put16 x ++ put16 y)
two_fields x y = append_bytes (put16 x) (put16 y) (put16_is_bytes x) (put16_is_bytes y)

arc_fits : (a : Arc) → Fits (arc_record a)
unfolding put16
arc_fits a =
    let bytes : Bytes (arc_body a)
    = append_bytes (put16 a.from ++ put16 a.to) (put16 a.cost) (two_fields a.from a.to) (put16_is_bytes a.cost) in
    fits arc_kind (arc_body a) (omega arith) (omega arith) bytes

head-fits : (m : ℕ) → Fits (head_record m)
unfolding put16
head-fits m = fits head_kind (head_body m) (omega arith) (omega arith) (two_fields max_places m)

job_fits : (start goal : ℕ) → Fits (job_record start goal)
unfolding put16 put32 put16s
job_fits start goal =
    let front : List ℕ = put16 start ++ put32 ample in
    let two : Bytes front = append_bytes (put16 start) (put32 ample) (put16_is_bytes start) (put32_is_bytes ample) in
    let three : Bytes (front ++ put16 1) = append_bytes front (put16 1) two (put16_is_bytes 1) in
    let bytes : Bytes (job_body start goal) = append_bytes (front ++ put16 1) (put16s (goal ∷ [])) three (put16s_is_bytes (goal ∷ [])) in
    fits job_kind (job_body start goal) (omega arith) (omega arith) bytes

with_arcs_fit : (arcs : List Arc) (rs : List Record) → AllFit rs → AllFit (with_arcs arcs rs)
unfolding with_arcs
with_arcs_fit [] rs fit r i = fit r i
with_arcs_fit (a ∷ arcs) rs fit r (Memᴰ.head e) = rw e (arc_fits a)
with_arcs_fit (a ∷ arcs) rs fit r (Memᴰ.tail i) = with_arcs_fit arcs rs fit r i

plain_fit : (arcs : List Arc) (start goal : ℕ) → AllFit (plain_records arcs start goal)
unfolding plain_records
plain_fit arcs start goal r (Memᴰ.head e) = rw e (head-fits (length arcs))
plain_fit arcs start goal r (Memᴰ.tail i) = with_arcs_fit arcs (job_record start goal ∷ []) last r i
  where
    last : AllFit (job_record start goal ∷ [])
    last r (Memᴰ.head e) = rw e (job_fits start goal)
    last r (Memᴰ.tail i) = absurd (Memᴰ.not-nil i)

pub plain_bytes : (arcs : List Arc) (start goal : ℕ) → Bytes (plain_job arcs start goal)
plain_bytes arcs start goal =
    rw (← plain_records_put arcs start goal) (put_records_is_bytes (plain_records arcs start goal) (plain_fit arcs start goal))

pub plain_framed : (arcs : List Arc) (start goal : ℕ)
    → frame (plain_job arcs start goal) ≡ record { records = plain_records arcs start goal; broken = false }
plain_framed arcs start goal =
    rw (← plain_records_put arcs start goal) (frame_records (plain_records arcs start goal) (plain_fit arcs start goal))

-- ---- What they say

abbrev pub flat_lane : Arc → Lane
flat_lane a = record { from = a.from; to = a.to; charge = flat a.cost }

abbrev said_by : Arc → Item
said_by a = lane (flat_lane a)

unfoldable pub plain_items : List Arc → ℕ → ℕ → List Item
plain_items arcs start goal =
    head (record { places = max_places; arcs = length arcs })
    ∷ (map said_by arcs ++ (job (record { start = start; allowance = ample; goals = goal ∷ [] }) ∷ []))

unfoldable pub plain_stated : List Arc → ℕ → ℕ → Stated
plain_stated arcs start goal =
    record {
      size = record { places = max_places; arcs = length arcs };
      lanes = map flat_lane arcs;
      estimates = [];
      defaults = [];
      waits = [];
      factors = fixed_factors;
      growth = 2;
      job = record { start = start; allowance = ample; goals = goal ∷ [] };
    }

-- a test of items that the lanes do not pass
module _ {A : Type 0} (f : Item → Option A) (none_of : (a : Arc) → f (said_by a) ≡ none) where
  pub lanes_give_none : (arcs : List Arc) (is : List Item) → filter_map f (map said_by arcs ++ is) ≡ filter_map f is
  unfolding filter_map cons_if
  lanes_give_none [] is = refl
  lanes_give_none (a ∷ arcs) is = rw (none_of a) (lanes_give_none arcs is)

lanes_given : (arcs : List Arc) (is : List Item) → filter_map lane_in (map said_by arcs ++ is) ≡ map flat_lane arcs ++ filter_map lane_in is
unfolding filter_map cons_if lane_in
lanes_given [] is = refl
lanes_given (a ∷ arcs) is = ap {B = List Lane} (λ ls. flat_lane a ∷ ls) (lanes_given arcs is)

pub plain_states : (arcs : List Arc) (start goal : ℕ) → stated_by (plain_items arcs start goal) ≡ plain_stated arcs start goal
unfolding plain_items plain_stated stated_by filter_map cons_if size_in lane_in estimate_in job_in wait_in factors_in default_in head_d
plain_states arcs start goal =
    let last : List Item = job (record { start = start; allowance = ample; goals = goal ∷ [] }) ∷ [] in
    let jobs = lanes_give_none job_in (λ a. refl) arcs last in
    let estimates = lanes_give_none estimate_in (λ a. refl) arcs last in
    let defaults = lanes_give_none default_in (λ a. refl) arcs last in
    let waits = lanes_give_none wait_in (λ a. refl) arcs last in
    let factors = lanes_give_none factors_in (λ a. refl) arcs last in
    let lanes = lanes_given arcs last ∙ append-nil (map flat_lane arcs) in
    λ i. record {
      size = record { places = max_places; arcs = length arcs };
      lanes = lanes i;
      estimates = estimates i;
      defaults = defaults i;
      waits = waits i;
      factors = head_d (factors i) fixed_factors;
      growth = 2;
      job = head_d (jobs i) (record { start = 0; allowance = 0; goals = [] });
    }

-- where no place waits, the arc of a flat lane costs what the lane does
pub plain_arc : (s : Stated) → s.waits ≡ [] → (a : Arc) → arc_of s (flat_lane a) ≡ a
unfolding arc_of lane_cost wait_at cost_under lookup
plain_arc s no-wait a =
    let cost : a.cost + lookup 0 s.waits a.from ≡ a.cost = rw no-wait (omega arith) in
    λ i. record { from = a.from; to = a.to; cost = cost i }

arcs_back : (s : Stated) → s.waits ≡ [] → (arcs : List Arc) → map (arc_of s) (map flat_lane arcs) ≡ arcs
arcs_back s no-wait [] = refl
arcs_back s no-wait (a ∷ arcs) = ap₂ {C = List Arc} ◌∷◌ (plain_arc s no-wait a) (arcs_back s no-wait arcs)

pub plain_problem : (arcs : List Arc) (start goal : ℕ) → problem_of (plain_stated arcs start goal) ≡ plain arcs start goal
unfolding plain problem_of plain_stated default estimate_at lookup head_d
plain_problem arcs start goal = λ i.
    record {
      places = max_places;
      arcs = arcs_back (plain_stated arcs start goal) refl arcs i;
      estimate = λ v. go (member v (goal ∷ [])) i;
      start = start;
      goals = goal ∷ [];
      growth = 2;
    }
  where
    -- a goal or not
    go : (t : Bool) → ◌≡◌ {A = ℕ} (cond t 0 0) 0
    go true = refl
    go false = refl

-- ---- The fields are read back

lane_read : (a : Arc) → a.from < 65536 → a.to < 65536 → a.cost < 65536 → lane_of (arc_body a) ≡ flat_lane a
unfolding lane_of u16 put16
lane_read a f t c = rw (two_bytes a.from f, two_bytes a.to t, two_bytes a.cost c)

module _ (arcs : List Arc) (start goal : ℕ) (few : length arcs ≤ max_arcs) (ok : Valid (plain arcs start goal)) where
  arcs_said : (bs : List Arc) → ((a : Arc) → Memᴰ a bs → Memᴰ a arcs) → (rs : List Record)
      → items (with_arcs bs rs) ≡ map said_by bs ++ items rs
  unfolding plain items item_of with_arcs
  arcs_said [] in-arcs rs = refl
  arcs_said (a ∷ bs) in-arcs rs =
      let i = in-arcs a (Memᴰ.head refl) in
      let read = lane_read a (omega (arith, ok.arc_from a i)) (omega (arith, ok.arc_to a i)) (omega (arith, ok.cost_below a i)) in
      rw read (ap {B = List Item} (λ is. said_by a ∷ is) (arcs_said bs (λ c j. in-arcs c (Memᴰ.tail j)) rs))

  job_read : job_of (job_body start goal) ≡ record { start = start; allowance = ample; goals = goal ∷ [] }
  unfolding plain job_of u16 u32 u16s put16 put32 put16s
  job_read =
      let goal_below : goal < 65536 = omega (arith, ok.goal_below goal (Memᴰ.head refl)) in
      rw (two_bytes start (omega (arith, ok.start_below)), two_bytes goal goal_below)

  head_read : head_of (head_body (length arcs)) ≡ record { places = max_places; arcs = length arcs }
  unfolding head_of u16 put16
  head_read = rw (two_bytes (length arcs) (omega arith))

  pub plain_said : items (plain_records arcs start goal) ≡ plain_items arcs start goal
  unfolding plain_records plain_items items item_of
  plain_said =
      let said = arcs_said arcs (λ a i. i) (job_record start goal ∷ []) in
      rw (head_read) (ap {B = List Item} (λ is. head (record { places = max_places; arcs = length arcs }) ∷ is) (said ∙ rw job_read))

  pub plain_stated_lem : stated (plain_records arcs start goal) ≡ plain_stated arcs start goal
  unfolding stated
  plain_stated_lem = rw plain_said (plain_states arcs start goal)
