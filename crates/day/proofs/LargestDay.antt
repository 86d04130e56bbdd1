-- The largest cost of a day is attained: the map is a chain of all 4,096 places whose arcs cost 65,535 each, and 1,000 jobs go along all of it. So
-- 32 bits would not hold the cost. Assumes nothing.
use mathlib.Core.Path.{◌≡◌, refl, sym, ap, ap₂, ◌∙◌}
use mathlib.Core.Bool.{true}
use mathlib.Core.List.{List, [], ◌∷◌, ◌++◌, get_last_d, head_d, map-id}
use Prim.Native.Nat.{ℕ, suc, ◌+◌, ◌-◌, ◌*◌, ◌≤◌, ◌<◌}
use native.Mathlib.Omega.{arith}
use lib.ListN.{length, get_or, replicate, length-replicate, get_or-append}
use lib.Seq.{take-append_seam, drop-append_seam}
use Rattle.model.specs.Answer.{Result, route}
use Rattle.model.specs.Bytes.{Bytes, put16, put32, put16s}
use Rattle.model.specs.Calls.{Call, IsAccepted, Defined, Writes, result, written}
use Rattle.model.specs.Framing.{Record, frame, put_record}
use Rattle.model.specs.Items.{head_kind, arc_kind, job_kind}
use Rattle.model.specs.Jobs.{put_head, put_arc, put_job, shares, put_chain, ample, route_job}
use Rattle.model.specs.Limits.{max_places, max_cost}
use Rattle.model.specs.Lists.{below}
use Rattle.model.specs.Sheets.{Reading, reading, read_sheet, route_sheet}
use Rattle.model.proofs.Bytes.{take_bytes, drop_bytes, append_bytes}
use Rattle.model.proofs.Chains.{shares-length}
use Rattle.model.proofs.Lists.{below_length}
use Rattle.model.proofs.Promises.{comes, ends, valid, route_by_number, route_reads_back}
use Rattle.model.proofs.Realized.{route_written}
use Rattle.model.proofs.Records as records
use Rattle.model.proofs.Sheets.{Possible, route_read_back}
use Rattle.tally.specs.declared.Tally.{Tally}
use Rattle.jobs.specs.declared.Status.TheVariants.{Reported}
use Rattle.jobs.specs.Entries.{is_job}
use Rattle.jobs.specs.Figures.{Arrival, goal_of, arrival_of}
use Rattle.jobs.specs.Report.{max_input, max_entries}
use Rattle.jobs.proofs.ByKey.{value_at}
use Rattle.jobs.proofs.EntryLaws.{job_by_kind}
use Rattle.day.proofs.SameJobs.{IsMap, no_record_map, one_more_map, times, times_bytes, TimesAsMuch, same_day}
use Rattle.day.specs.Calls.{DayCall, reported, record_for}

-- ---- A chain of arcs and a job along it

-- the map of a chain, and the job from its first place to its last
pub chain_map : ℕ → List ℕ → List ℕ
chain_map cost places = put_head max_places (length places - 1) ++ put_chain places (shares (length places - 1) cost)

pub chain_job : List ℕ → List ℕ
chain_job places = put_job (head_d places 0) ample (get_last_d places 0 ∷ [])

map_and_job : (cost : ℕ) (places : List ℕ) → route_job cost places ≡ chain_map cost places ++ chain_job places
unfolding route_job chain_map chain_job
map_and_job cost places = refl

-- neither an arc nor the head is a job
arcs-map : (places costs : List ℕ) → IsMap (put_chain places costs)
unfolding put_chain put_arc put16
arcs-map [] costs = no_record_map
arcs-map (u ∷ []) costs = no_record_map
arcs-map (u ∷ v ∷ places) [] = no_record_map
arcs-map (u ∷ v ∷ places) (c ∷ costs) = one_more_map arc_kind _ _ (omega arith) (omega arith) (λ e. omega arith) (arcs-map (v ∷ places) costs)

pub chain-map : (cost : ℕ) (places : List ℕ) → IsMap (chain_map cost places)
unfolding chain_map put_head put16
chain-map cost places = one_more_map head_kind _ _ (omega arith) (omega arith) (λ e. omega arith) (arcs-map places _)

-- the arcs take 10 bytes each, and the head 8
arcs-length : (places costs : List ℕ) → length places ≡ suc (length costs) → length (put_chain places costs) ≡ 10 * length costs
unfolding put_chain put_arc put_record put16
arcs-length [] costs e = absurd (omega arith)
arcs-length (u ∷ []) costs e = omega arith
arcs-length (u ∷ v ∷ places) [] e = absurd (omega arith)
arcs-length (u ∷ v ∷ places) (c ∷ costs) e = omega (arith, arcs-length (v ∷ places) costs (omega arith))

pub chain_length : (cost : ℕ) (places : List ℕ) → 1 ≤ length places → length (chain_map cost places) ≡ 8 + 10 * (length places - 1)
unfolding chain_map put_head put_record put16
chain_length cost places some =
    let costs : length (shares (length places - 1) cost) ≡ length places - 1 = shares-length (length places - 1) cost in
    omega (arith, arcs-length places (shares (length places - 1) cost) (omega arith))

-- the job is one record of 14 bytes
job_record : List ℕ → Record
job_record places = record { kind = job_kind; body = put16 (head_d places 0) ++ put32 ample ++ put16 1 ++ put16s (get_last_d places 0 ∷ []) }

module _ (places : List ℕ) where
  job_framed : frame (chain_job places) ≡ records.alone (job_record places)
  unfolding chain_job job_record put_job put16 put32 put16s
  job_framed = records.frame-put_record job_kind (job_record places).body (omega arith) (omega arith)

  job_is_job : is_job (job_record places) ≡ true
  unfolding job_record
  job_is_job = job_by_kind (job_record places)

  job_length : length (chain_job places) ≡ 14
  unfolding chain_job put_job put_record put16 put32 put16s
  job_length = refl

-- ---- What it comes to

-- of a call that wrote this route, the answer has its cost, and the goal is its last place
module _ (c : Call) (A : IsAccepted c) (cost : ℕ) (places : List ℕ) (possible : Possible cost places)
    (routed : (result c).answer.number ≡ 0) (on_sheet : written (result c) ≡ route_sheet cost places) where
  read_off : read_sheet (written (result c)) ≡ reading 0 cost places
  read_off = ap read_sheet on_sheet ∙ route_read_back cost places possible

  cost_answered : (result c).answer.cost ≡ cost
  unfolding reading
  cost_answered =
      let back = route_reads_back (comes c A) (valid c A) (route_by_number (comes c A) (ends c A) routed) in
      ap (λ (s : Reading). s.cost) (sym back ∙ read_off)

  last_is_goal : goal_of (result c) ≡ get_or places (length places - 1) 0
  unfolding goal_of reading
  last_is_goal = rw read_off (get_or-append places _ 0 (length places - 1) (omega (arith, possible.some_place)))

-- bytes that come to this arrival with some areas
record Arrives (input : List ℕ) (x : Arrival) : Type 0 where
  work : List ℕ
  sheet : List ℕ
  bytes : Bytes input
  routed : (route input work sheet).answer.number ≡ 0
  arrival : arrival_of (route input work sheet) ≡ x

-- the job of a route arrives at its last place
arrives : {input : List ℕ} (cost : ℕ) (places : List ℕ) → Possible cost places → Writes Defined input 0 (route_sheet cost places)
    → Arrives input (record { goal = get_or places (length places - 1) 0; cost = cost })
unfolding arrival_of
arrives {input} cost places possible w =
    let c = w.call in
    let same : route input c.work c.sheet ≡ result c = ap (λ (i : List ℕ). route i c.work c.sheet) (sym w.is_job_lem) in
    let routed : (result c).answer.number ≡ 0 = ap (λ (r : Result). r.answer.number) (sym w.comes) ∙ w.number in
    let on_sheet : written (result c) ≡ route_sheet cost places = ap written (sym w.comes) ∙ w.on_sheet in
    let goal_is = last_is_goal c w.accepted cost places possible routed on_sheet in
    let cost-is = cost_answered c w.accepted cost places possible routed on_sheet in
    record {
      work = c.work;
      sheet = c.sheet;
      bytes = rw w.is_job_lem at c.bytes;
      routed = ap (λ (r : Result). r.answer.number) same ∙ routed;
      arrival = ap arrival_of same ∙ ap₂ (λ (g d : ℕ). record { goal = g; cost = d }) goal_is cost-is;
    }

-- ---- Its day

-- n records of a tally, with no routes yet
empty_tally : ℕ → List Tally
empty_tally n = replicate n (record { goal = 0; routes = 0; cost = 0 })

empty-length : (n : ℕ) → length (empty_tally n) ≡ n
unfolding empty_tally
empty-length n = length-replicate n _

-- For every route that can be there is a day with k jobs, each of which comes to it.
pub chain_day : (cost : ℕ) (places : List ℕ) → Possible cost places
    → (k : ℕ) → 8 + 10 * (length places - 1) + k * 14 ≤ max_input → k ≤ max_entries
    → (c : DayCall) × TimesAsMuch k (record { goal = get_or places (length places - 1) 0; cost = cost }) (reported c)
chain_day cost places possible k short few =
    let map = chain_map cost places in
    let job = chain_job places in
    let tally = empty_tally max_places in
    let a = arrives cost places possible (rw (map_and_job cost places) at (route_written cost places possible)) in
    let map_bytes : Bytes map = rw (take-append_seam map job) at (take_bytes (length map) (map ++ job) a.bytes) in
    let job-bytes : Bytes job = rw (drop-append_seam map job) at (drop_bytes (length map) (map ++ job) a.bytes) in
    let size : length map + k * length job ≤ max_input = rw (chain_length cost places possible.some_place, job_length places) short in
    let much =
    same_day map job (job_record places) (chain-map cost places) (job_framed places) (job_is_job places) a.bytes
    a.work a.sheet tally a.routed k size few (omega (arith, empty-length max_places)) in
    let c : DayCall = record {
      input = map ++ times k job;
      work = a.work;
      sheet = a.sheet;
      tally = tally;
      bytes = append_bytes map (times k job) map_bytes (times_bytes k job job-bytes);
    } in
    (c, rw a.arrival at much)

-- ---- All places in order

-- the i-th of them is i
place_is : (n i : ℕ) → i < n → get_or (below n) i 0 ≡ i
place_is n i l = ap (λ (ps : List ℕ). get_or ps i 0) (sym (map-id (below n))) ∙ value_at (λ i. i) 0 n i l

-- a route along the places 0 to n can cost 65,535 at each step
all_places : (n : ℕ) → n < max_places → Possible (n * max_cost) (below (suc n))
all_places n l =
    let size : length (below (suc n)) ≡ suc n = below_length (suc n) in
    record {
      some_place = omega arith;
      few_places_lem = omega arith;
      place_below = λ i m. omega (arith, place_is (suc n) i (omega arith));
      different = λ i j m o e. omega (arith, place_is (suc n) i (omega arith), place_is (suc n) j (omega arith));
      cost_above = omega arith;
      cost_below = omega arith;
    }

-- so there is a day of k jobs along them
all_places_day : (n k : ℕ) → n < max_places → 8 + 10 * n + k * 14 ≤ max_input → k ≤ max_entries
    → (c : DayCall) × TimesAsMuch k (record { goal = n; cost = n * max_cost }) (reported c)
all_places_day n k l short few =
    let last : length (below (suc n)) - 1 ≡ n = omega (arith, below_length (suc n)) in
    let day = chain_day (n * max_cost) (below (suc n)) (all_places n l) k (rw last short) few in
    rw (last, place_is (suc n) n (omega arith)) at day

-- There is a day that costs 1,000 × 4,095 × 65,535, all of it at one goal.
pub largest_day : (c : DayCall)
    × ((reported c).day.status ≡ Reported) × ((reported c).day.cost ≡ 268365825000) × ((record_for (reported c) 4095).cost ≡ 268365825000)
largest_day =
    let (c, much) = all_places_day 4095 1000 (omega arith) (omega arith) (omega arith) in
    (c, much.status, much.cost, much.at_goal (omega arith))
