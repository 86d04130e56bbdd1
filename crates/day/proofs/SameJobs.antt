-- A day with one job over and over behind its map: each time it comes to the same, so the day costs so many times as much. Assumes nothing.
use mathlib.Core.Path.{◌≡◌, refl, sym, ap, ap₂, ◌∙◌}
use mathlib.Core.Bool.{Bool, true, false, cond}
use mathlib.Core.List.{List, [], ◌∷◌, ◌++◌, flatten, cons-ne-nil, append-nil}
use Prim.Native.Nat.{ℕ, zero, suc, ◌+◌, ◌*◌, ◌≤◌, ◌<◌}
use native.Mathlib.Nat.{suc-mul}
use native.Mathlib.Omega.{arith}
use lib.ListN.{length, drop, replicate, length-append, length-drop, length-replicate}
use lib.Seq.{length-take-le, take-append_seam, drop-append_seam, take_at, drop_at}
use borrow.Author.Tests.{le-ltb, eq-eqb, ne_eqb}
use Rattle.model.specs.Answer.{Result, route}
use Rattle.model.specs.Bytes.{Bytes}
use Rattle.model.specs.Calls.{Alike}
use Rattle.model.specs.Framing.{Record, stop, push, frame, put_record}
use Rattle.model.specs.Items.{job_kind}
use Rattle.model.specs.Limits.{max_places}
use Rattle.model.specs.Lists.{filter}
use Rattle.model.specs.Sums.{sum_over}
use Rattle.model.proofs.Bytes.{append_bytes, no_bytes}
use Rattle.model.proofs.Framing.{frame-none, frame_put, frame_more, frame_whole, by_records}
use Rattle.model.proofs.Records as records
use Rattle.model.proofs.Promises.{lengths_decide}
use Rattle.tally.specs.declared.Tally.{Tally}
use Rattle.jobs.specs.declared.Status.TheVariants.{Reported}
use Rattle.jobs.specs.Entries.{alone, is_job, before_job, from_job, bytes_of, map_in, entry_of, entries_of, tail_of, entries}
use Rattle.jobs.specs.Figures.{result_of, results, has_number, Arrival, goal_of, arrival_of, arrivals, total_cost, ending_at}
use Rattle.jobs.specs.Report.{max_input, max_entries, too_long, figures, tally_of, tallied, DayResult, after_jobs, report}
use Rattle.jobs.proofs.ByKey.{value_before}
use Rattle.jobs.proofs.EntryLaws.{job_by_kind}
use Rattle.jobs.proofs.ResultLaws.{areas_keep}
use Rattle.day.specs.Calls.{record_for}

-- ---- A map

-- bytes that are whole records, none of them a job
pub record IsMap (m : List ℕ) : Type 0 where
  pub whole : (frame m).broken ≡ false
  pub no_job : before_job (frame m).records ≡ (frame m).records

pub no_record_map : IsMap []
unfolding stop before_job
no_record_map = record { whole = rw (frame-none [] refl); no_job = rw (frame-none [] refl) }

-- a record that is no job, and then a map
pub one_more_map : (kind : ℕ) (body rest : List ℕ) → kind < 65536 → length body < 65536 → (kind ≡ job_kind → ⊥)
    → IsMap rest → IsMap (put_record kind body ++ rest)
unfolding push before_job
one_more_map kind body rest k l other map =
    let r : Record = record { kind = kind; body = body } in
    let framed : frame (put_record kind body ++ rest) ≡ push r (frame rest) = frame_put kind body rest k l in
    let plain : is_job r ≡ false = job_by_kind r ∙ ne_eqb kind job_kind other in
    record { whole = rw framed map.whole; no_job = rw (framed, plain, map.no_job) }

-- whole records take as many bytes as there are
whole_length : (bs : List ℕ) → (frame bs).broken ≡ false → sum_over bytes_of (frame bs).records ≡ length bs
unfolding sum_over bytes_of stop push
whole_length = by_records AllTaken (rw (frame-none [] refl)) more
  where
    AllTaken : List ℕ → Type 0
    AllTaken bs = sum_over bytes_of (frame bs).records ≡ length bs

    more : (a b c d : ℕ) (rest : List ℕ) → a + 256 * b ≤ length rest → AllTaken (drop (a + 256 * b) rest) → AllTaken (a ∷ b ∷ c ∷ d ∷ rest)
    more a b c d rest h later =
        let n = a + 256 * b in
        rw (frame_more a b c d rest h) (omega (arith, later, length-take-le n rest h, length-drop n rest))

-- where records without a job stand in front, the first job is the first of what follows
before_behind : (xs ys : List Record) → before_job xs ≡ xs → (before_job (xs ++ ys) ≡ xs ++ before_job ys) × (from_job (xs ++ ys) ≡ from_job ys)
unfolding before_job from_job
before_behind [] ys e = (refl, refl)
before_behind (x ∷ xs) ys e = go (is_job x) e (before_behind xs ys)
  where
    go : (t : Bool) → cond t [] (x ∷ before_job xs) ≡ x ∷ xs
        → (before_job xs ≡ xs → (before_job (xs ++ ys) ≡ xs ++ before_job ys) × (from_job (xs ++ ys) ≡ from_job ys))
        → (cond t [] (x ∷ before_job (xs ++ ys)) ≡ x ∷ (xs ++ before_job ys)) × (cond t (x ∷ (xs ++ ys)) (from_job (xs ++ ys)) ≡ from_job ys)
    go true e later = absurd (cons-ne-nil x xs (sym e))
    go false e later =
        let (before, from) = later (cc) in
        (ap (λ (rs : List Record). x ∷ rs) before, from)

-- ---- The same job over and over

-- the bytes j, k times one after another
abbrev pub times : ℕ → List ℕ → List ℕ
times k j = flatten (replicate k j)

pub times-length : (k : ℕ) (j : List ℕ) → length (times k j) ≡ k * length j
unfolding flatten
times-length zero j = omega arith
times-length (suc k) j = omega (arith, length-append j (times k j), times-length k j, suc-mul k (length j))

pub times_bytes : (k : ℕ) (j : List ℕ) → Bytes j → Bytes (times k j)
unfolding flatten
times_bytes zero j B = no_bytes
times_bytes (suc k) j B = append_bytes j (times k j) B (times_bytes k j B)

-- a map m, and a job j of one record r
module _ (m j : List ℕ) (r : Record) (map : IsMap m) (framed : frame j ≡ records.alone r) (job : is_job r ≡ true) where
  times_framed : (k : ℕ) → frame (times k j) ≡ record { records = replicate k r; broken = false }
  unfolding flatten stop
  times_framed zero = frame-none [] refl
  times_framed (suc k) = rw (frame_whole j (times k j) (rw framed), framed, times_framed k)

  day_framed : (k : ℕ) → frame (m ++ times k j) ≡ record { records = (frame m).records ++ replicate k r; broken = false }
  day_framed k = rw (frame_whole m (times k j) map.whole, times_framed k)

  -- the first of them is the first job
  job_first : (k : ℕ) → (before_job (replicate k r) ≡ []) × (from_job (replicate k r) ≡ replicate k r)
  unfolding before_job from_job
  job_first zero = (refl, refl)
  job_first (suc k) = (rw job, rw job)

  -- so what stands before it is the map
  map_is : (k : ℕ) → map_in (m ++ times k j) ≡ m
  unfolding map_in
  map_is k =
      let (before, from) = before_behind (frame m).records (replicate k r) map.no_job in
      rw (day_framed k, before, (job_first k).0, append-nil (frame m).records, whole_length m map.whole) (take-append_seam m (times k j))

  own-length : length j ≡ bytes_of r
  unfolding sum_over
  own-length = omega (arith, rw framed at (whole_length j (rw framed)))

  each_entry : (k : ℕ) → entries_of m (replicate k r) (times k j) ≡ replicate k (alone (m ++ j))
  unfolding entries_of entry_of flatten
  each_entry zero = refl
  each_entry (suc k) =
      rw (take_at j (times k j) (bytes_of r) own-length, drop_at j (times k j) (bytes_of r) own-length, job, each_entry k)

  -- Each of them is an entry, with the map before it.
  pub same_jobs : (k : ℕ) → entries (m ++ times k j) ≡ replicate k (alone (m ++ j))
  unfolding entries tail_of
  same_jobs k =
      let (before, from) = before_behind (frame m).records (replicate k r) map.no_job in
      rw (map_is k, day_framed k, from, (job_first k).1, drop-append_seam m (times k j), each_entry k) (append-nil _)

-- ---- What they come to

-- results that are alike are one arrival
same_arrival : {r s : Result} → Alike r s → arrival_of r ≡ arrival_of s
unfolding arrival_of goal_of
same_arrival same = rw (same.sheets, same.numbers)

-- a route in front arrives first
arrives_first : (r : Result) (rs : List Result) → r.answer.number ≡ 0 → arrivals (r ∷ rs) ≡ arrival_of r ∷ arrivals rs
unfolding arrivals filter has_number
arrives_first r rs routed = rw (eq-eqb r.answer.number 0 routed)

-- a job that comes to a route
module _ (i work₀ sheet₀ : List ℕ) (B : Bytes i) (routed : (route i work₀ sheet₀).answer.number ≡ 0) where
  same_arrivals_in : (k : ℕ) (work sheet : List ℕ) → length work ≡ length work₀ → length sheet ≡ length sheet₀
      → arrivals (results (replicate k (alone i)) work sheet) ≡ replicate k (arrival_of (route i work₀ sheet₀))
  unfolding results result_of
  same_arrivals_in zero work sheet words bytes = unfold arrivals filter in refl
  same_arrivals_in (suc k) work sheet words bytes =
      let same = lengths_decide i B work work₀ sheet sheet₀ words bytes in
      let number : (route i work sheet).answer.number ≡ 0 = rw same.numbers routed in
      let (words-keep, bytes-keep) = areas_keep i work sheet in
      let later = same_arrivals_in k _ _ (words-keep ∙ words) (bytes-keep ∙ bytes) in
      arrives_first (route i work sheet) _ number ∙ ap₂ {C = List Arrival} ◌∷◌ (same_arrival same) later

  -- Run over and over it arrives each time, at the same goal and the same cost.
  pub same_arrivals : (k : ℕ) → arrivals (results (replicate k (alone i)) work₀ sheet₀) ≡ replicate k (arrival_of (route i work₀ sheet₀))
  same_arrivals k = same_arrivals_in k work₀ sheet₀ refl refl

-- equal arrivals cost so many times as much, and all of them end at their goal
pub times_cost : (k : ℕ) (x : Arrival) → total_cost (replicate k x) ≡ k * x.cost
unfolding total_cost sum_over
times_cost zero x = omega arith
times_cost (suc k) x = omega (arith, times_cost k x, suc-mul k x.cost)

pub times_ending : (k : ℕ) (x : Arrival) → ending_at x.goal (replicate k x) ≡ replicate k x
unfolding ending_at filter
times_ending zero x = refl
times_ending (suc k) x = rw (eq-eqb x.goal x.goal refl) (ap (λ (xs : List Arrival). x ∷ xs) (times_ending k x))

-- ---- Its day

-- what is neither too long nor lent too short a tally is reported
report_whole : (input work sheet : List ℕ) (tally : List Tally) → length input ≤ max_input → length (entries input) ≤ max_entries
    → max_places ≤ length tally → report input work sheet tally ≡ after_jobs (results (entries input) work sheet) work sheet tally
unfolding report too_long
report_whole input work sheet tally short few enough =
    rw (le-ltb max_input (length input) short, le-ltb max_entries (length (entries input)) few, le-ltb (length tally) max_places enough)

-- the day costs k times what the arrival x costs, all of it at its goal
pub record TimesAsMuch (k : ℕ) (x : Arrival) (d : DayResult) : Type 0 where
  pub status : d.day.status ≡ Reported
  pub cost : d.day.cost ≡ k * x.cost
  pub at_goal : x.goal < max_places → (record_for d x.goal).cost ≡ k * x.cost

pub same_arrivals_day : (k : ℕ) (x : Arrival) (rs : List Result) (work sheet : List ℕ) (tally : List Tally) → arrivals rs ≡ replicate k x
    → TimesAsMuch k x (after_jobs rs work sheet tally)
unfolding after_jobs figures tallied tally_of
same_arrivals_day k x rs work sheet tally are =
    let total : total_cost (arrivals rs) ≡ k * x.cost = rw are (times_cost k x) in
    let there : total_cost (ending_at x.goal (arrivals rs)) ≡ k * x.cost = rw (are, times_ending k x) (times_cost k x) in
    record {
      status = refl;
      cost = total;
      at_goal = λ l. ap (λ (t : Tally). t.cost) (value_before (tally_of (arrivals rs)) max_places (drop max_places tally) _ x.goal l) ∙ there;
    }

-- Where a map with a job comes to a route, the day of that job k times behind the map costs k times as much, all of it at the route's goal.
pub same_day : (m j : List ℕ) (r : Record) → IsMap m → frame j ≡ records.alone r → is_job r ≡ true → Bytes (m ++ j)
    → (work sheet : List ℕ) (tally : List Tally) → (route (m ++ j) work sheet).answer.number ≡ 0
    → (k : ℕ) → length m + k * length j ≤ max_input → k ≤ max_entries → max_places ≤ length tally
    → TimesAsMuch k (arrival_of (route (m ++ j) work sheet)) (report (m ++ times k j) work sheet tally)
same_day m j r map framed job B work sheet tally routed k short few enough =
    let are : entries (m ++ times k j) ≡ replicate k (alone (m ++ j)) = same_jobs m j r map framed job k in
    let long : length (m ++ times k j) ≤ max_input = omega (arith, length-append m (times k j), times-length k j) in
    let many : length (entries (m ++ times k j)) ≤ max_entries = rw (are, length-replicate k (alone (m ++ j))) few in
    let arrive : arrivals (results (entries (m ++ times k j)) work sheet) ≡ replicate k (arrival_of (route (m ++ j) work sheet))
    = rw are (same_arrivals (m ++ j) work sheet B routed k) in
    rw (report_whole (m ++ times k j) work sheet tally long many enough) (same_arrivals_day k _ _ work sheet tally arrive)
