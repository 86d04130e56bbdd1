-- Records put into the output area field after field: head, lanes as their keys say, estimates and waits, default, job. Assumes nothing.
use mathlib.Core.Path.{◌≡◌, refl, ap, ◌∙◌}
use mathlib.Core.Logic.{◌≢◌}
use mathlib.Core.List.{List, [], ◌∷◌, ◌++◌}
use Prim.Native.Nat.{ℕ, ◌+◌, ◌-◌, ◌*◌, ◌/◌, ◌%◌, ◌<◌}
use native.Mathlib.Omega.{arith}
use lib.ListN.{length, take, drop, length-append, length-take, length-drop}
use lib.Seq.{sets}
use borrow.Author.Tests.{eq-eqb, ne_eqb}
use Rattle.area.proofs.Sets.{sets_then}
use Rattle.model.specs.Bytes.{Bytes, u16s, put16, put32, put16s}
use Rattle.model.specs.Framing.{put_record}
use Rattle.model.specs.Items.{arc_kind, job_kind, measured_kind, default_kind, job_bytes, default_bytes}
use Rattle.model.specs.Jobs.{put_arc, put_measured, put_default, put_some_default, put_job, put_charged, put_lane}
use Rattle.model.proofs.Bytes.{put16s-length, u16s-length, put16s_u16s}
use Rattle.map.specs.declared.Job.{Job}
use Rattle.sort.specs.Keys.{key_from, word_end}
use Rattle.lane_rows.specs.Keys.{charge_in, lane_in}
use Rattle.map_records.specs.Puts.{Put, put_job_of, GoalsLast}

-- how long a job record is
pub put_job_length : (start allowance : ℕ) (goals : List ℕ) → length (put_job start allowance goals) ≡ 4 + job_bytes + 2 * length goals
unfolding put_job put_record put16 put32
put_job_length start allowance goals = omega (arith, put16s-length goals)

-- ---- Bytes one after another

pub put_none : (at : ℕ) (old : List ℕ) → Put [] at old old at
put_none at old = record { bytes = refl; end = omega arith }

-- what is to be put is these bytes, and they are put
pub put_as : {all new : List ℕ} {at : ℕ} {old out : List ℕ} → all ≡ new → out ≡ sets old at new → Put all at old out (at + length new)
put_as is e = rw is (record { bytes = e; end = refl })

-- bytes put directly after others are put with them
pub put_then : {a b : List ℕ} {at : ℕ} {old mid out : List ℕ} {r s : ℕ} → Put a at old mid r → Put b r mid out s → Put (a ++ b) at old out s
put_then {a} {b} {at} {old} p q =
    record { bytes = sets_then old a b at _ p.end p.bytes q.bytes; end = omega (arith, p.end, q.end, length-append a b) }

pub put_next : (b : List ℕ) {a : List ℕ} {at k r : ℕ} {old mid out : List ℕ} → Put a at old mid r → out ≡ sets mid k b → k ≡ r
    → {s : ℕ} → s ≡ k + length b → Put (a ++ b) at old out s
put_next b p e is end = put_then p (rw (← is, end) (put_as refl e))

-- what is put may be written otherwise
pub put_is : {a all : List ℕ} {at r : ℕ} {old out : List ℕ} → Put a at old out r → all ≡ a → Put all at old out r
put_is p is = rw is p

-- how long a record is
pub record-length : (kind : ℕ) (body : List ℕ) → length (put_record kind body) ≡ 4 + length body
unfolding put_record put16
record-length kind body = omega arith

-- ---- Lanes

-- the lane of a key, by the bit that says whether it is measured
module _ (high low : ℕ) (below : low < word_end) where
  abbrev lane_text : List ℕ
  lane_text = put_lane (lane_in (key_from high low))

  lane_fields : lane_text ≡ put_charged (high / 4096) (high % 4096) (charge_in low)
  unfolding lane_in put_lane
  lane_fields =
      let high_is : key_from high low / word_end ≡ high = omega arith in
      let low_is : key_from high low % word_end ≡ low = omega arith in
      rw (high_is, low_is)

  pub flat_lane_lem : low / 32768 % 2 ≡ 0 → lane_text ≡ put_record arc_kind (put16s (high / 4096 ∷ high % 4096 ∷ low / 65536 ∷ []))
  unfolding charge_in put_charged put_arc put16s put16
  flat_lane_lem even = lane_fields ∙ rw (eq-eqb (low / 32768 % 2) 0 even)

  pub measured_lane : low / 32768 % 2 ≢ 0
      → lane_text ≡ put_record measured_kind (put16s (high / 4096 ∷ high % 4096 ∷ low / 8 % 4096 ∷ low % 8 ∷ []))
  unfolding charge_in put_charged put_measured put16s put16
  measured_lane odd = lane_fields ∙ rw (ne_eqb (low / 32768 % 2) 0 odd)

-- ---- The default

pub zero_left_out : (x : ℕ) → x ≡ 0 → (at : ℕ) (old : List ℕ) → Put (put_some_default x) at old old at
unfolding put_some_default
zero_left_out x zero at old = rw (eq-eqb x 0 zero) (put_none at old)

-- one that is not 0
module _ (x : ℕ) (some : x ≢ 0) where
  pub default_text : put_some_default x ≡ (put16 default_bytes ++ put16 default_kind) ++ put32 x
  unfolding put_some_default put_default put_record put16 put32
  default_text = rw (ne_eqb x 0 some)

  pub default-length : length (put_some_default x) ≡ 4 + default_bytes
  unfolding put16 put32
  default-length = ap length default_text

-- ---- The job

pub job_length : (input : List ℕ) (j : Job) → length (put_job_of input j) ≡ 12 + 2 * j.goals
unfolding put_job_of
job_length input j =
    let goals = u16s j.goals input j.goals_at in
    omega (arith, put_job_length j.site.start j.allowance goals, u16s-length j.goals input j.goals_at)

-- all of its record but the goals
abbrev job_front : Job → List ℕ
job_front j = (((put16 (job_bytes + 2 * j.goals) ++ put16 job_kind) ++ put16 j.site.start) ++ put32 j.allowance) ++ put16 j.goals

-- The goals are the rest of the input.
module _ (input : List ℕ) (j : Job) (last : GoalsLast input j) where
  abbrev goal_bytes : List ℕ
  goal_bytes = take (length input - j.goals_at) (drop j.goals_at input)

  pub goals-length : length goal_bytes ≡ 2 * j.goals
  goals-length = simp (length-take, length-drop) (omega (arith, last.ends))

  job_text : Bytes input → put_job_of input j ≡ job_front j ++ goal_bytes
  unfolding put_job_of put_job put_record put16 put32
  job_text B =
      let goals = u16s j.goals input j.goals_at in
      let count : length goals ≡ j.goals = u16s-length j.goals input j.goals_at in
      let bytes = put16s_u16s j.goals input j.goals_at B (omega (arith, last.ends)) in
      let rest : 2 * j.goals ≡ length input - j.goals_at = omega (arith, last.ends) in
      let fields : List ℕ = put16 j.site.start ++ put32 j.allowance ++ put16 (length goals) ++ put16s goals in
      let size : length fields ≡ job_bytes + 2 * j.goals = omega (arith, put16s-length goals) in
      ap (λ (n : ℕ). put16 n ++ put16 job_kind ++ fields) size
      ∙ rw (count, bytes ∙ ap (λ (k : ℕ). take k (drop j.goals_at input)) rest)

  pub job_fields : (at : ℕ) (old : List ℕ) {r : ℕ} {s₁ s₂ s₃ s₄ out : List ℕ} → Bytes input
      → Put (put16 (job_bytes + 2 * j.goals) ++ put16 job_kind) at old s₁ r → s₂ ≡ sets s₁ r (put16 j.site.start)
      → s₃ ≡ sets s₂ (r + 2) (put32 j.allowance) → s₄ ≡ sets s₃ (r + 6) (put16 j.goals) → out ≡ sets s₄ (r + 8) goal_bytes
      → Put (put_job_of input j) at old out (r + (job_bytes + 2 * j.goals))
  unfolding put16 put32
  job_fields at old {r} B header e₁ e₂ e₃ e₄ =
      let start = put_next (put16 j.site.start) header e₁ refl {s = r + 2} refl in
      let allowance = put_next (put32 j.allowance) start e₂ refl {s = r + 6} (omega arith) in
      let goals = put_next (put16 j.goals) allowance e₃ refl {s = r + 8} (omega arith) in
      put_is (put_next goal_bytes goals e₄ refl (omega (arith, goals-length))) (job_text B)
