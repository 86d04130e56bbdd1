-- Two inputs that differ only in an allowance: their records are the same but for that field, so that they state the same problem and are refused
-- alike. Assumes nothing.
use mathlib.Core.Path.{◌≡◌, refl, sym, ap, ◌∙◌}
use mathlib.Core.Bool.{Bool, true, false}
use mathlib.Core.List.{List, [], ◌∷◌, ◌++◌, append-nil, head_d}
use Prim.Native.Nat.{ℕ, ◌+◌, ◌-◌, ◌^◌, ◌<◌}
use native.Mathlib.Omega.{arith}
use lib.Dec.{leb}
use lib.ListN.{length, take, drop}
use lib.Seq.{take-append-add, drop-append-add}
use Rattle.model.specs.Bytes.{u16, u16s, put16, put32}
use Rattle.model.specs.Framing.{Record, Framed, stop, push, frame}
use Rattle.model.specs.Lists.{filter_map}
use Rattle.model.specs.Items.{job_kind, job_bytes, Item, job, Job, job_of, item_of, items, body_length, misfits, job_in}
use Rattle.model.specs.Stated.{no_job, stated_by, stated, stated_in, problem_of}
use Rattle.model.specs.Refusals.{refusal, Accepted}
use Rattle.model.specs.Allowances.{Around, input_with}
use Rattle.model.proofs.Bytes.{u16_behind, u16s_behind, u32_put32, two_bytes}
use Rattle.model.proofs.Framing.{frame_cons, frame_whole}
use Rattle.model.proofs.JobAllowance.{SameJob, items_with, problem_same, refused_same, OneLastJob, one_last_job, only_job}

-- the job's body: start and allowance, and what is left of it
abbrev front : Around → (allowance : ℕ) → List ℕ
front x a = put16 x.start ++ put32 a

abbrev rest : Around → List ℕ
rest x = take (x.body - 6) x.later

abbrev pub job_record : Around → (allowance : ℕ) → Record
job_record x a = record { kind = job_kind; body = front x a ++ rest x }

-- The records of the input, for every allowance: the same, but for that field of one of them.
pub data FramedAround (x : Around) : Type 0 where
  one_job : (earlier later : List Record) (broken : Bool)
      → ((a : ℕ) → frame (input_with x a) ≡ record { records = earlier ++ (job_record x a ∷ later); broken = broken }) → FramedAround x
  -- the job's body runs past the end, so that it is no record
  past_end : (earlier : List Record) → ((a : ℕ) → frame (input_with x a) ≡ record { records = earlier; broken = true }) → FramedAround x

pub framed_around : (x : Around) → FramedAround x
unfolding input_with put16 put32 stop push
framed_around x = go (leb x.body (length (front x 0 ++ x.later))) refl
  where
    six : 6 + (x.body - 6) ≡ x.body
    six = omega (arith, x.room)

    taken : (a : ℕ) → take x.body (front x a ++ x.later) ≡ front x a ++ rest x
    taken a = ap (λ (n : ℕ). take n (front x a ++ x.later)) (sym six) ∙ take-append-add (front x a) x.later (x.body - 6)

    dropped : (a : ℕ) → drop x.body (front x a ++ x.later) ≡ drop (x.body - 6) x.later
    dropped a = ap (λ (n : ℕ). drop n (front x a ++ x.later)) (sym six) ∙ drop-append-add (front x a) x.later (x.body - 6)

    go : (t : Bool) → leb x.body (length (front x 0 ++ x.later)) ≡ t → FramedAround x
    go true u =
        let after = frame (drop (x.body - 6) x.later) in
        one_job (frame x.earlier).records after.records after.broken
        λ a. frame_whole x.earlier _ x.whole ∙ rw (frame_cons, two_bytes x.body x.two_bytes, u, taken a, dropped a) refl
    go false u =
        past_end (frame x.earlier).records
        λ a. frame_whole x.earlier _ x.whole ∙ rw (frame_cons, two_bytes x.body x.two_bytes, u, append-nil) refl

module _ (x : Around) where
  -- the job, by its allowance
  abbrev job_with : ℕ → Job
  job_with a = job_of (job_record x a).body

  job_item : (a : ℕ) → item_of (job_record x a) ≡ job (job_with a)
  unfolding item_of
  job_item a = refl

  -- its goals, which stand behind the allowance
  goals_behind : (a : ℕ) → (job_with a).goals ≡ u16s (u16 (rest x) 0) (rest x) 2
  unfolding job_of put16 put32
  goals_behind a =
      ap (λ (n : ℕ). u16s n (front x a ++ rest x) job_bytes) (u16_behind (front x a) (rest x) 0)
      ∙ u16s_behind (u16 (rest x) 0) (front x a) (rest x) 2

  same_job : (a b : ℕ) → SameJob (job_with a) (job_with b)
  unfolding job_of put16 put32 u16
  same_job a b = record { start = refl; goals = goals_behind a ∙ sym (goals_behind b) }

  allowance_read : (a : ℕ) → a < 2 ^ 32 → (job_with a).allowance ≡ a
  unfolding job_of put16
  allowance_read a h = u32_put32 (put16 x.start) a (rest x) h

  same_misfit : (a b : ℕ) → misfits (job_record x a) ≡ misfits (job_record x b)
  unfolding misfits body_length put16 put32
  same_misfit a b = rw (job_item a, job_item b, (same_job a b).goals) refl

  pub around_refused : (a b words bytes : ℕ) → refusal (frame (input_with x a)) words bytes ≡ refusal (frame (input_with x b)) words bytes
  around_refused a b words bytes = go (framed_around x)
    where
      go : FramedAround x → refusal (frame (input_with x a)) words bytes ≡ refusal (frame (input_with x b)) words bytes
      go (one_job rs ls broken e) =
          rw (e a, e b) (refused_same rs ls _ _ _ _ (job_item a) (job_item b) (same_job a b) (same_misfit a b) broken words bytes)
      go (past_end rs e) = rw (e a, e b) refl

  pub around_problem : (a b : ℕ) → problem_of (stated_in (input_with x a)) ≡ problem_of (stated_in (input_with x b))
  around_problem a b = go (framed_around x)
    where
      go : FramedAround x → problem_of (stated_in (input_with x a)) ≡ problem_of (stated_in (input_with x b))
      go (one_job rs ls broken e) =
          rw (e a, e b) (problem_same rs ls _ _ _ _ (job_item a) (job_item b) (same_job a b) (same_misfit a b))
      go (past_end rs e) = rw (e a, e b) refl

  -- where the input is accepted it has one job, whose allowance this is
  pub around_allowance : (a words bytes : ℕ) → a < 2 ^ 32 → Accepted (input_with x a) words bytes → (stated_in (input_with x a)).job.allowance ≡ a
  unfolding stated stated_by
  around_allowance a words bytes h A = go (framed_around x) (one_last_job (frame (input_with x a)) words bytes A)
    where
      go : FramedAround x → OneLastJob (frame (input_with x a)) → (stated_in (input_with x a)).job.allowance ≡ a
      go (one_job rs ls broken e) form =
          let its = ap (λ (f : Framed). items f.records) (e a) ∙ items_with rs ls (job_record x a) (job_with a) (job_item a) in
          let only = only_job (items rs) (items ls) (job_with a) (sym (ap (λ (is : List Item). length (filter_map job_in is)) its) ∙ form.one) in
          ap (λ (is : List Item). (head_d (filter_map job_in is) no_job).allowance) its ∙ ap (λ (j : Job). j.allowance) only ∙ allowance_read a h
      go (past_end rs e) form = let broken = ap (λ (f : Framed). f.broken) (e a) in cc
