-- Every accepted input can be sent again with any other allowance. Assumes nothing.
use mathlib.Core.Path.{◌≡◌, refl, sym, ap, ◌∙◌}
use mathlib.Core.Bool.{true, false, false≢true}
use mathlib.Core.List.{List, [], ◌∷◌, ◌++◌, Memᴰ, append_assoc, append-nil}
use Prim.Native.Nat.{ℕ, ◌+◌, ◌*◌, ◌^◌, ◌≤◌, ◌<◌}
use native.Mathlib.Omega.{arith}
use lib.ListN.{length, drop, take-append-drop}
use lib.Seq.{take-add}
use borrow.Author.Tests.{eqb-true, not-false}
use Rattle.model.specs.Lists.{is_given}
use Rattle.model.specs.Bytes.{Bytes, u16, u32, put16, put32}
use Rattle.model.specs.Framing.{Record, Framed, frame, put_record}
use Rattle.model.specs.Items.{job_kind, job_bytes, Item, head, lane, estimate, job, wait, own_factors, default_estimate, other}
use Rattle.model.specs.Items.{job_of, item_of, items, body_length, other_than, misfits, job_in}
use Rattle.model.specs.Stated.{stated_in}
use Rattle.model.specs.Refusals.{wrong_length, ends_with_job}
use Rattle.model.specs.Calls.{Call, allowance, IsAccepted}
use Rattle.model.specs.Allowances.{Around, input_with, DifferInAllowance}
use Rattle.model.proofs.Lists.{any_false}
use Rattle.model.proofs.Bytes.{drop_bytes, u32_below, put16_u16, put32_u32, append_bytes, put16_is_bytes, put32_is_bytes}
use Rattle.model.proofs.Records.{put_records, Fits, AllFit, put_records_is_bytes, frame_records, records_fit, put_records-frame}
use Rattle.model.proofs.Items.{KindOf, is_job_lem, kind_of, job_item}
use Rattle.model.proofs.JobAllowance.{one_last_job}
use Rattle.model.proofs.Allowances.{around_allowance}

-- records that end with a job
ends_in_job : (rs : List Record) → ends_with_job (items rs) ≡ true
    → (es : List Record) × (r : Record) × (rs ≡ es ++ (r ∷ [])) × (is_given (job_in (item_of r)) ≡ true)
unfolding ends_with_job items
ends_in_job [] e = absurd (false≢true e)
ends_in_job (r ∷ []) e = ([], r, refl, e)
ends_in_job (r ∷ s ∷ rs) e =
    let (es, last, is, given) = ends_in_job (s ∷ rs) e in
    (r ∷ es, last, ap (λ (l : List Record). r ∷ l) is, given)

job_kind_lem : (r : Record) → is_given (job_in (item_of r)) ≡ true → r.kind ≡ job_kind
unfolding is_given job_in
job_kind_lem r = go (item_of r) (kind_of r)
  where
    go : (i : Item) → KindOf r i → is_given (job_in i) ≡ true → r.kind ≡ job_kind
    go (head s) k e = absurd (false≢true e)
    go (lane l) k e = absurd (false≢true e)
    go (estimate s) k e = absurd (false≢true e)
    go (job j) (is_job_lem k) e = k
    go (wait w) k e = absurd (false≢true e)
    go (own_factors fs) k e = absurd (false≢true e)
    go (default_estimate x) k e = absurd (false≢true e)
    go other k e = absurd (false≢true e)

-- a job's body of its own length has room for start and allowance
job_room : (r : Record) → r.kind ≡ job_kind → misfits r ≡ false → 6 ≤ length r.body
unfolding misfits body_length other_than
job_room r k fits =
    let long : length r.body ≡ job_bytes + 2 * length (job_of r.body).goals = eqb-true _ _ (not-false _ (rw (job_item r k) at fits)) in
    omega arith

-- its body, as start, allowance and the rest
body_fields : (b : List ℕ) → Bytes b → 6 ≤ length b → b ≡ put16 (u16 b 0) ++ put32 (u32 b 2) ++ drop 6 b
body_fields b B room =
    let start = put16_u16 b 0 B (omega arith) in
    let four = put32_u32 b 2 B (omega arith) in
    rw (start, four, ← take-add 2 4 b) (sym (take-append-drop 6 b))

put_records-last : (rs : List Record) (r : Record) → put_records (rs ++ (r ∷ [])) ≡ put_records rs ++ put_record r.kind r.body
unfolding put_records
put_records-last [] r = append-nil (put_record r.kind r.body)
put_records-last (s ∷ rs) r =
    ap (λ (l : List ℕ). put_record s.kind s.body ++ l) (put_records-last rs r)
    ∙ sym (append_assoc (put_record s.kind s.body) (put_records rs) (put_record r.kind r.body))

-- an input with an allowance in its place, of which every other could be put there
record IsAround (input : List ℕ) : Type 0 where
  around : Around
  allowance : ℕ
  fits : allowance < 2 ^ 32
  is : input ≡ input_with around allowance
  bytes : (b : ℕ) → Bytes (input_with around b)

with_bytes : (x : Around) → Bytes x.earlier → Bytes x.later → (b : ℕ) → Bytes (input_with x b)
unfolding input_with
with_bytes x first rest b =
    let kind = put16 x.body ++ put16 job_kind in
    let start = kind ++ put16 x.start in
    let kind-bytes : Bytes kind = append_bytes (put16 x.body) (put16 job_kind) (put16_is_bytes _) (put16_is_bytes _) in
    let start-bytes : Bytes start = append_bytes kind (put16 x.start) kind-bytes (put16_is_bytes _) in
    let front_bytes : Bytes (start ++ put32 b) = append_bytes start (put32 b) start-bytes (put32_is_bytes b) in
    append_bytes x.earlier _ first (append_bytes (start ++ put32 b) x.later front_bytes rest)

-- records that end with a job are such an input
last_job_lem : (es : List Record) (r : Record) → AllFit es → Fits r → r.kind ≡ job_kind → 6 ≤ length r.body
    → IsAround (put_records es ++ put_record r.kind r.body)
unfolding input_with put_record put16 put32
last_job_lem es r fit fits k room =
    let x : Around
    = record {
      earlier = put_records es;
      whole = ap (λ (f : Framed). f.broken) (frame_records es fit);
      body = length r.body;
      room = room;
      two_bytes = fits.length_below;
      start = u16 r.body 0;
      later = drop 6 r.body;
    } in
    let front : List ℕ → List ℕ = λ l. put_records es ++ (put16 (length r.body) ++ l) in
    record {
      around = x;
      allowance = u32 r.body 2;
      fits = u32_below r.body 2 fits.bytes;
      is = ap (λ (n : ℕ). front (put16 n ++ r.body)) k ∙ ap (λ (l : List ℕ). front (put16 job_kind ++ l)) (body_fields r.body fits.bytes room);
      bytes = with_bytes x (put_records_is_bytes es fit) (drop_bytes 6 r.body fits.bytes);
    }

accepted_around : (c : Call) → IsAccepted c → IsAround c.input
unfolding frame wrong_length
accepted_around c A =
    let form = one_last_job (frame c.input) (length c.work) (length c.sheet) A in
    let (es, r, is, given) = ends_in_job (frame c.input).records form.last in
    let bytes = sym (put_records-frame c.input c.bytes form.whole) ∙ ap put_records is ∙ put_records-last es r in
    rw bytes (go es r is (job_kind_lem r given) (any_false misfits (frame c.input).records form.fits))
  where
    go : (es : List Record) (r : Record) → (frame c.input).records ≡ es ++ (r ∷ []) → r.kind ≡ job_kind
        → ((s : Record) → Memᴰ s (frame c.input).records → misfits s ≡ false) → IsAround (put_records es ++ put_record r.kind r.body)
    go es r is k fits =
        let fit : AllFit (es ++ (r ∷ [])) = rw (← is) (records_fit (length c.input) c.input c.bytes) in
        let last : Memᴰ r (es ++ (r ∷ [])) = mathlib.Core.List.Memᴰ.append_right es (mathlib.Core.List.Memᴰ.head refl) in
        last_job_lem es r (λ s i. fit s (mathlib.Core.List.Memᴰ.append_left (r ∷ []) i)) (fit r last) k (job_room r k (fits r (rw is last)))

-- with any allowance, in the same lent areas
pub sent_again : (c : Call) → IsAccepted c → (b : ℕ) → b < 2 ^ 32 → (d : Call) × DifferInAllowance (allowance c) b c d
sent_again c A b h =
    let i = accepted_around c A in
    let read : allowance c ≡ i.allowance
    = ap (λ (l : List ℕ). (stated_in l).job.allowance) i.is
    ∙ around_allowance i.around i.allowance (length c.work) (length c.sheet) i.fits (rw i.is at A) in (
      record { input = input_with i.around b; work = c.work; sheet = c.sheet; bytes = i.bytes b },
      record {
        around = i.around;
        first = i.is ∙ ap (input_with i.around) (sym read);
        second = refl;
        four_bytes = (rw read i.fits, h);
        work = refl;
        sheet = refl;
      },
    )
