-- The promises of the map writer, of a program: `P c r` says that the call c, whose sheet area is the output area, may come to the result r, as the
-- program's promise has it; `R` is a program that routes. They hold of every P that keeps to the definition `write_map` and every R that keeps to
-- `route`, for every input and every lent area.
-- Each promise is a field beside its sentence in document 02, paper 3; the proofs stand under them. Assumes nothing.
use mathlib.Core.Path.{◌≡◌, sym, ap, subst⁻¹, ◌∙◌}
use mathlib.Core.Logic.{◌↔◌}
use mathlib.Core.Bool.{true}
use mathlib.Core.List.{List, ◌∷◌, ◌++◌}
use Prim.Native.Nat.{ℕ, suc, ◌≤◌}
use native.Mathlib.Omega.{arith}
use lib.ListN.{length, drop, replicate}
use lib.Seq.{take-append_seam}
use Rattle.model.specs.Bytes.{Bytes}
use Rattle.model.specs.Framing.{frame}
use Rattle.model.specs.Stated.{stated_in}
use Rattle.model.specs.Refusals.{Row, input_refusal, work_words}
use Rattle.model.specs.Answer.{Result, answer, over_front, refused_with}
use Rattle.model.specs.Calls.{Call, result, written, Alike, Program, KeepsTo, Keeps}
use Rattle.model.proofs.Rows.{NoneHolds, first_given, none-given}
use Rattle.model.proofs.Acceptance.{states_growth}
use Rattle.map_writer.specs.Canonical.{canonical, put_stated, write}
use Rattle.map_writer.specs.Agree.{Agree}
use Rattle.map_writer.specs.Call.{write_rows, write_refusal, Writable, written_with, write_if, write_map}
use Rattle.map_writer.proofs.Agreeing.{agree_back, agree_then, canonical_agrees, agree_canonical}
use Rattle.map_writer.proofs.CanonicalPasses.{few_places_lem, counted_arcs, values_inside}
use Rattle.map_writer.proofs.WrittenAccepted.{input_passing, stated_fit, written_states, written_passes}
use Rattle.map_writer.proofs.Shorter.{written_shorter}
use Rattle.map_writer.proofs.SameRoute.{written_routes}
use Rattle.map_writer.proofs.Acceptance.{number_given, input_passes, enough_words, enough_bytes, writable_by}

-- what the definition makes of a call
abbrev pub rewritten : Call → Result
rewritten c = write_map c.input c.work c.sheet

-- How a call ends.
pub record Ends (c : Call) (r : Result) : Type 0 where
  -- "Numbers 1 to 14, 20 and later ones for records apply as to a job; 15 here means an output area shorter than the input": the number of the first
  -- row that holds is given, with six zeros, and nothing lent has changed.
  pub refused : (earlier : List Row) (n : ℕ) (later : List Row)
      → write_rows c.input (length c.work) (length c.sheet) ≡ earlier ++ (record { number = suc n; holds = true } ∷ later)
      → NoneHolds earlier → r ≡ record { answer = answer (suc n) 0 0 0 0 0 0; work = c.work; sheet = c.sheet }
  -- "Success gives 0, five zeros and the bytes written; work words and spare bytes are as after a route."
  pub accepted : NoneHolds (write_rows c.input (length c.work) (length c.sheet))
      → let s = stated_in c.input in
      r ≡ record {
        answer = answer 0 0 0 0 0 0 (length (write s));
        work = over_front (replicate (work_words s.size) 0) c.work;
        sheet = over_front (write s) c.sheet;
      }

ends : (c : Call) → Ends c (rewritten c)
unfolding write_map write_refusal write_if written_with refused_with
ends c = record {
  refused = λ earlier n later e fails. rw (e, first_given earlier (suc n) later fails);
  accepted = λ fails. rw (none-given _ fails);
}

-- What was written for a call that ended with 0.
pub record Rewrites (P R : Program) (c : Call) (r : Result) : Type 0 where
  -- it is no longer than the input, and is accepted where the input was
  pub shorter : length (written r) ≤ length c.input
  pub accepted : (words bytes : ℕ) → Writable c.input words bytes → Writable (written r) words bytes
  -- "Reading the result gives the same N, arc records as a collection with repeats, estimates and job"; waits, the factors in force and the default
  -- too, as paper 5 has it: the writer's "agreement covers them"
  pub agrees : Agree (stated_in c.input) (stated_in (written r))
  -- so writing twice is writing once
  pub again : (d : Call) (q : Result) → P d q → d.input ≡ written r → q.answer.number ≡ 0 → written q ≡ written r
  -- "A sheet from the rewritten map is the same as before", and so are all seven numbers, with any lent areas of equal lengths
  pub same_route : (d e : Call) (q p : Result) → R d q → R e p → d.input ≡ c.input → e.input ≡ written r
      → length d.work ≡ length e.work → length d.sheet ≡ length e.sheet → Alike p q

pub record Promises (P R : Program) : Type 0 where
  pub ends : (c : Call) (r : Result) → P c r → Ends c r
  pub rewrites : (c : Call) (r : Result) → P c r → r.answer.number ≡ 0 → Rewrites P R c r
  -- "Two accepted inputs are written alike exactly when those agree."
  pub alike : (c d : Call) (r q : Result) → P c r → P d q → r.answer.number ≡ 0 → q.answer.number ≡ 0
      → (written r ≡ written q) ↔ Agree (stated_in c.input) (stated_in d.input)

-- ---- The proofs

-- a call that ended with 0
module _ (c : Call) (zero_number : (rewritten c).answer.number ≡ 0) where
  writable : Writable c.input (length c.work) (length c.sheet)
  unfolding write_map
  writable = sym (number_given _ (stated_in c.input) c.work c.sheet) ∙ zero_number

  passes : input_refusal (frame c.input) ≡ 0
  passes = input_passes c.input (length c.work) (length c.sheet) writable

  is_written : written (rewritten c) ≡ write (stated_in c.input)
  unfolding write_map write_if written_with over_front
  is_written = rw writable (take-append_seam (write (stated_in c.input)) (drop (length (write (stated_in c.input))) c.sheet))

-- inputs that pass are written alike exactly when they agree
module _ (a b : List ℕ) (A : Bytes a) (B : Bytes b) (p : input_refusal (frame a) ≡ 0) (q : input_refusal (frame b) ≡ 0) where
  alike_agree : write (stated_in a) ≡ write (stated_in b) → Agree (stated_in a) (stated_in b)
  alike_agree e =
      let same : canonical (stated_in a) ≡ canonical (stated_in b) = sym (written_states a A p) ∙ ap stated_in e ∙ written_states b B q in
      let first = canonical_agrees (stated_in a) (values_inside _ (input_passing (frame a) p)) in
      let second = canonical_agrees (stated_in b) (values_inside _ (input_passing (frame b) q)) in
      agree_then (stated_in a) (canonical (stated_in b)) (stated_in b) (rw same at first) (agree_back (stated_in b) (canonical (stated_in b)) second)

  agree_alike : Agree (stated_in a) (stated_in b) → write (stated_in a) ≡ write (stated_in b)
  unfolding write
  agree_alike e =
      let x = input_passing (frame a) p in
      let y = input_passing (frame b) q in
      let growth = states_growth (frame a).records ∙ sym (states_growth (frame b).records) in
      ap put_stated (agree_canonical (stated_in a) (stated_in b) growth (counted_arcs _ x) (counted_arcs _ y) (few_places_lem _ x)
      (stated_fit a p) (stated_fit b q) e)

module _ (P R : Program) (writes : KeepsTo rewritten P) (routes : Keeps R) where
  alike : (c d : Call) → (rewritten c).answer.number ≡ 0 → (rewritten d).answer.number ≡ 0
      → (written (rewritten c) ≡ written (rewritten d)) ↔ Agree (stated_in c.input) (stated_in d.input)
  alike c d x y =
      let agree = alike_agree c.input d.input c.bytes d.bytes (passes c x) (passes d y) in
      let write-alike = agree_alike c.input d.input c.bytes d.bytes (passes c x) (passes d y) in
      (λ e. agree (sym (is_written c x) ∙ e ∙ is_written d y), λ a. is_written c x ∙ write-alike a ∙ sym (is_written d y))

  -- what was written reads as the canonical form
  module _ (c : Call) (x : (rewritten c).answer.number ≡ 0) where
    abbrev b : List ℕ
    b = write (stated_in c.input)

    reads : stated_in b ≡ canonical (stated_in c.input)
    reads = written_states c.input c.bytes (passes c x)

    agrees : Agree (stated_in c.input) (stated_in b)
    agrees = rw reads (canonical_agrees (stated_in c.input) (values_inside _ (input_passing (frame c.input) (passes c x))))

    accepted : (words bytes : ℕ) → Writable c.input words bytes → Writable b words bytes
    unfolding canonical
    accepted words bytes ok =
        let same : work_words (stated_in b).size ≡ work_words (stated_in c.input).size = rw reads in
        let fits = enough_words c.input words bytes ok in
        let holds = enough_bytes c.input words bytes ok in
        writable_by b words bytes (written_passes c.input c.bytes (passes c x)) (omega arith)
        (omega (arith, written_shorter c.input (passes c x)))

    again : (d : Call) → d.input ≡ b → (rewritten d).answer.number ≡ 0 → written (rewritten d) ≡ b
    again d is y =
        let same = subst⁻¹ (λ (t : List ℕ). Agree (stated_in c.input) (stated_in t)) is agrees in
        (alike d c y x).1 (agree_back (stated_in c.input) (stated_in d.input) same) ∙ is_written c x

    same_route : (d e : Call) → d.input ≡ c.input → e.input ≡ b → length d.work ≡ length e.work → length d.sheet ≡ length e.sheet
        → Alike (result e) (result d)
    same_route d e is_c is_b works sheets =
        rw (is_c, is_b) (written_routes c.input c.bytes (passes c x) d.work e.work d.sheet e.sheet works sheets)

    rewrites : Rewrites P R c (rewritten c)
    rewrites =
        let is = is_written c x in
        record {
          shorter = subst⁻¹ (λ (t : List ℕ). length t ≤ length c.input) is (written_shorter c.input (passes c x));
          accepted = λ words bytes ok. subst⁻¹ (λ (t : List ℕ). Writable t words bytes) is (accepted words bytes ok);
          agrees = subst⁻¹ (λ (t : List ℕ). Agree (stated_in c.input) (stated_in t)) is agrees;
          again = λ d q g same y.
              let e = writes.only d q g in
              ap written e ∙ again d (same ∙ is) (ap (λ (r : Result). r.answer.number) (sym e) ∙ y) ∙ sym is;
          same_route = λ d e q p g h is_c is_b works sheets.
              let routed = same_route d e is_c (is_b ∙ is) works sheets in
              rw (routes.only d q g, routes.only e p h) routed;
        }

  -- They hold of every program that keeps to the definition, beside every one that keeps to `route`.
  pub promises : Promises P R
  promises = record {
    ends = λ c r g. subst⁻¹ (λ x. Ends c x) (writes.only c r g) (ends c);
    rewrites = λ c r g x.
        let e = writes.only c r g in
        subst⁻¹ (λ y. Rewrites P R c y) e (rewrites c (ap (λ (q : Result). q.answer.number) (sym e) ∙ x));
    alike = λ c d r q g h x y.
        let e = writes.only c r g in
        let f = writes.only d q h in
        let zero-c = ap (λ (t : Result). t.answer.number) (sym e) ∙ x in
        let zero-d = ap (λ (t : Result). t.answer.number) (sym f) ∙ y in
        rw (e, f) (alike c d zero-c zero-d);
  }
