-- The call's number is that of the input, or else that of the room. Assumes nothing.
use mathlib.Core.Path.{◌≡◌, sym, ◌∙◌}
use mathlib.Core.List.{List}
use Prim.Native.Nat.{ℕ}
use native.Mathlib.Omega.{arith}
use lib.ListN.{length}
use Rattle.std.specs.Prelude.{Result, Ok, Err}
use Rattle.answer.specs.Numbers.{answer_of}
use Rattle.answer.specs.declared.Answer.{Answer}
use Rattle.judge.specs.Judge.{Judged}
use Rattle.judge.proofs.Passing.{refused_first, passes}
use Rattle.map.specs.declared.Job.{Job}
use Rattle.map.specs.declared.refusal.Refusal.{Refusal}
use Rattle.map.specs.Refusals.{number_of}
use Rattle.map.proofs.RefusalLaws.{number_within}
use Rattle.model.specs.Answer.{answer}
use Rattle.model.specs.Framing.{frame}
use Rattle.model.specs.Refusals.{room_rows, first_that_holds}
use Rattle.model.specs.Stated.{stated}
use Rattle.model.proofs.Rows.{refusal_parts}
use Rattle.router.specs.Call.{Routed}
use Rattle.router.specs.Steps.{HasRoom, room_number, Ready}
use Rattle.router.proofs.Lent.{refusal_routed, room_given}

module _ {input : List ℕ} {words bytes : ℕ} {g : Result Job Refusal} (judged : Judged input g) where
  -- a number of the input itself is the call's
  pub input_refused : {r : Refusal} → g ≡ Err r → Ready input words bytes (Err r)
  input_refused {r} e =
      let room = first_that_holds (room_rows (stated (frame input).records).size words bytes) in
      record {
        number = refused_first judged e room ∙ sym (refusal_parts (frame input) words bytes);
        states = λ j z. let no : ◌≡◌ {A = ℕ} 0 1 = cc in absurd (omega arith);
      }

  module _ {j : Job} (e : g ≡ Ok j) where
    -- of an input that passes it is the room's
    pub room_refused : {r : Refusal} → number_of r ≡ room_number j.site words bytes → Ready input words bytes (Err r)
    room_refused {r} f =
        record {
          number = f ∙ sym (room_given (passes judged e) words bytes);
          states = λ j z. let no : ◌≡◌ {A = ℕ} 0 1 = cc in absurd (omega arith);
        }

    pub is_ready : 0 ≡ room_number j.site words bytes → Ready input words bytes (Ok j)
    is_ready f =
        record {
          number = f ∙ sym (room_given (passes judged e) words bytes);
          states = λ k z. let same : j ≡ k = cc in rw same at (passes judged e).states;
        }

module _ {input : List ℕ} {work sheet : List ℕ} {g : Result Job Refusal} (ready : Ready input (length work) (length sheet) g) where
  pub refused_routed : {r : Refusal} {a : Answer} → g ≡ Err r → answer_of a ≡ answer (number_of r) 0 0 0 0 0 0 → Routed input work sheet a work sheet
  refused_routed {r} {a} e is =
      let positive : number_of r ≡ 0 → ⊥ = λ z. omega (arith, (number_within r).0) in
      refusal_routed input work sheet (number_of r) a (rw e at ready.number) positive is

  pub has_room : {j : Job} → g ≡ Ok j → HasRoom input j work sheet
  has_room {j} e = record { accepted = sym (rw e at ready.number); states = ready.states j e }
