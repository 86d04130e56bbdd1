-- What is lent to the writer for an input that passes: too little, or room; and how each ends. Assumes nothing.
use mathlib.Core.Path.{◌≡◌, refl, sym, ap, ◌∙◌}
use mathlib.Core.List.{List}
use Rattle.std.specs.Prelude as std
use Rattle.std.specs.Prelude.{Ok, Err}
use Prim.Native.Nat.{ℕ, zero, suc, ◌≤◌}
use native.Mathlib.Omega.{arith}
use lib.ListN.{length, take}
use Rattle.map.specs.declared.Job.{Job}
use Rattle.model.specs.Stated.{stated_in}
use Rattle.model.specs.Refusals.{first_of, first_that_holds}
use Rattle.model.specs.Answer.{Result, answer, over_front, refused_with}
use Rattle.judge.specs.Judge.{Judged, Passes}
use Rattle.judge.proofs.Passing.{refused_first, passes}
use Rattle.map.specs.declared.refusal.Refusal.{Refusal}
use Rattle.map.specs.Refusals.{number_of}
use Rattle.map.proofs.RefusalLaws.{number_within}
use Rattle.answer.specs.Numbers.{answer_of, seven}
use Rattle.answer.specs.declared.Answer.{Answer}
use Rattle.map_writer.specs.Call.{output_rows, write_refusal, write_if, write_map, Wrote, WroteFor}
use Rattle.map_writer.specs.Steps.{HasRoom, room_number, Ready}
use Rattle.map_writer.proofs.Acceptance.{write_parts}

-- a refused call: its number and zeros, and both areas as they were
refusal_wrote : (input work output : List ℕ) (n : ℕ) (r : Answer) → n ≡ write_refusal input (length work) (length output) → (n ≡ 0 → ⊥)
    → answer_of r ≡ answer n 0 0 0 0 0 0 → Wrote input work output r work output
unfolding write_map write_if refused_with
refusal_wrote input work output zero r e h is = absurd (h refl)
refusal_wrote input work output (suc n) r e h is = record { result = rw (← e, ← is) }

-- of an input that passes the call's number is that of the room
room_given : {input : List ℕ} {j : Job} → Passes input j → (words bytes : ℕ) → write_refusal input words bytes ≡ room_number j.site (length input) words bytes
unfolding first_of
room_given {input} {j} p words bytes = rw (write_parts input words bytes, p.number, p.states.places, p.states.arcs)

module _ {input : List ℕ} {words bytes : ℕ} {g : std.Result Job Refusal} (judged : Judged input g) where
  -- a number of the input itself is the call's
  pub input_refused : {r : Refusal} → g ≡ Err r → Ready input words bytes (Err r)
  input_refused {r} e =
      let room = first_that_holds (output_rows (stated_in input).size (length input) words bytes) in
      record {
        number = refused_first judged e room ∙ sym (write_parts input words bytes);
        states = λ j z. let no : ◌≡◌ {A = ℕ} 0 1 = cc in absurd (omega arith);
      }

  module _ {j : Job} (e : g ≡ Ok j) where
    -- of an input that passes it is the room's
    pub room_refused : {r : Refusal} → number_of r ≡ room_number j.site (length input) words bytes → Ready input words bytes (Err r)
    room_refused {r} f =
        record {
          number = f ∙ sym (room_given (passes judged e) words bytes);
          states = λ j z. let no : ◌≡◌ {A = ℕ} 0 1 = cc in absurd (omega arith);
        }

    pub is_ready : 0 ≡ room_number j.site (length input) words bytes → Ready input words bytes (Ok j)
    is_ready f =
        record {
          number = f ∙ sym (room_given (passes judged e) words bytes);
          states = λ k z. let same : j ≡ k = cc in rw same at (passes judged e).states;
        }

module _ {input work output : List ℕ} {g : std.Result Job Refusal} (ready : Ready input (length work) (length output) g) where
  pub refused_wrote : {r : Refusal} {a : Answer} → g ≡ Err r → answer_of a ≡ answer (number_of r) 0 0 0 0 0 0 → Wrote input work output a work output
  refused_wrote {r} {a} e is =
      let positive : number_of r ≡ 0 → ⊥ = λ z. omega (arith, (number_within r).0) in
      refusal_wrote input work output (number_of r) a (rw e at ready.number) positive is

  pub has_room : {j : Job} → g ≡ Ok j → HasRoom input j work output
  has_room {j} e = record { writable = sym (rw e at ready.number); states = ready.states j e }

-- The same for a host, where the seven numbers go into the lent words.
pub wrote_for : {input work₀ output₀ work output : List ℕ} {r : Answer} → Wrote input work₀ output₀ r work output → (answer₀ answer : List ℕ)
    → answer ≡ over_front (take (length answer₀) (seven (answer_of r))) answer₀
    → WroteFor input work₀ output₀ answer₀ r.number work output answer
wrote_for wrote answer₀ answer e =
    record {
      gives = ap (λ (x : Result). x.answer.number) wrote.result;
      leaves_work = ap (λ (x : Result). x.work) wrote.result;
      leaves_output = ap (λ (x : Result). x.sheet) wrote.result;
      leaves_answer = e ∙ ap (λ (x : Result). over_front (take (length answer₀) (seven x.answer)) answer₀) wrote.result;
    }
