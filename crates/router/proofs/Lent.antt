-- What is lent to an input that passes: too little, or room. Assumes nothing.
use mathlib.Core.Path.{◌≡◌, refl}
use mathlib.Core.List.{List}
use Prim.Native.Nat.{ℕ, zero, suc}
use lib.ListN.{length}
use Rattle.map.specs.declared.Job.{Job}
use Rattle.model.specs.Framing.{frame}
use Rattle.model.specs.Refusals.{first_of, refusal}
use Rattle.model.specs.Answer.{answer, refused_with, call_if, call}
use Rattle.model.proofs.Rows.{refusal_parts}
use Rattle.judge.specs.Judge.{Passes}
use Rattle.answer.specs.Numbers.{answer_of}
use Rattle.answer.specs.declared.Answer.{Answer}
use Rattle.router.specs.Call.{Routed}
use Rattle.router.specs.Steps.{room_number}

-- a refused call: its number and zeros, and both areas as they were
pub refusal_routed : (input work sheet : List ℕ) (n : ℕ) (r : Answer) → n ≡ refusal (frame input) (length work) (length sheet) → (n ≡ 0 → ⊥)
    → answer_of r ≡ answer n 0 0 0 0 0 0 → Routed input work sheet r work sheet
unfolding call call_if refused_with
refusal_routed input work sheet zero r e h is = absurd (h refl)
refusal_routed input work sheet (suc n) r e h is = record { result = rw (← e, ← is) }

-- an input that passes
module _ {input : List ℕ} {j : Job} (p : Passes input j) where
  -- the call's number is that of the room
  pub room_given : (words bytes : ℕ) → refusal (frame input) words bytes ≡ room_number j.site words bytes
  unfolding first_of
  room_given words bytes = rw (refusal_parts (frame input) words bytes, p.number, p.states.places, p.states.arcs)
