-- What a judgement says to the calls: a number that is theirs, or an input that passes, within the limits. Assumes nothing.
use mathlib.Core.Path.{◌≡◌, refl, sym, ap, ◌∙◌}
use mathlib.Core.Bool.{◌||◌}
use mathlib.Core.List.{List}
use Prim.Native.Nat.{ℕ, zero, suc, ◌≤◌}
use native.Mathlib.Omega.{arith}
use lib.Dec.{ltb}
use borrow.Author.Tests.{ltb-false}
use Rattle.map.specs.declared.Job.{Job}
use Rattle.model.specs.Framing.{frame}
use Rattle.model.specs.Limits.{max_places, max_arcs}
use Rattle.model.specs.Stated.{stated_in}
use Rattle.model.specs.Refusals.{wrong_size, form_rows, size_rows, map_rows, factor_rows, cost_rows, job_rows, input_rows, first_of, holds_at, input_refusal}
use Rattle.model.proofs.Lists.{neither}
use Rattle.model.proofs.Rows.{row_fails, input_numbered}
use Rattle.judge.specs.Judge.{Judged, Passes}
use Rattle.map.specs.declared.refusal.Refusal.{Refusal}
use Rattle.map.specs.Refusals.{number_of}
use Rattle.map.proofs.RefusalLaws.{number_within}
use Rattle.std.specs.Prelude.{Result, Ok, Err}

-- a number of the input itself is the call's
given_first : (n m : ℕ) → (n ≡ 0 → ⊥) → n ≡ first_of n m
unfolding first_of
given_first zero m h = absurd (h refl)
given_first (suc n) m h = refl

module _ {input : List ℕ} {g : Result Job Refusal} (judged : Judged input g) where
  -- whatever number the room would be given
  pub refused_first : {r : Refusal} → g ≡ Err r → (room : ℕ) → number_of r ≡ first_of (input_refusal (frame input)) room
  refused_first {r} e room =
      let own : number_of r ≡ input_refusal (frame input) = rw e at judged.number in
      given_first (number_of r) room (λ z. omega (arith, (number_within r).0)) ∙ ap (λ (x : ℕ). first_of x room) own

  pub passes : {j : Job} → g ≡ Ok j → Passes input j
  passes {j} e = record { number = sym (rw e at judged.number); states = judged.states j e }

pub sizes : {input : List ℕ} {j : Job} → Passes input j → (j.site.places ≤ max_places) × (j.site.arcs ≤ max_arcs)
unfolding input_refusal input_rows form_rows size_rows map_rows factor_rows cost_rows job_rows holds_at wrong_size
sizes {input} p =
    let s = stated_in input in
    let n = s.size.places in
    let m = s.size.arcs in
    let no = row_fails (input_rows (frame input)) (input_numbered (frame input)) p.number 5 in
    let range = neither (ltb n 1 || ltb max_places n) (ltb max_arcs m) (neither (ltb n 1 || ltb max_places n || ltb max_arcs m) _ no).0 in
    rw (p.states.places, p.states.arcs) (ltb-false max_places n (neither (ltb n 1) _ range.0).1, ltb-false max_arcs m range.1)
