-- The judgement up to the factors. Assumes nothing.
use mathlib.Core.Path.{◌≡◌, refl, ap, sym, ◌∙◌}
use mathlib.Core.Bool.{Bool, true, false, cond, not, ◌||◌, or-true}
use mathlib.Core.List.{List, ◌++◌}
use mathlib.Core.Logic.{◌≢◌}
use Prim.Native.Nat.{ℕ, ◌≤◌, ◌<◌}
use native.Mathlib.Omega.{arith}
use lib.Dec.{ltb, eqb}
use borrow.Author.Tests.{eq-eqb, ne_eqb}
use Rattle.std.specs.Prelude.{Some, None, Err}
use Rattle.judge.specs.declared.survey.Survey.{Survey}
use Rattle.judge.specs.Judge.{Judged}
use Rattle.judge.specs.Numbers.{no_number, number_or, given_number}
use Rattle.judge.specs.Survey.{few_places, placed, Surveyed}
use Rattle.judge.specs.Verdict.{Formed, RightMap}
use Rattle.judge.proofs.NumberLaws.{number_from, number_early, number_late, number_some, number_none, first_given, none-given}
use Rattle.map.specs.declared.Map.{Map}
use Rattle.map.specs.declared.refusal.Refusal.{Refusal}
use Rattle.map.specs.declared.refusal.Refusal.TheVariants.{WrongSize}
use Rattle.map.specs.Refusals.{number_of}
use Rattle.map.specs.Sizes.{out_of_range}
use Rattle.map.proofs.RefusalLaws.{number_within}
use Rattle.map.proofs.Sizes.{WithinLimits}
use Rattle.model.specs.Framing.{Record, frame}
use Rattle.model.specs.Items.{items}
use Rattle.model.specs.Limits.{max_places, max_arcs}
use Rattle.model.specs.Lists.{any}
use Rattle.model.specs.Refusals.{Row, wrong_size, form_rows, size_rows, map_rows, factor_rows, cost_rows, job_rows, first_that_holds, first_of, input_refusal}
use Rattle.model.specs.Stated.{Stated, stated, stated_in}
use Rattle.model.proofs.Lists.{neither}
use Rattle.model.proofs.Rows.{input_groups}

pub refused : (input : List ℕ) (r : Refusal) → input_refusal (frame input) ≡ number_of r → Judged input (Err r)
refused input r e = record { number = sym e; states = λ j f. let z : ◌≡◌ {A = ℕ} 0 1 = cc in absurd (omega arith) }

map_above : (s : Stated) → 6 ≤ number_or no_number (map_rows s)
unfolding map_rows any
map_above s = number_from no_number 6 (map_rows s) refl (omega arith)

-- 1 to 4
module _ (input marks : List ℕ) (s : Survey) (v : Surveyed input marks s) where
  abbrev rest : List Row
  rest = map_rows (placed s.places (stated_in input))

  above : 5 ≤ number_or no_number rest
  above = omega (arith, map_above (placed s.places (stated_in input)))

  pub form_refused : (r : Refusal) → s.refusal ≡ Some r → number_of r < 5 → Judged input (Err r)
  unfolding form_rows any
  form_refused r is h =
      let given : number_of r ≡ number_or no_number (form_rows (frame input) ++ rest) = rw is at v.number in
      let early = number_early no_number 5 rest above (form_rows (frame input)) refl (rw given at h) in
      let positive : number_of r ≢ 0 = λ z. omega (arith, (number_within r).0) in
      refused input r (input_groups (frame input) ∙ first_given _ _ (number_of r) (early ∙ sym given) positive)

  pub formed : 5 ≤ given_number s.refusal → Formed input marks s
  unfolding form_rows any
  formed h =
      let late = number_late no_number 5 rest above (form_rows (frame input)) refl (rw v.number at h) in
      record { form = late.0; number = v.number ∙ late.1; states = v.states late.0 }

few_range : (n m : ℕ) → out_of_range (few_places n) m ≡ out_of_range n m
few_range n m = go (ltb max_places n) refl
  where
    go : (t : Bool) → ltb max_places n ≡ t → out_of_range (cond t 0 n) m ≡ (ltb n 1 || t || ltb max_arcs m)
    go true e = rw (or-true (ltb n 1))
    go false e = rw e

module _ (input marks : List ℕ) (s : Survey) (f : Formed input marks s) where
  abbrev rs : List Record
  rs = (frame input).records

  abbrev st : Stated
  st = stated rs

  -- what comes after 20
  abbrev later : ℕ
  later =
      first_of (first_that_holds (factor_rows (items rs))) (first_of (first_that_holds (cost_rows st)) (first_that_holds (job_rows (items rs) st)))

  after_form : input_refusal (frame input) ≡ first_of (first_that_holds (size_rows st)) (first_of (first_that_holds (map_rows st)) later)
  after_form = input_groups (frame input) ∙ none-given _ _ f.form

  -- 5
  size_same : (out_of_range s.places s.arcs || not (eqb s.arcs s.lanes)) ≡ wrong_size st
  unfolding wrong_size
  size_same =
      ap (λ (n : ℕ). out_of_range n s.arcs || not (eqb s.arcs s.lanes)) f.states.places
      ∙ ap (λ (t : Bool). t || not (eqb s.arcs s.lanes)) (few_range st.size.places s.arcs)
      ∙ rw (f.states.arcs, f.states.lanes)

  size_refused : (out_of_range s.places s.arcs || not (eqb s.arcs s.lanes)) ≡ true → Judged input (Err WrongSize)
  unfolding size_rows first_that_holds
  size_refused e =
      let wrong : wrong_size st ≡ true = sym size_same ∙ e in
      refused input WrongSize (after_form ∙ first_given _ _ 5 (rw wrong) λ z. omega arith)

  pub range_refused : out_of_range s.places s.arcs ≡ true → Judged input (Err WrongSize)
  range_refused e = size_refused (rw e)

  module _ (map : Map) (w : WithinLimits s.places s.arcs map) where
    pub arcs_refused : map.arcs ≢ s.lanes → Judged input (Err WrongSize)
    arcs_refused h = size_refused (rw (w.in_range, ne_eqb s.arcs s.lanes λ e. h (w.arcs ∙ e)))

    -- 6 to 9 and 20
    module _ (counted : map.arcs ≡ s.lanes) where
      right_size : wrong_size st ≡ false
      right_size = sym size_same ∙ rw (w.in_range, eq-eqb s.arcs s.lanes (sym w.arcs ∙ counted))

      places_same : s.places ≡ st.size.places
      unfolding wrong_size
      places_same =
          let few = (neither (ltb st.size.places 1) _ (neither _ _ (neither _ _ right_size).0).0).1 in
          f.states.places ∙ ap (λ (t : Bool). cond t 0 st.size.places) few

      after_size : input_refusal (frame input) ≡ first_of (first_that_holds (map_rows st)) later
      unfolding size_rows first_that_holds
      after_size = after_form ∙ none-given _ _ (rw right_size)

      number_same : given_number s.refusal ≡ number_or no_number (map_rows st)
      unfolding placed
      number_same = f.number ∙ ap (λ (n : ℕ). number_or no_number (map_rows (placed n st))) places_same

      pub map-refused : (r : Refusal) → s.refusal ≡ Some r → Judged input (Err r)
      map-refused r is =
          let within = number_within r in
          let given : number_of r ≡ number_or no_number (map_rows st) = rw is at number_same in
          let some : number_or no_number (map_rows st) ≢ no_number = λ e. omega (arith, given, within.1) in
          let positive : number_of r ≢ 0 = λ z. omega (arith, within.0) in
          refused input r (after_size ∙ first_given _ _ (number_of r) (number_some no_number (map_rows st) some ∙ sym given) positive)

      pub right-map : s.refusal ≡ None → RightMap input marks s
      unfolding map_rows any
      right-map is =
          let none : no_number ≡ number_or no_number (map_rows st) = rw is at number_same in
          let right = number_none no_number (map_rows st) refl (sym none) in
          record {
            form = f.form;
            map = right;
            places = places_same;
            few = omega (arith, w.few_places_lem, w.places);
            states = f.states;
            number = after_size ∙ none-given _ _ right;
          }
