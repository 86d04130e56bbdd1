-- Laws of counting the arcs along the parents.
-- Assumes nothing.
use mathlib.Core.Path.{◌≡◌, sym, ap, subst, ◌∙◌}
use mathlib.Core.List.{List}
use mathlib.Core.Option.{Option}
use Prim.Native.Nat.{ℕ, ◌+◌, ◌<◌}
use native.Mathlib.Omega.{arith}
use lib.ListN.{length}
use Rattle.layout.specs.Regions.{HasPlace}
use Rattle.layout.specs.Labels.{no_word, word_or, parent_at}
use Rattle.sheet_writer.specs.Places.{Earlier, Leads, CountingArcs, ArcsCounted}
use Rattle.sheet_writer.proofs.Follows.{up_to, up_to_length, place_below, one_list, none_leads, place_leads}

module _ {n v : ℕ} {w : List ℕ} where
  pub has_place : Leads n v w → HasPlace n v w
  has_place h = record { few = h.few; room = h.words; place = place_below h.follows }

  pub counting_begins : (u : ℕ) → Leads n v w → word_or u ≡ parent_at n w v → CountingArcs n w v u 0
  counting_begins u h q =
      let b = up_to h.follows in
      record {
        earlier = b.earlier;
        leads = subst (λ (o : Option ℕ). Earlier n w o b.earlier) (sym q) b.leads;
        count = λ r f. ap (λ (x : List ℕ). length x) (one_list f h.follows) ∙ up_to_length b ∙ omega arith;
      }

  module _ {u arcs : ℕ} (c : CountingArcs n w v u arcs) where
    -- a place to go on from: it has a parent too, and the arcs are fewer than the places
    pub counting_place : Leads n v w → (u ≡ no_word → ⊥) → HasPlace n u w × (arcs + 1 < n)
    counting_place h f =
        let g = place_leads n u w c.earlier f c.leads in
        let k = up_to_length (up_to g) in
        (record { few = h.few; room = h.words; place = place_below g }, omega (arith, c.count h.places h.follows, h.few_places_lem))

    pub counting_goes_on : (x : ℕ) → (u ≡ no_word → ⊥) → word_or x ≡ parent_at n w u → CountingArcs n w v x (arcs + 1)
    counting_goes_on x f q =
        let b = up_to (place_leads n u w c.earlier f c.leads) in
        record {
          earlier = b.earlier;
          leads = subst (λ (o : Option ℕ). Earlier n w o b.earlier) (sym q) b.leads;
          count = λ r g. omega (arith, c.count r g, up_to_length b);
        }

    pub counting_ends : u ≡ no_word → ArcsCounted n v w arcs
    counting_ends q =
        let nothing = ap (λ (x : List ℕ). length x) (none_leads n u w c.earlier q c.leads) in
        record { count = λ r f. omega (arith, c.count r f, nothing) }
