-- Laws of writing the places along the parents.
-- Assumes nothing.
use mathlib.Core.Path.{◌≡◌, refl, sym, ap, subst, ◌∙◌}
use mathlib.Core.List.{List, [], ◌∷◌, ◌++◌, append-nil, append_assoc}
use mathlib.Core.Option.{Option}
use Prim.Native.Nat.{ℕ, ◌+◌, ◌-◌, ◌*◌, ◌<◌}
use native.Mathlib.Omega.{arith}
use lib.ListN.{length}
use lib.Seq.{sets}
use Rattle.area.proofs.Sets.{sets_join}
use Rattle.model.specs.Bytes.{put16, put16s}
use Rattle.model.proofs.Bytes.{put16s-length}
use Rattle.layout.specs.Labels.{Follows, word_or, parent_at}
use Rattle.sheet_writer.specs.Places.{Earlier, Leads, FitsPlaces, PlacesWritten}
use Rattle.sheet_writer.proofs.Follows.{UpTo, up_to, up_to_length, one_list, some_leads}

put16s_snoc : (xs : List ℕ) (x : ℕ) → put16s (xs ++ (x ∷ [])) ≡ put16s xs ++ put16 x
unfolding put16s
put16s_snoc [] x = append-nil (put16 x)
put16s_snoc (y ∷ ys) x = ap (λ (z : List ℕ). put16 y ++ z) (put16s_snoc ys x) ∙ sym (append_assoc (put16 y) (put16s ys) (put16 x))

module _ {n v arcs : ℕ} {w area₀ : List ℕ} (h : FitsPlaces n v arcs w area₀) where
  abbrev up : UpTo n w v h.leads.places
  up = up_to h.leads.follows

  -- the places before v
  abbrev pub earlier : List ℕ
  earlier = up.earlier

  earlier_count : length earlier ≡ arcs
  earlier_count = omega (arith, up_to_length up, h.count)

  module _ {u : ℕ} (q : word_or u ≡ parent_at n w v) (some-arc : 0 < arcs) where
    parent_leads : Follows n w u earlier
    parent_leads =
        some_leads n u w earlier (omega (arith, earlier_count)) (subst (λ (o : Option ℕ). Earlier n w o earlier) (sym q) up.leads)

    pub fits_earlier : FitsPlaces n u (arcs - 1) w area₀
    fits_earlier =
        let e : Leads n u w = record {
          few = h.leads.few;
          words = h.leads.words;
          places = earlier;
          follows = parent_leads;
          few_places_lem = omega (arith, up_to_length up, h.leads.few_places_lem);
        } in
        record { leads = e; count = omega (arith, earlier_count); room = omega (arith, h.room) }

    pub earlier_written : {area : List ℕ} → PlacesWritten n u w area₀ area → area ≡ sets area₀ 10 (put16s earlier)
    earlier_written p = p.written earlier parent_leads

  -- the start has no places before it
  pub none_earlier : arcs ≡ 0 → area₀ ≡ sets area₀ 10 (put16s earlier)
  unfolding put16s
  none_earlier z = rw (empty earlier (earlier_count ∙ z))
    where
      empty : (l : List ℕ) → length l ≡ 0 → l ≡ []
      empty [] q = refl
      empty (x ∷ l) q = absurd (omega arith)

  pub place_written : {area₁ area : List ℕ} → area₁ ≡ sets area₀ 10 (put16s earlier) → area ≡ sets area₁ (10 + 2 * arcs) (put16 v)
      → PlacesWritten n v w area₀ area
  place_written {area₁} {area} p e =
      let joined = sets_join (put16s earlier) (put16 v) area₀ 10 (10 + 2 * arcs) (omega (arith, put16s-length earlier, earlier_count)) in
      let all : area ≡ sets area₀ 10 (put16s h.leads.places) =
      e
      ∙ ap (λ (l : List ℕ). sets l (10 + 2 * arcs) (put16 v)) p
      ∙ joined
      ∙ ap (λ (x : List ℕ). sets area₀ 10 x) (sym (put16s_snoc earlier v) ∙ ap put16s (sym up.joined)) in
      record { written = λ r f. all ∙ ap (λ (x : List ℕ). sets area₀ 10 (put16s x)) (one_list h.leads.follows f) }
