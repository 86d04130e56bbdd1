-- The rows of arcs as they are walked: where a walk begins, the arc that comes next, the arcs passed. The map of the words w is that of w₀,
-- where the walk began. Assumes nothing.
use mathlib.Core.Path.{◌≡◌, refl, sym, ap, ◌∙◌}
use mathlib.Core.List.{List, [], ◌∷◌, ◌++◌, append-nil, append_assoc, map-append}
use Prim.Native.Nat.{ℕ, suc, ◌+◌, ◌-◌, ◌^◌, ◌≤◌, ◌<◌}
use native.Mathlib.Omega.{arith}
use lib.ListN.{length, get_or, drop, length-drop}
use lib.Seq.{get_or-drop, take-suc}
use Rattle.model.specs.Problem.{Arc}
use Rattle.map.specs.declared.Site.{Site}
use Rattle.layout.specs.Regions.{ends_at, estimates_at, arcs_at, arc_word, arc_end, HasArc}
use Rattle.layout.specs.Map.{row_start, row_end, row, arc_in, problem_at, Holds}
use Rattle.layout.specs.Rows.{InRow, IsArcWord, passed}
use Rattle.layout.proofs.Held.{map-word, has_place, at_arc, estimate_word_lem}

-- ---- the walk
pub row_begins : (s : Site) (w : List ℕ) → Holds s w → (u k end : ℕ) → u < s.places → k ≡ row_start s.places w u
    → end ≡ row_end s.places w u → InRow s.places u k end w
row_begins s w g u k end h p q =
    record {
      row = has_place s w g u h;
      room = omega (arith, g.room, g.row_in u h);
      is_end = q;
      from_start = omega arith;
      to_end = omega (arith, g.row_rises u h);
    }

pub row_goes_on : (n u k end : ℕ) (w : List ℕ) → InRow n u k end w → k < end → InRow n u (k + 1) end w
row_goes_on n u k end w v l =
    record { row = v.row; room = v.room; is_end = v.is_end; from_start = omega (arith, v.from_start); to_end = omega arith }

pub row_ends : (n u k end : ℕ) (w : List ℕ) → InRow n u k end w → end ≤ k → k ≡ row_end n w u
row_ends n u k end w v l = omega (arith, v.to_end, v.is_end)

-- the words have the arc that comes next
pub has_arc : (n u k end : ℕ) (w₀ w : List ℕ) → length w ≡ length w₀ → InRow n u k end w₀ → k < end → HasArc n k w
has_arc n u k end w₀ w size v l = record { few = v.row.few; room = omega (arith, v.room) }

module _ (s : Site) (w₀ w : List ℕ) (size : length w ≡ length w₀) (same : drop (ends_at s.places) w ≡ drop (ends_at s.places) w₀)
    (g : Holds s w₀) where
  -- its word is that of an arc
  pub next_arc : (d u k end : ℕ) → d < 2 ^ 30 → InRow s.places u k end w₀ → k < end → IsArcWord s.places d (arc_word s.places w k) w
  unfolding problem_at arc_in
  next_arc d u k end small v l =
      let n = s.places in
      let x = arc_word n w₀ k in
      let is_arc = at_arc s w₀ g u k v.row.place v.from_start (omega (arith, v.is_end)) in
      let end_in : arc_end x < n = g.valid.arc_to (arc_in u x) is_arc in
      let estimate = map-word n w w₀ same (estimates_at n + arc_end x) (omega arith) ∙ sym (estimate_word_lem s w₀ (arc_end x) end_in) in
      rw (map-word n w w₀ same (arcs_at n + k) (omega arith)) (record {
        few = v.row.few;
        room = omega (arith, v.row.room);
        end_in = end_in;
        label_below = small;
        estimate_below = omega (arith, estimate, g.valid.estimate_below (arc_end x));
      })

-- ---- the arcs passed
module _ (n : ℕ) (w : List ℕ) (done : List Arc) (u : ℕ) where
  pub passed_start : passed n w done u (row_start n w u) ≡ done
  unfolding passed
  passed_start =
      let nothing : row_start n w u - row_start n w u ≡ 0 = omega arith in
      rw (nothing, append-nil)

  pub passed_end : passed n w done u (row_end n w u) ≡ done ++ row n w u
  unfolding passed row
  passed_end = refl

  pub passed_step : (k end : ℕ) → InRow n u k end w → k < end → passed n w done u (k + 1) ≡ passed n w done u k ++ (arc_in u (arc_word n w k) ∷ [])
  unfolding passed
  passed_step k end v l =
      let s : ℕ = row_start n w u in
      let rest : List ℕ = drop (arcs_at n + s) w in
      let start : s ≤ k = v.from_start in
      let more : k + 1 - s ≡ suc (k - s) = omega arith in
      let place : arcs_at n + s + (k - s) ≡ arcs_at n + k = omega arith in
      let inside : k - s < length rest = simp length-drop (omega (arith, v.room)) in
      let word : get_or rest (k - s) 0 ≡ arc_word n w k = get_or-drop (arcs_at n + s) w (k - s) 0 ∙ ap (λ (i : ℕ). get_or w i 0) place in
      rw (more, take-suc rest (k - s) 0 inside, word, map-append) (sym (append_assoc done _ _))
