-- The parents that the arcs passed give, as arc after arc is passed. Places rise, so the first parent found is the lowest-numbered.
-- Assumes nothing.
use mathlib.Core.Path.{◌≡◌, refl, sym, ◌∙◌}
use mathlib.Core.Bool.{Bool, true, false, cond, ◌&&◌}
use mathlib.Core.List.{List, [], ◌∷◌, ◌++◌}
use mathlib.Core.Option.{Option, none, some}
use Prim.Native.Nat.{ℕ, suc, ◌+◌, ◌≤◌, ◌<◌}
use native.Mathlib.Decide.{ℕ_discrete}
use native.Mathlib.Numerals.{add-one}
use native.Mathlib.Omega.{arith}
use lib.Dec.{ltb, eqb}
use lib.ListN.{length, get_or}
use borrow.Author.Tests.{lt-ltb, le-ltb, eqb-true, eq-eqb, ne_eqb}
use Rattle.model.specs.Costs.{Table, cost_at}
use Rattle.model.specs.Lists.{filter_map, least_by, lesser}
use Rattle.model.specs.Problem.{Arc}
use Rattle.model.specs.Routes.{parent_by}
use Rattle.model.proofs.Lists.{none-some, both, not_true_false}
use Rattle.model.proofs.Routes.{parent_by_some}
use Rattle.map.specs.declared.Site.{Site}
use Rattle.layout.specs.Regions.{arcs_at, label_word, depth_word, parent_word, arc_word, with_parent, arc_end, arc_cost}
use Rattle.layout.specs.Map.{row_start, row_end, arc_in, rows_below, problem_at}
use Rattle.layout.specs.Rows.{IsArcWord}
use Rattle.layout.specs.Labels.{no_word, word_or, labels, depths, Labelled, Kept, NoParents}
use Rattle.layout.proofs.Held.{map-word, rows_same, map_room, has_place}
use Rattle.layout.proofs.Rows.{row_begins, row_goes_on, row_ends, next_arc, passed_start, passed_end, passed_step}
use Rattle.layout.proofs.Labels.{word_or-none, word_or-some, label_at, label_is, unlabelled, depth_at}
use Rattle.layout.proofs.Labels.{kept_all, kept_on, labels_kept, labelled_kept, depths_kept, depth_kept}
use Rattle.layout.proofs.Labels.{with_parent_kept, with_parent_same, with_parent_other, parent_word_lem}
use Rattle.scans.specs.Area.{Recorded, parent_from, HasParents}
use Rattle.scans.specs.Scans.{parent_stored, ParentsOver, ParentsRow, ParentsBelow, Parenting, ParentsUpTo}
use Rattle.scans.proofs.Least.{lesser_below, word_step}
use Rattle.scans.proofs.Rows.{row_nothing}

-- ---- one arc, from u with the label d, which makes k arcs from the start

-- it reaches its end at the end's own label and depth, and no parent is there
pub record Fits (n d k x : ℕ) (w : List ℕ) : Type 0 where
  pub label : label_word w (arc_end x) ≡ d + arc_cost x
  pub depth : depth_word n w (arc_end x) ≡ k
  pub no_parent : parent_word n w (arc_end x) ≡ no_word

abbrev fits : (n d k x : ℕ) → List ℕ → Bool
fits n d k x w =
    let v = arc_end x in
    eqb (label_word w v) (d + arc_cost x) && (eqb (depth_word n w v) k && eqb (parent_word n w v) no_word)

fits_true : (n d k x : ℕ) (w : List ℕ) → fits n d k x w ≡ true → Fits n d k x w
fits_true n d k x w e =
    let v = arc_end x in
    let parts = both (eqb (label_word w v) (d + arc_cost x)) _ e in
    let rest = both (eqb (depth_word n w v) k) _ parts.1 in
    record {
      label = eqb-true (label_word w v) (d + arc_cost x) parts.0;
      depth = eqb-true (depth_word n w v) k rest.0;
      no_parent = eqb-true (parent_word n w v) no_word rest.1;
    }

cond_none : {A : Type 0} (b : Bool) (o : Option A) → o ≡ none → cond b o none ≡ none
cond_none true o e = e
cond_none false o e = refl

module _ (n u d k x : ℕ) (w : List ℕ) where
  pub stored_first : Fits n d k x w → parent_stored n u d k x w ≡ with_parent n w (arc_end x) u
  unfolding parent_stored
  stored_first f =
      let v = arc_end x in
      rw (eq-eqb (label_word w v) (d + arc_cost x) f.label, eq-eqb (depth_word n w v) k f.depth, eq-eqb (parent_word n w v) no_word f.no_parent)

  pub stored_not : (Fits n d k x w → ⊥) → parent_stored n u d k x w ≡ w
  unfolding parent_stored
  stored_not h = rw (not_true_false (fits n d k x w) (λ e. h (fits_true n d k x w e)))

module _ (n u d k x : ℕ) (w : List ℕ) (g : IsArcWord n d x w) where
  pub stored_kept : Kept n w (parent_stored n u d k x w)
  unfolding parent_stored
  stored_kept = go (fits n d k x w)
    where
      go : (b : Bool) → Kept n w (cond b (with_parent n w (arc_end x) u) w)
      go true = with_parent_kept n w (arc_end x) u g.end_in
      go false = kept_all n w

  stored_other : (v : ℕ) → (v ≡ arc_end x → ⊥) → parent_word n (parent_stored n u d k x w) v ≡ parent_word n w v
  unfolding parent_stored
  stored_other v h = go (fits n d k x w)
    where
      go : (b : Bool) → parent_word n (cond b (with_parent n w (arc_end x) u) w) v ≡ parent_word n w v
      go true = with_parent_other n w (arc_end x) u v h
      go false = refl

  gives_none : (v : ℕ) (o : Option ℕ) → (v ≡ arc_end x → ⊥) → parent_by (arc_in u x) v (some d) o ≡ none
  unfolding parent_by arc_in
  gives_none v none h = refl
  gives_none v (some e) h = rw (ne_eqb (arc_end x) v (λ q. h (sym q)))

  gives_not : (v : ℕ) → v ≡ arc_end x → (label_word w v ≡ d + arc_cost x → ⊥) → parent_by (arc_in u x) v (some d) (word_or (label_word w v)) ≡ none
  unfolding parent_by arc_in
  gives_not v q h = go (ℕ_discrete (label_word w v) no_word)
    where
      go : Dec (label_word w v ≡ no_word) → parent_by (arc_in u x) v (some d) (word_or (label_word w v)) ≡ none
      go (yes e) = rw (word_or-none (label_word w v) e)
      go (no e) = rw (word_or-some (label_word w v) e, eq-eqb (arc_end x) v (sym q), ne_eqb (d + arc_cost x) (label_word w v) (λ p. h (sym p)))

  gives : (v : ℕ) → v ≡ arc_end x → label_word w v ≡ d + arc_cost x → parent_by (arc_in u x) v (some d) (word_or (label_word w v)) ≡ some u
  unfolding parent_by arc_in
  gives v q h =
      let label : word_or (label_word w v) ≡ some (label_word w v) = word_or-some (label_word w v) (λ e. omega (arith, g.label_below)) in
      rw (label, eq-eqb (arc_end x) v (sym q), eq-eqb (d + arc_cost x) (label_word w v) (sym h))

  -- the parent that the arc gives v
  abbrev given : ℕ → Option ℕ
  given v = cond (eqb k (depth_word n w v)) (parent_by (arc_in u x) v (some d) (word_or (label_word w v))) none

  -- the parent of v afterwards, where no parent is above u
  stored_at : u < no_word → (v : ℕ) → v < n → ((y : ℕ) → word_or (parent_word n w v) ≡ some y → y ≤ u)
      → parent_word n (parent_stored n u d k x w) v ≡ lesser ltb (parent_word n w v) (given v)
  unfolding lesser
  stored_at below v l low = by (ℕ_discrete v (arc_end x))
    where
      r : ℕ
      r = parent_word n w v

      Stored : Type 0
      Stored = parent_word n (parent_stored n u d k x w) v ≡ lesser ltb r (given v)

      found : v ≡ arc_end x → label_word w v ≡ d + arc_cost x → depth_word n w v ≡ k → Dec (r ≡ no_word) → Stored
      found q h j (yes e) =
          let first = stored_first n u d k x w (record { label = rw q at h; depth = rw q at j; no_parent = rw q at e }) in
          rw (gives v q h, eq-eqb k (depth_word n w v) (sym j), e, lt-ltb u no_word below, first, ← q)
          (with_parent_same n w v u (omega (arith, g.room)))
      found q h j (no e) =
          let first : r ≤ u = low r (word_or-some r e) in
          let later = stored_not n u d k x w (λ f. e (rw q f.no_parent)) in
          rw (gives v q h, eq-eqb k (depth_word n w v) (sym j), le-ltb u r first, later)

      labelled : v ≡ arc_end x → label_word w v ≡ d + arc_cost x → Dec (depth_word n w v ≡ k) → Stored
      labelled q h (yes j) = found q h j (ℕ_discrete r no_word)
      labelled q h (no j) = rw (ne_eqb k (depth_word n w v) (λ p. j (sym p)), stored_not n u d k x w (λ f. j (rw q f.depth)))

      to_end : v ≡ arc_end x → Dec (label_word w v ≡ d + arc_cost x) → Stored
      to_end q (yes h) = labelled q h (ℕ_discrete (depth_word n w v) k)
      to_end q (no h) = rw (cond_none (eqb k (depth_word n w v)) _ (gives_not v q h), stored_not n u d k x w (λ f. h (rw q f.label)))

      by : Dec (v ≡ arc_end x) → Stored
      by (yes q) = to_end q (ℕ_discrete (label_word w v) (d + arc_cost x))
      by (no q) = rw (cond_none (eqb k (depth_word n w v)) _ (gives_none v (word_or (label_word w v)) q)) (stored_other v q)

-- an arc gives no other parent than the place that it leaves
gives_from : (t : Table) (ks : List ℕ) (v : ℕ) (a : Arc) (y : ℕ) → parent_from t ks v a ≡ some y → a.from ≡ y
unfolding parent_from
gives_from t ks v a y = go (eqb (get_or ks a.from 0 + 1) (get_or ks v 0))
  where
    go : (b : Bool) → cond b (parent_by a v (cost_at t a.from) (cost_at t v)) none ≡ some y → a.from ≡ y
    go true e = (parent_by_some a v (cost_at t a.from) (cost_at t v) y e).4
    go false e = none-some e

module _ (n u d k x : ℕ) (w : List ℕ) (g : IsArcWord n d x w) (below : u < no_word) where
  pub parents_step : (t : Table) (ks : List ℕ) (arcs : List Arc) → labels n w ≡ t → depths n w ≡ ks → cost_at t u ≡ some d → get_or ks u 0 + 1 ≡ k
      → ParentsOver n t ks arcs u w → ParentsOver n t ks (arcs ++ (arc_in u x ∷ [])) u (parent_stored n u d k x w)
  unfolding arc_in parent_from
  parents_step t ks arcs same-labels same_depths label depth so_far =
      record {
        lowest = λ v h.
            rw (stored v h) (word_step (parent_from t ks v) arcs (arc_in u x) (parent_word n w v) (found v) (so_far.lowest v h));
        none_above = λ v y h e.
            lesser_below (parent_word n w v) u (parent_from t ks v (arc_in u x)) (not_above v)
            (λ z. so_far.none_above v z h) y (rw (stored v h) at e);
      }
    where
      not_above : (v y : ℕ) → parent_from t ks v (arc_in u x) ≡ some y → y ≤ u
      not_above v y e = omega (arith, gives_from t ks v (arc_in u x) y e)

      found : (v y : ℕ) → parent_from t ks v (arc_in u x) ≡ some y → y < no_word
      found v y e = omega (arith, not_above v y e)

      stored : (v : ℕ) → v < n → parent_word n (parent_stored n u d k x w) v ≡ lesser ltb (parent_word n w v) (parent_from t ks v (arc_in u x))
      stored v h =
          let word : cost_at t v ≡ word_or (label_word w v) = rw same-labels at (label_at n w v h (omega (arith, g.room))) in
          let deep : get_or ks v 0 ≡ depth_word n w v = rw same_depths at (depth_at n w v h) in
          rw (label, depth, word, deep) (stored_at n u d k x w g below v h (λ y. so_far.none_above v y h))

-- ---- the row of one place
above_next : (n u : ℕ) (t : Table) (ks : List ℕ) (arcs : List Arc) (w : List ℕ) → ParentsOver n t ks arcs u w → ParentsOver n t ks arcs (suc u) w
above_next n u t ks arcs w v = record { lowest = v.lowest; none_above = λ p y h e. omega (arith, v.none_above p y h e) }

module _ (s : Site) (u : ℕ) (w : List ℕ) (g : ParentsRow s u w) where
  -- a place with no label is no parent
  pub no_parents : label_word w u ≡ no_word → ParentsBelow s.places (suc u) w w
  unfolding parent_from parent_by arc_in
  no_parents h =
      let n = s.places in
      let t : Table = labels n w in
      let ks : List ℕ = depths n w in
      let label : cost_at t u ≡ none = unlabelled n w (omega (arith, g.row.room)) u g.row.place h in
      let nothing : (v x : ℕ) → parent_from t ks v (arc_in u x) ≡ none = λ v x. cond_none (eqb (get_or ks u 0 + 1) (get_or ks v 0)) _ (rw label) in
      let over : ParentsOver n t ks (rows_below n w (suc u)) u w
      = record {
        lowest = λ v l. rw (row_nothing n w u (parent_from t ks v) (nothing v)) (g.so_far.lowest v l);
        none_above = g.so_far.none_above;
      } in
      record { kept = kept_all n w; so_far = above_next n u t ks (rows_below n w (suc u)) w over }

  pub parenting_start : (k end : ℕ) → k ≡ row_start s.places w u → end ≡ row_end s.places w u → Parenting s.places u k end w w
  parenting_start k end p q =
      let n = s.places in
      record {
        inside = row_begins s w g.recorded.labelled.holds u k end g.row.place p q;
        kept = kept_all n w;
        so_far = rw (p, passed_start n w (rows_below n w u) u) g.so_far;
      }

module _ (s : Site) (u d k end : ℕ) (w₀ w : List ℕ) (g : Labelled s w₀) (label : cost_at (labels s.places w₀) u ≡ some d)
    (v : Parenting s.places u k end w₀ w) (l : k < end) where
  abbrev n : ℕ
  n = s.places

  pub parenting_arc : IsArcWord n d (arc_word n w k) w
  parenting_arc = next_arc s w₀ w v.kept.same_length v.kept.same_map g.holds d u k end (g.label_below u d label) v.inside l

  pub parenting_step : Parenting n u (k + 1) end w₀ (parent_stored n u d (depth_word n w₀ u + 1) (arc_word n w k) w)
  parenting_step =
      let x : ℕ = arc_word n w k in
      let same : arc_word n w₀ k ≡ x = sym (map-word n w w₀ v.kept.same_map (arcs_at n + k) (omega arith)) in
      let below : u < no_word = omega (arith, v.inside.row) in
      let j : ℕ = depth_word n w₀ u + 1 in
      let depth : get_or (depths n w₀) u 0 + 1 ≡ j = rw (depth_at n w₀ u v.inside.row.place) in
      record {
        inside = row_goes_on n u k end w₀ v.inside l;
        kept = kept_on n w₀ w (parent_stored n u d j x w) v.kept (stored_kept n u d j x w parenting_arc);
        so_far = rw (passed_step n w₀ (rows_below n w₀ u) u k end v.inside l, same)
            (parents_step n u d j x w parenting_arc below (labels n w₀) (depths n w₀) _
            (labels_kept n w₀ w v.kept) (depths_kept n w₀ w v.kept) label depth v.so_far);
      }

pub parenting_end : (n u k end : ℕ) (w₀ w : List ℕ) → Parenting n u k end w₀ w → end ≤ k → ParentsBelow n (suc u) w₀ w
unfolding rows_below
parenting_end n u k end w₀ w v l =
    let rows = rows_below n w₀ (suc u) in
    let over : ParentsOver n (labels n w₀) (depths n w₀) rows u w =
    rw (← passed_end n w₀ (rows_below n w₀ u) u, ← row_ends n u k end w₀ v.inside l) v.so_far in
    record { kept = v.kept; so_far = above_next n u (labels n w₀) (depths n w₀) rows w over }

-- ---- all rows
recorded_kept : (s : Site) (w₀ w : List ℕ) → Kept s.places w₀ w → Recorded s w₀ → Recorded s w
recorded_kept s w₀ w k g =
    let n = s.places in
    let room : n ≤ length w₀ = omega (arith, map_room s w₀ g.labelled.holds) in
    record {
      labelled = labelled_kept s w₀ w k g.labelled;
      depth_below = λ v d e.
          let label : cost_at (labels n w₀) v ≡ some d = rw (labels_kept n w₀ w k) at e in
          rw (depth_kept n w₀ w k v (label_is n w₀ room v d label).place) (g.depth_below v d label);
    }

pub parents_row : (s : Site) (u : ℕ) (w₀ w : List ℕ) → u < s.places → ParentsUpTo s u w₀ w → ParentsRow s u w
parents_row s u w₀ w h v =
    let n = s.places in
    let kept : Kept n w₀ w = v.so_far.kept in
    let recorded : Recorded s w = recorded_kept s w₀ w kept v.recorded in
    record {
      recorded = recorded;
      row = has_place s w recorded.labelled.holds u h;
      so_far = rw (labels_kept n w₀ w kept, depths_kept n w₀ w kept, rows_same n w w₀ kept.same_map u) v.so_far.so_far;
    }

-- labels, depths and map of w₁ are those of w₀, so what those of w₁ give is what those of w₀ give
parents_on : (n u : ℕ) (w₀ w₁ w : List ℕ) → Kept n w₀ w₁ → ParentsBelow n u w₁ w → ParentsBelow n u w₀ w
parents_on n u w₀ w₁ w k v =
    record {
      kept = kept_on n w₀ w₁ w k v.kept;
      so_far = rw (← labels_kept n w₀ w₁ k, ← depths_kept n w₀ w₁ k, ← rows_same n w₁ w₀ k.same_map u) v.so_far;
    }

pub one_row_more : (s : Site) (u : ℕ) (w₀ w₁ w : List ℕ) → u < s.places → ParentsUpTo s u w₀ w₁ → ParentsBelow s.places (suc u) w₁ w
    → ParentsUpTo s (u + 1) w₀ w
one_row_more s u w₀ w₁ w h j v =
    record { recorded = j.recorded; to_end = omega arith; so_far = rw add-one (parents_on s.places (suc u) w₀ w₁ w j.so_far.kept v) }

-- before the first row no place has a parent
pub no_rows : (s : Site) (w₀ w : List ℕ) → Recorded s w₀ → NoParents s.places w₀ w → ParentsUpTo s 0 w w
unfolding rows_below filter_map least_by
no_rows s w₀ w g c =
    let none : (v : ℕ) → v < s.places → word_or (parent_word s.places w v) ≡ none = λ v l. word_or-none _ (c.none v l) in
    let over : ParentsOver s.places (labels s.places w) (depths s.places w) (rows_below s.places w 0) 0 w =
    record { lowest = none; none_above = λ v y l f. none-some (sym (none v l) ∙ f) } in
    record { recorded = recorded_kept s w₀ w c.kept g; to_end = omega arith; so_far = record { kept = kept_all s.places w; so_far = over } }

-- the pass began on the words w₁, with the labels, the depths and the map of w₀
pub all_rows : (s : Site) (u : ℕ) (w₀ w₁ w : List ℕ) → Kept s.places w₀ w₁ → ParentsUpTo s u w₁ w → s.places ≤ u → HasParents s w₀ w
unfolding problem_at
all_rows s u w₀ w₁ w k v h =
    let n = s.places in
    let end : u ≡ n = omega (arith, v.to_end) in
    let all : ParentsBelow n n w₀ w = rw end at (parents_on n u w₀ w₁ w k v.so_far) in
    let room : arcs_at n ≤ length w = omega (arith, map_room s w₁ v.recorded.labelled.holds, v.so_far.kept.same_length) in
    record {
      same_map = all.kept.same_map;
      parents = λ p l. sym (parent_word_lem n p w (omega arith)) ∙ all.so_far.lowest p l;
    }
