-- The least sum over the arcs passed, as arc after arc is passed, is in the end the number with which a query ends.
-- Assumes nothing.
use mathlib.Core.Path.{◌≡◌, refl, ◌∙◌}
use mathlib.Core.Bool.{cond}
use mathlib.Core.List.{List, Memᴰ}
use mathlib.Core.Option.{Option, none, some, some-injective}
use Prim.Native.Nat.{ℕ, ◌+◌, ◌≤◌, ◌<◌}
use native.Mathlib.Numerals.{add-one}
use native.Mathlib.Omega.{arith}
use lib.Dec.{ltb}
use borrow.Author.Tests.{lt-ltb, le-ltb}
use Rattle.model.specs.Costs.{cost_at}
use Rattle.model.specs.Lists.{filter_map, least, least_by, lesser}
use Rattle.model.specs.Problem.{Arc}
use Rattle.model.specs.Query.{crossing, next_limit}
use Rattle.model.proofs.Lists.{none-some, filter_map_member}
use Rattle.model.proofs.Same.{same_least}
use Rattle.map.specs.declared.Site.{Site}
use Rattle.layout.specs.Regions.{label_word, estimate_word, arc_word, arc_end, arc_cost}
use Rattle.layout.specs.Map.{row_start, row_end, arc_in, rows_below, problem_at}
use Rattle.layout.specs.Rows.{IsArcWord, passed}
use Rattle.layout.specs.Labels.{no_word, word_or, labels, listed_at}
use Rattle.layout.proofs.Held.{map_room, has_place, row_of, of_row, row_from}
use Rattle.layout.proofs.Rows.{row_begins, row_goes_on, row_ends, next_arc, passed_start, passed_end, passed_step}
use Rattle.layout.proofs.Labels.{word_or-none, word_or-some, label_at, HasLabel, label_is}
use Rattle.scans.specs.Area.{Listed, IsNextLimit}
use Rattle.scans.specs.Scans.{rows_listed, sum_of, Crossed, LimitRow, LimitByRow, Limiting, LimitUpTo}
use Rattle.scans.proofs.Least.{word_step}
use Rattle.scans.proofs.Rows.{listed_of, of_listed}

-- ---- one arc: `out` is its sum, or the largest word where its end has a label
module _ (s : Site) (d x least out : ℕ) (w : List ℕ) (g : IsArcWord s.places d x w) where
  end_label : cost_at (labels s.places w) (arc_end x) ≡ word_or (label_word w (arc_end x))
  end_label = label_at s.places w (arc_end x) g.end_in (omega (arith, g.end_in, g.room))

  pub not_crossed : least ≤ no_word → (label_word w (arc_end x) ≡ no_word → ⊥) → out ≡ no_word → Crossed s d x least w (cond (ltb out least) out least)
  unfolding crossing lesser
  not_crossed small h e =
      let label = end_label ∙ word_or-some (label_word w (arc_end x)) h in
      record { lowered = λ u. rw (label, e, le-ltb no_word least small) }

  pub crossed : label_word w (arc_end x) ≡ no_word → out ≡ d + arc_cost x + estimate_word s.places w (arc_end x)
      → Crossed s d x least w (cond (ltb out least) out least)
  unfolding crossing arc_in problem_at lesser
  crossed h e =
      let label = end_label ∙ word_or-none (label_word w (arc_end x)) h in
      record { lowered = λ u. rw (label, lt-ltb (arc_end x) s.places g.end_in, e) }

sum_below : (s : Site) (d x u : ℕ) (w : List ℕ) → IsArcWord s.places d x w → (o : Option ℕ) (y : ℕ)
    → crossing (problem_at s w) (arc_in u x) (some d) o ≡ some y → y < no_word
unfolding crossing arc_in problem_at
sum_below s d x u w g (some e) y q = none-some q
sum_below s d x u w g none y q =
    let sum : d + arc_cost x + estimate_word s.places w (arc_end x) ≡ y =
    some-injective _ _ (rw (lt-ltb (arc_end x) s.places g.end_in) at q) in
    omega (arith, g.label_below, g.estimate_below)

-- ---- the row of one place
module _ (s : Site) (u : ℕ) (w : List ℕ) (g : LimitRow s u w) where
  abbrev n : ℕ
  n = s.places

  pub limiting_start : (k end least : ℕ) → k ≡ row_start n w u → end ≡ row_end n w u → Limiting s u k end least w least
  limiting_start k end least p q =
      record { inside = row_begins s w g.labelled.holds u k end g.row.place p q; so_far = λ done h. rw (p, passed_start n w done u) h }

  module _ (k end least best : ℕ) (v : Limiting s u k end least w best) where
    pub limiting_arc : k < end → IsArcWord n (label_word w u) (arc_word n w k) w
    limiting_arc l =
        let small = g.labelled.label_below u (label_word w u) g.label in
        next_arc s w w refl refl g.labelled.holds (label_word w u) u k end small v.inside l

    pub limiting_step : k < end → (r : ℕ) → Crossed s (label_word w u) (arc_word n w k) best w r → Limiting s u (k + 1) end least w r
    unfolding sum_of arc_in
    limiting_step l r c =
        let x : ℕ = arc_word n w k in
        let label = g.label in
        let below : (y : ℕ) → sum_of s w (arc_in u x) ≡ some y → y < no_word =
        λ y q. sum_below s (label_word w u) x u w (limiting_arc l) (cost_at (labels n w) (arc_end x)) y (rw label at q) in
        record {
          inside = row_goes_on n u k end w v.inside l;
          so_far = λ done h. record {
            least_sum =
                rw (passed_step n w done u k end v.inside l, c.lowered u)
                (simp label at (word_step (sum_of s w) (passed n w done u k) (arc_in u x) best below (v.so_far done h).least_sum));
          };
        }

    pub limiting_end : end ≤ k → LimitByRow s u least w best
    limiting_end l = record { over = λ done h. rw (← passed_end n w done u, ← row_ends n u k end w v.inside l) (v.so_far done h) }

-- ---- the rows of all listed places
pub no_rows : (s : Site) (count : ℕ) (w : List ℕ) → LimitUpTo s count 0 no_word w
unfolding rows_listed filter_map least_by
no_rows s count w = record { to_end = omega arith; so_far = record { least_sum = word_or-none no_word refl } }

module _ (s : Site) (count : ℕ) (w : List ℕ) (g : Listed s count w) where
  abbrev places : ℕ
  places = s.places

  pub limit_row : (i : ℕ) → i < count → LimitRow s (listed_at places w i) w
  limit_row i l =
      let u = listed_at places w i in
      let holds = g.labelled.holds in
      let (d, label) = g.places.each i l in
      let is : HasLabel places w u d = label_is places w (omega (arith, map_room s w holds)) u d label in
      record { labelled = g.labelled; row = has_place s w holds u is.place; label = rw is.word label }

  pub one_row_more : (i best r : ℕ) → i < count → LimitUpTo s count i best w → LimitByRow s (listed_at places w i) best w r
      → LimitUpTo s count (i + 1) r w
  unfolding rows_listed
  one_row_more i best r l v b = record { to_end = omega arith; so_far = rw add-one (b.over (rows_listed places w i) v.so_far) }

  -- an arc that gives a sum leaves a labelled place, and that is listed
  sum_listed : (a : Arc) (y : ℕ) → Memᴰ a (rows_below places w places) → sum_of s w a ≡ some y → Memᴰ a (rows_listed places w count)
  unfolding sum_of crossing
  sum_listed a y m e =
      let (u, below, in_row) = row_of places w places a m in
      let (i, l, is) = g.places.all u (rw (row_from places w u a in_row) at (label (cost_at (labels places w) a.from) refl e)) in
      of_listed places w count a i l (rw is in_row)
    where
      label : (o : Option ℕ) → cost_at (labels places w) a.from ≡ o
          → crossing (problem_at s w) a o (cost_at (labels places w) a.to) ≡ some y → (d : ℕ) × (cost_at (labels places w) a.from ≡ some d)
      label none q e = none-some e
      label (some d) q e = (d, q)

  listed_below : (a : Arc) → Memᴰ a (rows_listed places w count) → Memᴰ a (rows_below places w places)
  listed_below a m =
      let (i, l, in_row) = listed_of places w count a m in
      of_row places w places a (listed_at places w i) (limit_row i l).row.place in_row

  -- so the least sum over the listed places' rows is the least over all
  pub all_rows : (i r : ℕ) → LimitUpTo s count i r w → count ≤ i → IsNextLimit s w r
  unfolding next_limit problem_at sum_of
  all_rows i r v h =
      let end : i ≡ count = omega (arith, v.to_end) in
      let f : Arc → Option ℕ = sum_of s w in
      let listed = rows_listed places w count in
      let all = rows_below places w places in
      let same : least (filter_map f listed) ≡ least (filter_map f all) =
      same_least (filter_map f listed) (filter_map f all)
      (λ y m. let (a, j, e) = (filter_map_member f listed y).0 m in (filter_map_member f all y).1 (a, listed_below a j, e))
      (λ y m. let (a, j, e) = (filter_map_member f all y).0 m in (filter_map_member f listed y).1 (a, sum_listed a y j e, e)) in
      record { next = rw end at v.so_far.least_sum ∙ same }
