-- Prepared, placed and sorted, the words hold the lanes in the canonical order. Assumes nothing.
use mathlib.Core.Path.{◌≡◌, refl, sym, ap, ap₂, ◌∙◌}
use mathlib.Core.List.{List, ◌++◌, map}
use Prim.Native.Nat.{ℕ, zero, suc, ◌+◌, ◌*◌, ◌≤◌, ◌<◌}
use native.Mathlib.Omega.{arith}
use lib.Dec.{leb}
use lib.ListN.{length, length-map}
use Rattle.area.specs.Part.{part}
use Rattle.area.proofs.Parts.{same_before, less_after, part_length}
use Rattle.model.specs.Framing.{frame}
use Rattle.model.specs.Sums.{sum_below}
use Rattle.model.specs.Stated.{Stated, stated_in, lookup, default}
use Rattle.model.proofs.Sums.{sum-within}
use Rattle.map.specs.declared.Job.{Job}
use Rattle.layout.specs.Regions.{waits_at, estimates_at, arcs_at, estimate_word}
use Rattle.layout.specs.Map.{row_start, row_end}
use Rattle.load.specs.Load.{lanes_from, count_from, begins, at_goals}
use Rattle.load.specs.Loaded.{Prepared}
use Rattle.load.proofs.Sums.{begins_within}
use Rattle.load.proofs.Known.{Known, few_places_lem, lane_fits, sized}
use Rattle.sort.specs.Sorting.{sort_by}
use Rattle.sort.proofs.Keys.{keys_length}
use Rattle.sort.proofs.SortLaws.{sort_length}
use Rattle.map_writer.specs.Order.{no_later}
use Rattle.map_writer.specs.Canonical.{own_estimates, canonical}
use Rattle.lane_rows.specs.Keys.{key_of, keys_between, row_keys}
use Rattle.lane_rows.specs.Rows.{Placeable, AllPlaced, HasRows, sorted_below, RowsSorted}
use Rattle.map_writer.specs.Steps.{InOrder}
use Rattle.map_writer.proofs.RowLaws.{sorted_rows, rows_sorted}
use Rattle.map_writer.proofs.PlaceValues.{own_lookup}

-- what acceptance says of an input and its words
module _ (input : List ℕ) (j : Job) (w₀ : List ℕ) (facts : Known input j (length w₀)) where
  abbrev n : ℕ
  n = j.site.places

  abbrev s : Stated
  s = stated_in input

  abbrev m : ℕ
  m = length s.lanes

  -- the words w₁ are prepared
  module _ (w₁ : List ℕ) (size₁ : length w₁ ≡ length w₀) (before : Prepared input n j.default w₀ w₁) where
    -- the own estimate of each place, or the default, which goals have too
    estimates_own : (v : ℕ) → v < n → estimate_word n w₁ v ≡ lookup (default s) (own_estimates s) v
    unfolding at_goals
    estimates_own v l = before.estimates v l ∙ rw facts.states.default (sym (own_lookup s (default s) v))

    pub can_place : {f : List ℕ} → f ≡ s.factors → Placeable n f (frame input).records w₁
    can_place said =
        record { sized = sized facts size₁; stated_factors = said; room = omega (arith, facts.room); starts = before.starts }

    -- the lanes are placed in the words w₂
    module _ (w₂ : List ℕ) (size₂ : length w₂ ≡ length w₁) (placed : AllPlaced n s w₁ w₂) where
      row_start_lem : (v : ℕ) → v ≤ n → row_start n w₂ v ≡ begins s.lanes v
      unfolding row_start sum_below
      row_start_lem zero l = refl
      row_start_lem (suc v) l = placed.ends v (omega arith)

      row_end_lem : (v : ℕ) → v < n → row_end n w₂ v ≡ begins s.lanes v + count_from v s.lanes
      unfolding row_end
      row_end_lem v l = placed.ends v l

      end_within : (v : ℕ) → v < n → row_end n w₂ v ≤ m
      end_within v l = omega (arith, row_end_lem v l, sum-within (λ u. count_from u s.lanes) v n l, begins_within s.lanes n)

      pub has_rows : HasRows n w₂
      has_rows =
          record {
            few = few_places_lem facts;
            room = omega (arith, facts.room);
            rises = λ v l. omega (arith, row_end_lem v l, row_start_lem v (omega arith));
            within = λ v l. omega (arith, end_within v l, facts.room);
            few_lanes = λ v l. omega (arith, end_within v l, facts.few_lanes);
          }

      -- the keys of the rows are those of the lanes that leave each place
      rows_are : (v : ℕ) → v ≤ n → sorted_below n w₂ v ≡ sorted_rows s.factors s.lanes v
      unfolding sorted_below sorted_rows
      rows_are zero l = refl
      rows_are (suc v) l =
          let row : row_keys n w₂ v ≡ map (key_of s.factors) (lanes_from v s.lanes) =
          rw (row_start_lem v (omega arith), row_end_lem v (omega arith)) (placed.rows v (omega arith)) in
          ap₂ {C = List ℕ} ◌++◌ (rows_are v (omega arith)) (ap (sort_by leb) row)

      in_order : sorted_below n w₂ n ≡ map (key_of s.factors) (canonical s).lanes
      unfolding canonical
      in_order = rows_are n (omega arith) ∙ rows_sorted n s.factors s.lanes (few_places_lem facts) (lane_fits facts)

      -- the rows are sorted in the words w
      module _ (w : List ℕ) (sorted : RowsSorted n n w₂ w) where
        abbrev last : ℕ
        last = row_start n w₂ n

        last_within : last ≤ m
        last_within = omega (arith, row_start_lem n (omega arith), begins_within s.lanes n)

        -- all lanes are among them
        all : last ≡ m
        unfolding keys_between canonical
        all =
            let words = part_length (arcs_at n + 2 * 0) (arcs_at n + 2 * last) w (omega (arith, sorted.size, facts.room, last_within)) in
            let keys = keys_length (part (arcs_at n + 2 * 0) (arcs_at n + 2 * last) w) in
            let lanes = ap length (sorted.keys ∙ in_order) in
            omega (arith, length-map (canonical s).lanes (key_of s.factors), sort_length (no_later s.factors) s.lanes)

        pub ordered : InOrder input j.site w₀ w
        ordered =
            record {
              keys = ap (λ (k : ℕ). keys_between n 0 k w) (facts.arcs ∙ sym all) ∙ sorted.keys ∙ in_order;
              estimates = λ v l.
                  same_before (arcs_at n) w₂ w (estimates_at n + v) sorted.front (omega arith)
                  ∙ placed.estimates v l
                  ∙ estimates_own v l;
              waits = λ v l.
                  same_before (arcs_at n) w₂ w (waits_at n + v) sorted.front (omega arith)
                  ∙ placed.waits v l
                  ∙ before.waits v l;
              rest =
                  less_after (16 * n + 2 * j.site.arcs) (arcs_at n + 2 * last) w₂ w (omega (arith, all, facts.arcs)) sorted.rest
                  ∙ less_after (16 * n + 2 * j.site.arcs) (arcs_at n + 2 * m) w₁ w₂ (omega (arith, facts.arcs)) placed.rest
                  ∙ less_after (16 * n + 2 * j.site.arcs) (arcs_at n) w₀ w₁ (omega arith) before.rest;
            }
