-- Every table that passes is taken, and so is every default: there is an input that is accepted with it. Assumes nothing.
use mathlib.Core.Path.{◌≡◌, refl, ap}
use mathlib.Core.Bool.{false}
use mathlib.Core.List.Memᴰ
use mathlib.Core.List.{List, [], ◌∷◌, ◌++◌, head_d, append-nil}
use Prim.Native.Nat.{ℕ, ◌≤◌, ◌<◌}
use native.Mathlib.Decide.{dec_lt}
use native.Mathlib.Omega.{arith}
use lib.ListN.{get_or, get_or-eq_default}
use borrow.Author.Tests.{le-ltb}
use Rattle.model.specs.Lists.{any, is_given, cons_if, filter_map, repeats, rises}
use Rattle.model.specs.Bytes.{u16, u32, u16s, put16, put32, put16s}
use Rattle.model.specs.Framing.{Record, frame}
use Rattle.model.specs.Limits.{max_estimate}
use Rattle.model.specs.Items.{head_kind, job_kind, factors_kind, default_kind, Item, head, job, own_factors, default_estimate}
use Rattle.model.specs.Items.{head_of, job_of, factors_of, default_of, item_of, items}
use Rattle.model.specs.Items.{body_length, other_than, misfits, size_in, lane_in, estimate_in, job_in, wait_in, factors_in, default_in}
use Rattle.model.specs.Stated.{IsTable, stated_by, stated, lookup, default}
use Rattle.model.specs.Refusals.{unknown_kind, wrong_length, begins_with_head, wrong_head, wrong_size, outside_map, free_arc, large_estimate, two_estimates}
use Rattle.model.specs.Refusals.{wrong_measure, wrong_factors, wrong_wait, ends_with_job, wrong_job, job_outside_map, wrong_goals, goal_estimate}
use Rattle.model.specs.Refusals.{short_work, short_sheet, form_rows, size_rows, map_rows, factor_rows, cost_rows, job_rows, input_rows, room_rows, rows}
use Rattle.model.specs.Refusals.{first_that_holds, refusal, Accepted}
use Rattle.model.proofs.Bytes.{put16s-length, u16s_put16s, u32_put32, append_bytes, put16_is_bytes, put32_is_bytes, put16s_is_bytes}
use Rattle.model.proofs.Records.{put_records, Fits, AllFit, frame_records}
use Rattle.model.proofs.Charges.{table_passes}

-- opens the conditions, which are then computed of three items
unfoldable conditions : Unit {0}
unfolding refusal rows input_rows form_rows size_rows map_rows factor_rows cost_rows job_rows room_rows first_that_holds stated stated_by head_d
    unknown_kind begins_with_head wrong_head wrong_size outside_map free_arc large_estimate two_estimates wrong_measure wrong_factors wrong_wait ends_with_job
    wrong_job job_outside_map wrong_goals goal_estimate short_work short_sheet body_length size_in lane_in estimate_in job_in wait_in factors_in default_in
    filter_map cons_if is_given any repeats rises lookup
conditions = tt

-- one place, the record, and a job from the place to itself
unfoldable pub records_with : Record → List Record
records_with r =
    record { kind = head_kind; body = put16 1 ++ put16 0 }
    ∷ r
    ∷ record { kind = job_kind; body = put16 0 ++ put32 0 ++ put16 1 ++ put16s (0 ∷ []) }
    ∷ []

module _ (r : Record) (fits : Fits r) where
  pub records_fit : AllFit (records_with r)
  unfolding records_with put16 put32 put16s
  records_fit q (Memᴰ.head e) =
      rw e (record { kind_below = omega arith; length_below = omega arith; bytes = append_bytes (put16 1) (put16 0) (put16_is_bytes 1) (put16_is_bytes 0) })
  records_fit q (Memᴰ.tail (Memᴰ.head e)) = rw e fits
  records_fit q (Memᴰ.tail (Memᴰ.tail (Memᴰ.head e))) =
      rw e (record {
        kind_below = omega arith;
        length_below = omega arith;
        bytes =
            append_bytes (put16 0 ++ put32 0 ++ put16 1) (put16 0)
            (append_bytes (put16 0 ++ put32 0) (put16 1) (append_bytes (put16 0) (put32 0) (put16_is_bytes 0) (put32_is_bytes 0)) (put16_is_bytes 1))
            (put16_is_bytes 0);
      })
  records_fit q (Memᴰ.tail (Memᴰ.tail (Memᴰ.tail i))) = absurd (Memᴰ.not-nil i)

  said : items (records_with r) ≡ head (record { places = 1; arcs = 0 }) ∷ item_of r ∷ job (record { start = 0; allowance = 0; goals = 0 ∷ [] }) ∷ []
  unfolding records_with items item_of head_of job_of u16 u32 u16s put16 put32 put16s
  said = refl

  right_lengths : misfits r ≡ false → wrong_length (records_with r) ≡ false
  unfolding records_with wrong_length misfits item_of body_length other_than head_of job_of u16 u32 u16s put16 put32 put16s any
  right_lengths right = rw right

-- ---- Factors

abbrev table_record : List ℕ → Record
table_record fs = record { kind = factors_kind; body = put16s fs }

-- the records of an input with this table
abbrev pub table_records : List ℕ → List Record
table_records fs = records_with (table_record fs)

module _ (fs : List ℕ) (table : IsTable fs) where
  factor_below : (i : ℕ) → get_or fs i 0 < 65536
  factor_below i = go (dec_lt i 8)
    where
      go : Dec (i < 8) → get_or fs i 0 < 65536
      go (yes h) = omega (arith, table.below i (omega arith))
      go (no h) = rw (get_or-eq_default fs 0 {n = i} (omega (arith, table.eight))) (omega arith)

  -- its factors are read back
  pub factors_read : factors_of (put16s fs) ≡ fs
  unfolding factors_of
  factors_read = rw (append-nil (put16s fs), table.eight) at (u16s_put16s [] fs [] factor_below)

  table_item : item_of (table_record fs) ≡ own_factors fs
  unfolding item_of
  table_item = ap {B = Item} own_factors factors_read

  table_fits : Fits (table_record fs)
  table_fits = record { kind_below = omega arith; length_below = omega (arith, put16s-length fs, table.eight); bytes = put16s_is_bytes fs }

  pub tables_fit : AllFit (table_records fs)
  tables_fit = records_fit (table_record fs) table_fits

  right_table : misfits (table_record fs) ≡ false
  unfolding misfits item_of body_length other_than
  right_table = rw (put16s-length fs, table.eight)

  pub tables_accepted : Accepted (put_records (table_records fs)) 16 12
  unfolding conditions
  tables_accepted =
      let r = table_record fs in
      rw (
        frame_records (table_records fs) tables_fit,
        right_lengths r table_fits right_table,
        said r table_fits,
        table_item,
        (table_passes fs table.eight).1 table,
      )

  pub tables_stated : (stated (frame (put_records (table_records fs))).records).factors ≡ fs
  unfolding stated stated_by filter_map cons_if factors_in head_d
  tables_stated = rw (frame_records (table_records fs) tables_fit, said (table_record fs) table_fits, table_item)

-- ---- A default

abbrev default_record : ℕ → Record
default_record x = record { kind = default_kind; body = put32 x }

abbrev pub default_records : ℕ → List Record
default_records x = records_with (default_record x)

module _ (x : ℕ) (small : x ≤ max_estimate) where
  pub default_read : default_of (put32 x) ≡ x
  unfolding default_of put32
  default_read = u32_put32 [] x [] (omega arith)

  default_item : item_of (default_record x) ≡ default_estimate x
  unfolding item_of
  default_item = ap {B = Item} default_estimate default_read

  default_fits : Fits (default_record x)
  unfolding put32
  default_fits = record { kind_below = omega arith; length_below = omega arith; bytes = put32_is_bytes x }

  pub defaults_fit : AllFit (default_records x)
  defaults_fit = records_fit (default_record x) default_fits

  right_default : misfits (default_record x) ≡ false
  unfolding misfits item_of body_length other_than put32
  right_default = refl

  -- though its only place is a goal
  pub defaults_accepted : Accepted (put_records (default_records x)) 16 12
  unfolding conditions
  defaults_accepted =
      let r = default_record x in
      rw (
        frame_records (default_records x) defaults_fit,
        right_lengths r default_fits right_default,
        said r default_fits,
        default_item,
        le-ltb max_estimate x small,
      )

  pub defaults_stated : default (stated (frame (put_records (default_records x))).records) ≡ x
  unfolding default stated stated_by filter_map cons_if default_in head_d
  defaults_stated = rw (frame_records (default_records x) defaults_fit, said (default_record x) default_fits, default_item)
