-- What is printed of some inputs, as the definitions compute it. Assumes nothing.
use mathlib.Core.Path.{◌≡◌, refl}
use mathlib.Core.List.{[], ◌∷◌, ◌++◌, flat_map}
use lib.ListN.{replicate}
use Rattle.model.specs.Lists.{below}
use Rattle.model.specs.Jobs.{put_head, put_arc, put_measured, put_estimate, put_wait, put_factors, put_default, put_job, put_charged, put_lane}
use Rattle.model.proofs.Compute.{compute}
use Rattle.sort.specs.Sorting.{sort_by, insert}
use Rattle.map_writer.specs.Order.{kind_fields, order_fields, no_greater, no_later}
use Rattle.map_writer.specs.Canonical.{by_place, others_by_place, own_estimates, some_default, canonical, put_stated, write}
use Rattle.map_writer.specs.Call.{short_output, output_rows, write_rows, write_refusal, written_with, write_if, write_map}
use Rattle.text.specs.Text.{decimal_up_to, decimal, parted, line, too_long}
use Rattle.write_map.specs.Printed.{streams, streams_of, answered, printed}

-- no record at all: "4" on standard error
nothing : printed [] ≡ streams [] (52 ∷ 10 ∷ [])
unfolding compute short_output output_rows write_rows write_refusal written_with write_if write_map decimal_up_to decimal parted line
    streams_of answered printed
nothing = refl

-- two lanes out of order, an estimate and a wait of 0, and a wait: in order, and without those of 0
two_lanes : printed (put_head 2 2 ++ put_wait 1 7 ++ put_estimate 1 0 ++ put_arc 1 0 1 ++ put_arc 0 1 256 ++ put_wait 0 0 ++ put_job 1 944 (0 ∷ []))
    ≡ streams (put_head 2 2 ++ put_arc 0 1 256 ++ put_arc 1 0 1 ++ put_wait 1 7 ++ put_job 1 944 (0 ∷ [])) []
unfolding
    compute flat_map below insert sort_by kind_fields order_fields no_greater no_later by_place others_by_place own_estimates some_default canonical put_charged put_lane
    put_stated write
    short_output output_rows write_rows write_refusal written_with write_if write_map decimal_up_to decimal parted line streams_of answered printed
two_lanes = refl

-- a table between two lanes, which are in order by it and not by the fixed one: it goes behind them
by_table : printed (put_head 2 2 ++ put_measured 0 1 3 2 ++ put_factors (1 ∷ 1 ∷ 1 ∷ 1 ∷ 1 ∷ 1 ∷ 1 ∷ 1 ∷ []) ++ put_measured 0 1 4 0 ++ put_job 1 944 (0 ∷ []))
    ≡ streams (put_head 2 2 ++ put_measured 0 1 3 2 ++ put_measured 0 1 4 0 ++ put_factors (1 ∷ 1 ∷ 1 ∷ 1 ∷ 1 ∷ 1 ∷ 1 ∷ 1 ∷ []) ++ put_job 1 944 (0 ∷ [])) []
unfolding
    compute flat_map below insert sort_by kind_fields order_fields no_greater no_later by_place others_by_place own_estimates some_default canonical put_charged put_lane
    put_stated write
    short_output output_rows write_rows write_refusal written_with write_if write_map decimal_up_to decimal parted line streams_of answered printed
by_table = refl

-- a default, with an own estimate of 0 that differs from it, one that does not, and one of a goal: the first alone stays, and the default goes behind it
by_default : printed (put_head 4 0 ++ put_estimate 3 0 ++ put_default 5 ++ put_estimate 2 0 ++ put_estimate 1 5 ++ put_job 0 944 (3 ∷ []))
    ≡ streams (put_head 4 0 ++ put_estimate 2 0 ++ put_default 5 ++ put_job 0 944 (3 ∷ [])) []
unfolding
    compute flat_map below insert sort_by kind_fields order_fields no_greater no_later by_place others_by_place own_estimates some_default canonical put_charged put_lane
    put_stated write
    short_output output_rows write_rows write_refusal written_with write_if write_map decimal_up_to decimal parted line streams_of answered printed
by_default = refl

long : printed (replicate 65537 0) ≡ streams [] too_long
unfolding printed
long = refl
