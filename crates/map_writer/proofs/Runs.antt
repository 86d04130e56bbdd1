-- Runs of the writer, computed from the definitions: an input whose lanes are out of order in every field, inputs whose waits, factors or default
-- stand among the other records, inputs at the edge of 8, 9, 14, 15, 21 and 22, and pairs that differ in a wait, in a table and in a default.
use mathlib.Core.Path.{◌≡◌, refl, ap}
use mathlib.Core.Bool.{Bool, true, ◌&&◌}
use mathlib.Core.List.{List, [], ◌∷◌, ◌++◌, flat_map}
use Prim.Native.Nat.{ℕ, ◌-◌}
use native.Mathlib.Omega.{arith}
use lib.ListN.{length, get_or, replicate}
use Rattle.model.specs.Lists.{below, same_numbers}
use Rattle.model.specs.Stated.{fixed_factors, stated_in}
use Rattle.model.specs.Jobs.{put_head, put_arc, put_measured, put_estimate, put_wait, put_factors, put_default, put_job, put_charged, put_lane}
use Rattle.model.proofs.Compute.{compute}
use Rattle.sort.specs.Sorting.{insert, sort_by}
use Rattle.map_writer.specs.Order.{kind_fields, order_fields, no_greater, no_later}
use Rattle.map_writer.specs.Canonical.{by_place, others_by_place, own_estimates, some_default, canonical, put_stated, write}
use Rattle.map_writer.specs.Agree.{Agree}
use Rattle.map_writer.specs.Call.{short_output, output_rows, write_rows, write_refusal, written_with, write_if, write_map}

-- lanes that differ from the one before in one field only: class, length, kind, cost, to, from; and a repeat
lanes : List ℕ
lanes =
    put_arc 2 0 4 ++ put_arc 1 2 4 ++ put_arc 1 0 8 ++ put_arc 1 0 4 ++ put_measured 1 0 4 0 ++ put_measured 1 0 2 1 ++ put_measured 1 0 1 3 ++ put_arc 1 0 4

in_order : List ℕ
in_order =
    put_arc 1 0 4 ++ put_arc 1 0 4 ++ put_measured 1 0 1 3 ++ put_measured 1 0 2 1 ++ put_measured 1 0 4 0 ++ put_arc 1 0 8 ++ put_arc 1 2 4 ++ put_arc 2 0 4

job : List ℕ
job = put_job 2 90 (0 ∷ 1 ∷ [])

-- estimates stand between the lanes and after them, out of order, one of them 0
jumbled : List ℕ
jumbled = put_head 4 8 ++ put_estimate 3 7 ++ lanes ++ put_estimate 1 0 ++ put_estimate 2 300 ++ job

canonical_form : List ℕ
canonical_form = put_head 4 8 ++ in_order ++ put_estimate 2 300 ++ put_estimate 3 7 ++ job

-- waits stand between the lanes and around them, out of order, one of them 0; with its wait the second lane costs 65,535
waiting : List ℕ
waiting =
    put_head 3 2 ++ put_wait 2 9 ++ put_arc 1 2 4 ++ put_wait 1 0 ++ put_arc 0 1 5 ++ put_wait 0 65530 ++ put_job 0 90 (2 ∷ [])

waiting_form : List ℕ
waiting_form = put_head 3 2 ++ put_arc 0 1 5 ++ put_arc 1 2 4 ++ put_wait 0 65530 ++ put_wait 2 9 ++ put_job 0 90 (2 ∷ [])

-- waits and estimates in turn
mixed : List ℕ
mixed =
    put_head 3 2 ++ put_wait 1 3 ++ put_estimate 1 4 ++ put_arc 0 1 5 ++ put_wait 0 2 ++ put_arc 1 2 4 ++ put_estimate 0 9 ++ put_job 0 90 (2 ∷ [])

mixed_form : List ℕ
mixed_form =
    put_head 3 2 ++ put_arc 0 1 5 ++ put_arc 1 2 4 ++ put_estimate 0 9 ++ put_estimate 1 4 ++ put_wait 0 2 ++ put_wait 1 3 ++ put_job 0 90 (2 ∷ [])

-- one lane from a place with this wait
one_wait : ℕ → List ℕ
one_wait x = put_head 2 1 ++ put_arc 0 1 5 ++ put_wait 0 x ++ put_job 0 90 (1 ∷ [])

-- a factor of 1 for every class
ones : List ℕ
ones = 1 ∷ 1 ∷ 1 ∷ 1 ∷ 1 ∷ 1 ∷ 1 ∷ 1 ∷ []

-- a table stands before the waits, and waits and an estimate between the lanes
tabled : List ℕ
tabled =
    put_head 3 2 ++ put_factors ones ++ put_wait 1 3 ++ put_arc 1 2 4 ++ put_estimate 0 9 ++ put_arc 0 1 5 ++ put_wait 0 2 ++ put_job 0 90 (2 ∷ [])

tabled_form : List ℕ
tabled_form =
    put_head 3 2 ++ put_arc 0 1 5 ++ put_arc 1 2 4 ++ put_estimate 0 9 ++ put_wait 0 2 ++ put_wait 1 3 ++ put_factors ones ++ put_job 0 90 (2 ∷ [])

-- one lane, which has no class, and these records
one_lane : (records : List ℕ) → List ℕ
one_lane records = put_head 2 1 ++ put_arc 0 1 5 ++ records ++ put_job 0 90 (1 ∷ [])

-- the same, with an estimate of its own for the only place that is no goal
owned : (records : List ℕ) → List ℕ
owned records = one_lane (put_estimate 0 3 ++ records)

-- a default stands before all lanes, own estimates around them: one of 0, one of the default, one of the goal; place 0 has none
defaulted : List ℕ
defaulted =
    put_head 5 1 ++ put_default 7 ++ put_estimate 3 0 ++ put_wait 0 2 ++ put_estimate 1 7 ++ put_arc 0 4 5 ++ put_estimate 4 0 ++ put_factors ones
    ++ put_estimate 2 300 ++ put_job 0 90 (4 ∷ [])

defaulted_form : List ℕ
defaulted_form =
    put_head 5 1 ++ put_arc 0 4 5 ++ put_estimate 2 300 ++ put_estimate 3 0 ++ put_wait 0 2 ++ put_factors ones ++ put_default 7 ++ put_job 0 90 (4 ∷ [])

-- two lanes, of 3 feet in class 0 and of 2 feet in class 1: by the fixed factors the first costs less
shorter_last : (tables : List ℕ) → List ℕ
shorter_last tables = put_head 2 2 ++ put_measured 0 1 3 0 ++ put_measured 0 1 2 1 ++ tables ++ put_job 0 90 (1 ∷ [])

shorter_first : (tables : List ℕ) → List ℕ
shorter_first tables = put_head 2 2 ++ put_measured 0 1 2 1 ++ put_measured 0 1 3 0 ++ tables ++ put_job 0 90 (1 ∷ [])

record Run : Type 0 where
  pub input : List ℕ
  -- how long the lent areas are
  pub words : ℕ
  pub bytes : ℕ
  pub number : ℕ
  -- the work words that are 0 afterwards, and what is written
  pub zeros : ℕ
  pub text : List ℕ

run : (input : List ℕ) (words bytes number zeros : ℕ) (text : List ℕ) → Run
run i w b n z t = record { input = i; words = w; bytes = b; number = n; zeros = z; text = t }

runs : List Run
runs =
    run jumbled 84 140 0 80 canonical_form
    ∷ run canonical_form 80 130 0 80 canonical_form
    -- waits by place, after the estimates and just before the job
    ∷ run waiting 52 66 0 52 waiting_form
    ∷ run mixed 52 78 0 52 mixed_form
    -- in two maps that differ in a wait
    ∷ run (one_wait 3) 34 40 0 34 (one_wait 3)
    ∷ run (one_wait 4) 34 40 0 34 (one_wait 4)
    -- a table after the waits and just before the job, also where no lane has a class
    ∷ run tabled 52 88 0 52 tabled_form
    ∷ run (one_lane (put_factors ones)) 34 52 0 34 (one_lane (put_factors ones))
    -- but not the fixed one
    ∷ run (one_lane (put_factors fixed_factors)) 34 52 0 34 (one_lane [])
    -- lanes by what they cost under the table
    ∷ run (shorter_last (put_factors ones)) 36 66 0 36 (shorter_first (put_factors ones))
    ∷ run (shorter_first (put_factors fixed_factors)) 36 66 0 36 (shorter_last [])
    -- a default after the table and just before the job, with the own estimates that differ from it, 0 among them, and none for goals
    ∷ run defaulted 82 108 0 82 defaulted_form
    ∷ run defaulted_form 82 88 0 82 defaulted_form
    ∷ run (owned (put_default 3)) 34 50 0 34 (one_lane (put_default 3))
    -- also where every place has its own, but not a default of 0
    ∷ run (owned (put_estimate 1 0 ++ put_default 7)) 34 60 0 34 (owned (put_default 7))
    ∷ run (owned (put_default 268435455)) 34 50 0 34 (owned (put_default 268435455))
    ∷ run (owned (put_default 0)) 34 50 0 34 (owned [])
    -- one word, and one byte, less than is asked: what would be written would fit
    ∷ run jumbled 79 140 14 0 []
    ∷ run jumbled 80 139 15 0 []
    ∷ run jumbled 79 139 14 0 []
    -- a condition of the input comes first
    ∷ run [] 0 0 4 0 []
    ∷ run (owned (put_default 268435456)) 0 0 8 0 []
    ∷ run (owned (put_default 7 ++ put_default 7)) 0 0 9 0 []
    ∷ run (put_head 1 1 ++ put_measured 0 0 1 8 ++ put_job 0 0 (0 ∷ [])) 0 0 20 0 []
    ∷ run (one_lane (put_factors fixed_factors ++ put_factors fixed_factors)) 0 0 22 0 []
    ∷ run (one_wait 65531) 0 0 21 0 []
    ∷ []

-- the lent areas hold sevens and nines before the call
agrees : Run → Bool
agrees r =
    let after = write_map r.input (replicate r.words 7) (replicate r.bytes 9) in
    let a = after.answer in
    let size = length r.text in
    let numbers = a.number ∷ a.cost ∷ a.limit ∷ a.floor ∷ a.expansions ∷ a.queries ∷ a.sheet_bytes ∷ [] in
    same_numbers numbers (r.number ∷ 0 ∷ 0 ∷ 0 ∷ 0 ∷ 0 ∷ size ∷ [])
    && (same_numbers after.work (replicate r.zeros 0 ++ replicate (r.words - r.zeros) 7)
    && same_numbers after.sheet (r.text ++ replicate (r.bytes - size) 9))

all : List Run → Bool
all [] = true
all (r ∷ rs) = agrees r && all rs

runs_agree : all runs ≡ true
unfolding compute lanes in_order job jumbled canonical_form waiting waiting_form mixed mixed_form one_wait
    ones tabled tabled_form one_lane owned defaulted defaulted_form shorter_last shorter_first run runs agrees all
    below flat_map insert sort_by kind_fields order_fields no_greater no_later by_place others_by_place own_estimates some_default canonical
    put_charged put_lane put_stated write short_output output_rows write_rows write_refusal written_with write_if write_map
runs_agree = refl

-- maps with different waits do not agree
waits_differ : Agree (stated_in (one_wait 3)) (stated_in (one_wait 4)) → ⊥
unfolding compute one_wait
waits_differ a = omega (arith, a.waits 0)

-- nor do maps with different tables, though no lane has a class
tables_differ : Agree (stated_in (one_lane (put_factors ones))) (stated_in (one_lane [])) → ⊥
unfolding compute ones one_lane
tables_differ a = omega (arith, ap (λ (fs : List ℕ). get_or fs 1 0) a.factors)

-- but a record of the fixed table says what holds without it
fixed_agrees : Agree (stated_in (one_lane (put_factors fixed_factors))) (stated_in (one_lane []))
unfolding compute one_lane
fixed_agrees =
    record { places = refl; lanes = λ l. refl; estimates = λ v l. refl; default = refl; waits = λ v. refl; factors = refl; job = refl }

-- maps with different defaults do not agree, though no place has the default
defaults_differ : Agree (stated_in (owned (put_default 7))) (stated_in (owned [])) → ⊥
unfolding compute one_lane owned
defaults_differ a = omega (arith, a.default)

-- but a record of 0 says what holds without it
zero-agrees : Agree (stated_in (owned (put_default 0))) (stated_in (owned []))
unfolding compute one_lane owned
zero-agrees =
    record { places = refl; lanes = λ l. refl; estimates = λ v l. refl; default = refl; waits = λ v. refl; factors = refl; job = refl }
