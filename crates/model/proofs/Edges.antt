-- The conditions at their edges: beside each input that is refused stands one that just passes; and the host's questions. Computed from
-- the definitions.
use mathlib.Core.Path.{◌≡◌, refl}
use mathlib.Core.Bool.{Bool, true, false, ◌&&◌}
use mathlib.Core.List.{List, [], ◌∷◌, ◌++◌}
use Prim.Native.Nat.{ℕ, zero, suc, ◌+◌, ◌*◌}
use lib.Dec.{eqb}
use lib.ListN.{replicate}
use Rattle.model.specs.Bytes.{put16, put32}
use Rattle.model.specs.Framing.{Record, frame, put_record}
use Rattle.model.specs.Items.{head_kind, arc_kind, estimate_kind, job_kind, measured_kind, wait_kind, default_kind}
use Rattle.model.specs.Stated.{stated}
use Rattle.model.specs.Refusals.{wrong_size, refusal}
use Rattle.model.specs.Jobs.{put_head, put_arc, put_measured, put_estimate, put_wait, put_factors, put_default, put_job}
use Rattle.model.specs.Sheets.{read_sheet, host_answer}
use Rattle.model.proofs.Compute.{compute}
use Rattle.model.proofs.Runs.{Case, seven, over, agrees, agree, case, sheet9}

-- A job whose start is its goal ends at once, with the route 0 at cost 0: what passes below comes to this.
here : List ℕ
here = put_job 0 9 (0 ∷ [])

sheet0 : List ℕ
sheet0 = 0x08 ∷ 0x00 ∷ 0x11 ∷ 0x00 ∷ 0x00 ∷ 0x00 ∷ 0x00 ∷ 0x00 ∷ 0x01 ∷ 0x00 ∷ 0x00 ∷ 0x00 ∷ []

arrived : List ℕ
arrived = 0 ∷ 0 ∷ 0 ∷ 0 ∷ 0 ∷ 1 ∷ 12 ∷ []

-- a map of n places and m arcs passes
passes : (n m : ℕ) → List ℕ → Case
passes n m input = case input arrived (16 * n + 2 * m) sheet0

refused : ℕ → List ℕ → Case
refused number input = case input (number ∷ 0 ∷ 0 ∷ 0 ∷ 0 ∷ 0 ∷ 0 ∷ []) 0 []

-- a head of one place, and of two places with so many arcs
one : List ℕ
one = put_head 1 0

two : ℕ → List ℕ
two m = put_head 2 m

map_edges : List Case
map_edges =
    passes 1 0 (one ++ here)
    -- 1: bytes left over, and a body that runs past the end
    ∷ refused 1 (one ++ here ++ (0 ∷ []))
    ∷ refused 1 (one ++ here ++ (0 ∷ 0 ∷ 0 ∷ []))
    ∷ refused 1 (one ++ put16 11 ++ put16 job_kind ++ put16 0 ++ put32 9 ++ put16 1 ++ put16 0)
    -- 2: kinds 0, 9 and 256 + 4
    ∷ refused 2 (one ++ here ++ (0 ∷ 0 ∷ 0 ∷ 0 ∷ []))
    ∷ refused 2 (one ++ put_record 9 [] ++ here)
    ∷ refused 2 (one ++ put_record 260 (put16 0 ++ put32 9 ++ put16 1 ++ put16 0))
    -- 3: bodies too long and too short; of a job also by its count of goals
    ∷ refused 3 (put_record head_kind (put16 1 ++ put16 0 ++ (0 ∷ [])) ++ here)
    ∷ refused 3 (put_record head_kind (put16 1 ++ (0 ∷ [])) ++ here)
    ∷ refused 3 (two 1 ++ put_record arc_kind (put16 0 ++ put16 1 ++ put16 1 ++ (0 ∷ [])) ++ here)
    ∷ refused 3 (two 1 ++ put_record arc_kind (put16 0 ++ put16 1 ++ (1 ∷ [])) ++ here)
    ∷ refused 3 (two 1 ++ put_record measured_kind (put16 0 ++ put16 1 ++ put16 1 ++ put16 0 ++ (0 ∷ [])) ++ here)
    ∷ refused 3 (two 1 ++ put_record measured_kind (put16 0 ++ put16 1 ++ put16 1) ++ here)
    ∷ refused 3 (two 0 ++ put_record estimate_kind (put16 1 ++ put32 1 ++ (0 ∷ [])) ++ here)
    ∷ refused 3 (two 0 ++ put_record estimate_kind (put16 1 ++ (1 ∷ 0 ∷ 0 ∷ [])) ++ here)
    ∷ refused 3 (two 0 ++ put_record wait_kind (put16 1 ++ put16 1 ++ (0 ∷ [])) ++ here)
    ∷ refused 3 (two 0 ++ put_record wait_kind (put16 1 ++ (1 ∷ [])) ++ here)
    ∷ refused 3 (one ++ put_factors (1 ∷ 1 ∷ 1 ∷ 1 ∷ 1 ∷ 1 ∷ 1 ∷ []) ++ here)
    ∷ refused 3 (one ++ put_factors (1 ∷ 1 ∷ 1 ∷ 1 ∷ 1 ∷ 1 ∷ 1 ∷ 1 ∷ 1 ∷ []) ++ here)
    ∷ refused 3 (one ++ put_record job_kind (put16 0 ++ put32 9 ++ (0 ∷ [])))
    ∷ refused 3 (one ++ put_record job_kind (put16 0 ++ put32 9 ++ put16 1 ++ put16 0 ++ put16 0))
    ∷ refused 3 (two 0 ++ put_record job_kind (put16 0 ++ put32 9 ++ put16 2 ++ put16 0))
    -- 4: no record at all, another record first, a second head
    ∷ refused 4 []
    ∷ refused 4 (put_estimate 0 0 ++ one ++ here)
    ∷ refused 4 (one ++ one ++ here)
    -- 5: no place; one arc of either kind too few or too many, also behind the job
    ∷ refused 5 (put_head 0 0 ++ here)
    ∷ passes 2 1 (two 1 ++ put_arc 0 1 1 ++ here)
    ∷ refused 5 (two 1 ++ here)
    ∷ refused 5 (two 0 ++ put_arc 0 1 1 ++ here)
    ∷ refused 5 (two 1 ++ put_arc 0 1 1 ++ put_measured 0 1 1 0 ++ here)
    ∷ refused 5 (two 0 ++ here ++ put_measured 0 1 1 0)
    ∷ refused 5 (two 0 ++ here ++ put_arc 0 1 1)
    -- 6: the place N of an arc, of an estimate and of a wait, beside the place N − 1
    ∷ refused 6 (two 1 ++ put_arc 2 1 1 ++ here)
    ∷ refused 6 (two 1 ++ put_arc 0 2 1 ++ here)
    ∷ refused 6 (two 1 ++ put_measured 2 1 1 0 ++ here)
    ∷ refused 6 (two 1 ++ put_measured 0 2 1 0 ++ here)
    ∷ passes 2 0 (two 0 ++ put_estimate 1 1 ++ here)
    ∷ refused 6 (two 0 ++ put_estimate 2 1 ++ here)
    ∷ passes 2 0 (two 0 ++ put_wait 1 1 ++ here)
    ∷ refused 6 (two 0 ++ put_wait 2 1 ++ here)
    ∷ refused 6 (two 0 ++ put_wait 2 1 ++ put_wait 2 1 ++ here)
    -- 7: an arc of cost 0, beside one of 1 (above) and one of 65,535
    ∷ refused 7 (two 1 ++ put_arc 0 1 0 ++ here)
    ∷ passes 2 1 (two 1 ++ put_arc 0 1 65535 ++ here)
    -- 8
    ∷ passes 2 0 (two 0 ++ put_estimate 1 268435455 ++ here)
    ∷ refused 8 (two 0 ++ put_estimate 1 268435456 ++ here)
    -- 9: two equal and two unequal estimates for one place, beside estimates for two places
    ∷ refused 9 (two 0 ++ put_estimate 1 5 ++ put_estimate 1 5 ++ here)
    ∷ refused 9 (two 0 ++ put_estimate 1 5 ++ put_estimate 1 6 ++ here)
    ∷ refused 9 (two 0 ++ put_estimate 1 0 ++ put_estimate 1 6 ++ here)
    ∷ passes 2 0 (two 0 ++ put_estimate 0 0 ++ put_estimate 1 6 ++ here)
    -- 20: lengths 0 and 4,096 and class 8, beside lengths 1 and 4,095 and classes 0 and 7; after 9 and before 10
    ∷ refused 20 (two 1 ++ put_measured 0 1 0 0 ++ here)
    ∷ passes 2 1 (two 1 ++ put_measured 0 1 1 0 ++ here)
    ∷ passes 2 1 (two 1 ++ put_measured 0 1 4095 7 ++ here)
    ∷ refused 20 (two 1 ++ put_measured 0 1 4096 7 ++ here)
    ∷ refused 20 (two 1 ++ put_measured 0 1 4095 8 ++ here)
    ∷ refused 7 (two 2 ++ put_measured 0 1 0 0 ++ put_arc 0 1 0 ++ here)
    ∷ refused 9 (two 1 ++ put_measured 0 1 0 0 ++ put_estimate 1 5 ++ put_estimate 1 5 ++ here)
    ∷ refused 20 (two 1 ++ put_measured 0 1 1 256)
    ∷ refused 20 (two 1 ++ here ++ put_measured 0 1 0 0)
    ∷ []

-- 21: two equal waits for one place, two unequal ones and one of 0, beside waits for two places; a lane of either kind that costs 65,536 with its
-- wait, beside one that costs 65,535; the wait is that of the place left, and where none is left any will do; after 20 and before 10
wait_edges : List Case
wait_edges =
    refused 21 (two 0 ++ put_wait 1 5 ++ put_wait 1 5 ++ here)
    ∷ refused 21 (two 0 ++ put_wait 1 5 ++ put_wait 1 6 ++ here)
    ∷ refused 21 (two 0 ++ put_wait 1 0 ++ put_wait 1 0 ++ here)
    ∷ passes 2 0 (two 0 ++ put_wait 0 5 ++ put_wait 1 5 ++ here)
    ∷ passes 2 1 (two 1 ++ put_arc 0 1 1 ++ put_wait 0 65534 ++ here)
    ∷ refused 21 (two 1 ++ put_arc 0 1 1 ++ put_wait 0 65535 ++ here)
    ∷ passes 2 1 (two 1 ++ put_wait 0 15 ++ put_measured 0 1 4095 7 ++ here)
    ∷ refused 21 (two 1 ++ put_wait 0 16 ++ put_measured 0 1 4095 7 ++ here)
    ∷ passes 2 1 (two 1 ++ put_arc 0 1 65535 ++ put_wait 1 65535 ++ here)
    ∷ refused 9 (two 0 ++ put_wait 1 5 ++ put_wait 1 5 ++ put_estimate 1 5 ++ put_estimate 1 5 ++ here)
    ∷ refused 20 (two 1 ++ put_wait 1 5 ++ put_wait 1 5 ++ put_measured 0 1 0 0 ++ here)
    ∷ refused 21 (two 1 ++ put_arc 0 1 1 ++ put_wait 0 65535)
    ∷ refused 21 (two 0 ++ put_wait 1 5 ++ here ++ put_wait 1 5)
    ∷ refused 10 (two 0 ++ here ++ put_wait 1 5)
    ∷ []

-- a table of ones, and one whose last factors are a and b
ones : List ℕ
ones = put_factors (1 ∷ 1 ∷ 1 ∷ 1 ∷ 1 ∷ 1 ∷ 1 ∷ 1 ∷ [])

ending_in : ℕ → ℕ → List ℕ
ending_in a b = put_factors (1 ∷ 1 ∷ 1 ∷ 1 ∷ 1 ∷ 1 ∷ a ∷ b ∷ [])

-- 22: factors 0 and 17, beside 1 and 16; a fall, at the end and at the beginning, beside equal factors; a second table, an equal one too; after 20
-- and before 21, which goes by the table in force, wherever that stands
factor_edges : List Case
factor_edges =
    passes 1 0 (one ++ ones ++ here)
    ∷ refused 22 (one ++ put_factors (0 ∷ 1 ∷ 1 ∷ 1 ∷ 1 ∷ 1 ∷ 1 ∷ 1 ∷ []) ++ here)
    ∷ passes 1 0 (one ++ ending_in 16 16 ++ here)
    ∷ refused 22 (one ++ ending_in 16 17 ++ here)
    ∷ refused 22 (one ++ ending_in 2 257 ++ here)
    ∷ refused 22 (one ++ ending_in 3 2 ++ here)
    ∷ refused 22 (one ++ ending_in 3 0 ++ here)
    ∷ passes 1 0 (one ++ ending_in 2 3 ++ here)
    ∷ refused 22 (one ++ put_factors (2 ∷ 1 ∷ 2 ∷ 2 ∷ 2 ∷ 2 ∷ 2 ∷ 2 ∷ []) ++ here)
    ∷ refused 22 (one ++ ones ++ ones ++ here)
    ∷ refused 22 (one ++ ones ++ ending_in 1 2 ++ here)
    ∷ refused 22 (one ++ ones ++ ending_in 2 1 ++ here)
    ∷ refused 20 (two 1 ++ ending_in 2 1 ++ put_measured 0 1 1 8 ++ here)
    ∷ refused 22 (two 1 ++ put_arc 0 1 1 ++ put_wait 0 65535 ++ ending_in 2 1 ++ here)
    ∷ refused 22 (one ++ ones ++ here ++ ones)
    ∷ refused 10 (one ++ here ++ ones)
    ∷ refused 4 (ones ++ one ++ here)
    ∷ passes 2 1 (two 1 ++ put_wait 0 61440 ++ put_measured 0 1 4095 7 ++ ones ++ here)
    ∷ refused 21 (two 1 ++ put_wait 0 61441 ++ put_measured 0 1 4095 7 ++ ones ++ here)
    ∷ refused 21 (two 1 ++ ending_in 16 16 ++ put_wait 0 16 ++ put_measured 0 1 4095 6 ++ here)
    ∷ passes 2 1 (two 1 ++ ending_in 16 16 ++ put_wait 0 15 ++ put_measured 0 1 4095 6 ++ here)
    ∷ []

-- 8 and 9 of a default: above the highest estimate, beside that; a second one, an equal one too, beside one with estimates of places; among their
-- neighbours, and 3, 4 and 10 of its record
default_edges : List Case
default_edges =
    passes 2 0 (two 0 ++ put_default 268435455 ++ here)
    ∷ refused 8 (two 0 ++ put_default 268435456 ++ here)
    ∷ refused 8 (two 0 ++ put_default 5 ++ put_default 268435456 ++ here)
    ∷ refused 7 (two 1 ++ put_default 268435456 ++ put_arc 0 1 0 ++ here)
    ∷ refused 9 (two 0 ++ put_default 5 ++ put_default 5 ++ here)
    ∷ refused 9 (two 0 ++ put_default 5 ++ put_default 6 ++ here)
    ∷ refused 9 (two 0 ++ put_default 0 ++ put_default 0 ++ here)
    ∷ refused 9 (one ++ put_default 5 ++ here ++ put_default 5)
    ∷ refused 9 (two 1 ++ put_measured 0 1 0 0 ++ put_default 5 ++ put_default 5 ++ here)
    ∷ passes 2 0 (two 0 ++ put_estimate 0 0 ++ put_default 5 ++ put_estimate 1 5 ++ here)
    ∷ refused 10 (one ++ here ++ put_default 5)
    ∷ refused 4 (put_default 5 ++ one ++ here)
    ∷ refused 3 (one ++ put_record default_kind (put32 5 ++ (0 ∷ [])) ++ here)
    ∷ refused 3 (one ++ put_record default_kind (5 ∷ 0 ∷ 0 ∷ []) ++ here)
    ∷ []

job_edges : List Case
job_edges =
    -- 10: no job, two jobs, one that is not last
    refused 10 one
    ∷ refused 10 (one ++ here ++ here)
    ∷ refused 10 (two 1 ++ here ++ put_arc 0 1 1)
    -- 11: the place N as start and as goal, beside the place N − 1
    ∷ refused 11 (two 0 ++ put_job 2 9 (0 ∷ []))
    ∷ refused 11 (two 0 ++ put_job 0 9 (0 ∷ 2 ∷ []))
    ∷ passes 2 0 (two 0 ++ put_job 0 9 (0 ∷ 1 ∷ []))
    -- 12: no goal, equal goals, falling goals
    ∷ refused 12 (two 0 ++ put_job 0 9 [])
    ∷ refused 12 (two 0 ++ put_job 0 9 (0 ∷ 0 ∷ []))
    ∷ refused 12 (two 0 ++ put_job 0 9 (1 ∷ 0 ∷ []))
    -- 13: an estimate at a goal, beside one of 0
    ∷ refused 13 (two 0 ++ put_estimate 1 1 ++ put_job 0 9 (0 ∷ 1 ∷ []))
    ∷ passes 2 0 (two 0 ++ put_estimate 1 0 ++ put_job 0 9 (0 ∷ 1 ∷ []))
    -- beside a default, and beside one that is what the goal's own is
    ∷ passes 2 0 (two 0 ++ put_default 1 ++ put_job 0 9 (0 ∷ 1 ∷ []))
    ∷ refused 13 (two 0 ++ put_default 1 ++ put_estimate 1 1 ++ put_job 0 9 (0 ∷ 1 ∷ []))
    ∷ []

-- the map of two places and an arc, on so many words and bytes
lent : (words bytes number : ℕ) → Case
lent words bytes number =
    record {
      input = two 1 ++ put_arc 0 1 1 ++ here;
      words = words;
      bytes = bytes;
      numbers = number ∷ 0 ∷ 0 ∷ 0 ∷ 0 ∷ 0 ∷ 0 ∷ [];
      zeros = 0;
      sheet = [];
    }

-- 14 and 15: 16 × 2 + 2 × 1 words and 10 + 2 × 2 bytes are enough
room_edges : List Case
room_edges =
    record {
      input = two 1 ++ put_arc 0 1 1 ++ here;
      words = 34;
      bytes = 14;
      numbers = arrived;
      zeros = 34;
      sheet = sheet0;
    }
    ∷ lent 33 14 14
    ∷ lent 34 13 15
    ∷ lent 33 13 14
    ∷ []

edges_agree : agree (map_edges ++ wait_edges ++ factor_edges ++ default_edges ++ job_edges ++ room_edges) ≡ true
unfolding compute seven over agrees agree case here sheet0 arrived passes refused one two map_edges wait_edges ones ending_in factor_edges default_edges job_edges
    lent room_edges
edges_agree = refl

-- ---- The largest numbers. Of whole inputs as large as these only the refusal can be computed, or one condition.

below : ℕ → List ℕ
below zero = []
below (suc n) = below n ++ (n ∷ [])

-- enough words and bytes for every map
refusal_of : List ℕ → ℕ
refusal_of input = refusal (frame input) 98304 8202

most_places : (refusal_of (put_head 4096 0 ++ here) ≡ 0) × (refusal_of (put_head 4097 0 ++ here) ≡ 5)
unfolding compute here refusal_of
most_places = (refl, refl)

most_goals : (refusal_of (put_head 65 0 ++ put_job 0 9 (below 64)) ≡ 0) × (refusal_of (put_head 65 0 ++ put_job 0 9 (below 65)) ≡ 12)
unfolding compute below refusal_of
most_goals = (refl, refl)

-- a head that says m arcs, and m arcs
with_arcs : ℕ → List Record
with_arcs m =
    record { kind = head_kind; body = put16 1 ++ put16 m } ∷ replicate m (record { kind = arc_kind; body = put16 0 ++ put16 0 ++ put16 1 })

most_arcs : (wrong_size (stated (with_arcs 16384)) ≡ false) × (wrong_size (stated (with_arcs 16385)) ≡ true)
unfolding compute with_arcs
most_arcs = (refl, refl)

-- ---- The host's questions: of a sheet's bytes, the answers to 0, 1, 2, … in order

answers_from : ℕ → List ℕ → List ℕ → Bool
answers_from question bytes [] = true
answers_from question bytes (x ∷ xs) = eqb (host_answer (read_sheet bytes) question) x && answers_from (suc question) bytes xs

answers : List ℕ → List ℕ → Bool
answers bytes xs = answers_from 0 bytes xs

no_route_from5 : List ℕ
no_route_from5 = 0x02 ∷ 0x00 ∷ 0x12 ∷ 0x00 ∷ 0x05 ∷ 0x00 ∷ []

-- places 0, 1 and 1 again, at cost 2
twice : List ℕ
twice = 0x0C ∷ 0x00 ∷ 0x11 ∷ 0x00 ∷ 0x02 ∷ 0x00 ∷ 0x00 ∷ 0x00 ∷ 0x03 ∷ 0x00 ∷ 0x00 ∷ 0x00 ∷ 0x01 ∷ 0x00 ∷ 0x01 ∷ 0x00 ∷ []

-- a sheet of two places
from0 : (place cost : ℕ) → List ℕ
from0 place cost = put_record 17 (put32 cost ++ put16 2 ++ put16 0 ++ put16 place)

questions_answered :
    (answers sheet9 (0 ∷ 2 ∷ 3 ∷ 0 ∷ 1 ∷ 3 ∷ 0 ∷ 0 ∷ [])
    && answers_from 4098 sheet9 (0 ∷ 0 ∷ [])
    && answers no_route_from5 (17 ∷ 0 ∷ 1 ∷ 5 ∷ 0 ∷ [])
    -- 18: no record, a byte more, a kind that is no sheet's
    && answers [] (18 ∷ 0 ∷ 0 ∷ 0 ∷ 0 ∷ [])
    && answers (sheet9 ++ (0 ∷ [])) (18 ∷ 0 ∷ 0 ∷ 0 ∷ 0 ∷ [])
    && answers (put_record 19 (put16 0)) (18 ∷ 0 ∷ 0 ∷ 0 ∷ 0 ∷ [])
    -- 19: a place twice, no place, the place 4,096, costs out of range; beside sheets that pass
    && answers twice (19 ∷ 0 ∷ 0 ∷ 0 ∷ 0 ∷ [])
    && answers (put_record 17 (put32 0 ++ put16 0)) (19 ∷ 0 ∷ 0 ∷ 0 ∷ 0 ∷ [])
    && answers (from0 4095 1) (0 ∷ 1 ∷ 2 ∷ 0 ∷ 4095 ∷ 0 ∷ [])
    && answers (from0 4096 1) (19 ∷ 0 ∷ 0 ∷ 0 ∷ 0 ∷ [])
    && answers (from0 1 0) (19 ∷ 0 ∷ 0 ∷ 0 ∷ 0 ∷ [])
    && answers (from0 1 65535) (0 ∷ 65535 ∷ 2 ∷ 0 ∷ 1 ∷ 0 ∷ [])
    && answers (from0 1 65536) (19 ∷ 0 ∷ 0 ∷ 0 ∷ 0 ∷ [])) ≡ true
unfolding compute answers_from answers sheet9 no_route_from5 twice from0
questions_answered = refl
