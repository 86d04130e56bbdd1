-- Inputs as bytes: the kinds of record, and a job for every sheet that a reader may accept.
use Rattle.std.specs.Prelude.{cond, ℕ, zero, suc, ◌-◌, ◌*◌, min, eqb, length}
use mathlib.Core.List.{List, [], ◌∷◌, ◌++◌, get_last_d, head_d}
use Rattle.model.specs.Lists.{same_numbers}
use Rattle.model.specs.Bytes.{put16, put32, put16s}
use Rattle.model.specs.Framing.{put_record}
use Rattle.model.specs.Limits.{max_places, max_cost}
use Rattle.model.specs.Items.{head_kind, arc_kind, estimate_kind, job_kind, measured_kind, wait_kind, factors_kind, default_kind, Charge, flat, measured, Lane}
use Rattle.model.specs.Stated.{fixed_factors}

unfoldable pub put_head : ℕ → ℕ → List ℕ
put_head n m = put_record head_kind (put16 n ++ put16 m)

unfoldable pub put_arc : ℕ → ℕ → ℕ → List ℕ
put_arc u v c = put_record arc_kind (put16 u ++ put16 v ++ put16 c)

unfoldable pub put_measured : (from to length class : ℕ) → List ℕ
put_measured u v length class = put_record measured_kind (put16 u ++ put16 v ++ put16 length ++ put16 class)

-- a lane as the record it was
unfoldable pub put_charged : (from to : ℕ) → Charge → List ℕ
put_charged u v (flat cost) = put_arc u v cost
put_charged u v (measured length class) = put_measured u v length class

unfoldable pub put_lane : Lane → List ℕ
put_lane l = put_charged l.from l.to l.charge

unfoldable pub put_estimate : ℕ → ℕ → List ℕ
put_estimate v h = put_record estimate_kind (put16 v ++ put32 h)

unfoldable pub put_wait : ℕ → ℕ → List ℕ
put_wait v w = put_record wait_kind (put16 v ++ put16 w)

unfoldable pub put_factors : List ℕ → List ℕ
put_factors fs = put_record factors_kind (put16s fs)

-- a table of factors, where it is not the fixed one, which holds without a record
unfoldable pub put_table : List ℕ → List ℕ
put_table fs = cond (same_numbers fs fixed_factors) [] (put_factors fs)

unfoldable pub put_default : ℕ → List ℕ
put_default x = put_record default_kind (put32 x)

-- a default, where it is not 0, which holds without a record
unfoldable pub put_some_default : ℕ → List ℕ
put_some_default x = cond (eqb x 0) [] (put_default x)

unfoldable pub put_job : ℕ → ℕ → List ℕ → List ℕ
put_job start allowance goals =
    put_record job_kind (put16 start ++ put32 allowance ++ put16 (length goals) ++ put16s goals)

-- n costs of 1 to 65,535 that sum to c, where n ≤ c ≤ n × 65,535
unfoldable pub shares : ℕ → ℕ → List ℕ
shares zero c = []
shares (suc n) c = let x = min max_cost (c - n) in x ∷ shares n (c - x)

-- arcs from each place to the next
unfoldable pub put_chain : List ℕ → List ℕ → List ℕ
put_chain [] costs = []
put_chain (u ∷ []) costs = []
put_chain (u ∷ v ∷ places) [] = []
put_chain (u ∷ v ∷ places) (c ∷ costs) = put_arc u v c ++ put_chain (v ∷ places) costs

-- never spent
abbrev pub ample : ℕ
ample = 236 * max_places

-- a job whose only route has these places at this cost
unfoldable pub route_job : ℕ → List ℕ → List ℕ
route_job cost places =
    let m = length places - 1 in
    put_head max_places m ++ put_chain places (shares m cost) ++ put_job (head_d places 0) ample (get_last_d places 0 ∷ [])

-- a job with no arc, from this start to another place
unfoldable pub no_route_job : ℕ → List ℕ
no_route_job start = put_head max_places 0 ++ put_job start ample (cond (eqb start 0) 1 0 ∷ [])
