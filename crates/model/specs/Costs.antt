-- For a limit C, the table of D: the least cost of a path within C to each place, computed by relaxing arcs until nothing changes.
use Rattle.std.specs.Prelude.{Bool, true, false, cond, ◌&&◌, List, [], ◌∷◌, ℕ, zero, suc, ◌+◌, ltb, leb, eqb, get_or, set, replicate}
use Rattle.std.proofs.Math.Option.{Option, none, some}
use Rattle.model.specs.Problem.{Problem, Arc}

-- an entry for each place: its cost, or none for a place that is not within
abbrev pub Table : Type 0
Table = List (Option ℕ)

abbrev pub cost_at : Table → ℕ → Option ℕ
cost_at t v = get_or t v none

unfoldable pub lowers : ℕ → Option ℕ → Bool
lowers d none = true
lowers d (some e) = ltb d e

unfoldable pub store_if : Bool → Table → ℕ → ℕ → Table
store_if true t v d = set t v (some d)
store_if false t v d = t

-- v is reached at cost d
unfoldable pub arrive : Problem → ℕ → Table → ℕ → ℕ → Table
arrive p C t v d = store_if (leb (d + p.estimate v) C && lowers d (cost_at t v)) t v d

unfoldable pub relax_from : Problem → ℕ → Table → Option ℕ → Arc → Table
relax_from p C t none a = t
relax_from p C t (some d) a = arrive p C t a.to (d + a.cost)

unfoldable pub relax : Problem → ℕ → Table → Arc → Table
relax p C t a = relax_from p C t (cost_at t a.from) a

unfoldable pub relax_all : Problem → ℕ → List Arc → Table → Table
relax_all p C [] t = t
relax_all p C (a ∷ more) t = relax_all p C more (relax p C t a)

unfoldable pub same_entry : Option ℕ → Option ℕ → Bool
same_entry none none = true
same_entry none (some e) = false
same_entry (some d) none = false
same_entry (some d) (some e) = eqb d e

unfoldable pub same_table : Table → Table → Bool
same_table [] [] = true
same_table [] (e ∷ u) = false
same_table (d ∷ t) [] = false
same_table (d ∷ t) (e ∷ u) = same_entry d e && same_table t u

-- every arc relaxed, again and again until nothing changes, at most as often as the first number says
unfoldable pub relax_up_to : ℕ → Problem → ℕ → Table → Table
relax_up_to zero p C t = t
relax_up_to (suc k) p C t =
    let u = relax_all p C p.arcs t in
    let rest = relax_up_to k p C u in
    cond (same_table t u) t rest

unfoldable pub start_table : Problem → ℕ → Table
start_table p C = arrive p C (replicate p.places none) p.start 0

-- Each arc costs at least 1, so a path within C has at most C arcs.
unfoldable pub table : Problem → ℕ → Table
table p C = relax_up_to C p C (start_table p C)
