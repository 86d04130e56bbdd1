-- A query with limit C and budget b: its length, its cost and its outcome.
use Rattle.std.specs.Prelude.{Bool, true, false, ◌&&◌, ◌||◌, List, [], ◌∷◌, ℕ, suc, ◌+◌, ltb, eqb, length}
use Rattle.std.proofs.Math.Option.{Option, none, some}
use Rattle.model.specs.Lists.{filter, cons_if, filter_map, least, least_by, member}
use Rattle.model.specs.Problem.{Problem, Arc}
use Rattle.model.specs.Costs.{Table, cost_at, table}

-- a place within C and its D
pub record Key : Type 0 where
  pub cost : ℕ
  pub place : ℕ

-- "Places within C are ordered by D, then by number."
unfoldable pub precedes : Key → Key → Bool
precedes j k = ltb j.cost k.cost || (eqb j.cost k.cost && ltb j.place k.place)

unfoldable pub key_of : ℕ → Option ℕ → Option Key
key_of v none = none
key_of v (some d) = some (record { cost = d; place = v })

-- the keys of a table's entries, the first of which is place v's
unfoldable pub keys_from : ℕ → Table → List Key
keys_from v [] = []
keys_from v (e ∷ t) = cons_if (key_of v e) (keys_from (suc v) t)

-- the places within C
unfoldable pub within : Table → List Key
within t = keys_from 0 t

unfoldable pub first_goal : Problem → Table → Option Key
first_goal p t = least_by precedes (filter (λ (k : Key). member k.place p.goals) (within t))

-- "Its length is the number of places before the first goal in that order, or of all places if no goal is within."
unfoldable pub length_to : Option Key → List Key → ℕ
length_to none ks = length ks
length_to (some g) ks = length (filter (λ (k : Key). precedes k g) ks)

unfoldable pub crossing : Problem → Arc → Option ℕ → Option ℕ → Option ℕ
crossing p a none e = none
crossing p a (some d) (some e) = none
crossing p a (some d) none = some (d + a.cost + p.estimate a.to)

-- "the least D + arc cost + estimate over arcs from a place within to one not within"
unfoldable pub next_limit : Problem → Table → Option ℕ
next_limit p t = least (filter_map (λ (a : Arc). crossing p a (cost_at t a.from) (cost_at t a.to)) p.arcs)

-- "one of ended, over, found, none"; `nothing` is document 01's none.
pub data Outcome : Type 0 where
  ended : ℕ → Outcome
  over found nothing : Outcome

pub record Query : Type 0 where
  pub outcome : Outcome
  pub cost : ℕ

-- "Not over and a goal within is found. Otherwise … ended with that number, or none if there is no such arc."
unfoldable pub not_over : Option Key → Option ℕ → Outcome
not_over (some g) next = found
not_over none (some x) = ended x
not_over none none = nothing

-- "It is over if its length exceeds b, and costs b expansions; else it costs its length."
unfoldable pub judge : Bool → ℕ → ℕ → Outcome → Query
judge true b n o = record { outcome = over; cost = b }
judge false b n o = record { outcome = o; cost = n }

unfoldable pub query_on : Problem → Table → ℕ → Query
query_on p t b =
    let g = first_goal p t in
    let n = length_to g (within t) in
    judge (ltb b n) b n (not_over g (next_limit p t))

unfoldable pub query : Problem → ℕ → ℕ → Query
query p C b = query_on p (table p C) b
