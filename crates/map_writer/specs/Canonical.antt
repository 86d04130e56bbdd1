-- The canonical form of what an input states, and its records as bytes. Document 02, paper 3: "it writes the head, all arcs by from, to, cost,
-- kind and their remaining fields, all nonzero estimates by place, then the job"; paper 5: "The map writer puts this kind and later ones by kind, then
-- place, just before the job, leaves out any record that says what holds without it"; paper 8: it "writes the own estimates that differ from the
-- default, 0 among them, and none for goals; it leaves out a default only where that is 0".
use Rattle.std.specs.Prelude.{cond, not, ℕ, eqb}
use mathlib.Core.List.{List, [], ◌∷◌, ◌++◌, map, flat_map}
use Rattle.model.specs.Lists.{filter, member, below}
use Rattle.model.specs.Items.{PlaceValue}
use Rattle.model.specs.Stated.{Stated, lookup, default}
use Rattle.model.specs.Jobs.{put_head, put_estimate, put_wait, put_table, put_default, put_job, put_lane}
use Rattle.sort.specs.Sorting.{sort_by}
use Rattle.map_writer.specs.Order.{no_later}

-- the number of each of n places, d where none is given
unfoldable pub by_place : (d n : ℕ) → List PlaceValue → List PlaceValue
by_place d n xs = map (λ v. record { place = v; value = lookup d xs v }) (below n)

-- without those that are d, which hold without a record
unfoldable pub others_by_place : (d n : ℕ) → List PlaceValue → List PlaceValue
others_by_place d n xs = filter (λ (x : PlaceValue). not (eqb x.value d)) (by_place d n xs)

-- the own estimates of places that are no goals
unfoldable pub own_estimates : Stated → List PlaceValue
own_estimates s = filter (λ (e : PlaceValue). not (member e.place s.job.goals)) s.estimates

-- a default, unless it is 0
unfoldable pub some_default : ℕ → List ℕ
some_default d = cond (eqb d 0) [] (d ∷ [])

-- the same map and job, with its lanes in order, and its estimates and waits by place
unfoldable pub canonical : Stated → Stated
canonical s =
    record {
      size = s.size;
      lanes = sort_by (no_later s.factors) s.lanes;
      estimates = others_by_place (default s) s.size.places (own_estimates s);
      defaults = some_default (default s);
      waits = others_by_place 0 s.size.places s.waits;
      factors = s.factors;
      growth = s.growth;
      job = s.job;
    }

unfoldable pub put_stated : Stated → List ℕ
put_stated s =
    put_head s.size.places s.size.arcs
    ++ flat_map put_lane s.lanes
    ++ flat_map (λ (e : PlaceValue). put_estimate e.place e.value) s.estimates
    ++ flat_map (λ (w : PlaceValue). put_wait w.place w.value) s.waits
    ++ put_table s.factors
    ++ flat_map put_default s.defaults
    ++ put_job s.job.start s.job.allowance s.job.goals

-- the written map of what an input states
unfoldable pub write : Stated → List ℕ
write s = put_stated (canonical s)
