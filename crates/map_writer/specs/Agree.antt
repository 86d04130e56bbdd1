-- When two inputs state the same. Document 02, paper 3: "the same N, arc records as a collection with repeats, estimates and job"; paper 5 on waits and
-- later kinds: "its agreement covers them". Of factors, those in force; of estimates, that of every place, and the default, which is written also
-- where every place has its own.
use Rattle.std.specs.Prelude.{◌≡◌, Bool, false, ◌&&◌, List, ℕ, ◌<◌, eqb, length}
use Rattle.model.specs.Lists.{filter}
use Rattle.model.specs.Items.{Charge, flat, measured, Lane}
use Rattle.model.specs.Stated.{Stated, default, estimate_at, wait_at}

unfoldable pub same_charge : Charge → Charge → Bool
same_charge (flat c) (flat d) = eqb c d
same_charge (flat c) (measured m b) = false
same_charge (measured l a) (flat d) = false
same_charge (measured l a) (measured m b) = eqb l m && eqb a b

unfoldable pub same_lane : Lane → Lane → Bool
same_lane l m = eqb l.from m.from && (eqb l.to m.to && same_charge l.charge m.charge)

-- how often a lane stands among others
unfoldable pub copies : Lane → List Lane → ℕ
copies l lanes = length (filter (same_lane l) lanes)

pub record Agree (s t : Stated) : Type 0 where
  pub places : s.size.places ≡ t.size.places
  pub lanes : (l : Lane) → copies l s.lanes ≡ copies l t.lanes
  pub estimates : (v : ℕ) → v < s.size.places → estimate_at s v ≡ estimate_at t v
  pub default : default s ≡ default t
  pub waits : (v : ℕ) → wait_at s v ≡ wait_at t v
  pub factors : s.factors ≡ t.factors
  pub job : s.job ≡ t.job
