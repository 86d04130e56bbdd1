-- The display's demand holds of everything that its contract lets it show. Assumes nothing.
use mathlib.Core.Path.{◌≡◌, refl, sym, ap, ◌∙◌}
use mathlib.Core.List.{List, [], ◌∷◌}
use Prim.Native.Nat.{ℕ, ◌≤◌}
use native.Mathlib.Decide.{ℕ_discrete}
use native.Mathlib.Omega.{arith}
use lib.ListN.{length}
use Rattle.model.specs.Bytes.{Bytes}
use Rattle.model.specs.Sheets.{route_sheet, no_route_sheet, reading, refused_read, read_sheet}
use Rattle.model.specs.Calls.{problem, Writes}
use Rattle.display.specs.declared.lamps.Lamp.{Lamp}
use Rattle.display.specs.declared.lamps.Lamp.TheVariants.{Green, White, Red}
use Rattle.display.specs.declared.Shown.{Shown}
use Rattle.display.specs.Shown.{lamp_of, shown}
use Rattle.model.proofs.Demands.{DemandSheets}
use Rattle.demands.specs.Calls.{Routes}
use Rattle.demands.specs.Display.{padded, DemandDisplay}
use Rattle.demands.proofs.Calls.{router_demands}

-- ---- the three lamps are apart
green_white : {l : Lamp} → l ≡ Green → l ≡ White → ⊥
green_white e f = let z : ◌≡◌ {A = ℕ} 0 1 = cc in omega arith

green_red : {l : Lamp} → l ≡ Green → l ≡ Red → ⊥
green_red e f = let z : ◌≡◌ {A = ℕ} 0 1 = cc in omega arith

white_red : {l : Lamp} → l ≡ White → l ≡ Red → ⊥
white_red e f = let z : ◌≡◌ {A = ℕ} 0 1 = cc in omega arith

abbrev lamp_on : Shown → Lamp
lamp_on s = s.lamp

-- ---- what is shown of each kind of reading
module _ (cost : ℕ) (places : List ℕ) where
  shown_route : shown (reading 0 cost places) ≡ record { lamp = Green; cost = cost; count = length places; places = padded places }
  unfolding shown lamp_of reading
  shown_route = refl

  shown_no_route : shown (reading 17 cost places) ≡ record { lamp = White; cost = cost; count = length places; places = padded places }
  unfolding shown lamp_of reading
  shown_no_route = refl

shown_refused : (n : ℕ) → 18 ≤ n → n ≤ 19 → shown (refused_read n) ≡ record { lamp = Red; cost = 0; count = 0; places = padded [] }
unfolding shown lamp_of refused_read reading
shown_refused n l m = go (ℕ_discrete n 18)
  where
    go : Dec (n ≡ 18) → shown (refused_read n) ≡ record { lamp = Red; cost = 0; count = 0; places = padded [] }
    go (yes e) = rw e
    go (no k) = let e : n ≡ 19 = omega arith in rw e

module _ (b : List ℕ) (B : Bytes b) (s : Shown) (contract : s ≡ shown (read_sheet b)) where
  read : DemandSheets Routes b
  read = router_demands.demand_sheets b B

  -- a sheet that the router wrote with the number 0, and with 17
  of_route : (job : List ℕ) (w : Writes Routes job 0 b)
      → (places : List ℕ) × (b ≡ route_sheet w.after.answer.cost places)
      × (s ≡ record { lamp = Green; cost = w.after.answer.cost; count = length places; places = padded places })
  of_route job w =
      let (places, on_sheet, read_back) = (router_demands.demand_2 w.call w.after w.comes w.accepted).route_read_back w.number in (
        places,
        sym w.on_sheet ∙ on_sheet,
        contract ∙ ap (λ (x : List ℕ). shown (read_sheet x)) (sym w.on_sheet) ∙ ap shown read_back
            ∙ shown_route w.after.answer.cost places,
      )

  of_no_route : (job : List ℕ) (w : Writes Routes job 17 b)
      → (b ≡ no_route_sheet (problem w.call).start)
      × (s ≡ record { lamp = White; cost = 0; count = 1; places = padded ((problem w.call).start ∷ []) })
  of_no_route job w =
      let of = router_demands.demand_2 w.call w.after w.comes w.accepted in (
        sym w.on_sheet ∙ of.no_route_sheet_lem w.number,
        contract ∙ ap (λ (x : List ℕ). shown (read_sheet x)) (sym w.on_sheet)
            ∙ ap shown (of.no_route_read_back w.number) ∙ shown_no_route 0 ((problem w.call).start ∷ []),
      )

  -- a route, no route, or neither
  data Kind : Type 0 where
    a_route : (job : List ℕ) → Writes Routes job 0 b → Kind
    a_start : (job : List ℕ) → Writes Routes job 17 b → Kind
    neither : s ≡ record { lamp = Red; cost = 0; count = 0; places = padded [] } → Kind

  kind : Kind
  kind = go (ℕ_discrete (read_sheet b).number 0) (ℕ_discrete (read_sheet b).number 17)
    where
      go : Dec ((read_sheet b).number ≡ 0) → Dec ((read_sheet b).number ≡ 17) → Kind
      go (yes e) d = let (r, w) = read.route e in a_route _ w
      go (no k) (yes e) = let (start, w) = read.no_route e in a_start _ w
      go (no k) (no j) = let (n, is, low, high) = read.refused k j in neither (contract ∙ ap shown is ∙ shown_refused n low high)

  pub display_demand : DemandDisplay b s
  display_demand = record {
    route = (green kind, λ (job, w). ap lamp_on (of_route job w).2);
    no_route = (white kind, λ (job, w). ap lamp_on (of_no_route job w).1);
    route_as_written = of_route;
    no_route_as_written = of_no_route;
    refused = red kind;
  }
    where
      green : Kind → s.lamp ≡ Green → (job : List ℕ) × Writes Routes job 0 b
      green (a_route job w) e = (job, w)
      green (a_start job w) e = absurd (green_white e (ap lamp_on (of_no_route job w).1))
      green (neither shows) e = absurd (green_red e (ap lamp_on shows))

      white : Kind → s.lamp ≡ White → (job : List ℕ) × Writes Routes job 17 b
      white (a_route job w) e = absurd (green_white (ap lamp_on (of_route job w).2) e)
      white (a_start job w) e = (job, w)
      white (neither shows) e = absurd (white_red e (ap lamp_on shows))

      red : Kind → (s.lamp ≡ Green → ⊥) → (s.lamp ≡ White → ⊥) → s ≡ record { lamp = Red; cost = 0; count = 0; places = padded [] }
      red (a_route job w) k j = absurd (k (ap lamp_on (of_route job w).2))
      red (a_start job w) k j = absurd (j (ap lamp_on (of_no_route job w).1))
      red (neither shows) k j = shows
