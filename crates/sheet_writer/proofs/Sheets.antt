-- Laws of writing the sheets, field after field.
-- Assumes nothing.
use mathlib.Core.Path.{◌≡◌, refl, ap, ◌∙◌}
use mathlib.Core.List.{List, ◌++◌}
use Prim.Native.Nat.{ℕ, ◌+◌, ◌*◌, ◌≤◌, ◌<◌}
use native.Mathlib.Omega.{arith}
use lib.ListN.{length}
use lib.Seq.{sets}
use Rattle.area.proofs.Sets.{sets_then, sets-front}
use Rattle.model.specs.Limits.{max_places}
use Rattle.model.specs.Bytes.{put16, put32, put16s}
use Rattle.model.specs.Framing.{put_record}
use Rattle.model.specs.Sheets.{route_kind, no_route_kind, route_sheet, no_route_sheet}
use Rattle.model.specs.Answer.{over_front}
use Rattle.model.proofs.Bytes.{put16s-length}
use Rattle.model.proofs.Sheets.{route-length}
use Rattle.sheet_writer.specs.Header.{header, FitsHeader, HeaderWritten}
use Rattle.sheet_writer.specs.Places.{ArcsCounted, FitsPlaces}
use Rattle.sheet_writer.specs.Write.{NoRouteWritten, FitsRoute, RouteWritten}
use Rattle.sheet_writer.proofs.Follows.{one_list}

over : (new area₀ area : List ℕ) → length new ≤ length area₀ → area ≡ sets area₀ 0 new → area ≡ over_front new area₀
unfolding over_front
over new area₀ area h e = e ∙ sets-front new area₀ h

pub no_route_written : {start : ℕ} {area₀ area₁ area₂ area : List ℕ} → 6 ≤ length area₀
    → area₁ ≡ sets area₀ 0 (put16 2) → area₂ ≡ sets area₁ 2 (put16 no_route_kind) → area ≡ sets area₂ 4 (put16 start)
    → NoRouteWritten start area₀ area 6
unfolding no_route_sheet put_record put16
no_route_written {start} {area₀} {area₁} {area₂} {area} h e₁ e₂ e₃ =
    let all : area ≡ sets area₀ 0 (no_route_sheet start) =
    sets_then area₀ (put16 2 ++ put16 no_route_kind) (put16 start) 0 4 refl (sets_then area₀ (put16 2) (put16 no_route_kind) 0 2 refl e₁ e₂) e₃ in
    record { bytes = refl; written = over (no_route_sheet start) area₀ area h all }

pub header_written : {cost count : ℕ} {area₀ area₁ area₂ area₃ area : List ℕ}
    → area₁ ≡ sets area₀ 0 (put16 (6 + 2 * count)) → area₂ ≡ sets area₁ 2 (put16 route_kind) → area₃ ≡ sets area₂ 4 (put32 cost)
    → area ≡ sets area₃ 8 (put16 count) → HeaderWritten cost count area₀ area
unfolding header put16 put32
header_written {cost} {count} {area₀} e₁ e₂ e₃ e₄ =
    let x = put16 (6 + 2 * count) in
    let kind = sets_then area₀ x (put16 route_kind) 0 2 refl e₁ e₂ in
    let to-cost = sets_then area₀ (x ++ put16 route_kind) (put32 cost) 0 4 refl kind e₃ in
    record { written = sets_then area₀ (x ++ put16 route_kind ++ put32 cost) (put16 count) 0 8 refl to-cost e₄ }

-- the header and the places make the sheet
header_places : (cost : ℕ) (places : List ℕ) → header cost (length places) ++ put16s places ≡ route_sheet cost places
unfolding header route_sheet put_record put16 put32
header_places cost places =
    let body : 6 + 2 * length places ≡ length (put32 cost ++ put16 (length places) ++ put16s places) = omega (arith, put16s-length places) in
    ap (λ (k : ℕ). put16 k ++ put16 route_kind ++ put32 cost ++ put16 (length places) ++ put16s places) body

header-length : (cost count : ℕ) → length (header cost count) ≡ 10
unfolding header put16 put32
header-length cost count = refl

pub route_written : {n goal cost count : ℕ} {w area₀ area₁ area : List ℕ} (h : FitsRoute n goal w area₀) → count ≡ length h.leads.places
    → HeaderWritten cost count area₀ area₁ → area ≡ sets area₁ 10 (put16s h.leads.places) → RouteWritten n goal cost w area₀ area (10 + 2 * count)
route_written {cost = cost} {count = count} {area₀ = area₀} {area = area} h q e f =
    let places = h.leads.places in
    let fields = sets_then area₀ (header cost count) (put16s places) 0 10 (omega (arith, header-length cost count)) e.written f in
    let sheet : header cost count ++ put16s places ≡ route_sheet cost places =
    ap (λ (k : ℕ). header cost k ++ put16s places) q ∙ header_places cost places in
    let k = route-length cost places in
    let room : length (route_sheet cost places) ≤ length area₀ = omega (arith, h.leads.few_places_lem, h.room) in
    let all = over (route_sheet cost places) area₀ area room (fields ∙ ap (λ (x : List ℕ). sets area₀ 0 x) sheet) in
    record {
      bytes = λ r g. omega (arith, ap (λ (x : List ℕ). length (route_sheet cost x)) (one_list h.leads.follows g));
      written = λ r g. all ∙ ap (λ (x : List ℕ). over_front (route_sheet cost x) area₀) (one_list h.leads.follows g);
    }

module _ {n goal : ℕ} {w area₀ : List ℕ} (h : FitsRoute n goal w area₀) where
  module _ {arcs : ℕ} (c : ArcsCounted n goal w arcs) where
    pub few_arcs : arcs < max_places
    few_arcs = omega (arith, c.count h.leads.places h.leads.follows, h.leads.few, h.leads.few_places_lem)

    pub fits_header : FitsHeader (arcs + 1) area₀
    fits_header = record { few = omega (arith, few_arcs); room = omega (arith, h.room) }

    pub fits_places : {area : List ℕ} → length area ≡ length area₀ → FitsPlaces n goal arcs w area
    fits_places q =
        let k = c.count h.leads.places h.leads.follows in
        record { leads = h.leads; count = k; room = omega (arith, h.leads.few_places_lem, h.room) }
