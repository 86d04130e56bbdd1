-- What a record of kind 17 or 18 is read as, test by test. Assumes nothing.
use mathlib.Core.Path.{◌≡◌, refl, sym, ◌∙◌}
use mathlib.Core.Bool.{Bool, true, false, ◌||◌, or-true}
use mathlib.Core.List.{List, [], ◌∷◌, ◌++◌}
use Rattle.std.specs.Prelude.{Some, None}
use Prim.Native.Nat.{ℕ, ◌+◌, ◌-◌, ◌*◌, ◌≤◌, ◌<◌}
use native.Mathlib.Omega.{arith}
use lib.Dec.{leb, ltb}
use lib.ListN.{length, replicate}
use borrow.Author.Tests.{le-leb, lt-leb, lt-ltb, le-ltb, eq-eqb, ne_eqb}
use Rattle.model.specs.Lists.{any, repeats, member}
use Rattle.model.specs.Bytes.{u16, u32, u16s}
use Rattle.model.specs.Limits.{max_places, max_cost}
use Rattle.model.specs.Sheets.{
  route_kind,
  no_route_kind,
  Reading,
  reading,
  refused_read,
  impossible,
  checked,
  fits_route,
  fits_no_route,
  read_record,
}
use Rattle.model.proofs.Bytes.{u16s-length}
use Rattle.sheet_reader.specs.Read.{listed}

-- a record of another kind is no sheet
pub other_kind : (kind : ℕ) (body : List ℕ) → (kind ≡ route_kind → ⊥) → (kind ≡ no_route_kind → ⊥)
    → read_record (record { kind = kind; body = body }) ≡ refused_read 18
unfolding read_record fits_route fits_no_route
other_kind kind body h k = rw (ne_eqb kind route_kind h, ne_eqb kind no_route_kind k)

-- a sheet of no route
abbrev no_route_read : List ℕ → Reading
no_route_read body = read_record (record { kind = no_route_kind; body = body })

module _ (body : List ℕ) where
  pub no_route_unfit : (length body ≡ 2 → ⊥) → no_route_read body ≡ refused_read 18
  unfolding read_record fits_route fits_no_route
  no_route_unfit ne = rw (ne_eqb (length body) 2 ne)

  pub no_route_beyond : length body ≡ 2 → max_places ≤ u16 body 0 → no_route_read body ≡ refused_read 19
  unfolding read_record fits_route fits_no_route checked impossible any
  no_route_beyond l h = rw (eq-eqb (length body) 2 l, le-leb max_places (u16 body 0) h)

  pub no_route_read_lem : length body ≡ 2 → u16 body 0 < max_places → no_route_read body ≡ reading 17 0 (u16 body 0 ∷ [])
  unfolding read_record fits_route fits_no_route checked impossible any repeats member
  no_route_read_lem l h = rw (eq-eqb (length body) 2 l, lt-leb max_places (u16 body 0) h)

  pub no_route_sheet_lem : (start : ℕ) → length body ≡ 2 → start ≡ u16 body 0 → start < max_places
      → record { number = 17; cost = 0; count = 1; places = start ∷ replicate (max_places - 1) 0 } ≡ no_route_read body
  unfolding reading
  no_route_sheet_lem start l is m = rw is (sym (no_route_read_lem l (omega arith)))

-- a route sheet
abbrev route_read : List ℕ → Reading
route_read body = read_record (record { kind = route_kind; body = body })

pub route_unfit : (body : List ℕ) → (length body ≡ 6 + 2 * u16 body 4 → ⊥) → route_read body ≡ refused_read 18
unfolding read_record fits_route fits_no_route
route_unfit body ne = rw (ne_eqb (length body) (6 + 2 * u16 body 4) ne)

pub route_short : (body : List ℕ) → length body < 6 → route_read body ≡ refused_read 18
route_short body l = route_unfit body (λ e. omega arith)

-- the first fields of a body that its count fits
pub record Header (body : List ℕ) (cost count : ℕ) : Type 0 where
  pub costs : cost ≡ u32 body 0
  pub counts : count ≡ u16 body 4
  pub fits : length body ≡ 6 + 2 * count

or_later : (t a b : Bool) → a || b ≡ true → t || a || b ≡ true
or_later true a b h = refl
or_later false a b h = h

module _ (body : List ℕ) (cost count : ℕ) (h : Header body cost count) where
  abbrev places : List ℕ
  places = u16s count body 6

  route_fits : route_read body ≡ checked 0 cost places
  unfolding read_record fits_route
  route_fits =
      rw (
        ← h.counts,
        eq-eqb (length body) (6 + 2 * count) h.fits,
        ← h.costs,
      )

  route_refused : impossible cost places ≡ true → route_read body ≡ refused_read 19
  unfolding checked
  route_refused e = route_fits ∙ rw e

  pub no_places : count ≡ 0 → route_read body ≡ refused_read 19
  unfolding impossible
  no_places e = route_refused (rw (u16s-length count body 6, lt-ltb count 1 (omega arith)))

  pub many_places : max_places < count → route_read body ≡ refused_read 19
  unfolding impossible
  many_places l = route_refused (rw (u16s-length count body 6, lt-ltb max_places count l, or-true))

  pub low_cost : cost < count - 1 → route_read body ≡ refused_read 19
  unfolding impossible
  low_cost l = route_refused (rw (u16s-length count body 6, lt-ltb cost (count - 1) l, or-true))

  pub high_cost : (count - 1) * max_cost < cost → route_read body ≡ refused_read 19
  unfolding impossible
  high_cost l = route_refused (rw (u16s-length count body 6, lt-ltb ((count - 1) * max_cost) cost l, or-true))

  -- what is listed says whether the places are wrong
  none_wrong : (t : Bool) → any (leb max_places) places || repeats places ≡ t → listed body count ≡ None
      → any (leb max_places) places || repeats places ≡ true
  unfolding listed
  none_wrong true w e = w
  none_wrong false w e = let some = rw w at e in cc

  some_right : (list : List ℕ) (t : Bool) → any (leb max_places) places || repeats places ≡ t → listed body count ≡ Some list
      → (any (leb max_places) places || repeats places ≡ false) × (list ≡ places ++ replicate (max_places - count) 0)
  unfolding listed
  some_right list true w e = let none = rw w at e in cc
  some_right list false w e = let some = rw w at e in (w, cc)

  pub no_list : listed body count ≡ None → route_read body ≡ refused_read 19
  unfolding impossible
  no_list e =
      let first = ltb (length places) 1 || ltb max_places (length places) in
      route_refused (rw (or_later first (any (leb max_places) places) (repeats places) (none_wrong _ refl e)))

  route_read_lem : 1 ≤ count → count ≤ max_places → count - 1 ≤ cost → cost ≤ (count - 1) * max_cost
      → any (leb max_places) places || repeats places ≡ false → route_read body ≡ reading 0 cost places
  unfolding impossible checked
  route_read_lem some few above below none =
      route_fits
      ∙ rw (
        u16s-length count body 6,
        le-ltb count 1 some,
        le-ltb max_places count few,
        none,
        le-ltb cost (count - 1) above,
        le-ltb ((count - 1) * max_cost) cost below,
      )

  pub route_sheet_lem : 1 ≤ count → count ≤ max_places → count - 1 ≤ cost → cost ≤ (count - 1) * max_cost
      → (list : List ℕ) → listed body count ≡ Some list → (n : ℕ) → n ≡ count
      → record { number = 0; cost = cost; count = n; places = list } ≡ route_read body
  unfolding reading
  route_sheet_lem some few above below list e n is =
      let right = some_right list _ refl e in
      rw (route_read_lem some few above below right.0, right.1, is, u16s-length count body 6)
