-- Sheets are read back as they were written, and what is accepted was written so. Assumes nothing.
use mathlib.Core.Path.{◌≡◌, refl, sym, ap, ◌∙◌}
use mathlib.Core.Bool.{Bool, true, false, cond, ◌||◌}
use mathlib.Core.List.{List, [], ◌∷◌, ◌++◌, append_assoc, append-nil}
use Prim.Native.Nat.{ℕ, zero, suc, ◌+◌, ◌-◌, ◌*◌, ◌≤◌, ◌<◌}
use native.Mathlib.Decide.{dec_lt}
use native.Mathlib.Omega.{arith}
use lib.Dec.{ltb, leb, eqb}
use lib.ListN.{length, get_or, take, replicate, get_or-eq_default}
use lib.Seq.{take_all, take-add, take-append_seam}
use borrow.Author.Tests.{ltb-false, leb-false, eqb-true, le-ltb, lt-leb, eq-eqb}
use Rattle.model.specs.Lists.{any, repeats}
use Rattle.model.specs.Bytes.{Bytes, u16, u32, u16s, put16, put32, put16s}
use Rattle.model.specs.Framing.{Record, frame, put_record}
use Rattle.model.specs.Limits.{max_places, max_cost}
use Rattle.model.specs.Sheets.{
  route_kind,
  no_route_kind,
  route_sheet,
  no_route_sheet,
  Reading,
  reading,
  refused_read,
  impossible,
  checked,
  fits_route,
  fits_no_route,
  read_record,
  read_framed,
  read_sheet,
}
use Rattle.model.proofs.Lists.{neither, both}
use Rattle.model.proofs.Indices.{Different, any_nowhere, nowhere_any, repeats_different, different_repeats}
use Rattle.model.proofs.Bytes.{
  put16s-length,
  u16s-length,
  u16_put16,
  u32_put32,
  u16s_put16s,
  put16_u16,
  put32_u32,
  put16s_u16s,
}
use Rattle.model.proofs.Records.{alone, frame-put_record, put_record-frame}

-- what a route sheet may hold: 1 to 4,096 different places of at most 4,095 and a cost in range
pub record Possible (cost : ℕ) (places : List ℕ) : Type 0 where
  pub some_place : 1 ≤ length places
  pub few_places_lem : length places ≤ max_places
  pub place_below : (i : ℕ) → i < length places → get_or places i 0 < max_places
  pub different : Different places
  pub cost_above : length places - 1 ≤ cost
  pub cost_below : cost ≤ (length places - 1) * max_cost

-- a route sheet has 10 bytes, and 2 for each place
pub route-length : (cost : ℕ) (places : List ℕ) → length (route_sheet cost places) ≡ 10 + 2 * length places
unfolding route_sheet put_record put16 put32
route-length cost places = omega (arith, put16s-length places)

pub possible : (cost : ℕ) (places : List ℕ) → impossible cost places ≡ false → Possible cost places
unfolding impossible
possible cost places e =
    let p : ℕ = length places in
    let f : Bool = any (leb max_places) places in
    let below = neither (ltb p 1 || ltb max_places p || f || repeats places || ltb cost (p - 1)) (ltb ((p - 1) * max_cost) cost) e in
    let above = neither (ltb p 1 || ltb max_places p || f || repeats places) (ltb cost (p - 1)) below.0 in
    let once = neither (ltb p 1 || ltb max_places p || f) (repeats places) above.0 in
    let small = neither (ltb p 1 || ltb max_places p) f once.0 in
    let few = neither (ltb p 1) (ltb max_places p) small.0 in
    record {
      some_place = ltb-false p 1 few.0;
      few_places_lem = ltb-false max_places p few.1;
      place_below = λ i l. leb-false max_places (get_or places i 0) (any_nowhere (leb max_places) places small.1 i l);
      different = repeats_different places once.1;
      cost_above = ltb-false cost (p - 1) above.1;
      cost_below = ltb-false ((p - 1) * max_cost) cost below.1;
    }

pub not_impossible : (cost : ℕ) (places : List ℕ) → Possible cost places → impossible cost places ≡ false
unfolding impossible
not_impossible cost places h =
    let p : ℕ = length places in
    rw (
      le-ltb p 1 h.some_place,
      le-ltb max_places p h.few_places_lem,
      nowhere_any (leb max_places) places (λ i l. lt-leb max_places (get_or places i 0) (h.place_below i l)),
      different_repeats places h.different,
      le-ltb cost (p - 1) h.cost_above,
      le-ltb ((p - 1) * max_cost) cost h.cost_below,
    )

pub one_place : (x : ℕ) → x < max_places → Possible 0 (x ∷ [])
one_place x h =
    record {
      some_place = omega arith;
      few_places_lem = omega arith;
      place_below = below;
      different = λ i j l m e. omega arith;
      cost_above = omega arith;
      cost_below = omega arith;
    }
  where
    below : (i : ℕ) → i < 1 → get_or (x ∷ []) i 0 < max_places
    below zero l = h
    below (suc i) l = absurd (omega arith)

-- the body of a route sheet
abbrev route_body : ℕ → List ℕ → List ℕ
route_body cost places = put32 cost ++ put16 (length places) ++ put16s places

route_body-length : (cost : ℕ) (places : List ℕ) → length (route_body cost places) ≡ 6 + 2 * length places
unfolding put16 put32
route_body-length cost places = omega (arith, put16s-length places)

-- the fields of a route sheet are read back
record Fields (body : List ℕ) (cost : ℕ) (places : List ℕ) : Type 0 where
  costs : u32 body 0 ≡ cost
  counts : u16 body 4 ≡ length places
  lists : u16s (length places) body 6 ≡ places

route_body_fields : (cost : ℕ) (places : List ℕ) → Possible cost places → Fields (route_body cost places) cost places
unfolding put16 put32
route_body_fields cost places h =
    record {
      costs = rw append_assoc (u32_put32 [] cost (put16 p ++ put16s places) (omega arith));
      counts = u16_put16 (put32 cost) p (put16s places) (omega arith);
      lists = rw append-nil at (u16s_put16s (put32 cost ++ put16 p) places [] below);
    }
  where
    p : ℕ
    p = length places

    below : (i : ℕ) → get_or places i 0 < 65536
    below i = go (dec_lt i p)
      where
        go : Dec (i < p) → get_or places i 0 < 65536
        go (yes l) = omega (arith, h.place_below i l)
        go (no l) = omega (arith, get_or-eq_default places 0 {n = i} (omega arith))

-- one whole record is read by itself
read_one : (b : List ℕ) (r : Record) → frame b ≡ alone r → read_sheet b ≡ read_record r
unfolding read_sheet read_framed
read_one b r e = rw e

-- a record of kind 17 with fitting fields is a route, one of kind 18 with a place below the limit is no route
read_route : (body : List ℕ) (cost : ℕ) (places : List ℕ) → length body ≡ 6 + 2 * length places → Fields body cost places → Possible cost places
    → read_record (record { kind = route_kind; body = body }) ≡ reading 0 cost places
unfolding read_record fits_route checked
read_route body cost places l f h =
    let exact : eqb (length body) (6 + 2 * length places) ≡ true = eq-eqb (length body) (6 + 2 * length places) l in
    rw (f.counts, exact, f.costs, f.lists, not_impossible cost places h)

read_no_route : (body : List ℕ) (start : ℕ) → length body ≡ 2 → u16 body 0 ≡ start → start < max_places
    → read_record (record { kind = no_route_kind; body = body }) ≡ reading 17 0 (start ∷ [])
unfolding read_record fits_route fits_no_route checked
read_no_route body start l f h = rw (l, f, not_impossible 0 (start ∷ []) (one_place start h))

-- A sheet is read back as it was written.
pub route_read_back : (cost : ℕ) (places : List ℕ) → Possible cost places → read_sheet (route_sheet cost places) ≡ reading 0 cost places
unfolding route_sheet
route_read_back cost places h =
    let body : List ℕ = route_body cost places in
    let l : length body ≡ 6 + 2 * length places = route_body-length cost places in
    let framed = frame-put_record route_kind body (omega arith) (omega arith) in
    read_one (route_sheet cost places) (record { kind = route_kind; body = body }) framed
    ∙ read_route body cost places l (route_body_fields cost places h) h

pub no_route_read_back : (start : ℕ) → start < max_places → read_sheet (no_route_sheet start) ≡ reading 17 0 (start ∷ [])
unfolding no_route_sheet put16
no_route_read_back start h =
    let body : List ℕ = put16 start in
    let framed = frame-put_record no_route_kind body (omega arith) (omega arith) in
    read_one (no_route_sheet start) (record { kind = no_route_kind; body = body }) framed
    ∙ read_no_route body start refl (u16_put16 [] start [] (omega arith)) h

-- What is accepted is the sheet of what it is read as.
pub record IsRouteSheet (b : List ℕ) (r : Reading) : Type 0 where
  pub places : List ℕ
  pub can_be : Possible r.cost places
  pub written : b ≡ route_sheet r.cost places
  pub read : r ≡ reading 0 r.cost places

pub record IsNoRouteSheet (b : List ℕ) (r : Reading) : Type 0 where
  pub start : ℕ
  pub can_be : start < max_places
  pub written : b ≡ no_route_sheet start
  pub read : r ≡ reading 17 0 (start ∷ [])

-- how a read ends
data ReadAs (b : List ℕ) : Reading → Type 0 where
  a_route : (body : List ℕ) → frame b ≡ alone (record { kind = route_kind; body = body })
      → length body ≡ 6 + 2 * u16 body 4 → Possible (u32 body 0) (u16s (u16 body 4) body 6)
      → ReadAs b (reading 0 (u32 body 0) (u16s (u16 body 4) body 6))
  no_route : (body : List ℕ) → frame b ≡ alone (record { kind = no_route_kind; body = body })
      → length body ≡ 2 → u16 body 0 < max_places → ReadAs b (reading 17 0 (u16 body 0 ∷ []))
  refused : (n : ℕ) → 18 ≤ n → n ≤ 19 → ReadAs b (refused_read n)

module _ (b : List ℕ) where
  checked_outcome : (number cost : ℕ) (places : List ℕ) → (Possible cost places → ReadAs b (reading number cost places))
      → ReadAs b (checked number cost places)
  unfolding checked
  checked_outcome number cost places h = go (impossible cost places) refl
    where
      go : (t : Bool) → impossible cost places ≡ t → ReadAs b (cond t (refused_read 19) (reading number cost places))
      go true e = refused 19 (omega arith) (omega arith)
      go false e = h (possible cost places e)

  record_outcome : (r : Record) → frame b ≡ alone r → ReadAs b (read_record r)
  unfolding read_record fits_route fits_no_route
  record_outcome r e = go (fits_route r) refl (fits_no_route r) refl
    where
      x : List ℕ
      x = r.body

      of_kind : (k : ℕ) → r.kind ≡ k → frame b ≡ alone (record { kind = k; body = x })
      of_kind k q = e ∙ λ i. alone (record { kind = q i; body = x })

      go : (t : Bool) → fits_route r ≡ t → (u : Bool) → fits_no_route r ≡ u
          → ReadAs b (cond t (checked 0 (u32 x 0) (u16s (u16 x 4) x 6)) (cond u (checked 17 0 (u16 x 0 ∷ [])) (refused_read 18)))
      go true f u g =
          let parts = both (eqb r.kind route_kind) (eqb (length x) (6 + 2 * u16 x 4)) f in
          let framed = of_kind route_kind (eqb-true r.kind route_kind parts.0) in
          checked_outcome 0 (u32 x 0) (u16s (u16 x 4) x 6) (a_route x framed (eqb-true (length x) (6 + 2 * u16 x 4) parts.1))
      go false f true g =
          let parts = both (eqb r.kind no_route_kind) (eqb (length x) 2) g in
          let framed = of_kind no_route_kind (eqb-true r.kind no_route_kind parts.0) in
          checked_outcome 17 0 (u16 x 0 ∷ []) (λ h. no_route x framed (eqb-true (length x) 2 parts.1) (h.place_below 0 (omega arith)))
      go false f false g = refused 18 (omega arith) (omega arith)

  outcome : ReadAs b (read_sheet b)
  unfolding read_sheet read_framed
  outcome = go (frame b).broken (frame b).records refl
    where
      go : (t : Bool) (rs : List Record) → frame b ≡ record { records = rs; broken = t } → ReadAs b (read_framed t rs)
      go true rs e = refused 18 (omega arith) (omega arith)
      go false [] e = refused 18 (omega arith) (omega arith)
      go false (r ∷ []) e = record_outcome r e
      go false (r ∷ s ∷ rs) e = refused 18 (omega arith) (omega arith)

-- bytes that are framed as one record are that record's, and its body is of bytes
framed_record : (b : List ℕ) (kind : ℕ) (body : List ℕ) → Bytes b → frame b ≡ alone (record { kind = kind; body = body })
    → (b ≡ put_record kind body) × Bytes body
framed_record b kind body h e =
    let whole : b ≡ put_record kind body = put_record-frame b (record { kind = kind; body = body }) h e in
    (whole, bytes_of (rw whole at h))
  where
    bytes_of : Bytes (put_record kind body) → Bytes body
    bytes_of k i = unfold put_record put16 in k (suc (suc (suc (suc i))))

-- a body of fitting length is written again from its fields
route_body-written : (body : List ℕ) → Bytes body → length body ≡ 6 + 2 * u16 body 4 → body ≡ route_body (u32 body 0) (u16s (u16 body 4) body 6)
route_body-written body h l =
    let n : ℕ = u16 body 4 in
    let first = put32_u32 body 0 h (omega arith) in
    let second = put16_u16 body 4 h (omega arith) in
    let others = put16s_u16s n body 6 h (omega arith) in
    let all : take (6 + 2 * n) body ≡ body = take_all (6 + 2 * n) body (omega arith) in
    rw (u16s-length, first, second, others, ← take-add 4 2 body, ← take-add 6 (2 * n) body) (sym all)

no_route-written : (body : List ℕ) → Bytes body → length body ≡ 2 → body ≡ put16 (u16 body 0)
no_route-written body h l = rw (put16_u16 body 0 h (omega arith)) (sym (take_all 2 body (omega arith)))

pub accepted_route : (b : List ℕ) → Bytes b → (read_sheet b).number ≡ 0 → IsRouteSheet b (read_sheet b)
unfolding reading refused_read route_sheet
accepted_route b h e = go (read_sheet b) (outcome b) e
  where
    go : (r : Reading) → ReadAs b r → r.number ≡ 0 → IsRouteSheet b r
    go _ (a_route body framed l p) q =
        let whole = framed_record b route_kind body h framed in
        record {
          places = u16s (u16 body 4) body 6;
          can_be = p;
          written = whole.0 ∙ ap (put_record route_kind) (route_body-written body whole.1 l);
          read = refl;
        }
    go _ (no_route body framed l p) q = absurd (omega arith)
    go _ (refused n l m) q = absurd (omega arith)

pub accepted_no_route : (b : List ℕ) → Bytes b → (read_sheet b).number ≡ 17 → IsNoRouteSheet b (read_sheet b)
unfolding reading refused_read no_route_sheet
accepted_no_route b h e = go (read_sheet b) (outcome b) e
  where
    go : (r : Reading) → ReadAs b r → r.number ≡ 17 → IsNoRouteSheet b r
    go _ (a_route body framed l p) q = absurd (omega arith)
    go _ (no_route body framed l p) q =
        let whole = framed_record b no_route_kind body h framed in
        record {
          start = u16 body 0;
          can_be = p;
          written = whole.0 ∙ ap (put_record no_route_kind) (no_route-written body whole.1 l);
          read = refl;
        }
    go _ (refused n l m) q = absurd (omega arith)

-- every other read is refused, with 18 or 19 and zeros
pub refused_otherwise : (b : List ℕ) → ((read_sheet b).number ≡ 0 → ⊥) → ((read_sheet b).number ≡ 17 → ⊥)
    → (n : ℕ) × (read_sheet b ≡ refused_read n) × (18 ≤ n) × (n ≤ 19)
unfolding reading refused_read
refused_otherwise b x y = go (read_sheet b) (outcome b) x y
  where
    go : (r : Reading) → ReadAs b r → (r.number ≡ 0 → ⊥) → (r.number ≡ 17 → ⊥) → (n : ℕ) × (r ≡ refused_read n) × (18 ≤ n) × (n ≤ 19)
    go _ (a_route body framed l p) f g = absurd (f refl)
    go _ (no_route body framed l p) f g = absurd (g refl)
    go _ (refused n l m) f g = (n, refl, l, m)

-- Equal readings are of equal costs and places.
same_reading : (n m c d : ℕ) (r s : List ℕ) → reading n c r ≡ reading m d s → (c ≡ d) × (r ≡ s)
unfolding reading
same_reading n m c d r s e =
    let count : length r ≡ length s = ap (λ x. x.count) e in
    let padded : r ++ replicate (max_places - length r) 0 ≡ s ++ replicate (max_places - length s) 0 = ap (λ x. x.places) e in
    let cut : r ≡ take (length r) (s ++ replicate (max_places - length s) 0)
    = sym (take-append_seam r (replicate (max_places - length r) 0)) ∙ ap (take (length r)) padded in
    (ap (λ x. x.cost) e, cut ∙ rw count (take-append_seam s (replicate (max_places - length s) 0)))

-- Two sheets are equal byte for byte exactly when kind, cost and places, or starts, are.
pub same_route_sheet : (c d : ℕ) (r s : List ℕ) → Possible c r → Possible d s → route_sheet c r ≡ route_sheet d s → (c ≡ d) × (r ≡ s)
same_route_sheet c d r s h k e = same_reading 0 0 c d r s (sym (route_read_back c r h) ∙ ap read_sheet e ∙ route_read_back d s k)

pub same_no_route_sheet : (s t : ℕ) → s < max_places → t < max_places → no_route_sheet s ≡ no_route_sheet t → s ≡ t
same_no_route_sheet s t h k e =
    let read = sym (no_route_read_back s h) ∙ ap read_sheet e ∙ no_route_read_back t k in
    ap (λ l. get_or l 0 0) (same_reading 17 17 0 0 (s ∷ []) (t ∷ []) read).1

pub different_kinds : (c : ℕ) (r : List ℕ) (s : ℕ) → route_sheet c r ≡ no_route_sheet s → ⊥
unfolding route_sheet no_route_sheet put_record put16
different_kinds c r s e = let kinds : route_kind ≡ no_route_kind = ap (λ l. get_or l 2 0) e in omega arith
