-- A sheet is read as its one record, or is no sheet. Assumes nothing.
use mathlib.Core.Path.{◌≡◌, refl}
use mathlib.Core.Bool.{Bool, true, false, cond}
use mathlib.Core.List.{List, ◌∷◌}
use Prim.Native.Nat.{ℕ, ◌+◌, ◌-◌, ◌≤◌, ◌<◌}
use native.Mathlib.Decide.{dec_lt}
use native.Mathlib.Omega.{arith}
use lib.Dec.{leb}
use lib.ListN.{length, take, drop, length-drop}
use borrow.Author.Tests.{le-leb, leb-true}
use Rattle.model.specs.Bytes.{u16}
use Rattle.model.specs.Framing.{Record, Framed, stop, push, frame}
use Rattle.model.specs.Sheets.{Reading, refused_read, read_record, read_framed, read_sheet}
use Rattle.model.proofs.Framing.{frame-none, frame_short, frame_first}

-- what a reader makes of framed bytes
abbrev read_in : Framed → Reading
read_in f = read_framed f.broken f.records

-- a record before further bytes is not one record alone
module _ (r : Record) where
  behind_two : (x : Record) (rs : List Record) (t : Bool) → read_framed t (r ∷ x ∷ rs) ≡ refused_read 18
  unfolding read_framed
  behind_two x rs true = refl
  behind_two x rs false = refl

  behind_choice : (x : Record) (f : Framed) (t : Bool) → read_in (push r (cond t (push x f) (stop true))) ≡ refused_read 18
  unfolding read_framed stop push
  behind_choice x f true = behind_two x f.records f.broken
  behind_choice x f false = refl

  behind : (b : List ℕ) → 1 ≤ length b → read_in (push r (frame b)) ≡ refused_read 18
  unfolding read_framed stop push
  behind b l = go (dec_lt (length b) 4)
    where
      go : Dec (length b < 4) → read_in (push r (frame b)) ≡ refused_read 18
      go (yes m) = rw (frame_short b l m)
      go (no m) =
          let x : Record = record { kind = u16 b 2; body = take (u16 b 0) (drop 4 b) } in
          rw (frame_first b (omega arith)) (behind_choice x (frame (drop (u16 b 0) (drop 4 b))) (leb (u16 b 0) (length (drop 4 b))))

-- fewer than four bytes are no record
pub read_short : (b : List ℕ) → length b < 4 → read_sheet b ≡ refused_read 18
unfolding read_sheet read_framed stop
read_short b l = go (dec_lt 0 (length b))
  where
    go : Dec (0 < length b) → read_in (frame b) ≡ refused_read 18
    go (yes m) = rw (frame_short b m l)
    go (no m) = rw (frame-none b (omega arith))

-- bytes whose number is not 4 and what the first field says are not exactly one record
pub read_unfit : (b : List ℕ) → 4 ≤ length b → (length b ≡ 4 + u16 b 0 → ⊥) → read_sheet b ≡ refused_read 18
unfolding read_sheet read_framed stop
read_unfit b l ne = rw (frame_first b l) (go (leb (u16 b 0) (length (drop 4 b))) refl)
  where
    x : Record
    x = record { kind = u16 b 2; body = take (u16 b 0) (drop 4 b) }

    go : (t : Bool) → leb (u16 b 0) (length (drop 4 b)) ≡ t
        → read_in (cond t (push x (frame (drop (u16 b 0) (drop 4 b)))) (stop true)) ≡ refused_read 18
    go true e =
        let fits = leb-true (u16 b 0) (length (drop 4 b)) e in
        behind x (drop (u16 b 0) (drop 4 b)) (omega (arith, ne, fits, length-drop 4 b, length-drop (u16 b 0) (drop 4 b)))
    go false e = refl

-- bytes that the first field fits are one record, whose body begins at byte 4
pub read_one : (b : List ℕ) → length b ≡ 4 + u16 b 0
    → read_sheet b ≡ read_record (record { kind = u16 b 2; body = take (length b - 4) (drop 4 b) })
unfolding read_sheet read_framed stop push
read_one b l =
    let size : length b - 4 ≡ u16 b 0 = omega arith in
    let fits : leb (u16 b 0) (length (drop 4 b)) ≡ true = le-leb (u16 b 0) (length (drop 4 b)) (omega (arith, length-drop 4 b)) in
    let nothing : length (drop (u16 b 0) (drop 4 b)) ≡ 0 = omega (arith, length-drop 4 b, length-drop (u16 b 0) (drop 4 b)) in
    rw (frame_first b (omega arith), size, fits, frame-none (drop (u16 b 0) (drop 4 b)) nothing)
