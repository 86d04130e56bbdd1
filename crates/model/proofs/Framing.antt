-- Framing record by record, with no bound on their number, from the front of the bytes on. Assumes nothing.
use mathlib.Core.Path.{◌≡◌, refl, sym, ap, ◌∙◌}
use mathlib.Core.Bool.{Bool, true, false, cond, true≢false}
use mathlib.Core.List.{List, [], ◌∷◌, ◌++◌}
use Prim.Native.Nat.{ℕ, zero, suc, ◌+◌, ◌*◌, ◌≤◌, ◌<◌}
use native.Mathlib.Omega.{arith}
use native.Mathlib.Nat.{le_refl}
use lib.Dec.{leb}
use lib.ListN.{length, take, drop, length-drop, length-append}
use lib.Seq.{take-append_seam, drop-append_seam, take-append-le, drop-append-le}
use borrow.Author.Tests.{leb-true, le-leb}
use Rattle.model.specs.Bytes.{u16, put16}
use Rattle.model.specs.Framing.{Framed, stop, push, frame_up_to, frame, put_record}
use Rattle.model.proofs.Bytes.{two_bytes}

same_fuel : (j k : ℕ) (bs : List ℕ) → length bs ≤ j → length bs ≤ k → frame_up_to j bs ≡ frame_up_to k bs
unfolding frame_up_to
same_fuel zero zero bs h g = refl
same_fuel zero (suc k) [] h g = refl
same_fuel zero (suc k) (x ∷ bs) h g = absurd (omega arith)
same_fuel (suc j) zero [] h g = refl
same_fuel (suc j) zero (x ∷ bs) h g = absurd (omega arith)
same_fuel (suc j) (suc k) [] h g = refl
same_fuel (suc j) (suc k) (a ∷ []) h g = refl
same_fuel (suc j) (suc k) (a ∷ b ∷ []) h g = refl
same_fuel (suc j) (suc k) (a ∷ b ∷ c ∷ []) h g = refl
same_fuel (suc j) (suc k) (a ∷ b ∷ c ∷ d ∷ rest) h g =
    let n = a + 256 * b in
    let shorter = length-drop n rest in
    ap (λ (f : Framed). cond (leb n (length rest)) (push (record { kind = c + 256 * d; body = take n rest }) f) (stop true))
    (same_fuel j k (drop n rest) (omega arith) (omega arith))

-- the first record, and the rest
pub frame_cons : (a b c d : ℕ) (rest : List ℕ)
    → frame (a ∷ b ∷ c ∷ d ∷ rest)
    ≡ cond (leb (a + 256 * b) (length rest))
    (push (record { kind = c + 256 * d; body = take (a + 256 * b) rest }) (frame (drop (a + 256 * b) rest)))
    (stop true)
unfolding frame frame_up_to
frame_cons a b c d rest =
    let n = a + 256 * b in
    let shorter = length-drop n rest in
    ap (λ (f : Framed). cond (leb n (length rest)) (push (record { kind = c + 256 * d; body = take n rest }) f) (stop true))
    (same_fuel (suc (suc (suc (length rest)))) (length (drop n rest)) (drop n rest) (omega arith) (le_refl _))

pub frame-none : (b : List ℕ) → length b ≡ 0 → frame b ≡ stop false
unfolding frame frame_up_to
frame-none [] e = refl
frame-none (x ∷ b) e = absurd (omega arith)

pub frame_short : (b : List ℕ) → 0 < length b → length b < 4 → frame b ≡ stop true
unfolding frame frame_up_to
frame_short [] h g = absurd (omega arith)
frame_short (x ∷ []) h g = refl
frame_short (x ∷ y ∷ []) h g = refl
frame_short (x ∷ y ∷ z ∷ []) h g = refl
frame_short (x ∷ y ∷ z ∷ w ∷ b) h g = absurd (omega arith)

-- the first record of four bytes or more, and the rest
pub frame_first : (b : List ℕ) → 4 ≤ length b
    → frame b
    ≡ cond (leb (u16 b 0) (length (drop 4 b)))
    (push (record { kind = u16 b 2; body = take (u16 b 0) (drop 4 b) }) (frame (drop (u16 b 0) (drop 4 b))))
    (stop true)
unfolding u16
frame_first [] h = absurd (omega arith)
frame_first (x ∷ []) h = absurd (omega arith)
frame_first (x ∷ y ∷ []) h = absurd (omega arith)
frame_first (x ∷ y ∷ z ∷ []) h = absurd (omega arith)
frame_first (x ∷ y ∷ z ∷ w ∷ b) h = frame_cons x y z w b

-- the bytes of a record are framed as it, and then the rest
pub frame_put : (kind : ℕ) (body rest : List ℕ) → kind < 65536 → length body < 65536
    → frame (put_record kind body ++ rest) ≡ push (record { kind = kind; body = body }) (frame rest)
unfolding put16 put_record
frame_put kind body rest h l =
    let fits : leb (length body) (length (body ++ rest)) ≡ true
    = le-leb (length body) (length (body ++ rest)) (omega (arith, length-append body rest)) in
    rw (frame_cons, two_bytes (length body) l, two_bytes kind h, fits, take-append_seam body rest, drop-append_seam body rest)

short_broken : (b : List ℕ) → 0 < length b → length b < 4 → (frame b).broken ≡ false → ⊥
unfolding stop
short_broken b h g e = true≢false (sym (ap (λ f. f.broken) (frame_short b h g)) ∙ e)

-- By records: what holds of no bytes, and of a record's bytes where it holds of those that follow, holds of all bytes that are whole records.
module _ (P : List ℕ → Type 0) (none : P [])
    (more : (a b c d : ℕ) (rest : List ℕ) → a + 256 * b ≤ length rest → P (drop (a + 256 * b) rest) → P (a ∷ b ∷ c ∷ d ∷ rest)) where
  up_to : (k : ℕ) (bs : List ℕ) → length bs ≤ k → (frame bs).broken ≡ false → P bs
  unfolding stop push
  up_to zero [] h e = none
  up_to zero (a ∷ bs) h e = absurd (omega arith)
  up_to (suc k) [] h e = none
  up_to (suc k) (a ∷ []) h e = absurd (short_broken (a ∷ []) (omega arith) (omega arith) e)
  up_to (suc k) (a ∷ b ∷ []) h e = absurd (short_broken (a ∷ b ∷ []) (omega arith) (omega arith) e)
  up_to (suc k) (a ∷ b ∷ c ∷ []) h e = absurd (short_broken (a ∷ b ∷ c ∷ []) (omega arith) (omega arith) e)
  up_to (suc k) (a ∷ b ∷ c ∷ d ∷ rest) h e =
      let shorter = length-drop n rest in
      go (leb n (length rest)) refl (rw frame_cons at e) (up_to k (drop n rest) (omega arith))
    where
      n : ℕ
      n = a + 256 * b

      go : (t : Bool) → leb n (length rest) ≡ t
          → (cond t (push (record { kind = c + 256 * d; body = take n rest }) (frame (drop n rest))) (stop true)).broken ≡ false
          → ((frame (drop n rest)).broken ≡ false → P (drop n rest)) → P (a ∷ b ∷ c ∷ d ∷ rest)
      go true u e later = more a b c d rest (leb-true n (length rest) u) (later e)
      go false u e later = absurd (true≢false e)

  pub by_records : (bs : List ℕ) → (frame bs).broken ≡ false → P bs
  by_records bs = up_to (length bs) bs (le_refl _)

-- a record that fits is the first, and the rest follows
pub frame_more : (a b c d : ℕ) (rest : List ℕ) → a + 256 * b ≤ length rest
    → frame (a ∷ b ∷ c ∷ d ∷ rest) ≡ push (record { kind = c + 256 * d; body = take (a + 256 * b) rest }) (frame (drop (a + 256 * b) rest))
frame_more a b c d rest h = rw (frame_cons, le-leb (a + 256 * b) (length rest) h) refl

-- What follows whole records is framed by itself.
pub frame_whole : (w bs : List ℕ) → (frame w).broken ≡ false
    → frame (w ++ bs) ≡ record { records = (frame w).records ++ (frame bs).records; broken = (frame bs).broken }
unfolding stop push
frame_whole w bs = by_records Splits (rw (frame-none [] refl) refl) more w
  where
    Splits : List ℕ → Type 0
    Splits w = frame (w ++ bs) ≡ record { records = (frame w).records ++ (frame bs).records; broken = (frame bs).broken }

    more : (a b c d : ℕ) (rest : List ℕ) → a + 256 * b ≤ length rest → Splits (drop (a + 256 * b) rest) → Splits (a ∷ b ∷ c ∷ d ∷ rest)
    more a b c d rest h later =
        let n = a + 256 * b in
        let still : n ≤ length (rest ++ bs) = omega (arith, length-append rest bs) in
        rw (frame_more a b c d (rest ++ bs) still, frame_more a b c d rest h, take-append-le n rest bs h, drop-append-le n rest bs h, later) refl
