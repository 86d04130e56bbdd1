-- Records written one after another are framed as those records, and one record alone is read back as its bytes. Assumes nothing.
use mathlib.Core.Path.{◌≡◌, refl, sym, ap, ◌∙◌}
use mathlib.Core.Bool.{Bool, true, false, cond}
use mathlib.Core.List.Memᴰ
use mathlib.Core.List.{List, [], ◌∷◌, ◌++◌, append-nil, Memᴰ}
use Prim.Native.Nat.{ℕ, zero, suc, ◌+◌, ◌*◌, ◌≤◌, ◌<◌}
use native.Mathlib.Omega.{arith}
use lib.ListN.{length, take, drop, length-take, take-append-drop}
use lib.Seq.{length-take-le}
use lib.Dec.{leb}
use Rattle.model.specs.Bytes.{Bytes, put16}
use Rattle.model.specs.Framing.{Record, Framed, stop, push, frame, frame_up_to, put_record}
use Rattle.model.proofs.Bytes.{take_bytes, drop_bytes, no_bytes, append_bytes, put16_bytes, put16_is_bytes}
use Rattle.model.proofs.Framing.{frame-none, frame_put, by_records, frame_more}

-- ---- Records, one after another

unfoldable pub put_records : List Record → List ℕ
put_records [] = []
put_records (r ∷ rs) = put_record r.kind r.body ++ put_records rs

-- a kind and a length that two bytes hold, and a body of bytes
pub record Fits (r : Record) : Type 0 where
  pub kind_below : r.kind < 65536
  pub length_below : length r.body < 65536
  pub bytes : Bytes r.body

abbrev pub AllFit : List Record → Type 0
AllFit rs = (r : Record) → Memᴰ r rs → Fits r

pub put_records_is_bytes : (rs : List Record) → AllFit rs → Bytes (put_records rs)
unfolding put_records put_record
put_records_is_bytes [] fit = no_bytes
put_records_is_bytes (r ∷ rs) fit =
    let n : List ℕ = put16 (length r.body) in
    let k : List ℕ = put16 r.kind in
    let front : Bytes (n ++ k) = append_bytes n k (put16_is_bytes _) (put16_is_bytes _) in
    let one : Bytes (n ++ k ++ r.body) = append_bytes (n ++ k) r.body front (fit r (Memᴰ.head refl)).bytes in
    append_bytes (n ++ k ++ r.body) (put_records rs) one (put_records_is_bytes rs (λ s i. fit s (Memᴰ.tail i)))

pub frame_records : (rs : List Record) → AllFit rs → frame (put_records rs) ≡ record { records = rs; broken = false }
unfolding put_records stop push
frame_records [] fit = frame-none [] refl
frame_records (r ∷ rs) fit =
    let f = fit r (Memᴰ.head refl) in
    let rest = frame_records rs (λ s i. fit s (Memᴰ.tail i)) in
    frame_put r.kind r.body (put_records rs) f.kind_below f.length_below ∙ ap (push r) rest

-- ---- The bytes of records

-- the records in bytes fit
pub records_fit : (k : ℕ) (bs : List ℕ) → Bytes bs → AllFit (frame_up_to k bs).records
unfolding frame_up_to
records_fit zero bs B r i = absurd (Memᴰ.not-nil i)
records_fit (suc k) [] B r i = absurd (Memᴰ.not-nil i)
records_fit (suc k) (a ∷ []) B r i = absurd (Memᴰ.not-nil i)
records_fit (suc k) (a ∷ b ∷ []) B r i = absurd (Memᴰ.not-nil i)
records_fit (suc k) (a ∷ b ∷ c ∷ []) B r i = absurd (Memᴰ.not-nil i)
records_fit (suc k) (a ∷ b ∷ c ∷ d ∷ rest) B r i =
    let bytes : Bytes rest = drop_bytes 4 (a ∷ b ∷ c ∷ d ∷ rest) B in
    let shorter = length-take n rest in
    let fits : Fits first
    = record { kind_below = omega (arith, B 2, B 3); length_below = omega (arith, B 0, B 1); bytes = take_bytes n rest bytes } in
    go fits (records_fit k (drop n rest) (drop_bytes n rest bytes) r) (leb n (length rest)) i
  where
    n : ℕ
    n = a + 256 * b

    first : Record
    first = record { kind = c + 256 * d; body = take n rest }

    go : Fits first → (Memᴰ r (frame_up_to k (drop n rest)).records → Fits r) → (t : Bool)
        → Memᴰ r (cond t (push first (frame_up_to k (drop n rest))) (stop true)).records → Fits r
    go fits later true (Memᴰ.head e) = rw e fits
    go fits later true (Memᴰ.tail i) = later i
    go fits later false i = absurd (Memᴰ.not-nil i)

-- four bytes and a body of as many bytes as the first two say are a record
put_record_parts : (a b c d : ℕ) (body : List ℕ) → Bytes (a ∷ b ∷ c ∷ d ∷ body) → length body ≡ a + 256 * b
    → a ∷ b ∷ c ∷ d ∷ body ≡ put_record (c + 256 * d) body
unfolding put_record
put_record_parts a b c d body h l = rw (l, put16_bytes a b (h 0) (h 1), put16_bytes c d (h 2) (h 3))

-- Bytes that are whole records are the bytes of these.
pub put_records-frame : (bs : List ℕ) → Bytes bs → (frame bs).broken ≡ false → put_records (frame bs).records ≡ bs
unfolding stop push put_records
put_records-frame bs B e = by_records ReadBack (λ B. rw (frame-none [] refl) refl) more bs e B
  where
    ReadBack : List ℕ → Type 0
    ReadBack bs = Bytes bs → put_records (frame bs).records ≡ bs

    more : (a b c d : ℕ) (rest : List ℕ) → a + 256 * b ≤ length rest → ReadBack (drop (a + 256 * b) rest) → ReadBack (a ∷ b ∷ c ∷ d ∷ rest)
    more a b c d rest h later B =
        let n = a + 256 * b in
        let bytes : Bytes rest = drop_bytes 4 (a ∷ b ∷ c ∷ d ∷ rest) B in
        let own = take_bytes (suc (suc (suc (suc n)))) (a ∷ b ∷ c ∷ d ∷ rest) B in
        let parts = put_record_parts a b c d (take n rest) own (length-take-le n rest h) in
        rw (frame_more a b c d rest h, later (drop_bytes n rest bytes), ← parts)
        (ap (λ (l : List ℕ). a ∷ b ∷ c ∷ d ∷ l) (take-append-drop n rest))

-- ---- One record alone

-- one whole record and nothing more
abbrev pub alone : Record → Framed
alone r = record { records = r ∷ []; broken = false }

-- a record's bytes are framed as that one record; and bytes that are framed as one whole record are its bytes
pub frame-put_record : (kind : ℕ) (body : List ℕ) → kind < 65536 → length body < 65536
    → frame (put_record kind body) ≡ alone (record { kind = kind; body = body })
unfolding stop push
frame-put_record kind body k l =
    ap frame (sym (append-nil (put_record kind body))) ∙ frame_put kind body [] k l ∙ ap (push _) (frame-none [] refl)

pub put_record-frame : (b : List ℕ) (r : Record) → Bytes b → frame b ≡ alone r → b ≡ put_record r.kind r.body
unfolding put_records
put_record-frame b r h e =
    sym (put_records-frame b h (ap (λ (f : Framed). f.broken) e))
    ∙ ap (λ (f : Framed). put_records f.records) e ∙ append-nil (put_record r.kind r.body)
