-- Document 01, "Records": a run of records, each a 2-byte length (body bytes only), a 2-byte kind, then the body.
use Rattle.std.specs.Prelude.{Bool, true, false, cond, List, [], ◌∷◌, ◌++◌, ℕ, zero, suc, ◌+◌, ◌*◌, leb, length, take, drop}
use Rattle.model.specs.Bytes.{put16}

pub record Record : Type 0 where
  pub kind : ℕ
  pub body : List ℕ

-- the whole records from the front on, and whether bytes are left that are no whole record
pub record Framed : Type 0 where
  pub records : List Record
  pub broken : Bool

unfoldable pub stop : Bool → Framed
stop b = record { records = []; broken = b }

unfoldable pub push : Record → Framed → Framed
push r f = record { records = r ∷ f.records; broken = f.broken }

-- The first number bounds the records: the number of bytes is enough.
unfoldable pub frame_up_to : ℕ → List ℕ → Framed
unfolding stop push
frame_up_to zero bs = stop false
frame_up_to (suc k) [] = stop false
frame_up_to (suc k) (a ∷ []) = stop true
frame_up_to (suc k) (a ∷ b ∷ []) = stop true
frame_up_to (suc k) (a ∷ b ∷ c ∷ []) = stop true
frame_up_to (suc k) (a ∷ b ∷ c ∷ d ∷ rest) =
    let n = a + 256 * b in
    let r : Record = record { kind = c + 256 * d; body = take n rest } in
    cond (leb n (length rest)) (push r (frame_up_to k (drop n rest))) (stop true)

unfoldable pub frame : List ℕ → Framed
frame bs = frame_up_to (length bs) bs

-- the bytes of a record
unfoldable pub put_record : ℕ → List ℕ → List ℕ
put_record kind body = put16 (length body) ++ put16 kind ++ body
