-- Bytes put into a text: none, one, some, and some after others, and what then stands at its front. Assumes nothing.
use mathlib.Core.Path.{◌≡◌, refl, sym, ap, ◌∙◌}
use mathlib.Core.List.{List, [], ◌∷◌, ◌++◌, append_assoc}
use Prim.Native.Nat.{ℕ, ◌+◌, ◌-◌, ◌≤◌, ◌<◌}
use native.Mathlib.Numerals.{add-one}
use native.Mathlib.Omega.{arith}
use lib.ListN.{length, take, drop, set, length-append, take-append-drop}
use lib.Seq.{length-take-le, take_at, drop_at, drop-drop, set_split}
use borrow.Rule.Slice.PartMut.{put_mid}
use Rattle.text.specs.Text.{Put}

pub put_none : (at : ℕ) (text : List ℕ) → Put [] at text text at
put_none at text =
    let z : at + 0 ≡ at = omega arith in
    record { end = omega arith; bytes = rw z (sym (take-append-drop at text)) }

-- a part that is copied over
pub put_part : {xs : List ℕ} (bytes : List ℕ) (at end : ℕ) (text : List ℕ) → end ≡ at + length bytes → xs ≡ bytes
    → Put bytes at text (put_mid at (end - at) text xs) end
put_part bytes at end text e same =
    let n : end - at ≡ length bytes = omega arith in
    record { end = e; bytes = rw (same, n, drop-drop (length bytes) at text) }

pub put_one : (at byte : ℕ) (text : List ℕ) → at < length text → Put (byte ∷ []) at text (set text at byte) (at + 1)
put_one at byte text within = record { end = refl; bytes = rw (add-one, set_split text at byte within) }

-- bytes put directly after others are put with them
pub put_then : {a b : List ℕ} {at : ℕ} {old mid text : List ℕ} {r s : ℕ} → at ≤ length old
    → Put a at old mid r → Put b r mid text s → Put (a ++ b) at old text s
put_then {a} {b} {at} {old} {mid} {text} {r} {s} room p q =
    let front : length (take at old ++ a) ≡ r = rw (length-append, length-take-le at old room) (omega arith) in
    let rest = drop (at + length a) old in
    let split : mid ≡ (take at old ++ a) ++ rest = p.bytes ∙ sym (append_assoc (take at old) a rest) in
    let before : take r mid ≡ take at old ++ a = ap (take r) split ∙ take_at (take at old ++ a) rest r front in
    let passed : drop r mid ≡ rest = ap (drop r) split ∙ drop_at (take at old ++ a) rest r front in
    let past : drop (r + length b) mid ≡ drop (at + length a + length b) old
    = sym (drop-drop (length b) r mid) ∙ ap (drop (length b)) passed ∙ drop-drop (length b) (at + length a) old in
    let whole : at + length (a ++ b) ≡ at + length a + length b = rw length-append (omega arith) in
    record { end = omega arith; bytes = q.bytes ∙ rw (before, past, whole) (simp append_assoc) }

-- bytes put at the front are within the text, and are what stands there
pub front_within : {new old text : List ℕ} {r : ℕ} → Put new 0 old text r → r ≤ length text
front_within p = omega (arith, simp length-append at (ap length p.bytes))

pub put_front : {new old text : List ℕ} {r : ℕ} → Put new 0 old text r → take r text ≡ new
put_front {new} {old} {text} {r} p = ap (take r) p.bytes ∙ take_at new (drop (0 + length new) old) r (omega arith)
