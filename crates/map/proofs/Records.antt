-- What the reader finds at a position is how the rest of the input is framed. Assumes nothing.
use mathlib.Core.Path.{◌≡◌, refl, ◌∙◌}
use mathlib.Core.Bool.{Bool, true, false, cond}
use mathlib.Core.List.{List}
use Prim.Native.Nat.{ℕ, ◌+◌, ◌-◌, ◌≤◌, ◌<◌}
use native.Mathlib.Omega.{arith}
use lib.Dec.{ltb, leb, eqb}
use lib.ListN.{length, take, drop, length-drop}
use lib.Seq.{drop-drop}
use borrow.Author.Tests.{eqb-true, eqb-false, ltb-true, ltb-false, le-leb, lt-leb}
use Rattle.map.specs.declared.record.Record.{Record}
use Rattle.std.specs.Prelude.{Some, None, Ok, Err}
use Rattle.map.specs.declared.refusal.Refusal.{Refusal}
use Rattle.map.specs.declared.refusal.Refusal.TheVariants.{Broken}
use Rattle.map.specs.Records.{Read, broken, read_at, record_in}
use Rattle.map.specs.Items.{LiesIn}
use Rattle.map.proofs.Parts.{u16-drop}
use Rattle.model.specs.Bytes.{u16}
use Rattle.model.specs.Framing.{stop, push, frame}
use Rattle.model.proofs.Framing.{frame-none, frame_short, frame_first}

-- by what test the reader finds what it finds
data Finds (s : List ℕ) (at : ℕ) : Read → Type 0 where
  nothing : length s - at ≡ 0 → Finds s at None
  short : 0 < length s - at → length s - at < 4 → Finds s at broken
  past : 4 ≤ length s - at → length s - at - 4 < u16 s at → Finds s at broken
  whole : 4 ≤ length s - at → u16 s at ≤ length s - at - 4
      → Finds s at (Some (Ok (record { kind = u16 s (at + 2); start = at + 4; end = at + 4 + u16 s at })))

finds : (s : List ℕ) (at : ℕ) → Finds s at (read_at s at)
unfolding read_at
finds s at = by_left (eqb left 0) refl
  where
    left : ℕ
    left = length s - at

    found : Read
    found = Some (Ok (record { kind = u16 s (at + 2); start = at + 4; end = at + 4 + u16 s at }))

    by_length : 4 ≤ left → (t : Bool) → ltb (left - 4) (u16 s at) ≡ t → Finds s at (cond t broken found)
    by_length h true e = past h (ltb-true _ _ e)
    by_length h false e = whole h (ltb-false _ _ e)

    by_four : 0 < left → (t : Bool) → ltb left 4 ≡ t → Finds s at (cond t broken (cond (ltb (left - 4) (u16 s at)) broken found))
    by_four h true e = short h (ltb-true _ _ e)
    by_four h false e = by_length (ltb-false _ _ e) (ltb (left - 4) (u16 s at)) refl

    by_left : (t : Bool) → eqb left 0 ≡ t
        → Finds s at (cond t None (cond (ltb left 4) broken (cond (ltb (left - 4) (u16 s at)) broken found)))
    by_left true e = nothing (eqb-true _ _ e)
    by_left false e = let some = eqb-false left 0 e in by_four (omega arith) (ltb left 4) refl

frame_at : (s : List ℕ) (at : ℕ) → 4 ≤ length s - at
    → frame (drop at s)
    ≡ cond (leb (u16 s at) (length s - (at + 4)))
    (push (record { kind = u16 s (at + 2); body = take (u16 s at) (drop (at + 4) s) }) (frame (drop (at + 4 + u16 s at) s)))
    (stop true)
frame_at s at h =
    let long : 4 ≤ length (drop at s) = rw length-drop h in
    let step = frame_first (drop at s) long in
    rw (
      u16-drop at s 0 at (omega arith),
      u16-drop at s 2 (at + 2) refl,
      drop-drop 4 at s,
      drop-drop (u16 s at) (at + 4) s,
      length-drop (at + 4) s,
    ) at step

other : {A : Type 0} → ◌≡◌ {A = ℕ} 0 1 → A
other e = absurd (omega arith)

module _ (s : List ℕ) (at : ℕ) (inside : at ≤ length s) where
  pub frame_end : read_at s at ≡ None → (at ≡ length s) × (frame (drop at s) ≡ stop false)
  frame_end e = go (read_at s at) (finds s at) e
    where
      go : (f : Read) → Finds s at f → f ≡ None → (at ≡ length s) × (frame (drop at s) ≡ stop false)
      go f (nothing h) e = (omega arith, frame-none (drop at s) (rw length-drop h))
      go f (short h g) e = other (cc)
      go f (past h g) e = other (cc)
      go f (whole h g) e = other (cc)

  -- a tail that is no whole record is refused as broken
  pub frame_broken : (r : Refusal) → read_at s at ≡ Some (Err r) → (r ≡ Broken) × (frame (drop at s) ≡ stop true)
  frame_broken r e = go (read_at s at) (finds s at) e
    where
      go : (f : Read) → Finds s at f → f ≡ Some (Err r) → (r ≡ Broken) × (frame (drop at s) ≡ stop true)
      go f (nothing h) e = other (cc)
      go f (short h g) e = (cc, frame_short (drop at s) (rw length-drop h) (rw length-drop g))
      go f (past h g) e = (cc, frame_at s at h ∙ simp (lt-leb (u16 s at) (length s - (at + 4)) (omega arith)))
      go f (whole h g) e = other (cc)

  pub broken_left : (r : Refusal) → read_at s at ≡ Some (Err r) → at < length s
  broken_left r e = go (read_at s at) (finds s at) e
    where
      go : (f : Read) → Finds s at f → f ≡ Some (Err r) → at < length s
      go f (nothing h) e = other (cc)
      go f (short h g) e = omega arith
      go f (past h g) e = omega arith
      go f (whole h g) e = other (cc)

  pub record IsWhole (r : Record) : Type 0 where
    pub begins : r.start ≡ at + 4
    pub lies : LiesIn s r
    pub framed : frame (drop at s) ≡ push (record_in s r) (frame (drop r.end s))

  whole_first : (n : ℕ) → n ≡ u16 s at → 4 ≤ length s - at → n ≤ length s - at - 4
      → IsWhole (record { kind = u16 s (at + 2); start = at + 4; end = at + 4 + n })
  whole_first n e h g =
      let body : at + 4 + n - (at + 4) ≡ n = omega arith in
      record {
        begins = refl;
        lies = record { forward = omega arith; ends = omega arith };
        framed = frame_at s at h ∙ simp (← e, body, le-leb n (length s - (at + 4)) (omega arith));
      }

  pub frame_whole : (r : Record) → read_at s at ≡ Some (Ok r) → IsWhole r
  frame_whole r e = go (read_at s at) (finds s at) e
    where
      go : (f : Read) → Finds s at f → f ≡ Some (Ok r) → IsWhole r
      go f (nothing h) e = other (cc)
      go f (short h g) e = other (cc)
      go f (past h g) e = other (cc)
      go f (whole h g) e =
          let is : record { kind = u16 s (at + 2); start = at + 4; end = at + 4 + u16 s at } ≡ r = cc in
          rw is at (whole_first (u16 s at) refl h g)

  -- after a whole record less is left
  pub less_left : (r : Record) → read_at s at ≡ Some (Ok r) → length s - r.end < length s - at
  less_left r e =
      let is = frame_whole r e in
      omega (arith, is.begins, is.lies.forward, is.lies.ends)
