-- Reading record by record: what a read leaves of the records, and what those say that fit. Assumes nothing.
use mathlib.Core.Path.{◌≡◌, sym, ap, ◌∙◌}
use mathlib.Core.Logic.{◌⊎◌, inl, inr}
use mathlib.Core.List.{List, [], ◌∷◌}
use mathlib.Core.Bool.{false}
use Prim.Native.Nat.{ℕ, ◌≤◌, ◌<◌}
use native.Mathlib.Omega.{arith}
use lib.ListN.{length, drop}
use Rattle.map.specs.declared.record.Record.{Record}
use Rattle.map.specs.declared.refusal.Refusal.{Refusal}
use Rattle.std.specs.Prelude.{Some, None, Ok, Err}
use Rattle.map.specs.declared.record.Item.{Item}
use Rattle.model.specs.Framing.{stop, push, frame}
use Rattle.model.specs.Items.{item_of, misfits, items}
use Rattle.model.specs.Lists.{any}
use Rattle.model.specs.Refusals.{wrong_length}
use Rattle.model.proofs.Lists.{neither}
use Rattle.map.specs.Records.{Read, read_at, record_in}
use Rattle.map.specs.Items.{meant, LiesIn, Says}
use Rattle.map.proofs.Records.{frame_end, frame_broken, frame_whole}

-- the record r at byte `at` is the first of those left, and the others begin where it ends
pub record Next (s : List ℕ) (at : ℕ) (r : Record) : Type 0 where
  pub later : at < r.end
  pub lies : LiesIn s r
  pub first : (frame (drop at s)).records ≡ record_in s r ∷ (frame (drop r.end s)).records

module _ (s : List ℕ) (at : ℕ) (inside : at ≤ length s) where
  -- a whole record that is read is the first of those left
  pub next_record : (x : Read) (r : Record) → x ≡ read_at s at → x ≡ Some (Ok r) → Next s at r
  unfolding push
  next_record x r read is =
      let whole = frame_whole s at inside r (sym read ∙ is) in
      record {
        later = omega (arith, whole.begins, whole.lies.forward);
        lies = whole.lies;
        first = ap (λ f. f.records) whole.framed;
      }

  -- where no whole record is read, none is left
  pub none_left : (x : Read) → x ≡ read_at s at → (x ≡ None) ⊎ ((e : Refusal) × (x ≡ Some (Err e))) → (frame (drop at s)).records ≡ []
  unfolding stop
  none_left x read (inl is) = ap (λ f. f.records) (frame_end s at inside (sym read ∙ is)).1
  none_left x read (inr (e, is)) = ap (λ f. f.records) (frame_broken s at inside e (sym read ∙ is)).1

-- a record that fits says what is read of it
pub said : (s : List ℕ) (r : Record) (i : Item) → Says s r i → misfits (record_in s r) ≡ false → item_of (record_in s r) ≡ meant s i
said s r i says fits = says.item (sym says.misfit ∙ fits)

-- where all records left fit, the first of them and all after it do, and what they say begins with what is read of the first
module _ (s : List ℕ) (at : ℕ) (r : Record) (next : Next s at r) (fit : wrong_length (frame (drop at s)).records ≡ false) where
  pub next_fits : (misfits (record_in s r) ≡ false) × (wrong_length (frame (drop r.end s)).records ≡ false)
  unfolding wrong_length any
  next_fits = neither _ _ (rw next.first at fit)

  pub next_item : (i : Item) → Says s r i → items (frame (drop at s)).records ≡ meant s i ∷ items (frame (drop r.end s)).records
  unfolding items
  next_item i says = rw (next.first, said s r i says next_fits.0)
