-- The lines that are printed, each within its room, and bytes put after others. Assumes nothing.
use mathlib.Core.Path.{◌≡◌, sym, ap, ◌∙◌}
use mathlib.Core.List.{List, [], ◌∷◌, ◌++◌, append_assoc, append-nil}
use Prim.Native.Nat.{ℕ, ◌+◌, ◌*◌, ◌^◌, ◌≤◌, ◌<◌}
use native.Mathlib.Omega.{arith}
use lib.ListN.{length, length-append}
use borrow.Author.Tests.{eq-eqb, ne_eqb}
use Rattle.tally.specs.declared.Tally.{Tally}
use Rattle.jobs.specs.declared.Day.{Day}
use Rattle.jobs.specs.declared.Status.{Status}
use Rattle.jobs.specs.declared.Status.TheVariants.{TooLong, ShortTally, Reported}
use Rattle.jobs.specs.Report.{numbers}
use Rattle.text.specs.Text.{line, too_long}
use Rattle.text.proofs.Lines.{Below, line-length, wide_line_length}
use Rattle.report.specs.Printed.{count_line, count_lines, figures_line, goal_line, day_text, PutWithin, count_room, wide_room, day_room}

-- Bytes that are put take no more room than holds them.
pub put_within : {room : ℕ} {new : List ℕ} (old : List ℕ) {text : List ℕ} → length new ≤ room → text ≡ old ++ new → PutWithin room new old text
put_within {new = new} old short put = record { put = put; short = omega (arith, ap length put, length-append old new) }

-- No bytes leave a text as it is.
pub nothing : {room : ℕ} (text : List ℕ) → PutWithin room [] text text
nothing text = record { put = sym (append-nil text); short = omega arith }

-- Bytes put directly after others are put with them, within the room of both.
pub within_then : {m n : ℕ} {a b old mid text : List ℕ} → PutWithin m a old mid → PutWithin n b mid text → PutWithin (m + n) (a ++ b) old text
within_then {a = a} {b} {old} p q =
    record { put = q.put ∙ ap (λ (t : List ℕ). t ++ b) p.put ∙ append_assoc old a b; short = omega (arith, p.short, q.short) }

-- A number that did not occur has no line; one that did has a line of two numbers.
pub no_count : (number count : ℕ) {text : List ℕ} → count ≡ 0 → PutWithin count_room (count_line number count) text text
unfolding count_line
no_count number count {text} none = rw (eq-eqb count 0 none) (nothing text)

pub a_count : (number count : ℕ) (old : List ℕ) {text : List ℕ} → (count ≡ 0 → ⊥) → number < 2 ^ 32 → count < 2 ^ 32
    → text ≡ old ++ line (number ∷ count ∷ []) → PutWithin count_room (count_line number count) old text
unfolding count_line
a_count number count old some n c put = rw (ne_eqb count 0 some) (put_within old (line-length (number ∷ count ∷ []) (n, (c, tt))) put)

-- The line of the figures is one of three numbers of 64 bits.
pub figures : (d : Day) (old : List ℕ) {text : List ℕ} → Below (2 ^ 64) (d.cost ∷ d.largest ∷ d.expansions ∷ [])
    → text ≡ old ++ line (d.cost ∷ d.largest ∷ d.expansions ∷ []) → PutWithin wide_room (figures_line d) old text
unfolding figures_line
figures d old small put = put_within old (wide_line_length (d.cost ∷ d.largest ∷ d.expansions ∷ []) small) put

-- A goal that was not reached has no line; one that was has a line of three numbers of 64 bits.
pub no_goal : (t : Tally) {text : List ℕ} → t.routes ≡ 0 → PutWithin wide_room (goal_line t) text text
unfolding goal_line
no_goal t {text} none = rw (eq-eqb t.routes 0 none) (nothing text)

pub a_goal : (t : Tally) (old : List ℕ) {text : List ℕ} → (t.routes ≡ 0 → ⊥) → Below (2 ^ 64) (t.goal ∷ t.routes ∷ t.cost ∷ [])
    → text ≡ old ++ line (t.goal ∷ t.routes ∷ t.cost ∷ []) → PutWithin wide_room (goal_line t) old text
unfolding goal_line
a_goal t old some small put =
    rw (ne_eqb t.routes 0 some) (put_within old (wide_line_length (t.goal ∷ t.routes ∷ t.cost ∷ []) small) put)

-- What stands before the goals, by how the report ended.
module _ (s : Status) (d : Day) (old : List ℕ) {text : List ℕ} where
  pub too_long_lem : s ≡ TooLong → text ≡ old ++ too_long → PutWithin day_room (day_text s d) old text
  unfolding day_text
  too_long_lem is put = rw is (put_within old (omega arith) put)

  pub short_tally : s ≡ ShortTally → text ≡ old ++ line (15 ∷ []) → PutWithin day_room (day_text s d) old text
  unfolding day_text
  short_tally is put = rw is (put_within old (omega (arith, line-length (15 ∷ []) (omega arith, tt))) put)

  pub reported : {mid : List ℕ} → s ≡ Reported → length d.counts ≡ numbers
      → PutWithin (count_room * length d.counts) (count_lines 0 d.counts) old mid
      → PutWithin wide_room (figures_line d) mid text → PutWithin day_room (day_text s d) old text
  unfolding day_text
  reported is all counts figured =
      let both = within_then counts figured in rw is (record { put = both.put; short = omega (arith, both.short) })
