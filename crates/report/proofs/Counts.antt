-- The lines of counts, put one after another. Assumes nothing.
use mathlib.Core.Path.{◌≡◌}
use mathlib.Core.List.{List, [], ◌∷◌, ◌++◌, append_assoc, append-nil}
use Prim.Native.Nat.{ℕ, zero, suc, ◌+◌, ◌*◌, ◌<◌}
use native.Mathlib.Numerals.{add-one}
use native.Mathlib.Omega.{arith}
use lib.ListN.{length, take, get_or}
use Rattle.report.specs.Printed.{count_line, count_lines, PutWithin, count_room}
use Rattle.report.proofs.Lines.{nothing, within_then}

-- one count more is one line more
counts_more : (first : ℕ) (counts : List ℕ) (n : ℕ) → n < length counts
    → count_lines first (take (suc n) counts) ≡ count_lines first (take n counts) ++ count_line (first + n) (get_or counts n 0)
unfolding count_lines
counts_more first [] n l = absurd (omega arith)
counts_more first (c ∷ cs) zero l = let here : first + 0 ≡ first = omega arith in rw (here, append-nil)
counts_more first (c ∷ cs) (suc n) l =
    let next : suc first + n ≡ first + suc n = omega arith in
    rw (counts_more (suc first) cs n (omega arith), next, append_assoc)

pub no_counts : (text : List ℕ) → PutWithin (count_room * 0) (count_lines 0 []) text text
unfolding count_lines
no_counts text = nothing text

pub one_count_more : (counts : List ℕ) {old mid text : List ℕ} {n : ℕ} → n < length counts
    → PutWithin (count_room * n) (count_lines 0 (take n counts)) old mid → PutWithin count_room (count_line n (get_or counts n 0)) mid text
    → PutWithin (count_room * (n + 1)) (count_lines 0 (take (n + 1) counts)) old text
one_count_more counts {n = n} l lines line =
    let here : 0 + n ≡ n = omega arith in
    let both = within_then lines line in
    record { put = rw (add-one, counts_more 0 counts n l, here) both.put; short = omega (arith, both.short) }
