-- Tables of factors: two of them compared factor after factor, and a table put as a record where it is not the fixed one. Assumes nothing.
use mathlib.Core.Path.{◌≡◌, refl, sym, ap, ◌∙◌}
use mathlib.Core.Bool.{Bool, true, false, ◌&&◌}
use mathlib.Core.List.{List, [], ◌∷◌, ◌++◌}
use Prim.Native.Nat.{ℕ, ◌+◌, ◌-◌, ◌*◌, ◌≤◌}
use native.Mathlib.Omega.{arith}
use lib.Dec.{eqb}
use lib.ListN.{length, take, drop, length-take, length-drop}
use lib.Seq.{sets}
use lib.Pointwise.{pointwise}
use Rattle.model.specs.Lists.{same_numbers}
use Rattle.model.specs.Bytes.{Bytes, u16s, put16, put16s}
use Rattle.model.specs.Framing.{put_record}
use Rattle.model.specs.Items.{factors_kind, factors_bytes}
use Rattle.model.specs.Stated.{fixed_factors}
use Rattle.model.specs.Jobs.{put_factors, put_table}
use Rattle.model.proofs.Bytes.{put16s-length, u16s-length, put16s_u16s}
use Rattle.std.specs.Prelude.{Some, None}
use Rattle.map.specs.Items.{table_at}
use Rattle.map.proofs.Factors.{own_table, fixed_table}
use Rattle.map_records.specs.Puts.{Put}
use Rattle.map_records.proofs.PutRecords.{put_none, put_next, put_is}

-- ---- Compared

-- the two spellings of comparing number by number
pointwise-same : (xs ys : List ℕ) → pointwise eqb xs ys ≡ same_numbers xs ys
unfolding same_numbers
pointwise-same [] [] = refl
pointwise-same [] (y ∷ ys) = refl
pointwise-same (x ∷ xs) [] = refl
pointwise-same (x ∷ xs) (y ∷ ys) = ap (λ (t : Bool). eqb x y && t) (pointwise-same xs ys)

-- two tables are compared
pub tables_compared : {same : Bool} {xs ys fs gs : List ℕ} → same ≡ pointwise eqb xs ys → xs ≡ fs → ys ≡ gs → same_numbers fs gs ≡ same
tables_compared is first second = rw (is, first, second) (sym (pointwise-same _ _))

-- ---- Put

-- the fixed one is left out
pub fixed_left_out : (fs : List ℕ) → same_numbers fs fixed_factors ≡ true → (at : ℕ) (old : List ℕ) → Put (put_table fs) at old old at
unfolding put_table
fixed_left_out fs same at old = rw same (put_none at old)

-- and so it is where there is no other
pub none_left_out : (input : List ℕ) (at : ℕ) (old : List ℕ) → Put (put_table (table_at input None)) at old old at
unfolding same_numbers
none_left_out input at old = fixed_left_out _ (rw (fixed_table input)) at old

-- Another one is the map's own: eight factors of the input, put as they stand there.
module _ (input : List ℕ) (from : ℕ) (lies : from + factors_bytes ≤ length input) (differs : same_numbers (table_at input (Some from)) fixed_factors ≡ false)
  where
    abbrev factor_bytes : List ℕ
    factor_bytes = take (from + factors_bytes - from) (drop from input)

    pub factor_bytes_length : length factor_bytes ≡ factors_bytes
    factor_bytes_length = simp (length-take, length-drop) (omega (arith, lies))

    pub table-length : length (put_table (table_at input (Some from))) ≡ 4 + factors_bytes
    unfolding put_table put_factors put_record put16
    table-length =
        rw differs
        (omega (arith, put16s-length (table_at input (Some from)), ap length (own_table input from), u16s-length 8 input from))

    table_text : Bytes input → put_table (table_at input (Some from)) ≡ (put16 factors_bytes ++ put16 factors_kind) ++ factor_bytes
    unfolding put_table put_factors put_record put16
    table_text B =
        let factors = u16s 8 input from in
        let size : length (put16s factors) ≡ factors_bytes = omega (arith, put16s-length factors, u16s-length 8 input from) in
        let count : 2 * 8 ≡ from + factors_bytes - from = omega arith in
        let bytes = put16s_u16s 8 input from B (omega (arith, lies)) ∙ ap (λ (k : ℕ). take k (drop from input)) count in
        rw (differs, own_table input from, size, bytes)

    pub table_fields : (at : ℕ) (old : List ℕ) {r : ℕ} {mid out : List ℕ} → Bytes input
        → Put (put16 factors_bytes ++ put16 factors_kind) at old mid r → out ≡ sets mid r factor_bytes
        → Put (put_table (table_at input (Some from))) at old out (r + factors_bytes)
    table_fields at old B header e = put_is (put_next factor_bytes header e refl (omega (arith, factor_bytes_length))) (table_text B)
