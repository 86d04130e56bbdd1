-- Tables of factors: the one in force, and refusal 22. Assumes nothing.
use mathlib.Core.Path.{◌≡◌, refl, ap, sym, ◌∙◌}
use mathlib.Core.Bool.{Bool, true, false, ◌||◌, or-false, or_assoc}
use mathlib.Core.List.{List, [], ◌∷◌, ◌++◌, head_d}
use Rattle.std.specs.Prelude.{Option}
use Prim.Native.Nat.{ℕ, suc, ◌+◌, ◌<◌}
use native.Mathlib.Omega.{arith}
use native.Mathlib.Numerals.{add-one}
use lib.Dec.{ltb}
use lib.ListN.{length, get_or, drop}
use lib.Seq.{drop-cons, drop-length}
use borrow.Author.Tests.{le-ltb, lt-ltb, ne_eqb}
use Rattle.model.specs.Bytes.{u16s}
use Rattle.model.specs.Items as model
use Rattle.model.specs.Limits.{max_factor}
use Rattle.model.specs.Lists.{any, filter_map, falls}
use Rattle.model.specs.Refusals.{breaks_rules, wrong_factors}
use Rattle.model.specs.Stated.{fixed_factors, stated_by}
use Rattle.model.proofs.Tests.{or_swap}
use Rattle.map.specs.declared.record as declared
use Rattle.map.specs.declared.record.Item.TheVariants.{Factors}
use Rattle.map.specs.Items.{InForce, start_by, end_by, LiesIn, Says}
use Rattle.map.proofs.Factors.{own_table}
use Rattle.judge.specs.Factors.{breaks_after, RulesWalked}
use Rattle.judge.specs.Survey.{first_table}

-- ---- The table in force

-- of these tables the first is in force; where there is none, the fixed one
abbrev pub FirstInForce : List ℕ → List (List ℕ) → Option ℕ → Type 0
FirstInForce input tables at = InForce input at (head_d tables fixed_factors)

-- one table more, which a record states
pub table_more : {input : List ℕ} (tables : List (List ℕ)) {noted : Option ℕ} {at : ℕ} {r : declared.Record.Record}
    → FirstInForce input tables noted → Says input r (Factors at) → LiesIn input r → 0 < r.start
    → FirstInForce input (tables ++ (u16s 8 input at ∷ [])) (first_table (length tables) noted at)
unfolding head_d start_by end_by
table_more {input} [] {noted} {at} now says lies behind =
    record { lie = λ n is. let same : at ≡ n = cc in omega (arith, says.ends, lies.ends); are = own_table input at }
table_more (fs ∷ tables) now says lies behind =
    rw (ne_eqb (length (fs ∷ tables)) 0 λ z. omega arith) (record { lie = now.lie; are = now.are })

-- ---- Refusal 22

abbrev outside : ℕ → Bool
outside f = ltb f 1 || ltb max_factor f

-- the factors after one are looked at with it
after_falls : (f : ℕ) (fs : List ℕ) → breaks_after f fs ≡ (any outside fs || falls (f ∷ fs))
unfolding breaks_after any falls
after_falls f [] = refl
after_falls f (g ∷ gs) =
    ap (λ (t : Bool). (outside g || ltb g f) || t) (after_falls g gs) ∙ or_swap (outside g) (ltb g f) (any outside gs) (falls (g ∷ gs))

-- no factor is below 0
all_after : (fs : List ℕ) → breaks_after 0 fs ≡ breaks_rules fs
unfolding breaks_after breaks_rules any falls
all_after [] = refl
all_after (f ∷ fs) =
    rw (le-ltb f 0 (omega arith), or-false (outside f), after_falls f fs) (sym (or_assoc (outside f) (any outside fs) (falls (f ∷ fs))))

pub rules_begin : (factors : List ℕ) → RulesWalked factors false 0 0
rules_begin factors = record { inside = omega arith; found = all_after factors }

-- what was found before comes first
found_before : (w a b c d : Bool) → (w || a || b || c || d) ≡ (w || (a || b || c || d))
found_before true a b c d = refl
found_before false a b c d = refl

-- one factor more is looked at
module _ {factors : List ℕ} (eight : length factors ≡ 8) {wrong : Bool} {before class : ℕ} (now : RulesWalked factors wrong before class) where
  pub rules_again : class < 8
      → let f = get_or factors class 0 in RulesWalked factors (wrong || ltb f 1 || ltb max_factor f || ltb f before) f (class + 1)
  unfolding breaks_after
  rules_again small =
      let f = get_or factors class 0 in
      let next = drop-cons factors class 0 (omega arith) in
      let rest = breaks_after f (drop (suc class) factors) in
      record {
        inside = omega arith;
        found = rw (add-one class) (found_before wrong (ltb f 1) (ltb max_factor f) (ltb f before) rest ∙ rw next at now.found);
      }

  pub rules_end : class ≡ 8 → wrong ≡ breaks_rules factors
  unfolding breaks_after
  rules_end all =
      let none : drop class factors ≡ [] = rw (all ∙ sym eight) (drop-length factors) in
      sym (or-false wrong) ∙ rw none at now.found

-- 22 is looked for in the table in force: of one table it is that one, and a second one is wrong by itself
pub wrong_in_force : (is : List model.Item)
    → (ltb 1 (length (filter_map model.factors_in is)) || breaks_rules (stated_by is).factors) ≡ wrong_factors is
unfolding wrong_factors stated_by breaks_rules any falls head_d
wrong_in_force is = go (filter_map model.factors_in is)
  where
    go : (tables : List (List ℕ))
        → (ltb 1 (length tables) || breaks_rules (head_d tables fixed_factors)) ≡ (ltb 1 (length tables) || any breaks_rules tables)
    go [] = refl
    go (fs ∷ []) = sym (or-false (breaks_rules fs))
    go (fs ∷ gs ∷ tables) = rw (lt-ltb 1 (suc (suc (length tables))) (omega arith))
