-- What the words of the area say of settled places. Assumes nothing.
use mathlib.Core.Path.{◌≡◌}
use mathlib.Core.Bool.{true, not}
use mathlib.Core.List.{List}
use Prim.Native.Nat.{ℕ, ◌<◌}
use lib.Dec.{eqb, ltb}
use lib.ListN.{get_or}
use borrow.Author.Tests.{lt-ltb, eq-eqb, ne_eqb, ltb-true, eqb-true, eqb-false, not-true}
use Rattle.open_list.specs.Entry.{no_key}
use Rattle.layout.specs.Regions.{label_word}
use Rattle.layout.specs.Labels.{no_word}
use Rattle.model.proofs.Lists.{both}
use Rattle.query.specs.Open.{keys, settled_at}

-- a settled place has a label and no key
pub record HasSettled (n hand : ℕ) (w : List ℕ) (v : ℕ) : Type 0 where
  pub place : v < n
  pub label : label_word w v ≡ no_word → ⊥
  pub key : get_or (keys n hand w) v 0 ≡ no_key

pub settled_is : (n hand : ℕ) (w : List ℕ) (v : ℕ) → settled_at n hand w v ≡ true → HasSettled n hand w v
unfolding settled_at
settled_is n hand w v e =
    let first = both (ltb v n) _ e in
    let rest = both (not (eqb (label_word w v) no_word)) _ first.1 in
    record {
      place = ltb-true v n first.0;
      label = eqb-false (label_word w v) no_word (not-true _ rest.0);
      key = eqb-true (get_or (keys n hand w) v 0) no_key rest.1;
    }

pub is_settled : (n hand : ℕ) (w : List ℕ) (v : ℕ) → HasSettled n hand w v → settled_at n hand w v ≡ true
unfolding settled_at
is_settled n hand w v h =
    rw (lt-ltb v n h.place, ne_eqb (label_word w v) no_word h.label, eq-eqb (get_or (keys n hand w) v 0) no_key h.key)
