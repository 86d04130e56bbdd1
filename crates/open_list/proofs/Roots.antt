-- The root of a tournament tree has the least key of all, and the lowest place that has it.
-- Assumes nothing.
use mathlib.Core.Path.{◌≡◌, ap, ◌∙◌}
use mathlib.Core.List.{List}
use Prim.Native.Nat.{ℕ, ◌+◌, ◌-◌, ◌*◌, ◌<◌, ◌≤◌, min}
use native.Mathlib.Decide.{dec_lt}
use native.Mathlib.Omega.{arith}
use lib.ListN.{length, get_or}
use Rattle.model.specs.Limits.{max_places}
use Rattle.open_list.specs.Entry.{place_of, key_of, no_key, no_entry}
use Rattle.open_list.specs.Keys.{LeastKey}
use Rattle.open_list.specs.Tree.{Shape, AllRight, tree_keys, node_entry, leaf_entry, entry_at}
use Rattle.open_list.proofs.Eightfold as tree
use Rattle.open_list.proofs.Stores.{at_node, at_leaf, keys_at, keys_length}

module _ (n m x : ℕ) (t : List ℕ) (s : Shape n m t) (r : AllRight m (entry_at m t)) (e : x ≡ node_entry t 0) (b : x < 18446744073709551616) where
  -- the root's entry is that of a leaf
  record Found : Type 0 where
    p : ℕ
    inside : p < 7 * m + 1
    is : min x no_entry ≡ min (leaf_entry m t p) no_entry

  found : Found
  found =
      let o : m ≡ 8 * s.nodes.rows + 1 = s.nodes.form in
      let c = tree.root_leaf m (entry_at m t) r (omega arith) in
      let at : c.j ≡ m + (c.j - m) = omega (arith, c.low) in
      let g : entry_at m t c.j ≡ min (leaf_entry m t (c.j - m)) no_entry = ap (entry_at m t) at ∙ at_leaf m t (c.j - m) in
      record { p = c.j - m; inside = omega (arith, c.high, c.low); is = omega (arith, at_node m t 0 (omega arith), c.is) }

  -- where it has a key, the leaf is that of a place
  leaf_placed : key_of x < no_key → Dec (found.p < n) → found.p < n
  unfolding leaf_entry
  leaf_placed h (yes q) = q
  leaf_placed h (no q) = absurd (omega (arith, found.is, s.beyond found.p (omega arith) found.inside))

  at_most : (q : ℕ) → q < n → min x no_entry ≤ min (leaf_entry m t q) no_entry
  at_most q h =
      let o : m ≡ 8 * s.nodes.rows + 1 = s.nodes.form in
      let l : q < 7 * m + 1 = omega (arith, s.nodes.keys) in
      omega (arith, at_node m t 0 (omega arith), tree.root_least m (entry_at m t) r (m + q) (omega arith), at_leaf m t q)

  pub root : LeastKey (tree_keys n t) (place_of x) (key_of x)
  unfolding leaf_entry
  root =
      let len : length (tree_keys n t) ≡ n = keys_length n m t s in
      let fits : n ≤ max_places = s.room.few in
      let key : (q : ℕ) → q < n → get_or (tree_keys n t) q 0 ≡ get_or t (m + m + q) 0 = λ q h. keys_at n m q t s.nodes.same h in
      let placed : key_of x < no_key → found.p < n = λ h. leaf_placed h (dec_lt found.p n) in
      let place : key_of x < no_key → place_of x ≡ found.p = λ h. omega (arith, placed h, found.is) in
      record {
        least = λ q h. omega (arith, at_most q (omega arith), key q (omega arith));
        place = λ h. omega (arith, place h, placed h);
        key = λ h. rw (place h) (omega (arith, found.is, placed h, key found.p (placed h)));
        before = λ q h l. omega (arith, place h, placed h, at_most q (omega (arith, place h, placed h)), key q (omega (arith, place h, placed h)));
      }
