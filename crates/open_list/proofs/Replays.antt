-- The loops of the tree's `lower` and `close`, which mend the nodes from a leaf up to the root: their invariants hold at the start and
-- after each turn, and at the end say that every node is right.
-- Assumes nothing.
use mathlib.Core.Path.{◌≡◌, refl, sym, ap, ◌∙◌}
use mathlib.Core.List.{List}
use Prim.Native.Nat.{ℕ, ◌+◌, ◌-◌, ◌*◌, ◌<◌, ◌≤◌, min}
use native.Mathlib.Omega.{arith}
use lib.ListN.{get_or, set, length-set}
use Rattle.open_list.specs.Entry.{IsEntry, no_entry}
use Rattle.open_list.specs.Size.{nodes_for}
use Rattle.open_list.specs.Tree.{Shape, TreePlace, TreeLowers, TreePut, LeafRun, AllRight}
use Rattle.open_list.specs.Tree.{tree_keys, node_entry, leaf_entry, stored, entry_at, least8, first_child, parent}
use Rattle.open_list.specs.Loops.{Lowering, Closing}
use Rattle.open_list.proofs.Eight.{cut8, fall8}
use Rattle.open_list.proofs.Eightfold as tree
use Rattle.open_list.proofs.Stores.{NodePut, node_put, at_node, at_leaf, keys_at, key_shape, key_here, key_other, key_keys}

-- the words once place p has got its key
abbrev keyed : ℕ → ℕ → ℕ → List ℕ → List ℕ
keyed m p key t = set t (m + m + p) key

-- every node is right, and the keys are those that the loop began with
done : (n m p key : ℕ) (t₀ t keys : List ℕ) → Shape n m t → AllRight m (entry_at m t) → tree_keys n t ≡ keys → keys ≡ tree_keys n (keyed m p key t₀)
    → p < n → TreePut n p key t₀ t
done n m p key t₀ t keys s r k e l =
    let q : m ≡ nodes_for n = s.nodes.same in
    record { tree = record { shape = rw q at s; right = rw q at r }; keys_set = k ∙ e ∙ key_keys n m p key t₀ q l }

-- ---- lower
pub lowering_start : (n m p key x : ℕ) (t : List ℕ) → m ≡ nodes_for n → TreeLowers n p key t → IsEntry p key x
    → Lowering n m (tree_keys n (keyed m p key t)) (keyed m p key t) x (parent (m + p))
unfolding leaf_entry
lowering_start n m p key x t q w e =
    let s : Shape n m t = rw q w.tree.shape in
    let right : AllRight m (entry_at m t) = rw q w.tree.right in
    let l : p < n = w.place_in in
    let b : p < 7 * m + 1 = omega (arith, s.nodes.keys) in
    let o : m ≡ 8 * s.nodes.rows + 1 = s.nodes.form in
    let f : ℕ → ℕ = entry_at m t in
    let g : ℕ → ℕ = entry_at m (keyed m p key t) in
    let k : get_or (tree_keys n t) p 0 ≡ get_or t (m + m + p) 0 = keys_at n m p t q l in
    let falls : g (m + p) ≡ min (f (m + p)) (min x no_entry)
    = omega (arith, key_here n m t p key s l, at_leaf m t p, w.below, e.place_is, e.key_is) in
    let others = key_other n m t p key s l in
    let least = tree.parent_falls f g (m + p) (min x no_entry) others (omega arith) falls (right (parent (m + p)) (omega arith)) in
    record {
      shape = key_shape n m t p key s l;
      same = refl;
      next = tree.leaf_changes m f g (m + p) others (omega arith) (omega arith) (omega arith) right _ least;
    }

module _ (n m x i : ℕ) (keys t : List ℕ) (v : Lowering n m keys t x i) where
  low : i < m
  low = v.next.low

  -- node i comes before x: the loop stops
  pub lowering_stops : (p key : ℕ) (t₀ : List ℕ) → keys ≡ tree_keys n (keyed m p key t₀) → p < n → node_entry t i ≤ x → TreePut n p key t₀ t
  lowering_stops p key t₀ e l h =
      done n m p key t₀ t keys v.shape (tree.right_already m (entry_at m t) i _ v.next (omega (arith, at_node m t i low))) v.same e l

  -- x is put down at node i
  module _ (u : List ℕ) (e : u ≡ stored t i x) (h : x < node_entry t i) where
    put : NodePut n m t i x u
    put = node_put n m t i x v.shape low u e

    falls : entry_at m u i ≡ min (entry_at m t i) (min x no_entry)
    falls = omega (arith, at_node m t i low, put.here)

    pub lowering_step : 0 < i → Lowering n m keys u x (parent i)
    lowering_step z =
        let right = v.next.rest (parent i) (omega (arith, low)) (omega arith) in
        let least = tree.parent_falls (entry_at m t) (entry_at m u) i (min x no_entry) put.others z falls right in
        record {
          shape = put.shape;
          same = put.keys ∙ v.same;
          next = tree.node_changes m (entry_at m t) (entry_at m u) i put.others _ v.next falls z _ least;
        }

    pub lowering_end : (p key : ℕ) (t₀ : List ℕ) → keys ≡ tree_keys n (keyed m p key t₀) → p < n → i ≡ 0 → TreePut n p key t₀ u
    lowering_end p key t₀ k l z =
        let right = tree.root_changes m (entry_at m t) (entry_at m u) i put.others _ v.next falls z in
        done n m p key t₀ u keys put.shape right (put.keys ∙ v.same) k l

-- ---- close
-- the first node, over eight keys
module _ (n m p key : ℕ) (t : List ℕ) (q : m ≡ nodes_for n) (w : TreePlace n p t) where
  shape : Shape n m t
  shape = rw q w.tree.shape

  -- l of its leaves
  pub first_leaves : (r l : ℕ) → first_child (parent (m + p)) ≤ m + r → m + r + l ≤ first_child (parent (m + p)) + 8 → LeafRun l m r (keyed m p key t)
  first_leaves r l a b =
      let inside : p < n = w.place_in in
      let o : m ≡ 8 * shape.nodes.rows + 1 = shape.nodes.form in
      record {
        inside = simp length-set (omega (arith, shape.room.len, shape.nodes.words, shape.nodes.keys));
        small = omega (arith, shape.room.few, shape.nodes.words);
      }

  pub closing_start : (x : ℕ) → x ≡ least8 (leaf_entry m (keyed m p key t)) (first_child (parent (m + p)) - m)
      → Closing n m (tree_keys n (keyed m p key t)) (keyed m p key t) x (parent (m + p))
  closing_start x e =
      let l : p < n = w.place_in in
      let b : p < 7 * m + 1 = omega (arith, shape.nodes.keys) in
      let o : m ≡ 8 * shape.nodes.rows + 1 = shape.nodes.form in
      let right : AllRight m (entry_at m t) = rw q w.tree.right in
      let t' : List ℕ = keyed m p key t in
      let c : ℕ = first_child (parent (m + p)) in
      let leaves : least8 (entry_at m t') c ≡ min (least8 (leaf_entry m t') (c - m)) no_entry
      = cut8 (leaf_entry m t') (entry_at m t') (c - m) c no_entry (λ k h. ap (entry_at m t') (omega arith) ∙ at_leaf m t' (c - m + k)) in
      record {
        shape = key_shape n m t p key shape l;
        same = refl;
        next = tree.leaf_changes m (entry_at m t) (entry_at m t') (m + p) (key_other n m t p key shape l) (omega arith) (omega arith) (omega arith)
            right (min x no_entry) (leaves ∙ ap (λ (y : ℕ). min y no_entry) (sym e));
      }

-- node i gets x
module _ (n m x i : ℕ) (keys t : List ℕ) (v : Closing n m keys t x i) where
  -- Its parent is to get the first of x and of the seven others: y is the first of all eight while z, which is after all entries, is at i.
  pub closing_step : (z y r : ℕ) (t' u : List ℕ) → 0 < i → t' ≡ stored t i z → no_entry ≤ z → y ≡ least8 (node_entry t') (first_child (parent i))
      → u ≡ stored t' i x → r ≡ min y x → Closing n m keys u r (parent i)
  closing_step z y r t' u a et b ey eu er =
      let o : m ≡ 8 * v.shape.nodes.rows + 1 = v.shape.nodes.form in
      let l : i < m = v.next.low in
      let c : ℕ = first_child (parent i) in
      let away = node_put n m t i z v.shape l t' et in
      let back = node_put n m t' i x away.shape l u eu in
      let nodes : least8 (entry_at m t') c ≡ min (least8 (node_entry t') c) no_entry
      = cut8 (node_entry t') (entry_at m t') c c no_entry (λ k h. at_node m t' (c + k) (omega arith)) in
      let least : least8 (entry_at m u) c ≡ min (least8 (entry_at m t') c) (min x no_entry)
      = fall8 (entry_at m t') (entry_at m u) i c (min x no_entry) back.others (omega (arith, away.here, back.here)) (omega arith) (omega arith) in
      record {
        shape = back.shape;
        same = back.keys ∙ away.keys ∙ v.same;
        next = tree.node_changes m (entry_at m t) (entry_at m u) i (λ j n. back.others j n ∙ away.others j n) (min x no_entry) v.next
            back.here a (min r no_entry) (omega arith);
      }

  pub closing_end : (p key : ℕ) (t₀ u : List ℕ) → keys ≡ tree_keys n (keyed m p key t₀) → p < n → i ≡ 0 → u ≡ stored t 0 x → TreePut n p key t₀ u
  closing_end p key t₀ u k l z e =
      let put = node_put n m t i x v.shape v.next.low u (e ∙ ap (λ (j : ℕ). stored t j x) (sym z)) in
      let right = tree.root_changes m (entry_at m t) (entry_at m u) i put.others (min x no_entry) v.next put.here z in
      done n m p key t₀ u keys put.shape right (put.keys ∙ v.same) k l
