-- The laws of the words: what stands where in the tree, and what a store of a node's entry and of a place's key changes.
-- Assumes nothing.
use mathlib.Core.Path.{◌≡◌, sym, ap, ◌∙◌}
use mathlib.Core.List.{List}
use mathlib.Core.Logic.{◌≢◌, ite, if_pos, if_neg}
use Prim.Native.Nat.{ℕ, ◌+◌, ◌-◌, ◌*◌, ◌<◌, ◌≤◌, min}
use native.Mathlib.Decide.{dec_lt}
use native.Mathlib.Omega.{arith}
use lib.ListN.{length, get_or, take, drop, set, length-set, length-take, length-drop}
use lib.Seq.{get_or-set_same, get_or-set_other, drop-set-lt, drop-set-add, take-set-lt, get_or-take, get_or-drop}
use Rattle.open_list.specs.Entry.{entry, place_of, key_of, no_entry}
use Rattle.open_list.specs.Size.{Room, nodes_for}
use Rattle.open_list.specs.Tree.{Shape, tree_keys, node_entry, leaf_entry, stored, entry_at}
use Rattle.open_list.proofs.Eightfold.{SameBut}

-- ---- what stands where
pub at_node : (m : ℕ) (t : List ℕ) (i : ℕ) → i < m → entry_at m t i ≡ min (node_entry t i) no_entry
unfolding entry_at
at_node m t i h = ap (λ (x : ℕ). min x no_entry) (if_pos (dec_lt i m) h (node_entry t i) (leaf_entry m t (i - m)))

pub at_leaf : (m : ℕ) (t : List ℕ) (p : ℕ) → entry_at m t (m + p) ≡ min (leaf_entry m t p) no_entry
unfolding entry_at
at_leaf m t p =
    let e : m + p - m ≡ p = omega arith in
    let q : ite (dec_lt (m + p) m) (node_entry t (m + p)) (leaf_entry m t (m + p - m)) ≡ leaf_entry m t (m + p - m)
    = if_neg (dec_lt (m + p) m) (λ h. omega arith) (node_entry t (m + p)) (leaf_entry m t (m + p - m)) in
    ap (λ (x : ℕ). min x no_entry) (q ∙ ap (leaf_entry m t) e)

pub keys_at : (n m p : ℕ) (t : List ℕ) → m ≡ nodes_for n → p < n → get_or (tree_keys n t) p 0 ≡ get_or t (m + m + p) 0
unfolding tree_keys
keys_at n m p t e l = rw e (get_or-take n (drop (nodes_for n + nodes_for n) t) p 0 l ∙ get_or-drop (nodes_for n + nodes_for n) t p 0)

pub keys_length : (n m : ℕ) (t : List ℕ) → Shape n m t → length (tree_keys n t) ≡ n
unfolding tree_keys
keys_length n m t s = simp (length-take, length-drop) (omega (arith, s.nodes.same, s.nodes.keys, s.nodes.words, s.room.len))

room-set : (n i x : ℕ) (t : List ℕ) → Room n t → Room n (set t i x)
room-set n i x t r = record { some = r.some; few = r.few; len = simp length-set r.len }

-- where neither the node nor the key at j changed, nothing did
unchanged : (m : ℕ) (t u : List ℕ) (j : ℕ) → (j < m → node_entry u j ≡ node_entry t j) → (m ≤ j → leaf_entry m u (j - m) ≡ leaf_entry m t (j - m))
    → Dec (j < m) → entry_at m u j ≡ entry_at m t j
unchanged m t u j a b (yes h) = at_node m u j h ∙ ap (λ (x : ℕ). min x no_entry) (a h) ∙ sym (at_node m t j h)
unchanged m t u j a b (no h) =
    let e : m + (j - m) ≡ j = omega arith in
    rw (← e) (at_leaf m u (j - m) ∙ ap (λ (x : ℕ). min x no_entry) (b (omega arith)) ∙ sym (at_leaf m t (j - m)))

-- ---- an entry is put down at a node
-- u is t, but that node i has the entry x
pub record NodePut (n m : ℕ) (t : List ℕ) (i x : ℕ) (u : List ℕ) : Type 0 where
  pub shape : Shape n m u
  pub here : entry_at m u i ≡ min x no_entry
  pub others : SameBut (entry_at m t) (entry_at m u) i
  pub keys : tree_keys n u ≡ tree_keys n t

module _ (n m : ℕ) (t : List ℕ) (i x : ℕ) (s : Shape n m t) (l : i < m) where
  store_here : entry_at m (stored t i x) i ≡ min x no_entry
  unfolding node_entry
  store_here =
      let b : 9 * m + 1 ≤ length t = omega (arith, s.room.len, s.nodes.words) in
      let u : List ℕ = set t (i + i) (place_of x) in
      let k : get_or (stored t i x) (i + i + 1) 0 ≡ key_of x = get_or-set_same u (i + i + 1) (key_of x) 0 (simp length-set (omega arith)) in
      let p : get_or (stored t i x) (i + i) 0 ≡ place_of x
      = get_or-set_other u (i + i + 1) (i + i) (key_of x) 0 (omega arith) ∙ get_or-set_same t (i + i) (place_of x) 0 (omega arith) in
      at_node m (stored t i x) i l ∙ omega arith

  far : (w : ℕ) → w ≢ i + i → w ≢ i + i + 1 → get_or (stored t i x) w 0 ≡ get_or t w 0
  far w a b = get_or-set_other (set t (i + i) (place_of x)) (i + i + 1) w (key_of x) 0 b ∙ get_or-set_other t (i + i) w (place_of x) 0 a

  store_other : SameBut (entry_at m t) (entry_at m (stored t i x)) i
  unfolding node_entry leaf_entry
  store_other j h =
      unchanged m t (stored t i x) j (λ q. omega (arith, far (j + j) (omega arith) (omega arith), far (j + j + 1) (omega arith) (omega arith)))
      (λ q. omega (arith, far (m + m + (j - m)) (omega arith) (omega arith))) (dec_lt j m)

  store_keys : tree_keys n (stored t i x) ≡ tree_keys n t
  unfolding tree_keys
  store_keys =
      let k : ℕ = nodes_for n + nodes_for n in
      let b : i + i + 1 < k = omega (arith, s.nodes.same) in
      ap (take n) (drop-set-lt k (set t (i + i) (place_of x)) (i + i + 1) (key_of x) b ∙ drop-set-lt k t (i + i) (place_of x) (omega arith))

  store_shape : Shape n m (stored t i x)
  store_shape =
      record {
        room = room-set n (i + i + 1) (key_of x) (set t (i + i) (place_of x)) (room-set n (i + i) (place_of x) t s.room);
        nodes = s.nodes;
        beyond = λ p a b. far (m + m + p) (omega arith) (omega arith) ∙ s.beyond p a b;
      }

  pub node_put : (u : List ℕ) → u ≡ stored t i x → NodePut n m t i x u
  node_put u e = rw e (record { shape = store_shape; here = store_here; others = store_other; keys = store_keys })

-- ---- a key is put down
module _ (n m : ℕ) (t : List ℕ) (p key : ℕ) (s : Shape n m t) (l : p < n) where
  pub key_shape : Shape n m (set t (m + m + p) key)
  key_shape =
      record {
        room = room-set n (m + m + p) key t s.room;
        nodes = s.nodes;
        beyond = λ q a b. get_or-set_other t (m + m + p) (m + m + q) key 0 (omega arith) ∙ s.beyond q a b;
      }

  pub key_here : entry_at m (set t (m + m + p) key) (m + p) ≡ min (entry p key) no_entry
  unfolding leaf_entry
  key_here =
      let b : m + m + p < length t = omega (arith, s.room.len, s.nodes.words, s.nodes.keys) in
      at_leaf m (set t (m + m + p) key) p ∙ omega (arith, get_or-set_same t (m + m + p) key 0 b)

  pub key_other : SameBut (entry_at m t) (entry_at m (set t (m + m + p) key)) (m + p)
  unfolding node_entry leaf_entry
  key_other j h =
      unchanged m t (set t (m + m + p) key) j
      (λ q. omega (arith, get_or-set_other t (m + m + p) (j + j) key 0 (omega arith), get_or-set_other t (m + m + p) (j + j + 1) key 0 (omega arith)))
      (λ q. omega (arith, get_or-set_other t (m + m + p) (m + m + (j - m)) key 0 (omega arith))) (dec_lt j m)

pub key_keys : (n m p key : ℕ) (t : List ℕ) → m ≡ nodes_for n → p < n → tree_keys n (set t (m + m + p) key) ≡ set (tree_keys n t) p key
unfolding tree_keys
key_keys n m p key t e l =
    let k : ℕ = nodes_for n + nodes_for n in
    rw e (ap (take n) (drop-set-add k t p key) ∙ take-set-lt n (drop k t) p key l)
