-- The tree and the hand together: what `OpenList` and `keys_of` fold up, opened for the functions of src/lib.rt.
-- Assumes nothing.
use mathlib.Core.Path.{◌≡◌, sym, ◌∙◌}
use mathlib.Core.List.{List}
use mathlib.Core.Logic.{◌≢◌}
use Prim.Native.Nat.{ℕ, ◌<◌, ◌≤◌, min}
use native.Mathlib.Decide.{dec_lt}
use native.Mathlib.Omega.{arith}
use lib.ListN.{length, get_or}
use Rattle.open_list.specs.Entry.{IsEntry, place_of, key_of, word_end, no_key}
use Rattle.open_list.specs.Hand.{Held, HandPut, with_hand}
use Rattle.open_list.specs.Keys.{OpenList, LeastKey, CanLower, CanClose, Put, Cleared, keys_of, empty_hand}
use Rattle.open_list.specs.Size.{nodes_for}
use Rattle.open_list.specs.Tree.{Tournament, TreePlace, TreeLowers, TreePut, TreeCleared, tree_keys}
use Rattle.open_list.proofs.Hand as hand
use Rattle.open_list.proofs.Stores.{keys_length}

pub tree_of : (n h : ℕ) (t : List ℕ) → OpenList n h t → Tournament n t
unfolding OpenList
tree_of n h t o = o.tree

held_of : (n h : ℕ) (t : List ℕ) → OpenList n h t → Held (tree_keys n t) h
unfolding OpenList
held_of n h t o = o.held

-- every place fits into an entry, so the empty hand's place is beyond the list
few_places_lem : (n : ℕ) (t : List ℕ) → Tournament n t → length (tree_keys n t) < word_end
few_places_lem n t w = omega (arith, keys_length n (nodes_for n) t w.shape, w.shape.room.few)

place_in_tree : (n p : ℕ) (t : List ℕ) → Tournament n t → p < n → p < length (tree_keys n t)
place_in_tree n p t w l = omega (arith, keys_length n (nodes_for n) t w.shape)

pub tree_place : (n h p : ℕ) (t : List ℕ) → OpenList n h t → p < n → TreePlace n p t
tree_place n h p t o l = record { tree = tree_of n h t o; place_in = l }

pub place_fits : (n h p : ℕ) (t : List ℕ) → OpenList n h t → p < n → p < word_end
place_fits n h p t o l = omega (arith, (tree_of n h t o).shape.room.few)

put : (n p key h r : ℕ) (t₀ t : List ℕ) → Tournament n t → HandPut p key (tree_keys n t₀) h (tree_keys n t) r → Put n p key h t₀ r t
unfolding OpenList keys_of
put n p key h r t₀ t w v = record { list = record { tree = w; held = v.held }; keys_set = v.keys_set }

-- ---- put_down: the tree gets what is in hand
module _ (n h : ℕ) (t : List ℕ) (o : OpenList n h t) where
  -- nothing is in hand: the tree as it is
  pub idle_put : key_of h ≡ no_key → TreePut n (place_of h) (key_of h) t t
  unfolding with_hand
  idle_put e = record { tree = tree_of n h t o; keys_set = sym (hand.idle_keys (tree_keys n t) h (held_of n h t o) e) }

  -- the tree has no key for what is in hand
  pub hand_lowers : key_of h ≢ no_key → TreeLowers n (place_of h) (key_of h) t
  hand_lowers d =
      let held = held_of n h t o in
      let inside : place_of h < length (tree_keys n t) = hand.in_list (tree_keys n t) h held d in
      let shape = (tree_of n h t o).shape in
      record {
        tree = tree_of n h t o;
        place_in = omega (arith, keys_length n (nodes_for n) t shape);
        below = omega (arith, held.free inside, held.some inside);
      }

-- ---- lower: the hand takes the place
module _ (n p key h r : ℕ) (t : List ℕ) (w : CanLower n h p key t) (i : IsEntry p key r) where
  pub takes_again : place_of h ≡ p → Put n p key h t r t
  takes_again e =
      let tree = tree_of n h t w.list in
      let inside = place_in_tree n p t tree w.place_in in
      put n p key h r t t tree (hand.takes_again (tree_keys n t) p key r inside w.some i h (held_of n h t w.list) e)

  -- what was in hand is in the tree u now
  pub takes_over : (u : List ℕ) → TreePut n (place_of h) (key_of h) t u → place_of h ≢ p → get_or (tree_keys n t) p 0 ≡ no_key → Put n p key h t r u
  unfolding with_hand
  takes_over u v d f =
      let inside = place_in_tree n p u v.tree w.place_in in
      put n p key h r t u v.tree (hand.takes_over (tree_keys n u) p key r inside w.some i (tree_keys n t) h v.keys_set d f)

-- ---- lower and close: the place is not in hand
pub tree_lowers : (n p key h : ℕ) (t : List ℕ) → CanLower n h p key t → place_of h ≢ p → TreeLowers n p key t
unfolding keys_of
tree_lowers n p key h t w d =
    let listed : get_or (keys_of n h t) p 0 ≡ get_or (tree_keys n t) p 0 = hand.elsewhere (tree_keys n t) h p (λ e. d (sym e)) in
    record { tree = tree_of n h t w.list; place_in = w.place_in; below = omega (arith, w.below) }

pub tree_put : (n p key h : ℕ) (t₀ t : List ℕ) → OpenList n h t₀ → place_of h ≢ p → TreePut n p key t₀ t → Put n p key h t₀ h t
tree_put n p key h t₀ t o d w =
    put n p key h h t₀ t w.tree (hand.list_changes (tree_keys n t₀) (tree_keys n t) p key h (held_of n h t₀ o) d w.keys_set)

-- ---- close: the place is in hand
pub lets_go : (n p h r : ℕ) (t : List ℕ) → CanClose n h p t → place_of h ≡ p → r ≡ empty_hand → Put n p no_key h t r t
lets_go n p h r t w e z =
    let tree = tree_of n h t w.list in
    let inside : p < length (tree_keys n t) = place_in_tree n p t tree w.place_in in
    rw z (put n p no_key h empty_hand t t tree (hand.lets_go (tree_keys n t) (few_places_lem n t tree) p h (held_of n h t w.list) inside e))

-- ---- least
module _ (n h b : ℕ) (t : List ℕ) (o : OpenList n h t) (f : LeastKey (tree_keys n t) (place_of b) (key_of b)) where
  pub hand_first : h < b → LeastKey (keys_of n h t) (place_of h) (key_of h)
  unfolding keys_of
  hand_first c = hand.hand_first (tree_keys n t) h b (held_of n h t o) f c

  pub tree_first : b ≤ h → LeastKey (keys_of n h t) (place_of b) (key_of b)
  unfolding keys_of
  tree_first c = hand.list_first (tree_keys n t) h b (held_of n h t o) f c

  pub either_first : (r : ℕ) → r ≡ min h b → LeastKey (keys_of n h t) (place_of r) (key_of r)
  either_first r e = go (dec_lt h b)
    where
      go : Dec (h < b) → LeastKey (keys_of n h t) (place_of r) (key_of r)
      go (yes l) = let same : r ≡ h = omega arith in rw same (hand_first l)
      go (no l) = let same : r ≡ b = omega arith in rw same (tree_first (omega arith))

-- ---- clear
pub cleared : (n : ℕ) (t : List ℕ) → TreeCleared n t → Cleared n t
unfolding OpenList keys_of
cleared n t w =
    let few = few_places_lem n t w.tree in
    record {
      list = record { tree = w.tree; held = hand.empty_held (tree_keys n t) few };
      keys_none = hand.empty_keys (tree_keys n t) few ∙ w.keys_none;
    }
