-- Trees without keys: words that are filled with 2^32 - 1 are one, and so is every tree whose least key is none.
-- Assumes nothing.
use mathlib.Core.Path.{◌≡◌, refl, sym, ap, ◌∙◌}
use mathlib.Core.List.{List}
use Prim.Native.Nat.{ℕ, ◌+◌, ◌-◌, ◌*◌, ◌<◌, ◌≤◌}
use native.Mathlib.Decide.{dec_lt}
use native.Mathlib.Omega.{arith}
use lib.ListN.{length, get_or, replicate, length-replicate, get_or-replicate}
use lib.Seq.{ext_get_or}
use borrow.Rule.Slice.PartMut.{put_mid}
use Rattle.area.specs.Part.{part}
use Rattle.area.proofs.Parts.{part_length, back_at, back_length}
use Rattle.open_list.specs.Entry.{word_end, no_key, no_entry}
use Rattle.open_list.specs.Keys.{Room, LeastKey}
use Rattle.open_list.specs.Size.{Nodes, nodes_for, words_of}
use Rattle.open_list.specs.Tree.{Shape, Tournament, TreeCleared, AllRight, tree_keys, node_entry, leaf_entry, entry_at, first_child}
use Rattle.open_list.proofs.Eight.{one8}
use Rattle.open_list.proofs.Stores.{at_node, at_leaf, keys_at, keys_length}

-- a tree is cleared where none of its keys is one
cleared : (n : ℕ) (t : List ℕ) → Tournament n t → ((q : ℕ) → q < n → get_or (tree_keys n t) q 0 ≡ no_key) → TreeCleared n t
cleared n t w none =
    let len : length (tree_keys n t) ≡ n = keys_length n (nodes_for n) t w.shape in
    record {
      tree = w;
      keys_none = ext_get_or 0 (tree_keys n t) (replicate n no_key) (len ∙ sym (length-replicate {A = ℕ} n no_key))
          (λ q h. none q (omega arith) ∙ sym (get_or-replicate {A = ℕ} n q no_key 0 (omega arith)));
    }

-- ---- clear: every word of the tree is 2^32 - 1
module _ (n m : ℕ) (t : List ℕ) (r : Room n t) (s : Nodes n m) (full : (w : ℕ) → w < words_of m → get_or t w 0 ≡ no_key) where
  no_entry_lem : (j : ℕ) → j < 8 * m + 1 → Dec (j < m) → entry_at m t j ≡ no_entry
  unfolding node_entry leaf_entry
  no_entry_lem j h (yes q) = omega (arith, at_node m t j q, full (j + j) (omega arith), full (j + j + 1) (omega arith))
  no_entry_lem j h (no q) =
      let e : entry_at m t j ≡ entry_at m t (m + (j - m)) = ap (entry_at m t) (omega arith) in
      omega (arith, at_leaf m t (j - m), full (m + m + (j - m)) (omega arith))

  shape : Shape n m t
  shape = record { room = r; nodes = s; beyond = λ p a b. full (m + m + p) (omega arith) }

  right : AllRight m (entry_at m t)
  right j h =
      let o = one8 (entry_at m t) (first_child j) in
      let c : ℕ = first_child j + o.k in
      omega (arith, no_entry_lem j (omega arith) (dec_lt j m), o.is, no_entry_lem c (omega (arith, o.few)) (dec_lt c m))

  filled : TreeCleared n t
  filled =
      let w : Tournament n t = record { shape = rw s.same at shape; right = rw s.same at right } in
      cleared n t w (λ q h. keys_at n m q t s.same h ∙ full (m + m + q) (omega (arith, s.keys)))

-- the tree's words come back filled
pub clears : (n m : ℕ) (t ys : List ℕ) → Room n t → Nodes n m → length ys ≡ length (part 0 (words_of m) t)
    → ys ≡ replicate (length (part 0 (words_of m) t)) no_key → TreeCleared n (put_mid 0 (words_of m - 0) t ys)
clears n m t ys r s l e =
    let fits : words_of m ≤ length t = omega (arith, s.words, r.len) in
    let size : length (part 0 (words_of m) t) ≡ words_of m = part_length 0 (words_of m) t fits ∙ omega arith in
    let room : Room n (put_mid 0 (words_of m - 0) t ys) = record { some = r.some; few = r.few; len = back_length 0 (words_of m) t ys l ∙ r.len } in
    filled n m (put_mid 0 (words_of m - 0) t ys) room s
    (λ w h. let z : 0 + w ≡ w = omega arith in
    rw z at (back_at 0 (words_of m) t ys w (omega arith) fits l (omega arith))
    ∙ ap (λ (xs : List ℕ). get_or xs w 0) e ∙ get_or-replicate {A = ℕ} (length (part 0 (words_of m) t)) w no_key 0 (omega arith))

-- ---- reset: the least key is none, and each key is a word, so that none is above 2^32 - 1
pub keyless : (n p k : ℕ) (t : List ℕ) → Tournament n t → LeastKey (tree_keys n t) p k → k ≡ no_key → ((i : ℕ) → get_or t i 0 < word_end) → TreeCleared n t
keyless n p k t w f e words =
    let len : length (tree_keys n t) ≡ n = keys_length n (nodes_for n) t w.shape in
    let m : ℕ = nodes_for n in
    cleared n t w (λ q h. omega (arith, f.least q (omega arith), keys_at n m q t refl h, words (m + m + q)))
