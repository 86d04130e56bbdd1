-- What the words of the area say of labels, depths and parents. Assumes nothing.
use mathlib.Core.Path.{◌≡◌, refl, sym, ap, ◌∙◌}
use mathlib.Core.List.{List, [], ◌∷◌, map}
use mathlib.Core.Option.{Option, none, some}
use Prim.Native.Nat.{ℕ, zero, suc, ◌+◌, ◌-◌, ◌≤◌, ◌<◌}
use native.Mathlib.Omega.{arith}
use native.Mathlib.Nat.{sub-zero}
use native.Mathlib.Decide.{ℕ_discrete, dec_lt}
use lib.ListN.{length, get_or, take, drop, replicate, length-replicate, get_or-replicate, length-set, length-take, length-map}
use lib.ListN.{get_or-map, get_or-eq_default}
use lib.Seq.{get_or-take, get_or-drop, get_or-set_same, get_or-set_other, take-set-le, drop-set-lt}
use borrow.Author.Tests.{eq-eqb, ne_eqb}
use borrow.Rule.Slice.PartMut.{put_mid}
use Rattle.model.specs.Costs.{cost_at}
use Rattle.model.specs.Terms.{AtMost}
use Rattle.model.proofs.Lists.{none-some}
use Rattle.model.proofs.Indices.{get_d_default}
use Rattle.area.specs.Part.{part}
use Rattle.area.proofs.Parts.{same_before, less_before, part_length, part_back_low, drop_back, back_length, back_at}
use Rattle.map.specs.declared.Site.{Site}
use Rattle.layout.specs.Regions.{depths_at, open_at, parents_at, ends_at, arcs_at}
use Rattle.layout.specs.Regions.{label_word, depth_word, parent_word, with_label, with_depth, with_parent}
use Rattle.layout.specs.Labels.{no_word, word_or, labels, depths, Labelled, Kept, NoLabels, NoParents, parent_at}
use Rattle.layout.proofs.Held.{holds_same}

pub word_or-none : (x : ℕ) → x ≡ no_word → word_or x ≡ none
unfolding word_or
word_or-none x e = rw (eq-eqb x no_word e)

pub word_or-some : (x : ℕ) → (x ≡ no_word → ⊥) → word_or x ≡ some x
unfolding word_or
word_or-some x h = rw (ne_eqb x no_word h)

-- a word that holds a number is that number, and not the largest
pub word_or-is : (x d : ℕ) → word_or x ≡ some d → (x ≡ d) × (x ≡ no_word → ⊥)
word_or-is x d e = go (ℕ_discrete x no_word)
  where
    go : Dec (x ≡ no_word) → (x ≡ d) × (x ≡ no_word → ⊥)
    go (yes q) = none-some (sym (word_or-none x q) ∙ e)
    go (no q) = let s = word_or-some x q in ((cc), q)

-- the label of a place is its word
pub label_at : (n : ℕ) (w : List ℕ) (v : ℕ) → v < n → v < length w → cost_at (labels n w) v ≡ word_or (label_word w v)
unfolding labels
label_at n w v h l =
    ap (λ (d : Option ℕ). get_or (map word_or (take n w)) v d) (sym (word_or-none no_word refl))
    ∙ get_or-map word_or (take n w) v no_word
    ∙ ap word_or (get_or-take n w v no_word h ∙ get_d_default w v no_word 0 l)

word_of : (ws : List ℕ) (v d : ℕ) → get_or (map word_or ws) v none ≡ some d → (v < length ws) × (get_or ws v 0 ≡ d)
word_of [] v d e = none-some e
word_of (x ∷ ws) zero d e = (omega arith, (word_or-is x d e).0)
word_of (x ∷ ws) (suc v) d e = let rest = word_of ws v d e in (omega arith, rest.1)

-- a label is the word at its place, and stays while the first n words do
pub label_kept : (n : ℕ) (w₀ w : List ℕ) → take n w ≡ take n w₀ → (v d : ℕ) → cost_at (labels n w₀) v ≡ some d
    → (v < n) × (v < length w) × (label_word w v ≡ d)
unfolding labels
label_kept n w₀ w same v d e =
    let word : (v < length (take n w)) × (get_or (take n w) v 0 ≡ d) = word_of (take n w) v d (rw same e) in
    let short = simp length-take at word.0 in
    let low : v < n = omega arith in
    (low, omega arith, sym (get_or-take n w v 0 low) ∙ word.1)

-- a place's label is in its word
pub record HasLabel (n : ℕ) (w : List ℕ) (v d : ℕ) : Type 0 where
  pub place : v < n
  pub word : label_word w v ≡ d
  pub some : d ≡ no_word → ⊥

module _ (n : ℕ) (w : List ℕ) (room : n ≤ length w) where
  pub labels_length : length (labels n w) ≡ n
  unfolding labels
  labels_length = length-map (take n w) word_or ∙ length-take n w ∙ omega arith

  pub label_word_lem : (v : ℕ) → v < n → cost_at (labels n w) v ≡ word_or (label_word w v)
  label_word_lem v h = label_at n w v h (omega arith)

  pub label_beyond : (v : ℕ) → n ≤ v → cost_at (labels n w) v ≡ none
  label_beyond v h = get_or-eq_default (labels n w) none (omega (arith, labels_length))

  pub label_is : (v d : ℕ) → cost_at (labels n w) v ≡ some d → HasLabel n w v d
  label_is v d e = go (dec_lt v n)
    where
      go : Dec (v < n) → HasLabel n w v d
      go (yes h) =
          let is = word_or-is (label_word w v) d (sym (label_word_lem v h) ∙ e) in
          record { place = h; word = is.0; some = λ q. is.1 (is.0 ∙ q) }
      go (no h) = none-some (sym (label_beyond v (omega arith)) ∙ e)

  pub is_label : (v d : ℕ) → HasLabel n w v d → cost_at (labels n w) v ≡ some d
  is_label v d h = label_word_lem v h.place ∙ rw h.word (word_or-some d h.some)

  pub unlabelled : (v : ℕ) → v < n → label_word w v ≡ no_word → cost_at (labels n w) v ≡ none
  unlabelled v h e = label_word_lem v h ∙ word_or-none (label_word w v) e

  -- a word of at most e, below the largest, is a label of at most e
  pub at_most : (v e : ℕ) → v < n → label_word w v ≤ e → e < no_word → AtMost (cost_at (labels n w) v) e
  at_most v e h l s =
      let is = is_label v (label_word w v) (record { place = h; word = refl; some = λ q. omega arith }) in
      record { cost = label_word w v; is = is; below = l }

pub kept_all : (n : ℕ) (w : List ℕ) → Kept n w w
kept_all n w = record { same_length = refl; same_front = refl; same_map = refl }

pub kept_on : (n : ℕ) (w₀ w₁ w : List ℕ) → Kept n w₀ w₁ → Kept n w₁ w → Kept n w₀ w
kept_on n w₀ w₁ w j k =
    record {
      same_length = k.same_length ∙ j.same_length;
      same_front = k.same_front ∙ j.same_front;
      same_map = k.same_map ∙ j.same_map;
    }

-- labels, depths and map are as before, and so is what a pass over the arcs asks of the area
pub label_words_kept : (n : ℕ) (w₀ w : List ℕ) → Kept n w₀ w → take n w ≡ take n w₀
label_words_kept n w₀ w k = less_before n (open_at n) w₀ w (omega arith) k.same_front

pub labels_kept : (n : ℕ) (w₀ w : List ℕ) → Kept n w₀ w → labels n w ≡ labels n w₀
unfolding labels
labels_kept n w₀ w k = rw (label_words_kept n w₀ w k)

pub labelled_kept : (s : Site) (w₀ w : List ℕ) → Kept s.places w₀ w → Labelled s w₀ → Labelled s w
labelled_kept s w₀ w k g =
    record {
      holds = holds_same s w w₀ k.same_map k.same_length g.holds;
      label_below = λ v d. rw (labels_kept s.places w₀ w k) (g.label_below v d);
    }

pub depths_kept : (n : ℕ) (w₀ w : List ℕ) → Kept n w₀ w → depths n w ≡ depths n w₀
unfolding depths
depths_kept n w₀ w k = rw k.same_front

pub depth_at : (n : ℕ) (w : List ℕ) (v : ℕ) → v < n → get_or (depths n w) v 0 ≡ depth_word n w v
unfolding depths
depth_at n w v h = get_or-drop (depths_at n) (take (open_at n) w) v 0 ∙ get_or-take (open_at n) w (depths_at n + v) 0 (omega arith)

pub depth_kept : (n : ℕ) (w₀ w : List ℕ) → Kept n w₀ w → (v : ℕ) → v < n → depth_word n w v ≡ depth_word n w₀ v
depth_kept n w₀ w k v h = same_before (open_at n) w₀ w (depths_at n + v) k.same_front (omega arith)

-- the words with another label of v
module _ (n : ℕ) (w : List ℕ) (v d : ℕ) where
  pub with_label_rest : v < n → drop (depths_at n) (with_label w v d) ≡ drop (depths_at n) w
  with_label_rest l = drop-set-lt (depths_at n) w v d l

  pub with_label_same : v < length w → label_word (with_label w v d) v ≡ d
  with_label_same l = get_or-set_same w v d 0 l

  pub with_label_other : (u : ℕ) → (u ≡ v → ⊥) → label_word (with_label w v d) u ≡ label_word w u
  with_label_other u h = get_or-set_other w v u d 0 h

-- the words with another depth of v
module _ (n : ℕ) (w : List ℕ) (v k : ℕ) where
  pub with_depth_rest : v < n → drop (open_at n) (with_depth n w v k) ≡ drop (open_at n) w
  with_depth_rest l = drop-set-lt (open_at n) w (depths_at n + v) k (omega arith)

  pub with_depth_labels : take n (with_depth n w v k) ≡ take n w
  with_depth_labels = take-set-le n w (depths_at n + v) k (omega arith)

  pub with_depth_same : depths_at n + v < length w → depth_word n (with_depth n w v k) v ≡ k
  with_depth_same l = get_or-set_same w (depths_at n + v) k 0 l

  pub with_depth_other : (u : ℕ) → (u ≡ v → ⊥) → depth_word n (with_depth n w v k) u ≡ depth_word n w u
  with_depth_other u h = get_or-set_other w (depths_at n + v) (depths_at n + u) k 0 (λ e. h (omega arith))

-- the words of the labels, from 0 to e, were lent and come back filled with the word for none
pub labels_cleared : (n e : ℕ) (w ys : List ℕ) → e ≡ depths_at n → arcs_at n ≤ length w
    → ys ≡ replicate (length (part 0 e w)) no_word → NoLabels n w (put_mid 0 (e - 0) w ys)
unfolding part
labels_cleared n e w ys q room h =
    let same : length ys ≡ length (part 0 e w) = ap length h ∙ length-replicate (length (part 0 e w)) no_word in
    let size : length (part 0 e w) ≡ e - 0 = part_length 0 e w (omega arith) in
    record {
      same_rest = drop_back 0 e w ys (depths_at n) (omega arith) (omega arith) same (omega arith);
      none = λ v l.
          let at : 0 + v ≡ v = omega arith in
          rw at at (back_at 0 e w ys v (omega arith) (omega arith) same (omega arith))
          ∙ rw h (get_or-replicate (length (part 0 e w)) v no_word 0 (omega arith));
    }

-- the words with another parent of v
module _ (n : ℕ) (w : List ℕ) (v u : ℕ) where
  pub with_parent_kept : v < n → Kept n w (with_parent n w v u)
  with_parent_kept l =
      record {
        same_length = length-set w (parents_at n + v) u;
        same_front = take-set-le (open_at n) w (parents_at n + v) u (omega arith);
        same_map = drop-set-lt (ends_at n) w (parents_at n + v) u (omega arith);
      }

  pub with_parent_same : parents_at n + v < length w → parent_word n (with_parent n w v u) v ≡ u
  with_parent_same l = get_or-set_same w (parents_at n + v) u 0 l

  pub with_parent_other : (p : ℕ) → (p ≡ v → ⊥) → parent_word n (with_parent n w v u) p ≡ parent_word n w p
  with_parent_other p h = get_or-set_other w (parents_at n + v) (parents_at n + p) u 0 (λ e. h (omega arith))

-- the words of the parents, from a to e, were lent and come back filled with the word for none
pub parents_cleared : (n a e : ℕ) (w ys : List ℕ) → a ≡ parents_at n → e ≡ a + n → arcs_at n ≤ length w
    → ys ≡ replicate (length (part a e w)) no_word → NoParents n w (put_mid a (e - a) w ys)
unfolding part
parents_cleared n a e w ys p q room h =
    let same : length ys ≡ length (part a e w) = ap length h ∙ length-replicate (length (part a e w)) no_word in
    let size : length (part a e w) ≡ e - a = part_length a e w (omega arith) in
    record {
      kept = record {
        same_length = back_length a e w ys same;
        same_front = simp sub-zero at (part_back_low a e w ys 0 (open_at n) (omega arith) (omega arith) (omega arith) (omega arith));
        same_map = drop_back a e w ys (ends_at n) (omega arith) (omega arith) same (omega arith);
      };
      none = λ v l.
          rw (← p)
          (back_at a e w ys v (omega arith) (omega arith) same (omega arith)
          ∙ rw h (get_or-replicate (length (part a e w)) v no_word 0 (omega arith)));
    }

-- the parent of a place is in its word
pub parent_word_lem : (n v : ℕ) (w : List ℕ) → parents_at n + v < length w → word_or (parent_word n w v) ≡ parent_at n w v
unfolding parent_at
parent_word_lem n v w h = ap word_or (get_d_default w (parents_at n + v) 0 no_word h)
