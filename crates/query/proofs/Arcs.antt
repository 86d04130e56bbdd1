-- One arc relaxed, and the arcs of a row one after another. Assumes nothing.
use mathlib.Core.Path.{◌≡◌, refl, sym, ap, ◌∙◌}
use mathlib.Core.Logic.{◌⊎◌, inl, inr, ⊎_elim}
use mathlib.Core.List.{List}
use Prim.Native.Nat.{ℕ, ◌+◌, ◌^◌, ◌≤◌, ◌<◌}
use native.Mathlib.Omega.{arith}
use native.Mathlib.Decide.{ℕ_discrete, dec_lt}
use lib.ListN.{length, get_or, drop, length-set}
use borrow.Author.Tests.{lt-ltb, le-ltb}
use Rattle.area.proofs.Parts.{same_before, less_after}
use Rattle.open_list.specs.Entry.{no_key}
use Rattle.map.specs.declared.Site.{Site}
use Rattle.layout.specs.Regions.{depths_at, open_at, parents_at, ends_at, estimates_at, arcs_at, arc_end, arc_cost, HasArc}
use Rattle.layout.specs.Regions.{label_word, depth_word, estimate_word, arc_word, with_depth}
use Rattle.layout.specs.Map.{row_start, row_end}
use Rattle.layout.proofs.Held.{map-word}
use Rattle.layout.proofs.Labels.{with_depth_rest, with_depth_labels, with_depth_same, with_depth_other}
use Rattle.layout.proofs.Rows.{row_begins, row_goes_on, row_ends, has_arc, next_arc}
use Rattle.model.specs.Terms.{NoMore}
use Rattle.model.proofs.Keys.{no_more_on}
use Rattle.query.specs.Open.{open_words, keys}
use Rattle.query.specs.State.{Arrives, Arrived, less_deep, Coherent, ByArc, ByArcs, Fell, Nearer, Stays, Relaxed, Relaxes}
use Rattle.query.specs.State.{Expands, RowRelaxed, Expanding}
use Rattle.query.proofs.Regions.{map_same, open_same}
use Rattle.query.proofs.Coherence.{KeySet, own_key, other_key, still_coherent}

-- a label that an arc may fall below is above no key that its place has
below_key : {n hand : ℕ} {w : List ℕ} → Coherent n hand w → (v e : ℕ) → v < n → e < label_word w v → e < no_key → e ≤ get_or (keys n hand w) v 0
below_key c v e h l s = ⊎_elim (λ q. omega arith) (λ q. omega arith) (c.key_label v h)

-- nothing has moved, and nothing was more than the arcs give
unmoved : {n k hand : ℕ} {By : ℕ → ℕ → Type 0} {w : List ℕ} → Coherent n hand w
    → ((v e : ℕ) → v < n → By v e → NoMore (label_word w v) (depth_word n w v) e k) → Relaxed n By k hand w hand w
unmoved c reached =
    record {
      same_length = refl;
      same_rest = refl;
      coherent = c;
      reached = reached;
      moved = λ u l. inl (record { label = refl; key = refl; depth = inl refl });
    }

-- what reaching v again at its label's cost does: along fewer arcs, and along no fewer
module _ (n v k : ℕ) (w : List ℕ) where
  pub again_fewer : k < depth_word n w v → less_deep n v k w ≡ with_depth n w v k
  unfolding less_deep
  again_fewer h = rw (lt-ltb k (depth_word n w v) h)

  pub again_no_fewer : depth_word n w v ≤ k → less_deep n v k w ≡ w
  unfolding less_deep
  again_no_fewer h = rw (le-ltb k (depth_word n w v) h)

-- the arc leads to v and costs c
module _ (n hand d x : ℕ) (w : List ℕ) (r : Relaxes n hand d x w) (v c : ℕ) (p : v ≡ arc_end x) (q : c ≡ arc_cost x) where
  end_in : v < n
  end_in = rw p r.arc.end_in

  sum-some : d + c < no_key
  sum-some = omega (arith, r.arc.label_below)

  pub relax_fits : d + c + estimate_word n w v < 2 ^ 32
  relax_fits = rw (p, q) (omega (arith, r.arc.label_below, r.arc.estimate_below))

  pub relax_arrives : d + c < label_word w v → Arrives n hand v (d + c) w
  unfolding keys
  relax_arrives l =
      record {
        regions = r.coherent.regions;
        lowers = record { list = r.coherent.list; place_in = end_in; some = sum-some; below = below_key r.coherent v (d + c) end_in l sum-some };
      }

  -- what it gives is its end at cost d + c, within the limit
  only_end : (limit k : ℕ) (w' : List ℕ)
      → (d + c + estimate_word n w v ≤ limit → NoMore (label_word w' v) (depth_word n w' v) (d + c) k)
      → (u e : ℕ) → u < n → ByArc n limit d x w u e → NoMore (label_word w' u) (depth_word n w' u) e k
  only_end limit k w' at_end u e l b =
      let end : v ≡ u = p ∙ b.ends in
      let sum : d + c ≡ e = ap (λ (y : ℕ). d + y) q ∙ b.sum in
      rw (end, sum) at (at_end (rw (end, sum) b.within))

  -- it leads to a place that has less, or beyond the limit
  pub relax_passes : (limit k : ℕ) → (label_word w v < d + c) ⊎ (limit < d + c + estimate_word n w v) → Relaxed n (ByArc n limit d x w) k hand w hand w
  relax_passes limit k h =
      unmoved r.coherent (only_end limit k w (λ within.
      ⊎_elim (λ z. record { first = omega arith; second = λ t. absurd (omega arith) }) (λ z. absurd (omega arith)) h))

  -- it gives the cost that its end has
  module _ (limit k : ℕ) (same : label_word w v ≡ d + c) (within : d + c + estimate_word n w v ≤ limit) where
    by_label : ByArc n limit d x w v (label_word w v)
    by_label = rw same (record { ends = sym p; sum = omega arith; within = within })

    -- along no fewer arcs
    relax_no_fewer : depth_word n w v ≤ k → Relaxed n (ByArc n limit d x w) k hand w hand w
    relax_no_fewer h = unmoved r.coherent (only_end limit k w (λ within. record { first = omega arith; second = λ t. h }))

    -- along fewer
    module _ (h : k < depth_word n w v) where
      abbrev nearer : List ℕ
      nearer = with_depth n w v k

      size : length nearer ≡ length w
      size = length-set w (depths_at n + v) k

      label : (u : ℕ) → u < n → label_word nearer u ≡ label_word w u
      label u l = same_before n w nearer u (with_depth_labels n w v k) l

      list : open_words n nearer ≡ open_words n w
      list = open_same n w nearer (with_depth_rest n w v k end_in)

      key : (u : ℕ) → get_or (keys n hand nearer) u 0 ≡ get_or (keys n hand w) u 0
      unfolding keys
      key u = rw list

      depth : depth_word n nearer v ≡ k
      depth = with_depth_same n w v k (omega (arith, end_in, r.coherent.regions.room))

      relax_fewer : Relaxed n (ByArc n limit d x w) k hand w hand nearer
      relax_fewer =
          record {
            same_length = size;
            same_rest = less_after (parents_at n) (open_at n) w nearer (omega arith) (with_depth_rest n w v k end_in);
            coherent = record {
              regions = record { few = r.coherent.regions.few; room = omega (arith, size, r.coherent.regions.room) };
              list = rw list r.coherent.list;
              key_label = λ u l. ⊎_elim (λ z. inl (key u ∙ z)) (λ z. inr (key u ∙ z ∙ sym (label u l))) (r.coherent.key_label u l);
            };
            reached = only_end limit k nearer (λ within. record { first = omega (arith, label v end_in); second = λ t. omega (arith, depth) });
            moved = λ u l. inl (record { label = label u l; key = key u; depth = go u l (ℕ_discrete u v) });
          }
        where
          go : (u : ℕ) → u < n → Dec (u ≡ v) → (depth_word n nearer u ≡ depth_word n w u) ⊎ Nearer n (ByArc n limit d x w) k w nearer u
          go u l (yes z) = rw z (inr (record { fewer = h; depth = depth; by = rw (label v end_in) by_label }))
          go u l (no z) = inl (with_depth_other n w v k u z)

    pub relax_again : Relaxed n (ByArc n limit d x w) k hand w hand (less_deep n v k w)
    relax_again = go (dec_lt k (depth_word n w v))
      where
        go : Dec (k < depth_word n w v) → Relaxed n (ByArc n limit d x w) k hand w hand (less_deep n v k w)
        go (yes l) = rw (again_fewer n v k w l) (relax_fewer l)
        go (no l) = rw (again_no_fewer n v k w (omega arith)) (relax_no_fewer (omega arith))

  -- it gives a lower cost
  module _ (k hand' : ℕ) (w' : List ℕ) (a : Arrived n v (d + c) k hand w hand' w') where
    key_set : KeySet n hand w v (d + c) hand' w'
    key_set =
        record {
          coherent = r.coherent;
          place = end_in;
          keys_set = a.keys_set;
          list = a.list;
          same_length = a.same_length;
          other_labels = a.other_labels;
          label = inr (sym a.label);
        }

    pub relax_falls : (limit : ℕ) → d + c < label_word w v → d + c + estimate_word n w v ≤ limit → Relaxed n (ByArc n limit d x w) k hand w hand' w'
    relax_falls limit l within =
        record {
          same_length = a.same_length;
          same_rest = a.same_rest;
          coherent = still_coherent key_set;
          reached = only_end limit k w' (λ within. record { first = omega (arith, a.label); second = λ t. omega (arith, a.depth) });
          moved = λ u h. go u h (ℕ_discrete u v);
        }
      where
        go : (u : ℕ) → u < n → Dec (u ≡ v) → Stays n (ByArc n limit d x w) k hand w hand' w' u ⊎ Fell n (ByArc n limit d x w) k w hand' w' u
        go u h (yes z) =
            rw z (inr (record {
              lower = omega (arith, a.label);
              key = own_key key_set ∙ sym a.label;
              depth = a.depth;
              by = rw a.label (record { ends = sym p; sum = omega arith; within = within });
            }))
        go u h (no z) =
            inl (record { label = a.other_labels u h z; key = other_key key_set u z; depth = inl (a.other_depths u h z) })

-- no label with its depth is more than it was
pub no_more : {n : ℕ} {By : ℕ → ℕ → Type 0} {k h₀ : ℕ} {w₀ : List ℕ} {h : ℕ} {w : List ℕ} → Relaxed n By k h₀ w₀ h w
    → (v : ℕ) → v < n → NoMore (label_word w v) (depth_word n w v) (label_word w₀ v) (depth_word n w₀ v)
no_more {n = n} {w₀ = w₀} {w = w} r v l =
    ⊎_elim
    (λ s. record {
      first = omega (arith, s.label);
      second = λ q. ⊎_elim (λ e. omega arith) (λ g. omega (arith, g.fewer, g.depth)) s.depth;
    })
    (λ f. record { first = omega (arith, f.lower); second = λ q. absurd (omega (arith, f.lower)) })
    (r.moved v l)

-- relaxing twice
module _ (n : ℕ) (A B C : ℕ → ℕ → Type 0) (split : (v e : ℕ) → C v e → A v e ⊎ B v e) (first : (v e : ℕ) → A v e → C v e)
    (second : (v e : ℕ) → B v e → C v e) (k h₀ : ℕ) (w₀ : List ℕ) (h₁ : ℕ) (w₁ : List ℕ) (h₂ : ℕ) (w₂ : List ℕ)
    (a : Relaxed n A k h₀ w₀ h₁ w₁) (b : Relaxed n B k h₁ w₁ h₂ w₂) where
  both_depths : (v : ℕ) → label_word w₂ v ≡ label_word w₁ v → (depth_word n w₁ v ≡ depth_word n w₀ v) ⊎ Nearer n A k w₀ w₁ v
      → (depth_word n w₂ v ≡ depth_word n w₁ v) ⊎ Nearer n B k w₁ w₂ v → (depth_word n w₂ v ≡ depth_word n w₀ v) ⊎ Nearer n C k w₀ w₂ v
  both_depths v label (inl i) (inl j) = inl (j ∙ i)
  both_depths v label (inl i) (inr g) = inr (record { fewer = omega (arith, g.fewer); depth = g.depth; by = second v _ g.by })
  both_depths v label (inr f) (inl j) = inr (record { fewer = f.fewer; depth = j ∙ f.depth; by = rw label (first v _ f.by) })
  both_depths v label (inr f) (inr g) = absurd (omega (arith, f.depth, g.fewer))

  -- a depth that is k already falls no further
  stays_at : (v : ℕ) → depth_word n w₁ v ≡ k → (depth_word n w₂ v ≡ depth_word n w₁ v) ⊎ Nearer n B k w₁ w₂ v → depth_word n w₂ v ≡ k
  stays_at v is (inl j) = j ∙ is
  stays_at v is (inr g) = g.depth

  both_moved : (v : ℕ) → Stays n A k h₀ w₀ h₁ w₁ v ⊎ Fell n A k w₀ h₁ w₁ v → Stays n B k h₁ w₁ h₂ w₂ v ⊎ Fell n B k w₁ h₂ w₂ v
      → Stays n C k h₀ w₀ h₂ w₂ v ⊎ Fell n C k w₀ h₂ w₂ v
  both_moved v (inl s) (inl t) =
      inl (record { label = t.label ∙ s.label; key = t.key ∙ s.key; depth = both_depths v t.label s.depth t.depth })
  both_moved v (inl s) (inr g) =
      inr (record { lower = omega (arith, g.lower, s.label); key = g.key; depth = g.depth; by = second v _ g.by })
  both_moved v (inr f) (inl t) =
      let key = t.key ∙ f.key ∙ sym t.label in
      let depth = stays_at v f.depth t.depth in
      inr (record { lower = omega (arith, f.lower, t.label); key = key; depth = depth; by = rw t.label (first v _ f.by) })
  both_moved v (inr f) (inr g) =
      inr (record { lower = omega (arith, f.lower, g.lower); key = g.key; depth = g.depth; by = second v _ g.by })

  relaxed_both : Relaxed n C k h₀ w₀ h₂ w₂
  relaxed_both =
      record {
        same_length = b.same_length ∙ a.same_length;
        same_rest = b.same_rest ∙ a.same_rest;
        coherent = b.coherent;
        reached = λ v e h c. ⊎_elim (λ i. no_more_on (no_more b v h) (a.reached v e h i)) (λ j. b.reached v e h j) (split v e c);
        moved = λ v h. both_moved v (a.moved v h) (b.moved v h);
      }

-- what an arc gives depends on the map alone
by_same : (n limit d x : ℕ) (w₀ w : List ℕ) → drop (ends_at n) w ≡ drop (ends_at n) w₀ → (v e : ℕ) → ByArc n limit d x w v e → ByArc n limit d x w₀ v e
by_same n limit d x w₀ w same v e b =
    let estimate = map-word n w w₀ same (estimates_at n + v) (omega arith) in
    record { ends = b.ends; sum = b.sum; within = rw estimate at b.within }

-- one arc more of the row
module _ (n limit d u k : ℕ) (w₀ w : List ℕ) (same : drop (ends_at n) w ≡ drop (ends_at n) w₀) where
  abbrev Next : ℕ → ℕ → Type 0
  Next = ByArc n limit d (arc_word n w k) w

  word : arc_word n w k ≡ arc_word n w₀ k
  word = map-word n w w₀ same (arcs_at n + k) (omega arith)

  by_earlier : (v e : ℕ) → ByArcs n limit d u k w₀ v e → ByArcs n limit d u (k + 1) w₀ v e
  by_earlier v e b = record { number = b.number; from = b.from; before = omega (arith, b.before); by = b.by }

  by_next : row_start n w₀ u ≤ k → (v e : ℕ) → Next v e → ByArcs n limit d u (k + 1) w₀ v e
  by_next from v e b = record { number = k; from = from; before = omega arith; by = rw word at (by_same n limit d (arc_word n w k) w₀ w same v e b) }

  earlier_or_next : (v e : ℕ) → ByArcs n limit d u (k + 1) w₀ v e → ByArcs n limit d u k w₀ v e ⊎ Next v e
  earlier_or_next v e b = go (dec_lt b.number k)
    where
      go : Dec (b.number < k) → ByArcs n limit d u k w₀ v e ⊎ Next v e
      go (yes l) = inl (record { number = b.number; from = b.from; before = l; by = b.by })
      go (no l) =
          let last : b.number ≡ k = omega (arith, b.before) in
          inr (rw word (by_same n limit d (arc_word n w₀ k) w w₀ (sym same) v e (rw last at b.by)))

module _ (s : Site) (limit hand₀ u d : ℕ) (w₀ : List ℕ) (x : Expands s hand₀ u d w₀) where
  abbrev places : ℕ
  places = s.places

  pub expanding_starts : (k j end : ℕ) → k ≡ depth_word places w₀ u + 1 → j ≡ row_start places w₀ u → end ≡ row_end places w₀ u
      → Expanding places limit u d end k hand₀ w₀ hand₀ w₀ j
  expanding_starts k j end o p q =
      record {
        inside = row_begins s w₀ x.holds u j end x.place p q;
        one_more = o;
        relaxed = unmoved x.coherent (λ v e h b. absurd (omega (arith, b.from, b.before)));
      }

  module _ (end k hand : ℕ) (w : List ℕ) (j : ℕ) (going : Expanding places limit u d end k hand₀ w₀ hand w j) where
    same : drop (ends_at places) w ≡ drop (ends_at places) w₀
    same = map_same places w₀ w going.relaxed.same_rest

    pub expanding_arc : j < end → HasArc places j w
    expanding_arc l = has_arc places u j end w₀ w going.relaxed.same_length going.inside l

    pub expanding_relaxes : j < end → Relaxes places hand d (arc_word places w j) w
    expanding_relaxes l =
        let arc = next_arc s w₀ w going.relaxed.same_length same x.holds d u j end x.label_below going.inside l in
        record { coherent = going.relaxed.coherent; arc = arc }

    pub expanding_on : j < end → (hand' : ℕ) (w' : List ℕ) → Relaxed places (ByArc places limit d (arc_word places w j) w) k hand w hand' w'
        → Expanding places limit u d end k hand₀ w₀ hand' w' (j + 1)
    expanding_on l hand' w' r =
        record {
          inside = row_goes_on places u j end w₀ going.inside l;
          one_more = going.one_more;
          relaxed =
              relaxed_both places _ _ _ (earlier_or_next places limit d u j w₀ w same) (by_earlier places limit d u j w₀ w same)
              (by_next places limit d u j w₀ w same going.inside.from_start) k hand₀ w₀ hand w hand' w' going.relaxed r;
        }

    pub expanding_ends : end ≤ j → RowRelaxed s limit u d hand₀ w₀ hand w
    expanding_ends l = rw (← row_ends places u j end w₀ going.inside l, ← going.one_more) going.relaxed
