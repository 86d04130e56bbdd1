-- One turn of a query's search: the first open place is closed and its arcs are relaxed, and the search is still under way.
-- Assumes nothing.
use mathlib.Core.Path.{◌≡◌, refl, sym, ap, ◌∙◌}
use mathlib.Core.Logic.{◌⊎◌, inl, inr, ⊎_elim}
use mathlib.Core.Bool.{true}
use mathlib.Core.List.{List}
use mathlib.Core.Option.{some}
use Prim.Native.Nat.{ℕ, ◌+◌, ◌^◌, ◌≤◌, ◌<◌}
use native.Mathlib.Omega.{arith}
use native.Mathlib.Decide.{ℕ_discrete, dec_lt}
use lib.ListN.{length, get_or, drop}
use Rattle.area.proofs.Parts.{same_before}
use Rattle.open_list.specs.Entry.{no_key}
use Rattle.map.specs.declared.Site.{Site}
use Rattle.layout.specs.Regions.{open_at, ends_at, label_word, depth_word, arc_word}
use Rattle.layout.specs.Map.{row_start, row_end, arc_in, problem_at, Holds}
use Rattle.layout.specs.Labels.{no_word, labels}
use Rattle.layout.proofs.Held.{problem_same, holds_same, arc_at, at_arc, estimate_word_lem}
use Rattle.layout.proofs.Labels.{HasLabel, label_is, is_label, at_most, labels_kept, depth_kept}
use Rattle.model.specs.Problem.{Problem, Arc, IsArc, IsGoal}
use Rattle.model.specs.Costs.{cost_at}
use Rattle.model.specs.Terms.{AtMost, NoMore}
use Rattle.model.proofs.Lists.{not_true_false}
use Rattle.model.proofs.Same.{bool_ext}
use Rattle.query.specs.Front.{FirstOpen, Gives, Expanded, Deepened, also}
use Rattle.query.specs.Open.{keys, settled_at}
use Rattle.query.specs.Query.{Askable}
use Rattle.query.specs.State.{Coherent, Settles, Settled, ByRow, Fell, Expands, RowRelaxed, Searching}
use Rattle.query.proofs.Open.{settled_is, is_settled}
use Rattle.query.proofs.Settling.{also_same, also_other, keeps_label, next_front}
use Rattle.query.proofs.Counting.{count_also, count_at_most}
use Rattle.query.proofs.Regions.{listed_same, map_same}
use Rattle.query.proofs.Listing.{lists_same, lists_also}
use Rattle.query.proofs.Coherence.{KeySet, own_key, other_key, still_coherent}
use Rattle.query.proofs.Fewest.{next_fewest}
use Rattle.query.proofs.Arcs.{no_more}
use Rattle.query.proofs.QueryUnderway.{label_below, depth_below, Taken}

-- a place with the same label and the same key is settled or not as before
settled_same : (n h₀ : ℕ) (w₀ : List ℕ) (h : ℕ) (w : List ℕ) (v : ℕ) → (v < n → label_word w v ≡ label_word w₀ v)
    → get_or (keys n h w) v 0 ≡ get_or (keys n h₀ w₀) v 0 → settled_at n h w v ≡ settled_at n h₀ w₀ v
settled_same n h₀ w₀ h w v label key =
    bool_ext (settled_at n h w v) (settled_at n h₀ w₀ v) (to h w h₀ w₀ label key) (to h₀ w₀ h w (λ l. sym (label l)) (sym key))
  where
    to : (h : ℕ) (w : List ℕ) (h' : ℕ) (w' : List ℕ) → (v < n → label_word w v ≡ label_word w' v)
        → get_or (keys n h w) v 0 ≡ get_or (keys n h' w') v 0 → settled_at n h w v ≡ true → settled_at n h' w' v ≡ true
    to h w h' w' label key t =
        let s = settled_is n h w v t in
        is_settled n h' w' v (record { place = s.place; label = λ q. s.label (label s.place ∙ q); key = sym key ∙ s.key })

-- the arcs of u, labelled d, are those of its row: once they are relaxed, u is expanded
module _ (s : Site) (limit u d h₀ : ℕ) (w₀ : List ℕ) (holds : Holds s w₀) (place : u < s.places) (small : limit < 2 ^ 30)
    (h : ℕ) (w : List ℕ) (r : RowRelaxed s limit u d h₀ w₀ h w) where
  abbrev n : ℕ
  n = s.places

  abbrev p : Problem
  p = problem_at s w₀

  -- the depth that an arc of u gives
  abbrev k : ℕ
  k = depth_word n w₀ u + 1

  room : n ≤ length w
  room = omega (arith, r.coherent.regions.room)

  room₀ : n ≤ length w₀
  room₀ = omega (arith, room, r.same_length)

  row_by : (a : Arc) → IsArc p a → a.from ≡ u → d + a.cost + p.estimate a.to ≤ limit
      → NoMore (label_word w a.to) (depth_word n w a.to) (d + a.cost) k
  unfolding problem_at
  row_by a i f l =
      let at = arc_at s w₀ a i in
      let to : a.to < n = holds.valid.arc_to a i in
      let estimate = estimate_word_lem s w₀ a.to to in
      r.reached a.to (d + a.cost) to
      (record {
        number = at.number;
        from = omega (arith, at.begins, ap (row_start n w₀) f);
        before = omega (arith, at.ends, ap (row_end n w₀) f);
        by = record { ends = at.to; sum = omega (arith, at.cost); within = omega arith };
      })

  row_reached : (a : Arc) → IsArc p a → a.from ≡ u → d + a.cost + p.estimate a.to ≤ limit
      → AtMost (cost_at (labels n w) a.to) (d + a.cost)
  unfolding problem_at
  row_reached a i f l = at_most n w room a.to (d + a.cost) (holds.valid.arc_to a i) (row_by a i f l).first (omega arith)

  -- what By gives an arc of u gives
  row_gives : (v y : ℕ) → v < n → ByRow n limit d u w₀ v y → Gives p limit u d v y
  unfolding arc_in
  row_gives v y l b =
      let estimate = estimate_word_lem s w₀ v l in
      record {
        arc = arc_in u (arc_word n w₀ b.number);
        is_arc = at_arc s w₀ holds u b.number place b.from b.before;
        from = refl;
        to = b.by.ends;
        sum = b.by.sum;
        within = omega (arith, b.by.within);
      }

  row_deep_sound : (v y : ℕ) → cost_at (labels n w) v ≡ some y
      → ((cost_at (labels n w₀) v ≡ some y) × (depth_word n w v ≡ depth_word n w₀ v)) ⊎ (Gives p limit u d v y × (depth_word n w v ≡ k))
  row_deep_sound v y e =
      ⊎_elim
      (λ t. ⊎_elim (λ same. inl (stayed t.label, same)) (λ g. inr (given g.by, g.depth)) t.depth)
      (λ f. inr (given f.by, f.depth))
      (r.moved v l.place)
    where
      l : HasLabel n w v y
      l = label_is n w room v y e

      stayed : label_word w v ≡ label_word w₀ v → cost_at (labels n w₀) v ≡ some y
      stayed same = is_label n w₀ room₀ v y (record { place = l.place; word = sym same ∙ l.word; some = l.some })

      given : ByRow n limit d u w₀ v (label_word w v) → Gives p limit u d v y
      given b = row_gives v y l.place (rw l.word at b)

  row_sound : (v y : ℕ) → cost_at (labels n w) v ≡ some y → (cost_at (labels n w₀) v ≡ some y) ⊎ Gives p limit u d v y
  row_sound v y e = ⊎_elim (λ t. inl t.0) (λ g. inr g.0) (row_deep_sound v y e)

  row_kept : (v y : ℕ) → AtMost (cost_at (labels n w₀) v) y → AtMost (cost_at (labels n w) v) y
  row_kept v y a =
      let l = label_is n w₀ room₀ v a.cost a.is in
      let kept : (label_word w v ≡ no_word → ⊥) → AtMost (cost_at (labels n w) v) y = λ some.
      let is = is_label n w room v (label_word w v) (record { place = l.place; word = refl; some = some }) in
      record { cost = label_word w v; is = is; below = omega (arith, l.word, a.below, (no_more r v l.place).first) } in
      ⊎_elim (λ t. kept (λ q. l.some (sym l.word ∙ sym t.label ∙ q))) (λ f. kept (λ q. omega (arith, f.by.by.within)))
      (r.moved v l.place)

  row_expanded : Expanded p limit u d (λ v. cost_at (labels n w₀) v) (λ v. cost_at (labels n w) v)
  row_expanded = record { kept = row_kept; reached = row_reached; sound = row_sound }

  row_deepened : Deepened p limit u d k (λ v. cost_at (labels n w₀) v) (depth_word n w₀) (λ v. cost_at (labels n w) v) (depth_word n w)
  row_deepened =
      record {
        kept = λ v x y e f.
            let before = label_is n w₀ room₀ v x e in
            rw (← before.word, ← (label_is n w room v y f).word) (no_more r v before.place);
        reached = λ a y i f l e. rw (← (label_is n w room a.to y e).word) (row_by a i f l);
        sound = row_deep_sound;
      }

-- v is settled, and the words are w₁
module _ (n hand count v : ℕ) (w : List ℕ) (coherent : Coherent n hand w) (place : v < n) (hand₁ : ℕ) (w₁ : List ℕ)
    (c : Settled n count v hand w hand₁ w₁) where
  label_same : (u : ℕ) → u < n → label_word w₁ u ≡ label_word w u
  label_same u h = same_before (open_at n) w w₁ u c.kept.same_front (omega arith)

  key_set : KeySet n hand w v no_key hand₁ w₁
  key_set =
      record {
        coherent = coherent;
        place = place;
        keys_set = c.keys_set;
        list = c.list;
        same_length = c.kept.same_length;
        other_labels = λ u h q. label_same u h;
        label = inl refl;
      }

  -- a labelled place that is settled is so besides those that were
  settled_also : (label_word w v ≡ no_word → ⊥) → (u : ℕ) → settled_at n hand₁ w₁ u ≡ also (settled_at n hand w) v u
  settled_also l u = go (ℕ_discrete u v)
    where
      go : Dec (u ≡ v) → settled_at n hand₁ w₁ u ≡ also (settled_at n hand w) v u
      go (yes q) =
          let label : label_word w₁ v ≡ no_word → ⊥ = λ e. l (sym (label_same v place) ∙ e) in
          let settled = is_settled n hand₁ w₁ v (record { place = place; label = label; key = own_key key_set }) in
          rw q settled ∙ sym (also_same (settled_at n hand w) v u q)
      go (no q) = settled_same n hand w hand₁ w₁ u (label_same u) (other_key key_set u q) ∙ sym (also_other (settled_at n hand w) v u q)

module _ {s : Site} {limit budget left : ℕ} {w₀ : List ℕ} {hand : ℕ} {w : List ℕ} {count v d : ℕ}
    (t : Taken s limit budget left w₀ hand w count v d) where
  abbrev places : ℕ
  places = s.places

  ask : Askable s limit w₀
  ask = t.under.ask

  searching : Searching s limit budget left w₀ hand w count
  searching = t.under.search

  f : FirstOpen (λ u. cost_at (labels places w) u) (settled_at places hand w) v d
  f = t.first

  words : places ≤ length w
  words = omega (arith, searching.coherent.regions.room)

  first_label : HasLabel places w v d
  first_label = label_is places w words v d f.is_labelled

  pub count_below_lem : count < places
  count_below_lem =
      let more = count_also (settled_at places hand w) v places t.place f.is_open in
      omega (arith, searching.counted, count_at_most (also (settled_at places hand w) v) places)

  pub turn_settles : Settles places hand count v w
  turn_settles = record { coherent = searching.coherent; place = t.place; more = count_below_lem }

  module _ (hand₁ : ℕ) (w₁ : List ℕ) (c : Settled places count v hand w hand₁ w₁) where
    same_map : drop (ends_at places) w₁ ≡ drop (ends_at places) w₀
    same_map = c.kept.same_map ∙ searching.same_map

    holds₁ : Holds s w₁
    holds₁ = holds_same s w₁ w₀ same_map (c.kept.same_length ∙ searching.same_length) ask.holds

    depth_same : depth_word places w₁ v ≡ depth_word places w v
    depth_same = depth_kept places w w₁ c.kept v t.place

    pub turn_expands : Expands s hand₁ v d w₁
    turn_expands =
        record {
          holds = holds₁;
          coherent = still_coherent (key_set places hand count v w searching.coherent t.place hand₁ w₁ c);
          place = t.place;
          label_below = label_below s t.under v d f.is_labelled;
          depth_below = rw depth_same (depth_below s t.under v d f.is_labelled);
        }

    module _ (no_goal : IsGoal (problem_at s w₀) v → ⊥) (hand₂ : ℕ) (w₂ : List ℕ)
        (r : RowRelaxed s limit v d hand₁ w₁ hand₂ w₂) where
      expanded : Expanded (problem_at s w₀) limit v d (λ u. cost_at (labels places w) u) (λ u. cost_at (labels places w₂) u)
      expanded =
          rw (problem_same s w₁ w₀ same_map, labels_kept places w w₁ c.kept)
          at (row_expanded s limit v d hand₁ w₁ holds₁ t.place ask.limit_below hand₂ w₂ r)

      deepened : Deepened (problem_at s w₀) limit v d (depth_word places w v + 1) (λ u. cost_at (labels places w) u) (depth_word places w)
          (λ u. cost_at (labels places w₂) u) (depth_word places w₂)
      deepened =
          let x = row_deepened s limit v d hand₁ w₁ holds₁ t.place ask.limit_below hand₂ w₂ r in
          let y = rw (problem_same s w₁ w₀ same_map, labels_kept places w w₁ c.kept, depth_same) at x in
          record {
            kept = λ u x z e f.
                let place = (label_is places w words u x e).place in
                rw (depth_kept places w w₁ c.kept u place) at (y.kept u x z e f);
            reached = y.reached;
            sound = λ u z e.
                let place = (label_is places w₂ (omega (arith, r.coherent.regions.room)) u z e).place in
                rw (depth_kept places w w₁ c.kept u place) at (y.sound u z e);
          }

      settled₁ : (u : ℕ) → settled_at places hand₁ w₁ u ≡ also (settled_at places hand w) v u
      settled₁ =
          let word_some : label_word w v ≡ no_word → ⊥ = λ q. first_label.some (sym first_label.word ∙ q) in
          settled_also places hand count v w searching.coherent t.place hand₁ w₁ c word_some

      -- a label that has fallen is that of a place that was not settled, nor is v
      fell_open : (u : ℕ) → Fell places (ByRow places limit d v w₁) (depth_word places w₁ v + 1) w₁ hand₂ w₂ u → u < places
          → also (settled_at places hand w) v u ≡ true → ⊥
      fell_open u g h a =
          let x = labelled (ℕ_discrete u v) in
          let keeps = keeps_label (problem_at s w₀) ask.holds.valid limit (λ u. cost_at (labels places w) u) (settled_at places hand w)
          searching.front v d f (λ u. cost_at (labels places w₂) u) expanded u x.0 a x.1 in
          let before = label_is places w words u x.0 x.1 in
          let after = label_is places w₂ (omega (arith, r.coherent.regions.room)) u x.0 keeps in
          omega (arith, g.lower, same_before (open_at places) w w₁ u c.kept.same_front (omega arith), before.word, after.word)
        where
          labelled : Dec (u ≡ v) → (y : ℕ) × (cost_at (labels places w) u ≡ some y)
          labelled (yes q) = (d, rw q f.is_labelled)
          labelled (no q) = searching.front.labelled u (sym (also_other (settled_at places hand w) v u q) ∙ a)

      settled₂ : (u : ℕ) → settled_at places hand₂ w₂ u ≡ also (settled_at places hand w) v u
      settled₂ u = go (dec_lt u places)
        where
          go : Dec (u < places) → settled_at places hand₂ w₂ u ≡ also (settled_at places hand w) v u
          go (yes h) =
              ⊎_elim (λ z. settled_same places hand₁ w₁ hand₂ w₂ u (λ l. z.label) z.key ∙ settled₁ u)
              (λ g.
              let is_open = not_true_false (settled_at places hand₂ w₂ u)
              (λ a. let z = settled_is places hand₂ w₂ u a in z.label (sym g.key ∙ z.key)) in
              is_open ∙ sym (not_true_false (also (settled_at places hand w) v u) (fell_open u g h)))
              (r.moved u h)
          go (no h) =
              let never = not_true_false (settled_at places hand₂ w₂ u) (λ a. h (settled_is places hand₂ w₂ u a).place) in
              let unsettled = not_true_false (settled_at places hand₁ w₁ u) (λ a. h (settled_is places hand₁ w₁ u a).place) in
              never ∙ sym unsettled ∙ settled₁ u

      pub searching_on : (count ≡ budget → ⊥) → (count ≡ left → ⊥) → Searching s limit budget left w₀ hand₂ w₂ (count + 1)
      searching_on b l =
          let same : settled_at places hand₂ w₂ ≡ also (settled_at places hand w) v = λ i u. settled₂ u i in
          let more = count_also (settled_at places hand w) v places t.place f.is_open in
          let listed = listed_same places w₁ w₂ r.same_rest in
          let front = next_front (problem_at s w₀) ask.holds.valid limit (λ u. cost_at (labels places w) u) (settled_at places hand w)
          searching.front v d f (λ u. cost_at (labels places w₂) u) expanded no_goal in
          let fewest = next_fewest (problem_at s w₀) ask.holds.valid limit (λ u. cost_at (labels places w) u) (depth_word places w)
          (settled_at places hand w) searching.front searching.fewest v d f (λ u. cost_at (labels places w₂) u) (depth_word places w₂)
          expanded deepened in
          let list = lists_also places count v (settled_at places hand w) w w₂ count_below_lem (listed count ∙ c.listed)
          (λ i h. listed i ∙ c.listed_before i h) searching.listed in
          record {
            same_map = map_same places w₁ w₂ r.same_rest ∙ same_map;
            same_length = r.same_length ∙ c.kept.same_length ∙ searching.same_length;
            coherent = r.coherent;
            front = rw same front;
            fewest = rw same fewest;
            counted = rw same (omega (arith, searching.counted));
            listed = lists_same (λ u e. settled₂ u ∙ e) (λ u e. sym (settled₂ u) ∙ e) list;
            in_budget = omega (arith, searching.in_budget);
            lasts = omega (arith, searching.lasts);
          }
