-- A query's search under way: how it begins, and what the first of the open list says of it. Assumes nothing.
use mathlib.Core.Path.{◌≡◌, refl, sym, ap, ◌∙◌}
use mathlib.Core.Logic.{inl, inr, ⊎_elim}
use mathlib.Core.Bool.{Bool, true, false, not}
use mathlib.Core.List.{List}
use mathlib.Core.Option.{Option, some}
use Prim.Native.Nat.{ℕ, ◌^◌, ◌≤◌, ◌<◌}
use native.Mathlib.Omega.{arith}
use native.Mathlib.Decide.{ℕ_discrete, dec_lt}
use lib.Dec.{eqb}
use lib.ListN.{length, get_or, drop, get_or-replicate}
use borrow.Author.Tests.{eqb-true, eqb-false, not-true, not-false}
use Rattle.area.specs.Part.{part}
use Rattle.open_list.specs.Entry.{no_key}
use Rattle.open_list.specs.Keys.{OpenList, LeastKey, keys_of, empty_hand}
use Rattle.map.specs.declared.Site.{Site}
use Rattle.layout.specs.Regions.{open_at, parents_at, ends_at, label_word, depth_word, goal_word, HasPlace}
use Rattle.layout.specs.Map.{problem_at}
use Rattle.layout.specs.Labels.{no_word, labels}
use Rattle.layout.proofs.Held.{problem_same, holds_same, few_places_lem, map_room, goal_mark, mark_goal}
use Rattle.layout.proofs.Labels.{HasLabel, label_is, is_label}
use Rattle.model.specs.Problem.{IsGoal}
use Rattle.model.specs.Paths.{stay, on, arc_count, PathTo, Within}
use Rattle.model.specs.Costs.{cost_at}
use Rattle.model.specs.Terms.{AtMost}
use Rattle.model.proofs.Lists.{not_true_false}
use Rattle.model.proofs.LeastCosts.{end_below}
use Rattle.scans.specs.Area.{Listed}
use Rattle.query.specs.Front.{Through, FewestFound, FirstOpen, NoneOpen}
use Rattle.query.specs.Open.{open_words, keys, settled_at}
use Rattle.query.specs.Query.{Askable}
use Rattle.query.specs.State.{HasRegions, Clears, Blank, Arrives, Arrived, Searching}
use Rattle.query.proofs.Open.{HasSettled, settled_is, is_settled}
use Rattle.query.proofs.Settling.{not_both}
use Rattle.query.proofs.Counting.{count_none}
use Rattle.query.proofs.Front.{begin_front}
use Rattle.query.proofs.Fewest.{depth_at_most}
use Rattle.query.proofs.Regions.{open_part, begun-map}
use Rattle.query.proofs.Listing.{lists_same}
use Rattle.query.proofs.Coherence.{coherent_length, KeySet, own_key, still_coherent}

-- a search under way over words that may be asked
pub record QueryUnderway (s : Site) (limit budget left : ℕ) (w₀ : List ℕ) (hand : ℕ) (w : List ℕ) (count : ℕ) : Type 0 where
  pub ask : Askable s limit w₀
  pub search : Searching s limit budget left w₀ hand w count

-- the first open place, taken from the open list of a search under way
pub record Taken (s : Site) (limit budget left : ℕ) (w₀ : List ℕ) (hand : ℕ) (w : List ℕ) (count v d : ℕ) : Type 0 where
  pub under : QueryUnderway s limit budget left w₀ hand w count
  pub place : v < s.places
  pub first : FirstOpen (λ u. cost_at (labels s.places w) u) (settled_at s.places hand w) v d

module _ (s : Site) where
  abbrev n : ℕ
  n = s.places

  module _ {limit : ℕ} {w : List ℕ} (ask : Askable s limit w) where
    ask_start : s.start < n
    unfolding problem_at
    ask_start = ask.holds.valid.start_below

    ask_regions : (w' : List ℕ) → length w' ≡ length w → HasRegions n w'
    ask_regions w' len = record { few = few_places_lem s w ask.holds; room = omega (arith, map_room s w ask.holds) }

    pub ask_clears : Clears n w
    ask_clears = record { regions = ask_regions w refl; ready = ask.ready }

    -- words with the same map and an open list may be asked the same
    pub ask_same : (w' : List ℕ) → drop (ends_at n) w' ≡ drop (ends_at n) w → length w' ≡ length w → (hand : ℕ)
        → OpenList n hand (open_words n w') → Askable s limit w'
    ask_same w' same len hand list =
        record {
          holds = holds_same s w' w same len ask.holds;
          ready = record { hand = hand; list = list };
          start_within = rw (problem_same s w' w same) ask.start_within;
          limit_below = ask.limit_below;
        }

    -- once the area is cleared, the start can be arrived at
    pub start_arrives : (w' : List ℕ) → Blank n w w' → (hand : ℕ) → hand ≡ empty_hand → Arrives n hand s.start 0 w'
    start_arrives w' b hand q =
        record {
          regions = ask_regions w' b.same_length;
          lowers = record { list = rw q b.none_open.list; place_in = ask_start; some = omega arith; below = omega arith };
        }

  -- the start is labelled 0 and open, and no other place has a label
  module _ {limit : ℕ} {w₀ : List ℕ} (ask : Askable s limit w₀) {w₁ : List ℕ} (b : Blank n w₀ w₁) (h₁ : ℕ) (empty : h₁ ≡ empty_hand)
      {hand : ℕ} {w : List ℕ} (a : Arrived n s.start 0 0 h₁ w₁ hand w) where
    no_key_lem : (v : ℕ) → v < n → get_or (keys n h₁ w₁) v 0 ≡ no_key
    unfolding keys
    no_key_lem v h = rw (empty, b.none_open.keys_none) (get_or-replicate n v no_key 0 h)

    key_set : KeySet n h₁ w₁ s.start 0 hand w
    key_set =
        record {
          coherent = record {
            regions = ask_regions ask w₁ b.same_length;
            list = rw empty b.none_open.list;
            key_label = λ v h. inl (no_key_lem v h);
          };
          place = ask_start ask;
          keys_set = a.keys_set;
          list = a.list;
          same_length = a.same_length;
          other_labels = a.other_labels;
          label = inr (sym a.label);
        }

    other_label : (v : ℕ) → v < n → (v ≡ s.start → ⊥) → label_word w v ≡ no_word
    other_label v h q = a.other_labels v h q ∙ b.unlabelled v h

    none_settled : (v : ℕ) → settled_at n hand w v ≡ false
    none_settled v = not_true_false (settled_at n hand w v) never
      where
        never : settled_at n hand w v ≡ true → ⊥
        never t = go (settled_is n hand w v t) (ℕ_discrete v s.start)
          where
            go : HasSettled n hand w v → Dec (v ≡ s.start) → ⊥
            go h (yes q) = omega (arith, h.key, own_key key_set, ap (λ (i : ℕ). get_or (keys n hand w) i 0) q)
            go h (no q) = h.label (other_label v h.place q)

    words : n ≤ length w
    words = omega (arith, map_room s w₀ ask.holds, b.same_length, a.same_length)

    only_start : (v d : ℕ) → cost_at (labels n w) v ≡ some d → (v ≡ s.start) × (d ≡ 0)
    only_start v d e = go (label_is n w words v d e) (ℕ_discrete v s.start)
      where
        go : HasLabel n w v d → Dec (v ≡ s.start) → (v ≡ s.start) × (d ≡ 0)
        go l (yes q) = (q, omega (arith, l.word, a.label, ap (label_word w) q))
        go l (no q) = absurd (l.some (omega (arith, l.word, other_label v l.place q)))

    -- the start, with no arcs, is all that is found
    fewest_start : Askable s limit w → cost_at (labels n w) s.start ≡ some 0
        → FewestFound (problem_at s w) limit (λ u. settled_at n hand w u ≡ true) (λ u. cost_at (labels n w) u) (depth_word n w)
    unfolding problem_at Within Through arc_count
    fewest_start again label =
        record {
          cost = λ v d k f. at_start f.path f.through;
          arcs = λ v d e.
              let (p, q) = only_start v d e in
              rw (p, q, a.depth) (record {
                holds = record { path = stay; within = again.start_within; through = tt; arcs = refl };
                least = λ k f. omega arith;
              });
        }
      where
        at_start : {v d : ℕ} (x : PathTo (problem_at s w) v d) → Through (λ u. settled_at n hand w u ≡ true) x → AtMost (cost_at (labels n w) v) d
        at_start stay t = record { cost = 0; is = label; below = omega arith }
        at_start (on b i x) t = absurd (not_both t.1 (none_settled b.from))

    pub searching_starts : (budget left : ℕ) → Searching s limit budget left w hand w 0
    unfolding problem_at
    searching_starts budget left =
        let again = ask_same ask w (begun-map b a) (a.same_length ∙ b.same_length) hand a.list in
        let none : settled_at n hand w ≡ (λ v. false) = λ i v. none_settled v i in
        let has-label : HasLabel n w s.start 0 = record { place = ask_start ask; word = a.label; some = λ q. omega arith } in
        let label = is_label n w words s.start 0 has-label in
        let labelled : ℕ → Option ℕ = λ v. cost_at (labels n w) v in
        record {
          same_map = refl;
          same_length = refl;
          coherent = still_coherent key_set;
          front = rw none (begin_front (problem_at s w) limit labelled again.holds.valid again.start_within label only_start);
          fewest = fewest_start again label;
          counted = rw none (count_none n);
          listed = record { few = omega arith; each = λ i l. absurd (omega arith); all = λ v t. absurd (not_both t (none_settled v)) };
          in_budget = omega arith;
          lasts = omega arith;
        }

  module _ {limit budget left : ℕ} {w₀ : List ℕ} {hand : ℕ} {w : List ℕ} {count : ℕ} (under : QueryUnderway s limit budget left w₀ hand w count) where
    searching : Searching s limit budget left w₀ hand w count
    searching = under.search

    room_words : n ≤ length w
    room_words = omega (arith, searching.coherent.regions.room)

    pub label_below : (v d : ℕ) → cost_at (labels n w) v ≡ some d → d < 2 ^ 30
    label_below v d e = omega (arith, end_below (searching.front.backed v d e), under.ask.limit_below)

    -- a depth is at most the label, since each arc costs at least 1
    pub depth_below : (v d : ℕ) → cost_at (labels n w) v ≡ some d → depth_word n w v < 2 ^ 30
    depth_below v d e =
        let few = depth_at_most (problem_at s w₀) under.ask.holds.valid limit (λ u. cost_at (labels n w) u) (depth_word n w) (settled_at n hand w)
        searching.front searching.fewest v d e in
        omega (arith, label_below v d e)

    -- what the pass over the listed places' arcs asks, where no place is open
    pub search_listed : NoneOpen (λ v. cost_at (labels n w) v) (settled_at n hand w) → Listed s count w
    search_listed none_open =
        let holds = holds_same s w w₀ searching.same_map searching.same_length under.ask.holds in
        record {
          labelled = record { holds = holds; label_below = label_below };
          places = lists_same searching.front.labelled (λ v l. none_open v l.0 l.1) searching.listed;
        }

    -- the key of an open place is its label
    open-key : (v d : ℕ) → cost_at (labels n w) v ≡ some d → settled_at n hand w v ≡ false → get_or (keys n hand w) v 0 ≡ d
    open-key v d e o =
        let l = label_is n w room_words v d e in
        let label : label_word w v ≡ no_word → ⊥ = λ z. l.some (sym l.word ∙ z) in
        let never : get_or (keys n hand w) v 0 ≡ no_key → ⊥ =
        λ q. not_both (is_settled n hand w v (record { place = l.place; label = label; key = q })) o in
        ⊎_elim (λ q. absurd (never q)) (λ q. q ∙ l.word) (searching.coherent.key_label v l.place)

    -- the open list as it is lent, from a to e
    module _ (a e : ℕ) (p : a ≡ open_at n) (q : e ≡ parents_at n) where
      pub search_list : OpenList n hand (part a e w)
      search_list = rw (open_part n a e p q w) searching.coherent.list

      module _ (v d : ℕ) (lent : LeastKey (keys_of n hand (part a e w)) v d) where
        first : LeastKey (keys n hand w) v d
        unfolding keys
        first = rw (← open_part n a e p q w) lent

        keys_many : length (keys n hand w) ≡ n
        keys_many = coherent_length searching.coherent

        -- where the least key is one, its place is the first open one
        module _ (h : d < no_key) where
          first_place : v < n
          first_place = omega (arith, first.place h, keys_many)

          first_word : label_word w v ≡ d
          first_word =
              ⊎_elim (λ z. absurd (omega (arith, first.key h))) (λ z. sym z ∙ first.key h) (searching.coherent.key_label v first_place)

          label_key : (u y : ℕ) → settled_at n hand w u ≡ false → cost_at (labels n w) u ≡ some y
              → (u < length (keys n hand w)) × (get_or (keys n hand w) u 0 ≡ y)
          label_key u y o f = (omega (arith, (label_is n w room_words u y f).place, keys_many), open-key u y f o)

          first_open : FirstOpen (λ v. cost_at (labels n w) v) (settled_at n hand w) v d
          first_open =
              record {
                is_labelled = is_label n w room_words v d (record { place = first_place; word = first_word; some = λ z. omega arith });
                is_open = not_true_false _ (λ t. omega (arith, (settled_is n hand w v t).key, first.key h));
                least = λ u y o f. let k = label_key u y o f in omega (arith, first.least u k.0, k.1);
                lowest = λ u o f. lowest u (label_key u d o f).1 (dec_lt u v);
              }
            where
              lowest : (u : ℕ) → get_or (keys n hand w) u 0 ≡ d → Dec (u < v) → v ≤ u
              lowest u k (yes l) = absurd (omega (arith, first.before u h l))
              lowest u k (no l) = omega arith

        pub taken : d < no_key → Taken s limit budget left w₀ hand w count v d
        taken h = record { under = under; place = first_place h; first = first_open h }

        -- where it is none, no place is open
        pub none_open : no_key ≤ d → NoneOpen (λ v. cost_at (labels n w) v) (settled_at n hand w)
        none_open h u y f = go (settled_at n hand w u) refl
          where
            go : (b : Bool) → settled_at n hand w u ≡ b → b ≡ true
            go true o = refl
            go false o =
                let in_list : u < length (keys n hand w) = omega (arith, (label_is n w room_words u y f).place, keys_many) in
                absurd (omega (arith, first.least u in_list, open-key u y f o, label_below u y f))

  module _ {limit budget left : ℕ} {w₀ : List ℕ} {hand : ℕ} {w : List ℕ} {count v d : ℕ} (t : Taken s limit budget left w₀ hand w count v d) where
    same : problem_at s w ≡ problem_at s w₀
    same = problem_same s w w₀ t.under.search.same_map

    pub taken_place : HasPlace n v w
    taken_place = let regions = t.under.search.coherent.regions in record { few = regions.few; place = t.place; room = regions.room }

    pub taken_goal : not (eqb (goal_word n w v) 0) ≡ true → IsGoal (problem_at s w₀) v
    taken_goal h = rw (← same) (mark_goal s w v t.place (eqb-false _ _ (not-true _ h)))

    pub taken_no_goal : not (eqb (goal_word n w v) 0) ≡ false → IsGoal (problem_at s w₀) v → ⊥
    taken_no_goal h i = goal_mark s w v (rw same i) (eqb-true _ _ (not-false _ h))
