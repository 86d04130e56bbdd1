-- What a uniform-cost search under way says of the table, the query's length and its outcome. Assumes nothing.
use mathlib.Core.Path.{◌≡◌, refl, sym, ap, ◌∙◌}
use mathlib.Core.Logic.{inl, inr}
use mathlib.Core.Bool.{Bool, true, false, false≢true}
use mathlib.Core.List.{List, Memᴰ}
use mathlib.Core.Option.{Option, none, some}
use Prim.Native.Nat.{ℕ, ◌≤◌, ◌<◌}
use native.Mathlib.Nat.{le_refl}
use native.Mathlib.Omega.{arith}
use native.Mathlib.Decide.{dec_le}
use lib.ListN.{length}
use borrow.Author.Tests.{lt-ltb, le-ltb, eq-eqb}
use Rattle.model.specs.Lists.{filter}
use Rattle.model.specs.Problem.{Problem, IsGoal, Valid}
use Rattle.model.specs.Paths.{stay, Within}
use Rattle.model.specs.Costs.{cost_at, table}
use Rattle.model.specs.Query.{Key, within, precedes, first_goal, length_to, next_limit, over, found, not_over, judge, query_on, query}
use Rattle.model.proofs.Lists.{none-some, filter_all, filter_fewer, filter_shorter}
use Rattle.model.proofs.LeastCosts.{table-length, entry_path}
use Rattle.model.proofs.Keys.{key, NotBefore, precedes_false, not_precedes, precedes_true, key_entry, IsFirstGoal, first_goal_some, first_goal_is}
use Rattle.model.proofs.Queries.{query_length}
use Rattle.query.specs.Front.{Before, Front, FirstOpen, NoneOpen, count_below}
use Rattle.query.proofs.Counting.{within_counted}
use Rattle.query.proofs.Settling.{not_both, cannot_fail, before_below}
use Rattle.query.proofs.Settling.{least_label, path_settled, path_after}

before_precedes : {x u y w : ℕ} → Before x u y w → precedes (key x u) (key y w) ≡ true
unfolding precedes
before_precedes {x} {u} {y} {w} (inl h) = rw (lt-ltb x y h)
before_precedes {x} {u} {y} {w} (inr h) = rw (le-ltb x y (omega arith), eq-eqb x y h.0, lt-ltb u w h.1)

precedes_trans : (i j k : Key) → precedes i j ≡ true → precedes j k ≡ true → precedes i k ≡ true
precedes_trans i j k e h = cannot_fail (precedes i k) never
  where
    never : precedes i k ≡ false → ⊥
    never q =
        let ji = precedes_true i j e in
        let kj = precedes_true j k h in
        let ik = precedes_false i k q in
        let low : j.place ≤ i.place = omega (arith, kj.second (omega arith), ik.second (omega arith)) in
        not_both e (not_precedes i j (record { first = omega arith; second = λ r. low }))

module _ (p : Problem) (C b : ℕ) where
  query_over : b < query_length p C → ((query p C b).outcome ≡ over) × ((query p C b).cost ≡ b)
  unfolding query query_on judge
  query_over h = rw (lt-ltb b (query_length p C) h) (refl, refl)

  query_not_over : query_length p C ≤ b
      → ((query p C b).outcome ≡ not_over (first_goal p (table p C)) (next_limit p (table p C))) × ((query p C b).cost ≡ query_length p C)
  unfolding query query_on judge
  query_not_over h = rw (le-ltb b (query_length p C) h) (refl, refl)

-- the search begins with the start labelled and nothing settled
pub begin_front : (p : Problem) (C : ℕ) (label : ℕ → Option ℕ) → Valid p → p.estimate p.start ≤ C
    → label p.start ≡ some 0 → ((v d : ℕ) → label v ≡ some d → (v ≡ p.start) × (d ≡ 0)) → Front p C label (λ v. false)
unfolding Within
begin_front p C label ok h s only =
    record {
      begins = record { cost = 0; is = s; below = le_refl 0 };
      backed = λ v d e. let o = only v d e in rw (o.0, o.1) (record { path = stay; within = h });
      labelled = λ u t. absurd (false≢true t);
      relaxed = λ a d i t. absurd (false≢true t);
      ordered = λ u w x y t. absurd (false≢true t);
      no_goal = λ g i. refl;
    }

module _ (p : Problem) (ok : Valid p) (C : ℕ) (label : ℕ → Option ℕ) (settled : ℕ → Bool) (front : Front p C label settled) where
  -- a settled place has its D,
  pub settled_least : (u d : ℕ) → settled u ≡ true → label u ≡ some d → cost_at (table p C) u ≡ some d
  settled_least u d s e = least_label p ok C label settled front u d e (λ w y o l. before_below (front.ordered u w d y s e o l))

  -- and so has the first open place.
  pub first_open_least : (v d : ℕ) → FirstOpen label settled v d → cost_at (table p C) v ≡ some d
  first_open_least v d f = least_label p ok C label settled front v d f.is_labelled f.least

  -- With none open the labels are the table.
  pub labels_are_table : NoneOpen label settled → (v : ℕ) → label v ≡ cost_at (table p C) v
  labels_are_table none_open v = go (label v) (cost_at (table p C) v) refl refl
    where
      go : (l e : Option ℕ) → label v ≡ l → cost_at (table p C) v ≡ e → l ≡ e
      go (some d) e q r = sym (settled_least v d (none_open v d q) q) ∙ r
      go none none q r = refl
      go none (some x) q r =
          let is = front.labelled v (path_settled p ok C label settled front none_open v x (entry_path p C v x r)) in
          none-some (sym q ∙ is.1)

  not_within : (u : ℕ) → cost_at (table p C) u ≡ none → settled u ≡ false
  not_within u e = go (settled u) refl
    where
      go : (b : Bool) → settled u ≡ b → b ≡ false
      go true s = let l = front.labelled u s in none-some (sym e ∙ settled_least u l.0 s l.1)
      go false s = refl

  -- a test that the keys of the settled places pass, and no others, counts them
  settled_keys : (test : Key → Bool) → ((v d : ℕ) → cost_at (table p C) v ≡ some d → test (key d v) ≡ settled v)
      → length (filter test (within (table p C))) ≡ count_below settled p.places
  settled_keys test agrees = within_counted test settled (table p C) agrees not_within ∙ ap (count_below settled) (table-length p C)

  module _ (v d : ℕ) (f : FirstOpen label settled v d) where
    -- a place within that is not settled does not come before the first open one
    open_after : (w x : ℕ) → cost_at (table p C) w ≡ some x → settled w ≡ false → NotBefore (key x w) (key d v)
    open_after w x e s = path_after p ok C label settled front v d f w x (entry_path p C w x e) s

    settled_precedes : (w x : ℕ) → cost_at (table p C) w ≡ some x → precedes (key x w) (key d v) ≡ settled w
    settled_precedes w x e = go (settled w) refl
      where
        go : (b : Bool) → settled w ≡ b → precedes (key x w) (key d v) ≡ b
        go true s =
            let l = front.labelled w s in
            let least = settled_least w l.0 s l.1 in
            let same : l.0 ≡ x = cc in
            before_precedes (front.ordered w v x d s (rw same at l.1) f.is_open f.is_labelled)
        go false s = not_precedes (key x w) (key d v) (open_after w x e s)

    -- so many places precede the first open one as are settled
    settled_counted : length (filter (λ (k : Key). precedes k (key d v)) (within (table p C))) ≡ count_below settled p.places
    settled_counted = settled_keys (λ (k : Key). precedes k (key d v)) settled_precedes

  -- The first open place is a goal: it is the first goal, and the places settled are those before it.
  pub goal_found : (g d : ℕ) → FirstOpen label settled g d → IsGoal p g → first_goal p (table p C) ≡ some (record { cost = d; place = g })
  goal_found g d f i =
      let after : (h x : ℕ) → IsGoal p h → cost_at (table p C) h ≡ some x → NotBefore (key x h) (key d g) =
      λ h x j e. open_after g d f h x e (front.no_goal h j) in
      first_goal_is p (table p C) (key d g)
      (record {
        is_goal = i;
        entry = first_open_least g d f;
        cheapest = λ h x j e. (after h x j e).first;
        lowest = λ h j e. (after h d j e).second refl;
      })

  pub goal_outcome : (g d b : ℕ) → FirstOpen label settled g d → IsGoal p g → count_below settled p.places ≤ b
      → ((query p C b).outcome ≡ found) × ((query p C b).cost ≡ count_below settled p.places)
  unfolding length_to not_over
  goal_outcome g d b f i h =
      let first = goal_found g d f i in
      let counted : query_length p C ≡ count_below settled p.places = rw first (settled_counted g d f) in
      let result = query_not_over p C b (omega arith) in
      (result.0 ∙ rw first, result.1 ∙ counted)

  -- A place that is no goal is open: the query's length is above the number settled.
  pub longer : (v d : ℕ) → FirstOpen label settled v d → (IsGoal p v → ⊥)
      → count_below settled p.places < query_length p C
  unfolding length_to
  longer v d f n = rw (← settled_counted v d f) (go (first_goal p (table p C)) refl)
    where
      ks : List Key
      ks = within (table p C)

      own : Memᴰ (key d v) ks
      own = (key_entry (table p C) (key d v)).1 (first_open_least v d f)

      not_itself : precedes (key d v) (key d v) ≡ false
      not_itself = not_precedes (key d v) (key d v) (record { first = le_refl d; second = λ q. le_refl v })

      precedes_goal : (g : Key) → IsFirstGoal p (table p C) g → precedes (key d v) g ≡ true
      precedes_goal g first = cannot_fail (precedes (key d v) g) never
        where
          never : precedes (key d v) g ≡ false → ⊥
          never e =
              let before = precedes_false (key d v) g e in
              let after = open_after v d f g.place g.cost first.entry (front.no_goal g.place first.is_goal) in
              let same : g.place ≡ v = omega (arith, before.second (omega arith), after.second (omega arith)) in
              n (rw same at first.is_goal)

      go : (o : Option Key) → first_goal p (table p C) ≡ o → length (filter (λ (k : Key). precedes k (key d v)) ks) < length_to o ks
      go none e = filter_shorter (λ (k : Key). precedes k (key d v)) ks (key d v) own not_itself
      go (some g) e =
          let later = precedes_goal g (first_goal_some p (table p C) g e) in
          filter_fewer (λ (k : Key). precedes k (key d v)) (λ (k : Key). precedes k g)
          (λ k h. precedes_trans k (key d v) g h later) ks (key d v) own not_itself later

  pub over_outcome : (v d b : ℕ) → FirstOpen label settled v d → (IsGoal p v → ⊥) → count_below settled p.places ≡ b
      → ((query p C b).outcome ≡ over) × ((query p C b).cost ≡ b)
  over_outcome v d b f n h = query_over p C b (omega (arith, longer v d f n))

  -- The allowance left is used up, and the budget is not: the query costs more than is left.
  pub spent_cost : (v d b left : ℕ) → FirstOpen label settled v d → (IsGoal p v → ⊥) → count_below settled p.places ≡ left → left < b
      → left < (query p C b).cost
  spent_cost v d b left f n h l = go (dec_le (query_length p C) b)
    where
      go : Dec (query_length p C ≤ b) → left < (query p C b).cost
      go (yes k) = rw (query_not_over p C b k).1 (omega (arith, longer v d f n))
      go (no k) = rw (query_over p C b (omega arith)).1 l

  -- Nothing is open: the outcome is by the next limit, and the query costs what is settled.
  pub all_settled : (b : ℕ) → NoneOpen label settled → count_below settled p.places ≤ b
      → ((query p C b).cost ≡ count_below settled p.places) × ((query p C b).outcome ≡ not_over none (next_limit p (table p C)))
  unfolding length_to
  all_settled b none_open h =
      let result = query_not_over p C b (omega (arith, counted)) in
      (result.1 ∙ counted, result.0 ∙ rw no_goal_within)
    where
      within_settled : (v d : ℕ) → cost_at (table p C) v ≡ some d → settled v ≡ true
      within_settled v d e = none_open v d (labels_are_table none_open v ∙ e)

      none_first : (o : Option Key) → first_goal p (table p C) ≡ o → o ≡ none
      none_first none e = refl
      none_first (some k) e =
          let first = first_goal_some p (table p C) k e in
          absurd (not_both (within_settled k.place k.cost first.entry) (front.no_goal k.place first.is_goal))

      no_goal_within : first_goal p (table p C) ≡ none
      no_goal_within = none_first (first_goal p (table p C)) refl

      counted : query_length p C ≡ count_below settled p.places
      counted =
          let all = settled_keys (λ (k : Key). true) (λ v d e. sym (within_settled v d e)) in
          rw no_goal_within (rw filter_all at all)
