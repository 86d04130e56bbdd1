-- A chain of arcs along different places has just one route, the chain. Assumes nothing.
use mathlib.Core.Path.{◌≡◌, refl, sym, ap, ap₂, ◌∙◌}
use mathlib.Core.List.Memᴰ
use mathlib.Core.List.{List, [], ◌∷◌, ◌++◌, head_d, get_last_d, Memᴰ}
use Prim.Native.Nat.{ℕ, zero, suc, ◌+◌, ◌-◌, ◌*◌, min, ◌≤◌, ◌<◌}
use native.Mathlib.Decide.{dec_lt}
use native.Mathlib.Omega.{arith}
use lib.ListN.{length, get_or, take}
use lib.Seq.{take-suc, take_all}
use Rattle.model.specs.Limits.{max_places, max_arcs, max_cost}
use Rattle.model.specs.Problem.{Problem, Arc, Valid}
use Rattle.model.specs.Paths.{stay, on, places, PathTo, GoalReachable, Route, Admissible}
use Rattle.model.specs.Jobs.{shares, put_chain, put_arc}
use Rattle.model.proofs.Indices.{Different}
use Rattle.model.proofs.Sheets.{Possible, one_place}
use Rattle.model.proofs.PlainJobs.{plain, put_arcs}

-- ---- Lists by their indices

pub head_d-get_d : (xs : List ℕ) → head_d xs 0 ≡ get_or xs 0 0
unfolding head_d
head_d-get_d [] = refl
head_d-get_d (x ∷ xs) = refl

pub get_last_d-get_d : (xs : List ℕ) (n : ℕ) → length xs ≡ suc n → get_last_d xs 0 ≡ get_or xs n 0
unfolding get_last_d
get_last_d-get_d [] n e = absurd (omega arith)
get_last_d-get_d (x ∷ []) zero e = refl
get_last_d-get_d (x ∷ []) (suc n) e = absurd (omega arith)
get_last_d-get_d (x ∷ y ∷ xs) zero e = absurd (omega arith)
get_last_d-get_d (x ∷ y ∷ xs) (suc n) e = get_last_d-get_d (y ∷ xs) n (omega arith)

-- different elements that are the same have one index
same_index : (xs : List ℕ) → Different xs → (i j : ℕ) → i < length xs → j < length xs → get_or xs i 0 ≡ get_or xs j 0 → i ≡ j
same_index xs apart i j h k e = go (dec_lt i j) (dec_lt j i)
  where
    go : Dec (i < j) → Dec (j < i) → i ≡ j
    go (yes l) m = absurd (apart i j l k e)
    go (no l) (yes m) = absurd (apart j i m h (sym e))
    go (no l) (no m) = omega arith

-- ---- Arcs from each place to the next

unfoldable pub chain : List ℕ → List ℕ → List Arc
chain [] costs = []
chain (u ∷ []) costs = []
chain (u ∷ v ∷ places) [] = []
chain (u ∷ v ∷ places) (c ∷ costs) = record { from = u; to = v; cost = c } ∷ chain (v ∷ places) costs

pub chain_put : (xs costs : List ℕ) → put_chain xs costs ≡ put_arcs (chain xs costs)
unfolding chain put_chain put_arcs
chain_put [] costs = refl
chain_put (u ∷ []) costs = refl
chain_put (u ∷ v ∷ xs) [] = refl
chain_put (u ∷ v ∷ xs) (c ∷ costs) = ap (λ (bs : List ℕ). put_arc u v c ++ bs) (chain_put (v ∷ xs) costs)

pub chain_length : (xs costs : List ℕ) → length xs ≡ suc (length costs) → length (chain xs costs) ≡ length costs
unfolding chain
chain_length [] costs e = absurd (omega arith)
chain_length (u ∷ []) costs e = omega arith
chain_length (u ∷ v ∷ xs) [] e = absurd (omega arith)
chain_length (u ∷ v ∷ xs) (c ∷ costs) e = ap suc (chain_length (v ∷ xs) costs (omega arith))

-- the arc from the i-th place to the next
abbrev link : List ℕ → List ℕ → ℕ → Arc
link xs costs i = record { from = get_or xs i 0; to = get_or xs (suc i) 0; cost = get_or costs i 0 }

chain_link : (xs costs : List ℕ) (a : Arc) → Memᴰ a (chain xs costs) → (i : ℕ) × (suc i < length xs) × (i < length costs) × (a ≡ link xs costs i)
unfolding chain
chain_link [] costs a m = absurd (Memᴰ.not-nil m)
chain_link (u ∷ []) costs a m = absurd (Memᴰ.not-nil m)
chain_link (u ∷ v ∷ xs) [] a m = absurd (Memᴰ.not-nil m)
chain_link (u ∷ v ∷ xs) (c ∷ costs) a (Memᴰ.head e) = (0, omega arith, omega arith, e)
chain_link (u ∷ v ∷ xs) (c ∷ costs) a (Memᴰ.tail m) =
    let (i, l, k, e) = chain_link (v ∷ xs) costs a m in
    (suc i, omega arith, omega arith, e)

link_chain : (xs costs : List ℕ) (i : ℕ) → suc i < length xs → i < length costs → Memᴰ (link xs costs i) (chain xs costs)
unfolding chain
link_chain [] costs i l k = absurd (omega arith)
link_chain (u ∷ []) costs i l k = absurd (omega arith)
link_chain (u ∷ v ∷ xs) [] i l k = absurd (omega arith)
link_chain (u ∷ v ∷ xs) (c ∷ costs) zero l k = Memᴰ.head refl
link_chain (u ∷ v ∷ xs) (c ∷ costs) (suc i) l k = Memᴰ.tail (link_chain (v ∷ xs) costs i (omega arith) (omega arith))

-- ---- Costs

-- the first k costs together
unfoldable pub sum_to : ℕ → List ℕ → ℕ
sum_to zero costs = 0
sum_to (suc k) costs = sum_to k costs + get_or costs k 0

sum_to_cons : (k c : ℕ) (costs : List ℕ) → sum_to (suc k) (c ∷ costs) ≡ c + sum_to k costs
unfolding sum_to
sum_to_cons zero c costs = omega arith
sum_to_cons (suc k) c costs = omega (arith, sum_to_cons k c costs)

pub shares-length : (n c : ℕ) → length (shares n c) ≡ n
unfolding shares
shares-length zero c = refl
shares-length (suc n) c = ap suc (shares-length n (c - min max_cost (c - n)))

pub shares_sum : (n c : ℕ) → n ≤ c → c ≤ n * max_cost → sum_to n (shares n c) ≡ c
unfolding shares sum_to
shares_sum zero c h k = omega arith
shares_sum (suc n) c h k =
    let x : ℕ = min max_cost (c - n) in
    sum_to_cons n x (shares n (c - x)) ∙ omega (arith, shares_sum n (c - x) (omega arith) (omega arith))

pub shares_range : (n c i : ℕ) → n ≤ c → i < n → (1 ≤ get_or (shares n c) i 0) × (get_or (shares n c) i 0 ≤ max_cost)
unfolding shares
shares_range zero c i h l = absurd (omega arith)
shares_range (suc n) c zero h l = omega arith
shares_range (suc n) c (suc i) h l = shares_range n (c - min max_cost (c - n)) i (omega arith) (omega arith)

-- ---- Paths

-- a path along the first places of the chain
pub record OnChain (xs costs : List ℕ) (v d : ℕ) (r : List ℕ) : Type 0 where
  pub index : ℕ
  pub inside : index < length xs
  pub ends : v ≡ get_or xs index 0
  pub cost : d ≡ sum_to index costs
  pub so_far : r ≡ take (suc index) xs

-- and one arc further
on_chain_step : (xs costs : List ℕ) → Different xs → (a : Arc) (d : ℕ) (r : List ℕ) → OnChain xs costs a.from d r
    → (i : ℕ) → suc i < length xs → a ≡ link xs costs i → OnChain xs costs a.to (d + a.cost) (r ++ (a.to ∷ []))
unfolding sum_to
on_chain_step xs costs apart a d r before i l is =
    let from_is : a.from ≡ get_or xs i 0 = ap (λ (x : Arc). x.from) is in
    let to_is : a.to ≡ get_or xs (suc i) 0 = ap (λ (x : Arc). x.to) is in
    let cost-is : a.cost ≡ get_or costs i 0 = ap (λ (x : Arc). x.cost) is in
    let same : before.index ≡ i = same_index xs apart before.index i before.inside (omega arith) (sym before.ends ∙ from_is) in
    let spent : d ≡ sum_to i costs = before.cost ∙ ap (λ (j : ℕ). sum_to j costs) same in
    let seen : r ≡ take (suc i) xs = before.so_far ∙ ap (λ (j : ℕ). take (suc j) xs) same in
    record {
      index = suc i;
      inside = l;
      ends = to_is;
      cost = ap₂ (λ (x y : ℕ). x + y) spent cost-is;
      so_far = ap₂ (λ (x : List ℕ) (y : ℕ). x ++ (y ∷ [])) seen to_is ∙ sym (take-suc xs (suc i) 0 l);
    }

-- the problem of a chain with this goal, whose start is the first place
abbrev pub line : List ℕ → List ℕ → ℕ → Problem
line xs costs goal = plain (chain xs costs) (get_or xs 0 0) goal

module _ (xs costs : List ℕ) (goal : ℕ) (fits : length xs ≡ suc (length costs)) where
  -- Each place is reached along the places before it.
  pub reach : (k : ℕ) → k < length xs → PathTo (line xs costs goal) (get_or xs k 0) (sum_to k costs)
  unfolding plain sum_to
  reach zero l = stay
  reach (suc k) l = on (link xs costs k) (link_chain xs costs k l (omega arith)) (reach k (omega arith))

  -- Since the places differ, every path goes along the chain.
  pub on_chain : Different xs → {v d : ℕ} (w : PathTo (line xs costs goal) v d) → OnChain xs costs v d (places w)
  unfolding plain sum_to places
  on_chain apart stay =
      record { index = 0; inside = omega arith; ends = refl; cost = refl; so_far = sym (take-suc xs 0 0 (omega arith)) }
  on_chain apart (on {d = d} a m w) =
      let (i, l, k, is) = chain_link xs costs a m in
      on_chain_step xs costs apart a d (places w) (on_chain apart w) i l is

  pub line_valid : ((i : ℕ) → i < length xs → get_or xs i 0 < max_places)
      → ((i : ℕ) → i < length costs → (1 ≤ get_or costs i 0) × (get_or costs i 0 ≤ max_cost)) → goal < max_places → Valid (line xs costs goal)
  unfolding plain
  line_valid below range goal_below =
      record {
        some_place = omega arith;
        few_places_lem = omega arith;
        arc_from = λ a m. let (i, l, k, is) = chain_link xs costs a m in rw is (below i (omega arith));
        arc_to = λ a m. let (i, l, k, is) = chain_link xs costs a m in rw is (below (suc i) l);
        cost_above = λ a m. let (i, l, k, is) = chain_link xs costs a m in rw is (range i k).0;
        cost_below = λ a m. let (i, l, k, is) = chain_link xs costs a m in rw is (range i k).1;
        estimate_below = λ v. omega arith;
        start_below = below 0 (omega arith);
        some_goal = (goal, Memᴰ.head refl);
        goal_below = λ g m. rw (Memᴰ.eq_of_singleton m) goal_below;
        goal_estimate = λ g m. refl;
        grows = omega arith;
      }

-- where there are no estimates none overstates
pub plain_admissible : (arcs : List Arc) (start goal : ℕ) → Admissible (plain arcs start goal)
unfolding plain Admissible
plain_admissible arcs start goal v o = omega (arith, o.above)

-- ---- The places and the cost of a route

-- how many arcs there are
abbrev pub steps : List ℕ → ℕ
steps xs = length xs - 1

abbrev pub step_costs : ℕ → List ℕ → List ℕ
step_costs cost xs = shares (steps xs) cost

-- the problem whose only route has these places at this cost
abbrev pub route_problem : ℕ → List ℕ → Problem
route_problem cost xs = line xs (step_costs cost xs) (get_or xs (steps xs) 0)

module _ (cost : ℕ) (xs : List ℕ) (h : Possible cost xs) where
  enough : length xs ≡ suc (length (step_costs cost xs))
  enough = omega (arith, shares-length (steps xs) cost, h.some_place)

  last_inside : steps xs < length xs
  last_inside = omega (arith, h.some_place)

  total : sum_to (steps xs) (step_costs cost xs) ≡ cost
  total = shares_sum (steps xs) cost h.cost_above h.cost_below

  pub route_valid : Valid (route_problem cost xs)
  route_valid =
      let n : length (step_costs cost xs) ≡ steps xs = shares-length (steps xs) cost in
      line_valid xs (step_costs cost xs) (get_or xs (steps xs) 0) enough h.place_below
      (λ i k. shares_range (steps xs) cost i h.cost_above (omega arith)) (h.place_below (steps xs) last_inside)

  pub route_few : length (chain xs (step_costs cost xs)) ≤ max_arcs
  route_few = omega (arith, chain_length xs (step_costs cost xs) enough, shares-length (steps xs) cost, h.few_places_lem)

  pub route_reachable : GoalReachable (route_problem cost xs)
  unfolding plain
  route_reachable =
      let path = reach xs (step_costs cost xs) (get_or xs (steps xs) 0) enough (steps xs) last_inside in
      record { goal = get_or xs (steps xs) 0; is_goal = Memᴰ.head refl; reachable = record { cost = _; path = path } }

  pub route_unique : (c : ℕ) (r : List ℕ) → Route (route_problem cost xs) c r → (c ≡ cost) × (r ≡ xs)
  unfolding plain
  route_unique c r route =
      let a = on_chain xs (step_costs cost xs) (get_or xs (steps xs) 0) enough h.different route.path in
      let at_goal : route.goal ≡ get_or xs (steps xs) 0 = Memᴰ.eq_of_singleton route.is_goal in
      let last : a.index ≡ steps xs
      = same_index xs h.different a.index (steps xs) a.inside last_inside (sym a.ends ∙ at_goal) in
      let all : take (suc a.index) xs ≡ xs = take_all (suc a.index) xs (omega arith) in
      (a.cost ∙ ap (λ (i : ℕ). sum_to i (step_costs cost xs)) last ∙ total, sym route.in_order ∙ a.so_far ∙ all)

-- ---- A start and no arc

module _ (start goal : ℕ) where
  pub alone_valid : start < max_places → goal < max_places → Valid (line (start ∷ []) [] goal)
  alone_valid h k = line_valid (start ∷ []) [] goal refl (one_place start h).place_below (λ i l. absurd (omega arith)) k

  -- no place but the start is reached
  pub alone_unreachable : (goal ≡ start → ⊥) → GoalReachable (line (start ∷ []) [] goal) → ⊥
  unfolding plain
  alone_unreachable other r =
      let a = on_chain (start ∷ []) [] goal refl (λ i j l m e. omega arith) r.reachable.path in
      let first : a.index ≡ 0 = omega (arith, a.inside) in
      let at_start : r.goal ≡ start = a.ends ∙ ap (λ (i : ℕ). get_or (start ∷ []) i 0) first in
      other (sym (Memᴰ.eq_of_singleton r.is_goal) ∙ at_start)
