-- The search depends on the arcs and goals as collections only, and not on their order. Assumes nothing.
use mathlib.Core.Path.{◌≡◌, refl, sym, ◌∙◌, ap, ap₂, subst, fun_ext}
use mathlib.Core.Bool.{Bool, true, false, cond}
use mathlib.Core.List.{List, ◌∷◌, get_last_d, Memᴰ}
use mathlib.Core.Option.{Option, none, some}
use Prim.Native.Nat.{ℕ, zero, suc, ◌+◌, ◌≤◌, ◌<◌}
use native.Mathlib.Omega.{arith}
use lib.Dec.{ltb}
use lib.ListN.{length}
use lib.Seq.{ext_get_or}
use Rattle.model.specs.Lists.{filter, filter_map, least, least_by, member}
use Rattle.model.specs.Problem.{Problem, Arc, IsArc, Valid}
use Rattle.model.specs.Paths.{Walk, stay, on, Within, PathWithin}
use Rattle.model.specs.Costs.{Table, cost_at, table}
use Rattle.model.specs.Query.{Key, precedes, within, first_goal, length_to, crossing, next_limit, not_over, judge, query_on, query}
use Rattle.model.specs.Rounds.{Round, first_round, limit_of, after, Step, ask, next, go_on, trace_up_to, enough, trace, total, begun, Search, search}
use Rattle.model.specs.Routes.{parent, extend, route_up_to, route_to, least_paths, route_to_first, first_route}
use Rattle.model.specs.Endings.{finished, ending_if, budgeted_by, budgeted}
use Rattle.model.specs.Terms.{SameProblem}
use Rattle.model.proofs.Lists.{filter-member, filter_map_member, least-none, least-some, member_true}
use Rattle.model.proofs.LeastCosts.{table-length, table_least}
use Rattle.model.proofs.Keys.{first_goal_some}
use Rattle.model.proofs.LeastPaths.{least_paths_valid}

-- Boolean values of which each is true where the other is are the same
pub bool_ext : (a b : Bool) → (a ≡ true → b ≡ true) → (b ≡ true → a ≡ true) → a ≡ b
bool_ext true b f g = sym (f refl)
bool_ext false true f g = g refl
bool_ext false false f g = refl

pub option_ext : {A : Type 0} (o e : Option A) → ((x : A) → o ≡ some x → e ≡ some x) → ((x : A) → e ≡ some x → o ≡ some x) → o ≡ e
option_ext none none f g = refl
option_ext none (some y) f g = g y refl
option_ext (some x) e f g = sym (f x refl)

least_moves : (xs ys : List ℕ) → ((x : ℕ) → Memᴰ x xs → Memᴰ x ys) → ((x : ℕ) → Memᴰ x ys → Memᴰ x xs)
    → (x : ℕ) → least xs ≡ some x → least ys ≡ some x
least_moves xs ys to from x e = go (least ys) refl
  where
    in-xs : Memᴰ x xs × ((y : ℕ) → Memᴰ y xs → x ≤ y)
    in-xs = least-some xs x e

    go : (o : Option ℕ) → least ys ≡ o → least ys ≡ some x
    go none k = absurd (least-none ys k x (to x in-xs.0))
    go (some y) k =
        let in_ys = least-some ys y k in
        k ∙ ap some (omega (arith, in_ys.1 x (to x in-xs.0), in-xs.1 y (from y in_ys.0)))

-- lists with the same members have the same least one
pub same_least : (xs ys : List ℕ) → ((x : ℕ) → Memᴰ x xs → Memᴰ x ys) → ((x : ℕ) → Memᴰ x ys → Memᴰ x xs) → least xs ≡ least ys
same_least xs ys to from = option_ext (least xs) (least ys) (least_moves xs ys to from) (least_moves ys xs from to)

image_moves : {A B : Type 0} (f g : A → Option B) (xs ys : List A) → ((x : A) → Memᴰ x xs → Memᴰ x ys)
    → ((x : A) → Memᴰ x xs → f x ≡ g x) → (y : B) → Memᴰ y (filter_map f xs) → Memᴰ y (filter_map g ys)
image_moves f g xs ys to agree y i =
    let (x, j, e) = (filter_map_member f xs y).0 i in
    (filter_map_member g ys y).1 (x, to x j, sym (agree x j) ∙ e)

-- the least of what f gives of xs is the least of what g gives of ys, where xs and ys have the same members and f and g agree on them
pub same_least_image : {A : Type 0} (f g : A → Option ℕ) (xs ys : List A) → ((x : A) → Memᴰ x xs → Memᴰ x ys)
    → ((x : A) → Memᴰ x ys → Memᴰ x xs) → ((x : A) → Memᴰ x xs → f x ≡ g x) → least (filter_map f xs) ≡ least (filter_map g ys)
same_least_image f g xs ys to from agree =
    same_least (filter_map f xs) (filter_map g ys) (image_moves f g xs ys to agree)
    (image_moves g f ys xs from (λ x i. sym (agree x (from x i))))

same_member : (xs ys : List ℕ) → ((x : ℕ) → Memᴰ x xs → Memᴰ x ys) → ((x : ℕ) → Memᴰ x ys → Memᴰ x xs)
    → (x : ℕ) → member x xs ≡ member x ys
same_member xs ys to from x =
    bool_ext (member x xs) (member x ys) (λ e. (member_true x ys).1 (to x ((member_true x xs).0 e)))
    (λ e. (member_true x xs).1 (from x ((member_true x ys).0 e)))

-- to be the same problem is symmetric
same_back : {p q : Problem} → SameProblem p q → SameProblem q p
same_back {p} {q} s =
    record {
      places = sym s.places;
      estimate = λ v below. sym (s.estimate v (omega (arith, s.places)));
      start = sym s.start;
      growth = sym s.growth;
      arc_to = s.arc_from;
      arc_from = s.arc_to;
      goal_to = s.goal_from;
      goal_from = s.goal_to;
    }

-- a walk of p is one of q, of the same cost and within the same limits
module _ (p q : Problem) (ok : Valid p) (same : SameProblem p q) (C : ℕ) where
  walk_moves : {u v d : ℕ} → u < p.places → (w : Walk p u v d) → Within C w → (x : Walk q u v d) × Within C x
  unfolding Within
  walk_moves {u = u} below stay i = (stay, omega (arith, same.estimate u below))
  walk_moves below (on a j w) i =
      let (x, k) = walk_moves below w i.0 in
      (on a (same.arc_to a j) x, (k, omega (arith, i.1, same.estimate a.to (ok.arc_to a j))))

  path_moves : {v d : ℕ} → PathWithin p C v d → PathWithin q C v d
  path_moves {v} {d} w =
      let moved = walk_moves ok.start_below w.path w.within in
      let (x, i) = subst (λ (s : ℕ). (x : Walk q s v d) × Within C x) same.start moved in
      record { path = x; within = i }

entry_moves : (p q : Problem) → Valid p → Valid q → SameProblem p q → (C v d : ℕ) → cost_at (table p C) v ≡ some d → cost_at (table q C) v ≡ some d
entry_moves p q ok fine same C v d e =
    let l = (table_least p ok C v d).0 e in
    (table_least q fine C v d).1
    (record { holds = path_moves p q ok same C l.holds; least = λ k w. l.least k (path_moves q p fine (same_back same) C w) })

module _ (p q : Problem) (ok : Valid p) (fine : Valid q) (same : SameProblem p q) where
  pub same_table_lem : (C : ℕ) → table p C ≡ table q C
  same_table_lem C = ext_get_or none (table p C) (table q C) (table-length p C ∙ same.places ∙ sym (table-length q C)) (λ v below. entry v)
    where
      entry : (v : ℕ) → cost_at (table p C) v ≡ cost_at (table q C) v
      entry v =
          option_ext (cost_at (table p C) v) (cost_at (table q C) v) (entry_moves p q ok fine same C v)
          (entry_moves q p fine ok (same_back same) C v)

  pub same_first_goal : (t : Table) → first_goal p t ≡ first_goal q t
  unfolding first_goal
  same_first_goal t =
      ap (λ (f : Key → Bool). least_by precedes (filter f (within t)))
      (fun_ext (λ k. same_member p.goals q.goals same.goal_to same.goal_from k.place))

  same_crossing : (a : Arc) → IsArc p a → (e f : Option ℕ) → crossing p a e f ≡ crossing q a e f
  unfolding crossing
  same_crossing a i none f = refl
  same_crossing a i (some d) (some e) = refl
  same_crossing a i (some d) none = ap (λ (h : ℕ). some (d + a.cost + h)) (same.estimate a.to (ok.arc_to a i))

  next_limit_on : (t : Table) → next_limit p t ≡ next_limit q t
  unfolding next_limit
  next_limit_on t =
      same_least_image _ _ p.arcs q.arcs same.arc_to same.arc_from
      (λ a i. same_crossing a i (cost_at t a.from) (cost_at t a.to))

  query_on_lem : (t : Table) (b : ℕ) → query_on p t b ≡ query_on q t b
  unfolding query_on
  query_on_lem t b =
      let n : Option Key → ℕ = λ g. length_to g (within t) in
      ap₂ (λ (g : Option Key) (x : Option ℕ). judge (ltb b (n g)) b (n g) (not_over g x)) (same_first_goal t) (next_limit_on t)

  pub same_query : (C b : ℕ) → query p C b ≡ query q C b
  unfolding query
  same_query C b = query_on_lem (table p C) b ∙ ap (λ (t : Table). query_on q t b) (same_table_lem C)

  same_ask : (r : Round) → ask p r ≡ ask q r
  unfolding ask
  same_ask r = λ i. record { round = r; limit = C; query = same_query C r.budget i }
    where
      C : ℕ
      C = limit_of r.low r.high

  same_next : (s : Step) → next p s ≡ next q s
  unfolding next
  same_next s = ap (λ (g : ℕ). after g s.round s.limit s.query.outcome) same.growth

  trace_up_to_lem : (k : ℕ) (r : Round) → trace_up_to k p r ≡ trace_up_to k q r
  unfolding trace_up_to
  trace_up_to_lem zero r = refl
  trace_up_to_lem (suc k) r =
      ap (λ (s : Step). s ∷ go_on (next p s) (trace_up_to k p)) (same_ask r)
      ∙ ap₂ (λ (o : Option Round) (rest : Round → List Step). ask q r ∷ go_on o rest) (same_next (ask q r)) (fun_ext (trace_up_to_lem k))

  same_first_round : first_round p ≡ first_round q
  unfolding first_round
  same_first_round =
      let low = same.estimate p.start ok.start_below ∙ ap q.estimate same.start in
      λ i. record { low = low i; high = none; budget = 1 }

  pub same_trace : trace p ≡ trace q
  unfolding trace
  same_trace = trace_up_to_lem enough (first_round p) ∙ ap (trace_up_to enough q) same_first_round

  pub same_search : (a : ℕ) → search p a ≡ search q a
  unfolding search
  same_search a = ap₂ of_trace same_trace (same_ask (first_round p) ∙ ap (ask q) same_first_round)
    where
      of_trace : List Step → Step → Search
      of_trace ss first =
          let spent = ltb a (total ss) in
          record {
            spent = spent;
            expansions = cond spent a (total ss);
            queries = length (begun a ss);
            last = get_last_d (begun a ss) first;
          }

  same_parent : (t : Table) (v : ℕ) → parent p t v ≡ parent q t v
  unfolding parent
  same_parent t v = same_least_image _ _ p.arcs q.arcs same.arc_to same.arc_from (λ a i. refl)

  route_up_to_lem : (k : ℕ) (t : Table) (v : ℕ) → route_up_to k p t v ≡ route_up_to k q t v
  unfolding route_up_to
  route_up_to_lem zero t v = refl
  route_up_to_lem (suc k) t v = ap₂ (extend v) (same_parent t v) (fun_ext (route_up_to_lem k t))

  -- document 01's rule gives the same route of both
  same_route_back : (C : ℕ) → route_to_first p (table p C) (first_goal p (table p C)) ≡ route_to_first q (table q C) (first_goal q (table q C))
  unfolding route_to_first route_to
  same_route_back C =
      let goal = same_first_goal (table p C) ∙ ap (first_goal q) (same_table_lem C) in
      along (first_goal p (table p C)) ∙ ap₂ (λ (t : Table) (o : Option Key). route_to_first q t o) (same_table_lem C) goal
    where
      along : (o : Option Key) → route_to_first p (table p C) o ≡ route_to_first q (table p C) o
      along none = refl
      along (some g) = route_up_to_lem g.cost (table p C) g.place

-- the least paths by one table are the same problem too
least_paths_same : (p q : Problem) → SameProblem p q → (t : Table) (c : ℕ) → SameProblem (least_paths p t c) (least_paths q t c)
unfolding least_paths
least_paths_same p q same t c =
    record {
      places = same.places;
      estimate = λ v below. refl;
      start = same.start;
      growth = same.growth;
      arc_to = λ b i. image_moves _ _ p.arcs q.arcs same.arc_to (λ a j. refl) b i;
      arc_from = λ b i. image_moves _ _ q.arcs p.arcs same.arc_from (λ a j. refl) b i;
      goal_to = λ g i. let h = (filter-member _ p.goals g).0 i in (filter-member _ q.goals g).1 (same.goal_to g h.0, h.1);
      goal_from = λ g i. let h = (filter-member _ q.goals g).0 i in (filter-member _ p.goals g).1 (same.goal_from g h.0, h.1);
    }

module _ (p q : Problem) (ok : Valid p) (fine : Valid q) (same : SameProblem p q) where
  pub same_route : (C : ℕ) (g : Key) → first_goal p (table p C) ≡ some g → first_route p (table p C) g ≡ first_route q (table q C) g
  unfolding first_route
  same_route C g e =
      let t = table p C in
      let c = g.cost in
      let first = first_goal_some p t g e in
      let valid = least_paths_valid p t c ok g.place first.is_goal first.entry in
      let also = least_paths_valid q t c fine g.place (same.goal_to g.place first.is_goal) first.entry in
      same_route_back (least_paths p t c) (least_paths q t c) valid also (least_paths_same p q same t c) c
      ∙ ap (λ (u : Table). first_route q u g) (same_table_lem p q ok fine same C)

  same_finished : (s : Search) (C : ℕ) (o : Option Key) → first_goal p (table p C) ≡ o
      → finished first_route p s (table p C) o ≡ finished first_route q s (table q C) o
  unfolding finished
  same_finished s C none e = rw same.start
  same_finished s C (some g) e = rw (same_route C g e)

  same_ending_if : (b : Bool) (s : Search) → ending_if first_route b p s ≡ ending_if first_route b q s
  unfolding ending_if
  same_ending_if true s = refl
  same_ending_if false s =
      let C = s.last.limit in
      let goal = same_first_goal p q ok fine same (table p C) ∙ ap (first_goal q) (same_table_lem p q ok fine same C) in
      same_finished s C (first_goal p (table p C)) refl ∙ ap (finished first_route q s (table q C)) goal

  -- so the two end alike under every allowance
  pub same_ending : (a : ℕ) → budgeted p a ≡ budgeted q a
  unfolding budgeted_by
  same_ending a =
      same_ending_if (search p a).spent (search p a)
      ∙ ap (λ (s : Search). ending_if first_route s.spent q s) (same_search p q ok fine same a)
