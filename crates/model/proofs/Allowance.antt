-- Where the allowance cuts the queries. Assumes nothing.
use mathlib.Core.Path.{◌≡◌, refl, ap, ap₂, sym, ◌∙◌}
use mathlib.Core.Logic.{◌↔◌}
use mathlib.Core.Bool.{Bool, true, false, cond}
use mathlib.Core.List.{List, [], ◌∷◌, ◌++◌, get_last_d, head-eq_of_cons-eq, tail-eq_of_cons-eq}
use mathlib.Core.List.Memᴰ
use mathlib.Core.List.{Memᴰ}
use Prim.Native.Nat.{ℕ, ◌+◌, ◌-◌, ◌≤◌, ◌<◌}
use native.Mathlib.Nat.{le_refl}
use native.Mathlib.Omega.{arith}
use lib.Dec.{ltb}
use lib.ListN.{length, length-append}
use borrow.Author.Tests.{ltb-true, ltb-false, lt-ltb, le-ltb}
use Rattle.model.specs.Problem.{Problem}
use Rattle.model.specs.Rounds.{Step, first_round, ask, trace, total, begun, search}
use Rattle.model.specs.Terms.{Finished, CutAt}

last_cons : {A : Type 0} (x d : A) (xs : List A) → get_last_d (x ∷ xs) d ≡ get_last_d xs x
unfolding get_last_d
last_cons x d [] = refl
last_cons x d (y ∷ ys) = refl

-- a list of at least one element is what stands before the last, and the last
ends_in_last : {A : Type 0} (x d : A) (xs : List A) → (ys : List A) × (x ∷ xs ≡ ys ++ (get_last_d (x ∷ xs) d ∷ []))
unfolding get_last_d
ends_in_last x d [] = ([], refl)
ends_in_last x d (y ∷ ys) = let r = ends_in_last y x ys in (x ∷ r.0, rw last_cons (ap (◌∷◌ x) r.1))

-- an allowance below the total is cut at the last query begun
begun_cut : (a : ℕ) (ss : List Step) (d : Step) → a < total ss → CutAt a ss (get_last_d (begun a ss) d) (length (begun a ss))
unfolding begun total get_last_d
begun_cut a [] d h = absurd (omega arith)
begun_cut a (s ∷ ss) d h = go (ltb a s.query.cost) refl (begun_cut (a - s.query.cost) ss s)
  where
    rest : List Step
    rest = begun (a - s.query.cost) ss

    go : (t : Bool) → ltb a s.query.cost ≡ t
        → (a - s.query.cost < total ss → CutAt (a - s.query.cost) ss (get_last_d rest s) (length rest))
        → CutAt a (s ∷ ss) (get_last_d (s ∷ cond t [] rest) d) (length (s ∷ cond t [] rest))
    go true e below =
        let exceeds : a < s.query.cost = ltb-true a _ e in
        record { earlier = []; later = ss; split = refl; lasts = omega arith; exceeds = omega arith; counted = refl }
    go false e below =
        let lasts : s.query.cost ≤ a = ltb-false a _ e in
        let r = below (omega arith) in
        rw last_cons record {
          earlier = s ∷ r.earlier;
          later = r.later;
          split = ap (◌∷◌ s) r.split;
          lasts = omega arith;
          exceeds = omega arith;
          counted = omega arith;
        }

-- a query that is cut is one of the queries
pub cut_inside : {ss : List Step} {a n : ℕ} {s : Step} → CutAt a ss s n → Memᴰ s ss × (n ≤ length ss)
cut_inside {s = s} x =
    let longer = length-append x.earlier (s ∷ x.later) in
    rw x.split (Memᴰ.append_right x.earlier (Memᴰ.head refl), omega (arith, x.counted))

-- an allowance of at least the total cuts nothing
begun_all : (a : ℕ) (ss : List Step) → total ss ≤ a → begun a ss ≡ ss
unfolding begun total
begun_all a [] h = refl
begun_all a (s ∷ ss) h = rw (le-ltb a s.query.cost (omega arith), begun_all (a - s.query.cost) ss (omega arith)) refl

pub spent_exactly : (p : Problem) (a : ℕ) → ((search p a).spent ≡ true) ↔ (a < total (trace p))
unfolding search
spent_exactly p a = (ltb-true a (total (trace p)), lt-ltb a (total (trace p)))

pub spent_cut : (p : Problem) (a : ℕ) → a < total (trace p)
    → ((search p a).expansions ≡ a) × CutAt a (trace p) (search p a).last (search p a).queries
unfolding search
spent_cut p a h = (rw (lt-ltb a (total (trace p)) h) refl, begun_cut a (trace p) (ask p (first_round p)) h)

-- allowances that last for all queries make no difference
pub lasting_same : (p : Problem) (a b : ℕ) → total (trace p) ≤ a → total (trace p) ≤ b → search p a ≡ search p b
unfolding search
lasting_same p a b h k = rw (begun_all a (trace p) h, begun_all b (trace p) k, le-ltb a (total (trace p)) h, le-ltb b (total (trace p)) k) refl

-- a finished trace is not empty, so that it has a last query
pub not_spent : (p : Problem) (a : ℕ) → Finished (trace p) → total (trace p) ≤ a
    → ((search p a).expansions ≡ total (trace p)) × ((search p a).queries ≡ length (trace p))
    × ((x : List Step) × (trace p ≡ x ++ ((search p a).last ∷ [])))
unfolding search Finished
not_spent p a f h =
    rw (begun_all a (trace p) h) (rw (le-ltb a (total (trace p)) h) refl, refl, last (trace p) f)
  where
    last : (ss : List Step) → Finished ss → (x : List Step) × (ss ≡ x ++ (get_last_d ss (ask p (first_round p)) ∷ []))
    last [] f = absurd f
    last (s ∷ ss) f = ends_in_last s (ask p (first_round p)) ss

-- Of two splits of the queries, with less before the first one's query than up to and with the second one's, the second is the later: the queries
-- before it are those before the first, and then these.
split_order : (x y l m : List Step) (s t : Step) → x ++ (s ∷ l) ≡ y ++ (t ∷ m) → total x < total y + t.query.cost
    → (zs : List Step) × (y ≡ x ++ zs) × (s ∷ l ≡ zs ++ (t ∷ m))
unfolding total
split_order [] y l m s t e h = (y, refl, e)
split_order (u ∷ x) [] l m s t e h =
    let same : u.query.cost ≡ t.query.cost = ap (λ (z : Step). z.query.cost) (head-eq_of_cons-eq e) in
    absurd (omega arith)
split_order (u ∷ x) (v ∷ y) l m s t e h =
    let same : u.query.cost ≡ v.query.cost = ap (λ (z : Step). z.query.cost) (head-eq_of_cons-eq e) in
    let (zs, front, rest) = split_order x y l m s t (tail-eq_of_cons-eq e) (omega arith) in
    (zs, ap₂ (λ (z : Step) (zs : List Step). z ∷ zs) (sym (head-eq_of_cons-eq e)) front, rest)

module _ (ss : List Step) (a b m n : ℕ) (s t : Step) (h : a ≤ b) (x : CutAt a ss s m) (y : CutAt b ss t n) where
  -- with more allowance the cut moves only forward
  pub cut_forward : (zs : List Step) × (y.earlier ≡ x.earlier ++ zs) × (s ∷ x.later ≡ zs ++ (t ∷ y.later))
  cut_forward = split_order x.earlier y.earlier x.later y.later s t (sym x.split ∙ y.split) (omega (arith, x.lasts, y.exceeds))

  pub cut_later : m ≤ n
  cut_later =
      let (zs, front, rest) = cut_forward in
      omega (arith, x.counted, y.counted, ap length front, length-append x.earlier zs)

-- an allowance has one cut
pub cut_once : (ss : List Step) (a m n : ℕ) (s t : Step) → CutAt a ss s m → CutAt a ss t n → (s ≡ t) × (m ≡ n)
cut_once ss a m n s t x y =
    let later = cut_later ss a a m n s t (le_refl a) x y in
    let earlier = cut_later ss a a n m t s (le_refl a) y x in
    let (zs, front, rest) = cut_forward ss a a m n s t (le_refl a) x y in
    (at_once zs (omega (arith, x.counted, y.counted, ap length front, length-append x.earlier zs)) rest, omega arith)
  where
    at_once : (zs : List Step) → length zs ≡ 0 → s ∷ x.later ≡ zs ++ (t ∷ y.later) → s ≡ t
    at_once [] none e = head-eq_of_cons-eq e
    at_once (z ∷ zs) none e = absurd (omega arith)
