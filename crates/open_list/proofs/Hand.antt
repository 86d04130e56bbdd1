-- A hand beside a list of keys: what becomes of both when a place gets a key, and which of the two comes first. Nothing here knows how
-- the list is kept.
-- Assumes nothing.
use mathlib.Core.Path.{◌≡◌, sym, ap, ◌∙◌}
use mathlib.Core.List.{List}
use mathlib.Core.Logic.{◌≢◌}
use Prim.Native.Nat.{ℕ, ◌<◌, ◌≤◌}
use native.Mathlib.Decide.{ℕ_discrete, dec_lt}
use native.Mathlib.Omega.{arith}
use lib.ListN.{length, get_or, set, length-set}
use lib.Seq.{get_or-set_same, get_or-set_other, set_out, set-get_or, set-set, set_comm}
use Rattle.open_list.specs.Entry.{IsEntry, place_of, key_of, word_end, no_key}
use Rattle.open_list.specs.Hand.{Held, HandPut, with_hand}
use Rattle.open_list.specs.Keys.{LeastKey, empty_hand}

-- what stands at another place than the hand's stands in the list
pub elsewhere : (ks : List ℕ) (h q : ℕ) → q ≢ place_of h → get_or (with_hand ks h) q 0 ≡ get_or ks q 0
unfolding with_hand
elsewhere ks h q n = get_or-set_other ks (place_of h) q (key_of h) 0 n

-- ---- what is in hand has a key, and its place is in the list
module _ (ks : List ℕ) (h : ℕ) (g : Held ks h) where
  pub in_list : key_of h ≢ no_key → place_of h < length ks
  in_list n = by (dec_lt (place_of h) (length ks))
    where
      by : Dec (place_of h < length ks) → place_of h < length ks
      by (yes u) = u
      by (no u) = absurd (n (g.idle (omega arith)))

  -- a hand without a key adds nothing to the list
  pub idle_keys : key_of h ≡ no_key → with_hand ks h ≡ ks
  unfolding with_hand
  idle_keys e = set_out ks (place_of h) (key_of h) (by (dec_lt (place_of h) (length ks)))
    where
      by : Dec (place_of h < length ks) → length ks ≤ place_of h
      by (yes u) = absurd (omega (arith, g.some u))
      by (no u) = omega arith

-- ---- the hand takes place p
module _ (ks : List ℕ) (p key r : ℕ) (l : p < length ks) (k : key < no_key) (i : IsEntry p key r) where
  takes : get_or ks p 0 ≡ no_key → Held ks r
  takes f =
      let a : place_of r ≡ p = i.place_is in
      record { free = λ u. ap (λ (x : ℕ). get_or ks x 0) a ∙ f; some = λ u. omega (arith, i.key_is); idle = λ u. absurd (omega arith) }

  -- p was in hand
  pub takes_again : (h : ℕ) → Held ks h → place_of h ≡ p → HandPut p key ks h ks r
  unfolding with_hand
  takes_again h g e =
      record {
        held = takes (ap (λ (x : ℕ). get_or ks x 0) (sym e) ∙ g.free (omega arith));
        keys_set = rw (i.place_is, i.key_is) (sym (ap (λ (x : ℕ). set (set ks x (key_of h)) p key) e ∙ set-set ks p (key_of h) key));
      }

  -- what was in hand gives way, and is in the list now; the list had no key for p
  pub takes_over : (ks₀ : List ℕ) (h : ℕ) → ks ≡ with_hand ks₀ h → place_of h ≢ p → get_or ks₀ p 0 ≡ no_key → HandPut p key ks₀ h ks r
  unfolding with_hand
  takes_over ks₀ h e n f =
      record {
        held = takes (ap (λ (x : List ℕ). get_or x p 0) e ∙ elsewhere ks₀ h p (λ u. n (sym u)) ∙ f);
        keys_set = rw (i.place_is, i.key_is) (ap (λ (x : List ℕ). set x p key) e);
      }

-- ---- the list changes at p, which is not in hand
pub list_changes : (ks ks' : List ℕ) (p key h : ℕ) → Held ks h → place_of h ≢ p → ks' ≡ set ks p key → HandPut p key ks h ks' h
unfolding with_hand
list_changes ks ks' p key h g n e =
    let s : length ks' ≡ length ks = ap length e ∙ simp length-set in
    record {
      held = record {
        free = λ u. ap (λ (x : List ℕ). get_or x (place_of h) 0) e ∙ get_or-set_other ks p (place_of h) key 0 n ∙ g.free (omega arith);
        some = λ u. g.some (omega arith);
        idle = λ u. g.idle (omega arith);
      };
      keys_set = ap (λ (x : List ℕ). set x (place_of h) (key_of h)) e ∙ set_comm ks p (place_of h) key (key_of h) (λ e. n (sym e));
    }

-- ---- an empty hand
module _ (ks : List ℕ) (few : length ks < word_end) where
  pub empty_held : Held ks empty_hand
  unfolding empty_hand
  empty_held = record { free = λ u. absurd (omega arith); some = λ u. absurd (omega arith); idle = λ u. omega arith }

  pub empty_keys : with_hand ks empty_hand ≡ ks
  unfolding empty_hand
  empty_keys = idle_keys ks empty_hand empty_held (omega arith)

  -- what was in hand is let go
  pub lets_go : (p h : ℕ) → Held ks h → p < length ks → place_of h ≡ p → HandPut p no_key ks h ks empty_hand
  unfolding with_hand
  lets_go p h g l e =
      let k : get_or ks p 0 ≡ no_key = ap (λ (x : ℕ). get_or ks x 0) (sym e) ∙ g.free (omega arith) in
      let one : set (with_hand ks h) p no_key ≡ set ks p no_key = ap (λ (x : ℕ). set (set ks x (key_of h)) p no_key) e ∙ set-set ks p (key_of h) no_key in
      let none : set ks p no_key ≡ ks = ap (λ (x : ℕ). set ks p x) (sym k) ∙ set-get_or ks p 0 in
      record { held = empty_held; keys_set = empty_keys ∙ sym (one ∙ none) }

-- ---- the hand h, and b, the first of the list
module _ (ks : List ℕ) (h b : ℕ) (g : Held ks h) (f : LeastKey ks (place_of b) (key_of b)) where
  size : length (with_hand ks h) ≡ length ks
  unfolding with_hand
  size = length-set ks (place_of h) (key_of h)

  here : place_of h < length ks → get_or (with_hand ks h) (place_of h) 0 ≡ key_of h
  unfolding with_hand
  here l = get_or-set_same ks (place_of h) (key_of h) 0 l

  -- a number that is at most both
  both : (k q : ℕ) → k ≤ key_of h → k ≤ key_of b → q < length ks → Dec (q ≡ place_of h) → k ≤ get_or (with_hand ks h) q 0
  both k q a c l (yes e) = rw e (omega (arith, here (omega arith)))
  both k q a c l (no n) = omega (arith, elsewhere ks h q n, f.least q l)

  pub hand_first : h < b → LeastKey (with_hand ks h) (place_of h) (key_of h)
  hand_first c =
      record {
        least = λ q l. both (key_of h) q (omega arith) (omega arith) (omega (arith, size)) (ℕ_discrete q (place_of h));
        place = λ a. omega (arith, size, in_list ks h g (omega arith));
        key = λ a. here (in_list ks h g (omega arith));
        before = λ q a l. lowest q a l (ℕ_discrete (key_of h) (key_of b));
      }
    where
      lowest : (q : ℕ) → key_of h < no_key → q < place_of h → Dec (key_of h ≡ key_of b) → key_of h < get_or (with_hand ks h) q 0
      lowest q a l (yes e) = omega (arith, elsewhere ks h q (omega arith), f.before q (omega arith) (omega arith))
      lowest q a l (no n) = omega (arith, elsewhere ks h q (omega arith), f.least q (omega (arith, in_list ks h g (omega arith))))

  pub list_first : b ≤ h → LeastKey (with_hand ks h) (place_of b) (key_of b)
  list_first c =
      record {
        least = λ q l. both (key_of b) q (omega arith) (omega arith) (omega (arith, size)) (ℕ_discrete q (place_of h));
        place = λ a. omega (arith, size, f.place a);
        key = λ a. elsewhere ks h (place_of b) (apart a) ∙ f.key a;
        before = λ q a l. lowest q a l (ℕ_discrete q (place_of h));
      }
    where
      apart : key_of b < no_key → place_of b ≢ place_of h
      apart a e =
          let r : get_or ks (place_of b) 0 ≡ get_or ks (place_of h) 0 = ap (λ (x : ℕ). get_or ks x 0) e in
          omega (arith, f.key a, g.free (omega (arith, f.place a)))

      lowest : (q : ℕ) → key_of b < no_key → q < place_of b → Dec (q ≡ place_of h) → key_of b < get_or (with_hand ks h) q 0
      lowest q a l (yes e) = rw e (omega (arith, here (omega (arith, f.place a))))
      lowest q a l (no n) = omega (arith, elsewhere ks h q n, f.before q a l)
