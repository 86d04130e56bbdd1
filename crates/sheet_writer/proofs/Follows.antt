-- Laws of the places along the parents.
-- Assumes nothing.
use mathlib.Core.Path.{◌≡◌, refl, sym, ap, subst, ◌∙◌}
use mathlib.Core.List.{List, [], ◌∷◌, ◌++◌}
use mathlib.Core.Option.{Option}
use Prim.Native.Nat.{ℕ, ◌+◌, ◌≤◌, ◌<◌}
use native.Mathlib.Decide.{ℕ_discrete}
use native.Mathlib.Omega.{arith}
use lib.ListN.{length, length-append}
use Rattle.layout.specs.Labels.{no_word, Follows, first, after, word_or, parent_at}
use Rattle.layout.proofs.Labels.{word_or-none, word_or-some}
use Rattle.sheet_writer.specs.Places.{Earlier}

-- the places up to v are those before it, and v
pub record UpTo (n : ℕ) (w : List ℕ) (v : ℕ) (r : List ℕ) : Type 0 where
  pub earlier : List ℕ
  pub leads : Earlier n w (parent_at n w v) earlier
  pub joined : r ≡ earlier ++ (v ∷ [])

module _ {n : ℕ} {w : List ℕ} where
  pub place_below : {v : ℕ} {r : List ℕ} → Follows n w v r → v < n
  place_below (first h e) = h
  place_below (after h e f) = h

  pub up_to : {v : ℕ} {r : List ℕ} → Follows n w v r → UpTo n w v r
  unfolding Earlier
  up_to (first h e) = record { earlier = []; leads = rw e refl; joined = refl }
  up_to (after {u} {v} {r} h e f) = record { earlier = r; leads = rw e f; joined = refl }

  -- so there is one more of them
  pub up_to_length : {v : ℕ} {r : List ℕ} (b : UpTo n w v r) → length r ≡ length b.earlier + 1
  up_to_length {v} b = ap (λ (x : List ℕ). length x) b.joined ∙ length-append b.earlier (v ∷ [])

  -- there is only one list of places
  pub one_list : {v : ℕ} {r s : List ℕ} → Follows n w v r → Follows n w v s → r ≡ s
  unfolding Earlier
  one_list (first h e) g =
      let b = up_to g in
      let nothing : b.earlier ≡ [] = subst (λ (o : Option ℕ). Earlier n w o b.earlier) e b.leads in
      sym (rw nothing at b.joined)
  one_list (after {u} {v} {r} h e f) g =
      let b = up_to g in
      let up-to-u : Follows n w u b.earlier = subst (λ (o : Option ℕ). Earlier n w o b.earlier) e b.leads in
      ap (λ (x : List ℕ). x ++ (v ∷ [])) (one_list f up-to-u) ∙ sym b.joined

-- a word u leads to the places s: to none where it is the word for none, else along the parents of u
module _ (n u : ℕ) (w s : List ℕ) where
  pub none_leads : u ≡ no_word → Earlier n w (word_or u) s → s ≡ []
  unfolding Earlier
  none_leads q l = rw (word_or-none u q) at l

  pub place_leads : (u ≡ no_word → ⊥) → Earlier n w (word_or u) s → Follows n w u s
  unfolding Earlier
  place_leads f l = rw (word_or-some u f) at l

  pub some_leads : 1 ≤ length s → Earlier n w (word_or u) s → Follows n w u s
  some_leads h l = go (ℕ_discrete u no_word)
    where
      go : Dec (u ≡ no_word) → Follows n w u s
      go (yes q) = absurd (omega (arith, ap (λ (x : List ℕ). length x) (none_leads q l)))
      go (no f) = place_leads f l
