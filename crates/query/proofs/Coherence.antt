-- Labels and an open list that agree, and that they agree still when one key is set. Assumes nothing.
use mathlib.Core.Path.{◌≡◌, sym, ◌∙◌}
use mathlib.Core.Logic.{◌⊎◌, inl, inr, ⊎_elim}
use mathlib.Core.List.{List}
use Prim.Native.Nat.{ℕ, ◌<◌}
use native.Mathlib.Omega.{arith}
use native.Mathlib.Decide.{ℕ_discrete}
use lib.ListN.{length, get_or, set}
use lib.Seq.{get_or-set_same, get_or-set_other}
use Rattle.open_list.specs.Entry.{no_key}
use Rattle.open_list.specs.Keys.{OpenList}
use Rattle.open_list.proofs.Laws.{keys_length}
use Rattle.layout.specs.Regions.{label_word}
use Rattle.query.specs.Open.{open_words, keys}
use Rattle.query.specs.State.{Coherent}

pub coherent_length : {n hand : ℕ} {w : List ℕ} → Coherent n hand w → length (keys n hand w) ≡ n
unfolding keys
coherent_length {n} {hand} {w} c = keys_length n hand (open_words n w) c.list

-- The key of place v is set to k: none, or the label of v. No other label has changed.
pub record KeySet (n hand : ℕ) (w : List ℕ) (v k hand' : ℕ) (w' : List ℕ) : Type 0 where
  pub coherent : Coherent n hand w
  pub place : v < n
  pub keys_set : keys n hand' w' ≡ set (keys n hand w) v k
  pub list : OpenList n hand' (open_words n w')
  pub same_length : length w' ≡ length w
  pub other_labels : (u : ℕ) → u < n → (u ≡ v → ⊥) → label_word w' u ≡ label_word w u
  pub label : (k ≡ no_key) ⊎ (k ≡ label_word w' v)

module _ {n hand : ℕ} {w : List ℕ} {v k hand' : ℕ} {w' : List ℕ} (s : KeySet n hand w v k hand' w') where
  pub own_key : get_or (keys n hand' w') v 0 ≡ k
  own_key =
      rw s.keys_set
      (get_or-set_same (keys n hand w) v k 0 (omega (arith, s.place, coherent_length s.coherent)))

  pub other_key : (u : ℕ) → (u ≡ v → ⊥) → get_or (keys n hand' w') u 0 ≡ get_or (keys n hand w) u 0
  other_key u q = rw s.keys_set (get_or-set_other (keys n hand w) v u k 0 q)

  pub still_coherent : Coherent n hand' w'
  still_coherent =
      let regions = s.coherent.regions in
      record {
        regions = record { few = regions.few; room = omega (arith, regions.room, s.same_length) };
        list = s.list;
        key_label = λ u h. go u h (ℕ_discrete u v);
      }
    where
      go : (u : ℕ) → u < n → Dec (u ≡ v) → (get_or (keys n hand' w') u 0 ≡ no_key) ⊎ (get_or (keys n hand' w') u 0 ≡ label_word w' u)
      go u h (yes q) = rw q (⊎_elim (λ e. inl (own_key ∙ e)) (λ e. inr (own_key ∙ e)) s.label)
      go u h (no q) =
          let key = other_key u q in
          ⊎_elim (λ e. inl (key ∙ e)) (λ e. inr (key ∙ e ∙ sym (s.other_labels u h q))) (s.coherent.key_label u h)
