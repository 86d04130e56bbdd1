-- Walking the records of an input: how a walk begins, comes to what a record says, goes on and ends. Assumes nothing.
use mathlib.Core.Path.{◌≡◌, refl, ◌∙◌}
use mathlib.Core.List.{List, [], ◌∷◌, Memᴰ}
use Prim.Native.Nat.{ℕ}
use Rattle.std.specs.Prelude.{Option, None, Some}
use Rattle.map.specs.declared.record as declared
use Rattle.map.specs.declared.record.Item.{Item}
use Rattle.map.specs.declared.record.Item.TheVariants as variants
use Rattle.model.specs.Framing.{frame}
use Rattle.model.specs.Items as model
use Rattle.model.specs.Items.{items}
use Rattle.map.specs.Items.{lane_meant, measured_meant, meant, of_map}
use Rattle.map.specs.Walks.{Left, all_of, NextSays, Walking}

-- the walk has come to a record that says i, and `rest` is what is left after it
pub record Comes {S : Type 0} (I : List model.Item → S → Type 0) (input : List ℕ) (kept : S) (i : Item) (rest : List model.Item)
    : Type 0 where
  pub in_all : Memᴰ (meant input i) (items (frame input).records)
  pub first : I (meant input i ∷ rest) kept

module _ {S : Type 0} {I : List model.Item → S → Type 0} {input : List ℕ} {kept : S} {left : Left} where
  pub walk_begins : left ≡ all_of input → I (items (frame input).records) kept → Walking I input left kept
  walk_begins all holds = rw all (record { same = refl; among = λ i m. m; holds = holds })

  module _ (walk : Walking I input left kept) {r : Option Item} {more : Left} (step : NextSays left r more) where
    pub walk_ends : r ≡ None → I [] kept
    walk_ends none =
        let end : left.items ≡ [] = (rw none at step.gives).0 in
        rw end at walk.holds

    module _ {i : Item} (is : r ≡ Some i) where
      split : left.items ≡ meant input i ∷ more.items
      split = rw walk.same at (rw is at step.gives)

      pub walk_comes : Comes I input kept i more.items
      walk_comes = record { in_all = walk.among (meant input i) (rw split (Memᴰ.head refl)); first = rw split at walk.holds }

      -- from there the walk goes on with the rest
      pub walk_on : {kept' : S} → I more.items kept' → Walking I input more kept'
      walk_on holds = record { same = step.same ∙ walk.same; among = λ k m. walk.among k (rw split (Memᴰ.tail m)); holds = holds }

-- what holds of an item, and for every job and all factors alike, holds of it as far as the item has it itself
pub of_map_lem : (input : List ℕ) (P : model.Item → Type 0) → ((j k : model.Job) → P (model.job j) → P (model.job k))
    → ((fs gs : List ℕ) → P (model.own_factors fs) → P (model.own_factors gs)) → (i : Item) → P (meant input i) → P (of_map i)
unfolding meant
of_map_lem input P alike also (variants.Head s) p = p
of_map_lem input P alike also (variants.Lane l) p = p
of_map_lem input P alike also (variants.Measured l) p = p
of_map_lem input P alike also (variants.Estimate e) p = p
of_map_lem input P alike also (variants.Wait w) p = p
of_map_lem input P alike also (variants.Factors at) p = also _ _ p
of_map_lem input P alike also (variants.Default x) p = p
of_map_lem input P alike also (variants.Job j) p = alike _ _ p
of_map_lem input P alike also variants.Misfit p = p
of_map_lem input P alike also variants.Other p = p

-- a lane of either kind is the map's
pub lane_said : {i : Item} {l : declared.Lane.Lane} → i ≡ variants.Lane l → of_map i ≡ model.lane (lane_meant l)
unfolding meant
lane_said is = rw is

pub measured_said : {i : Item} {l : declared.MeasuredLane.MeasuredLane} → i ≡ variants.Measured l → of_map i ≡ model.lane (measured_meant l)
unfolding meant
measured_said is = rw is
