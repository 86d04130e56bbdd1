-- `next` of `walk::Items` meets its contract: a record that is read is the first of those left, and where none is, none is left. Assumes nothing.
use mathlib.Core.Path.{◌≡◌, sym, ap, ◌∙◌}
use mathlib.Core.List.{[]}
use lib.ListN.{drop}
use Rattle.std.proofs.Common.{rules, inl, inr}
use Rattle.std.specs.Prelude.{Some, Ok}
use Rattle.model.specs.Framing.{frame}
use Rattle.model.specs.Items.{items}
use Rattle.map.specs.Walks.{Left}
use Rattle.map.proofs.Reading.{Next, next_record, none_left, next_fits, next_item}
use Rattle.map.proofs.walk.ItemsIterator.next.Goals.{In-Some-Ok, In-Some-Err, In-None}
use Rattle.map.proofs.walk.ItemsIterator.next.Goals as goal

-- the record that was read
read : (c : In-Some-Ok) → c.read_at.result ≡ Some (Ok c.in-Some-Ok.r)
read c = c.in-Some-Ok.is ∙ ap Some c.in-Some-Ok.field-0-is

-- it is the first of those left
first : (c : In-Some-Ok) → let s = c.self.inside in Next s.input.now s.at c.in-Some-Ok.r
first c = let s = c.self.inside in next_record s.input.now s.at c.self.invariant.0 _ c.in-Some-Ok.r c.read_at.ensures (read c)

pub returns-in-Some-Err-clause-steps : goal.returns-in-Some-Err-clause-steps
unfolding items
returns-in-Some-Err-clause-steps c =
    let s = c.self.inside in
    let none = none_left s.input.now s.at c.self.invariant.0 _ c.read_at.ensures (inr (_, c.in-Some-Err.is ∙ ap Some c.in-Some-Err.field-0-is)) in
    let gone : c.args.self.now.items ≡ [] = ap (λ (l : Left). l.items) (sym c.self.view_is) ∙ ap items none in
    search rules

pub returns-in-None-clause-steps : goal.returns-in-None-clause-steps
unfolding items
returns-in-None-clause-steps c =
    let s = c.self.inside in
    let none = none_left s.input.now s.at c.self.invariant.0 _ c.read_at.ensures (inl c.in-None.is) in
    let gone : c.args.self.now.items ≡ [] = ap (λ (l : Left). l.items) (sym c.self.view_is) ∙ ap items none in
    search rules

pub fitting_item-item-requires : goal.fitting_item-item-requires
fitting_item-item-requires c =
    let s = c.self.inside in
    let next = first (goal.at.fitting_item-item-requires c).In-Some-Ok in
    record { lies = next.lies; fits = (next_fits s.input.now s.at c.in-Some-Ok.r next c.self.invariant.1).0 }

pub invariant_of-self : goal.invariant_of-self
invariant_of-self c =
    let s = c.self.inside in
    let next = first (goal.at.invariant_of-self c).In-Some-Ok in
    rw c.end_of-self-inside.ensures (next.lies.ends, (next_fits s.input.now s.at c.in-Some-Ok.r next c.self.invariant.1).1)

pub returns-in-Some-Ok-clause-steps : goal.returns-in-Some-Ok-clause-steps
returns-in-Some-Ok-clause-steps c =
    let s = c.self.inside in
    let next = first (goal.at.returns-in-Some-Ok-clause-steps c).In-Some-Ok in
    let input : s.input.now ≡ c.args.self.now.input = ap (λ (l : Left). l.input) c.self.view_is in
    let left : items (frame (drop s.at s.input.now)).records ≡ c.args.self.now.items = ap (λ (l : Left). l.items) c.self.view_is in
    let more = next_item s.input.now s.at c.in-Some-Ok.r next c.self.invariant.1 _ c.fitting_item-item.ensures in
    record { same = input; gives = rw (c.end_of-self-inside.ensures, ← left, ← input) more }

pub returns-in-Some-Ok-clause-goes : goal.returns-in-Some-Ok-clause-goes
returns-in-Some-Ok-clause-goes c =
    let s = c.self.inside in
    let next = first (goal.at.returns-in-Some-Ok-clause-goes c).In-Some-Ok in
    let left : items (frame (drop s.at s.input.now)).records ≡ c.args.self.now.items = ap (λ (l : Left). l.items) c.self.view_is in
    let more = next_item s.input.now s.at c.in-Some-Ok.r next c.self.invariant.1 _ c.fitting_item-item.ensures in
    search rules
