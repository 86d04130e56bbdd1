-- `next` of `walk::Records` meets its contract: what is read is where the walk stands, which then goes on.
use mathlib.Core.Path.{◌≡◌, sym, ap, ◌∙◌}
use Prim.Native.Nat.{◌<◌, ◌≤◌}
use lib.ListN.{length}
use Rattle.std.proofs.Common.{rules}
use Rattle.std.specs.Prelude.{Some}
use Rattle.map.specs.Walks.{Position}
use Rattle.map.proofs.Reading.{Next, next_record}
use Rattle.map.proofs.Records.{broken_left}
use Rattle.map.proofs.walk.RecordsIterator.next.Goals.{In-Some-Ok}
use Rattle.map.proofs.walk.RecordsIterator.next.Goals as goal

-- the record that was read is the first of those left
first : (c : In-Some-Ok) → let s = c.self.inside in Next s.input.now s.at c.in-Some-Ok.r
first c =
    let s = c.self.inside in
    next_record s.input.now s.at c.self.invariant _ c.in-Some-Ok.r c.read_at.ensures (c.in-Some-Ok.is ∙ ap Some c.in-Some-Ok.field-0-is)

pub invariant_of-self : goal.invariant_of-self
invariant_of-self c = (first (goal.at.invariant_of-self c).In-Some-Ok).lies.ends

pub returns-in-Some-Ok-clause-goes : goal.returns-in-Some-Ok-clause-goes
returns-in-Some-Ok-clause-goes c =
    let s = c.self.inside in
    let next = first (goal.at.returns-in-Some-Ok-clause-goes c).In-Some-Ok in
    let at : s.at ≡ c.args.self.now.at = ap (λ (p : Position). p.at) c.self.view_is in
    let input : s.input.now ≡ c.args.self.now.input = ap (λ (p : Position). p.input) c.self.view_is in
    let later : s.at < c.in-Some-Ok.r.end = next.later in
    let inside : c.in-Some-Ok.r.end ≤ length s.input.now = next.lies.ends in
    search rules

pub returns-in-Some-Err-clause-goes : goal.returns-in-Some-Err-clause-goes
returns-in-Some-Err-clause-goes c =
    let s = c.self.inside in
    let at : s.at ≡ c.args.self.now.at = ap (λ (p : Position). p.at) c.self.view_is in
    let input : s.input.now ≡ c.args.self.now.input = ap (λ (p : Position). p.input) c.self.view_is in
    let left : s.at < length s.input.now
    = broken_left s.input.now s.at c.self.invariant _ (sym c.read_at.ensures ∙ c.in-Some-Err.is ∙ ap Some c.in-Some-Err.field-0-is) in
    search rules
