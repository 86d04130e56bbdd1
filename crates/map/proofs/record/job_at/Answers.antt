-- `record::job_at` meets its contract: each return goes by the tests of the length. Assumes nothing.
use mathlib.Core.Path.{◌≡◌, ◌∙◌}
use borrow.Author.Tests.{eq-eqb, ne_eqb, lt-ltb, le-ltb}
use Rattle.model.specs.Bytes.{u16}
use Rattle.map.proofs.Items.{job_at_lem}
use Rattle.map.proofs.record.job_at.Goals as goal

pub returns-then-len-lt-GOALS : goal.returns-then-len-lt-GOALS
returns-then-len-lt-GOALS c = rw job_at_lem (simp (lt-ltb _ _ c.if-len-lt-GOALS.true))

pub returns-then-len-goals : goal.returns-then-len-goals
returns-then-len-goals c =
    let goals : c.from-goals.result ≡ u16 _ _ = c.from-goals.ensures ∙ c.u16_at.ensures in
    rw job_at_lem (simp (le-ltb _ _ c.if-len-lt-GOALS.false, ← goals, ne_eqb _ _ c.if-len-goals.true))

pub returns : goal.returns
returns c =
    let goals : c.from-goals.result ≡ u16 _ _ = c.from-goals.ensures ∙ c.u16_at.ensures in
    let long = le-ltb _ _ c.if-len-lt-GOALS.false in
    let start = c.from.ensures ∙ c.u16_at-2.ensures in
    rw job_at_lem (simp (long, ← goals, eq-eqb _ _ c.if-len-goals.false, start, c.u32_at.ensures))
