-- `record::read_at` meets its contract: each return goes by the tests that led there. Assumes nothing.
use mathlib.Core.Path.{◌≡◌, ◌∙◌}
use borrow.Author.Tests.{eq-eqb, ne_eqb, lt-ltb, le-ltb}
use Rattle.map.specs.Records.{read_at}
use Rattle.model.specs.Bytes.{u16}
use Rattle.map.proofs.record.read_at.Goals as goal

pub returns-then-left-eq0 : goal.returns-then-left-eq0
unfolding read_at
returns-then-left-eq0 c = simp (eq-eqb _ _ c.if-left-eq0.true)

pub returns-then-left-lt-HEADER : goal.returns-then-left-lt-HEADER
unfolding read_at
returns-then-left-lt-HEADER c = simp (ne_eqb _ _ c.if-left-eq0.false, lt-ltb _ _ c.if-left-lt-HEADER.true)

pub returns-then-left-len : goal.returns-then-left-len
unfolding read_at
returns-then-left-len c =
    let len : c.from-len.result ≡ u16 _ _ = c.from-len.ensures ∙ c.u16_at.ensures in
    simp (ne_eqb _ _ c.if-left-eq0.false, le-ltb _ _ c.if-left-lt-HEADER.false, ← len, lt-ltb _ _ c.if-left-len.true)

pub returns : goal.returns
unfolding read_at
returns c =
    let len : c.from-len.result ≡ u16 _ _ = c.from-len.ensures ∙ c.u16_at.ensures in
    simp (
      ne_eqb _ _ c.if-left-eq0.false,
      le-ltb _ _ c.if-left-lt-HEADER.false,
      ← len,
      le-ltb _ _ c.if-left-len.false,
      c.u16_at-2.ensures,
    )
