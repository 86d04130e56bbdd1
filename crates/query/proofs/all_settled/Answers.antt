-- The next limit that was found, as an outcome. Assumes nothing.
use Rattle.query.proofs.Answers.{ended-none, ended_next}
use Rattle.query.proofs.all_settled.Goals as goal

pub returns-then-next : goal.returns-then-next
returns-then-next c = ended-none _ _ _ _ c.next_limit-next.ensures c.if-next.true

pub returns-else-next : goal.returns-else-next
returns-else-next c = ended_next _ _ _ _ c.next_limit-next.ensures c.if-next.false
