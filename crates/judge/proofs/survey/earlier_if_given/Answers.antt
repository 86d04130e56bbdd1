-- A refusal that is not given leaves the other. Assumes nothing.
use mathlib.Core.Path.{◌≡◌, refl}
use Rattle.std.specs.Prelude.{Some, None}
use Rattle.judge.specs.Numbers.{Given, earlier}
use Rattle.judge.proofs.survey.earlier_if_given.Goals as goal

none_later : (a : Given) → a ≡ earlier a None
unfolding earlier
none_later None = refl
none_later (Some x) = refl

pub returns-in-None : goal.returns-in-None
returns-in-None c = rw c.in-None.is (none_later c.args.a)
