use Rattle.std.proofs.Common.{sym}
use Rattle.std.proofs.lemmas.Bool.{false≢true}
use Rattle.walk_sums.proofs.Ranked.{none_weighs}
use Rattle.walk_sums.proofs.loops.has_weighing_loop.Goals as goal

pub returns-then-not-some_raises : goal.returns-then-not-some_raises
returns-then-not-some_raises c = (λ e. absurd (false≢true e), λ found. absurd (none_weighs c.args.ways.now c.args.steps.now _ (sym c.if-not-some_raises.ensures) found))
