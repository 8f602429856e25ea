use Rattle.std.proofs.Common.{sym, ◌∙◌}
use Rattle.trace_text.proofs.Kept.{last-is}
use Rattle.trace_text.proofs.arrivals.last_moment.Goals as goal

pub returns : goal.returns
returns c = last-is 0 c.args.arrivals.now _ (sym c.is_empty.ensures ∙ c.if-is_empty.false)
