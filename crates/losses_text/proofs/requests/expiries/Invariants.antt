use Rattle.std.proofs.Common.{◌≡◌, [], drop}
use Rattle.losses_text.specs.Expiries.{expiries}
use Rattle.losses_text.proofs.requests.expiries.Given as goal

abbrev pub invariant-loop-a : goal.invariant-loop-a
invariant-loop-a l = expiries l.c l.a l.at (drop l.a l.config.alarms) l.store l.all.items ≡ expiries l.c 0 l.at l.config.alarms l.store []
