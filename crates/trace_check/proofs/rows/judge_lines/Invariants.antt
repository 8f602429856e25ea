use Rattle.std.proofs.Common.{◌≡◌, [], List, length}
use Rattle.sloth_base.specs.declared.app.App.{App}
use Rattle.sloth_base.specs.declared.config.Config.{Config}
use Rattle.sloth_base.specs.declared.service.Stamped.{Stamped}
use Rattle.trace_check.specs.Timed.{TimedBy}
use Rattle.trace_check.proofs.ReadEvents.{HasRead}
use Rattle.trace_check.specs.Walk.{IsWalked, IsWalkOrStray}
use Rattle.trace_check.proofs.rows.judge_lines.Given as goal

abbrev pub invariant-loop-rest : goal.invariant-loop-rest
invariant-loop-rest l = record {
  events : List Stamped;
  reads : HasRead l.names.tasks l.names.funcs l.names.counters l.text events l.rest;
  line : l.line ≡ length events;
  walks : (config : Config) (app : App) → IsWalked config app [] l.fn.walk → IsWalkOrStray config app events l.stray l.walk;
  timed : TimedBy [] l.fn.timing → TimedBy events l.timing;
  config : l.timing.config ≡ l.fn.timing.config;
  n : l.timing.n ≡ l.fn.timing.n;
  arrivals : l.timing.arrivals ≡ l.fn.timing.arrivals;
}

abbrev pub decreases-loop-rest : goal.decreases-loop-rest
decreases-loop-rest l = length l.rest
