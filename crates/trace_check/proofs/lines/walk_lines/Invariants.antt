use Rattle.std.proofs.Common.{◌≡◌, [], List, length}
use Rattle.sloth_base.specs.declared.app.App.{App}
use Rattle.sloth_base.specs.declared.config.Config.{Config}
use Rattle.sloth_base.specs.declared.service.Stamped.{Stamped}
use Rattle.trace_check.proofs.ReadEvents.{HasRead}
use Rattle.trace_check.specs.Walk.{IsWalked}
use Rattle.trace_check.proofs.lines.walk_lines.Given as goal

abbrev pub invariant-loop-line : goal.invariant-loop-line
invariant-loop-line l = record {
  events : List Stamped;
  reads : HasRead l.names.tasks l.names.funcs l.names.counters l.text events l.rest;
  count : l._line ≡ length events;
  walks : (config : Config) (app : App) → IsWalked config app [] l.fn.walk → IsWalked config app events l.walk;
}
