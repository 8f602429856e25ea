use Rattle.std.proofs.Common.{◌≡◌}
use Rattle.run_load.specs.RunLines.{seen_lines, cuts_of}
use Rattle.run_load.specs.Work.{above_among}
use Rattle.run_load.proofs.lines.seen_tasks.Given as goal

abbrev pub invariant-loop-task : goal.invariant-loop-task
invariant-loop-task l = record {
  text : l.text.items ≡ seen_lines l.run.config.now l.run.app.now l.run.events.now l.responses l.task;
  above : l.above ≡ above_among l.run.config.now l.run.app.now l.run.load.now (cuts_of l.run.costs.now) l.run.events.now l.task;
}
