use Rattle.std.proofs.Common.{◌≡◌, ◌++◌, length}
use Rattle.run_counts.specs.Stages.{stages}
use Rattle.run_load.specs.Watched.{watched_stages, watched_run}
use Rattle.run_load.proofs.watch.watch.Given as goal

abbrev pub invariant-loop-event : goal.invariant-loop-event
invariant-loop-event l = record {
  seen : l.watched.items ++ watched_stages l.config l.task l.moments (stages l.config l.app l.start l.osek.system l.rest) ≡ watched_run l.config l.app l.task l.events;
  config : l.osek.config ≡ l.config;
  app : l.osek.app ≡ l.app;
}

abbrev pub decreases-loop-event : goal.decreases-loop-event
decreases-loop-event l = length l.rest
