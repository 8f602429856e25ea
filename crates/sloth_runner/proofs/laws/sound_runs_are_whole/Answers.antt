use Rattle.sloth_runner.proofs.SoundRuns.{whole-run}
use Rattle.sloth_runner.proofs.laws.sound_runs_are_whole.Goals as goal

pub returns : goal.returns
returns c = whole-run
