use Rattle.std.proofs.Common.{arith}
use Rattle.std.proofs.Math.ListN.{drop_of_length-le}
use Rattle.sloth_base.specs.Limits.{task_limit}
use Rattle.osek_scheduler.proofs.number_lists.Fresh.clear.Goals as goal

pub returns : goal.returns
returns c = drop_of_length-le c.self.inside.tasks {i = task_limit} (omega (arith, c.self.told))
