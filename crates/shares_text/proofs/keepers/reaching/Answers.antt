use Rattle.std.specs.Prelude.{leb, get_or}
use Rattle.shares_text.proofs.AllMembers.{no_member_below}
use Rattle.shares_text.proofs.keepers.reaching.Goals as goal

pub loop-resource-init : goal.loop-resource-init
loop-resource-init c = λ r few. no_member_below (leb c.args.priority (get_or c.args.ceilings.now r 0)) r
