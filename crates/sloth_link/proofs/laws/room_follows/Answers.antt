use Rattle.sloth_link.proofs.Housed.{room_follows}
use Rattle.sloth_link.proofs.laws.room_follows.Goals as goal

pub returns : goal.returns
returns c = room_follows
