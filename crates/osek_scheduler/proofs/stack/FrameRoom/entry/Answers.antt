use Rattle.std.proofs.Common.{ℕ, refl}
use Rattle.std.proofs.lemmas.List.{take-replicate}
use Rattle.osek_scheduler.proofs.stack.FrameRoom.entry.Goals as goal

pub returns : goal.returns
returns c = rw (take-replicate {X = ℕ} c.args.words 32 0 c.requires) refl
