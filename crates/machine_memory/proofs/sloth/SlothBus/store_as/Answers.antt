use Rattle.machine_memory.proofs.Places.{aligned_offset}
use Rattle.machine_memory.proofs.sloth.SlothBus.store_as.Goals as goal

pub store-requires-clause-aligned : goal.store-requires-clause-aligned
store-requires-clause-aligned c =
    aligned_offset c.args.address c.in-Ok-Ram.offset c.args.width c.in-Ok-Ram.field-0 c.in-Ok-Ram.ensures.accepted c.in-Ok-Ram.ensures.ok c.in-Ok-Ram.field-0-is
