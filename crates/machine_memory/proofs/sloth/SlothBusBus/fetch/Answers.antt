use Rattle.sloth_base.specs.declared.app.Width.TheVariants as width
use Rattle.machine_memory.proofs.Places.{aligned_offset}
use Rattle.machine_memory.proofs.sloth.SlothBusBus.fetch.Goals as goal

pub instruction-requires-clause-aligned : goal.instruction-requires-clause-aligned
instruction-requires-clause-aligned c =
    aligned_offset c.args.address c.in-Ok-Ram.offset width.Word c.in-Ok-Ram.field-0 c.in-Ok-Ram.ensures.accepted c.in-Ok-Ram.ensures.ok c.in-Ok-Ram.field-0-is
