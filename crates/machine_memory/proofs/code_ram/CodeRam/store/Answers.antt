use Rattle.machine_memory.proofs.Kept.{kept_behind}
use Rattle.machine_memory.proofs.code_ram.CodeRam.store.Goals as goal

pub invariant_of-self : goal.invariant_of-self
invariant_of-self c =
    rw (c.store.ensures, c.keep.ensures)
    (kept_behind c.self.inside.ram c.self.inside.kept.items c.args.offset c.args.width c.args.value c.requires.aligned c.self.invariant)
