use Rattle.sloth_link.proofs.WrittenMemory.{is_linked}
use Rattle.sloth_link.proofs.linking.memory.Goals as goal

pub returns : goal.returns
returns c = is_linked _ _ _ _ _ _ _ c.requires.room c.in_ok-memory.ensures.is c.in_ok-memory.ensures.long c.deref_mut.ensures.value c.write_all.ensures
