use Rattle.shared_stacks.proofs.shared_stack_holds.Goals as goal
use Rattle.osek_scheduler.proofs.Facts.{facts}
use Rattle.shared_stacks.proofs.Together.{holds, reached}

pub returns : goal.returns
returns c = λ config app bounds events end w are leads chosen all.
    let r = reached config app (facts config app w) events end leads in
    holds config app end r.0 r.1 r.2 bounds (facts config app w) are chosen all
