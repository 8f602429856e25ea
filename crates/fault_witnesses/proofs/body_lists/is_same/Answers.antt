use Rattle.std.proofs.lemmas.Slice.Eq.{bytes_eq-Decides}
use Rattle.std.proofs.lemmas.Bool.Decides.{Decides-at}
use Rattle.fault_witnesses.proofs.body_lists.is_same.Goals as goal

pub returns : goal.returns
returns c = Decides-at _ _ c.eq.ensures (bytes_eq-Decides c.args.one.now c.args.other.now)
