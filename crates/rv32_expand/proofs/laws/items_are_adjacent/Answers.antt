use Rattle.rv32_expand.proofs.Agreeing.{adjacent}
use Rattle.rv32_expand.proofs.laws.items_are_adjacent.Goals as goal

pub returns : goal.returns
returns c = λ app verified places agree func index item next. adjacent app places agree func item.declared index next.inside
