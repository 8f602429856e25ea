use Rattle.rv32_expand.specs.Expansion.{item_address, is_long}
use Rattle.sloth_base.specs.Named.{operation}
use Rattle.rv32_expand.proofs.Encodable.{are_in_range}
use Rattle.rv32_expand.proofs.Verified.{items_fit}
use Rattle.rv32_expand.proofs.laws.instructions_are_in_range.Goals as goal

pub returns : goal.returns
returns c = λ app verified places covers agree func index item.
    are_in_range app places func (item_address places func index) (is_long places func index) (operation app func index)
    (items_fit app verified places covers agree func index item)
