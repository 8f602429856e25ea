use Rattle.std.proofs.Common.{◌&&◌, ap, sym, ◌∙◌}
use Rattle.std.specs.Prelude.{not}
use Rattle.shares_text.specs.Computed.{is_held_at_some, is_reaching}
use Rattle.shares_text.proofs.AllMembers.{no_member}
use Rattle.shares_text.proofs.keepers.held_below.Goals as goal

pub returns-then-non : goal.returns-then-non
returns-then-non c = λ r few.
    no_member r ∙ sym (ap (λ b. not b && (is_held_at_some c.args.uses.now c.args.task r && is_reaching c.args.ceilings.now c.args.priority r)) c.if-non.true)
