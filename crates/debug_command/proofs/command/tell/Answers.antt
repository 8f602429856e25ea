use Rattle.std.proofs.Common.{◌∙◌}
use Rattle.debug_command.proofs.command.tell.Goals as goal

pub returns-in-NotAnImage-clause-said : goal.returns-in-NotAnImage-clause-said
returns-in-NotAnImage-clause-said g c =
    rw c.in-NotAnImage.is (rw (c.bytes.ensures ∙ c.no_image_line.ensures) at c.say-in-NotAnImage.ensures.ends)
