use Rattle.std.proofs.Common.{◌∙◌}
use Rattle.core_commands.proofs.failure.finish.Goals as goal

pub returns-in-NotAnImage-clause-ends : goal.returns-in-NotAnImage-clause-ends
returns-in-NotAnImage-clause-ends g c =
    rw c.in-NotAnImage.is (rw (c.bytes-in-NotAnImage.ensures ∙ c.no_image_line.ensures) at c.say-in-NotAnImage.ensures.ends)

pub returns-in-NotAnImage-clause-pieces : goal.returns-in-NotAnImage-clause-pieces
returns-in-NotAnImage-clause-pieces g c =
    rw c.in-NotAnImage.is (rw (c.bytes-in-NotAnImage.ensures ∙ c.no_image_line.ensures) at c.say-in-NotAnImage.ensures.pieces)

pub returns-in-NoMemory-clause-pieces : goal.returns-in-NoMemory-clause-pieces
returns-in-NoMemory-clause-pieces g c = rw c.in-NoMemory.is c.say-in-NoMemory.ensures.pieces

pub returns-in-WriteFile-clause-pieces : goal.returns-in-WriteFile-clause-pieces
returns-in-WriteFile-clause-pieces g c = rw c.in-WriteFile.is c.say-in-WriteFile.ensures.pieces
