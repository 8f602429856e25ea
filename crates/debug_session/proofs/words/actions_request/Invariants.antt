use Rattle.std.proofs.Common.{◌≡◌, not, length, None}
use Rattle.debug_session.specs.Words.{has}
use Rattle.debug_session.specs.Actions.{parts_request, parts_of}
use Rattle.debug_session.proofs.words.actions_request.Given as goal

-- what the rest asks behind the parts before it is what all parts ask
abbrev pub invariant-loop-further : goal.invariant-loop-further
invariant-loop-further l =
    (parts_request l.tasks l.only (parts_of 59 l.rest) l.chosen ≡ parts_request l.tasks (not (has 59 l.text)) (parts_of 59 l.text) None)
    × (l.only ≡ not (has 59 l.text))

abbrev pub decreases-loop-further : goal.decreases-loop-further
decreases-loop-further l = length l.rest
