use Rattle.std.proofs.Common.{◌≡◌, map, drop}
use Rattle.debug_session.specs.Requests.{word_request, row_of}
use Rattle.debug_session.proofs.commands.word_request.Given as goal

abbrev pub invariant-loop-row : goal.invariant-loop-row
invariant-loop-row l = word_request l.tasks (map row_of (drop l.row-index l.rows)) l.content ≡ word_request l.tasks (map row_of l.rows) l.content
