use Rattle.std.proofs.Common.{drop}
use Rattle.std.specs.Prelude.{map}
use Rattle.oil_parse.specs.Tokens.{lexeme}
use Rattle.oil_parse.proofs.Loop.{Reads, Within}
use Rattle.oil_parse.proofs.tree.parse.Given as goal

abbrev pub invariant-loop-token : goal.invariant-loop-token
invariant-loop-token l = record { reads : Reads (map lexeme l.tokens) l.parser (map lexeme (drop l.token-index l.tokens)); within : Within l.parser.expect l.token-index }
