use Rattle.std.proofs.Common.{map}
use Rattle.std.proofs.lemmas.Result.{IfErr-weaker}
use Rattle.oil_parse.specs.Tokens.{lexeme}
use Rattle.sloth_source.proofs.Readings.{grammar_refused}
use Rattle.sloth_source.proofs.reading.read_tree.Goals as goal

pub returns-clause-refused : goal.returns-clause-refused
returns-clause-refused c =
    IfErr-weaker c.parse.result _ _ (λ error refused. grammar_refused c.args.text.now (map lexeme c.in_ok-tokens.tokens.items) error
    c.in_ok-tokens.ensures.tokens c.in_ok-tokens.ensures.none (rw c.as_slice.ensures.value at refused)) c.parse.ensures.refused
