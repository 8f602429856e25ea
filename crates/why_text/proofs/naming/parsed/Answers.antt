use Rattle.std.proofs.Common.{map}
use Rattle.std.proofs.lemmas.Result.{IfErr-weaker, err_from_is_err_and}
use Rattle.oil_parse.specs.Tokens.{lexeme}
use Rattle.why_text.proofs.Trees.{text_refused, grammar_refused}
use Rattle.why_text.proofs.naming.parsed.Goals as goal

pub returns-clause-refused : goal.returns-clause-refused
returns-clause-refused c =
    IfErr-weaker c.parse.result _ _ (λ error refused. grammar_refused c.args.oil.now (map lexeme c.in_ok-tokens.tokens.items) error
    c.in_ok-tokens.ensures.tokens c.in_ok-tokens.ensures.none (rw c.as_slice.ensures.value at refused)) c.parse.ensures.refused

pub returns-in_err-tokens-clause-refused : goal.returns-in_err-tokens-clause-refused
returns-in_err-tokens-clause-refused c =
    let failed = err_from_is_err_and c.from_residual.result c.from_residual.ensures.1 in
    rw (failed.1, failed.2) (text_refused c.args.oil.now c.in_err-tokens.field-0.0 c.in_err-tokens.ensures.refused)
