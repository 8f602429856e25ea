use Rattle.oil_parse.proofs.Cuts.{cut_of, cut_one, tokens_one}
use Rattle.oil_parse.proofs.lexer.one_cut.Goals as goal

pub returns-clause-some : goal.returns-clause-some
returns-clause-some c = λ t. cut_of t

pub returns-clause-one : goal.returns-clause-one
returns-clause-one c = λ t ps qs a b. cut_one ps qs t a b

pub returns-clause-tokens : goal.returns-clause-tokens
returns-clause-tokens c = λ t ts us a b. tokens_one t ts us a b
