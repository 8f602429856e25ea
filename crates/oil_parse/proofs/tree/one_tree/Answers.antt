use Rattle.oil_parse.proofs.Complete.{file_one}
use Rattle.oil_parse.proofs.Judged.{judged}
use Rattle.oil_parse.proofs.Texts as texts
use Rattle.oil_parse.proofs.tree.one_tree.Goals as goal

pub returns-clause-file : goal.returns-clause-file
returns-clause-file c = λ ts t u f g. file_one f g

pub returns-clause-text : goal.returns-clause-text
returns-clause-text c = texts.one_tree

pub returns-clause-faults : goal.returns-clause-faults
returns-clause-faults c = texts.grammar_of

pub returns-clause-one : goal.returns-clause-one
returns-clause-one c = texts.not_both

pub returns-clause-each : goal.returns-clause-each
returns-clause-each c = judged
