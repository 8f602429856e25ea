use Rattle.core_commands.proofs.Complete.{tells-usage, tells-refused, is-complete}
use Rattle.core_commands.proofs.ImageComplete.{tells-fault, tells-no-image, tells-exec-refused, tells-executed, tells-listed}
use Rattle.core_commands.proofs.SampleComplete.{tells-sample-refused, tells-sampled}
use Rattle.core_commands.proofs.NoTools.{plain-knows}
use Rattle.core_commands.specs.ToolTables.{LacksTools}
use Rattle.core_commands.proofs.top.core_top.Goals as goal

pub returns-clause-usage : goal.returns-clause-usage
returns-clause-usage g c = tells-usage LacksTools _ _ _ _ c.answer.ensures.answers

pub returns-clause-refused : goal.returns-clause-refused
returns-clause-refused g c = tells-refused LacksTools _ _ _ _ c.answer.ensures.answers

pub returns-clause-complete : goal.returns-clause-complete
returns-clause-complete g c = is-complete LacksTools _ _ _ _ c.answer.ensures.answers

pub returns-clause-exec_refused : goal.returns-clause-exec_refused
returns-clause-exec_refused g c = tells-exec-refused LacksTools _ _ _ _ c.answer.ensures.answers

pub returns-clause-executed : goal.returns-clause-executed
returns-clause-executed g c = tells-executed LacksTools _ _ _ _ c.answer.ensures.answers

pub returns-clause-listed : goal.returns-clause-listed
returns-clause-listed g c = tells-listed LacksTools _ _ _ _ c.answer.ensures.answers

pub returns-clause-sample_refused : goal.returns-clause-sample_refused
returns-clause-sample_refused g c = tells-sample-refused LacksTools _ _ _ _ c.answer.ensures.answers

pub returns-clause-sampled : goal.returns-clause-sampled
returns-clause-sampled g c = tells-sampled LacksTools _ _ _ _ c.answer.ensures.answers

pub returns-clause-fault : goal.returns-clause-fault
returns-clause-fault g c other plain = tells-fault LacksTools _ _ _ _ c.answer.ensures.answers other (plain-knows LacksTools _ other plain)

pub returns-clause-no_image : goal.returns-clause-no_image
returns-clause-no_image g c other plain = tells-no-image LacksTools _ _ _ _ c.answer.ensures.answers other (plain-knows LacksTools _ other plain)
