use Rattle.core_commands.proofs.Complete.{tells-usage, tells-refused, is-complete}
use Rattle.core_commands.proofs.ImageComplete.{tells-fault, tells-no-image, tells-exec-refused, tells-executed, tells-listed}
use Rattle.core_commands.proofs.SampleComplete.{tells-sample-refused, tells-sampled}
use Rattle.sloth_commands.proofs.BuiltFormulas.{built-files-are-right}
use Rattle.sloth_commands.proofs.BuiltRegisters.{built-images-show-registers}
use Rattle.sloth_commands.proofs.BuiltResponses.{built-keep-responses}
use Rattle.sloth_commands.proofs.BuiltRuns.{built-are-checked, built-have-requests, built-keep-bounds}
use Rattle.sloth_commands.proofs.ToolComplete.{knows-image, tells-tool, tells-tool-done}
use Rattle.sloth_commands.specs.ToolFiles.{IsToolAnswer}
use Rattle.sloth_cli.proofs.top.sloth_top.Goals as goal

pub returns-clause-usage : goal.returns-clause-usage
returns-clause-usage g c = tells-usage IsToolAnswer _ _ _ _ c.answer.ensures.answers

pub returns-clause-refused : goal.returns-clause-refused
returns-clause-refused g c = tells-refused IsToolAnswer _ _ _ _ c.answer.ensures.answers

pub returns-clause-complete : goal.returns-clause-complete
returns-clause-complete g c = is-complete IsToolAnswer _ _ _ _ c.answer.ensures.answers

pub returns-clause-exec_refused : goal.returns-clause-exec_refused
returns-clause-exec_refused g c = tells-exec-refused IsToolAnswer _ _ _ _ c.answer.ensures.answers

pub returns-clause-executed : goal.returns-clause-executed
returns-clause-executed g c = tells-executed IsToolAnswer _ _ _ _ c.answer.ensures.answers

pub returns-clause-listed : goal.returns-clause-listed
returns-clause-listed g c = tells-listed IsToolAnswer _ _ _ _ c.answer.ensures.answers

pub returns-clause-sample_refused : goal.returns-clause-sample_refused
returns-clause-sample_refused g c = tells-sample-refused IsToolAnswer _ _ _ _ c.answer.ensures.answers

pub returns-clause-sampled : goal.returns-clause-sampled
returns-clause-sampled g c = tells-sampled IsToolAnswer _ _ _ _ c.answer.ensures.answers

pub returns-clause-fault : goal.returns-clause-fault
returns-clause-fault g c other = tells-fault IsToolAnswer _ _ _ _ c.answer.ensures.answers other (knows-image _ other)

pub returns-clause-no_image : goal.returns-clause-no_image
returns-clause-no_image g c other = tells-no-image IsToolAnswer _ _ _ _ c.answer.ensures.answers other (knows-image _ other)

pub returns-clause-tool : goal.returns-clause-tool
returns-clause-tool g c = tells-tool _ _ _ _ c.answer.ensures.answers

pub returns-clause-tool_done : goal.returns-clause-tool_done
returns-clause-tool_done g c = tells-tool-done _ _ _ _ c.answer.ensures.answers

pub returns-clause-bounds : goal.returns-clause-bounds
returns-clause-bounds g c = built-keep-bounds

pub returns-clause-responses : goal.returns-clause-responses
returns-clause-responses g c = built-keep-responses

pub returns-clause-checked : goal.returns-clause-checked
returns-clause-checked g c = built-are-checked

pub returns-clause-formulas : goal.returns-clause-formulas
returns-clause-formulas g c = built-files-are-right

pub returns-clause-registers : goal.returns-clause-registers
returns-clause-registers g c = built-images-show-registers

pub returns-clause-requests : goal.returns-clause-requests
returns-clause-requests g c = built-have-requests
