use Rattle.asm_parse.proofs.Numbering.{numbered}
use Rattle.asm_parse.proofs.apps.judged_app.Goals as goal

pub app_of-requires-clause-numbered : goal.app_of-requires-clause-numbered
app_of-requires-clause-numbered c = numbered c.args.config.now c.args.lines.now c.requires.config c.requires.few
