use Rattle.std.proofs.Common.{◌≤◌, length, subst, sym}
use Rattle.sloth_base.specs.Limits.{file_limit}
use Rattle.tool_commands.proofs.ShortFiles.{short_input}
use Rattle.tool_commands.proofs.judging.file.Goals as goal

pub returns-clause-short : goal.returns-clause-short
returns-clause-short c = subst (λ l. length l ≤ file_limit) (sym c.bytes.ensures) (short_input c.args.inputs.now c.args.place c.requires)
