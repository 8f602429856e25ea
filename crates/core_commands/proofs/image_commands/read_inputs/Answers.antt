use Rattle.std.proofs.Common.{[], ◌∷◌}
use Rattle.command_line.specs.Command.{Executes}
use Rattle.command_line.specs.Words.{execution_of}
use Rattle.core_commands.specs.CommandFiles.{inputs_of}
use Rattle.core_commands.proofs.InOrder.{err-anyway, none-delivered, still-delivered}
use Rattle.core_commands.proofs.image_commands.read_inputs.Goals as goal

pub returns-in_err-file-clause-front : goal.returns-in_err-file-clause-front
returns-in_err-file-clause-front g c =
    let names = inputs_of (Executes (execution_of c.args.e.now)) in
    err-anyway _ _
    (none-delivered (g.F.Store.seen c.args.files.now) (g.F.Store.seen c.fetch.new.files) names c.in_err-file.ensures.nothing)

pub returns-in_err-arr-clause-front : goal.returns-in_err-arr-clause-front
returns-in_err-arr-clause-front g c =
    let names = inputs_of (Executes (execution_of c.args.e.now)) in
    err-anyway _ _
    (still-delivered (g.F.Store.seen c.args.files.now) (g.F.Store.seen c.fetch.new.files) (g.F.Store.seen c.fetch-2.new.files) names c.in_err-arr.ensures.nothing
    (c.in_ok-file.file.items ∷ [], c.in_ok-file.ensures.delivered))
