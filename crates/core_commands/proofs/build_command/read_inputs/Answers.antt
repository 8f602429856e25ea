use Rattle.std.proofs.Common.{[], ◌∷◌}
use Rattle.command_line.specs.Command.{Builds}
use Rattle.command_line.specs.Words.{building_of}
use Rattle.core_commands.specs.CommandFiles.{arrivals_named, inputs_of}
use Rattle.core_commands.proofs.InOrder.{err-anyway, next-delivered, none-delivered, still-delivered, two-delivered}
use Rattle.core_commands.proofs.build_command.read_inputs.Goals as goal

pub returns-in_err-oil-clause-front : goal.returns-in_err-oil-clause-front
returns-in_err-oil-clause-front g c =
    let old = g.F.Store.seen c.args.files.now in
    let names = inputs_of (Builds (building_of c.args.c.now)) in
    err-anyway _ _ (none-delivered old (g.F.Store.seen c.fetch.new.files) names c.in_err-oil.ensures.nothing)

pub returns-in_err-src-clause-front : goal.returns-in_err-src-clause-front
returns-in_err-src-clause-front g c =
    let old = g.F.Store.seen c.args.files.now in
    let names = inputs_of (Builds (building_of c.args.c.now)) in
    err-anyway _ _
    (still-delivered old (g.F.Store.seen c.fetch.new.files) (g.F.Store.seen c.fetch-2.new.files) names c.in_err-src.ensures.nothing
    (c.in_ok-oil.oil.items ∷ [], c.in_ok-oil.ensures.delivered))

pub returns-in_err-arr-clause-front : goal.returns-in_err-arr-clause-front
returns-in_err-arr-clause-front g c =
    let old = g.F.Store.seen c.args.files.now in
    let one = g.F.Store.seen c.fetch.new.files in
    let two = g.F.Store.seen c.fetch-2.new.files in
    let b = building_of c.args.c.now in
    err-anyway _ _
    (still-delivered old two (g.F.Store.seen c.fetch_arrivals.new.files) (inputs_of (Builds b)) c.in_err-arr.ensures.nothing
    (two-delivered old two b.oil b.src (arrivals_named b.run) c.in_ok-oil.oil.items c.in_ok-src.src.items
    (next-delivered old one two _ _ c.in_ok-oil.ensures.delivered c.in_ok-src.ensures.delivered)))
