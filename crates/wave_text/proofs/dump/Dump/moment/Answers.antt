use Rattle.std.proofs.Common.{List}
use Rattle.std.specs.Prelude.{false}
use Rattle.wave_text.specs.declared.dump.Dump.{Dump}
use Rattle.wave_text.specs.Changes.{DumpEntry, kernel_changes, clock_changes}
use Rattle.wave_text.proofs.Dumping.{gets-both}
use Rattle.wave_text.proofs.dump.Dump.moment.Goals as goal

pub returns : goal.returns
returns c =
    let before = c.args.before.now in
    let after = c.args.after.now in
    let start : Dump = record c.args.self.now { count = c.args.count; stamped = false } in
    let kernel : List DumpEntry = kernel_changes c.args.owners.now before after in
    let clock : List DumpEntry = clock_changes c.args.owners.now before after in
    (gets-both start c.kernel.new.self c.clock.new.self kernel clock c.in_ok-kernel.ensures c.in_ok-clock.ensures).text
