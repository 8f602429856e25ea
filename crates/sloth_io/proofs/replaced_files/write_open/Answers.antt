use Rattle.std.proofs.Common.{refl}
use Rattle.sloth_io.specs.System.{Synced}
use Rattle.sloth_io.proofs.Called.{leaves-mode, leaves-one, leaves-then}
use Rattle.sloth_io.proofs.replaced_files.write_open.Goals as goal

pub returns-clause-failed : goal.returns-clause-failed
returns-clause-failed g c =
    let calls = g.S.System.calls in
    leaves-then (calls c.args.host.now) (calls c.takes_mode.new.system) (calls c.sync.new.self)
    (leaves-mode (calls c.args.host.now) (calls c.takes_mode.new.system) c.args.was c.takes_mode.result c.takes_mode.ensures)
    (leaves-one (calls c.takes_mode.new.system) (calls c.sync.new.self) (Synced c.sync.result) c.sync.ensures refl)
