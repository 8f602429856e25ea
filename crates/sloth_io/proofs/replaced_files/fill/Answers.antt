use Rattle.sloth_io.proofs.Called.{leaves-closed, leaves-then}
use Rattle.sloth_io.proofs.replaced_files.fill.Goals as goal

pub returns-clause-failed : goal.returns-clause-failed
returns-clause-failed g c =
    let calls = g.S.System.calls in
    leaves-then (calls c.args.system.now) (calls c.write_open-done.new.host) (calls c.close.new.self) c.write_open-done.ensures.failed
    (leaves-closed (calls c.write_open-done.new.host) (calls c.close.new.self) _ c.close.ensures)
