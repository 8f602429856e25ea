use Rattle.sloth_io.proofs.Called.{leaves-made, leaves-removed, leaves-this, leaves-this-then}
use Rattle.sloth_io.proofs.replaced_files.write_beside.Goals as goal

pub returns-clause-failed : goal.returns-clause-failed
returns-clause-failed g c failed apart =
    let calls = g.S.System.calls in
    let name = c.args.name.now in
    let made = calls c.make_file.new.self in
    let put = calls c.put_in_place.new.system in
    leaves-this-then name (calls c.args.system.now) put (calls c.remove.new.self)
    (leaves-this-then name (calls c.args.system.now) made put
    (leaves-this name (calls c.args.system.now) made (leaves-made (calls c.args.system.now) made c.args.beside.now _ _ c.make_file.ensures))
    (c.put_in_place.ensures.failed c.if-put_in_place.false))
    (leaves-removed name c.args.beside.now put (calls c.remove.new.self) c.remove.result apart c.remove.ensures)
