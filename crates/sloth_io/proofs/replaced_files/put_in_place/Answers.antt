use Rattle.sloth_io.proofs.Called.{leaves-this, leaves-this-then, leaves-unrenamed}
use Rattle.sloth_io.proofs.replaced_files.put_in_place.Goals as goal

pub returns-then-not-fill-clause-failed : goal.returns-then-not-fill-clause-failed
returns-then-not-fill-clause-failed g c failed =
    let calls = g.S.System.calls in
    leaves-this c.args.name.now (calls c.args.system.now) (calls c.fill.new.system) c.fill.ensures.failed

pub returns-then-not-rename-clause-failed : goal.returns-then-not-rename-clause-failed
returns-then-not-rename-clause-failed g c failed =
    let calls = g.S.System.calls in
    let name = c.args.name.now in
    leaves-this-then name (calls c.args.system.now) (calls c.fill.new.system) (calls c.rename.new.self)
    (leaves-this name (calls c.args.system.now) (calls c.fill.new.system) c.fill.ensures.failed)
    (leaves-unrenamed name c.args.beside.now (calls c.fill.new.system) (calls c.rename.new.self) c.rename.result c.if-not-rename.true c.rename.ensures)
