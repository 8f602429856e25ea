use Rattle.std.proofs.Common.{◌∙◌, sym, ap, subst}
use Rattle.sloth_io.proofs.Called.{leaves-this, leaves-this-then, longer-name, replaced-beside, replaced-there, unreplaced, unreplaced-there}
use Rattle.sloth_io.proofs.replaced_files.replace_file.Goals as goal

pub returns-then-stays_there-clause-done : goal.returns-then-stays_there-clause-done
returns-then-stays_there-clause-done g c done =
    let calls = g.S.System.calls in
    let d = c.replace_there.ensures.done done in
    replaced-there (calls c.args.system.now) (calls c.look-found.new.self) (calls c.replace_there.new.system) c.look-found.result d.0 c.args.name.now c.args.bytes.now d.1 d.2
    (sym c.stays_there.ensures ∙ c.if-stays_there.true) c.look-found.ensures d.5 d.3 d.4

pub returns-then-stays_there-clause-failed : goal.returns-then-stays_there-clause-failed
returns-then-stays_there-clause-failed g c failed =
    let calls = g.S.System.calls in
    unreplaced-there (calls c.args.system.now) (calls c.look-found.new.self) (calls c.replace_there.new.system) c.look-found.result c.args.name.now
    (sym c.stays_there.ensures ∙ c.if-stays_there.true) c.look-found.ensures c.replace_there.ensures.failed

pub returns-then-not-is_writable-clause-failed : goal.returns-then-not-is_writable-clause-failed
returns-then-not-is_writable-clause-failed g c failed =
    let calls = g.S.System.calls in
    unreplaced (calls c.args.system.now) (calls c.look-found.new.self) (calls c.is_writable.new.system) c.look-found.result c.args.name.now c.look-found.ensures
    (leaves-this c.args.name.now (calls c.look-found.new.self) (calls c.is_writable.new.system) c.is_writable.ensures.failed)

pub returns-in_default-clause-failed : goal.returns-in_default-clause-failed
returns-in_default-clause-failed g c failed =
    let calls = g.S.System.calls in
    unreplaced (calls c.args.system.now) (calls c.look-found.new.self) (calls c.is_writable.new.system) c.look-found.result c.args.name.now c.look-found.ensures
    (leaves-this c.args.name.now (calls c.look-found.new.self) (calls c.is_writable.new.system) c.is_writable.ensures.failed)

pub returns-clause-done : goal.returns-clause-done
returns-clause-done g c done =
    let calls = g.S.System.calls in
    let d = c.write_beside.ensures.done done in
    replaced-beside (calls c.args.system.now) (calls c.look-found.new.self) (calls c.is_writable.new.system) (calls c.write_beside.new.system) c.look-found.result c.args.name.now
    c.as_str.result.now c.args.bytes.now d.0 d.1 (sym c.stays_there.ensures ∙ c.if-stays_there.false) c.look-found.ensures (c.is_writable.ensures.done c.if-not-is_writable.false)
    (c.as_str.ensures.value ∙ c.in-Ok.ensures) d.3 d.2

pub returns-clause-failed : goal.returns-clause-failed
returns-clause-failed g c failed =
    let calls = g.S.System.calls in
    let name = c.args.name.now in
    let named = c.as_str.ensures.value ∙ c.in-Ok.ensures in
    unreplaced (calls c.args.system.now) (calls c.look-found.new.self) (calls c.write_beside.new.system) c.look-found.result name c.look-found.ensures
    (leaves-this-then name (calls c.look-found.new.self) (calls c.is_writable.new.system) (calls c.write_beside.new.system)
    (leaves-this name (calls c.look-found.new.self) (calls c.is_writable.new.system) c.is_writable.ensures.failed)
    (c.write_beside.ensures.failed failed (λ same. longer-name name (sym named ∙ same))))
