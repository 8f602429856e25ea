use Rattle.std.proofs.Common.{◌∙◌, ◌++◌, sym}
use Rattle.sloth_io.specs.Replaced.{calls_there, owner_calls}
use Rattle.sloth_io.proofs.Called.{then-calls}
use Rattle.sloth_io.proofs.replaced_files.replace_there.Goals as goal

pub returns-then-not-is_followed-clause-failed : goal.returns-then-not-is_followed-clause-failed
returns-then-not-is_followed-clause-failed g c = (owner_calls c.args.found c.is_followed.ensures.0, c.is_followed.ensures.1)

pub returns-in_default-clause-failed : goal.returns-in_default-clause-failed
returns-in_default-clause-failed g c =
    let calls = g.S.System.calls in
    let own = c.is_followed.ensures in
    (_, then-calls (calls c.args.system.now) (calls c.is_followed.new.system) (calls c.empty_file.new.self) (owner_calls c.args.found own.0) _ own.1 c.empty_file.ensures)

pub returns-clause-done : goal.returns-clause-done
returns-clause-done g c done =
    let calls = g.S.System.calls in
    let own = c.is_followed.ensures in
    let d = c.fill.ensures.done done in (
      own.0,
      _,
      d.0,
      d.1,
      sym own.2 ∙ c.if-not-is_followed.false,
      then-calls (calls c.args.system.now) (calls c.is_followed.new.system) (calls c.fill.new.system) (owner_calls c.args.found own.0) _ own.1
          (then-calls (calls c.is_followed.new.system) (calls c.empty_file.new.self) (calls c.fill.new.system) _ _ c.in-Some.ensures d.2),
    )

pub returns-clause-failed : goal.returns-clause-failed
returns-clause-failed g c =
    let calls = g.S.System.calls in
    let own = c.is_followed.ensures in
    let f = c.fill.ensures.failed in (
      _,
      then-calls (calls c.args.system.now) (calls c.is_followed.new.system) (calls c.fill.new.system) (owner_calls c.args.found own.0) _ own.1
          (then-calls (calls c.is_followed.new.system) (calls c.empty_file.new.self) (calls c.fill.new.system) _ f.0 c.empty_file.ensures f.1),
    )
