use Rattle.std.proofs.Common.{◌≡◌, ◌+◌, drop}
use Rattle.sloth_base.specs.Named.{body_of}
use Rattle.osek_machine.proofs.events.body_number.Given as goal

abbrev pub invariant-loop-func : goal.invariant-loop-func
invariant-loop-func l = record {
  place : l.place ≡ l.func-index;
  rest : body_of l.app.funcs l.t ≡ l.place + body_of (drop l.func-index l.app.funcs) l.t;
}
