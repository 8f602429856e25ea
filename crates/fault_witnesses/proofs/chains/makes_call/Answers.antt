use Rattle.std.proofs.Common.{◌≡◌, ◌∙◌, sym, subst, true, ◌<◌, List, length}
use Rattle.std.specs.Prelude.{◌==◌, ◌&&◌}
use Rattle.std.specs.List.{list_any}
use Rattle.sloth_base.specs.declared.app.Func.{Func}
use Rattle.sloth_base.specs.declared.app.Item.{Item}
use Rattle.call_graph.specs.Rows.{is_call}
use Rattle.fault_witnesses.proofs.Chained.{call_found}
use Rattle.fault_witnesses.proofs.chains.makes_call.Goals as goal

pub returns-then-caller-items : goal.returns-then-caller-items
returns-then-caller-items c = λ h.
    let known = subst (λ (x : List Func). c.args.caller < length x) c.items.ensures c.if-caller-items.true in
    call_found c.args.app.now c.args.caller c.args.link known
    (subst (λ (f : Func). list_any (λ (item : Item). is_call c.args.link.func item.op && (item.line == c.args.link.line)) f.items ≡ true) c.function.ensures
    (sym c.has_line_call.ensures ∙ h))
