use Rattle.std.proofs.Common.{◌∙◌, sym, ap, subst, List, ◌++◌, ◌∷◌, []}
use Rattle.sloth_base.specs.Order.{NoFault}
use Rattle.trace_text.specs.ArrivalsText.{owners_read}
use Rattle.load_text.specs.declared.load_line.Entry.{Entry}
use Rattle.load_text.specs.LoadText.{LineFault}
use Rattle.load_text.specs.Loads.{IsLoad}
use Rattle.load_text.proofs.Kept.{number-fits, one-more}
use Rattle.load_text.proofs.load_line.read_line.Goals as goal

pub line_entry-requires : goal.line_entry-requires
line_entry-requires c =
    number-fits c.args.tasks.now c.args.counters.now c.as_slice.result.now c.args.number c.args.line.now c.in_default.ensures (sym c.is_entry.ensures ∙ c.if-is_entry.true)

pub returns-in_ok-push-clause-in_range : goal.returns-in_ok-push-clause-in_range
returns-in_ok-push-clause-in_range c =
    let read = c.args.read.now.items in
    let tasks = c.args.tasks.now in
    let counters = c.args.counters.now in
    let none = subst (λ (xs : List Entry). NoFault (LineFault tasks counters xs c.args.number c.args.line.now)) c.as_slice.ensures.value c.in_default.ensures in
    subst (IsLoad (owners_read tasks counters)) (sym (c.in_ok-push.ensures ∙ ap (λ (a : Entry). read ++ a ∷ []) c.line_entry.ensures))
    (one-more tasks counters read c.args.number c.args.line.now none (sym c.is_entry.ensures ∙ c.if-is_entry.true) c.requires)

pub returns-in_ok-push-clause-none : goal.returns-in_ok-push-clause-none
returns-in_ok-push-clause-none c =
    subst (λ (xs : List Entry). NoFault (LineFault c.args.tasks.now c.args.counters.now xs c.args.number c.args.line.now)) c.as_slice.ensures.value c.in_default.ensures

pub returns-else-is_entry-clause-none : goal.returns-else-is_entry-clause-none
returns-else-is_entry-clause-none c =
    subst (λ (xs : List Entry). NoFault (LineFault c.args.tasks.now c.args.counters.now xs c.args.number c.args.line.now)) c.as_slice.ensures.value c.in_default.ensures
