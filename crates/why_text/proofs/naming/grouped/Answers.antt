use Rattle.std.proofs.Common.{◌≡◌, [], List, sym, subst, length, arith}
use Rattle.stage_faults.specs.declared.notes.Note.{Note}
use Rattle.why_text.specs.NamedFaults.{NamesAll}
use Rattle.why_text.proofs.NamedFaults.{rise_own, names_none, names_more, names_end, no_note}
use Rattle.why_text.proofs.naming.grouped.Goals as goal

pub loop-fault-init : goal.loop-fault-init
loop-fault-init c = subst (λ (ys : List Note). NamesAll [] ys) (sym c.new-list.ensures.items) names_none

pub push_group-requires : goal.push_group-requires
push_group-requires c = rise_own 0 c.args.faults.now c.loop-fault.fault-index no_note c.loop-fault-test.true c.requires

pub loop-fault-preserved : goal.loop-fault-preserved
loop-fault-preserved c =
    names_more c.args.faults.now c.loop-fault.fault-index no_note c.loop-fault.list.items c.push_group.new.list.items c.loop-fault-test.true c.requires c.in_ok-push_group.ensures
    c.loop-fault.invariant

pub returns : goal.returns
returns c =
    let e : c.loop-fault.fault-index ≡ length c.args.faults.now = omega arith in
    names_end c.args.faults.now c.loop-fault.fault-index c.loop-fault.list.items e c.loop-fault.invariant
