use Rattle.std.proofs.Common.{rules, get_or}
use Rattle.std.proofs.lemmas.Result.{on_ok_weaker}
use Rattle.why_text.proofs.NamedFaults.{group_more, group_itself, stands_itself, no_note}
use Rattle.why_text.proofs.naming.push_group.Goals as goal
use Rattle.why_text.proofs.naming.push_group.Goals.{then-is_same_place+in_ok-push, else-is_same_place}

pub loop-note-preserved : goal.loop-note-preserved
loop-note-preserved c =
    let fault = c.args.fault.now in
    let note = get_or c.args.group.now c.loop-note.note-index no_note in
    elim c.if-is_same_place.branch [
      | then-is_same_place+in_ok-push w ↦
          let h = group_more fault note c.loop-note.found c.args.list.now.items c.loop-note.list.items w.push.new.list.items c.loop-note.invariant (search rules) w.in_ok-push.ensures in
          search rules
      | else-is_same_place w ↦ search rules
    ]

pub returns : goal.returns
returns c =
    let fault = c.args.fault.now in
    on_ok_weaker c.push-2.result
    (λ e. group_itself fault c.loop-note.found c.args.list.now.items c.loop-note.list.items c.push-2.new.list.items c.loop-note.invariant (stands_itself fault c.requires) e) c.push-2.ensures
