use Rattle.std.proofs.Common.{◌∙◌, true, false, length, sym}
use Rattle.response_text.proofs.Numbered.{numbered, begun_inside, shown_parts}
use Rattle.response_text.proofs.task_text.both_parts.Goals as goal

pub part_text-requires-clause-inside : goal.part_text-requires-clause-inside
part_text-requires-clause-inside c e =
    begun_inside c.args.found.now c.args.task true (length c.args.walks.now.config.tasks) c.args.anywhere c.requires.count c.requires.anywhere (sym c.has_parts.ensures ∙ e)

pub part_text-requires-clause-shown : goal.part_text-requires-clause-shown
part_text-requires-clause-shown c e = numbered c.args.found.now c.args.task true c.args.anywhere c.requires.anywhere (sym c.has_parts.ensures ∙ e)

pub part_text-requires-2-clause-inside : goal.part_text-requires-2-clause-inside
part_text-requires-2-clause-inside c e =
    begun_inside c.args.found.now c.args.task false (length c.args.walks.now.config.tasks) c.args.behind c.requires.count c.requires.behind
    (shown_parts c.args.anywhere c.args.behind (sym c.shows_behind-shown.ensures ∙ e))

pub part_text-requires-2-clause-shown : goal.part_text-requires-2-clause-shown
part_text-requires-2-clause-shown c e =
    numbered c.args.found.now c.args.task false c.args.behind c.requires.behind (shown_parts c.args.anywhere c.args.behind (sym c.shows_behind-shown.ensures ∙ e))
