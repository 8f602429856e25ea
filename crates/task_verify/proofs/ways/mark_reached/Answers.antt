use Rattle.task_verify.proofs.Searches.{begun}
use Rattle.task_verify.proofs.ways.mark_reached.Goals as goal

pub spread-requires-clause-searching : goal.spread-requires-clause-searching
spread-requires-clause-searching c =
    begun c.args.func.now c.args.marks.now c.visit.new.marks c.args.pending.now.items c.visit.new.pending.items c.requires.count c.requires.some c.requires.clear c.requires.none
    c.in_ok-visit.ensures.visited
