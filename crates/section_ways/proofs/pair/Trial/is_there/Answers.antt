use Rattle.std.proofs.Common.{◌≡◌, true, List, ◌∙◌, sym, subst}
use Rattle.sloth_base.specs.declared.app.App.{App}
use Rattle.sloth_base.specs.Named.{operation}
use Rattle.osek_blocking.specs.Sections.{is_counted}
use Rattle.walk_sums.specs.declared.standing.Standing.{Standing}
use Rattle.section_ways.specs.Standings.{IsRaisedAt}
use Rattle.section_ways.proofs.Advances.{raised_there, told_parts}
use Rattle.section_ways.proofs.pair.Trial.is_there.Goals as goal

pub returns : goal.returns
returns c = λ up.
    let t = c.args.self.now in
    let at = c.in-Some.at in
    let here = c.if-not-counts_here.false in
    let counts = subst (λ (a : App). is_counted (operation a at.point.func at.point.item) ≡ true) c.app.ensures.is (c.counts_here.ensures.counts here) in
    let raised = (told_parts t.config t.app t.above t.task c.args.stack.now.items c.pop.new.self.items at c.in-Some.ensures.items c.requires).1 in (
      c.in_ok-push.ensures ∙ sym c.in-Some.ensures.items,
      subst (λ (s : List Standing). IsRaisedAt t.config t.app t.above t.task s c.args.point) (sym c.in-Some.ensures.items)
          (raised_there t.config t.app t.above t.task c.pop.new.self.items at c.args.point (c.counts_here.ensures.same here) raised counts (sym c.is_raised.ensures ∙ up)),
    )
