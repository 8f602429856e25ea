use Rattle.observe.proofs.Feeding.{fed-keeps}
use Rattle.observe.proofs.observing.Observer.feed.Goals as goal

pub returns-clause-fed : goal.returns-clause-fed
returns-clause-fed c steps events f =
    rw (c.advance.ensures.view, c.advance.ensures.arrivals, c.advance.ensures.advanced)
    (fed-keeps _ _ _ c.args.step.now steps events f c.requires.drained c.requires.expected c.advance.ensures.joins c.advance.ensures.opens)
