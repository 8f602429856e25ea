use Rattle.std.proofs.Common.{sym, ◌∙◌, ap, subst, arith, Some}
use Rattle.sloth_base.specs.Machine.{State}
use Rattle.sloth_base.specs.Arrivals.{AreArrivals}
use Rattle.sloth_base.specs.Owners.{owners_named}
use Rattle.observe.specs.Progress.{arrivals_from}
use Rattle.observe.proofs.Moments.{from-later}
use Rattle.rv32_machine.specs.Run.{run_from, state_after_from}
use Rattle.sloth_runner.proofs.Turning.{weaker, controller-lines, first-fed, running-at}
use Rattle.sloth_runner.proofs.runner.Runner.new.Goals as goal

pub indexed-requires-clause-ordered : goal.indexed-requires-clause-ordered
indexed-requires-clause-ordered c = weaker 1 0 c.args.arrivals.now (omega arith) c.requires.arrivals.ordered

pub returns-clause-fresh : goal.returns-clause-fresh
unfolding run_from state_after_from
returns-clause-fresh c =
    let o = c.in_ok-observer.observer in
    let e = c.in_ok-observer.ensures in (
      running-at _ 0 (record {
        format = c.requires.format;
        ran = record {
          arrivals = subst (λ B. AreArrivals (owners_named c.args.image.now) B) (sym e.arrivals) c.requires.arrivals;
          lines = controller-lines (owners_named c.args.image.now) c.args.arrivals.now c.requires.format.few_tasks c.requires.format.few_counters c.requires.arrivals.lines_owned;
          after = ap (λ (m : State). Some m) (sym c.in_ok-machine.ensures.state);
          coming = sym (ap (arrivals_from 0) e.arrivals ∙ from-later 0 0 c.args.arrivals.now (weaker 1 0 c.args.arrivals.now (omega arith) c.requires.arrivals.ordered) (omega arith));
          count = c.in_ok-machine.ensures.count;
        };
        view = e.view;
        fed = first-fed o c.args.image.now e.fed;
        drained = e.drained;
        expected = e.expected;
      }),
      c.in_ok-machine.ensures.count,
    )
