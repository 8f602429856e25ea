use Rattle.std.proofs.Common.{◌≡◌, ◌∙◌, ℕ, ◌+◌, List, ◌++◌, ap, refl, sym, subst, arith}
use Rattle.observe.specs.Progress.{remaining}
use Rattle.sim_induction.specs.Sound.{events_of}
use Rattle.sloth_base.specs.declared.service.Stamped.{Stamped}
use Rattle.sloth_runner.specs.Runner.{IsAdvance, image_of, given_arrivals, count_of}
use Rattle.sloth_runner.proofs.RunInvariants.{IsBehindRun}
use Rattle.sloth_runner.specs.declared.runner.Runner.{Runner}
use Rattle.sloth_runner.proofs.Running.{ran-more, stopped-events, nothing-yet}
use Rattle.sloth_runner.proofs.Turning.{running-behind}
use Rattle.sloth_runner.proofs.Tallying.{adds-of}
use Rattle.sloth_runner.proofs.runner.Runner.events.Goals as goal

pub loop-self-init : goal.loop-self-init
loop-self-init c =
    let r = c.args.self.now in
    let none = c.requires.fresh.1 in
    record {
      ran = record { running = c.requires.fresh.0; count = refl; image = refl; arrivals = refl };
      few = omega (arith, none);
      events = c.new-events.ensures.items ∙ sym (ap (events_of (image_of r) (given_arrivals r)) none ∙ nothing-yet (image_of r) (given_arrivals r));
    }

pub returns-in-Some : goal.returns-in-Some
returns-in-Some c =
    c.loop-self.invariant.events
    ∙ stopped-events c.args.self.now c.loop-self.self (count_of c.loop-self.self) c.args.n c.in-Some.end c.loop-self.invariant.ran (rw c.in-Some.is at c.advance.ensures.halted) (omega arith)

pub loop-self-preserved : goal.loop-self-preserved
loop-self-preserved c =
    let r0 = c.args.self.now in
    let r = c.loop-self.self in
    let p = c.advance.new.self in
    let advanced : IsAdvance r p = c.in_default.ensures.went in
    let q : Runner = record p { observer = c.add_events.new.observer } in
    let P : ℕ → Type 0 = λ k. IsBehindRun r0 q k in
    let running = running-behind r p q c.loop-self.invariant.ran.running advanced c.advance.ensures.image c.advance.ensures.arrivals c.in_ok-add_events.ensures.fed
    c.add_events.ensures.view c.add_events.ensures.arrivals c.add_events.ensures.expected c.in_ok-add_events.ensures.drained refl refl in
    let more = advanced.ran.count in
    record {
      ran = subst P (sym more) (ran-more r0 r q (count_of r) c.loop-self.invariant.ran running more c.advance.ensures.image (c.add_events.ensures.arrivals ∙ c.advance.ensures.arrivals));
      few = omega (arith, more);
      events = c.in_ok-add_events.ensures.added ∙ ap (λ (es : List Stamped). es ++ remaining p.observer) c.loop-self.invariant.events
          ∙ sym (adds-of r0 r p (count_of r) c.loop-self.invariant.ran advanced c.advance.ensures.arrivals)
          ∙ ap (events_of (image_of r0) (given_arrivals r0)) (sym more);
    }

pub returns : goal.returns
returns c =
    let all : count_of c.loop-self.self ≡ c.args.n = omega arith in
    c.loop-self.invariant.events ∙ ap (events_of (image_of c.args.self.now) (given_arrivals c.args.self.now)) all
