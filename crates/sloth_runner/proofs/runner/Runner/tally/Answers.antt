use Rattle.std.proofs.Common.{◌≡◌, ◌∙◌, ℕ, ◌+◌, ◌<◌, ◌^◌, List, length, ap, refl, sym, subst, arith}
use Rattle.std.specs.List.{All}
use Rattle.observe.specs.Progress.{remaining}
use Rattle.sim_induction.specs.Sound.{events_of}
use Rattle.trace_text.specs.Summary.{counts_of}
use Rattle.sloth_runner.specs.Runner.{IsAdvance, image_of, given_arrivals, count_of, run_end}
use Rattle.sloth_runner.proofs.RunInvariants.{IsBehindRun}
use Rattle.sloth_runner.specs.Moments.{counts_with}
use Rattle.sloth_runner.specs.declared.runner.Runner.{Runner}
use Rattle.sloth_runner.proofs.Running.{ran-more, stopped-events, stopped-end, whole-end, nothing-yet}
use Rattle.sloth_runner.proofs.Turning.{running-behind}
use Rattle.sloth_runner.proofs.Tallying.{room-of, counts-behind}
use Rattle.sloth_runner.proofs.runner.Runner.tally.Goals as goal

pub loop-self-init : goal.loop-self-init
loop-self-init c =
    let r = c.args.self.now in
    let none = c.requires.fresh.1 in
    record {
      ran = record { running = c.requires.fresh.0; count = refl; image = refl; arrivals = refl };
      few = omega (arith, none);
      counts = sym (ap (λ k. counts_of (events_of (image_of r) (given_arrivals r) k)) none ∙ ap counts_of (nothing-yet (image_of r) (given_arrivals r)));
    }

pub returns-in-Some-clause-counts : goal.returns-in-Some-clause-counts
returns-in-Some-clause-counts c =
    c.loop-self.invariant.counts
    ∙ ap counts_of (stopped-events c.args.self.now c.loop-self.self (count_of c.loop-self.self) c.args.n c.in-Some.end c.loop-self.invariant.ran (rw c.in-Some.is at c.advance.ensures.halted) (omega arith))

pub returns-in-Some-clause-end : goal.returns-in-Some-clause-end
returns-in-Some-clause-end c =
    stopped-end c.args.self.now c.loop-self.self (count_of c.loop-self.self) c.args.n c.in-Some.end c.loop-self.invariant.ran (rw c.in-Some.is at c.advance.ensures.halted) (omega arith)

pub count_events-requires : goal.count_events-requires
count_events-requires c =
    let r = c.loop-self.self in
    let p = c.advance.new.self in
    let P : List ℕ → Type 0 = λ counts. All (λ number. number + length (remaining p.observer) < 2 ^ 32) counts in
    record {
      room = subst P (sym c.loop-self.invariant.counts)
          (room-of c.args.self.now r p (count_of r) c.loop-self.invariant.ran c.in_default.ensures.went c.advance.ensures.arrivals c.requires.fresh.0.ran.arrivals.few (omega arith));
    }

pub loop-self-preserved : goal.loop-self-preserved
loop-self-preserved c =
    let r0 = c.args.self.now in
    let r = c.loop-self.self in
    let p = c.advance.new.self in
    let advanced : IsAdvance r p = c.in_default.ensures.went in
    let q : Runner = record p { observer = c.count_events.new.observer } in
    let P : ℕ → Type 0 = λ k. IsBehindRun r0 q k in
    let running = running-behind r p q c.loop-self.invariant.ran.running advanced c.advance.ensures.image c.advance.ensures.arrivals c.count_events.ensures.fed
    c.count_events.ensures.view c.count_events.ensures.arrivals c.count_events.ensures.expected c.count_events.ensures.drained refl refl in
    let more = advanced.ran.count in
    record {
      ran = subst P (sym more) (ran-more r0 r q (count_of r) c.loop-self.invariant.ran running more c.advance.ensures.image (c.count_events.ensures.arrivals ∙ c.advance.ensures.arrivals));
      few = omega (arith, more);
      counts = c.count_events.ensures.counts ∙ ap (λ x. counts_with x (remaining p.observer)) c.loop-self.invariant.counts
          ∙ counts-behind r0 r p (count_of r) c.loop-self.invariant.ran advanced c.advance.ensures.arrivals
          ∙ ap (λ k. counts_of (events_of (image_of r0) (given_arrivals r0) k)) (sym more);
    }

pub returns-clause-counts : goal.returns-clause-counts
returns-clause-counts c =
    let all : count_of c.loop-self.self ≡ c.args.n = omega arith in
    c.loop-self.invariant.counts ∙ ap (λ k. counts_of (events_of (image_of c.args.self.now) (given_arrivals c.args.self.now) k)) all

pub returns-clause-end : goal.returns-clause-end
returns-clause-end c =
    let all : count_of c.loop-self.self ≡ c.args.n = omega arith in
    whole-end c.args.self.now c.loop-self.self (count_of c.loop-self.self) c.loop-self.invariant.ran
    ∙ ap (run_end (image_of c.args.self.now) (given_arrivals c.args.self.now)) all
