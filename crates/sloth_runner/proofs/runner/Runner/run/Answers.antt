use Rattle.std.proofs.Common.{◌≡◌, ◌+◌, arith, ◌∙◌, ap, refl}
use Rattle.std.proofs.lemmas.Result.{err_from_is_err_and}
use Rattle.sloth_io.specs.Sink.{output_with}
use Rattle.sloth_runner.proofs.Running.{running-init, running-on, stopped-text, stopped-end, whole-end, broken-text}
use Rattle.sloth_runner.specs.Runner.{IsPrintedAdvance, run_end, run_text, image_of, given_arrivals, count_of}
use Rattle.sloth_runner.proofs.runner.Runner.run.Goals as goal

pub loop-self-init : goal.loop-self-init
loop-self-init g c =
    let none = c.requires.fresh.1 in (running-init c.args.self.now c.args.form _ _ c.requires.fresh refl refl refl, omega (arith, none))

pub loop-self-preserved : goal.loop-self-preserved
loop-self-preserved g c =
    let went : IsPrintedAdvance c.loop-self.self c.turn.new.self c.loop-self.printer c.turn.new.printer (g.S.Sink.seen c.loop-self.out) (g.S.Sink.seen c.turn.new.out) =
    rw c.in_default.is at c.in_ok-end.ensures.went in
    let more : count_of c.turn.new.self ≡ count_of c.loop-self.self + 1 = went.count in (
      running-on c.args.self.now c.loop-self.self c.turn.new.self _ c.loop-self.printer c.turn.new.printer _ (g.S.Sink.seen c.loop-self.out) _
          c.loop-self.invariant.0 went c.turn.ensures.image c.turn.ensures.arrivals c.turn.ensures.form c.turn.ensures.printed,
      omega (arith, more),
    )

pub returns-in_err-end-clause-broke : goal.returns-in_err-end-clause-broke
returns-in_err-end-clause-broke g c =
    let failed = err_from_is_err_and c.from_residual.result c.from_residual.ensures.1 in
    rw failed.1
    (broken-text c.args.self.now c.loop-self.self _ c.loop-self.printer _ (g.S.Sink.seen c.loop-self.out) _ (count_of c.loop-self.self) c.args.n
    c.loop-self.invariant.0 c.in_err-end.ensures.broke (omega arith))

pub returns-in-Some-clause-text : goal.returns-in-Some-clause-text
returns-in-Some-clause-text g c =
    stopped-text c.args.self.now c.loop-self.self _ c.loop-self.printer _ (g.S.Sink.seen c.loop-self.out) _ (count_of c.loop-self.self) c.args.n c.in-Some.end
    c.loop-self.invariant.0 (rw c.in-Some.is at c.in_ok-end.ensures.halted) (omega arith) (rw c.in-Some.is at c.in_ok-end.ensures.untold)

pub returns-in-Some-clause-end : goal.returns-in-Some-clause-end
returns-in-Some-clause-end g c =
    stopped-end c.args.self.now c.loop-self.self (count_of c.loop-self.self) c.args.n c.in-Some.end
    c.loop-self.invariant.0.ran (rw c.in-Some.is at c.in_ok-end.ensures.halted) (omega arith)

pub returns-clause-text : goal.returns-clause-text
returns-clause-text g c =
    let all : count_of c.loop-self.self ≡ c.args.n = omega arith in
    c.loop-self.invariant.0.taken
    ∙ ap (λ k. output_with (g.S.Sink.seen c.args.out.now) (run_text (image_of c.args.self.now) (given_arrivals c.args.self.now) c.args.form k)) all

pub returns-clause-end : goal.returns-clause-end
returns-clause-end g c =
    let all : count_of c.loop-self.self ≡ c.args.n = omega arith in
    whole-end c.args.self.now c.loop-self.self (count_of c.loop-self.self) c.loop-self.invariant.0.ran
    ∙ ap (run_end (image_of c.args.self.now) (given_arrivals c.args.self.now)) all
