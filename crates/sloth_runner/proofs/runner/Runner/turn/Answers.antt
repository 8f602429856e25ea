use Rattle.std.proofs.Common.{◌∙◌, ap, refl, subst}
use Rattle.std.proofs.lemmas.Result.{err_from_is_err_and}
use Rattle.sloth_base.specs.declared.image.Image.{Image}
use Rattle.sloth_io.specs.Sink.{output_with, GainsPart}
use Rattle.trace_text.specs.Texts.{text_after}
use Rattle.observe.specs.Progress.{remaining}
use Rattle.sloth_runner.specs.Runner.{IsAdvance}
use Rattle.sloth_runner.proofs.Turning.{advanced-adds, running-behind}
use Rattle.sloth_runner.proofs.runner.Runner.turn.Goals as goal

pub returns-in_err-drain-clause-broke : goal.returns-in_err-drain-clause-broke
returns-in_err-drain-clause-broke g c =
    let r = c.args.self.now in
    let advanced : IsAdvance r c.advance.new.self = rw c.in_default.is at c.advance.ensures.went in
    let P : Image → Type 0 = λ i. GainsPart (g.S.Sink.seen c.args.out.now) (g.S.Sink.seen c.drain.new.out)
    (text_after i c.args.printer.now.form c.args.printer.now.after_idle (remaining c.advance.new.self.observer)) in
    let failed = err_from_is_err_and c.from_residual.result c.from_residual.ensures.1 in rw failed.1 (record {
      events = remaining c.advance.new.self.observer;
      adds = advanced-adds r c.advance.new.self c.requires.running advanced c.advance.ensures.arrivals;
      taken = subst P c.requires.printer c.in_err-drain.ensures.err;
    })

pub returns-clause-went : goal.returns-clause-went
returns-clause-went g c =
    let r = c.args.self.now in
    let advanced : IsAdvance r c.advance.new.self = rw c.in_default.is at c.advance.ensures.went in
    let events = remaining c.advance.new.self.observer in
    record {
      running = running-behind r c.advance.new.self _ c.requires.running advanced c.advance.ensures.image c.advance.ensures.arrivals c.in_ok-drain.ensures.fed
          c.drain.ensures.view c.drain.ensures.arrivals c.drain.ensures.expected c.in_ok-drain.ensures.drained refl refl;
      count = advanced.ran.count;
      events = events;
      adds = advanced-adds r c.advance.new.self c.requires.running advanced c.advance.ensures.arrivals;
      taken = c.in_ok-drain.ensures.ok ∙ ap (λ i. output_with (g.S.Sink.seen c.args.out.now) (text_after i c.args.printer.now.form c.args.printer.now.after_idle events)) c.requires.printer;
      idle = c.in_ok-drain.ensures.after_idle;
    }
