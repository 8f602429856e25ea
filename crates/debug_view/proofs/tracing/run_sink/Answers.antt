use Rattle.std.proofs.Common.{◌∙◌, ap}
use Rattle.sloth_runner.specs.Runner.{run_text, given_arrivals}
use Rattle.trace_text.specs.declared.events.Form.TheVariants as form
use Rattle.debug_view.proofs.SinkTexts.{taken_whole}
use Rattle.debug_view.proofs.tracing.run_sink.Goals as goal

pub returns-in-Ok : goal.returns-in-Ok
returns-in-Ok c =
    taken_whole c.in_ok-sink.sink c.run.new.out _ c.in-Ok.ensures.text c.in_ok-sink.ensures.taken
    ∙ ap (λ i. run_text i (given_arrivals c.in_ok-runner.runner) form.Counted c.args.n) c.in_ok-runner.ensures.image
    ∙ ap (λ a. run_text c.args.image.now a form.Counted c.args.n) c.in_ok-runner.ensures.arrivals
