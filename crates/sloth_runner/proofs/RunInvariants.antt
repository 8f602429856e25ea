-- Some counts of a run are handed out, and the lines of their events were put.
use Rattle.std.specs.Prelude.{ℕ, ◌≡◌, ◌+◌, List, ◌++◌, Bool, false}
use Rattle.sloth_base.specs.declared.service.Stamped.{Stamped}
use Rattle.sloth_base.specs.declared.numbers.Step.{Step}
use Rattle.observe.specs.Progress.{HasProgress, remaining, view_of, arrivals_of, expected_count}
use Rattle.observe.specs.declared.observing.Observer.{Observer}
use Rattle.sloth_base.specs.declared.image.Image.{Image}
use Rattle.sloth_io.specs.Sink.{Output, output_with}
use Rattle.trace_text.specs.Texts.{text_after, ends_idle}
use Rattle.trace_text.specs.declared.events.Form.{Form}
use Rattle.sim_induction.specs.Sound.{events_of}
use Rattle.sloth_runner.specs.declared.runner.Printer.{Printer}
use Rattle.sloth_runner.specs.declared.runner.Runner.{Runner}
use Rattle.sloth_runner.specs.declared.runner.RunEnd.TheVariants as ends
use Rattle.sloth_runner.specs.Runner.{run_text, image_of, given_arrivals, count_of, IsRunning}

-- on the way from one observer to another some of them were handed out
pub record IsHandingOut (o0 o : Observer) : Type 0 where
  pub view : view_of o ≡ view_of o0
  pub arrivals : arrivals_of o ≡ arrivals_of o0
  pub expected : expected_count o ≡ expected_count o0
  pub fed : (steps : List Step) (events : List Stamped) → HasProgress o0 steps events
      → (front : List Stamped) × HasProgress o steps front × (front ++ remaining o ≡ events ++ remaining o0)

-- and their lines were put
pub record IsDraining (image : Image) (form : Form) (idle : Bool) (o0 : Observer) (last : Bool) (o : Observer) (t0 t : Output) : Type 0 where
  pub done : List ℕ
  pub taken : t ≡ output_with t0 done
  pub text : text_after image form idle (remaining o0) ≡ done ++ text_after image form last (remaining o)
  pub ends : ends_idle idle (remaining o0) ≡ ends_idle last (remaining o)
  pub hands : IsHandingOut o0 o

-- k instructions were done since the runner was fresh
pub record IsBehindRun (r0 r : Runner) (k : ℕ) : Type 0 where
  pub running : IsRunning r
  pub count : count_of r ≡ k
  pub image : image_of r ≡ image_of r0
  pub arrivals : given_arrivals r ≡ given_arrivals r0

-- and the lines of their events were put
pub record IsBehindPrintedRun (r0 r : Runner) (form : Form) (printer : Printer) (t0 t : Output) (k : ℕ) : Type 0 where
  pub ran : IsBehindRun r0 r k
  pub taken : t ≡ output_with t0 (run_text (image_of r0) (given_arrivals r0) form k)
  pub idle : printer.after_idle ≡ ends_idle false (events_of (image_of r0) (given_arrivals r0) k)
  pub form_is : printer.form ≡ form
  pub printed : printer.image.now ≡ image_of r0
