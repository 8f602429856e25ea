use Rattle.std.proofs.Common.{List, ◌∙◌, ap, take, drop, subst, sym}
use Rattle.sloth_base.specs.declared.service.Arrival.{Arrival}
use Rattle.sloth_runner.specs.Moments.{AreLines}
use Rattle.sloth_runner.specs.Runner.{count_of, image_of}
use Rattle.sloth_runner.proofs.Turning.{arrived-is, lines-drop}
use Rattle.sloth_runner.proofs.runner.Runner.arrive_first.Goals as goal

pub returns-clause-arrived : goal.returns-clause-arrived
returns-clause-arrived c =
    let r = c.args.self.now in
    let L : List Arrival → Type 0 = AreLines in
    record {
      state = arrived-is r (image_of r) (count_of r) (take c.args.due r.coming.now) _ c.requires.ran (ap (λ n. take n r.coming.now) c.requires.due) c.arrive_front-self.ensures.state;
      coming = c.arrive_front-self.ensures.behind ∙ ap (λ n. drop n r.coming.now) c.requires.due;
      lines = subst L (sym c.arrive_front-self.ensures.behind) (lines-drop _ r.coming.now c.requires.ran.lines);
      count = c.arrive_front-self.ensures.count;
    }
