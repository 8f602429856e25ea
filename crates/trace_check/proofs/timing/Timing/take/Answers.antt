use Rattle.std.proofs.Common.{◌∙◌, Some, None, true, [], ◌++◌, sym, ap, refl, cond}
use Rattle.sloth_base.specs.Events.{admitted_line, is_boot}
use Rattle.sloth_base.specs.Stretches.{longest_stretch}
use Rattle.trace_check.specs.Scan.{scan_after_event}
use Rattle.trace_check.specs.Counts.{with_admit}
use Rattle.trace_check.specs.Timed.{KeptPass}
use Rattle.trace_check.proofs.Longer.{stays_late, stops_here, goes_on}
use Rattle.trace_check.proofs.timing.Timing.take.Goals as goal

pub returns-then-is_late-clause-timed : goal.returns-then-is_late-clause-timed
returns-then-is_late-clause-timed c events timed = stays_late events c.args.self.now timed c.args.event.now (sym c.is_late.ensures ∙ c.if-is_late.true)

pub returns-then-not-look-clause-timed : goal.returns-then-not-look-clause-timed
returns-then-not-look-clause-timed c events timed =
    let inside = c.self.inside in
    let e = c.args.event.now in
    let new : KeptPass = record { config = inside.config.now; n = inside.n; arrivals = inside.arrivals.now; scan = c.look.new.self; admits = inside.admits.items; most = inside.most; stopped = true } in
    stops_here events c.args.self.now timed e (sym c.is_late.ensures ∙ c.if-is_late.false) new
    (ap (λ (k : KeptPass). k.config) c.self.view_is) (ap (λ (k : KeptPass). k.n) c.self.view_is) (ap (λ (k : KeptPass). k.arrivals) c.self.view_is)
    (sym (ap (λ b. cond b (Some c.look.new.self) None) c.if-not-look.true) ∙ (c.look.ensures.looked ∙ ap (λ (k : KeptPass). scan_after_event k.n k.scan e) c.self.view_is))
    refl

pub returns-clause-timed : goal.returns-clause-timed
returns-clause-timed c events timed =
    let inside = c.self.inside in
    let e = c.args.event.now in
    let new : KeptPass = record { config = inside.config.now; n = inside.n; arrivals = inside.arrivals.now; scan = c.look.new.self; admits = c.push_number.new.numbers.items; most = c.most_behind-self-inside.result; stopped = inside.stopped } in
    goes_on events c.args.self.now timed e (sym c.is_late.ensures ∙ c.if-is_late.false) new
    (ap (λ (k : KeptPass). k.config) c.self.view_is) (ap (λ (k : KeptPass). k.n) c.self.view_is) (ap (λ (k : KeptPass). k.arrivals) c.self.view_is)
    (sym (ap (λ b. cond b (Some c.look.new.self) None) c.if-not-look.false) ∙ (c.look.ensures.looked ∙ ap (λ (k : KeptPass). scan_after_event k.n k.scan e) c.self.view_is))
    (c.in_ok-push_number.ensures ∙ ap (λ (k : KeptPass). k.admits ++ with_admit (admitted_line e.event) e.stamp.at []) c.self.view_is)
    (c.most_behind-self-inside.ensures ∙ ap (λ (k : KeptPass). cond (is_boot e.event) (longest_stretch k.config) k.most) c.self.view_is)
    (ap (λ (k : KeptPass). k.stopped) c.self.view_is)
