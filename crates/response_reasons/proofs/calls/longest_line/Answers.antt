use Rattle.std.proofs.Common.{◌∙◌, sym}
use Rattle.std.proofs.lemmas.Result.{IfOk-weaker}
use Rattle.run_windows.specs.RunWindows.{IsLeastOf}
use Rattle.walk_sums.specs.declared.counted.Counted.TheVariants as counts
use Rattle.response_reasons.specs.Calls.{HasServer, HasLongestServer}
use Rattle.response_reasons.proofs.Servers.{of_longest, of_shorter}
use Rattle.response_reasons.proofs.calls.longest_line.Goals as goal

pub returns-then-is_longest : goal.returns-then-is_longest
returns-then-is_longest c =
    let w = c.args.walks.now in
    let costs = c.args.costs.now in
    let h = c.args.h in
    let s = c.args.service in
    IfOk-weaker c.serving_line.result (IsLeastOf (HasServer w.config w.app costs h (counts.Calls s))) (IsLeastOf (HasLongestServer w.config w.app costs h s))
    (λ line l. of_longest w.config w.app costs h s line (sym c.is_longest.ensures ∙ c.if-is_longest.true) l) c.serving_line.ensures

pub returns-else-is_longest : goal.returns-else-is_longest
returns-else-is_longest c =
    let w = c.args.walks.now in
    of_shorter w.config w.app c.args.costs.now c.args.h c.args.service (sym c.is_longest.ensures ∙ c.if-is_longest.false)
