use Rattle.std.proofs.Common.{◌∙◌, sym}
use Rattle.std.proofs.lemmas.Result.{IfOk-weaker}
use Rattle.run_windows.specs.RunWindows.{IsLeastOf}
use Rattle.response_reasons.specs.Calls.{HasLongestServer, HasCodedServer}
use Rattle.response_reasons.proofs.Servers.{of_code_some, of_code_none}
use Rattle.response_reasons.proofs.calls.coded_line.Goals as goal

pub returns-in-Some : goal.returns-in-Some
returns-in-Some c =
    let w = c.args.walks.now in
    let costs = c.args.costs.now in
    let h = c.args.h in
    let s = c.in-Some.service in
    IfOk-weaker c.longest_line.result (IsLeastOf (HasLongestServer w.config w.app costs h s)) (IsLeastOf (HasCodedServer w.config w.app costs h c.args.code))
    (λ line l. of_code_some w.config w.app costs h c.args.code s line (sym c.from_code.ensures.is ∙ c.in-Some.is) l) c.longest_line.ensures

pub returns-in-None : goal.returns-in-None
returns-in-None c =
    let w = c.args.walks.now in
    of_code_none w.config w.app c.args.costs.now c.args.h c.args.code (sym c.from_code.ensures.is ∙ c.in-None.is)
