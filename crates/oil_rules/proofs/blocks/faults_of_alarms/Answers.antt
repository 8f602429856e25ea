use Rattle.std.proofs.Common.{List, subst}
use Rattle.std.proofs.lemmas.Result.{IfOk-weaker}
use Rattle.sloth_base.specs.Search.{IsSearchResult, Somewhere}
use Rattle.oil_parse.specs.declared.tree.OilObject.{OilObject}
use Rattle.oil_rules.specs.AlarmFaults.{AlarmFault}
use Rattle.oil_rules.proofs.blocks.faults_of_alarms.Goals as goal

pub returns : goal.returns
returns c =
    let objects = c.args.objects.now in
    IfOk-weaker c.judge_alarms.result (IsSearchResult (Somewhere (AlarmFault c.in_ok-tasks.tasks) objects)) (IsSearchResult (Somewhere (AlarmFault objects) objects))
    (λ found. subst (λ (x : List OilObject). IsSearchResult (Somewhere (AlarmFault x) objects) found) c.in_ok-tasks.ensures)
    c.judge_alarms.ensures
