use Rattle.std.proofs.Common.{List, subst}
use Rattle.std.proofs.lemmas.Result.{IfOk-weaker}
use Rattle.sloth_base.specs.declared.config.Config.{Config}
use Rattle.load_text.specs.declared.load_line.Entry.{Entry}
use Rattle.response_text.specs.Inputs.{IsLoadOf}
use Rattle.sloth_source.specs.TaskNames.{task_named}
use Rattle.response_text.specs.TaskText.{HasPartsOf}
use Rattle.response_text.proofs.task_text.text_for.Goals as goal

pub returns-clause-told : goal.returns-clause-told
returns-clause-told c =
    let load = c.in_ok-load.load.items in
    let is = subst (λ (x : Config). IsLoadOf x c.args.text.now load) c.config.ensures.is c.in_ok-load.ensures.load in
    IfOk-weaker c.text_of.result _ _ (λ told has. record {
      load = load;
      is_load = is;
      has = subst (λ (l : List Entry). HasPartsOf c.args.verified.now.config c.args.verified.now.app l (task_named c.args.verified.now.config c.args.name.now) told) c.deref.ensures.value has;
    }) c.text_of.ensures.told
