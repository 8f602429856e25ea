use Rattle.std.proofs.Common.{List, sym, subst}
use Rattle.std.proofs.lemmas.Result.{IfOk-weaker}
use Rattle.sloth_base.specs.declared.config.Config.{Config}
use Rattle.load_text.specs.declared.load_line.Entry.{Entry}
use Rattle.response_text.specs.Inputs.{IsLoadOf}
use Rattle.response_text.specs.ResponseText.{HasResponses}
use Rattle.sloth_base.specs.DeclaredNames.{task_names, counter_names}
use Rattle.sloth_base.specs.Owners.{owners_in}
use Rattle.load_text.specs.Loads.{IsLoad}
use Rattle.trace_text.specs.ArrivalsText.{owners_read}
use Rattle.response_text.proofs.Keeping.{owned}
use Rattle.response_text.proofs.text.text_for.Goals as goal

pub text_of-requires-clause-in_load : goal.text_of-requires-clause-in_load
text_of-requires-clause-in_load c =
    let load = c.in_ok-load.load.items in
    let is = subst (λ (x : Config). IsLoad (owners_read (task_names x) (counter_names x)) load) c.config.ensures.is c.in_ok-load.ensures.in_range in
    subst (λ (l : List Entry). IsLoad (owners_in c.args.verified.now.config) l) (sym c.deref.ensures.value) (owned c.args.verified.now.config load is)

pub returns-clause-told : goal.returns-clause-told
returns-clause-told c =
    let load = c.in_ok-load.load.items in
    let is = subst (λ (x : Config). IsLoadOf x c.args.text.now load) c.config.ensures.is c.in_ok-load.ensures.load in
    IfOk-weaker c.text_of.result _ _ (λ told has. record {
      load = load;
      is_load = is;
      has = subst (λ (l : List Entry). HasResponses c.args.verified.now.config c.args.verified.now.app l told) c.deref.ensures.value has;
    }) c.text_of.ensures.told
