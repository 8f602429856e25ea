-- Texts have one meaning, of which the image is sound, weighed and in pace.
use Rattle.std.proofs.Common.{ℕ, List, subst}
use Rattle.sloth_base.specs.declared.app.App.{App}
use Rattle.sloth_base.specs.declared.config.Config.{Config}
use Rattle.sloth_base.specs.declared.image.Image.{Image}
use Rattle.sloth_source.proofs.Unique.{one_meaning}
use Rattle.response_text.specs.declared.task_text.Told.{Told}
use Rattle.response_text.specs.ResponseText.{HasLoadResponses}
use Rattle.core_commands.specs.Top.{IsBuiltImage}
use Rattle.sloth_commands.specs.BuiltResponses.{TellsKept, BuiltRunsKeepResponses}

kept : (config : Config) (app : App) (image : Image) (text : List ℕ) (told : Told) → IsBuiltImage config app image → HasLoadResponses config app text told → TellsKept config app image text told
kept config app image text told built has = record {
  load = has.load;
  is_load = has.is_load;
  longest = has.has.costs.longest;
  late = has.has.costs.late;
  responses = has.has.responses;
  reasons = has.has.reasons;
  tick = has.has.tick;
  demand = has.has.demand;
  is = has.has.is;
  kept = has.has.kept image built.sound built.weighed built.paced;
}

pub built-keep-responses : BuiltRunsKeepResponses
built-keep-responses oil src load config app image told accepted built is =
    let same = one_meaning oil src is.config config is.app app is.accepted accepted in
    kept config app image load told built
    (subst (λ (x : App). HasLoadResponses config x load told) same.1 (subst (λ (c : Config). HasLoadResponses c is.app load told) same.0 is.has))
