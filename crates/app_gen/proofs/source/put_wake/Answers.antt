use Rattle.std.proofs.Common.{◌++◌, ◌∙◌, ap, append_assoc}
use Rattle.std.proofs.lemmas.Result.{on_ok_weaker}
use Rattle.app_gen.specs.Pieces.{number_behind}
use Rattle.app_gen.specs.Source.{waking_text, setting_text}
use Rattle.app_gen.proofs.source.put_wake.Goals as goal

pub returns : goal.returns
unfolding waking_text number_behind
returns c =
    on_ok_weaker c.put_sets.result (λ h. h ∙ ap (λ t. t ++ setting_text c.args.task) c.in_ok-line.ensures ∙ simp append_assoc) c.put_sets.ensures
