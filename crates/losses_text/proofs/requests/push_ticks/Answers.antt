use Rattle.std.proofs.Common.{◌∙◌, ◌++◌, List, [], ap}
use Rattle.osek_machine.proofs.Rooms.{clocked}
use Rattle.sloth_base.specs.declared.config.Config.{Config}
use Rattle.osek_scheduler.specs.State.{System}
use Rattle.losses_text.specs.Expiries.{expiries}
use Rattle.losses_text.specs.declared.requests.Request.{Request}
use Rattle.losses_text.proofs.Expiries.{tick_told}
use Rattle.losses_text.proofs.requests.push_ticks.Goals as goal

pub returns : goal.returns
returns c =
    let m = c.args.osek.now in
    let sound = c.config.ensures.sound in
    let told =
    c.in_ok-asked.ensures ∙ ap (λ (k : Config). expiries c.args.c 0 c.args.at k.alarms c.store.result.now []) c.config.ensures.is
    ∙ ap (λ (s : System). expiries c.args.c 0 c.args.at m.config.alarms s []) c.store.ensures
    ∙ tick_told m.config c.args.c c.args.at m.system sound.valid.count (clocked sound).actions in
    c.in_ok-extend_from_slice.ensures.items ∙ ap (λ (l : List Request). c.args.all.now.items ++ l) (c.as_slice.ensures.value ∙ told)
