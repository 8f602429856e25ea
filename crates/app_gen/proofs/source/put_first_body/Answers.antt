use Rattle.std.specs.Prelude.{codes}
use Rattle.app_gen.specs.Source.{first_body}
use Rattle.app_gen.proofs.Steps.{behind}
use Rattle.app_gen.proofs.source.put_first_body.Goals as goal

pub returns : goal.returns
unfolding first_body
returns c =
    let wakes = behind c.args.text.now.items _ _ (codes "task T0\nlabel loop\n") _ c.in_ok-extend_from_slice.ensures.items c.in_ok-put_wakes.ensures in
    let all = behind _ _ _ _ _ wakes c.in_ok-extend_from_slice-2.ensures.items in all
