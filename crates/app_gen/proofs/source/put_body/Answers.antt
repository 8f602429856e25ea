use Rattle.app_gen.specs.Source.{numbered_body, body_end}
use Rattle.app_gen.proofs.Steps.{behind}
use Rattle.app_gen.proofs.source.put_body.Goals as goal

pub returns : goal.returns
unfolding numbered_body body_end
returns c =
    let added = behind _ _ _ _ _ c.in_ok-put_begins.ensures c.in_ok-put_adds.ensures in
    let waited = behind _ _ _ _ _ added c.in_ok-put_waits.ensures in
    let all = behind _ _ _ _ _ waited c.in_ok-extend_from_slice.ensures.items in all
