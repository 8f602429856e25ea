use Rattle.std.proofs.Common.{◌≡◌, ◌∷◌, sym, subst}
use Rattle.masked_code.specs.Kernel.{masking}
use Rattle.service_gen.specs.ReleaseResource.{IsReleaseResourceCode}
use Rattle.service_gen.proofs.Releasing.{body, releases}
use Rattle.service_gen.proofs.task_block.release_resource.Goals as goal

pub returns : goal.returns
returns c =
    let e : c.release.new.code.items ≡ masking ∷ body c.args.resource =
    rw (c.in_ok-release.ensures, c.in_ok-open.ensures, c.new-code.ensures.items)
    in
    subst (IsReleaseResourceCode c.args.resource) (sym e) (releases c.args.resource)
