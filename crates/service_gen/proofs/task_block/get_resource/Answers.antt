use Rattle.std.proofs.Common.{◌≡◌, ◌∷◌, sym, subst}
use Rattle.masked_code.specs.Kernel.{masking}
use Rattle.service_gen.specs.GetResource.{IsGetResourceCode}
use Rattle.service_gen.proofs.Taking.{body, taken}
use Rattle.service_gen.proofs.task_block.get_resource.Goals as goal

pub returns : goal.returns
returns c =
    let e : c.go_back.new.code.items ≡ masking ∷ body c.args.resource c.args.ceiling =
    rw (c.in_ok-go_back.ensures, c.in_ok-put.ensures, c.addi.ensures, c.in_ok-take.ensures, c.in_ok-open.ensures, c.new-code.ensures.items)
    in
    subst (IsGetResourceCode c.args.resource c.args.ceiling) (sym e) (taken c.args.resource c.args.ceiling c.ranges.ceiling.fits)
