use Rattle.std.proofs.Common.{◌∙◌, ap, map}
use Rattle.text_pieces.specs.Names.{referent}
use Rattle.debug_ways.proofs.Sides.{lines_merged}
use Rattle.debug_ways.proofs.stepping.merged.Goals as goal

pub returns : goal.returns
returns c =
    c.in_ok-lines.ensures ∙ lines_merged c.as_slice.result.now _ (ap (map referent) c.as_slice.ensures.value ∙ c.in_ok-parts.ensures)
