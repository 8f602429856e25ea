use Rattle.std.proofs.Common.{rules, ◌≡◌, ◌∙◌, [], refl}
use Rattle.map_text.specs.Rows.{first_starts}
use Rattle.map_text.proofs.Starts.{starts_joined}
use Rattle.map_text.proofs.piece_starts.starts.Goals as goal

pub returns : goal.returns
returns c =
    let first : c.push_first.new.starts.items ≡ first_starts c.args.map.now = search rules in
    starts_joined c.args.config.now c.args.map.now [] c.push_first.new.starts.items c.push_routines.new.starts.items c.push_last.new.starts.items c.as_slice.result.now
    refl first c.in_ok-push_routines.ensures c.in_ok-push_last.ensures (c.as_slice.ensures.value ∙ c.in_ok-code.ensures)
