use Rattle.std.proofs.Common.{rules}
use Rattle.sloth_build.specs.Services.{IsService}
use Rattle.sloth_build.proofs.Numbering.{served, skipped}
use Rattle.sloth_build.proofs.gathering.services.Goals as goal
use Rattle.sloth_build.proofs.gathering.services.Goals.{then-wanted-number+in_ok-served+in_ok-push, else-wanted-number}

pub loop-number-preserved : goal.loop-number-preserved
loop-number-preserved c =
    elim c.if-wanted-number.branch [
      | then-wanted-number+in_ok-served+in_ok-push w ↦
          served (IsService c.args.config.now c.args.levels.now c.args.map.now) c.args.wanted.now c.loop-number.number c.loop-number.blocks.items c.if-wanted-number.blocks.items w.in_ok-served.field-0
          (search rules) (search rules) (search rules) w.in_ok-served.ensures c.loop-number.invariant
      | else-wanted-number w ↦
          let h = skipped (IsService c.args.config.now c.args.levels.now c.args.map.now) c.args.wanted.now c.loop-number.number c.loop-number.blocks.items
          (search rules) (search rules) c.loop-number.invariant in
          search rules
    ]
