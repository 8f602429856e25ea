use Rattle.std.proofs.Common.{◌≡◌, ◌-◌, sym, subst}
use Rattle.sloth_base.specs.MemoryMap.{memory_base}
use Rattle.vector_gen.specs.Places.{IsPrologueCode}
use Rattle.vector_gen.proofs.BothKinds.{code, does_enter, length_is}
use Rattle.vector_gen.proofs.prologue_block.prologue_code.Goals.{In_ok-start_anew}
use Rattle.vector_gen.proofs.prologue_block.prologue_code.Goals as goal

made : (c : In_ok-start_anew)
    → IsPrologueCode c.args.extended c.args.task c.args.level c.args.first (c.args.frame - memory_base) c.args.words c.start_anew.new.code.items
made c =
    let extended = c.args.extended in
    let task = c.args.task in
    let level = c.args.level in
    let frame = c.args.frame in
    let words = c.args.words in
    let first = c.args.first in
    let small = c.requires.small in
    let e : c.start_anew.new.code.items ≡ code extended task level frame words first =
    rw (c.in_ok-start_anew.ensures, c.in_ok-take_up.ensures, c.in_ok-mark_active.ensures, c.in_ok-save_context.ensures, c.new-code.ensures.items)
    in
    let enters = does_enter extended task level first frame words small.0 small.1 c.ranges.first.fits small.2 c.requires.in_ram in
    subst (IsPrologueCode extended task level first (frame - memory_base) words) (sym e) enters

pub returns-clause-size : goal.returns-clause-size
returns-clause-size c =
    length_is c.args.extended c.args.task c.args.level c.args.first (c.args.frame - memory_base) c.args.words c.start_anew.new.code.items
    (made (goal.at.returns-clause-size c).In_ok-start_anew)

pub returns-clause-enters : goal.returns-clause-enters
returns-clause-enters c = made (goal.at.returns-clause-enters c).In_ok-start_anew
