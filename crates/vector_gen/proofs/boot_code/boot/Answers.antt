use Rattle.std.proofs.Common.{◌≡◌, ◌+◌, List, ◌++◌, length, sym, ap, subst, append_assoc, arith}
use Rattle.sloth_base.specs.Owners.{first_counter_line}
use Rattle.rv32_instr.specs.declared.InstrKind.{InstrKind}
use Rattle.vector_gen.specs.Boot.{register_code, lines_code, counters_code, finishing_code, IsBootCode}
use Rattle.vector_gen.proofs.Booting.{boot_code, boots}
use Rattle.vector_gen.proofs.boot_code.boot.Goals as goal

pub returns-clause-effect : goal.returns-clause-effect
returns-clause-effect c =
    let tasks = c.args.config.now.tasks in
    let levels = c.args.levels.now.task in
    let top = c.args.levels.now.top in
    let counters = length c.args.config.now.counters in
    let idle = c.args.map.now.idle in
    let e : c.from_vec.result ≡ boot_code tasks counters levels top idle =
    rw (c.from_vec.ensures, c.in_ok-finish.ensures.added, c.in_ok-start_counters.ensures.added, c.counter_level.ensures, c.in_ok-start_all.ensures.added, c.in_ok-put.ensures, c.lui.ensures, c.addi.ensures, c.new-code.ensures.items, c.items-2.ensures, c.items.ensures)
    (ap (λ (l : List InstrKind). register_code ++ l) (append_assoc (lines_code 0 tasks levels) (counters_code counters first_counter_line (top + 1)) (finishing_code idle)))
    in
    let level = c.counter_level.ensures in
    let byte = c.start_counters.ensures.byte in
    subst (IsBootCode tasks counters levels top idle) (sym e) (boots tasks counters levels top idle c.requires.range.few_tasks c.requires.range.few_counters (omega (arith, level, byte)) c.start_all.ensures.bytes c.finish.ensures.fits)

pub returns-clause-size : goal.returns-clause-size
returns-clause-size c = (returns-clause-effect c).size
