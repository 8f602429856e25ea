use Rattle.std.proofs.Common.{◌∙◌, sym, subst}
use Rattle.response_text.specs.PartNames.{IsStretchName, is_boot, is_entry, is_tick, is_item}
use Rattle.response_text.proofs.part_names.stretch_name.Goals as goal

pub returns-then-boot_path-late : goal.returns-then-boot_path-late
returns-then-boot_path-late c = is_boot (sym c.boot_path.ensures.is ∙ c.if-boot_path-late.true)

pub returns-in-Some : goal.returns-in-Some
returns-in-Some c = is_entry c.in-Some.task (λ e. c.if-boot_path-late.false (c.boot_path.ensures.is ∙ e)) c.in-Some.ensures

pub returns-in-Some-first_tick : goal.returns-in-Some-first_tick
returns-in-Some-first_tick c =
    is_tick c.in-Some-first_tick.counter (λ e. c.if-boot_path-late.false (c.boot_path.ensures.is ∙ e)) c.in_default.ensures c.in-Some-first_tick.ensures

pub returns : goal.returns
returns c =
    subst (IsStretchName c.args.config.now c.args.app.now c.args.weights.now c.args.late) (sym c.line_name.ensures)
    (is_item c.heavy_line.result (λ e. c.if-boot_path-late.false (c.boot_path.ensures.is ∙ e)) c.in_default.ensures c.in_default-first_tick.ensures c.heavy_line.ensures)
