use Rattle.std.proofs.Common.{◌≡◌, ◌∙◌, true, length, cond, sym, ap, subst}
use Rattle.std.specs.Prelude.{◌&&◌, ltb}
use Rattle.osek_scheduler.specs.State.{task}
use Rattle.osek_scheduler.specs.Priority.{is_active}
use Rattle.osek_machine.specs.Above.{is_line_above}
use Rattle.trace_check.specs.Moments.{all_later}
use Rattle.trace_check.specs.Walk.{Walk, task_passes}
use Rattle.trace_check.proofs.Walking.{same_row}
use Rattle.trace_check.proofs.walk.Walk.task_passes.Goals as goal

pub returns : goal.returns
returns c =
    let machine = c.self.inside.osek in
    let inside : Walk = record { machine = machine; moments = c.self.inside.moments } in
    let test = is_line_above machine.config machine.system c.args.task in
    let P : Walk → Type 0 = λ w. c.all_later.result ≡ task_passes w.machine.config w.machine.system w.moments c.args.task c.args.count in
    let Q : Walk → Type 0 = λ w. c.is_running.result ≡ (ltb c.args.task (length w.machine.config.tasks) && is_active (task w.machine.system c.args.task).state) in
    let runs = sym (subst Q (sym c.self.view_is) c.is_running.ensures) ∙ c.if-not-is_running.false in
    subst P c.self.view_is
    (c.all_later.ensures
    ∙ (same_row c.above.result c.args.count inside.moments test c.above.ensures
    ∙ sym (ap (λ b. cond b (all_later test inside.moments c.args.count) true) runs)))
