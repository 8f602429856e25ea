use Rattle.std.proofs.Common.{◌≡◌, ◌∙◌, ℕ, Bool, List, None, cond, sym, ap, subst}
use Rattle.sloth_base.specs.MemoryMap.{line_count}
use Rattle.osek_machine.specs.Above.{is_line_above}
use Rattle.osek_machine.specs.Steps.{Machine}
use Rattle.trace_check.specs.Rows.{least_moment}
use Rattle.trace_check.specs.Walk.{Walk}
use Rattle.trace_check.proofs.Within.{moment_of_row}
use Rattle.trace_check.proofs.rows.task_limit.Goals as goal

pub returns : goal.returns
returns c =
    let w : Walk = c.args.walk.now in
    let m : Machine = c.osek-osek.result.now in
    let t : ℕ = c.args.task in
    let test : ℕ → Bool = is_line_above m.config m.system t in
    let P : Machine → Type 0 = λ x. c.least_moment.result ≡ least_moment line_count (is_line_above x.config x.system t) w.moments in
    let least =
    subst P c.osek-osek.ensures
    (c.least_moment.ensures
    ∙ (moment_of_row c.above.result test c.moments.result.now c.above.ensures ∙ ap (λ (l : List ℕ). least_moment line_count test l) c.moments.ensures)) in
    let runs = sym c.is_running.ensures ∙ c.if-not-is_running.false in
    least ∙ sym (ap (λ (b : Bool). cond b (least_moment line_count (is_line_above w.machine.config w.machine.system t) w.moments) None) runs)
