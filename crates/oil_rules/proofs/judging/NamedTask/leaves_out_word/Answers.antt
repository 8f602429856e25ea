use Rattle.std.proofs.Common.{◌∙◌, ap, sym}
use Rattle.std.specs.Prelude.{not, codes}
use Rattle.oil_rules.specs.Blocks.{first_in, ActionBlock}
use Rattle.oil_table.specs.Objects.{object_named}
use Rattle.oil_rules.specs.AlarmFaults.{leaves_out}
use Rattle.oil_rules.proofs.NamedTasks.{task_left, no_task_left}
use Rattle.oil_rules.proofs.judging.NamedTask.leaves_out_word.Goals as goal

pub returns-in-Some : goal.returns-in-Some
returns-in-Some c =
    let i = c.self.inside in
    let word = c.args.word.now in
    ap not c.lists.ensures ∙ task_left word i.tasks.now (first_in i.inner.now (codes "TASK")) c.in-Some.number (sym c.self.invariant ∙ c.in-Some.is)
    ∙ ap (λ (b : ActionBlock). leaves_out (object_named b.objects (codes "TASK") (first_in b.inner (codes "TASK"))) word) c.self.view_is

pub returns-in-None : goal.returns-in-None
returns-in-None c =
    let i = c.self.inside in
    let word = c.args.word.now in
    no_task_left word i.tasks.now (first_in i.inner.now (codes "TASK")) (sym c.self.invariant ∙ c.in-None.is)
    ∙ ap (λ (b : ActionBlock). leaves_out (object_named b.objects (codes "TASK") (first_in b.inner (codes "TASK"))) word) c.self.view_is
