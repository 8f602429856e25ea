use Rattle.std.proofs.Common.{◌≡◌, ◌++◌, ℕ, List, Some, length, subst}
use Rattle.std.proofs.lemmas.Result.{on_ok_weaker}
use Rattle.sloth_base.specs.declared.service.Event.TheVariants as event
use Rattle.trace_check.specs.Walk.{Walk}
use Rattle.trace_check.specs.declared.rows.NextEvent.{NextEvent}
use Rattle.trace_check.specs.Rows.{rows_below, rows_of, task_rows}
use Rattle.trace_check.proofs.Below.{six}
use Rattle.trace_check.proofs.rows.push_all.Goals as goal

pub returns : goal.returns
returns c =
    let w : Walk = c.args.walk.now in
    let old : List NextEvent = c.args.rows.now.items in
    let last : List NextEvent = c.push_each-3.new.rows.items in
    let starts : List NextEvent = rows_of w (Some event.Boot) in
    let idle : List NextEvent = rows_of w (Some event.Idle) in
    let ticks : ℕ → List NextEvent = λ k. rows_of w (Some (event.Tick k)) in
    let admits : ℕ → List NextEvent = λ k. rows_of w (Some (event.Admit k)) in
    let dues : ℕ → List NextEvent = λ k. rows_of w (Some (event.Due k)) in
    let P : ℕ → ℕ → Type 0 =
    λ t k. last ≡ old ++ (starts ++ (rows_below t (task_rows w) ++ (rows_below k ticks ++ (idle ++ (rows_below t admits ++ rows_below k dues))))) in
    on_ok_weaker c.push_each-3.result
    (λ h.
    subst (λ (t : ℕ). P t (length w.machine.config.counters)) c.requires.tasks
    (subst (λ (k : ℕ). P c.args.tasks k) c.requires.counters
    (six old starts (rows_below c.args.tasks (task_rows w)) (rows_below c.args.counters ticks) idle (rows_below c.args.tasks admits) (rows_below c.args.counters dues)
    c.push_event.new.rows.items c.push_tasks.new.rows.items c.push_each.new.rows.items c.push_event-2.new.rows.items c.push_each-2.new.rows.items last
    c.in_ok-push_event.ensures c.in_ok-push_tasks.ensures c.in_ok-push_each.ensures c.in_ok-push_event-2.ensures c.in_ok-push_each-2.ensures h)))
    c.push_each-3.ensures
