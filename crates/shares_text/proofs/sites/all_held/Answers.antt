use Rattle.std.proofs.Common.{◌<◌, List, length, subst, sym}
use Rattle.sloth_base.specs.declared.app.Func.{Func}
use Rattle.sloth_base.specs.Named.{function}
use Rattle.osek_scheduler.proofs.Facts.{facts}
use Rattle.task_verify.specs.Labels.{ArePlaced}
use Rattle.call_graph.proofs.Growing.{held_more}
use Rattle.shares_text.specs.declared.sites.Held.{Held}
use Rattle.shares_text.specs.declared.sites.HeldRow.{HeldRow}
use Rattle.shares_text.specs.Sites.{no_row, AreHeld}
use Rattle.shares_text.proofs.sites.all_held.Goals as goal

pub last_labels-requires : goal.last_labels-requires
last_labels-requires c =
    let inside = subst (λ (x : List Func). c.loop-number.number < length x) c.items-number-end.ensures c.loop-number-test.true in
    subst ArePlaced (sym c.function-func.ensures) (λ k lt. (facts c.args.config.now c.args.app.now c.requires.well_formed).label_items c.loop-number.number k inside lt)

pub loop-number-preserved : goal.loop-number-preserved
loop-number-preserved c =
    let config = c.args.config.now in
    let app = c.args.app.now in
    let number = c.loop-number.number in
    let g =
    held_more HeldRow (λ f row. AreHeld config (function app f) row.items) c.loop-number.rows.items c.push.new.list.items (record { items = c.from_vec-items.result }) no_row number
    c.loop-number.invariant.count c.loop-number.invariant.each c.in_ok-push.ensures
    (subst (λ (row : List Held). AreHeld config (function app number) row) (sym c.from_vec-items.ensures)
    (subst (λ (f : Func). AreHeld config f c.in_ok-row.row.items) c.function-func.ensures c.in_ok-row.ensures)) in
    record { count = g.count; each = g.each }
