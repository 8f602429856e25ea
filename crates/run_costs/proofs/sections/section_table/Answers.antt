use Rattle.std.proofs.Common.{List, [], arith, length, subst, sym, ◌≤◌, ℕ}
use Rattle.run_windows.specs.declared.costs.SectionMakings.{SectionMakings}
use Rattle.run_costs.specs.RunCosts.{AreSectionMakingRow, AreSectionMakingTable}
use Rattle.run_costs.proofs.Growing.{each_more, each_of}
use Rattle.run_costs.proofs.sections.section_table.Goals as goal

pub loop-j-preserved : goal.loop-j-preserved
loop-j-preserved c =
    each_more (List SectionMakings) (AreSectionMakingRow c.args.walks.now.config c.args.walks.now.app c.args.h) c.loop-j.table.items c.push.new.list.items c.in_ok-row.row ([]) c.loop-j.j c.loop-j.invariant c.in_ok-push.ensures c.in_ok-row.ensures

pub returns : goal.returns
returns c =
    let over = subst (λ (n : ℕ). n ≤ c.loop-j.j) c.tasks-j-end.ensures.is c.loop-j-test.false in
    let most = subst (λ (n : ℕ). c.loop-j.j ≤ n) c.tasks-j-end.ensures.is c.loop-j.auto.j-end in
    subst (AreSectionMakingTable c.args.walks.now.config c.args.walks.now.app c.args.h) (sym c.from_vec.ensures)
    (each_of (List SectionMakings) (AreSectionMakingRow c.args.walks.now.config c.args.walks.now.app c.args.h) c.loop-j.table.items ([]) c.loop-j.j (length c.args.walks.now.config.tasks) (omega (arith, over, most)) c.loop-j.invariant)
