use Rattle.std.proofs.Common.{◌≡◌, ◌∙◌, Bool, List, true, false, get_or, length, replicate, ap, arith, rules}
use Rattle.std.proofs.lemmas.List.{get_or-replicate}
use Rattle.walk_sums.proofs.CleanTasks.{all_clean, none_cleared}
use Rattle.walk_sums.proofs.walks.Walks.clean_tasks.Goals as goal

pub loop-bit-init : goal.loop-bit-init
loop-bit-init c =
    let w = c.args.self.now in
    let n = length w.config.tasks in
    let made : c.in_ok-clean.clean.items ≡ replicate n true = c.in_ok-clean.ensures.items_if_clones_equal (λ y same. same) ∙ ap (λ k. replicate k true) c.tasks.ensures.is in
    let count : length c.in_ok-clean.clean.items ≡ n = search rules in
    none_cleared w.app n c.in_ok-clean.clean.items count (λ t lt. ap (λ (l : List Bool). get_or l t false) made ∙ get_or-replicate n t true false lt)

pub returns-clause-exact : goal.returns-clause-exact
returns-clause-exact c =
    let no = c.loop-bit-test.false in
    all_clean c.args.self.now.config c.args.self.now.app c.tasks.ensures.well_formed c.loop-bit.bit (omega (arith, no)) c.loop-bit.clean.items c.loop-bit.invariant
