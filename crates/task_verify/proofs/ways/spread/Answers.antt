use Rattle.std.proofs.Common.{ℕ, subst, sym, ◌∙◌, arith}
use Rattle.task_verify.specs.Ways.{IsMarkVisit}
use Rattle.task_verify.proofs.Searches.{taken, next_inside, jump_inside, gone_on, ended}
use Rattle.task_verify.proofs.ways.spread.Goals as goal

pub next_of-requires : goal.next_of-requires
next_of-requires c = (taken c.args.func.now c.loop-from.marks c.loop-from.pending.items c.pop.new.self.items c.in-Some.from c.in-Some.ensures.items c.loop-from.invariant).known

pub visit-requires : goal.visit-requires
visit-requires c =
    let o = taken c.args.func.now c.loop-from.marks c.loop-from.pending.items c.pop.new.self.items c.in-Some.from c.in-Some.ensures.items c.loop-from.invariant in
    let l = next_inside c.args.func.now c.in-Some.from o.known in
    let e = c.next_of.ensures in
    let n = o.count in
    omega (arith, l, e, n)

pub jump_of-requires-clause-labels : goal.jump_of-requires-clause-labels
jump_of-requires-clause-labels c =
    let o = taken c.args.func.now c.loop-from.marks c.loop-from.pending.items c.pop.new.self.items c.in-Some.from c.in-Some.ensures.items c.loop-from.invariant in
    c.requires.labels c.in-Some.from o.known

pub visit-requires-in-Some : goal.visit-requires-in-Some
visit-requires-in-Some c =
    let o = taken c.args.func.now c.loop-from.marks c.loop-from.pending.items c.pop.new.self.items c.in-Some.from c.in-Some.ensures.items c.loop-from.invariant in
    let l = jump_inside c.args.func.now c.in-Some.from o.known in
    let e = c.jump_of.ensures in
    let n = o.count in
    let m = c.visit.auto.marks in
    omega (arith, l, e, n, m)

pub loop-from-preserved : goal.loop-from-preserved
loop-from-preserved c =
    let f = c.args.func.now in
    let x = c.in-Some.from in
    let marks = c.loop-from.marks in
    let mid = c.visit.new.marks in
    let new = c.visit-in-Some.new.marks in
    let rest = c.pop.new.self.items in
    let more = c.visit.new.pending.items in
    let kept = c.visit-in-Some.new.pending.items in
    let o = taken c.args.func.now c.loop-from.marks c.loop-from.pending.items c.pop.new.self.items c.in-Some.from c.in-Some.ensures.items c.loop-from.invariant in
    gone_on f marks mid new rest more kept x (next_inside f x o.known) (jump_inside f x o.known)
    (subst (λ (y : ℕ). IsMarkVisit marks mid rest more y) c.next_of.ensures c.in_ok-visit-in-Some.ensures.visited)
    (subst (λ (y : ℕ). IsMarkVisit mid new more kept y) c.jump_of.ensures c.in_ok-visit-in-Some-2.ensures.visited)
    o

pub returns-in-None : goal.returns-in-None
returns-in-None c =
    ended c.args.func.now c.loop-from.marks c.loop-from.pending.items (sym c.loop-from.pending.ok.0 ∙ c.in-None.ensures.cases.0) c.loop-from.invariant
