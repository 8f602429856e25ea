use Rattle.std.proofs.Common.{◌≡◌, ℕ, List, length, subst, sym, ap, ◌∙◌, arith}
use Rattle.std.proofs.lemmas.List.{length-map, length_push}
use Rattle.std.specs.Prelude.{is_some}
use Rattle.holds_infer.specs.Places.{list_at}
use Rattle.holds_infer.specs.Spread.{marks, list_after, IsListVisit}
use Rattle.task_verify.proofs.Searches.{next_inside, jump_inside}
use Rattle.holds_infer.proofs.Spreading.{taken_inside, turned, visits, visit_costs, spread_done}
use Rattle.holds_infer.proofs.body_ways.spread.Goals as goal

pub returns-in-None : goal.returns-in-None
returns-in-None c =
    spread_done c.args.func.now c.loop-from.lists c.loop-from.pending.items (sym c.loop-from.pending.ok.0 ∙ c.in-None.ensures.cases.0) c.loop-from.invariant

pub op-requires : goal.op-requires
op-requires c =
    (taken_inside c.args.func.now c.loop-from.lists c.loop-from.pending.items c.pop.new.self.items c.in-Some.from c.in-Some.ensures.items c.loop-from.invariant).0

pub next_of-requires : goal.next_of-requires
next_of-requires c =
    (taken_inside c.args.func.now c.loop-from.lists c.loop-from.pending.items c.pop.new.self.items c.in-Some.from c.in-Some.ensures.items c.loop-from.invariant).0

pub visit-requires : goal.visit-requires
visit-requires c =
    let o = taken_inside c.args.func.now c.loop-from.lists c.loop-from.pending.items c.pop.new.self.items c.in-Some.from c.in-Some.ensures.items c.loop-from.invariant in
    let l = next_inside c.args.func.now c.in-Some.from o.0 in
    let e = c.next_of.ensures in
    let n = o.1 in
    omega (arith, l, e, n)

pub jump_of-requires-clause-inside : goal.jump_of-requires-clause-inside
jump_of-requires-clause-inside c =
    (taken_inside c.args.func.now c.loop-from.lists c.loop-from.pending.items c.pop.new.self.items c.in-Some.from c.in-Some.ensures.items c.loop-from.invariant).0

pub jump_of-requires-clause-labels : goal.jump_of-requires-clause-labels
jump_of-requires-clause-labels c =
    let o = taken_inside c.args.func.now c.loop-from.lists c.loop-from.pending.items c.pop.new.self.items c.in-Some.from c.in-Some.ensures.items c.loop-from.invariant in
    c.requires.labels c.in-Some.from o.0

pub visit-requires-in-Some : goal.visit-requires-in-Some
visit-requires-in-Some c =
    let o = taken_inside c.args.func.now c.loop-from.lists c.loop-from.pending.items c.pop.new.self.items c.in-Some.from c.in-Some.ensures.items c.loop-from.invariant in
    let l = jump_inside c.args.func.now c.in-Some.from o.0 in
    let e = c.jump_of.ensures in
    let n = o.1 in
    let m = c.visit.auto.lists in
    omega (arith, l, e, n, m)

pub loop-from-preserved : goal.loop-from-preserved
loop-from-preserved c =
    let f = c.args.func.now in
    let x = c.in-Some.from in
    let lists = c.loop-from.lists in
    let mid = c.visit.new.lists in
    let new = c.visit-in-Some.new.lists in
    let rest = c.pop.new.self.items in
    let more = c.visit.new.pending.items in
    let kept = c.visit-in-Some.new.pending.items in
    let behind = c.in_ok-behind-in-Some.behind.items in
    let behind_is : behind ≡ list_after c.op.result (list_at lists x) = c.in_ok-behind-in-Some.ensures ∙ ap (list_after c.op.result) c.place_list.ensures in
    turned f lists mid new c.loop-from.pending.items rest more kept x behind (record {
      spreading = c.loop-from.invariant;
      taken_from = c.in-Some.ensures.items;
      behind_is = behind_is ∙ ap (λ o. list_after o (list_at lists x)) c.op.ensures;
      next = subst (λ (y : ℕ). IsListVisit lists mid rest more y behind) c.next_of.ensures
          (subst (λ (held : List ℕ). IsListVisit lists mid rest more c.next_of.result held) c.as_slice-held.ensures.value c.in_ok-visit-in-Some.ensures);
      jump = subst (λ (y : ℕ). IsListVisit mid new more kept y behind) c.jump_of.ensures
          (subst (λ (held : List ℕ). IsListVisit mid new more kept c.jump_of.result held) c.as_slice-held.ensures.value c.in_ok-visit-in-Some-2.ensures);
    })

pub loop-from-smaller : goal.loop-from-smaller
loop-from-smaller c =
    let f = c.args.func.now in
    let x = c.in-Some.from in
    let lists = c.loop-from.lists in
    let mid = c.visit.new.lists in
    let new = c.visit-in-Some.new.lists in
    let rest = c.pop.new.self.items in
    let more = c.visit.new.pending.items in
    let kept = c.visit-in-Some.new.pending.items in
    let o = taken_inside f lists c.loop-from.pending.items rest x c.in-Some.ensures.items c.loop-from.invariant in
    let l = next_inside f x o.0 in
    let e = c.next_of.ensures in
    let k = jump_inside f x o.0 in
    let g = c.jump_of.ensures in
    let n = o.1 in
    let m = c.visit.auto.lists in
    let p = length-map lists is_some in
    let q = length-map mid is_some in
    let one = visit_costs (marks lists) (marks mid) rest more c.next_of.result (omega (arith, l, e, n, p)) (visits lists mid rest more c.next_of.result c.as_slice-held.result.now c.in_ok-visit-in-Some.ensures) in
    let two = visit_costs (marks mid) (marks new) more kept c.jump_of.result (omega (arith, k, g, n, m, q)) (visits mid new more kept c.jump_of.result c.as_slice-held.result.now c.in_ok-visit-in-Some-2.ensures) in
    let popped = ap (λ (xs : List ℕ). length xs) c.in-Some.ensures.items in
    let last = length_push rest x in
    omega (arith, one, two, popped, last)
