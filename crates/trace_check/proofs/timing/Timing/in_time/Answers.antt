use Rattle.std.proofs.Common.{◌∙◌, List, Bool, length, map, take, drop, false, true, sym, ap, subst}
use Rattle.std.specs.Bool.{Decides}
use Rattle.sloth_base.specs.declared.service.Arrival.{Arrival}
use Rattle.trace_check.specs.Counts.{SameCounts, arrival_number, last_moment, may_leave}
use Rattle.trace_check.specs.Timed.{KeptPass, is_late}
use Rattle.trace_check.proofs.Decided.{late_in_time, others_in_time, decided}
use Rattle.trace_check.proofs.timing.Timing.in_time.Goals as goal

pub returns-then-is_late : goal.returns-then-is_late
returns-then-is_late c events small timed = late_in_time c.args.self.now c.requires.rising c.requires.lines events small timed (sym c.is_late.ensures ∙ c.if-is_late.true)

pub returns-then-not-branch : goal.returns-then-not-branch
returns-then-not-branch c events small timed =
    let admits = c.self.inside.admits.items in
    let front = c.split_at.ensures.front ∙ ap (λ k. take k c.self.inside.arrivals.now) (ap length c.as_slice.ensures.value) in
    let P : KeptPass → Type 0 = λ k. Decides false (SameCounts k.admits (map arrival_number (take (length k.admits) k.arrivals))) in
    let Q : Bool → Type 0 = λ b. Decides b (SameCounts admits (map arrival_number c.split_at.result.0.now)) in
    let R : List Arrival → Type 0 = λ l. Decides false (SameCounts admits (map arrival_number l)) in
    others_in_time c.args.self.now c.requires.rising c.requires.lines events small timed (sym c.is_late.ensures ∙ c.if-is_late.false)
    (subst P c.self.view_is (subst R front (subst Q c.if-not-branch.true c.in_ok-are_admitted.ensures)))

pub returns : goal.returns
returns c events small timed =
    let inside = c.self.inside in
    let admits = inside.admits.items in
    let count = ap length c.as_slice.ensures.value in
    let front = c.split_at.ensures.front ∙ ap (λ k. take k inside.arrivals.now) count in
    let back = c.split_at.ensures.back ∙ ap (λ k. drop k inside.arrivals.now) count in
    let P : KeptPass → Type 0 = λ k. Decides true (SameCounts k.admits (map arrival_number (take (length k.admits) k.arrivals))) in
    let Q : Bool → Type 0 = λ b. Decides b (SameCounts admits (map arrival_number c.split_at.result.0.now)) in
    let R : List Arrival → Type 0 = λ l. Decides true (SameCounts admits (map arrival_number l)) in
    decided c.args.self.now c.requires.rising c.requires.lines events small timed (sym c.is_late.ensures ∙ c.if-is_late.false)
    (subst P c.self.view_is (subst R front (subst Q c.if-not-branch.false c.in_ok-are_admitted.ensures))) c.may_leave.result
    (c.may_leave.ensures
    ∙ (ap (λ k. may_leave inside.n inside.most k c.last_moment-last.result c.split_at.result.1.now) (c.ends-ends.ensures)
    ∙ (ap (λ k. may_leave inside.n inside.most inside.pass.ends k c.split_at.result.1.now) (c.last_moment-last.ensures ∙ ap last_moment front)
    ∙ (ap (λ l. may_leave inside.n inside.most inside.pass.ends (last_moment (take (length admits) inside.arrivals.now)) l) back
    ∙ ap (λ (k : KeptPass). may_leave k.n k.most k.scan.ends (last_moment (take (length k.admits) k.arrivals)) (drop (length k.admits) k.arrivals)) c.self.view_is))))
