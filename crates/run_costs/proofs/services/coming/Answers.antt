use Rattle.std.proofs.Common.{◌≡◌, ◌∙◌, ◌++◌, Bool, List, length, take, drop, ap, sym, subst, ⊎_elim, false, arith}
use Rattle.std.proofs.lemmas.Bool.{cases_lt}
use Rattle.std.proofs.lemmas.List.{get_or_past}
use Rattle.std.proofs.Math.Seq.{take-append_seam}
use Rattle.run_costs.specs.Coming.{AreInAll, AreComing, IsSettled}
use Rattle.run_costs.proofs.Closing.{none_in, settled_coming}
use Rattle.run_costs.proofs.services.coming.Goals as goal

pub returns-then-not-pass : goal.returns-then-not-pass
returns-then-not-pass c =
    let config = c.args.walks.now.config in
    let app = c.args.walks.now.app in
    let load = c.args.load.now in
    let new : List Bool = c.pass.new.marks in
    let rest : List Bool = drop (length new) c.loop-makers.marks.items in
    let count = c.pass.ensures.count in
    let old = c.loop-makers.invariant.count in
    let ok = c.loop-makers.marks.ok.0 in
    let e : c.loop-makers.marks.len ≡ length new = omega (arith, count, old, ok) in
    let same : take c.loop-makers.marks.len (new ++ rest) ≡ new = ap (λ n. take n (new ++ rest)) e ∙ take-append_seam new rest in
    let met = c.if-not-pass.ensures.marked in
    subst (AreComing config app load) (sym c.from_vec.ensures) (subst (λ (l : List Bool). AreComing config app load l) (sym same)
    (settled_coming config app load new count c.pass.ensures.within (λ i lt. subst (λ (l : List Bool). IsSettled config app load l i) (sym met.0) (met.1 i lt))))

pub loop-makers-preserved : goal.loop-makers-preserved
loop-makers-preserved c =
    let new : List Bool = c.pass.new.marks in
    let rest : List Bool = drop (length new) c.loop-makers.marks.items in
    let count = c.pass.ensures.count in
    let old = c.loop-makers.invariant.count in
    let ok = c.loop-makers.marks.ok.0 in
    let e : c.loop-makers.marks.len ≡ length new = omega (arith, count, old, ok) in
    let same : take c.loop-makers.marks.len (new ++ rest) ≡ new = ap (λ n. take n (new ++ rest)) e ∙ take-append_seam new rest in
    record {
      count = ap (λ (l : List Bool). length l) same ∙ count;
      within = subst (λ (l : List Bool). AreInAll c.args.walks.now.config c.args.walks.now.app c.args.load.now l) (sym same) c.pass.ensures.within;
    }

pub loop-makers-init : goal.loop-makers-init
loop-makers-init c = record {
  count = c.in_ok-marks.ensures.count ∙ c.tasks.ensures.is;
  within = none_in c.args.walks.now.config c.args.walks.now.app c.args.load.now c.in_ok-marks.marks.items
      (λ t. let count = c.in_ok-marks.ensures.count in
      ⊎_elim (λ lt. c.in_ok-marks.ensures.clear t lt) (λ le. get_or_past c.in_ok-marks.marks.items t false (omega (arith, count, le))) (cases_lt t c.tasks.result));
}

pub pass-requires-clause-makers : goal.pass-requires-clause-makers
pass-requires-clause-makers c = record { naming = c.requires.naming; settings = c.requires.settings }
