use Rattle.std.proofs.Common.{◌≡◌, ◌∙◌, ⊎_elim, get_or, refl, ap, sym, cond, arith}
use Rattle.std.specs.Prelude.{set, false}
use Rattle.std.proofs.lemmas.Bool.{cases_eq}
use Rattle.std.proofs.lemmas.List.{get_or-set_other, get_or-set_same, length-set}
use Rattle.code_lengths.specs.CodeLengths.{block_length}
use Rattle.mem_map.specs.Lengths.{wanted_length}
use Rattle.mem_map.proofs.Wanting.{at_place}
use Rattle.mem_map.proofs.all_lengths.service_lengths.Goals as goal

pub loop-number-init : goal.loop-number-init
loop-number-init c = (λ k l. absurd (omega (arith, l)), refl)

pub loop-number-preserved : goal.loop-number-preserved
loop-number-preserved c =
    let app = c.args.app.now in
    let n = c.loop-number.number in
    let xs = c.loop-number.lengths in
    let v = c.length_if.result in
    let within = c.loop-number-test.true in
    let long = c.loop-number.invariant.1 in
    let is : v ≡ wanted_length app n =
    c.length_if.ensures
    ∙ ap (λ b. cond b (block_length n) 0) (ap (λ marks. get_or marks n false) c.wanted_blocks-wanted.ensures ∙ at_place app n within)
    in (
      λ k below. ⊎_elim
          (λ e. ap (λ j. get_or (set xs n v) j 0) e ∙ get_or-set_same xs n v 0 (omega (arith, within, long)) ∙ is ∙ ap (wanted_length app) (sym e))
          (λ ne. get_or-set_other xs n k v 0 ne ∙ c.loop-number.invariant.0 k (omega (arith, below, ne)))
          (cases_eq k n),
      length-set xs n v ∙ long,
    )
