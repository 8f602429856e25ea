use Rattle.std.proofs.Common.{◌≡◌, ℕ, ◌+◌, Bool, List, [], ◌∷◌, ◌++◌, length, subst, arith}
use Rattle.std.specs.Prelude.{◌||◌}
use Rattle.std.proofs.lemmas.Grind.{common_steps}
use Rattle.rv32_expand.specs.Passes.{set_in_list}
use Rattle.rv32_expand.proofs.PassTo.{IsPassTo}
use Rattle.rv32_expand.proofs.Passing.{goes_on, ends}
use Rattle.rv32_expand.proofs.lengths.pass.Goals as goal

pub loop-index-preserved : goal.loop-index-preserved
loop-index-preserved c =
    let app = c.args.app.now in
    let body = c.args.body.now in
    let long = c.args.long.now in
    let i = c.loop-index.index in
    let far = c.is_far-far.result in
    let e : c.loop-index.lengthened.items ++ (set_in_list long i || far) ∷ [] ≡ c.push.new.self.items = grind (arith, common_steps) in
    subst (λ (xs : List Bool). IsPassTo app body long (i + 1) xs (c.loop-index.changed || far)) e
    (goes_on app body long i c.loop-index.lengthened.items c.loop-index.changed far (omega arith) c.requires.same c.loop-index.invariant c.is_far-far.ensures)

pub returns : goal.returns
returns c =
    let body = c.args.body.now in
    let long = c.args.long.now in
    let e : c.loop-index.index ≡ length body.items = omega arith in
    ends c.args.app.now body long c.loop-index.lengthened.items c.loop-index.changed c.requires.same
    (subst (λ (n : ℕ). IsPassTo c.args.app.now body long n c.loop-index.lengthened.items c.loop-index.changed) e c.loop-index.invariant)
