use Rattle.std.proofs.Common.{refl, sym, subst, ◌<◌, ℕ, arith}
use Rattle.mem_map.proofs.Ends.{next_code_fits}
use Rattle.mem_map.proofs.planning.place_services.Goals as goal

pub loop-number-init : goal.loop-number-init
loop-number-init c = (refl, refl, refl)

pub overflow_add-end : goal.overflow_add-end
overflow_add-end c =
    let P : ℕ → Type 0 = λ n. c.loop-number.number < n in
    record {
      fits = next_code_fits c.loop-number.end _ c.args.sizes.now c.loop-number.number (subst P (sym c.told-sizes) c.loop-number-test.true)
          c.loop-number.invariant.1 c.requires;
    }

pub overflow_mul-end : goal.overflow_mul-end
overflow_mul-end c =
    let P : ℕ → Type 0 = λ n. c.loop-number.number < n in
    let h = next_code_fits c.loop-number.end _ c.args.sizes.now c.loop-number.number (subst P (sym c.told-sizes) c.loop-number-test.true)
    c.loop-number.invariant.1 c.requires in
    record { fits = omega (arith, h) }
