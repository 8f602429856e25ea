-- The parts of the Active basic tasks lie one below the other, as the tasks were entered.
use Rattle.std.proofs.Common.{ℕ, List, [], ◌∷◌, arith}
use Rattle.osek_scheduler.specs.State.{System, task}
use Rattle.osek_scheduler.specs.Valid.{IsValid}
use Rattle.shared_stacks.specs.Together.{OwesBySchedule}
use Rattle.osek_scheduler.proofs.Apart.{at_least_static}
use Rattle.shared_stacks.proofs.Together.{lower_may}
use Rattle.sim_relation.specs.Build.{Build}
use Rattle.sim_relation.specs.Stands.{AreFalling}
use Rattle.sim_relation.proofs.Tops.{below_first, falling_active, falling_head, falling_tail}
use Rattle.sim_laws.specs.Nested.{HasNestedParts, AreNested}

module _ (b : Build) (s : System) (valid : IsValid b.config b.app s) (owing : OwesBySchedule b.app s) (nested : HasNestedParts b) where
  pub stack_nested : (stack : List ℕ) → AreFalling b s stack → AreNested b stack
  stack_nested [] falling = tt
  stack_nested (t ∷ below) falling = (
    λ u under basic other.
        let over = below_first b s t below falling u under in
        let active = falling_active b s below (falling_tail b s t below falling) u under in
        let first = falling_head b s t below falling in
        let may = lower_may b.config b.app s valid owing u t active.declared first.declared active.active over in
        let least = at_least_static b.config u (task s u) in
        nested t u basic other may (omega (arith, over, least)),
    stack_nested below (falling_tail b s t below falling),
  )
