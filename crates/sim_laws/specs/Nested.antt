-- The parts of the basic tasks in their one stack.
use Rattle.std.specs.Prelude.{ℕ, ◌<◌, ◌≤◌, ◌≡◌, List, [], ◌∷◌, true}
use Rattle.sloth_base.specs.Named.{declaration}
use Rattle.stack_bounds.specs.Bounds.{IsBasic, MayBePreempted}
use Rattle.code_rules.specs.Code.{is_in}
use Rattle.sim_relation.specs.Build.{Build}

-- the part of a basic task lies below the part of each basic task over which it may be entered
abbrev pub HasNestedParts : Build → Type 0
HasNestedParts b = (t u : ℕ) → IsBasic b.config t → IsBasic b.config u → MayBePreempted b.config b.app u
    → (declaration b.config u).priority < (declaration b.config t).priority → b.top t ≤ b.low u

-- Of these tasks, the last one that was entered first, the basic ones have their parts one below the other.
abbrev pub AreNested : Build → List ℕ → Type 0
AreNested b [] = Unit {0}
AreNested b (t ∷ below) = ((u : ℕ) → is_in u below ≡ true → IsBasic b.config t → IsBasic b.config u → b.top t ≤ b.low u) × AreNested b below
