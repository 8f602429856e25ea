-- What two states have alike of a thread or of a part of the stacks.
use Rattle.std.specs.Prelude.{ℕ, ◌<◌, ◌≤◌, ◌≡◌, List}
use Rattle.osek_scheduler.specs.State.{System, task}
use Rattle.sim_relation.specs.Build.{Build}
use Rattle.sim_relation.specs.Position.{Thread}
use Rattle.sim_relation.specs.Framing.{AreSameBytes}

-- the same pc, x2 and x5 to x31
pub record SameThread (old new : Thread) : Type 0 where
  pub pc : new.pc ≡ old.pc
  pub x2 : new.x2 ≡ old.x2
  pub x : (i : ℕ) → 5 ≤ i → i < 32 → new.x i ≡ old.x i

-- the same pc, x30 and x31: all that a position says of a thread
pub record SamePlace (old new : Thread) : Type 0 where
  pub pc : new.pc ≡ old.pc
  pub x30 : new.x 30 ≡ old.x 30
  pub x31 : new.x 31 ≡ old.x 31

-- a task has the same part in both: its record, and the bytes of its stack
pub record SamePart (b : Build) (old new : List ℕ) (s next : System) (t : ℕ) : Type 0 where
  pub tasks : task next t ≡ task s t
  pub bytes : AreSameBytes old new (b.low t) (b.top t)
