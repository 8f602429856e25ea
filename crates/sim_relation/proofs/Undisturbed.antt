-- Where no line is taken, what runs goes on.
use Rattle.std.proofs.Common.{◌≡◌, ℕ, ◌<◌, ◌≤◌, List, [], ◌∷◌, length, refl, subst, None}
use Rattle.sloth_base.specs.Machine.{State}
use Rattle.sloth_base.specs.Choose.{choose}
use Rattle.sloth_base.specs.MemoryMap.{line_count}
use Rattle.osek_scheduler.specs.declared.state.TaskState.TheVariants as mode
use Rattle.osek_scheduler.specs.State.{System, task}
use Rattle.osek_scheduler.specs.Priority.{IsTop, IsDue}
use Rattle.sim_induction.specs.Mirror.{IsRunningTask}
use Rattle.sim_relation.specs.Build.{Build}
use Rattle.sim_relation.specs.Stands.{Stands, AreActive}
use Rattle.sim_relation.specs.RelationKept.{IsUndisturbed}
use Rattle.sim_relation.proofs.Choice.{quiet, running_top, none_due}
use Rattle.sim_relation.proofs.MirrorOf.{first_is}
use Rattle.sim_relation.proofs.Tops.{falling_head}
use Rattle.std.proofs.lemmas.Bool.{false≢true}

module _ (b : Build) (state : State) (s : System) (few : length b.config.tasks ≤ line_count) (k : Stands b state s) (e : choose state.core ≡ None) where
  tops : (stack : List ℕ) → k.stack ≡ stack → (t : ℕ) → IsRunningTask b.config s t → IsTop b.config s [] t
  tops [] is t r =
      let active : AreActive b s [] = subst (AreActive b s) is k.active in
      absurd (false≢true (active.all t r.declared r.active))
  tops (u ∷ below) is t r =
      let active : AreActive b s (u ∷ below) = subst (AreActive b s) is k.active in
      subst (IsTop b.config s []) (first_is b s u below active t r) (running_top b state s k few e u below is)

  idles : (stack : List ℕ) → k.stack ≡ stack → ((t : ℕ) → t < length b.config.tasks → ¬ ((task s t).state ≡ mode.Active))
      → (t : ℕ) → t < length b.config.tasks → ¬ (IsDue s t)
  idles [] is none t h = none_due b state s k few e is t h
  idles (u ∷ below) is none t h =
      let active : AreActive b s (u ∷ below) = subst (AreActive b s) is k.active in
      let f = falling_head b s u below active.falling in
      absurd (none u f.declared f.active)

  pub undisturbed : IsUndisturbed b s
  undisturbed = record { running = tops k.stack refl; idle = idles k.stack refl; quiet = quiet b state s k e }
