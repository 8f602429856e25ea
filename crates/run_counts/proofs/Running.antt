-- Which task runs in the state that an event finds.
use Rattle.std.proofs.Common.{◌≡◌, ◌∙◌, ℕ, ◌<◌, ◌≤◌, ◌⊎◌, Bool, true, false, length, refl, sym, ap, subst, arith, inl, inr}
use Rattle.std.proofs.lemmas.Bool.{cases_eq, cases_lt}
use Rattle.std.proofs.lemmas.List.{get_or_past}
use Rattle.sloth_base.specs.declared.config.Config.{Config}
use Rattle.osek_scheduler.specs.declared.state.TaskState.TheVariants as mode
use Rattle.osek_scheduler.specs.State.{Task, System, sleeping_task, task}
use Rattle.osek_scheduler.specs.Priority.{rank}
use Rattle.osek_scheduler.specs.Apart.{IsActive}
use Rattle.osek_scheduler.proofs.Apart.{Above, at_least_static, rank_active}
pub use Rattle.sim_induction.proofs.Running.{Decides-is_running}
use Rattle.run_counts.specs.Stages.{is_running}

module _ (config : Config) (s : System) (t : ℕ) where
  -- a task that is not Active does not run
  pub others_rest : (IsActive s t → ⊥) → is_running config s t ≡ false
  others_rest n = by (is_running config s t) refl
    where
      by : (b : Bool) → is_running config s t ≡ b → b ≡ false
      by false e = refl
      by true e = absurd (n ((Decides-is_running config s t).0 e).0)

module _ (config : Config) (s : System) where
  pub active_declared : (t : ℕ) → length s.tasks ≡ length config.tasks → IsActive s t → t < length config.tasks
  active_declared t count active = by (cases_lt t (length config.tasks))
    where
      differ : mode.Suspended ≡ mode.Active → ⊥
      differ k = cc

      by : (t < length config.tasks) ⊎ (length config.tasks ≤ t) → t < length config.tasks
      by (inl lt) = lt
      by (inr past) =
          let none : (task s t).state ≡ mode.Suspended = ap (λ (k : Task). k.state) (get_or_past s.tasks t sleeping_task (subst (λ n. n ≤ t) (sym count) past)) in
          absurd (differ (sym none ∙ active))

  -- an Active task that is above all others runs
  pub above_runs : (c : ℕ) → Above config c s → IsActive s c → is_running config s c ≡ true
  above_runs c above active = (Decides-is_running config s c).1 (active, λ u lt other. by u lt other (cases_eq u c))
    where
      by : (u : ℕ) → u < length config.tasks → IsActive s u → (u ≡ c) ⊎ (u ≡ c → ⊥) → rank config s u ≤ rank config s c
      by u lt other (inl e) = let same : rank config s u ≡ rank config s c = ap (rank config s) e in omega (arith, same)
      by u lt other (inr n) =
          let less = above u lt n other in
          let more = at_least_static config c (task s c) in
          let one = rank_active config s u other in
          let two = rank_active config s c active in
          omega (arith, less, more, one, two)

  -- and no other does
  pub none_beside : (c t : ℕ) → length s.tasks ≡ length config.tasks → Above config c s → IsActive s c → c < length config.tasks → (c ≡ t → ⊥)
      → is_running config s t ≡ false
  none_beside c t count above active declared n = by (is_running config s t) refl
    where
      by : (b : Bool) → is_running config s t ≡ b → b ≡ false
      by false e = refl
      by true e =
          let r = (Decides-is_running config s t).0 e in
          let less = above t (active_declared t count r.0) (λ k. n (sym k)) r.0 in
          let more = at_least_static config c (task s c) in
          let le = r.1 c declared active in
          let one = rank_active config s t r.0 in
          let two = rank_active config s c active in
          absurd (omega (arith, less, more, le, one, two))
