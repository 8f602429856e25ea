-- A task that is not preemptable and owes no way back has the highest priority.
use Rattle.std.proofs.Common.{◌≡◌, ℕ, zero, suc, ◌<◌, ◌≤◌, ◌⊎◌, ◌&&◌, not, List, [], ◌∷◌, true, false, cond, max, map, length, get_or, ap, ◌∙◌, subst, arith, inl, inr}
use Rattle.std.proofs.lemmas.Bool.{cases_lt}
use Rattle.std.proofs.lemmas.List.{get_or_past}
use Rattle.sloth_base.specs.declared.config.Config.{Config}
use Rattle.sloth_base.specs.declared.config.TaskDecl.{TaskDecl}
use Rattle.sloth_base.specs.declared.app.App.{App}
use Rattle.sloth_base.specs.Named.{declaration, undeclared_task}
use Rattle.osek_scheduler.specs.State.{System, task}
use Rattle.osek_scheduler.specs.Priority.{ceiling, greatest, highest_priority}
use Rattle.osek_scheduler.specs.Valid.{InState, IsValid}
use Rattle.osek_scheduler.specs.Apart.{priority_of, static_priority, IsActive}
use Rattle.osek_blocking.specs.Sections.{IsLower}

static_most : (ds : List TaskDecl) (t : ℕ) → t < length ds → (get_or ds t undeclared_task).priority ≤ greatest (map (λ d. d.priority) ds)
static_most [] t lt = absurd (omega (arith, lt))
static_most (d ∷ ds) zero lt = omega arith
static_most (d ∷ ds) (suc t) lt = let rest = static_most ds t (omega (arith, lt)) in omega (arith, rest)

module _ (config : Config) where
  -- above a task is one of the configuration
  pub declared_above : (h b : ℕ) → IsLower config h b → h < length config.tasks
  declared_above h b lower = by (cases_lt h (length config.tasks))
    where
      by : (h < length config.tasks) ⊎ (length config.tasks ≤ h) → h < length config.tasks
      by (inl lt) = lt
      by (inr past) =
          let none : static_priority config h ≡ 0 = ap (λ (d : TaskDecl). d.priority) (get_or_past config.tasks h undeclared_task past) in
          let less = lower.1 in
          absurd (omega (arith, none, less))

  -- no task has a higher one
  pub over_all : (app : App) (k : ℕ) → k < length config.tasks → (declaration config k).non ≡ true → (j : ℕ) (s : System) → IsValid config app s
      → (task s k).owed ≡ false → IsActive s k → j < length config.tasks → static_priority config j ≤ priority_of config k (task s k)
  over_all app k declared non j s v free active lt =
      let state = subst (InState config k (task s k)) active (v.each k declared).in_state in
      let raised : (task s k).raised ≡ true =
      state.1 ∙ ap (λ b. b && not (task s k).owed) non ∙ ap not free in
      let own = ap (λ b. max (static_priority config k) (max (greatest (map (ceiling config) (task s k).held)) (cond b (highest_priority config) 0))) raised in
      let most = static_most config.tasks j lt in
      omega (arith, own, most)
