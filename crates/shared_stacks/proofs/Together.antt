-- The basic tasks that are Active at once, by rising priorities, are stacked as the bound of the shared stack has it.
use Rattle.std.proofs.Common.{◌≡◌, ℕ, ◌+◌, ◌<◌, ◌≤◌, inl, inr, ⊎_elim, List, [], ◌∷◌, Bool, true, false, not, ◌&&◌, cond, length, get_or, map, max, refl, sym, ap, ◌∙◌, subst, arith}
use Rattle.std.proofs.lemmas.Bool.{cases_Bool, cond-true, cond-false}
use Rattle.sloth_base.specs.declared.config.Config.{Config}
use Rattle.sloth_base.specs.declared.app.App.{App}
use Rattle.sloth_base.specs.declared.service.Stamped.{Stamped}
use Rattle.sloth_base.specs.declared.limits.Bounds.{Bounds}
use Rattle.sloth_base.specs.Named.{declaration, undeclared_task}
use Rattle.stack_bounds.specs.Bounds.{IsBasic, MayBePreempted, AreStacked, AreBounds}
use Rattle.stack_bounds.proofs.Stacked as stacked
use Rattle.osek_scheduler.specs.State.{System, task, opening}
use Rattle.osek_scheduler.specs.Priority.{highest_priority, greatest, ceiling}
use Rattle.osek_scheduler.specs.Runs.{AreStepsTo}
use Rattle.osek_scheduler.specs.Valid.{IsValid, InState}
use Rattle.osek_scheduler.specs.Apart.{IsActive, IsOver, TasksAreApart, static_priority}
use Rattle.shared_stacks.specs.Together.{OwesBySchedule, chosen_bytes}
use Rattle.osek_scheduler.proofs.Apart.{at_least_static, opening_apart}
use Rattle.osek_scheduler.proofs.ApartSteps.{step_apart}
use Rattle.osek_scheduler.proofs.Excluding.{among}
use Rattle.osek_scheduler.proofs.Facts.{Facts}
use Rattle.shared_stacks.proofs.Owing.{step_owes, opening_owes}
use Rattle.osek_scheduler.proofs.Steps.{step_valid, opening_valid}

raised_le : (own held high : ℕ) (raised : Bool) → raised ≡ true → high ≤ max own (max held (cond raised high 0))
raised_le own held high raised e =
    subst (λ b. high ≤ max own (max held (cond b high 0))) (sym e) (omega arith)

module _ (config : Config) (app : App) (s : System) (v : IsValid config app s) (owes : OwesBySchedule app s) where
  pub lower_may : (t u : ℕ) → t < length config.tasks → u < length config.tasks → IsActive s t → IsOver config s u t → MayBePreempted config app t
  lower_may t u lt lu active over = by (declaration config t).non refl (task s t).owed refl
    where
      state : InState config t (task s t) (task s t).state
      state = (v.each t lt).in_state

      by : (non : Bool) → (declaration config t).non ≡ non → (owed : Bool) → (task s t).owed ≡ owed → MayBePreempted config app t
      by false e owed f = inl e
      by true e true f = inr (owes t f)
      by true e false f =
          let i = subst (InState config t (task s t)) active state in
          let raised : (task s t).raised ≡ true = i.1 ∙ ap (λ b. b && not (task s t).owed) e ∙ ap not f in
          let high = raised_le (static_priority config t) (greatest (map (ceiling config) (task s t).held)) (highest_priority config) (task s t).raised raised in
          let least = among config.tasks u lu in
          absurd (omega (arith, over, high, least))

module _ (config : Config) (app : App) (s : System) (v : IsValid config app s) (apart : TasksAreApart config s) (owes : OwesBySchedule app s) where
  abbrev Wanted : ℕ → Type 0
  Wanted t = IsBasic config t × IsActive s t

  abbrev Any : ℕ → Type 0
  Any t = Unit {0}

  -- of two Active tasks with rising priorities the first may be preempted
  rising : (t u : ℕ) → t < length config.tasks → u < length config.tasks → IsActive s t → IsActive s u → static_priority config t < static_priority config u
      → MayBePreempted config app t
  rising t u lt lu at au less =
      let differ : t ≡ u → ⊥ = λ e. let same = ap (static_priority config) e in omega (arith, less, same) in
      ⊎_elim
      (λ (over : IsOver config s u t). lower_may config app s v owes t u lt lu at over)
      (λ (over : IsOver config s t u). let h = at_least_static config u (task s u) in absurd (omega (arith, less, over, h)))
      (apart.apart t u (record { first = lt; second = lu; differ = differ }) at au)

  abbrev above_all : ℕ
  above_all = highest_priority config + 1

  are_stacked : (size : ℕ → ℕ) (k low : ℕ) (list : List ℕ) → k ≤ length config.tasks
      → stacked.RiseFrom (length config.tasks) (static_priority config) size Wanted Any above_all k low list → AreStacked config app list
  are_stacked size k low [] le h = tt
  are_stacked size k low (t ∷ []) le h = h.1.0.0
  are_stacked size k low (t ∷ u ∷ rest) le h =
      let less = h.3.2 in
      let rises : static_priority config t < static_priority config u = omega (arith, less) in (
        h.1.0.0,
        rising t u h.1.0.0.0 h.3.1.0.0.0 h.1.0.1 h.3.1.0.1 rises,
        rises,
        are_stacked size k (static_priority config t + 1) (u ∷ rest) le h.3,
      )

  module _ (bounds : Bounds) (w : Facts config app) (are : AreBounds config app bounds) (chosen : ℕ → Bool)
      (all : (t : ℕ) → chosen t ≡ true → IsBasic config t × IsActive s t) where
    abbrev size : ℕ → ℕ
    size t = get_or bounds.bytes t 0

    abbrev counted : ℕ → ℕ
    counted t = cond (chosen t) (size t) 0

    counts : (t : ℕ) → t < length config.tasks → stacked.Counts (length config.tasks) (static_priority config) size Wanted Any above_all counted t
    counts t lt = ⊎_elim
        (λ yes. let least = among config.tasks t lt in inl ((all t yes, tt, omega (arith, least)), cond-true (chosen t) (size t) 0 yes))
        (λ no. inr (cond-false (chosen t) (size t) 0 no))
        (cases_Bool (chosen t))

    pub holds : chosen_bytes config bounds chosen ≤ bounds.shared
    holds =
        let sorted = stacked.sorted (length config.tasks) (static_priority config) size Wanted Any above_all counted (length config.tasks) counts
        (λ t u l m. w.in_range.configuration.priorities_differ t u undeclared_task l m) in
        let most = are.shared.none_greater sorted.0 (are_stacked size (length config.tasks) 0 sorted.0 (omega arith) sorted.1) in
        let e = sorted.2 in
        omega (arith, most, e)

module _ (config : Config) (app : App) (w : Facts config app) where
  -- what every state of a run has
  along : (events : List Stamped) (s end : System) → AreStepsTo config app events s end → IsValid config app s → TasksAreApart config s → OwesBySchedule app s
      → IsValid config app end × TasksAreApart config end × OwesBySchedule app end
  along [] s end is v a o =
      let P : System → Type 0 = λ x. IsValid config app x × TasksAreApart config x × OwesBySchedule app x in
      subst P (sym is) (v, a, o)
  along (e ∷ events) s end h v a o =
      along events h.0 end h.2 (step_valid config app e.event s h.0 w h.1 v) (step_apart config app e.event s h.0 h.1 v.count a) (step_owes app config w e.event s h.0 h.1 v o)

  pub reached : (events : List Stamped) (end : System) → AreStepsTo config app events (opening config app) end
      → IsValid config app end × TasksAreApart config end × OwesBySchedule app end
  reached events end leads = along events (opening config app) end leads (opening_valid config app) (opening_apart config app) (opening_owes app config w)
