-- No two tasks hold one resource.
use Rattle.std.proofs.Common.{◌≡◌, ℕ, zero, suc, ◌<◌, ◌≤◌, ◌==◌, ◌⊎◌, List, [], ◌∷◌, Bool, true, false, cond, length, get_or, map, max, refl, sym, ap, ◌∙◌, subst, arith, inl, inr}
use Rattle.std.specs.Prelude.{◌≢◌, filter}
use Rattle.std.proofs.lemmas.Bool.{false≢true, cases_eq, or_cases, eqb-true, ne_eqb, eq-eqb}
use Rattle.sloth_base.specs.declared.config.Config.{Config}
use Rattle.sloth_base.specs.declared.config.TaskDecl.{TaskDecl}
use Rattle.sloth_base.specs.declared.app.App.{App}
use Rattle.osek_scheduler.specs.declared.state.TaskState.{TaskState}
use Rattle.osek_scheduler.specs.declared.state.TaskState.TheVariants as mode
use Rattle.osek_scheduler.specs.State.{Task, System, task}
use Rattle.sloth_base.specs.Named.{undeclared_task}
use Rattle.sloth_base.specs.ConfigRange.{scheduler_number}
use Rattle.code_rules.specs.Code.{is_in}
use Rattle.osek_scheduler.specs.Priority.{greatest, highest_priority, ceiling}
use Rattle.osek_scheduler.specs.Valid.{MayHold, InState, IsValidTask, IsValid}
use Rattle.osek_scheduler.specs.Apart.{priority_of, static_priority, TasksAreApart, HasExclusion}
use Rattle.osek_scheduler.proofs.Apart.{at_least_static}

le_max_left : (a b c : ℕ) → c ≤ a → c ≤ max a b
le_max_left a b c le = omega (arith, le)

le_max_right : (a b c : ℕ) → c ≤ b → c ≤ max a b
le_max_right a b c le = omega (arith, le)

-- each listed number is at most the greatest
greatest_of : (f : ℕ → ℕ) (rs : List ℕ) (r : ℕ) → is_in r rs ≡ true → f r ≤ greatest (map f rs)
greatest_of f [] r h = absurd (false≢true h)
greatest_of f (x ∷ rs) r h = by (greatest_of f rs r) (or_cases _ _ h)
  where
    by : (is_in r rs ≡ true → f r ≤ greatest (map f rs)) → ((x == r) ≡ true) ⊎ (is_in r rs ≡ true) → f r ≤ greatest (map f (x ∷ rs))
    by rest (inl e) = le_max_left (f x) _ _ (subst (λ y. f r ≤ f y) (sym (eqb-true x r e)) (omega arith))
    by rest (inr e) = le_max_right (f x) _ _ (rest e)

pub among : (ds : List TaskDecl) (t : ℕ) → t < length ds → (get_or ds t undeclared_task).priority ≤ greatest (map (λ d. d.priority) ds)
among [] t lt = absurd (omega (arith, lt))
among (d ∷ ds) zero lt = le_max_left d.priority _ _ (omega arith)
among (d ∷ ds) (suc t) lt = le_max_right d.priority _ _ (among ds t (omega (arith, lt)))

among_users : (r : ℕ) (ds : List TaskDecl) (t : ℕ) → t < length ds → is_in r (get_or ds t undeclared_task).resources ≡ true
    → (get_or ds t undeclared_task).priority ≤ greatest (map (λ d. d.priority) (filter (λ d. is_in r d.resources) ds))
among_users r [] t lt uses = absurd (omega (arith, lt))
among_users r (d ∷ ds) zero lt uses =
    let P : Bool → Type 0 = λ b. d.priority ≤ greatest (map (λ d. d.priority) (cond b (d ∷ filter (λ d. is_in r d.resources) ds) (filter (λ d. is_in r d.resources) ds))) in
    subst P (sym uses) (le_max_left d.priority _ _ (omega arith))
among_users r (d ∷ ds) (suc t) lt uses = by (is_in r d.resources) (among_users r ds t (omega (arith, lt)) uses)
  where
    by : (b : Bool) → (get_or ds t undeclared_task).priority ≤ greatest (map (λ d. d.priority) (filter (λ d. is_in r d.resources) ds))
        → (get_or ds t undeclared_task).priority ≤ greatest (map (λ d. d.priority) (cond b (d ∷ filter (λ d. is_in r d.resources) ds) (filter (λ d. is_in r d.resources) ds)))
    by true h = le_max_right d.priority _ _ h
    by false h = h

module _ (config : Config) (app : App) where
  -- a task that may take a resource is not above its ceiling
  pub below_ceiling : (t r : ℕ) → t < length config.tasks → MayHold config t r → static_priority config t ≤ ceiling config r
  below_ceiling t r lt may = by (cases_eq r 32) may
    where
      at : (b : Bool) → (r == scheduler_number) ≡ b → static_priority config t ≤ cond b (highest_priority config) (greatest (map (λ d. d.priority) (filter (λ d. is_in r d.resources) config.tasks)))
          → static_priority config t ≤ ceiling config r
      at b e h =
          let P : Bool → Type 0 = λ c. static_priority config t ≤ cond c (highest_priority config) (greatest (map (λ d. d.priority) (filter (λ d. is_in r d.resources) config.tasks))) in
          subst P (sym e) h

      by : (r ≡ scheduler_number) ⊎ (r ≡ scheduler_number → ⊥) → MayHold config t r → static_priority config t ≤ ceiling config r
      by (inl e) m = at true (eq-eqb r 32 e) (among config.tasks t lt)
      by (inr n) (inl e) = absurd (n e)
      by (inr n) (inr uses) = at false (ne_eqb r 32 n) (among_users r config.tasks t lt uses)

  -- what it holds raises it
  above_ceiling : (t r : ℕ) (k : Task) → is_in r k.held ≡ true → ceiling config r ≤ priority_of config t k
  above_ceiling t r k h =
      le_max_right (static_priority config t) _ _ (le_max_left (greatest (map (ceiling config) k.held)) _ _ (greatest_of (ceiling config) k.held r h))

  -- who holds is Active
  holder_active : (t r : ℕ) (k : Task) → IsValidTask config app t k → is_in r k.held ≡ true → k.state ≡ mode.Active
  holder_active t r k v h = by k.state refl v.in_state
    where
      none : k.held ≡ [] → ⊥
      none e = false≢true (sym (ap (is_in r) e) ∙ h)

      by : (m : TaskState) → k.state ≡ m → InState config t k m → k.state ≡ mode.Active
      by mode.Suspended e i = absurd (none i.0.holds)
      by mode.Ready e i = absurd (none i.0.holds)
      by mode.Active e i = e
      by (mode.Waiting mask) e i = absurd (none i.0.holds)

  pub excludes : (s : System) → IsValid config app s → TasksAreApart config s → HasExclusion config s
  excludes s v a = record {
    one_holder = λ t u r two ht hu.
        let kt = v.each t two.first in
        let ku = v.each u two.second in
        clash t u r (a.apart t u two (holder_active t r (task s t) kt ht) (holder_active u r (task s u) ku hu))
        (above_ceiling t r (task s t) ht) (above_ceiling u r (task s u) hu) (below_ceiling t r two.first (kt.listed r ht)) (below_ceiling u r two.second (ku.listed r hu));
    idle_holds_none = λ t lt idle. none (task s t) t (task s t).state refl (v.each t lt).in_state idle;
    priorities_differ = λ t u two at au e. differ t u e (a.apart t u two at au) (at_least_static config t (task s t)) (at_least_static config u (task s u));
  }
    where
      none : (k : Task) (t : ℕ) (m : TaskState) → k.state ≡ m → InState config t k m → k.state ≢ mode.Active → k.held ≡ []
      none k t mode.Suspended e i idle = i.0.holds
      none k t mode.Ready e i idle = i.0.holds
      none k t mode.Active e i idle = absurd (idle e)
      none k t (mode.Waiting mask) e i idle = i.0.holds

      clash : (t u r : ℕ) → (priority_of config t (task s t) < static_priority config u) ⊎ (priority_of config u (task s u) < static_priority config t)
          → ceiling config r ≤ priority_of config t (task s t) → ceiling config r ≤ priority_of config u (task s u)
          → static_priority config t ≤ ceiling config r → static_priority config u ≤ ceiling config r → ⊥
      clash t u r (inl h) a b c d = omega (arith, h, a, d)
      clash t u r (inr h) a b c d = omega (arith, h, b, c)

      differ : (t u : ℕ) → priority_of config t (task s t) ≡ priority_of config u (task s u)
          → (priority_of config t (task s t) < static_priority config u) ⊎ (priority_of config u (task s u) < static_priority config t)
          → static_priority config t ≤ priority_of config t (task s t) → static_priority config u ≤ priority_of config u (task s u) → ⊥
      differ t u e (inl h) a b = omega (arith, e, h, b)
      differ t u e (inr h) a b = omega (arith, e, h, a)
