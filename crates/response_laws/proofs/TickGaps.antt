-- Where only admissions and ticks come, tasks spend no more than one item in front of these ticks.
use Rattle.std.proofs.Common.{◌≡◌, ℕ, ◌+◌, ◌-◌, ◌<◌, ◌≤◌, ◌⊎◌, List, [], ◌∷◌, Bool, true, false, cond, length, is_some, is_none, refl, sym, ap, ◌∙◌, subst, arith, inl, inr}
use Rattle.std.specs.List.{AllByRecursion}
use Rattle.std.proofs.lemmas.Bool.{cases_Bool, cases_eq, true≢false, false≢true}
use Rattle.sloth_base.specs.declared.config.Config.{Config}
use Rattle.sloth_base.specs.declared.app.App.{App}
use Rattle.sloth_base.specs.declared.service.Event.{Event}
use Rattle.sloth_base.specs.declared.service.Event.TheVariants as event
use Rattle.sloth_base.specs.Events.{admitted_line}
use Rattle.osek_scheduler.specs.State.{System, task}
use Rattle.osek_scheduler.specs.Apart.{IsActive, IsOver}
use Rattle.osek_scheduler.specs.InTime.{is_admit}
use Rattle.osek_scheduler.specs.Priority.{rank}
use Rattle.osek_scheduler.proofs.Apart.{Same, at_least_static, rank_active}
use Rattle.osek_blocking.proofs.Effects.{Ordered}
use Rattle.osek_blocking.proofs.Ordering.{effect}
use Rattle.sim_induction.specs.Pace.{ItemSizes, AreAtMost}
use Rattle.sim_induction.specs.Spent.{spent_behind}
use Rattle.osek_blocking.specs.Pace.{takes_line}
use Rattle.run_counts.specs.Stages.{Stage, unseen, spanned, charged, own, end_of, turn_task, is_turn, is_entry, is_running}
use Rattle.run_counts.specs.Rounds.{is_left, total}
use Rattle.run_counts.specs.OwnCounts.{is_preempted, begun, IsShared, unowned}
use Rattle.run_counts.proofs.Awake.{stays_active}
use Rattle.run_counts.proofs.Running.{Decides-is_running}
use Rattle.run_counts.proofs.SpentStages.{AreSpent, goes_on}
use Rattle.run_counts.proofs.TaskCases.{TaskCase, entry_case, work_case, service_case, rest_case, task_case}
use Rattle.response_laws.proofs.Linked.{Known, Linked, each_so}
use Rattle.response_laws.proofs.LowerSpending.{some_or_none, few_begun}

-- the event is an admission or a tick
abbrev pub is_outside : Event → Bool
is_outside (event.Admit t) = true
is_outside (event.Due c) = true
is_outside (event.Tick c) = true
is_outside e = false

abbrev pub IsOutside : Stage → Type 0
IsOutside x = is_outside x.stamped.event ≡ true

no_turn : (e : Event) (t : ℕ) → is_outside e ≡ true → is_turn t e ≡ false
no_turn (event.Admit u) t out = refl
no_turn (event.Due c) t out = refl
no_turn (event.Tick c) t out = refl
no_turn e t out = absurd (false≢true out)

no_entry : (e : Event) (t : ℕ) → is_outside e ≡ true → is_entry t e ≡ false
no_entry (event.Admit u) t out = refl
no_entry (event.Due c) t out = refl
no_entry (event.Tick c) t out = refl
no_entry e t out = absurd (false≢true out)

no_leaving : (e : Event) (t : ℕ) → is_outside e ≡ true → is_left t e ≡ false
no_leaving (event.Admit u) t out = refl
no_leaving (event.Due c) t out = refl
no_leaving (event.Tick c) t out = refl
no_leaving e t out = absurd (false≢true out)

module _ (config : Config) (app : App) where
  -- ---- who runs

  module _ (x : Stage) (k : Known config app x) (out : IsOutside x) where
    same_at : (t : ℕ) → Same config t (task x.found t) (task x.next t)
    same_at t = by (task_case config x.found x.next t x.stamped.event (effect config app x.found x.next k.ordered x.stamped.event k.step))
      where
        by : TaskCase config x.found x.next t x.stamped.event → Same config t (task x.found t) (task x.next t)
        by (rest_case away off same ready) = same
        by (entry_case entry away f) = absurd (true≢false (sym entry ∙ no_entry x.stamped.event t out))
        by (work_case turn off calls f) = absurd (true≢false (sym turn ∙ no_turn x.stamped.event t out))
        by (service_case turn off calls f) = absurd (true≢false (sym turn ∙ no_turn x.stamped.event t out))

    stays_at : (t : ℕ) → IsActive x.found t → IsActive x.next t
    stays_at t = stays_active config app t x.stamped.event x.found x.next k.step k.valid (no_leaving x.stamped.event t out)

    ranked : (t : ℕ) → IsActive x.next t → rank config x.next t ≡ rank config x.found t
    ranked t active =
        let old = same_at t active in
        let one = rank_active config x.next t active in
        let two = rank_active config x.found t old.0 in
        let same = old.1 in
        omega (arith, one, two, same)

    -- a task that runs behind it ran in front of it
    ran_before : (t : ℕ) → is_running config x.next t ≡ true → is_running config x.found t ≡ true
    ran_before t is =
        let runs = (Decides-is_running config x.next t).0 is in
        (Decides-is_running config x.found t).1 (
          (same_at t runs.0).0,
          λ u lt active.
              let now = stays_at u active in
              let le = runs.1 u lt now in
              let its = ranked u now in
              let mine = ranked t runs.0 in
              omega (arith, le, its, mine),
        )

  -- no two tasks run
  one_runs : (s : System) → Ordered config s → (t u : ℕ) → t < length config.tasks → u < length config.tasks → is_running config s t ≡ true → is_running config s u ≡ true → t ≡ u
  one_runs s o t u there also is and = by (cases_eq t u)
    where
      runs : IsActive s t × ((v : ℕ) → v < length config.tasks → IsActive s v → rank config s v ≤ rank config s t)
      runs = (Decides-is_running config s t).0 is

      others : IsActive s u × ((v : ℕ) → v < length config.tasks → IsActive s v → rank config s v ≤ rank config s u)
      others = (Decides-is_running config s u).0 and

      never : IsOver config s u t ⊎ IsOver config s t u → ⊥
      never (inl over) =
          let le = others.1 t there runs.0 in
          let one = rank_active config s t runs.0 in
          let two = rank_active config s u others.0 in
          let back = runs.1 u also others.0 in
          let least = at_least_static config u (task s u) in
          let mine = at_least_static config t (task s t) in
          omega (arith, over, le, one, two, back, least, mine)
      never (inr over) =
          let le = others.1 t there runs.0 in
          let one = rank_active config s t runs.0 in
          let two = rank_active config s u others.0 in
          let back = runs.1 u also others.0 in
          let least = at_least_static config u (task s u) in
          let mine = at_least_static config t (task s t) in
          omega (arith, over, le, one, two, back, least, mine)

      by : (t ≡ u) ⊎ (t ≡ u → ⊥) → t ≡ u
      by (inl same) = same
      by (inr differ) = absurd (never (o.apart.apart t u (record { first = there; second = also; differ = differ }) runs.0 others.0))

  -- whoever runs at one of these stages ran at the first
  ran_first : (at : ℕ) (s : System) (xs : List Stage) → Linked at s xs → AllByRecursion (Known config app) xs → AllByRecursion IsOutside xs
      → AllByRecursion (λ x. (t : ℕ) → is_running config x.found t ≡ true → is_running config s t ≡ true) xs
  ran_first at s [] l k out = tt
  ran_first at s (x ∷ xs) l k out = (
    here,
    each_so (λ y. (t : ℕ) → is_running config y.found t ≡ true → is_running config x.next t ≡ true) (λ y. (t : ℕ) → is_running config y.found t ≡ true → is_running config s t ≡ true)
        (λ y rest t is. here t (ran_before x k.0 out.0 t (rest t is))) xs (ran_first (end_of x) x.next xs l.2 k.1 out.1),
  )
    where
      here : (t : ℕ) → is_running config x.found t ≡ true → is_running config s t ≡ true
      here t is = subst (λ (y : System). is_running config y t ≡ true) l.1 is

  -- ---- what they spend

  -- a stage has its own counts, and those of a task that runs
  shares : (x : Stage) → IsOutside x → IsShared config x
      → (charged x ≤ spanned x) ⊎ ((t : ℕ) × (t < length config.tasks) × (is_running config x.found t ≡ true) × (charged x ≤ spanned x + own config t x))
  shares x out shared = by x.stamped.event refl out shared
    where
      Result : Type 0
      Result = (charged x ≤ spanned x) ⊎ ((t : ℕ) × (t < length config.tasks) × (is_running config x.found t ≡ true) × (charged x ≤ spanned x + own config t x))

      admits : is_admit x.stamped ≡ true → Result
      admits is = let none = ap {B = ℕ} (λ b. cond b 0 (x.stamped.stamp.at + 1 - x.start)) is in inl (omega (arith, none))

      ticks : unowned x ≡ spanned x → IsShared config x → Result
      ticks is (inl few) = inl (omega (arith, few, is))
      ticks is (inr (t, lt, few)) = which (cases_Bool (is_running config x.found t))
        where
          which : (is_running config x.found t ≡ true) ⊎ (is_running config x.found t ≡ false) → Result
          which (inl runs) = inr (t, lt, runs, (omega (arith, few, is)))
          which (inr rests) =
              let front = ap {B = ℕ} (λ b. cond b (unseen x) 0) rests in
              let turn = ap {B = ℕ} (λ b. cond b (spanned x) 0) (no_turn x.stamped.event t out) in
              inl (omega (arith, few, is, front, turn))

      by : (e : Event) → x.stamped.event ≡ e → is_outside e ≡ true → IsShared config x → Result
      by (event.Admit t) is o h = admits (ap (λ w. is_some (admitted_line w)) is)
      by (event.Due c) is o h = admits (ap (λ w. is_some (admitted_line w)) is)
      by (event.Tick c) is o h = ticks (ap {B = ℕ} (λ b. cond b (spanned x) (cond (is_none (turn_task x.stamped.event)) (charged x) 0)) (ap takes_line is)) h
      by e is o h = absurd (false≢true o)

  module _ (size : ItemSizes) (longest : ℕ) (most : AreAtMost size longest) where
    -- what a task spends is of its item
    of_one : (r at spent : ℕ) (s : System) (xs : List Stage) → AreSpent config app size longest r at spent s xs → AllByRecursion IsOutside xs
        → (total (own config r) xs ≤ 0) ⊎ (total (own config r) xs + spent ≤ longest)
    of_one r at spent s [] spends out = inl (omega arith)
    of_one r at spent s (x ∷ xs) spends out =
        by (of_one r (cond (is_admit x.stamped) at x.stamped.stamp.at) (spent_behind config r at spent x.found x.stamped) x.next xs spends.2 out.1) (cases_Bool (is_preempted config r x))
      where
        behind : ℕ
        behind = spent_behind config r at spent x.found x.stamped

        grows : (own config r x + spent ≤ behind) × (behind ≤ cond (is_preempted config r x) (begun size r x) spent)
        grows =
            goes_on config app size longest r at spent x spends.1 (no_turn x.stamped.event r out.0) spent (omega arith) (no_entry x.stamped.event r out.0)

        by : (total (own config r) xs ≤ 0) ⊎ (total (own config r) xs + behind ≤ longest) → (is_preempted config r x ≡ true) ⊎ (is_preempted config r x ≡ false)
            → (total (own config r) (x ∷ xs) ≤ 0) ⊎ (total (own config r) (x ∷ xs) + spent ≤ longest)
        by (inr le) which = let a = grows.0 in inr (omega (arith, le, a))
        by (inl le) (inl is) =
            let a = grows.0 in
            let c = grows.1 in
            let d = ap {B = ℕ} (λ b. cond b (begun size r x) spent) is in
            let few = few_begun config app 0 size longest most r x in
            inr (omega (arith, le, a, c, d, few))
        by (inl le) (inr off) =
            let a = grows.0 in
            let c = grows.1 in
            let d = ap {B = ℕ} (λ b. cond b (begun size r x) spent) off in
            inl (omega (arith, le, a, c, d))

    -- all together
    pub outside_spend : (at : ℕ) (s : System) (xs : List Stage) → Ordered config s → Linked at s xs → AllByRecursion (Known config app) xs → AllByRecursion (IsShared config) xs
        → ((t : ℕ) → t < length config.tasks → (from : ℕ) × ((spent : ℕ) × AreSpent config app size longest t from spent s xs)) → AllByRecursion IsOutside xs
        → total charged xs ≤ total spanned xs + longest
    outside_spend at s xs o l k shared spends out = by (some_or_none (length config.tasks) (is_running config s))
      where
        first : AllByRecursion (λ x. (t : ℕ) → is_running config x.found t ≡ true → is_running config s t ≡ true) xs
        first = ran_first at s xs l k out

        -- where none runs at the first
        rest : ((t : ℕ) → t < length config.tasks → is_running config s t ≡ false) → (ys : List Stage)
            → AllByRecursion (λ x. (t : ℕ) → is_running config x.found t ≡ true → is_running config s t ≡ true) ys → AllByRecursion (IsShared config) ys → AllByRecursion IsOutside ys
            → total charged ys ≤ total spanned ys
        rest none [] f h away = omega arith
        rest none (y ∷ ys) f h away = let further = rest none ys f.1 h.1 away.1 in let here = this (shares y away.0 h.0) in omega (arith, further, here)
          where
            this : (charged y ≤ spanned y) ⊎ ((t : ℕ) × (t < length config.tasks) × (is_running config y.found t ≡ true) × (charged y ≤ spanned y + own config t y)) → charged y ≤ spanned y
            this (inl le) = le
            this (inr (t, lt, is, le)) = absurd (true≢false (sym (f.0 t is) ∙ none t lt))

        -- where one does
        own_counts : (r : ℕ) → r < length config.tasks → is_running config s r ≡ true → (ys : List Stage)
            → AllByRecursion (λ x. (t : ℕ) → is_running config x.found t ≡ true → is_running config s t ≡ true) ys → AllByRecursion (IsShared config) ys → AllByRecursion IsOutside ys
            → total charged ys ≤ total spanned ys + total (own config r) ys
        own_counts r there runs [] f h away = omega arith
        own_counts r there runs (y ∷ ys) f h away =
            let further = own_counts r there runs ys f.1 h.1 away.1 in let here = this (shares y away.0 h.0) in omega (arith, further, here)
          where
            this : (charged y ≤ spanned y) ⊎ ((t : ℕ) × (t < length config.tasks) × (is_running config y.found t ≡ true) × (charged y ≤ spanned y + own config t y))
                → charged y ≤ spanned y + own config r y
            this (inl le) = omega (arith, le)
            this (inr (t, lt, is, le)) =
                let same = one_runs s o t r lt there (f.0 t is) runs in
                subst (λ v. charged y ≤ spanned y + own config v y) same le

        by : ((r : ℕ) × (r < length config.tasks) × (is_running config s r ≡ true)) ⊎ ((t : ℕ) → t < length config.tasks → is_running config s t ≡ false)
            → total charged xs ≤ total spanned xs + longest
        by (inr none) = let le = rest none xs first shared out in omega (arith, le)
        by (inl (r, there, runs)) =
            let all = own_counts r there runs xs first shared out in
            let spent = spends r there in
            few _ all (of_one r spent.0 spent.1.0 s xs spent.1.1 out)
          where
            few : (spent : ℕ) → total charged xs ≤ total spanned xs + total (own config r) xs → (total (own config r) xs ≤ 0) ⊎ (total (own config r) xs + spent ≤ longest)
                → total charged xs ≤ total spanned xs + longest
            few spent all (inl none) = omega (arith, all, none)
            few spent all (inr le) = omega (arith, all, le)
