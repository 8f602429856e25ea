-- Whose each count of a stage is.
use Rattle.std.proofs.Common.{◌≡◌, ◌∙◌, ℕ, zero, suc, ◌+◌, ◌-◌, ◌<◌, ◌≤◌, ◌⊎◌, List, [], ◌∷◌, true, false, cond, length, is_none, refl, sym, ap, subst, arith, inl, inr}
use Rattle.std.specs.List.{AllByRecursion}
use Rattle.std.proofs.lemmas.Bool.{cases_Bool, cases_eq, cases_lt, eq-eqb}
use Rattle.sloth_base.specs.declared.config.Config.{Config}
use Rattle.sloth_base.specs.declared.app.App.{App}
use Rattle.sloth_base.specs.declared.service.Event.{Event}
use Rattle.sloth_base.specs.declared.service.Event.TheVariants as event
use Rattle.sloth_base.specs.declared.service.Stamped.{Stamped}
use Rattle.osek_scheduler.specs.State.{System, task, opening}
use Rattle.osek_scheduler.specs.Apart.{IsActive}
use Rattle.osek_scheduler.specs.Priority.{is_active, rank}
use Rattle.osek_scheduler.specs.Steps.{OsekStep}
use Rattle.osek_scheduler.proofs.Facts.{facts}
use Rattle.osek_scheduler.proofs.Leading.{follows_leads}
use Rattle.osek_scheduler.proofs.Tests.{Decides-is_active}
use Rattle.osek_blocking.specs.Pace.{last_count, takes_line}
use Rattle.sim_induction.specs.Pace.{ItemSizes}
use Rattle.sim_induction.specs.Paced.{GoesInPace}
use Rattle.run_counts.specs.Stages.{Stage, turn_task, is_turn, is_running, unseen, spanned, charged, stage, run_stages}
use Rattle.run_counts.specs.OwnCounts.{IsOwn, unowned, IsShared, RunsShareCounts}
use Rattle.run_counts.proofs.Gaps.{line_facts}
use Rattle.run_counts.proofs.Owned.{HasParts, run_owned}
use Rattle.run_counts.proofs.Running.{Decides-is_running}
use Rattle.run_counts.proofs.Staged.{booted_before, all_stages}

-- ---- the task that runs

-- none of the first tasks is Active, or one of them is of the greatest rank
abbrev HasGreatest : Config → System → (n : ℕ) → Type 0
HasGreatest config s n =
    ((t : ℕ) → t < n → IsActive s t → ⊥)
    ⊎ ((t : ℕ) × (t < n) × IsActive s t × ((u : ℕ) → u < n → IsActive s u → rank config s u ≤ rank config s t))

greatest : (config : Config) (s : System) (n : ℕ) → HasGreatest config s n
greatest config s zero = inl (λ t l active. omega (arith, l))
greatest config s (suc n) = by (cases_Bool (is_active (task s n).state)) (greatest config s n)
  where
    asleep : is_active (task s n).state ≡ false → IsActive s n → ⊥
    asleep rests active = let yes : is_active (task s n).state ≡ true = (Decides-is_active (task s n).state).1 active in cc

    -- those below n, and n itself
    each : (P : ℕ → Type 0) → P n → ((u : ℕ) → u < n → P u) → (u : ℕ) → u < suc n → P u
    each P here below u l = two (cases_eq u n)
      where
        two : (u ≡ n) ⊎ (u ≡ n → ⊥) → P u
        two (inl e) = subst P (sym e) here
        two (inr other) = below u (omega (arith, l, other))

    higher : (t : ℕ) → t < n → IsActive s t → ((u : ℕ) → u < n → IsActive s u → rank config s u ≤ rank config s t) → IsActive s n
        → (rank config s t < rank config s n) ⊎ (rank config s n ≤ rank config s t) → HasGreatest config s (suc n)
    higher t l active most here (inr le) = inr (t, omega (arith, l), active, each (λ u. IsActive s u → rank config s u ≤ rank config s t) (λ a. le) most)
    higher t l active most here (inl less) =
        inr (n, omega arith, here, each (λ u. IsActive s u → rank config s u ≤ rank config s n) (λ a. omega arith) (λ u k a. let le = most u k a in omega (arith, le, less)))

    by : (is_active (task s n).state ≡ true) ⊎ (is_active (task s n).state ≡ false) → HasGreatest config s n → HasGreatest config s (suc n)
    by (inr rests) (inl none) = inl (each (λ u. IsActive s u → ⊥) (asleep rests) none)
    by (inr rests) (inr found) =
        inr (
          found.0,
          (let l = found.1 in omega (arith, l)),
          found.2,
          each (λ u. IsActive s u → rank config s u ≤ rank config s found.0) (λ a. absurd (asleep rests a)) found.3,
        )
    by (inl runs) (inl none) =
        inr (
          n,
          omega arith,
          (Decides-is_active (task s n).state).0 runs,
          each (λ u. IsActive s u → rank config s u ≤ rank config s n) (λ a. omega arith) (λ u k a. absurd (none u k a)),
        )
    by (inl runs) (inr found) =
        higher found.0 found.1 found.2 found.3 ((Decides-is_active (task s n).state).0 runs) (cases_lt (rank config s found.0) (rank config s n))

-- ---- a stage

module _ (config : Config) (app : App) (size : ItemSizes) (longest : ℕ) where
  -- what is told of it
  abbrev Told : Stage → Type 0
  Told x = (t : ℕ) → IsOwn config t x × HasParts x

  -- an event of a turn of task t
  turn_shared : (t : ℕ) (x : Stage) → t < length config.tasks → is_turn t x.stamped.event ≡ true → Told x → IsShared config x
  turn_shared t x l turn told =
      let all = (told t).0 in
      let c = ap (λ b. cond b (charged x) 0) turn in
      inr (t, l, omega (arith, all, c))

  -- an entry or a tick
  line_shared : (before : List Stamped) (e : Stamped) (start : ℕ) (s next : System) → OsekStep config app e.event s next → GoesInPace config app size longest (last_count 0 before) s e
      → (s.booted ≡ true → last_count 0 before + 1 ≤ start) → takes_line e.event ≡ true → Told (stage config app start s e) → IsShared config (stage config app start s e)
  line_shared before e start s next step goes begins takes told = by (greatest config s (length config.tasks))
    where
      x_parts : HasParts (stage config app start s e)
      x_parts = (told 0).1

      is_spanned : unowned (stage config app start s e) ≡ spanned (stage config app start s e)
      is_spanned = ap (λ b. cond b (spanned (stage config app start s e)) (cond (is_none (turn_task e.event)) (charged (stage config app start s e)) 0)) takes

      by : HasGreatest config s (length config.tasks) → IsShared config (stage config app start s e)
      by (inl none) =
          let line = line_facts e.event takes in
          let soon = goes.idles takes none in
          let near = begins (booted_before config app e.event s next step line.1) in
          let front = ap (λ b. cond b 0 (e.stamp.from - start)) line.0 in
          let has = x_parts in
          let is = is_spanned in
          inl (omega (arith, soon, near, front, has, is))
      by (inr found) =
          let runs : is_running config s found.0 ≡ true = (Decides-is_running config s found.0).1 (found.2, found.3) in
          let o = ap (λ b. cond b (unseen (stage config app start s e)) 0) runs in
          let has = x_parts in
          let is = is_spanned in
          inr (found.0, found.1, omega (arith, o, has, is))

  shared : (before : List Stamped) (e : Stamped) (start : ℕ) (s next : System) → OsekStep config app e.event s next → GoesInPace config app size longest (last_count 0 before) s e
      → (s.booted ≡ true → last_count 0 before + 1 ≤ start) → (what : Event) → e.event ≡ what → Told (stage config app start s e) → IsShared config (stage config app start s e)
  shared before e start s next step goes begins (event.Enter t) is told = line_shared before e start s next step goes begins (ap takes_line is) told
  shared before e start s next step goes begins (event.Tick c) is told = line_shared before e start s next step goes begins (ap takes_line is) told
  shared before e start s next step goes begins (event.Run t func item result) is told =
      let declared = (subst (λ w. OsekStep config app w s next) is step).1.top.declared in
      turn_shared t (stage config app start s e) declared (ap (is_turn t) is ∙ eq-eqb t t refl) told
  shared before e start s next step goes begins (event.Call t served status) is told =
      let declared = (subst (λ w. OsekStep config app w s next) is step).1.1.top.declared in
      turn_shared t (stage config app start s e) declared (ap (is_turn t) is ∙ eq-eqb t t refl) told
  shared before e start s next step goes begins (event.Left t served) is told =
      let declared = (subst (λ w. OsekStep config app w s next) is step).1.1.top.declared in
      turn_shared t (stage config app start s e) declared (ap (is_turn t) is ∙ eq-eqb t t refl) told
  shared before e start s next step goes begins (event.Back t) is told =
      let declared = (subst (λ w. OsekStep config app w s next) is step).1.declared in
      turn_shared t (stage config app start s e) declared (ap (is_turn t) is ∙ eq-eqb t t refl) told
  shared before e start s next step goes begins what is told =
      let x = stage config app start s e in
      let all = ap (λ w. cond (takes_line w) (spanned x) (cond (is_none (turn_task w)) (charged x) 0)) is in
      inl (omega (arith, all))

-- ---- the law

transposed : (P : ℕ → Stage → Type 0) (xs : List Stage) → ((t : ℕ) → AllByRecursion (P t) xs) → AllByRecursion (λ x. (t : ℕ) → P t x) xs
transposed P [] h = tt
transposed P (x ∷ xs) h = ((λ t. (h t).0), transposed P xs (λ t. (h t).1))

each_by : (P Q : Stage → Type 0) (xs : List Stage) → AllByRecursion (λ x. P x → Q x) xs → AllByRecursion P xs → AllByRecursion Q xs
each_by P Q [] f h = tt
each_by P Q (x ∷ xs) f h = (f.0 h.0, each_by P Q xs f.1 h.1)

pub shares : RunsShareCounts
shares config app size longest n arrivals events wf run timed keeps =
    let leads = follows_leads config app [] (opening config app) events run.0 run.1 in
    each_by (λ x. (t : ℕ) → IsOwn config t x × HasParts x) (IsShared config) (run_stages config app events)
    (all_stages config app size longest n events keeps (λ x. ((t : ℕ) → IsOwn config t x × HasParts x) → IsShared config x)
    (λ before e start s next led step goes begins told. shared config app size longest before e start s next step goes begins e.event refl told)
    run)
    (transposed (λ t x. IsOwn config t x × HasParts x) (run_stages config app events) (λ t. run_owned config app (facts config app wf) n t arrivals events run.0 leads timed))
