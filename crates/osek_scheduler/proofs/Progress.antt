-- Some task is top wherever one is due and no counter is, so a run never sticks.
use Rattle.std.proofs.Common.{◌≡◌, ℕ, zero, suc, ◌<◌, ◌≤◌, ◌⊎◌, [], Bool, true, false, length, refl, subst, arith, inl, inr, None}
use Rattle.std.proofs.lemmas.Bool.{cases_lt}
use Rattle.sloth_base.specs.declared.config.Config.{Config}
use Rattle.sloth_base.specs.declared.app.App.{App}
use Rattle.sloth_base.specs.declared.service.Event.{Event}
use Rattle.sloth_base.specs.declared.service.Event.TheVariants as event
use Rattle.osek_scheduler.specs.declared.state.TaskState.{TaskState}
use Rattle.osek_scheduler.specs.declared.state.TaskState.TheVariants as mode
use Rattle.osek_scheduler.specs.State.{System, task, counter}
use Rattle.osek_scheduler.specs.Priority.{rank, IsDue, NoTicks, IsNextTick, IsTop}
use Rattle.sloth_base.specs.Events.{admitted_line}
use Rattle.osek_scheduler.specs.Steps.{OsekStep}
use Rattle.osek_scheduler.proofs.Facts.{Facts}
use Rattle.osek_scheduler.specs.Valid.{IsValid}
use Rattle.osek_scheduler.specs.Apart.{TasksAreApart}
use Rattle.osek_scheduler.proofs.Stacks.{has_body}
use Rattle.osek_scheduler.proofs.Meaning.{goes}

module _ (config : Config) (s : System) where
  -- the greatest of the due tasks below n
  record Best (n : ℕ) : Type 0 where
    which : ℕ
    below : which < n
    due : IsDue s which
    greatest : (u : ℕ) → u < n → IsDue s u → rank config s u ≤ rank config s which

  abbrev NoneDue : ℕ → Type 0
  NoneDue n = (u : ℕ) → u < n → ¬ (IsDue s u)

  is_due : (t : ℕ) → IsDue s t ⊎ (¬ (IsDue s t))
  is_due t = by (task s t).state
    where
      by : (m : TaskState) → ((m ≡ mode.Ready) ⊎ (m ≡ mode.Active)) ⊎ (¬ ((m ≡ mode.Ready) ⊎ (m ≡ mode.Active)))
      by mode.Suspended = inr neither
        where
          neither : (mode.Suspended ≡ mode.Ready) ⊎ (mode.Suspended ≡ mode.Active) → ⊥
          neither (inl e) = absurd cc
          neither (inr e) = absurd cc
      by mode.Ready = inl (inl refl)
      by mode.Active = inl (inr refl)
      by (mode.Waiting mask) = inr neither
        where
          neither : (mode.Waiting mask ≡ mode.Ready) ⊎ (mode.Waiting mask ≡ mode.Active) → ⊥
          neither (inl e) = absurd cc
          neither (inr e) = absurd cc

  split : (P : ℕ → Type 0) (n u : ℕ) → u < suc n → (u < n → P u) → P n → P u
  split P n u lt less same = by (cases_lt u n)
    where
      by : (u < n) ⊎ (n ≤ u) → P u
      by (inl l) = less l
      by (inr l) = let e : n ≡ u = omega (arith, lt, l) in subst P e same

  -- one more task
  more : (n : ℕ) → Best n ⊎ NoneDue n → IsDue s n ⊎ (¬ (IsDue s n)) → Best (suc n) ⊎ NoneDue (suc n)
  more n (inr none) (inr idle) = inr (λ u lt. split (λ x. ¬ (IsDue s x)) n u lt (none u) idle)
  more n (inr none) (inl due) =
      inl (record {
        which = n;
        below = omega arith;
        due = due;
        greatest = λ u lt. split (λ x. IsDue s x → rank config s x ≤ rank config s n) n u lt (λ l d. absurd (none u l d)) (λ d. omega arith);
      })
  more n (inl best) (inr idle) =
      inl (record {
        which = best.which;
        below = let l = best.below in omega (arith, l);
        due = best.due;
        greatest = λ u lt. split (λ x. IsDue s x → rank config s x ≤ rank config s best.which) n u lt (best.greatest u) (λ d. absurd (idle d));
      })
  more n (inl best) (inl due) = by (cases_lt (rank config s best.which) (rank config s n))
    where
      by : (rank config s best.which < rank config s n) ⊎ (rank config s n ≤ rank config s best.which) → Best (suc n) ⊎ NoneDue (suc n)
      by (inl above) =
          inl (record {
            which = n;
            below = omega arith;
            due = due;
            greatest = λ u lt. split (λ x. IsDue s x → rank config s x ≤ rank config s n) n u lt
                (λ l d. let g = best.greatest u l d in omega (arith, above, g)) (λ d. omega arith);
          })
      by (inr not_above) =
          inl (record {
            which = best.which;
            below = let l = best.below in omega (arith, l);
            due = best.due;
            greatest = λ u lt. split (λ x. IsDue s x → rank config s x ≤ rank config s best.which) n u lt (best.greatest u) (λ d. not_above);
          })

  best_of : (n : ℕ) → Best n ⊎ NoneDue n
  best_of zero = inr (λ u lt. absurd (omega (arith, lt)))
  best_of (suc n) = more n (best_of n) (is_due n)

  -- ---- counters

  -- the due counter of least number below n
  record FirstDue (n : ℕ) : Type 0 where
    which : ℕ
    below : which < n
    due : (counter s which).due ≡ true
    first : (d : ℕ) → d < which → (counter s d).due ≡ false

  abbrev NoneTicks : ℕ → Type 0
  NoneTicks n = (c : ℕ) → c < n → (counter s c).due ≡ false

  -- one more counter
  more_due : (n : ℕ) → FirstDue n ⊎ NoneTicks n → (b : Bool) → (counter s n).due ≡ b → FirstDue (suc n) ⊎ NoneTicks (suc n)
  more_due n (inl found) b e =
      inl (record { which = found.which; below = let l = found.below in omega (arith, l); due = found.due; first = found.first })
  more_due n (inr none) true e = inl (record { which = n; below = omega arith; due = e; first = none })
  more_due n (inr none) false e = inr (λ c lt. split (λ x. (counter s x).due ≡ false) n c lt (none c) e)

  first_due : (n : ℕ) → FirstDue n ⊎ NoneTicks n
  first_due zero = inr (λ c lt. absurd (omega (arith, lt)))
  first_due (suc n) = more_due n (first_due n) (counter s n).due refl

  pub some_tick : ((c : ℕ) × IsNextTick config s c) ⊎ NoTicks config s
  some_tick = by (first_due (length config.counters))
    where
      by : FirstDue (length config.counters) ⊎ NoneTicks (length config.counters) → ((c : ℕ) × IsNextTick config s c) ⊎ NoTicks config s
      by (inl found) = inl (found.which, record { declared = found.below; due = found.due; is_first = found.first })
      by (inr none) = inr none

  -- ---- what comes next

  pub some_top : NoTicks config s → ((t : ℕ) × IsTop config s [] t) ⊎ ((t : ℕ) → t < length config.tasks → ¬ (IsDue s t))
  some_top quiet = by (best_of (length config.tasks))
    where
      by : Best (length config.tasks) ⊎ NoneDue (length config.tasks) → ((t : ℕ) × IsTop config s [] t) ⊎ ((t : ℕ) → t < length config.tasks → ¬ (IsDue s t))
      by (inl best) =
          inl (
            best.which,
            record { declared = best.below; due = best.due; is_greatest = λ u lt due out. best.greatest u lt due; is_not_left_out = refl; no_ticks = quiet },
          )
      by (inr none) = inr none

  pub never_sticks : (app : App) → Facts config app → IsValid config app s → TasksAreApart config s → (e : Event) × (admitted_line e ≡ None) × (next : System) × OsekStep config app e s next
  never_sticks app w v a = by s.booted refl some_tick
    where
      owing : (t : ℕ) → s.booted ≡ true → IsTop config s [] t → (task s t).state ≡ mode.Active → (o : Bool) → (task s t).owed ≡ o
          → (e : Event) × (admitted_line e ≡ None) × (next : System) × OsekStep config app e s next
      owing t booted top active true e = (event.Back t, refl, _, (booted, top, active, e, refl))
      owing t booted top active false e = goes config app s t w v a booted top active e

      due : (t : ℕ) → s.booted ≡ true → IsTop config s [] t → IsDue s t → (e : Event) × (admitted_line e ≡ None) × (next : System) × OsekStep config app e s next
      due t booted top (inl ready) = (event.Enter t, refl, _, (booted, top, ready, (has_body config app w t top.declared).0, refl))
      due t booted top (inr active) = owing t booted top active (task s t).owed refl

      quiet_next : s.booted ≡ true → NoTicks config s → ((t : ℕ) × IsTop config s [] t) ⊎ ((t : ℕ) → t < length config.tasks → ¬ (IsDue s t))
          → (e : Event) × (admitted_line e ≡ None) × (next : System) × OsekStep config app e s next
      quiet_next e quiet (inl top) = due top.0 e top.1 top.1.due
      quiet_next e quiet (inr none) = (event.Idle, refl, _, (e, none, quiet, refl))

      by : (b : Bool) → s.booted ≡ b → ((c : ℕ) × IsNextTick config s c) ⊎ NoTicks config s
          → (e : Event) × (admitted_line e ≡ None) × (next : System) × OsekStep config app e s next
      by false e tick = (event.Boot, refl, _, (e, refl))
      by true e (inl tick) = (event.Tick tick.0, refl, _, (e, tick.1, refl))
      by true e (inr quiet) = quiet_next e quiet (some_top quiet)
