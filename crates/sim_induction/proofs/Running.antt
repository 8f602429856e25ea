-- The test for the task that runs.
use Rattle.std.proofs.Common.{◌≡◌, ◌∙◌, ℕ, ◌<◌, ◌≤◌, ◌⊎◌, ◌||◌, Bool, true, false, not, leb, length, refl, sym, arith, inl, inr}
use Rattle.std.specs.Bool.{Decides}
use Rattle.std.proofs.lemmas.Bool.{true≢false}
use Rattle.std.proofs.lemmas.Bool.Decides.{Decides-and, Decides-or, Decides-not, Decides-like, Decides-below_and}
use Rattle.sloth_base.specs.declared.config.Config.{Config}
use Rattle.osek_scheduler.specs.State.{System, task}
use Rattle.osek_scheduler.specs.Next.{all_below}
use Rattle.osek_scheduler.specs.Priority.{is_active, rank}
use Rattle.osek_scheduler.specs.Apart.{IsActive}
use Rattle.osek_scheduler.proofs.Apart.{rank_active}
use Rattle.osek_scheduler.proofs.Tests.{Decides-is_active, Decides-leb}
use Rattle.sim_induction.specs.Mirror.{IsRunningTask}
use Rattle.sim_induction.specs.Spent.{is_running}

module _ (config : Config) (s : System) (t : ℕ) where
  -- an Active task is of no greater rank
  abbrev pub Yields : ℕ → Type 0
  Yields u = IsActive s u → rank config s u ≤ rank config s t

  from_cases : (u : ℕ) → (¬ (IsActive s u)) ⊎ (rank config s u ≤ rank config s t) → Yields u
  from_cases u (inl idle) active = absurd (idle active)
  from_cases u (inr le) active = le

  by_active : (u : ℕ) → Yields u → (b : Bool) → is_active (task s u).state ≡ b → (¬ (IsActive s u)) ⊎ (rank config s u ≤ rank config s t)
  by_active u h true e = inr (h ((Decides-is_active (task s u).state).0 e))
  by_active u h false e = inl (λ active. true≢false (sym ((Decides-is_active (task s u).state).1 active) ∙ e))

  Decides-yields : (u : ℕ) → Decides (not (is_active (task s u).state) || leb (rank config s u) (rank config s t)) (Yields u)
  Decides-yields u =
      Decides-like _ (from_cases u) (λ h. by_active u h (is_active (task s u).state) refl)
      (Decides-or _ _ (Decides-not _ (Decides-is_active (task s u).state)) (Decides-leb (rank config s u) (rank config s t)))

  -- it runs where it is Active, and no other Active task is of greater rank
  pub Decides-is_running : Decides (is_running config s t) (IsActive s t × ((u : ℕ) → u < length config.tasks → Yields u))
  Decides-is_running =
      Decides-and _ _ (Decides-is_active (task s t).state)
      (Decides-below_and (λ u. not (is_active (task s u).state) || leb (rank config s u) (rank config s t)) Yields
      (λ n. all_below n (λ u. not (is_active (task s u).state) || leb (rank config s u) (rank config s t))) Decides-yields refl (λ _. refl) (length config.tasks))

  -- and is of the greatest current priority of the Active ones then
  pub runs_greatest : t < length config.tasks → is_running config s t ≡ true → IsRunningTask config s t
  runs_greatest declared is =
      let runs = Decides-is_running.0 is in
      record {
        declared = declared;
        active = runs.0;
        is_greatest = λ u below active.
            let le = runs.1 u below active in
            let one = rank_active config s u active in
            let two = rank_active config s t runs.0 in
            omega (arith, le, one, two);
      }
