-- How often rounds make tasks Ready, put together.
use Rattle.std.proofs.Common.{◌≡◌, ℕ, ◌<◌, ◌≤◌, ◌⊎◌, inl, inr, Bool, true, false, ◌||◌, leb, cond, List, length, get_or, refl, ap, sym, ◌∙◌, subst, arith}
use Rattle.std.specs.Prelude.{◌==◌, Decides}
use Rattle.std.proofs.lemmas.Bool.Decides.{leb_tells}
use Rattle.sloth_base.specs.declared.config.Config.{Config}
use Rattle.sloth_base.specs.declared.app.App.{App}
use Rattle.osek_scheduler.specs.Apart.{static_priority}
use Rattle.walk_sums.specs.declared.counted.Counted.TheVariants as counts
use Rattle.walk_sums.specs.declared.sections.RoundSums.{RoundSums}
use Rattle.walk_sums.specs.Rounds.{IsClean, IsSteady}
use Rattle.run_windows.specs.declared.costs.Makings.{Makings}
use Rattle.run_costs.specs.CostsOf.{AreMade}
use Rattle.run_costs.specs.Makings.{MakingSums, AreMakingSums}
use Rattle.run_costs.specs.RunRecord.{run_making}
use Rattle.run_costs.specs.RunCosts.{AreRunMakings}
use Rattle.run_costs.specs.Rounds.{made}
use Rattle.run_costs.specs.Tables.{no_sums}

-- the lesser priority, or steadiness
pub once_decided : (a b : ℕ) (P : Type 0) (s : Bool) → Decides s P → Decides (leb a b || s) ((a ≤ b) ⊎ P)
once_decided a b P s d = by (leb_tells a b)
  where
    by : ((leb a b ≡ true) × (a ≤ b)) ⊎ ((leb a b ≡ false) × (b < a)) → Decides (leb a b || s) ((a ≤ b) ⊎ P)
    by (inl (e, le)) = (λ t. inl le, λ x. ap (λ v. v || s) e)
    by (inr (e, lt)) = (λ t. inr (d.0 (sym (ap (λ v. v || s) e) ∙ t)), λ x. ap (λ v. v || s) e ∙ other x)
      where
        other : (a ≤ b) ⊎ P → s ≡ true
        other (inl le) = absurd (let wrong : ⊥ = omega (arith, le, lt) in wrong)
        other (inr p) = d.1 p

module _ (config : Config) (app : App) (clean steady : List Bool) (sums : MakingSums) (k j : ℕ) (maker : k < length config.tasks) where
  abbrev Acts : Bool → RoundSums
  Acts b = cond b (get_or sums.chains k no_sums) (get_or sums.activations k no_sums)

  abbrev Once : Bool
  Once = leb (static_priority config j) (static_priority config k) || get_or steady k false

  activations_are : AreMakingSums config app clean j sums → (once b : Bool)
      → AreMade config app (get_or clean k false) k (cond b (counts.Chains j) (counts.Activations j)) once (made once (Acts b).first) (made once (Acts b).later)
  activations_are are once true = (get_or sums.chains k no_sums, are.chains k maker, refl, refl)
  activations_are are once false = (get_or sums.activations k no_sums, are.activations k maker, refl, refl)

  makings_are : AreMakingSums config app clean j sums → ((t : ℕ) → t < length config.tasks → Decides (get_or clean t false) (IsClean app t))
      → ((t : ℕ) → t < length config.tasks → Decides (get_or steady t false) (IsSteady config app t))
      → AreRunMakings config app j k (run_making Once (Acts (k == j)) (get_or sums.settings k no_sums))
  makings_are are cleans steadies = record {
    clean = get_or clean k false;
    is_clean = cleans k maker;
    once = Once;
    is_once = once_decided (static_priority config j) (static_priority config k) (IsSteady config app k) (get_or steady k false) (steadies k maker);
    activations = activations_are are Once (k == j);
    settings = (get_or sums.settings k no_sums, are.settings k maker, refl, refl);
  }

  pub making_is : AreMakingSums config app clean j sums → ((t : ℕ) → t < length config.tasks → Decides (get_or clean t false) (IsClean app t))
      → ((t : ℕ) → t < length config.tasks → Decides (get_or steady t false) (IsSteady config app t)) → (m : Makings) (once : Bool) (a s : RoundSums)
      → once ≡ Once → a ≡ Acts (k == j) → s ≡ get_or sums.settings k no_sums → m ≡ run_making once a s → AreRunMakings config app j k m
  making_is are cleans steadies m once a s eo ea es e =
      subst (AreRunMakings config app j k)
      (sym (e ∙ ap (λ o. run_making o a s) eo ∙ ap (λ x. run_making Once x s) ea ∙ ap (run_making Once (Acts (k == j))) es))
      (makings_are are cleans steadies)
