-- How often sections of lower tasks make tasks Ready, put together.
use Rattle.std.proofs.Common.{◌≡◌, ℕ, ◌<◌, Bool, true, false, ◌&&◌, not, length, Option, Some, refl, ap, sym, ◌∙◌, subst}
use Rattle.std.specs.Prelude.{Decides}
use Rattle.std.proofs.lemmas.Bool.{and_parts, true≢false, ltb-true, lt-ltb}
use Rattle.sloth_base.specs.declared.config.Config.{Config}
use Rattle.sloth_base.specs.declared.app.App.{App}
use Rattle.sloth_base.specs.Named.{body_of}
use Rattle.osek_scheduler.specs.Apart.{static_priority}
use Rattle.osek_scheduler.proofs.Facts.{Facts}
use Rattle.osek_blocking.specs.Sections.{IsSection, IsLower}
use Rattle.walk_sums.specs.declared.sections.Sum.{Sum}
use Rattle.walk_sums.specs.declared.sections.Sum.TheVariants as told
use Rattle.walk_sums.specs.declared.counted.Counted.{Counted}
use Rattle.walk_sums.specs.declared.counted.Counted.TheVariants as counts
use Rattle.walk_sums.specs.Counted.{one_if, counted_weights}
use Rattle.walk_sums.specs.Told.{IsToldSum}
use Rattle.run_windows.specs.declared.costs.SectionMakings.{SectionMakings}
use Rattle.run_windows.specs.Costs.{no_section_makings}
use Rattle.run_costs.specs.CostsOf.{IsSectionMade}
use Rattle.run_costs.specs.Sections.{DoesRaised}
use Rattle.run_costs.specs.SectionSums.{is_lower, is_once, does}
use Rattle.run_costs.specs.Tops.{IsTop}
use Rattle.run_costs.proofs.Nothing.{section_none}
use Rattle.run_costs.proofs.Raised.{raised_decided}
use Rattle.run_costs.proofs.SameCosts.{same_section_makings}
use Rattle.run_costs.specs.RunCosts.{IsRunSectionMaking}
use Rattle.run_costs.specs.RunRecord.{is_asked, is_limited, times, AreTimes}

module _ (config : Config) (app : App) (h j : ℕ) where
  lower_is : (k : ℕ) → k < length config.tasks → is_lower config h k ≡ true → IsLower config h k
  lower_is k declared e = (declared, ltb-true (static_priority config k) (static_priority config h) e)

  not_lower : j < length config.tasks → (b : Bool) → is_lower config h j ≡ b → ¬ (IsLower config h j) → not b ≡ true
  not_lower named true e higher = absurd (higher (lower_is j named e))
  not_lower named false e higher = refl

  -- tasks that are asked are lower
  pub asked_lower : (k top : ℕ) → k < length config.tasks → is_asked config h j k top ≡ true → IsLower config h k
  asked_lower k top declared e = lower_is k declared (and_parts (is_lower config h k) (does config h k top) (and_parts (not (is_lower config h j)) _ e).1).0

  -- for one that is not
  asked_higher : (k top : ℕ) → is_asked config h j k top ≡ true → ¬ (IsLower config h j)
  asked_higher k top e low =
      let lower = lt-ltb (static_priority config j) (static_priority config h) low.1 in
      true≢false (sym (and_parts (not (is_lower config h j)) _ e).0 ∙ ap not lower)

  pub times_are : Facts config app → h < length config.tasks → j < length config.tasks → (activates : Bool) → (k : ℕ) → k < length config.tasks → (c : Counted) (top : ℕ) → IsTop config app c (body_of app.funcs k) top
      → (asked : Bool) (s : Sum) → asked ≡ is_asked config h j k top → (asked ≡ true → IsToldSum (IsSection config app h k) (counted_weights c app) s) → (m : Option ℕ) → m ≡ times asked (is_limited config activates h j k) s
      → AreTimes config app h j activates c k m
  times_are w there named activates k declared c top is asked s ask summed m e = ((λ low higher. counted low higher asked (does config h k top) Once refl refl refl), λ apart. none apart asked refl)
    where
      Once : Bool
      Once = is_limited config activates h j k

      decided : IsLower config h k → Decides (does config h k top) (DoesRaised config app h k c)
      decided low = raised_decided config app w h there k low c top is

      -- of a lower task for one that is not, just those are asked that do it
      same : IsLower config h k → ¬ (IsLower config h j) → is_asked config h j k top ≡ does config h k top
      same low higher =
          ap (λ b. b && (is_lower config h k && does config h k top)) (not_lower named (is_lower config h j) refl higher)
          ∙ ap (λ b. b && does config h k top) (lt-ltb (static_priority config k) (static_priority config h) low.1)

      counted : IsLower config h k → ¬ (IsLower config h j) → (b d o : Bool) → asked ≡ b → does config h k top ≡ d → Once ≡ o → IsSectionMade config app h k o c m
      counted low higher true d true a is_d l =
          (does config h k top, decided low, e ∙ ap (λ b. times b Once s) a ∙ ap (λ o. times true o s) l ∙ sym (ap (λ x. Some (one_if x)) (sym (ask ∙ same low higher) ∙ a)))
      counted low higher true d false a is_d l = (s, summed a, e ∙ ap (λ b. times b Once s) a ∙ ap (λ o. times true o s) l)
      counted low higher false true o a is_d l = absurd (true≢false (sym (ask ∙ (same low higher ∙ is_d)) ∙ a))
      counted low higher false false true a is_d l = (does config h k top, decided low, e ∙ ap (λ b. times b Once s) a ∙ sym (ap (λ x. Some (one_if x)) is_d))
      counted low higher false false false a is_d l =
          (told.Counts 0, section_none c app config h k (λ raised. true≢false (sym ((decided low).1 raised) ∙ is_d)), e ∙ ap (λ b. times b Once s) a)

      -- of others nothing is asked
      none : ¬ (IsLower config h k × ¬ (IsLower config h j)) → (b : Bool) → asked ≡ b → m ≡ Some 0
      none apart true a =
          let asks = sym ask ∙ a in
          absurd (apart (asked_lower k top declared asks, asked_higher k top asks))
      none apart false a = e ∙ ap (λ b. times b Once s) a

  -- both numbers of one task
  pub joined : (k : ℕ) (m : SectionMakings) (a s : Option ℕ) → AreTimes config app h j true (counts.Activations j) k a → AreTimes config app h j false (counts.Settings j) k s
      → m.activations ≡ a → m.settings ≡ s → IsRunSectionMaking config app h j k m
  joined k m a s are_a are_s ea es = (
    (λ low higher. record {
      activations = subst (IsSectionMade config app h k (is_once config h j k) (counts.Activations j)) (sym ea) (are_a.0 low higher);
      settings = subst (IsSectionMade config app h k false (counts.Settings j)) (sym es) (are_s.0 low higher);
    }),
    λ apart. same_section_makings m no_section_makings (ea ∙ are_a.1 apart) (es ∙ are_s.1 apart),
  )
