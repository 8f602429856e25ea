-- Texts have one filled source at most, and not both it and a reason for none.
use Rattle.std.proofs.Common.{◌≡◌, ◌∙◌, ℕ, List, sym, ap, subst}
use Rattle.sloth_base.specs.declared.config.Config.{Config}
use Rattle.sloth_base.specs.declared.app.App.{App}
use Rattle.sloth_base.specs.declared.refusal.Refusal.{Refusal}
use Rattle.sloth_base.specs.declared.refusal.BuildError.{BuildError}
use Rattle.sloth_base.specs.declared.refusal.BuildError.TheVariants as build
use Rattle.sloth_source.specs.RankedTexts.{HasRanks, EarlyRefusal, EarlyErrorIs}
use Rattle.sloth_source.proofs.RankedTexts.{never_both_ranked}
use Rattle.sloth_source.proofs.Unique.{one_ranked}
use Rattle.holds_infer.specs.Filling.{IsFilling}
use Rattle.holds_infer.specs.InferErrors.{InferErrorIs}
use Rattle.holds_infer.specs.declared.inference.InferError.{InferError}
use Rattle.holds_infer.specs.declared.inference.InferError.TheVariants as infer
use Rattle.holds_infer.proofs.WellFormedLists.{one_filling}
use Rattle.holds_infer.specs.FilledText.{filled_text}
use Rattle.holds_infer.specs.FilledSource.{IsFilledSource, HasNoLists, FillErrorIs, fill_error, no_lists_error}

-- lists that keep every rule, told of the same task code
filling_there : (c d : Config) (a b app : App) → (c ≡ d) × (a ≡ b) → IsFilling c a app → IsFilling d b app
filling_there c d a b app e f = subst (λ (x : Config). IsFilling x b app) e.0 (subst (λ (x : App). IsFilling c x app) e.1 f)

pub one_filled_source : (oil src a b : List ℕ) → IsFilledSource oil src a → IsFilledSource oil src b → a ≡ b
one_filled_source oil src a b h k =
    let same = one_ranked oil src h.config k.config h.before k.before h.has_ranks k.has_ranks in
    let app : h.app ≡ k.app = one_filling k.config k.before h.app k.app (filling_there h.config k.config h.before k.before h.app same h.filling) k.filling in
    h.text ∙ ap (λ (config : Config). filled_text src config h.app) same.0 ∙ ap (filled_text src k.config) app ∙ sym k.text

pub filled_or_none : (oil src out : List ℕ) → IsFilledSource oil src out → HasNoLists oil src → ⊥
filled_or_none oil src out h k =
    k.none h.app (filling_there h.config k.config h.before k.app h.app (one_ranked oil src h.config k.config h.before k.app h.has_ranks k.has_ranks) h.filling)

pub filled_or_refused : (oil src out : List ℕ) (r : Refusal) → IsFilledSource oil src out → EarlyRefusal oil src r → ⊥
filled_or_refused oil src out r h refused = never_both_ranked oil src h.config h.before r h.has_ranks refused

pub none_or_refused : (oil src : List ℕ) (r : Refusal) → HasNoLists oil src → EarlyRefusal oil src r → ⊥
none_or_refused oil src r h refused = never_both_ranked oil src h.config h.app r h.has_ranks refused

-- ---- why there is none

pub refused_first : (oil src : List ℕ) (e : BuildError) → EarlyErrorIs oil src e → FillErrorIs oil src (fill_error e)
refused_first oil src (build.Refused r) h = h
refused_first oil src build.Memory h = tt

pub no_lists : (oil src : List ℕ) (config : Config) (app : App) (e : InferError) → HasRanks oil src config app → InferErrorIs config app e
    → FillErrorIs oil src (no_lists_error e)
no_lists oil src config app infer.NoHolds has none = record { config = config; app = app; has_ranks = has; none = none }
no_lists oil src config app infer.Memory has none = tt
