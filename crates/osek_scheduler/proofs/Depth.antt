-- The functions of a stack differ, so no stack is deeper than there are functions.
use Rattle.std.proofs.Common.{◌≡◌, ℕ, ◌==◌, ◌⊎◌, List, [], ◌∷◌, true, map, refl, subst, inl, inr}
use Rattle.std.proofs.lemmas.Bool.{false≢true, false_from_ne_true, or_cases, eqb-true}
use Rattle.sloth_base.specs.declared.config.Config.{Config}
use Rattle.sloth_base.specs.declared.app.App.{App}
use Rattle.osek_scheduler.specs.State.{Frame}
use Rattle.code_rules.specs.Code.{IsCallChain, HasCall, Reaches, is_in}
use Rattle.osek_scheduler.proofs.Facts.{Facts}
use Rattle.osek_scheduler.specs.Valid.{IsCalledFrom, AreCalls, AreDistinct}
use Rattle.osek_scheduler.proofs.Stacks.{calls_reach}

module _ (config : Config) (app : App) (w : Facts config app) (t : ℕ) where
  chained : (f g h : ℕ) → HasCall app f g → Reaches app g h → (between : List ℕ) × IsCallChain app f between h
  chained f g h calls (inl e) = ([], subst (HasCall app f) e calls)
  chained f g h calls (inr chain) = (g ∷ chain.0, (calls, chain.1))

  -- no outer function is one that the innermost reaches
  not_again : (f h : ℕ) (outer : List Frame) → IsCalledFrom app t f outer → Reaches app f h → is_in h (map (λ x. x.func) outer) ≡ true → ⊥
  not_again f h [] called reach e = false≢true e
  not_again f h (caller ∷ outer) called reach e =
      by (not_again caller.func h outer called.2 (calls_reach app caller.func f h (caller.item, called.1) reach)) (or_cases _ _ e)
    where
      by : (is_in h (map (λ x. x.func) outer) ≡ true → ⊥) → ((caller.func == h) ≡ true) ⊎ (is_in h (map (λ x. x.func) outer) ≡ true) → ⊥
      by rest (inl same) =
          let c = chained caller.func f h (caller.item, called.1) reach in
          w.acyclic h c.0 (subst (λ x. IsCallChain app x c.0 h) (eqb-true caller.func h same) c.1)
      by rest (inr later) = rest later

  pub frames_differ : (frames : List Frame) → AreCalls app t frames → AreDistinct (map (λ x. x.func) frames)
  frames_differ [] s = tt
  frames_differ (frame ∷ outer) s = outer_differ frame.func outer s.1
    where
      outer_differ : (f : ℕ) (outer : List Frame) → IsCalledFrom app t f outer → AreDistinct (f ∷ map (λ x. x.func) outer)
      outer_differ f [] called = (refl, tt)
      outer_differ f (caller ∷ outer) called =
          (false_from_ne_true _ (not_again f f (caller ∷ outer) called (inl refl)), outer_differ caller.func outer called.2)
