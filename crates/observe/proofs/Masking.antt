-- Where a run finds MIE 1.
use Rattle.std.proofs.Common.{◌≡◌, ◌⊎◌, ℕ, Bool, true, false, List, [], ◌∷◌, ◌++◌, Option, Some, None, refl, ◌∙◌, inl, inr, eqb}
use Rattle.std.specs.Bool.{if◌then◌else◌}
use Rattle.std.specs.Prelude.{not, ◌||◌, ◌&&◌, is_some}
use Rattle.sloth_base.specs.declared.numbers.Step.{Step}
use Rattle.observe.specs.Pieces.{RunPiece, Outside, Stretch, pieces, cut_off_steps, is_outside, IsContinuous, StartsAtZero, FindsMasked, RestFindsMasked, FindsEnabled}
use Rattle.std.specs.List.{AllByRecursion}

-- before a run goes on: outside the stretches MIE is 1, but before the step of count 0; inside one it is 0
abbrev pub Finds : List Step → Bool → List Step → Type 0
Finds [] enabled run = (enabled ≡ true) ⊎ StartsAtZero run
Finds (first ∷ more) enabled run = (enabled ≡ false) × AllByRecursion FindsMasked more

masked-push : (steps : List Step) (step : Step) → AllByRecursion FindsMasked steps → step.enabled_before ≡ false → AllByRecursion FindsMasked (steps ++ step ∷ [])
masked-push [] step h e = (e, tt)
masked-push (next ∷ more) step h e = (h.0, masked-push more step h.1 e)

-- what the tests of a beginning tell
tests : (zero : Bool) (entered : Option ℕ) (before after : Bool) → not (zero || is_some entered || (before && not after)) ≡ true → (zero ≡ false) × (entered ≡ None) × (before ≡ true → after ≡ true)
tests true entered before after h = cc
tests false (Some line) before after h = cc
tests false None true true h = (refl, refl, λ on. refl)
tests false None true false h = cc
tests false None false after h = (refl, refl, λ on. cc)

zero-is : (n : ℕ) → n ≡ 0 → eqb n 0 ≡ true
zero-is n h = rw h refl

-- a step outside the stretches
outside-is : (opened run : List Step) (enabled : Bool) (step : Step) → is_outside opened step ≡ true → Finds opened enabled (step ∷ run) → step.enabled_before ≡ enabled
    → (opened ≡ []) × FindsEnabled (Outside step)
outside-is [] run enabled step h (inl on) e = let t = tests (eqb step.count 0) step.entered step.enabled_before step.enabled_after h in (refl, (t.1, e ∙ on, t.2 (e ∙ on)))
outside-is [] run enabled step h (inr zero) e = let t = tests (eqb step.count 0) step.entered step.enabled_before step.enabled_after h in absurd (let z = zero-is step.count zero in cc)
outside-is (first ∷ more) run enabled step h f e = cc

-- the steps of the stretch with one more
more-is : (opened run : List Step) (enabled : Bool) (step : Step) → Finds opened enabled (step ∷ run) → step.enabled_before ≡ enabled → RestFindsMasked (opened ++ step ∷ [])
more-is [] run enabled step f e = tt
more-is (first ∷ more) run enabled step f e = masked-push more step f.1 (e ∙ f.0)

finds-more : (opened run : List Step) (step : Step) → RestFindsMasked (opened ++ step ∷ []) → step.enabled_after ≡ false → Finds (opened ++ step ∷ []) step.enabled_after run
finds-more [] run step h off = (off, h)
finds-more (first ∷ more) run step h off = (off, h)

pub record Enabled (parts : List RunPiece) (rest : List Step) : Type 0 where
  pub each : AllByRecursion FindsEnabled parts
  pub left : RestFindsMasked rest

enabled-step : (b d : Bool) (opened run : List Step) (enabled : Bool) (step : Step) → is_outside opened step ≡ b → step.enabled_after ≡ d → Finds opened enabled (step ∷ run) → step.enabled_before ≡ enabled
    → (step.enabled_after ≡ true → Enabled (pieces [] run) (cut_off_steps [] run))
    → (Finds (opened ++ step ∷ []) step.enabled_after run → Enabled (pieces (opened ++ step ∷ []) run) (cut_off_steps (opened ++ step ∷ []) run))
    → Enabled
    (if b then Outside step ∷ pieces [] run else if d then Stretch (opened ++ step ∷ []) ∷ pieces [] run else pieces (opened ++ step ∷ []) run)
    (if b then cut_off_steps [] run else if d then cut_off_steps [] run else cut_off_steps (opened ++ step ∷ []) run)
enabled-step true d opened run enabled step out a f e none more =
    let o = outside-is opened run enabled step out f e in
    let n = none o.1.2 in
    record { each = (o.1, n.each); left = n.left }
enabled-step false true opened run enabled step out a f e none more = let n = none a in record { each = (more-is opened run enabled step f e, n.each); left = n.left }
enabled-step false false opened run enabled step out a f e none more = more (finds-more opened run step (more-is opened run enabled step f e) a)

enabled-from : (opened run : List Step) (enabled : Bool) → Finds opened enabled run → IsContinuous enabled run → Enabled (pieces opened run) (cut_off_steps opened run)
enabled-from [] [] enabled f g = record { each = tt; left = tt }
enabled-from (first ∷ more) [] enabled f g = record { each = tt; left = f.1 }
enabled-from opened (step ∷ run) enabled f g =
    enabled-step (is_outside opened step) step.enabled_after opened run enabled step refl refl f g.0 (λ on. enabled-from [] run step.enabled_after (inl on) g.1) (λ h. enabled-from (opened ++ step ∷ []) run step.enabled_after h g.1)

-- a run from count 0 on, in which each step finds MIE as the one before it left it
pub enabled-outside : (run : List Step) (enabled : Bool) → StartsAtZero run → IsContinuous enabled run → Enabled (pieces [] run) (cut_off_steps [] run)
enabled-outside run enabled z g = enabled-from [] run enabled (inr z) g
