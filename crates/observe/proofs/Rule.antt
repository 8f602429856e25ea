use Rattle.std.proofs.Common.{◌≡◌, Bool, true, false, List, [], ◌∷◌, ◌++◌, refl, sym, ◌∙◌, ap, append_assoc, append-nil}
use Rattle.std.specs.Bool.{if◌then◌else◌}
use Rattle.std.specs.List.{flat_map, AllByRecursion}
use Rattle.std.proofs.lemmas.Bool.{not-false, not-true}
use Rattle.sloth_base.specs.declared.numbers.Step.{Step}
use Rattle.observe.specs.Pieces.{RunPiece, Outside, Stretch, pieces, cut_off_steps, is_outside, begins, steps_of, AllMasked, IsStretchStart, IsRunPiece, IsOpenPart, IsCut}

masked-push : (steps : List Step) (step : Step) → AllMasked steps → step.enabled_after ≡ false → AllMasked (steps ++ step ∷ [])
masked-push [] step h e = (e, tt)
masked-push (next ∷ rest) step h e = (h.0, masked-push rest step h.1 e)

all-masked : (opened : List Step) → IsOpenPart opened → AllMasked opened
all-masked [] h = tt
all-masked (first ∷ more) h = h.1

-- a step that stands outside has no stretch before it, and begins none
outside-is : (opened : List Step) (step : Step) → is_outside opened step ≡ true → (opened ≡ []) × (begins step ≡ false)
outside-is [] step h = (refl, not-true (begins step) h)
outside-is (first ∷ more) step h = cc

begins-is : (opened : List Step) (step : Step) → is_outside opened step ≡ false → IsOpenPart opened → IsStretchStart (opened ++ step ∷ [])
begins-is [] step h o = not-false (begins step) h
begins-is (first ∷ more) step h o = o.0

open-more : (opened : List Step) (step : Step) → is_outside opened step ≡ false → IsOpenPart opened → step.enabled_after ≡ false → IsOpenPart (opened ++ step ∷ [])
open-more [] step h o e = (not-false (begins step) h, (e, tt))
open-more (first ∷ more) step h o e = (o.0, (o.1.0, masked-push more step o.1.1 e))

-- the cut of what follows the steps of an open stretch
pub record CutFrom (opened run : List Step) (parts : List RunPiece) (rest : List Step) : Type 0 where
  pub joined : flat_map steps_of parts ++ rest ≡ opened ++ run
  pub each : AllByRecursion IsRunPiece parts
  pub left : IsOpenPart rest

cut-outside : (opened : List Step) (step : Step) (run : List Step) (parts : List RunPiece) (rest : List Step) → is_outside opened step ≡ true → CutFrom [] run parts rest → CutFrom opened (step ∷ run) (Outside step ∷ parts) rest
cut-outside opened step run parts rest h c =
    let alone = outside-is opened step h in
    record { joined = rw alone.0 (ap (λ steps. step ∷ steps) c.joined); each = (alone.1, c.each); left = c.left }

cut-whole : (opened : List Step) (step : Step) (run : List Step) (parts : List RunPiece) (rest : List Step) → is_outside opened step ≡ false → IsOpenPart opened → step.enabled_after ≡ true → CutFrom [] run parts rest
    → CutFrom opened (step ∷ run) (Stretch (opened ++ step ∷ []) ∷ parts) rest
cut-whole opened step run parts rest h o e c = record {
  joined = append_assoc (opened ++ step ∷ []) (flat_map steps_of parts) rest ∙ ap (λ steps. (opened ++ step ∷ []) ++ steps) c.joined ∙ append_assoc opened (step ∷ []) run;
  each = (record { first = begins-is opened step h o; front = opened; last = step; is = refl; masked = all-masked opened o; ends = e }, c.each);
  left = c.left;
}

cut-more : (opened : List Step) (step : Step) (run : List Step) (parts : List RunPiece) (rest : List Step) → CutFrom (opened ++ step ∷ []) run parts rest → CutFrom opened (step ∷ run) parts rest
cut-more opened step run parts rest c = record { joined = c.joined ∙ append_assoc opened (step ∷ []) run; each = c.each; left = c.left }

cut-step : (b d : Bool) (opened : List Step) (step : Step) (run : List Step) → is_outside opened step ≡ b → step.enabled_after ≡ d → IsOpenPart opened
    → CutFrom [] run (pieces [] run) (cut_off_steps [] run)
    → (IsOpenPart (opened ++ step ∷ []) → CutFrom (opened ++ step ∷ []) run (pieces (opened ++ step ∷ []) run) (cut_off_steps (opened ++ step ∷ []) run))
    → CutFrom opened (step ∷ run)
    (if b then Outside step ∷ pieces [] run else if d then Stretch (opened ++ step ∷ []) ∷ pieces [] run else pieces (opened ++ step ∷ []) run)
    (if b then cut_off_steps [] run else if d then cut_off_steps [] run else cut_off_steps (opened ++ step ∷ []) run)
cut-step true d opened step run h e o none more = cut-outside opened step run _ _ h none
cut-step false true opened step run h e o none more = cut-whole opened step run _ _ h o e none
cut-step false false opened step run h e o none more = cut-more opened step run _ _ (more (open-more opened step h o e))

cut-from : (opened run : List Step) → IsOpenPart opened → CutFrom opened run (pieces opened run) (cut_off_steps opened run)
cut-from opened [] o = record { joined = sym (append-nil opened); each = tt; left = o }
cut-from opened (step ∷ run) o = cut-step (is_outside opened step) step.enabled_after opened step run refl refl o (cut-from [] run tt) (λ p. cut-from (opened ++ step ∷ []) run p)

-- a run is cut by the rule of stretches
pub is-cut : (run : List Step) → IsCut run (pieces [] run) (cut_off_steps [] run)
is-cut run = let c = cut-from [] run tt in record { joined = c.joined; each = c.each; left = c.left }
