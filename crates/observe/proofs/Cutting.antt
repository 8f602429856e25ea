use Rattle.std.proofs.Common.{◌≡◌, true, false, List, [], ◌∷◌, ◌++◌, refl, ap}
use Rattle.std.specs.Bool.{if◌then◌else◌}
use Rattle.sloth_base.specs.declared.numbers.Step.{Step}
use Rattle.observe.specs.Pieces.{Outside, Stretch, pieces, cut_off_steps, is_outside}

-- the pieces of two runs, one after the other
pub pieces-append : (opened run later : List Step) → pieces opened (run ++ later) ≡ pieces opened run ++ pieces (cut_off_steps opened run) later
pieces-append opened [] later = refl
pieces-append opened (step ∷ run) later =
    elim (is_outside opened step) as (λ b.
    (if b then Outside step ∷ pieces [] (run ++ later) else if step.enabled_after then Stretch (opened ++ step ∷ []) ∷ pieces [] (run ++ later) else pieces (opened ++ step ∷ []) (run ++ later))
    ≡ (if b then Outside step ∷ pieces [] run else if step.enabled_after then Stretch (opened ++ step ∷ []) ∷ pieces [] run else pieces (opened ++ step ∷ []) run)
    ++ pieces (if b then cut_off_steps [] run else if step.enabled_after then cut_off_steps [] run else cut_off_steps (opened ++ step ∷ []) run) later) [
      | true ↦ ap (λ parts. Outside step ∷ parts) (pieces-append [] run later)
      | false ↦ elim step.enabled_after as (λ b.
          (if b then Stretch (opened ++ step ∷ []) ∷ pieces [] (run ++ later) else pieces (opened ++ step ∷ []) (run ++ later))
          ≡ (if b then Stretch (opened ++ step ∷ []) ∷ pieces [] run else pieces (opened ++ step ∷ []) run)
          ++ pieces (if b then cut_off_steps [] run else cut_off_steps (opened ++ step ∷ []) run) later) [
            | true ↦ ap (λ parts. Stretch (opened ++ step ∷ []) ∷ parts) (pieces-append [] run later)
            | false ↦ pieces-append (opened ++ step ∷ []) run later
          ]
    ]

pub cut_off-append : (opened run later : List Step) → cut_off_steps opened (run ++ later) ≡ cut_off_steps (cut_off_steps opened run) later
cut_off-append opened [] later = refl
cut_off-append opened (step ∷ run) later =
    elim (is_outside opened step) as (λ b.
    (if b then cut_off_steps [] (run ++ later) else if step.enabled_after then cut_off_steps [] (run ++ later) else cut_off_steps (opened ++ step ∷ []) (run ++ later))
    ≡ cut_off_steps (if b then cut_off_steps [] run else if step.enabled_after then cut_off_steps [] run else cut_off_steps (opened ++ step ∷ []) run) later) [
      | true ↦ cut_off-append [] run later
      | false ↦ elim step.enabled_after as (λ b.
          (if b then cut_off_steps [] (run ++ later) else cut_off_steps (opened ++ step ∷ []) (run ++ later))
          ≡ cut_off_steps (if b then cut_off_steps [] run else cut_off_steps (opened ++ step ∷ []) run) later) [
            | true ↦ cut_off-append [] run later
            | false ↦ cut_off-append (opened ++ step ∷ []) run later
          ]
    ]
