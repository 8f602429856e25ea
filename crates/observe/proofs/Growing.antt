-- The events of a run with one step more, and of a longer run.
use Rattle.std.proofs.Common.{◌≡◌, Bool, true, false, List, [], ◌∷◌, ◌++◌, refl, sym, ◌∙◌, ap, append_assoc, append-nil}
use Rattle.std.specs.Bool.{if◌then◌else◌}
use Rattle.std.specs.List.{flat_map}
use Rattle.std.proofs.lemmas.Grind.{flat_map-append}
use Rattle.sloth_base.specs.declared.service.Arrival.{Arrival}
use Rattle.sloth_base.specs.declared.service.Stamped.{Stamped}
use Rattle.sloth_base.specs.declared.numbers.Step.{Step}
use Rattle.observe.specs.Pieces.{RunPiece, Stretch, pieces, cut_off_steps}
use Rattle.observe.specs.Observe.{View, observe, piece_events, found_admits, stretch_events}
use Rattle.observe.proofs.Cutting.{pieces-append, cut_off-append}

-- the pieces that a step ends, and the steps that it leaves open
abbrev pub ending : List Step → Step → List RunPiece
ending opened step = pieces opened (step ∷ [])

abbrev pub kept : List Step → Step → List Step
kept opened step = cut_off_steps opened (step ∷ [])

-- these events are added to those of the run, of which these steps are the open stretch, by the next step
abbrev pub Brings : View → List Arrival → List Step → Step → List Stamped → Type 0
Brings view arrivals opened step events =
    flat_map (piece_events view arrivals) (ending opened step) ++ found_admits view arrivals (kept opened step) ≡ found_admits view arrivals opened ++ events

-- the events of the run with one step more, from those of the run
pub observe-more : (view : View) (arrivals : List Arrival) (run : List Step) (step : Step) (events : List Stamped) → Brings view arrivals (cut_off_steps [] run) step events
    → observe view arrivals (run ++ step ∷ []) ≡ observe view arrivals run ++ events
unfolding observe
observe-more view arrivals run step events h =
    rw (pieces-append [] run (step ∷ []), cut_off-append [] run (step ∷ []), flat_map-append, append_assoc, h) (sym (append_assoc (flat_map (piece_events view arrivals) (pieces [] run)) (found_admits view arrivals (cut_off_steps [] run)) events))

-- a step brings events, and takes none back
grow-one : (view : View) (arrivals : List Arrival) (opened : List Step) (step : Step) → (events : List Stamped) × Brings view arrivals opened step events
grow-one view arrivals [] step = (flat_map (piece_events view arrivals) (ending [] step) ++ found_admits view arrivals (kept [] step), refl)
grow-one view arrivals (first ∷ more) step =
    let P : Bool → Type 0 = λ b. (events : List Stamped) ×
    (flat_map (piece_events view arrivals) (if b then Stretch (first ∷ (more ++ step ∷ [])) ∷ [] else []) ++ found_admits view arrivals (if b then [] else first ∷ (more ++ step ∷ []))
    ≡ found_admits view arrivals (first ∷ more) ++ events) in
    elim step.enabled_after as P [ true ↦ (stretch_events view arrivals (first ∷ (more ++ step ∷ [])), simp append-nil) | false ↦ ([], simp append-nil) ]

-- the events of a longer run begin with those of its front
pub observe-front : (view : View) (arrivals : List Arrival) (run later : List Step) → (events : List Stamped) × (observe view arrivals (run ++ later) ≡ observe view arrivals run ++ events)
observe-front view arrivals run [] = ([], ap (observe view arrivals) (append-nil run) ∙ sym (append-nil (observe view arrivals run)))
observe-front view arrivals run (step ∷ later) =
    let one = grow-one view arrivals (cut_off_steps [] run) step in
    let more = observe-front view arrivals (run ++ step ∷ []) later in (
      one.0 ++ more.0,
      ap (observe view arrivals) (sym (append_assoc run (step ∷ []) later)) ∙ more.1 ∙ ap (λ events. events ++ more.0) (observe-more view arrivals run step one.0 one.1)
          ∙ append_assoc (observe view arrivals run) one.0 more.0,
    )

-- a run of no step shows no event
pub observe-nothing : (view : View) (arrivals : List Arrival) → observe view arrivals [] ≡ []
unfolding observe
observe-nothing view arrivals = refl
