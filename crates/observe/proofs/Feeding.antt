-- The relation of an observer, its steps and its events goes on.
use Rattle.std.proofs.Common.{◌≡◌, ◌↔◌, ◌+◌, true, suc, arith, List, [], ◌∷◌, ◌++◌, Option, Some, None, IsNone, IfNone, IfSome, length, refl, sym, ◌∙◌, ap, append-nil, length-append}
use Rattle.sloth_base.specs.declared.service.Arrival.{Arrival}
use Rattle.sloth_base.specs.declared.service.Stamped.{Stamped}
use Rattle.sloth_base.specs.declared.numbers.Step.{Step}
use Rattle.observe.specs.Pieces.{begins, cut_off_steps}
use Rattle.observe.specs.Observe.{View, observe}
use Rattle.observe.specs.Touches.{HasPlace}
use Rattle.observe.specs.Progress.{Progress, left_over_events, advanced_progress, one_or_none, IsProgress, arrivals_from}
use Rattle.observe.proofs.Cutting.{cut_off-append}
use Rattle.observe.proofs.Growing.{observe-more}
use Rattle.observe.proofs.Turning.{Ready, Turned, turned}

pub fed-keeps : (view : View) (arrivals : List Arrival) (p : Progress) (step : Step) (run : List Step) (events : List Stamped)
    → IsProgress view arrivals p run events → left_over_events view p ≡ [] → step.count ≡ p.expected → IfSome p.first (λ first. HasPlace step) → (begins step ≡ true → HasPlace step)
    → IsProgress view arrivals (advanced_progress view p step) (run ++ step ∷ []) events
fed-keeps view arrivals p step run events f drained e joins opens =
    let r : Ready arrivals p step = record { ordered = f.ordered; joins = joins; opens = opens; coming = rw e f.coming; count = e } in
    let t : Turned view arrivals (advanced_progress view p step) (cut_off_steps [] run) step = turned view arrivals p step p.first (cut_off_steps [] run) r refl f.stretch in
    record {
      ordered = f.ordered;
      told =
          let all : events ≡ observe view arrivals run = sym (append-nil events) ∙ ap (λ more. events ++ more) (sym drained) ∙ f.told in
          rw all (sym (observe-more view arrivals run step (left_over_events view (advanced_progress view p step)) t.brings));
      expected = t.expected ∙ ap (λ n. n + 1) (e ∙ f.expected) ∙ sym (length-append run (step ∷ []));
      coming = t.coming ∙ ap (λ n. arrivals_from n arrivals) (sym t.expected);
      stretch = rw (cut_off-append [] run (step ∷ [])) t.stretch;
    }

-- what was handed out is all exactly where nothing is left
pub told-exact : (next : Option Stamped) (events before after whole : List Stamped) → events ++ before ≡ whole → before ≡ one_or_none next ++ after → IfNone next (after ≡ [])
    → IsNone next ↔ (events ≡ whole)
told-exact None events before after whole told pops none = (λ is. sym (append-nil events) ∙ ap (λ more. events ++ more) (sym (pops ∙ none)) ∙ told, λ same. refl)
told-exact (Some event) events before after whole told pops none = (
  λ is. absurd cc,
  λ same. (let long : length (events ++ before) ≡ length events = ap length (told ∙ sym same) in
      let more : length before ≡ suc (length after) = ap length pops in
      let both : length (events ++ before) ≡ length events + length before = length-append events before in
      absurd (omega arith)),
)

-- where nothing is handed out, nothing was left
pub told-empty : (next : Option Stamped) (before after : List Stamped) → before ≡ one_or_none next ++ after → IfNone next (after ≡ []) → IfNone next (before ≡ [])
told-empty None before after pops none = pops ∙ none
told-empty (Some event) before after pops none = tt

-- where nothing is kept to be handed out, no event is left
pub nothing_left : (view : View) (p : Progress) → p.found ≡ [] → p.before ≡ [] → p.event ≡ None → p.after ≡ [] → left_over_events view p ≡ []
nothing_left view p found before event after = rw (found, before, event, after) refl
