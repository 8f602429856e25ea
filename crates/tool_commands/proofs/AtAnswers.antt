-- Files have one answer of `at`.
use Rattle.std.proofs.Common.{◌≡◌, ◌∙◌, ℕ, List, refl, sym, ap, subst, ◌⊎◌, inl, inr}
use Rattle.sloth_base.specs.declared.service.Arrival.{Arrival}
use Rattle.sloth_base.specs.declared.image.Image.{Image}
use Rattle.sloth_base.specs.declared.refusal.Part.TheVariants.{Arr}
use Rattle.sloth_base.specs.declared.refusal.Refusal.{Refusal}
use Rattle.sloth_base.specs.Order.{IsLeast, NoFault}
use Rattle.image_file.specs.ImageText.{ImageText}
use Rattle.image_file.specs.Faults.{IsFirstImageFault}
use Rattle.image_file.specs.declared.read.ImageFault.{ImageFault}
use Rattle.image_file.proofs.Faulted.{fault_is_one, none_is_both}
use Rattle.image_file.proofs.Images.{image-unique}
use Rattle.trace_text.specs.ArrivalsText.{ArrivalsFault, arrivals_in}
use Rattle.sloth_source.proofs.Least.{one_least}
use Rattle.sloth_runner.specs.TaskStates.{AreStatesAt}
use Rattle.sloth_runner.specs.declared.task_states.Sight.{Sight}
use Rattle.sloth_runner.specs.declared.task_states.Sight.TheVariants as sight
use Rattle.sloth_runner.proofs.RunStates.{one_sight}
use Rattle.tool_commands.specs.AtAnswers.{IsStatesAnswer, IsAtAnswer, states_answer}
use Rattle.run_inputs.specs.RunInputs.{IsRunRefused}
use Rattle.run_inputs.specs.RunInputs.{AreRunInputs}
use Rattle.command_line.specs.declared.answer.ToolAnswer.{ToolAnswer}
use Rattle.command_line.specs.declared.answer.ToolAnswer.TheVariants as answer
use Rattle.run_inputs.proofs.Refused.{of-arrivals}

-- what an answer of `at` is
pub data AtView (img arr : List ℕ) (k : ℕ) (a : ToolAnswer) : Type 0 where
  shows : IsStatesAnswer img arr k a → AtView img arr k a
  faults : (fault : ImageFault) → a ≡ answer.NotAnImage fault → IsFirstImageFault fault img → AtView img arr k a
  refuses : (refusal : Refusal) → a ≡ answer.Refused refusal → IsRunRefused img arr refusal → AtView img arr k a

pub at-view : (img arr : List ℕ) (k : ℕ) (a : ToolAnswer) → IsAtAnswer img arr k a → AtView img arr k a
at-view img arr k (answer.Done outcome) h = AtView.shows h
at-view img arr k (answer.Stopped pc stop) h = AtView.shows h
at-view img arr k (answer.NotAnImage fault) h = AtView.faults fault refl h
at-view img arr k (answer.Refused refusal) h = AtView.refuses refusal refl h
at-view img arr k (answer.NotAnElf fault) h = absurd h
at-view img arr k (answer.BadTrace fault) h = absurd h
at-view img arr k answer.NoHolds h = absurd h
at-view img arr k (answer.Unmet lines) h = absurd h
at-view img arr k (answer.Explained kind lines) h = absurd h
at-view img arr k answer.NoTask h = absurd h

one-shown : (img arr : List ℕ) (k : ℕ) (a b : ToolAnswer) → IsStatesAnswer img arr k a → IsStatesAnswer img arr k b → a ≡ b
one-shown img arr k a b h i =
    let image : h.image ≡ i.image = image-unique h.image i.image img h.is_image i.is_image in
    let arrivals : h.arrivals ≡ i.arrivals = h.arrivals_are ∙ ap (λ (x : Image). arrivals_in x.tasks x.counters arr) image ∙ sym i.arrivals_are in
    let S : Image → Type 0 = λ x. AreStatesAt x h.arrivals k h.sight in
    let T : List Arrival → Type 0 = λ xs. AreStatesAt i.image xs k h.sight in
    let sight : h.sight ≡ i.sight = one_sight i.image i.arrivals k h.sight i.sight (subst T arrivals (subst S image h.seen)) i.seen in
    h.answer_is ∙ ap (λ (x : Image). states_answer x h.sight) image ∙ ap (states_answer i.image) sight ∙ sym i.answer_is

pub one-refused : (img arr : List ℕ) (r s : Refusal) → IsRunRefused img arr r → IsRunRefused img arr s → r ≡ s
one-refused img arr r s h i =
    let image : h.0 ≡ i.0 = image-unique h.0 i.0 img h.1 i.1 in
    let L : Image → Type 0 = λ x. IsLeast (ArrivalsFault x.tasks x.counters arr) r in
    one_least Arr (ArrivalsFault i.0.tasks i.0.counters arr) (of-arrivals i.0.tasks i.0.counters arr) r s (subst L image h.2) i.2

shown-not-refused : (img arr : List ℕ) (k : ℕ) (a : ToolAnswer) (r : Refusal) → IsStatesAnswer img arr k a → IsRunRefused img arr r → ⊥
shown-not-refused img arr k a r h i =
    let image : h.image ≡ i.0 = image-unique h.image i.0 img h.is_image i.1 in
    let N : Image → Type 0 = λ x. NoFault (ArrivalsFault x.tasks x.counters arr) in
    subst N image h.no_fault r i.2.is_fault

pub at-one : (img arr : List ℕ) (k : ℕ) (a b : ToolAnswer) → IsAtAnswer img arr k a → IsAtAnswer img arr k b → a ≡ b
at-one img arr k a b p q = by (at-view img arr k a p) (at-view img arr k b q)
  where
    by : AtView img arr k a → AtView img arr k b → a ≡ b
    by (AtView.shows h) (AtView.shows i) = one-shown img arr k a b h i
    by (AtView.shows h) (AtView.faults f e i) = absurd (none_is_both img h.image f h.is_image i)
    by (AtView.shows h) (AtView.refuses r e i) = absurd (shown-not-refused img arr k a r h i)
    by (AtView.faults f e h) (AtView.shows i) = absurd (none_is_both img i.image f i.is_image h)
    by (AtView.faults f e h) (AtView.faults g d i) = e ∙ ap answer.NotAnImage (fault_is_one img f g h i) ∙ sym d
    by (AtView.faults f e h) (AtView.refuses r d i) = absurd (none_is_both img i.0 f i.1 h)
    by (AtView.refuses r e h) (AtView.shows i) = absurd (shown-not-refused img arr k b r i h)
    by (AtView.refuses r e h) (AtView.faults f d i) = absurd (none_is_both img h.0 f h.1 i)
    by (AtView.refuses r e h) (AtView.refuses s d i) = e ∙ ap answer.Refused (one-refused img arr r s h i) ∙ sym d

-- what it says of the image file
pub at-image : (img arr : List ℕ) (k : ℕ) (a : ToolAnswer) → IsAtAnswer img arr k a
    → ((image : Image) × ImageText img image) ⊎ ((fault : ImageFault) × (a ≡ answer.NotAnImage fault))
at-image img arr k a h = by (at-view img arr k a h)
  where
    by : AtView img arr k a → ((image : Image) × ImageText img image) ⊎ ((fault : ImageFault) × (a ≡ answer.NotAnImage fault))
    by (AtView.shows s) = inl (s.image, s.is_image)
    by (AtView.faults fault e f) = inr (fault, e)
    by (AtView.refuses refusal e r) = inl (r.0, r.1)

-- what a run shows of its tasks is the answer
pub sight_is_answer : (img arr : List ℕ) (k : ℕ) (image : Image) (arrivals : List Arrival) (s : Sight) (a : ToolAnswer) → AreRunInputs img arr image arrivals
    → AreStatesAt image arrivals k s → a ≡ states_answer image s → IsAtAnswer img arr k a
sight_is_answer img arr k image arrivals s a is seen at = subst (λ x. IsAtAnswer img arr k x) (sym at) (by s seen)
  where
    by : (x : Sight) → AreStatesAt image arrivals k x → IsAtAnswer img arr k (states_answer image x)
    by (sight.At y) h =
        record { image = image; arrivals = arrivals; sight = sight.At y; is_image = is.is_image; no_fault = is.no_fault; arrivals_are = is.arrivals_are; seen = h; answer_is = refl }
    by sight.Booting h =
        record { image = image; arrivals = arrivals; sight = sight.Booting; is_image = is.is_image; no_fault = is.no_fault; arrivals_are = is.arrivals_are; seen = h; answer_is = refl }
    by (sight.Stopped pc stop) h =
        record { image = image; arrivals = arrivals; sight = sight.Stopped pc stop; is_image = is.is_image; no_fault = is.no_fault; arrivals_are = is.arrivals_are; seen = h; answer_is = refl }
