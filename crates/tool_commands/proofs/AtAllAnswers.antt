-- Files have one answer of `at .. all`.
use Rattle.std.proofs.Common.{◌≡◌, ◌∙◌, ℕ, List, refl, sym, ap, subst, ◌+◌, ◌≤◌, ◌⊎◌, inl, inr, arith}
use Rattle.std.specs.Prelude.{codes}
use Rattle.sloth_base.specs.declared.service.Arrival.{Arrival}
use Rattle.sloth_base.specs.declared.image.Image.{Image}
use Rattle.sloth_base.specs.declared.refusal.Part.TheVariants.{Arr}
use Rattle.sloth_base.specs.declared.refusal.Refusal.{Refusal}
use Rattle.sloth_base.specs.Order.{IsLeast, NoFault}
use Rattle.image_file.specs.ImageText.{ImageText}
use Rattle.image_file.specs.Faults.{IsFirstImageFault}
use Rattle.image_file.specs.declared.read.ImageFault.{ImageFault}
use Rattle.image_file.proofs.Faulted.{fault_is_one, none_is_both}
use Rattle.image_file.proofs.Images.{image-unique}
use Rattle.trace_text.specs.ArrivalsText.{ArrivalsFault, arrivals_in}
use Rattle.sloth_source.proofs.Least.{one_least}
use Rattle.rv32_instr.specs.declared.encoding.Stop.{Stop}
use Rattle.sloth_inspect.specs.declared.service_words.ServiceWords.{ServiceWords}
use Rattle.run_samples.specs.ServiceWords.{StopsBefore, words_behind}
use Rattle.sloth_runner.specs.TaskStates.{AreStatesAt}
use Rattle.sloth_runner.specs.declared.task_states.Seen.{Seen}
use Rattle.sloth_runner.specs.declared.runner.Halt.{Halt}
use Rattle.sloth_runner.specs.declared.task_states.Sight.{Sight}
use Rattle.sloth_runner.specs.declared.task_states.Sight.TheVariants as sight
use Rattle.sloth_runner.proofs.RunStates.{one_sight}
use Rattle.tool_commands.specs.AtAllAnswers.{IsAllAnswer, IsAtAllAnswer, all_answer, all_text, done}
use Rattle.run_inputs.specs.RunInputs.{IsRunRefused}
use Rattle.tool_commands.proofs.AtAnswers.{one-refused}
use Rattle.run_inputs.specs.RunInputs.{AreRunInputs}
use Rattle.command_line.specs.declared.answer.ToolAnswer.{ToolAnswer}
use Rattle.command_line.specs.declared.answer.ToolAnswer.TheVariants as answer
use Rattle.run_inputs.proofs.Refused.{of-arrivals}

-- what an answer of `at` is
pub data AllView (img arr : List ℕ) (k : ℕ) (a : ToolAnswer) : Type 0 where
  shows : IsAllAnswer img arr k a → AllView img arr k a
  faults : (fault : ImageFault) → a ≡ answer.NotAnImage fault → IsFirstImageFault fault img → AllView img arr k a
  refuses : (refusal : Refusal) → a ≡ answer.Refused refusal → IsRunRefused img arr refusal → AllView img arr k a

pub all-view : (img arr : List ℕ) (k : ℕ) (a : ToolAnswer) → IsAtAllAnswer img arr k a → AllView img arr k a
all-view img arr k (answer.Done outcome) h = AllView.shows h
all-view img arr k (answer.Stopped pc stop) h = AllView.shows h
all-view img arr k (answer.NotAnImage fault) h = AllView.faults fault refl h
all-view img arr k (answer.Refused refusal) h = AllView.refuses refusal refl h
all-view img arr k (answer.NotAnElf fault) h = absurd h
all-view img arr k (answer.BadTrace fault) h = absurd h
all-view img arr k answer.NoHolds h = absurd h
all-view img arr k (answer.Unmet text) h = absurd h
all-view img arr k (answer.Explained kind lines) h = absurd h
all-view img arr k answer.NoTask h = absurd h

one-shown : (img arr : List ℕ) (k : ℕ) (a b : ToolAnswer) → IsAllAnswer img arr k a → IsAllAnswer img arr k b → a ≡ b
one-shown img arr k a b h i =
    let image : h.image ≡ i.image = image-unique h.image i.image img h.is_image i.is_image in
    let arrivals : h.arrivals ≡ i.arrivals = h.arrivals_are ∙ ap (λ (x : Image). arrivals_in x.tasks x.counters arr) image ∙ sym i.arrivals_are in
    let S : Image → Type 0 = λ x. AreStatesAt x h.arrivals k h.sight in
    let T : List Arrival → Type 0 = λ xs. AreStatesAt i.image xs k h.sight in
    let sight : h.sight ≡ i.sight = one_sight i.image i.arrivals k h.sight i.sight (subst T arrivals (subst S image h.seen)) i.seen in
    h.answer_is ∙ ap (λ (x : Image). all_answer x h.arrivals h.sight) image ∙ ap (λ a. all_answer i.image a h.sight) arrivals
    ∙ ap (all_answer i.image i.arrivals) sight ∙ sym i.answer_is

shown-not-refused : (img arr : List ℕ) (k : ℕ) (a : ToolAnswer) (r : Refusal) → IsAllAnswer img arr k a → IsRunRefused img arr r → ⊥
shown-not-refused img arr k a r h i =
    let image : h.image ≡ i.0 = image-unique h.image i.0 img h.is_image i.1 in
    let N : Image → Type 0 = λ x. NoFault (ArrivalsFault x.tasks x.counters arr) in
    subst N image h.no_fault r i.2.is_fault

pub all-one : (img arr : List ℕ) (k : ℕ) (a b : ToolAnswer) → IsAtAllAnswer img arr k a → IsAtAllAnswer img arr k b → a ≡ b
all-one img arr k a b p q = by (all-view img arr k a p) (all-view img arr k b q)
  where
    by : AllView img arr k a → AllView img arr k b → a ≡ b
    by (AllView.shows h) (AllView.shows i) = one-shown img arr k a b h i
    by (AllView.shows h) (AllView.faults f e i) = absurd (none_is_both img h.image f h.is_image i)
    by (AllView.shows h) (AllView.refuses r e i) = absurd (shown-not-refused img arr k a r h i)
    by (AllView.faults f e h) (AllView.shows i) = absurd (none_is_both img i.image f i.is_image h)
    by (AllView.faults f e h) (AllView.faults g d i) = e ∙ ap answer.NotAnImage (fault_is_one img f g h i) ∙ sym d
    by (AllView.faults f e h) (AllView.refuses r d i) = absurd (none_is_both img i.0 f i.1 h)
    by (AllView.refuses r e h) (AllView.shows i) = absurd (shown-not-refused img arr k b r i h)
    by (AllView.refuses r e h) (AllView.faults f d i) = absurd (none_is_both img h.0 f h.1 i)
    by (AllView.refuses r e h) (AllView.refuses s d i) = e ∙ ap answer.Refused (one-refused img arr r s h i) ∙ sym d

-- what it says of the image file
pub all-image : (img arr : List ℕ) (k : ℕ) (a : ToolAnswer) → IsAtAllAnswer img arr k a
    → ((image : Image) × ImageText img image) ⊎ ((fault : ImageFault) × (a ≡ answer.NotAnImage fault))
all-image img arr k a h = by (all-view img arr k a h)
  where
    by : AllView img arr k a → ((image : Image) × ImageText img image) ⊎ ((fault : ImageFault) × (a ≡ answer.NotAnImage fault))
    by (AllView.shows s) = inl (s.image, s.is_image)
    by (AllView.faults fault e f) = inr (fault, e)
    by (AllView.refuses refusal e r) = inl (r.0, r.1)

-- ---- what is answered

-- what a run shows of its tasks and of the service words is the answer
all_is_answer : (img arr : List ℕ) (k : ℕ) (image : Image) (arrivals : List Arrival) (s : Sight) → AreRunInputs img arr image arrivals
    → AreStatesAt image arrivals k s → IsAllAnswer img arr k (all_answer image arrivals s)
all_is_answer img arr k image arrivals s is seen = record {
  image = image;
  arrivals = arrivals;
  sight = s;
  is_image = is.is_image;
  no_fault = is.no_fault;
  arrivals_are = is.arrivals_are;
  seen = seen;
  answer_is = refl;
}

pub seen_is_answer : (img arr : List ℕ) (k : ℕ) (image : Image) (arrivals : List Arrival) (seen : Seen) (words : ServiceWords) (text : List ℕ) (a : ToolAnswer)
    → AreRunInputs img arr image arrivals → AreStatesAt image arrivals k (sight.At seen) → words ≡ words_behind image arrivals seen.count
    → text ≡ all_text image seen words → a ≡ done text → IsAtAllAnswer img arr k a
seen_is_answer img arr k image arrivals seen words text a is at read told e =
    let A : ToolAnswer → Type 0 = λ x. IsAtAllAnswer img arr k x in
    subst A (sym (e ∙ ap done (told ∙ ap (all_text image seen) read))) (all_is_answer img arr k image arrivals (sight.At seen) is at)

pub booting_is_answer : (img arr : List ℕ) (k : ℕ) (image : Image) (arrivals : List Arrival) (text : List ℕ) (a : ToolAnswer) → AreRunInputs img arr image arrivals
    → AreStatesAt image arrivals k sight.Booting → text ≡ codes "booting\n" → a ≡ done text → IsAtAllAnswer img arr k a
booting_is_answer img arr k image arrivals text a is at told e =
    let A : ToolAnswer → Type 0 = λ x. IsAtAllAnswer img arr k x in
    subst A (sym (e ∙ ap done told)) (all_is_answer img arr k image arrivals sight.Booting is at)

pub stopped_is_answer : (img arr : List ℕ) (k : ℕ) (image : Image) (arrivals : List Arrival) (pc : ℕ) (stop : Stop) → AreRunInputs img arr image arrivals
    → AreStatesAt image arrivals k (sight.Stopped pc stop) → IsAtAllAnswer img arr k (answer.Stopped pc stop)
stopped_is_answer img arr k image arrivals pc stop is at = all_is_answer img arr k image arrivals (sight.Stopped pc stop) is at

-- a run that stops before a count up to k stops
pub stop_is_answer : (img arr : List ℕ) (k count : ℕ) (image : Image) (arrivals : List Arrival) (halt : Halt) → AreRunInputs img arr image arrivals
    → count ≤ k → StopsBefore image arrivals count halt → IsAtAllAnswer img arr k (answer.Stopped halt.pc halt.stop)
stop_is_answer img arr k count image arrivals halt is within stops =
    stopped_is_answer img arr k image arrivals halt.pc halt.stop is (stops (k + 1) (omega (arith, within)))
