-- Files have one answer of a tool that writes what a run shows.
use Rattle.std.proofs.Common.{◌≡◌, ◌∙◌, ℕ, List, length, refl, sym, ap, subst, ◌⊎◌, inl, inr}
use Rattle.sloth_base.specs.declared.service.Arrival.{Arrival}
use Rattle.sloth_base.specs.declared.image.Image.{Image}
use Rattle.sloth_base.specs.declared.refusal.Refusal.{Refusal}
use Rattle.sloth_base.specs.Order.{NoFault}
use Rattle.image_file.specs.ImageText.{ImageText}
use Rattle.image_file.specs.Faults.{IsFirstImageFault}
use Rattle.image_file.specs.declared.read.ImageFault.{ImageFault}
use Rattle.image_file.proofs.Faulted.{fault_is_one, none_is_both}
use Rattle.image_file.proofs.Images.{image-unique}
use Rattle.rv32_instr.specs.declared.encoding.Stop.{Stop}
use Rattle.trace_text.specs.ArrivalsText.{ArrivalsFault, arrivals_in}
use Rattle.sloth_runner.specs.Runner.{run_end}
use Rattle.sloth_runner.specs.declared.runner.RunEnd.TheVariants as ends
use Rattle.run_inputs.specs.RunInputs.{IsRunRefused}
use Rattle.tool_commands.specs.Lines.{written_line}
use Rattle.tool_commands.specs.RunAnswers.{IsDrawn, IsHalted, IsRunAnswer}
use Rattle.run_inputs.specs.RunInputs.{AreRunInputs}
use Rattle.command_line.specs.declared.answer.Outcome.{Outcome}
use Rattle.command_line.specs.declared.answer.ToolAnswer.{ToolAnswer}
use Rattle.command_line.specs.declared.answer.ToolAnswer.TheVariants as answer
use Rattle.tool_commands.proofs.AtAnswers.{one-refused}
use Rattle.tool_commands.proofs.ElfAnswers.{same-outcome}

module _ (img arr : List ℕ) where
  -- two files have one image and one list of arrivals
  pub one-image : (i j : Image) (A B : List Arrival) → AreRunInputs img arr i A → AreRunInputs img arr j B → i ≡ j
  one-image i j A B h k = image-unique i j img h.is_image k.is_image

  pub one-arrivals : (i j : Image) (A B : List Arrival) → AreRunInputs img arr i A → AreRunInputs img arr j B → A ≡ B
  one-arrivals i j A B h k = h.arrivals_are ∙ ap (λ (x : Image). arrivals_in x.tasks x.counters arr) (one-image i j A B h k) ∙ sym k.arrivals_are

  -- and are not refused
  pub not-refused : (i : Image) (A : List Arrival) (r : Refusal) → AreRunInputs img arr i A → IsRunRefused img arr r → ⊥
  not-refused i A r h k =
      let N : Image → Type 0 = λ x. NoFault (ArrivalsFault x.tasks x.counters arr) in
      subst N (image-unique i k.0 img h.is_image k.1) h.no_fault r k.2.is_fault

  pub not-faulty : (i : Image) (A : List Arrival) (f : ImageFault) → AreRunInputs img arr i A → IsFirstImageFault f img → ⊥
  not-faulty i A f h k = none_is_both img i f h.is_image k

-- What is shown of a run is one text, and the run of n instructions is whole where it is shown.
pub record IsOneText (Shows : Image → List Arrival → List ℕ → Type 0) (n : ℕ) : Type 0 where
  pub one : (image : Image) (arrivals : List Arrival) (file other : List ℕ) → Shows image arrivals file → Shows image arrivals other → file ≡ other
  pub whole : (image : Image) (arrivals : List Arrival) (file : List ℕ) → Shows image arrivals file → run_end image arrivals n ≡ ends.Whole

module _ (Shows : Image → List Arrival → List ℕ → Type 0) (img arr : List ℕ) (n : ℕ) (text : IsOneText Shows n) where
  one-drawn : (o p : Outcome) → IsDrawn Shows img arr o → IsDrawn Shows img arr p → o ≡ p
  one-drawn o p h k =
      let image : h.image ≡ k.image = one-image img arr h.image k.image h.arrivals k.arrivals h.inputs k.inputs in
      let arrivals : h.arrivals ≡ k.arrivals = one-arrivals img arr h.image k.image h.arrivals k.arrivals h.inputs k.inputs in
      let S : Image → Type 0 = λ i. Shows i h.arrivals o.file in
      let T : List Arrival → Type 0 = λ A. Shows k.image A o.file in
      let file : o.file ≡ p.file = text.one k.image k.arrivals o.file p.file (subst T arrivals (subst S image h.shows)) k.shows in
      same-outcome o p file (h.text ∙ ap (λ (bytes : List ℕ). written_line (length bytes)) file ∙ sym k.text)

  -- the end of one run
  one-end : (i j : Image) (A B : List Arrival) → AreRunInputs img arr i A → AreRunInputs img arr j B → run_end i A n ≡ run_end j B n
  one-end i j A B h k = ap (λ x. run_end x A n) (one-image img arr i j A B h k) ∙ ap (λ xs. run_end j xs n) (one-arrivals img arr i j A B h k)

  one-halt : (p q : ℕ) (s t : Stop) → IsHalted img arr n p s → IsHalted img arr n q t → answer.Stopped p s ≡ answer.Stopped q t
  one-halt p q s t h k =
      let same : ends.Stopped p s ≡ ends.Stopped q t = sym h.stops ∙ one-end h.image k.image h.arrivals k.arrivals h.inputs k.inputs ∙ k.stops in
      let pc : p ≡ q = cc in
      let stop : s ≡ t = cc in
      ap (λ x. answer.Stopped x s) pc ∙ ap (answer.Stopped q) stop

  not-both : (o : Outcome) (p : ℕ) (s : Stop) → IsDrawn Shows img arr o → IsHalted img arr n p s → ⊥
  not-both o p s h k =
      let whole = text.whole h.image h.arrivals o.file h.shows in
      let same : ends.Whole ≡ ends.Stopped p s = sym whole ∙ one-end h.image k.image h.arrivals k.arrivals h.inputs k.inputs ∙ k.stops in cc

  -- what an answer is
  pub data RunView (a : ToolAnswer) : Type 0 where
    draws : (o : Outcome) → a ≡ answer.Done o → IsDrawn Shows img arr o → RunView a
    halts : (pc : ℕ) (stop : Stop) → a ≡ answer.Stopped pc stop → IsHalted img arr n pc stop → RunView a
    faults : (fault : ImageFault) → a ≡ answer.NotAnImage fault → IsFirstImageFault fault img → RunView a
    refuses : (refusal : Refusal) → a ≡ answer.Refused refusal → IsRunRefused img arr refusal → RunView a

  run-view : (a : ToolAnswer) → IsRunAnswer Shows img arr n a → RunView a
  run-view (answer.Done outcome) h = RunView.draws outcome refl h
  run-view (answer.Stopped pc stop) h = RunView.halts pc stop refl h
  run-view (answer.NotAnImage fault) h = RunView.faults fault refl h
  run-view (answer.Refused refusal) h = RunView.refuses refusal refl h
  run-view (answer.NotAnElf fault) h = absurd h
  run-view (answer.BadTrace fault) h = absurd h
  run-view answer.NoHolds h = absurd h
  run-view (answer.Unmet lines) h = absurd h
  run-view (answer.Explained kind lines) h = absurd h
  run-view answer.NoTask h = absurd h

  pub run-one : (a b : ToolAnswer) → IsRunAnswer Shows img arr n a → IsRunAnswer Shows img arr n b → a ≡ b
  run-one a b p q = by (run-view a p) (run-view b q)
    where
      by : RunView a → RunView b → a ≡ b
      by (RunView.draws o e h) (RunView.draws p d k) = e ∙ ap answer.Done (one-drawn o p h k) ∙ sym d
      by (RunView.draws o e h) (RunView.halts pc s d k) = absurd (not-both o pc s h k)
      by (RunView.draws o e h) (RunView.faults f d k) = absurd (not-faulty img arr h.image h.arrivals f h.inputs k)
      by (RunView.draws o e h) (RunView.refuses r d k) = absurd (not-refused img arr h.image h.arrivals r h.inputs k)
      by (RunView.halts pc s e h) (RunView.draws p d k) = absurd (not-both p pc s k h)
      by (RunView.halts pc s e h) (RunView.halts at t d k) = e ∙ one-halt pc at s t h k ∙ sym d
      by (RunView.halts pc s e h) (RunView.faults f d k) = absurd (not-faulty img arr h.image h.arrivals f h.inputs k)
      by (RunView.halts pc s e h) (RunView.refuses r d k) = absurd (not-refused img arr h.image h.arrivals r h.inputs k)
      by (RunView.faults f e h) (RunView.draws p d k) = absurd (not-faulty img arr k.image k.arrivals f k.inputs h)
      by (RunView.faults f e h) (RunView.halts pc s d k) = absurd (not-faulty img arr k.image k.arrivals f k.inputs h)
      by (RunView.faults f e h) (RunView.faults g d k) = e ∙ ap answer.NotAnImage (fault_is_one img f g h k) ∙ sym d
      by (RunView.faults f e h) (RunView.refuses r d k) = absurd (none_is_both img k.0 f k.1 h)
      by (RunView.refuses r e h) (RunView.draws p d k) = absurd (not-refused img arr k.image k.arrivals r k.inputs h)
      by (RunView.refuses r e h) (RunView.halts pc s d k) = absurd (not-refused img arr k.image k.arrivals r k.inputs h)
      by (RunView.refuses r e h) (RunView.faults f d k) = absurd (none_is_both img h.0 f h.1 k)
      by (RunView.refuses r e h) (RunView.refuses s d k) = e ∙ ap answer.Refused (one-refused img arr r s h k) ∙ sym d

  -- what it says of the image file
  pub run-image : (a : ToolAnswer) → IsRunAnswer Shows img arr n a → ((image : Image) × ImageText img image) ⊎ ((fault : ImageFault) × (a ≡ answer.NotAnImage fault))
  run-image a h = by (run-view a h)
    where
      by : RunView a → ((image : Image) × ImageText img image) ⊎ ((fault : ImageFault) × (a ≡ answer.NotAnImage fault))
      by (RunView.draws o e s) = inl (s.image, s.inputs.is_image)
      by (RunView.halts pc stop e s) = inl (s.image, s.inputs.is_image)
      by (RunView.faults fault e f) = inr (fault, e)
      by (RunView.refuses refusal e r) = inl (r.0, r.1)
