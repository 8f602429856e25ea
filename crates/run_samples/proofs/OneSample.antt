-- A run shows one sample at each count.
use Rattle.std.proofs.Common.{◌≡◌, ◌+◌, ◌∙◌, ℕ, List, [], ◌∷◌, ◌++◌, Some, length, refl, sym, ap, subst, arith}
use Rattle.sloth_base.specs.declared.service.Arrival.{Arrival}
use Rattle.sloth_base.specs.declared.image.Image.{Image}
use Rattle.sloth_base.specs.Machine.{State}
use Rattle.rv32_instr.specs.Memory.{memory_of}
use Rattle.rv32_machine.specs.Advance.{Goes}
use Rattle.rv32_machine.specs.Run.{state_with_arrivals, moment}
use Rattle.sloth_base.specs.declared.numbers.Step.{Step}
use Rattle.run_samples.specs.Accesses.{code_access}
use Rattle.sloth_runner.specs.TaskStates.{interrupts_in}
use Rattle.sloth_runner.proofs.RunStates.{one-last}
use Rattle.run_samples.specs.declared.samples.Sample.{Sample}
use Rattle.run_samples.specs.Samples.{IsSample, AreSamples}

module _ (image : Image) (A : List Arrival) where
  one-sample : (k : ℕ) (a b : Sample) → IsSample image A k a → IsSample image A k b → a ≡ b
  one-sample k a b h i =
      let found : Some h.state ≡ Some i.state = sym h.after ∙ i.after in
      let state : h.state ≡ i.state = cc in
      let seen : a.seen ≡ b.seen = one-last image A (k + 1) a.seen b.seen h.seen i.seen in
      let interrupts : a.interrupts ≡ b.interrupts = h.interrupts ∙ ap (λ (x : State). interrupts_in image (state_with_arrivals A k x)) state ∙ sym i.interrupts in
      let goes : Goes h.step h.behind ≡ Goes i.step i.behind = sym h.goes ∙ ap (λ (x : State). moment A k x) state ∙ i.goes in
      let step : h.step ≡ i.step = cc in
      let taken : a.taken ≡ b.taken = h.taken ∙ ap (λ (x : Step). x.entered) step ∙ sym i.taken in
      let behind : h.behind ≡ i.behind = cc in
      let access : a.access ≡ b.access =
      h.access ∙ ap (λ (x : Step). code_access x (memory_of h.behind.core)) step ∙ ap (λ (x : State). code_access i.step (memory_of x.core)) behind ∙ sym i.access in
      ap (λ s. record { seen = s; interrupts = a.interrupts; taken = a.taken; access = a.access }) seen
      ∙ ap (λ s. record { seen = b.seen; interrupts = s; taken = a.taken; access = a.access }) interrupts
      ∙ ap (λ l. record { seen = b.seen; interrupts = b.interrupts; taken = l; access = a.access }) taken
      ∙ ap (λ x. record { seen = b.seen; interrupts = b.interrupts; taken = b.taken; access = x }) access

  pub one-samples : (k : ℕ) (xs ys : List Sample) → AreSamples image A k xs → AreSamples image A k ys → length xs ≡ length ys → xs ≡ ys
  one-samples k [] [] h i e = refl
  one-samples k [] (y ∷ ys) h i e = absurd (omega (arith, e))
  one-samples k (x ∷ xs) [] h i e = absurd (omega (arith, e))
  one-samples k (x ∷ xs) (y ∷ ys) h i e =
      ap (λ s. s ∷ xs) (one-sample k x y h.0 i.0) ∙ ap (λ rest. y ∷ rest) (one-samples (k + 1) xs ys h.1 i.1 (omega (arith, e)))

  -- one sample more
  pub samples-more : (k : ℕ) (xs : List Sample) (x : Sample) → AreSamples image A k xs → IsSample image A (k + length xs) x → AreSamples image A k (xs ++ x ∷ [])
  samples-more k [] x h i = let S : ℕ → Type 0 = λ n. IsSample image A n x in (subst S (omega arith) i, tt)
  samples-more k (y ∷ ys) x h i = let S : ℕ → Type 0 = λ n. IsSample image A n x in (h.0, samples-more (k + 1) ys x h.1 (subst S (omega arith) i))
