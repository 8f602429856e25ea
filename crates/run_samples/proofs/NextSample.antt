-- A sampler that goes on by one count.
use Rattle.std.proofs.Common.{◌≡◌, ◌≤◌, ◌+◌, ◌∙◌, ℕ, List, length, refl, sym, ap, subst}
use Rattle.std.specs.Prelude.{Option}
use Rattle.std.specs.Option.{option_or}
use Rattle.sloth_base.specs.declared.service.Arrival.{Arrival}
use Rattle.sloth_base.specs.declared.image.Image.{Image}
use Rattle.sloth_base.specs.declared.numbers.Step.{Step}
use Rattle.sloth_base.specs.Machine.{State}
use Rattle.sloth_base.specs.Take.{execution_state}
use Rattle.sloth_base.specs.Limits.{task_limit}
use Rattle.rv32_instr.specs.Memory.{memory_of}
use Rattle.rv32_machine.specs.Start.{start}
use Rattle.rv32_machine.specs.Advance.{Goes, Halts}
use Rattle.rv32_machine.proofs.Runs.{stop_halts}
use Rattle.observe.specs.Progress.{arrivals_of}
use Rattle.run_samples.specs.Accesses.{code_access}
use Rattle.run_samples.specs.declared.accesses.Access.{Access}
use Rattle.sloth_runner.specs.Runner.{HasRun, HasArrived, HasExecuted, HasHalt, image_of, given_arrivals, count_of, end_of}
use Rattle.sloth_runner.specs.Moments.{sloth_state}
use Rattle.sloth_runner.specs.TaskStates.{IsLast, image_states, interrupts_in}
use Rattle.sloth_runner.specs.declared.runner.Halt.{Halt}
use Rattle.sloth_runner.specs.declared.runner.Runner.{Runner}
use Rattle.sloth_runner.specs.declared.runner.RunEnd.TheVariants as ends
use Rattle.sloth_runner.specs.declared.task_states.Interrupts.{Interrupts}
use Rattle.sloth_runner.specs.declared.task_states.Seen.{Seen}
use Rattle.sloth_runner.proofs.RunStates.{last-behind}
use Rattle.sloth_runner.proofs.Turning.{machine-more, moment-is}
use Rattle.run_samples.specs.declared.samples.Sampler.{Sampler}
use Rattle.run_samples.specs.Samples.{IsSample, IsSampling, StopsAt}

-- a runner that had its arrivals and was looked at
pub record IsLookedAt (s : Sampler) (a c : Runner) (seen last : Option Seen) (interrupts : Interrupts) : Type 0 where
  pub sampling : IsSampling s
  pub arrives : HasArrived s.runner a
  pub image_is : image_of a ≡ image_of s.runner
  pub observer : a.observer ≡ s.runner.observer
  pub same : c ≡ a
  pub seen_is : seen ≡ image_states (image_of a) (count_of a) (sloth_state a.machine)
  pub last_is : last ≡ option_or seen s.last
  pub interrupts_is : interrupts ≡ interrupts_in (image_of a) (sloth_state a.machine)

module _ (s : Sampler) (a c : Runner) (seen last : Option Seen) (interrupts : Interrupts) (h : IsLookedAt s a c seen last interrupts) where
  abbrev image : Image
  image = image_of s.runner

  abbrev A : List Arrival
  A = given_arrivals s.runner

  abbrev k : ℕ
  k = count_of s.runner

  abbrev m : State
  m = sloth_state s.runner.machine

  looked : HasArrived s.runner c
  looked = let P : Runner → Type 0 = HasArrived s.runner in subst P (sym h.same) h.arrives

  -- what was seen last, with this count
  last-seen : IsLast image A (k + 1) last
  last-seen =
      let P : Option Seen → Type 0 = IsLast image A (k + 1) in
      let seen_here = h.seen_is ∙ ap (λ n. image_states (image_of a) n (sloth_state a.machine)) h.arrives.count in
      subst P (sym h.last_is)
      (last-behind image A k m (sloth_state a.machine) (image_of a) seen s.last h.sampling.ran.after h.sampling.last h.image_is h.arrives.state seen_here)

  -- the sample, where the instruction is executed
  pub sample-is : (q : Runner) (step : Step) (access : Option Access) → HasExecuted c q step → access ≡ code_access step (memory_of (sloth_state q.machine).core)
      → IsSample image A k (record { seen = last; interrupts = interrupts; taken = step.entered; access = access })
  sample-is q step access executed accesses = record {
    state = m;
    after = h.sampling.ran.after;
    seen = last-seen;
    step = step;
    behind = sloth_state q.machine;
    goes = moment-is s.runner c (Goes step (sloth_state q.machine)) looked executed.goes;
    taken = refl;
    interrupts = h.interrupts_is ∙ ap (λ (i : Image). interrupts_in i (sloth_state a.machine)) h.image_is ∙ ap (interrupts_in image) h.arrives.state;
    access = accesses;
  }

  -- and the sampler behind it
  pub sampling-behind : (q : Runner) (step : Step) → HasExecuted c q step → q.coming.now ≡ c.coming.now → image_of q ≡ image_of c → q.observer ≡ c.observer
      → IsSampling (record { runner = q; last = last })
  sampling-behind q step executed coming image_q observer_q =
      let observer = observer_q ∙ ap (λ (x : Runner). x.observer) h.same ∙ h.observer in
      let arrivals : given_arrivals q ≡ A = ap arrivals_of observer in
      let same_image : image_of q ≡ image = image_q ∙ ap image_of h.same ∙ h.image_is in
      let count : count_of q ≡ k + 1 = executed.count ∙ ap (λ n. n + 1) looked.count in
      let R : Image → Type 0 = λ i. HasRun q i (count_of q) in
      let N : ℕ → Type 0 = λ n. HasRun q image n in
      let F : Image → Type 0 = λ i. length i.tasks ≤ task_limit in
      let L : ℕ → Type 0 = λ n. IsLast image A n last in
      let B : List Arrival → Type 0 = λ xs. IsLast image xs (count_of q) last in
      let I : Image → Type 0 = λ i. IsLast i (given_arrivals q) (count_of q) last in
      record {
        ran = subst R (sym same_image) (subst N (sym count) (machine-more s.runner c q image step h.sampling.ran looked executed arrivals coming));
        few_tasks = subst F (sym same_image) h.sampling.few_tasks;
        last = subst I (sym same_image) (subst B (sym arrivals) (subst L (sym count) last-seen));
      }

  -- where the machine stops at the instruction
  pub stops-there : (halt : Halt) → HasHalt c halt → StopsAt image A k halt
  stops-there halt halts n below =
      let stopped = moment-is s.runner c (Halts halt.stop) looked halts.halts in
      let pc = halts.pc ∙ ap (λ (x : State). (execution_state x).pc) looked.state in
      ap end_of (stop_halts n k A (start image) m halt.stop below h.sampling.ran.after stopped) ∙ ap (λ p. ends.Stopped p halt.stop) (sym pc)
