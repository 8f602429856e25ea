use Rattle.std.proofs.Common.{◌≡◌, ◌∙◌, ◌+◌, ℕ, Option, Some, refl, sym, ap, subst, arith}
use Rattle.rv32_machine.specs.Advance.{Halts}
use Rattle.rv32_machine.specs.Start.{start}
use Rattle.rv32_machine.specs.Run.{moment, state_with_arrivals, state_after}
use Rattle.observe.specs.Progress.{arrivals_of}
use Rattle.sloth_base.specs.Machine.{State}
use Rattle.sloth_base.specs.Take.{execution_state}
use Rattle.sloth_base.specs.declared.image.Image.{Image}
use Rattle.sloth_runner.specs.declared.runner.Runner.{Runner}
use Rattle.sloth_runner.specs.declared.task_states.Seen.{Seen}
use Rattle.sloth_runner.specs.Runner.{HasRun, HasArrived, HasExecuted, image_of, given_arrivals, count_of}
use Rattle.sloth_runner.specs.Moments.{sloth_state}
use Rattle.sloth_runner.specs.TaskStates.{IsLast, AreStatesAt, image_states}
use Rattle.sloth_runner.proofs.WholeRuns.{states_behind_run}
use Rattle.sloth_runner.proofs.Turning.{moment-is, machine-more}
use Rattle.sloth_runner.proofs.RunStates.{last-behind, sight-stopped, sight-behind}
use Rattle.sloth_runner.proofs.runner.Runner.state_at.Goals as goal

pub loop-self-init : goal.loop-self-init
loop-self-init c =
    let none = c.requires.fresh.1 in
    record {
      ran = c.requires.fresh.0.ran;
      image = refl;
      arrivals = refl;
      last = λ count state f l found. absurd (omega (arith, none));
      few = omega (arith, none);
    }

pub returns-in-Err : goal.returns-in-Err
returns-in-Err c =
    let r = c.loop-self.self in
    let h = c.loop-self.invariant in
    let k : ℕ = count_of r in
    let m : State = sloth_state r.machine in
    let looked = subst (HasArrived r) (sym c.tasks_seen.ensures.same) c.arrive_now.ensures.arrived in
    let halt = c.in-Err.ensures.err in
    sight-stopped (image_of c.args.self.now) (given_arrivals c.args.self.now) k c.args.k c.in-Err.halt.pc m c.in-Err.halt.stop (omega arith)
    (ap (λ A. state_after k A (start (image_of c.args.self.now))) (sym h.arrivals) ∙ h.ran.after)
    (ap (λ A. moment A k m) (sym h.arrivals) ∙ moment-is r c.tasks_seen.new.runner (Halts c.in-Err.halt.stop) looked halt.halts)
    (halt.pc ∙ ap (λ (x : State). (execution_state x).pc) looked.state ∙ ap (λ A. (execution_state (state_with_arrivals A k m)).pc) h.arrivals)

pub loop-self-preserved : goal.loop-self-preserved
loop-self-preserved c =
    let r = c.loop-self.self in
    let a = c.tasks_seen.new.runner in
    let q = c.execute.new.self in
    let h = c.loop-self.invariant in
    let image : Image = image_of c.args.self.now in
    let A = given_arrivals c.args.self.now in
    let k : ℕ = count_of r in
    let m : State = sloth_state r.machine in
    let looked = subst (HasArrived r) (sym c.tasks_seen.ensures.same) c.arrive_now.ensures.arrived in
    let executed : HasExecuted a q c.in_default.field-0 = c.in_default.ensures.ok in
    let observer = c.execute.ensures.observer ∙ ap (λ (x : Runner). x.observer) c.tasks_seen.ensures.same ∙ c.arrive_now.ensures.observer in
    let shown : image_of c.arrive_now.new.self ≡ image = c.arrive_now.ensures.image ∙ h.image in
    let after : state_after k A (start image) ≡ Some m = ap (λ B. state_after k B (start image)) (sym h.arrivals) ∙ h.ran.after in
    let there : sloth_state c.arrive_now.new.self.machine ≡ state_with_arrivals A k m =
    c.arrive_now.ensures.arrived.state ∙ ap (λ B. state_with_arrivals B k m) h.arrivals in
    let seen = c.tasks_seen.ensures.seen ∙ ap (λ n. image_states (image_of c.arrive_now.new.self) n (sloth_state c.arrive_now.new.self.machine)) c.arrive_now.ensures.arrived.count in
    let last = last-behind image A k m (sloth_state c.arrive_now.new.self.machine) (image_of c.arrive_now.new.self) c.tasks_seen.result c.loop-self.last after h.last shown there seen in
    let more : count_of q ≡ k + 1 = executed.count ∙ ap (λ n. n + 1) looked.count in
    let P : ℕ → Type 0 = λ n. HasRun q image n in
    let L : ℕ → Type 0 = λ n. IsLast image A n c.or-last.result in
    let O : Option Seen → Type 0 = IsLast image A (k + 1) in
    record {
      ran = subst P (sym more) (machine-more r a q image c.in_default.field-0 h.ran looked executed (ap arrivals_of observer) c.execute.ensures.coming);
      image = c.execute.ensures.image ∙ ap image_of c.tasks_seen.ensures.same ∙ shown;
      arrivals = ap arrivals_of observer ∙ h.arrivals;
      last = subst L (sym more) (subst O (sym c.or-last.ensures) last);
      few = omega (arith, more);
    }

pub returns-in-Some : goal.returns-in-Some
returns-in-Some c =
    let h = c.loop-self.invariant in
    let S : Option Seen → Type 0 = λ last. AreStatesAt (image_of c.args.self.now) (given_arrivals c.args.self.now) c.args.k (states_behind_run last) in
    subst S c.in-Some.is (sight-behind c.args.self.now c.loop-self.self c.args.k c.loop-self.last h.ran h.arrivals h.last (omega arith))

pub returns-in-None : goal.returns-in-None
returns-in-None c =
    let h = c.loop-self.invariant in
    let S : Option Seen → Type 0 = λ last. AreStatesAt (image_of c.args.self.now) (given_arrivals c.args.self.now) c.args.k (states_behind_run last) in
    subst S c.in-None.is (sight-behind c.args.self.now c.loop-self.self c.args.k c.loop-self.last h.ran h.arrivals h.last (omega arith))
