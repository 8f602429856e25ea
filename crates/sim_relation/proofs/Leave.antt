-- Going back to the task below, or to the idle loop.
use Rattle.std.proofs.Common.{◌≡◌, ℕ, ◌+◌, ◌<◌, ◌≤◌, List, [], ◌∷◌, length, sym, ap, ◌∙◌, subst, arith, ⊎_elim, true, eqb}
use Rattle.std.specs.Prelude.{◌≢◌}
use Rattle.std.proofs.lemmas.Bool.{or_cases, eqb-true}
use Rattle.sloth_base.specs.Machine.{State}
use Rattle.sloth_region.specs.Layout.{cur, below_word}
use Rattle.rv32_instr.specs.Ram.{word_at}
use Rattle.osek_scheduler.specs.declared.state.TaskState.TheVariants as mode
use Rattle.osek_scheduler.specs.State.{System, task}
use Rattle.sloth_base.specs.Named.{declaration}
use Rattle.code_rules.specs.Code.{is_in}
use Rattle.osek_scheduler.specs.Priority.{current_priority}
use Rattle.sloth_base.specs.PriorityLevels.{level_of}
use Rattle.sim_relation.specs.Build.{Build}
use Rattle.sim_relation.specs.Position.{thread_of, thread_at}
use Rattle.sim_relation.specs.Context.{IsContext, IsContextChain, RunsFirst}
use Rattle.sim_relation.specs.Progress.{passed_count_of, HasPassed}
use Rattle.sim_relation.specs.Stands.{AreActive}
use Rattle.sim_relation.specs.Framing.{IsSameIdle, HasLeftFor}
use Rattle.sim_relation.proofs.Alike.{SamePart}
use Rattle.sim_relation.proofs.Contexts.{context_same, context_below, chain_kept}
use Rattle.sim_relation.proofs.Parts.{each_from, falling_kept}
use Rattle.sim_relation.proofs.Tops.{falling_tail, is_in-head, is_in-tail}

-- what runs behind the end or the wait of the task above: the other tasks of the stack have kept their parts
pub leave_runs : (b : Build) (old new : List ℕ) (s next : System) (end : State) (place : ℕ) (stack : List ℕ) → HasLeftFor old new place end
    → IsSameIdle old new → ((u : ℕ) → is_in u stack ≡ true → SamePart b old new s next u) → IsContextChain b old s stack place → RunsFirst b end next stack
leave_runs b old new s next end place [] l idle part k =
    let p = k.is in
    let x = l.x2 in
    record {
      level = l.level ∙ ap (λ j. word_at old (j + 4)) p ∙ k.level;
      current = ap (λ q. word_at q cur) l.ram ∙ l.current ∙ ap (λ j. word_at old (j + 8)) p ∙ k.current;
      pc = l.pc ∙ ap (word_at old) p ∙ k.pc;
      x2 = omega arith;
    }
leave_runs b old new s next end place (t ∷ below) l idle part k =
    let here = part t (is_in-head t below) in
    let low = k.0.context.room in
    let top = context_below b old t (task s t) (thread_at old place) (place + 128) k.0.context in
    record {
      level = l.level ∙ k.0.level ∙ sym (ap (λ v. level_of b.config (current_priority b.config (declaration b.config t) v)) here.tasks);
      current = ap (λ q. word_at q cur) l.ram ∙ l.current ∙ k.0.current;
      place = place + 128;
      context = subst (λ q. IsContext b q t (task next t) (thread_of end) (place + 128)) (sym l.ram)
          (context_same b old new t (task s t) (task next t) (thread_at old place) (thread_of end) (place + 128) here.tasks
          (record { pc = l.pc; x2 = l.x2; x = l.loaded (λ z. let c = k.0.current in absurd (omega (arith, z, c))) })
          (λ i x y. here.bytes i (omega arith) (omega arith)) k.0.context);
      next = k.1.0;
      link = ap (λ q. word_at q below_word) l.ram ∙ l.link ∙ k.1.1;
      chain = subst (λ q. IsContextChain b q next below k.1.0) (sym l.ram)
          (chain_kept b old new s next idle below k.1.0 (each_from (SamePart b old new s next) below (λ u h. part u (is_in-tail t u below h))) k.1.2);
    }

-- and it has passed at least what was said of it while it was preempted
pub leave_passed : (b : Build) (old new : List ℕ) (s next : System) (end : State) (place : ℕ) (stack : List ℕ) → HasLeftFor old new place end
    → ((u : ℕ) → is_in u stack ≡ true → task next u ≡ task s u) → IsContextChain b old s stack place → HasPassed b end next
leave_passed b old new s next end place [] l same k u named =
    let p = k.is in
    let none : word_at end.core.ram cur ≡ 0 = ap (λ q. word_at q cur) l.ram ∙ l.current ∙ ap (λ j. word_at old (j + 8)) p ∙ k.current in
    absurd (omega (arith, none, named))
leave_passed b old new s next end place (t ∷ below) l same k u named =
    let first : word_at end.core.ram cur ≡ t + 1 = ap (λ q. word_at q cur) l.ram ∙ l.current ∙ k.0.current in
    let this : t ≡ u = omega (arith, first, named) in
    let few = k.0.passed in
    let left : passed_count_of b.app b.places end.pc (task next t) ≡ passed_count_of b.app b.places (word_at old place) (task s t) =
    ap (λ v. passed_count_of b.app b.places v (task next t)) l.pc ∙ ap (passed_count_of b.app b.places (word_at old place)) (same t (is_in-head t below)) in
    subst (λ v. b.passed v ≤ passed_count_of b.app b.places end.pc (task next v)) this (omega (arith, few, left))

-- the stack without its first task
pub stack_tail : (b : Build) (s next : System) (t : ℕ) (below : List ℕ) → AreActive b s (t ∷ below)
    → ((u : ℕ) → is_in u below ≡ true → task next u ≡ task s u)
    → ((u : ℕ) → u < length b.config.tasks → (task next u).state ≡ mode.Active → (u ≢ t) × ((task s u).state ≡ mode.Active)) → AreActive b next below
stack_tail b s next t below k same act = record {
  falling = falling_kept b s next below same (falling_tail b s t below k.falling);
  all = λ u h a.
      let c = act u h a in
      ⊎_elim (λ (e : eqb t u ≡ true). absurd (c.0 (sym (eqb-true t u e)))) (λ (e : is_in u below ≡ true). e) (or_cases (eqb t u) (is_in u below) (k.all u h c.1));
}
