-- The instructions of masked code, as the run shows them.
use Rattle.std.proofs.Common.{◌≡◌, ℕ, zero, suc, ◌+◌, ◌<◌, List, [], ◌∷◌, length, refl, sym, ap, ◌∙◌, subst, arith, true, false, cond, Some, None}
use Rattle.sloth_base.specs.declared.service.Arrival.{Arrival}
use Rattle.sloth_base.specs.declared.numbers.Step.{Step}
use Rattle.sloth_base.specs.Machine.{State}
use Rattle.sloth_base.specs.Arrive.{state_arrive}
use Rattle.sloth_base.specs.Choose.{choose}
use Rattle.sloth_base.specs.Take.{entry_state, execution_state}
use Rattle.rv32_instr.specs.Ram.{word_at}
use Rattle.rv32_instr.specs.Execute.{Going, step, touched}
use Rattle.rv32_machine.specs.Advance.{Goes, outcome, observed_step, advance}
use Rattle.rv32_machine.specs.Run.{moment, state_with_arrivals, state_after_from, on_goes}
use Rattle.masked_code.specs.Masked.{Steps}
use Rattle.masked_code.specs.Trace.{Trace}
use Rattle.observe.specs.Observe.{last_of}
use Rattle.sim_induction.specs.Admits.{lines_at}
use Rattle.sim_induction.specs.Advances.{RunTo}
use Rattle.sim_induction.specs.Observed.{trace_of, AreFrom}

pub going_moment : (arrivals : List Arrival) (k : ℕ) (m x : State) → step (execution_state (state_with_arrivals arrivals k m)) ≡ Going x → moment arrivals k m ≡ Goes (observed_step k (state_with_arrivals arrivals k m) x) x
unfolding advance
going_moment arrivals k m x h = ap (outcome k (state_with_arrivals arrivals k m)) h

-- with MIE 0 no line is taken
pub none_taken : (m : State) → m.core.mie ≡ false → execution_state m ≡ m
none_taken m e = ap (λ o. entry_state o m) (ap (λ b. cond b (choose m.core) None) e)

pub masked_moment : (arrivals : List Arrival) (k : ℕ) (m x : State) → m.core.mie ≡ false → step (state_arrive (lines_at arrivals k) m) ≡ Going x → moment arrivals k m ≡ Goes (observed_step k (state_with_arrivals arrivals k m) x) x
masked_moment arrivals k m x e g = going_moment arrivals k m x (ap step (none_taken (state_with_arrivals arrivals k m) e) ∙ g)

-- each step but the last leaves MIE 0
abbrev pub Flags : List Step → Type 0
Flags [] = Unit {0}
Flags (s ∷ []) = s.enabled_after ≡ true
Flags (s ∷ t ∷ ts) = (s.enabled_after ≡ false) × Flags (t ∷ ts)

-- the step shows this state behind it
abbrev pub ShowsState : State → Step → Type 0
ShowsState x s = (s.regs ≡ x.core.registers) × (s.cur_after ≡ word_at x.core.ram 0)

pub flag_first : (m : State) (s : Step) (ss : List Step) → s.enabled_after ≡ m.core.mie → (ss ≡ [] → m.core.mie ≡ true) → ((ss ≡ [] → ⊥) → m.core.mie ≡ false) → Flags ss → Flags (s ∷ ss)
flag_first m s [] e o n f = e ∙ o refl
flag_first m s (t ∷ ts) e o n f = (e ∙ n (λ z. cc), f)

pub record MaskedRun (arrivals : List Arrival) (j k : ℕ) (m : State) (t : Trace) (x : State) : Type 0 where
  pub steps : List Step
  pub long : length steps ≡ j
  pub runs : RunTo arrivals j k m steps x
  pub trace : trace_of arrivals steps ≡ t
  pub from : AreFrom k steps
  pub flags : Flags steps
  pub nil : steps ≡ [] → x ≡ m
  pub some : (steps ≡ [] → ⊥) → m.core.mie ≡ false
  pub last : (s : Step) → s.count + 1 ≡ k → ShowsState m s → ShowsState x (last_of s steps) × ((last_of s steps).count + 1 ≡ k + j)

pub masked_steps : (arrivals : List Arrival) (j k : ℕ) (m : State) (t : Trace) (x : State) → Steps j k (lines_at arrivals) m t x → x.core.mie ≡ true → MaskedRun arrivals j k m t x
masked_steps arrivals zero k m t x h o = record {
  steps = [];
  long = refl;
  runs = (refl, h.1);
  trace = sym h.0;
  from = tt;
  flags = tt;
  nil = λ e. h.1;
  some = λ n. absurd (n refl);
  last = λ s e w. (subst (λ v. ShowsState v s) (sym h.1) w, omega arith);
}
masked_steps arrivals (suc j) k m t x h o =
    let m1 = h.1 in
    let r = masked_steps arrivals j (suc k) m1 h.3.0 x h.3.2 o in
    let n = state_with_arrivals arrivals k m in
    let s : Step = observed_step k n m1 in
    let one : suc k ≡ k + 1 = omega arith in
    record {
      steps = s ∷ r.steps;
      long = ap suc r.long;
      runs = (s, m1, masked_moment arrivals k m m1 h.0 h.2, (r.steps, refl, subst (λ i. RunTo arrivals j i m1 r.steps x) one r.runs));
      trace = ap (λ u. (lines_at arrivals k, touched (execution_state n)) ∷ u) r.trace ∙ ap (λ y. (lines_at arrivals k, touched y) ∷ h.3.0) (none_taken n h.0) ∙ sym h.3.1;
      from = (refl, subst (λ i. AreFrom i r.steps) one r.from);
      flags = flag_first m1 s r.steps refl (λ e. ap (λ (y : State). y.core.mie) (sym (r.nil e)) ∙ o) r.some r.flags;
      nil = λ e. cc;
      some = λ e. h.0;
      last = λ p e w. let q = r.last s (omega arith) (refl, refl) in (q.0, omega (arith, q.1));
    }

-- a state inside finds MIE 0
pub masked_inside : (arrivals : List Arrival) (j k : ℕ) (m : State) (t : Trace) (x : State) → Steps j k (lines_at arrivals) m t x → (i : ℕ) → i < j → (y : State) → state_after_from i arrivals k m ≡ Some y → y.core.mie ≡ false
unfolding state_after_from
masked_inside arrivals zero k m t x h i l y e = absurd (omega arith)
masked_inside arrivals (suc j) k m t x h zero l y e = let q : m ≡ y = cc in ap (λ (z : State). z.core.mie) (sym q) ∙ h.0
masked_inside arrivals (suc j) k m t x h (suc i) l y e =
    let one : k + 1 ≡ suc k = omega arith in
    masked_inside arrivals j (suc k) h.1 h.3.0 x h.3.2 i (omega arith) y
    (ap (λ n. state_after_from i arrivals n h.1) (sym one) ∙ sym (ap (λ o. on_goes o None (λ s z. state_after_from i arrivals (k + 1) z)) (masked_moment arrivals k m h.1 h.0 h.2)) ∙ e)

pub trace_long : (j k : ℕ) (A : ℕ → List ℕ) (m : State) (t : Trace) (x : State) → Steps j k A m t x → length t ≡ j
trace_long zero k A m t x h = ap length h.0
trace_long (suc j) k A m t x h = ap length h.3.1 ∙ ap suc (trace_long j (suc k) A h.1 h.3.0 x h.3.2)
