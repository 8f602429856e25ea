-- The tasks that a tick looks at.
use Rattle.std.proofs.Common.{◌≡◌, ℕ, ◌+◌, ◌<◌, ◌≤◌, List, [], ◌∷◌, length, refl, sym, ◌∙◌, arith, Bool, true, false, cond}
use Rattle.std.specs.Prelude.{◌==◌, count_by}
use Rattle.std.specs.List.{AllByRecursion}
use Rattle.std.proofs.lemmas.List.Sums.{sum_by-cons}
use Rattle.sloth_base.specs.declared.config.Action.{Action}
use Rattle.sloth_base.specs.declared.config.Action.TheVariants.{Activate, Set}
use Rattle.sloth_base.specs.declared.config.AlarmDecl.{AlarmDecl}
use Rattle.service_gen.specs.declared.tick_code.NumberedAlarm.{NumberedAlarm}
use Rattle.service_gen.specs.Alarms.{alarms_from, is_target, tasks_before_later, targets}
use Rattle.sim_relation.specs.Build.{Build}
use Rattle.sim_routines.proofs.Acting.{ActsOn}

-- a fact on the task whose events an action sets
abbrev pub OnTarget : (ℕ → Type 0) → Action → Type 0
OnTarget P (Activate t) = Unit {0}
OnTarget P (Set t mask) = P t

each_before : (P : ℕ → Type 0) (action : Action) (later : List NumberedAlarm) (ts : List ℕ) → OnTarget P action → AllByRecursion P ts
    → AllByRecursion P (tasks_before_later action later ts)
each_before P (Activate t) later ts own h = h
each_before P (Set t mask) later ts own h = by (is_target t later)
  where
    by : (is : Bool) → AllByRecursion P (cond is ts (t ∷ ts))
    by true = h
    by false = (own, h)

-- what holds of the task of each action holds of those that are looked at
pub each_target : (P : ℕ → Type 0) (alarms : List NumberedAlarm) → AllByRecursion (λ (n : NumberedAlarm). OnTarget P n.action) alarms → AllByRecursion P (targets alarms)
each_target P [] h = tt
each_target P (first ∷ later) h = each_before P first.action later (targets later) h.0 (each_target P later h.1)

-- a fact on the actions of a counter's alarms
pub each_from : (P : Action → Type 0) (c first : ℕ) (ds : List AlarmDecl) → AllByRecursion (λ (d : AlarmDecl). P d.action) ds
    → AllByRecursion (λ (n : NumberedAlarm). P n.action) (alarms_from c first ds)
each_from P c first [] h = tt
each_from P c first (d ∷ later) h = by (d.counter == c) (each_from P c (first + 1) later h.1)
  where
    by : (is : Bool) → AllByRecursion (λ (n : NumberedAlarm). P n.action) (alarms_from c (first + 1) later)
        → AllByRecursion (λ (n : NumberedAlarm). P n.action) (cond is (record { number = first; action = d.action } ∷ alarms_from c (first + 1) later) (alarms_from c (first + 1) later))
    by true rest = (h.0, rest)
    by false rest = rest

few_before : (action : Action) (later : List NumberedAlarm) (ts : List ℕ) → length (tasks_before_later action later ts) ≤ length ts + 1
few_before (Activate t) later ts = omega arith
few_before (Set t mask) later ts = by (is_target t later)
  where
    by : (is : Bool) → length (cond is ts (t ∷ ts)) ≤ length ts + 1
    by true = omega arith
    by false = omega arith

-- they are no more than the alarms
pub few_targets : (alarms : List NumberedAlarm) → length (targets alarms) ≤ length alarms
few_targets [] = omega arith
few_targets (first ∷ later) =
    let rest = few_targets later in
    let own = few_before first.action later (targets later) in
    omega (arith, rest, own)

-- the alarms of a counter are as many as its number of alarms says
pub length-alarms_from : (c first : ℕ) (ds : List AlarmDecl) → length (alarms_from c first ds) ≡ count_by (λ (d : AlarmDecl). d.counter == c) ds
length-alarms_from c first [] = refl
length-alarms_from c first (d ∷ later) =
    by (d.counter == c) (length-alarms_from c (first + 1) later) ∙ sym (sum_by-cons (λ (d : AlarmDecl). cond (d.counter == c) 1 0) d later)
  where
    by : (is : Bool) → length (alarms_from c (first + 1) later) ≡ count_by (λ (d : AlarmDecl). d.counter == c) later
        → length (cond is (record { number = first; action = d.action } ∷ alarms_from c (first + 1) later) (alarms_from c (first + 1) later))
        ≡ cond is 1 0 + count_by (λ (d : AlarmDecl). d.counter == c) later
    by true e = omega (arith, e)
    by false e = omega (arith, e)

-- the tasks on which actions act
pub target_acts : (b : Build) (action : Action) → ActsOn b action → OnTarget (λ t. t < length b.config.tasks) action
target_acts b (Activate t) h = tt
target_acts b (Set t mask) h = h.0
