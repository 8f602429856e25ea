-- What makes nothing: boot but for the tasks that start with the system, a GetResource, an item that is no call.
use Rattle.std.proofs.Common.{◌≡◌, ℕ, zero, suc, ◌≤◌, ◌==◌, ◌&&◌, List, [], ◌∷◌, Bool, true, false, cond, get_or, refl, sym, ap, ◌∙◌, subst, arith, Some}
use Rattle.sloth_base.proofs.Services.{same_service}
use Rattle.std.proofs.lemmas.Bool.{eq-eqb, true≢false, false≢true}
use Rattle.sloth_base.specs.declared.config.Config.{Config}
use Rattle.sloth_base.specs.declared.config.TaskDecl.{TaskDecl}
use Rattle.sloth_base.specs.declared.app.App.{App}
use Rattle.sloth_base.specs.declared.app.Op.{Op}
use Rattle.sloth_base.specs.declared.app.Op.TheVariants as op
use Rattle.sloth_base.specs.declared.service.Service.{Service}
use Rattle.sloth_base.specs.declared.service.Service.TheVariants as service
use Rattle.sloth_base.specs.Named.{undeclared_task}
use Rattle.sloth_base.specs.ServiceCodes.{is_service}
use Rattle.osek_scheduler.specs.declared.state.TaskState.TheVariants as mode
use Rattle.osek_scheduler.specs.State.{Task, System, sleeping_task, task}
use Rattle.osek_scheduler.specs.Meaning.{meaning}
use Rattle.osek_scheduler.specs.Steps.{IsItemStep, autostarted_tasks}
use Rattle.osek_blocking.specs.Walks.{Position}
use Rattle.osek_blocking.specs.Sections.{operation_at}
use Rattle.walk_sums.specs.Weights.{going_at}
use Rattle.walk_sums.specs.declared.counted.Counted.{Counted}
use Rattle.walk_sums.specs.declared.counted.Counted.TheVariants as counts
use Rattle.walk_sums.specs.Counted.{one_if, calls, is_going_counted, counted_weights}
use Rattle.response_laws.specs.Walked.{standing}
use Rattle.response_laws.specs.CodeStarts.{is_call}
use Rattle.response_laws.proofs.Counting.{counted_going}
use Rattle.response_laws.proofs.Steps.{activated_between, not_activated, at_most_one}

-- ---- boot

pub booted_acts : (old : Task) (ds : List TaskDecl) (ts : List Task) (j : ℕ) → get_or ts j sleeping_task ≡ old
    → activated_between old (get_or (autostarted_tasks ds ts) j sleeping_task) ≤ cond (get_or ds j undeclared_task).autostart 1 0
booted_acts old [] ts j e = let none = ap (activated_between old) e in let same = not_activated old in omega (arith, none, same)
booted_acts old (d ∷ ds) [] j e = let none = ap (activated_between old) e in let same = not_activated old in omega (arith, none, same)
booted_acts old (d ∷ ds) (k ∷ ts) zero e = by d.autostart
  where
    by : (b : Bool) → activated_between old (cond b (record k { state = mode.Ready }) k) ≤ cond b 1 0
    by true = at_most_one _
    by false = let none = ap (activated_between old) e in let same = not_activated old in omega (arith, none, same)
booted_acts old (d ∷ ds) (k ∷ ts) (suc j) e = booted_acts old ds ts j e

pub itself : (t : ℕ) → (t == t) ≡ true
itself t = eq-eqb t t refl

-- ---- a GetResource makes nothing

abbrev pub is_making : Counted → Bool
is_making (counts.Activations j) = true
is_making (counts.Chains j) = true
is_making (counts.Settings j) = true
is_making (counts.Waits events) = false
is_making counts.Schedules = false
is_making (counts.Calls s) = false
is_making (counts.CallsFor s object) = false

pub activation_making : (own : Bool) (j : ℕ) → is_making (cond own (counts.Chains j) (counts.Activations j)) ≡ true
activation_making true j = refl
activation_making false j = refl

no_going : (c : Counted) → is_making c ≡ true → (o : Op) → calls service.GetResource o ≡ true → is_going_counted c o ≡ false
no_going c making (op.Serve call) is = by c making call.service (same_service call.service service.GetResource is)
  where
    by : (c : Counted) → is_making c ≡ true → (s : Service) → s ≡ service.GetResource → is_going_counted c (op.Serve (record call { service = s })) ≡ false
    by (counts.Activations j) m s e = subst (λ v. (is_service v service.ActivateTask && (call.object == j)) ≡ false) (sym e) refl
    by (counts.Chains j) m s e = refl
    by (counts.Settings j) m s e = subst (λ v. (is_service v service.SetEvent && (call.object == j)) ≡ false) (sym e) refl
    by (counts.Waits events) m s e = absurd (false≢true m)
    by counts.Schedules m s e = absurd (false≢true m)
    by (counts.Calls t) m s e = absurd (false≢true m)
    by (counts.CallsFor t object) m s e = absurd (false≢true m)
no_going c making op.Return is = absurd (false≢true is)
no_going c making o is = absurd (false≢true is)

pub no_take : (c : Counted) → is_making c ≡ true → (app : App) (at : Position) → calls service.GetResource (operation_at app at) ≡ true
    → going_at (counted_weights c app) at ≤ 0
no_take c making app at is =
    let same = counted_going c app at in
    let zero = ap one_if (no_going c making (operation_at app at) is) in
    omega (arith, same, zero)

-- ---- an item that is no call makes nothing

pub no_call_counts : (c : Counted) (o : Op) → is_call o ≡ false → is_going_counted c o ≡ false
no_call_counts c (op.Serve call) e = absurd (true≢false e)
no_call_counts (counts.Activations j) o e = refl
no_call_counts (counts.Chains j) o e = refl
no_call_counts (counts.Settings j) o e = refl
no_call_counts (counts.Waits events) o e = refl
no_call_counts counts.Schedules o e = refl
no_call_counts (counts.Calls s) o e = refl
no_call_counts (counts.CallsFor s object) o e = refl

pub runs_no_call : (config : Config) (app : App) (t func item result : ℕ) (s next : System) → IsItemStep config app t func item result s next
    → is_call (operation_at app (standing (task s t).frames)) ≡ false
runs_no_call config app t func item result s next h = place_is ∙ by h.operation h.means
  where
    place_is : is_call (operation_at app (standing (task s t).frames)) ≡ is_call h.operation
    place_is = ap (λ fs. is_call (operation_at app (standing fs))) h.at.frames ∙ ap is_call h.at.next

    by : (o : Op) → meaning app o (task s t).registers h.at.frame h.at.outer s.symbols ≡ Some h.meant → is_call o ≡ false
    by (op.Serve call) m = absurd (none m)
      where
        none : meaning app (op.Serve call) (task s t).registers h.at.frame h.at.outer s.symbols ≡ Some h.meant → ⊥
        none e = cc
    by op.Return m = refl
    by o m = refl
