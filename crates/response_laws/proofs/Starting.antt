-- Where a busy period starts: at the last quiet state.
use Rattle.std.proofs.Common.{◌≡◌, ℕ, zero, suc, ◌<◌, ◌&&◌, ◌||◌, not, List, [], ◌∷◌, Bool, true, false, length, get_or, map, refl, sym, ap, ◌∙◌, arith}
use Rattle.std.proofs.lemmas.Bool.{and_from, and_right, true≢false, false_from_ne_true, le-leb, not_from_false}
use Rattle.sloth_base.specs.declared.config.Config.{Config}
use Rattle.sloth_base.specs.declared.config.CounterDecl.{CounterDecl}
use Rattle.sloth_base.specs.declared.app.App.{App}
use Rattle.osek_scheduler.specs.declared.state.Counter.{Counter}
use Rattle.osek_scheduler.specs.State.{Task, System, no_counter, counter, opening}
use Rattle.osek_scheduler.specs.Priority.{IsDue, is_active}
use Rattle.osek_scheduler.specs.Next.{is_ready, is_due, all_below}
use Rattle.osek_scheduler.proofs.Tests.{Decides-is_due}
use Rattle.osek_scheduler.specs.Apart.{static_priority}
use Rattle.osek_scheduler.proofs.Steps.{asleep_at}
use Rattle.run_counts.specs.Stages.{Stage}
use Rattle.response_laws.specs.Sums.{is_over}
use Rattle.response_laws.specs.Busy.{is_quiet}
use Rattle.response_laws.proofs.Period.{not_due}

all_so : (n : ℕ) (test : ℕ → Bool) → ((j : ℕ) → test j ≡ true) → all_below n test ≡ true
all_so zero test each = refl
all_so (suc n) test each = and_from (test n) (all_below n test) (each n) (all_so n test each)

same_counters : (ds : List CounterDecl) (c : ℕ) → get_or (map (λ _. no_counter) ds) c no_counter ≡ no_counter
same_counters [] c = refl
same_counters (d ∷ ds) zero = refl
same_counters (d ∷ ds) (suc c) = same_counters ds c

module _ (config : Config) (h : ℕ) where
  -- before boot all is quiet
  pub opening_quiet : (app : App) → is_quiet config h (opening config app) ≡ true
  opening_quiet app =
      and_from _ _
      (all_so (length config.tasks) (λ t. not (is_over config h t && is_due (opening config app) t))
      (λ t. not_from_false _ (and_right (is_over config h t) (is_due (opening config app) t)
      (ap (λ (k : Task). is_ready k.state || is_active k.state) (asleep_at config.tasks t)))))
      (all_so (length config.counters) (λ c. not (counter (opening config app) c).due)
      (λ c. ap (λ (k : Counter). not k.due) (same_counters config.counters c)))

  pub over_itself : is_over config h h ≡ true
  over_itself = le-leb (static_priority config h) (static_priority config h) (omega arith)

  -- while task h is due, nothing is quiet
  pub due_busy : (s : System) → h < length config.tasks → IsDue s h → is_quiet config h s ≡ false
  due_busy s declared due =
      false_from_ne_true (is_quiet config h s)
      (λ quiet.
      let none = not_due config h s quiet h declared over_itself in
      true≢false (sym ((Decides-is_due s h).1 due) ∙ none))

  abbrev pub IsBusy : Stage → Type 0
  IsBusy x = is_quiet config h x.found ≡ false
