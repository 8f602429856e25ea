-- A task that leaves once at most is entered once at most.
use Rattle.std.proofs.Common.{◌≡◌, ℕ, ◌+◌, ◌≤◌, ◌⊎◌, List, [], ◌∷◌, ◌++◌, Bool, true, false, cond, ap, subst, arith, inl, inr}
use Rattle.std.specs.List.{AllByRecursion}
use Rattle.std.proofs.lemmas.Bool.{cases_Bool, false≢true, eqb-true}
use Rattle.sloth_base.specs.declared.config.Config.{Config}
use Rattle.sloth_base.specs.declared.app.App.{App}
use Rattle.sloth_base.specs.declared.service.Event.{Event}
use Rattle.sloth_base.specs.declared.service.Event.TheVariants as event
use Rattle.osek_scheduler.specs.declared.state.TaskState.TheVariants as mode
use Rattle.osek_scheduler.specs.State.{System, task}
use Rattle.osek_scheduler.specs.Priority.{is_active}
use Rattle.osek_scheduler.specs.Steps.{OsekStep}
use Rattle.osek_scheduler.proofs.Facts.{Facts}
use Rattle.osek_scheduler.proofs.Tests.{Decides-is_active}
use Rattle.run_counts.specs.Stages.{Stage, end_of, is_entry}
use Rattle.run_counts.specs.Rounds.{is_left}
use Rattle.response_laws.specs.Sums.{count}
use Rattle.response_laws.specs.Turns.{at_entry}
use Rattle.run_counts.proofs.Awake.{stays_active, entry_active}
use Rattle.response_laws.proofs.Linked.{Known, Linked, last_state, linked_front, linked_behind, each_append}
use Rattle.response_laws.proofs.Sums.{total-append}

module _ (config : Config) (app : App) (w : Facts config app) (h : ℕ) where
  abbrev pub active_count : System → ℕ
  active_count s = cond (is_active (task s h).state) 1 0

  abbrev pub at_left : Stage → Bool
  at_left x = is_left h x.stamped.event

  entry_idle : (e : Event) (s next : System) → OsekStep config app e s next → is_entry h e ≡ true → is_active (task s h).state ≡ false
  entry_idle (event.Enter u) s next step is = ap is_active (subst (λ v. (task s v).state ≡ mode.Ready) (eqb-true u h is) step.2)
  entry_idle e s next step is = absurd (false≢true is)

  balance : (x : Stage) → Known config app x → cond (at_entry h x) 1 0 + active_count x.found ≤ cond (at_left x) 1 0 + active_count x.next
  balance x k = by (cases_Bool (at_entry h x)) (cases_Bool (is_active (task x.found h).state)) (cases_Bool (at_left x))
    where
      by : (at_entry h x ≡ true) ⊎ (at_entry h x ≡ false) → (is_active (task x.found h).state ≡ true) ⊎ (is_active (task x.found h).state ≡ false)
          → (at_left x ≡ true) ⊎ (at_left x ≡ false) → cond (at_entry h x) 1 0 + active_count x.found ≤ cond (at_left x) 1 0 + active_count x.next
      by (inl entry) a l =
          let idle = ap {B = ℕ} (λ b. cond b 1 0) (entry_idle x.stamped.event x.found x.next k.step entry) in
          let one = ap {B = ℕ} (λ b. cond b 1 0) entry in
          let on = entry_active config app h x.stamped.event x.found x.next k.step k.valid entry in
          let active = ap {B = ℕ} (λ m. cond (is_active m) 1 0) on in
          omega (arith, idle, one, active)
      by (inr away) (inr idle) l =
          let zero = ap {B = ℕ} (λ b. cond b 1 0) away in
          let none = ap {B = ℕ} (λ b. cond b 1 0) idle in
          omega (arith, zero, none)
      by (inr away) (inl active) (inl left) =
          let zero = ap {B = ℕ} (λ b. cond b 1 0) away in
          let one = ap {B = ℕ} (λ b. cond b 1 0) active in
          let gone = ap {B = ℕ} (λ b. cond b 1 0) left in
          omega (arith, zero, one, gone)
      by (inr away) (inl active) (inr stays) =
          let zero = ap {B = ℕ} (λ b. cond b 1 0) away in
          let one = ap {B = ℕ} (λ b. cond b 1 0) active in
          let on = stays_active config app h x.stamped.event x.found x.next k.step k.valid stays ((Decides-is_active (task x.found h).state).0 active) in
          let still = ap {B = ℕ} (λ m. cond (is_active m) 1 0) on in
          omega (arith, zero, one, still)

  all_balance : (at : ℕ) (s : System) (xs : List Stage) → Linked at s xs → AllByRecursion (Known config app) xs
      → count (at_entry h) xs + active_count s ≤ count at_left xs + active_count (last_state s xs)
  all_balance at s [] l k = omega arith
  all_balance at s (x ∷ xs) l k =
      let rest = all_balance (end_of x) x.next xs l.2 k.1 in
      let here = balance x k.0 in
      let same = ap active_count l.1 in
      omega (arith, rest, here, same)

  pub entered_once : (at : ℕ) (s : System) (xs : List Stage) (x : Stage) → Linked at s (xs ++ x ∷ []) → AllByRecursion (Known config app) (xs ++ x ∷ [])
      → count at_left xs ≤ active_count s → count (at_entry h) (xs ++ x ∷ []) ≤ 1
  entered_once at s xs x l k few =
      let ks = each_append (Known config app) xs (x ∷ []) k in
      let front = all_balance at s xs (linked_front at s xs (x ∷ []) l) ks.0 in
      let behind = linked_behind at s xs (x ∷ []) l in
      let both = total-append (λ y. cond (at_entry h y) 1 0) xs (x ∷ []) in
      let last = by (cases_Bool (at_entry h x)) in
      let same = ap active_count behind.1 in
      omega (arith, front, few, both, last, same)
    where
      few_active : (b : Bool) → cond b 1 0 ≤ 1
      few_active true = omega arith
      few_active false = omega arith

      by : (at_entry h x ≡ true) ⊎ (at_entry h x ≡ false) → cond (at_entry h x) 1 0 + active_count x.found ≤ 1
      by (inl entry) =
          let own = (each_append (Known config app) xs (x ∷ []) k).1.0 in
          let idle = ap {B = ℕ} (λ b. cond b 1 0) (entry_idle x.stamped.event x.found x.next own.step entry) in
          let one = ap {B = ℕ} (λ b. cond b 1 0) entry in
          omega (arith, idle, one)
      by (inr away) =
          let zero = ap {B = ℕ} (λ b. cond b 1 0) away in
          let most = few_active (is_active (task x.found h).state) in
          omega (arith, zero, most)
