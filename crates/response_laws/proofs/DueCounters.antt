-- Counters that are due: since which arrival, and no more ticks than arrivals.
use Rattle.std.proofs.Common.{◌≡◌, ℕ, ◌+◌, ◌≤◌, ◌⊎◌, List, [], ◌∷◌, ◌++◌, Bool, true, false, cond, refl, sym, ap, ◌∙◌, subst, arith, inl, inr, append_assoc, append-nil}
use Rattle.std.specs.Prelude.{AllPairs}
use Rattle.std.specs.List.{AllByRecursion}
use Rattle.std.proofs.lemmas.Bool.{cases_Bool, false≢true, eqb-true, eq-eqb}
use Rattle.sloth_base.specs.Options.{is_number}
use Rattle.sloth_base.specs.Events.{admitted_line}
use Rattle.sloth_base.specs.declared.config.Config.{Config}
use Rattle.sloth_base.specs.declared.app.App.{App}
use Rattle.sloth_base.specs.declared.service.Event.{Event}
use Rattle.sloth_base.specs.declared.service.Event.TheVariants as event
use Rattle.sloth_base.specs.declared.service.Stamped.{Stamped}
use Rattle.sloth_base.specs.Owners.{counter_line}
use Rattle.code_rules.specs.WellFormed.{WellFormed}
use Rattle.osek_scheduler.specs.State.{System, counter, opening}
use Rattle.osek_scheduler.specs.InTime.{IsOrdered}
use Rattle.osek_scheduler.specs.Runs.{AreStepsTo}
use Rattle.osek_scheduler.specs.Steps.{OsekStep}
use Rattle.response_laws.specs.Turns.{ticking_counter}
use Rattle.response_laws.proofs.Linked.{each_joined}
use Rattle.response_laws.proofs.Never.{undue_at}
use Rattle.response_laws.proofs.Ordering.{ahead}
use Rattle.response_laws.proofs.Steps.{due_count, at_most_one, balance}

-- how many of these events pass a test
abbrev pub number : (Stamped → Bool) → List Stamped → ℕ
number test [] = 0
number test (e ∷ es) = cond (test e) 1 0 + number test es

-- what events that stand behind others owe one another
pub pairs_behind : (before xs : List Stamped) → AllPairs IsOrdered (before ++ xs) → AllPairs IsOrdered xs
pairs_behind [] xs pairs = pairs
pairs_behind (y ∷ before) xs pairs = pairs_behind before xs (ahead y (before ++ xs) pairs).1

-- a tick of counter c, and an admission of its line
abbrev pub is_tick : (c : ℕ) → Stamped → Bool
is_tick c e = is_number c (ticking_counter e.event)

abbrev pub is_arrival : (c : ℕ) → Stamped → Bool
is_arrival c e = is_number (counter_line c) (admitted_line e.event)

pub at_its_tick : (c : ℕ) (e : Stamped) → e.event ≡ event.Tick c → is_tick c e ≡ true
at_its_tick c e is = ap (λ x. is_number c (ticking_counter x)) is ∙ eq-eqb c c refl

pub at_its_arrival : (c : ℕ) (e : Stamped) → e.event ≡ event.Due c → is_arrival c e ≡ true
at_its_arrival c e is = ap (λ x. is_number (counter_line c) (admitted_line x)) is ∙ eq-eqb (counter_line c) (counter_line c) refl

module _ (config : Config) (app : App) (wf : WellFormed config app) (c : ℕ) where
  abbrev line : ℕ
  line = counter_line c

  -- it ticks no more often than it arrives
  pub balanced : (es : List Stamped) (s end : System) → AreStepsTo config app es s end → number (is_tick c) es + due_count c end ≤ number (is_arrival c) es + due_count c s
  balanced [] s end leads = let same = ap (λ (x : System). due_count c x) leads in omega (arith, same)
  balanced (e ∷ es) s end leads =
      let rest = balanced es leads.0 end leads.2 in
      let here = (balance config app c e.event s leads.0 leads.1).1 in
      omega (arith, rest, here)

  -- where it is due, it has arrived, and no tick of it stands behind that
  pub data DueSince (past : List Stamped) (s : System) : Type 0 where
    undue : (counter s c).due ≡ false → DueSince past s
    arrived : (front : List Stamped) (arrival : Stamped) (rest : List Stamped) → past ≡ front ++ arrival ∷ rest → arrival.event ≡ event.Due c
        → AllByRecursion (λ e. is_tick c e ≡ false) rest → DueSince past s

  -- an admission of its line is its arrival
  arrives : (e : Event) (s next : System) → OsekStep config app e s next → is_number line (admitted_line e) ≡ true → e ≡ event.Due c
  arrives (event.Admit u) s next h is =
      let same = eqb-true u line is in
      let few = wf.in_range.configuration.few_tasks in
      let lt = h.1 in
      absurd (omega (arith, same, few, lt))
  arrives (event.Due d) s next h is = let same = eqb-true (counter_line d) line is in ap (λ v. event.Due v) (omega (arith, same))
  arrives e s next h is = absurd (false≢true is)

  due_on : (past : List Stamped) (s : System) (e : Stamped) (next : System) → OsekStep config app e.event s next → DueSince past s → DueSince (past ++ e ∷ []) next
  due_on past s e next step so = by (counter next c).due refl (cases_Bool (is_arrival c e)) so
    where
      here : cond (is_tick c e) 1 0 + due_count c next ≤ cond (is_arrival c e) 1 0 + due_count c s
      here = (balance config app c e.event s next step).1

      unticked : (counter next c).due ≡ true → is_arrival c e ≡ false → is_tick c e ≡ false
      unticked due off = which (cases_Bool (is_tick c e))
        where
          which : (is_tick c e ≡ true) ⊎ (is_tick c e ≡ false) → is_tick c e ≡ false
          which (inr none) = none
          which (inl is) =
              let all = here in
              let one = ap {B = ℕ} (λ b. cond b 1 0) is in
              let now = ap {B = ℕ} (λ b. cond b 1 0) due in
              let none = ap {B = ℕ} (λ b. cond b 1 0) off in
              let most = at_most_one (counter s c).due in
              absurd (omega (arith, all, one, now, none, most))

      by : (b : Bool) → (counter next c).due ≡ b → (is_arrival c e ≡ true) ⊎ (is_arrival c e ≡ false) → DueSince past s → DueSince (past ++ e ∷ []) next
      by false is which so = undue is
      by true is (inl admits) so = arrived past e [] refl (arrives e.event s next step admits) tt
      by true is (inr off) (undue was) =
          let all = here in
          let now = ap {B = ℕ} (λ b. cond b 1 0) is in
          let none = ap {B = ℕ} (λ b. cond b 1 0) off in
          let before = ap {B = ℕ} (λ b. cond b 1 0) was in
          absurd (omega (arith, all, now, none, before))
      by true is (inr off) (arrived front arrival rest at due none) =
          arrived front arrival (rest ++ e ∷ []) (ap (λ es. es ++ e ∷ []) at ∙ append_assoc front (arrival ∷ rest) (e ∷ [])) due
          (each_joined (λ x. is_tick c x ≡ false) rest (e ∷ []) none (unticked is off, tt))

  due_along : (past es : List Stamped) (s end : System) → AreStepsTo config app es s end → DueSince past s → DueSince (past ++ es) end
  due_along past [] s end leads so = subst (λ p. DueSince p end) (sym (append-nil past)) (subst (λ x. DueSince past x) (sym leads) so)
  due_along past (e ∷ es) s end leads so =
      subst (λ p. DueSince p end) (append_assoc past (e ∷ []) es) (due_along (past ++ e ∷ []) es leads.0 end leads.2 (due_on past s e leads.0 leads.1 so))

  pub due_since : (before : List Stamped) (found : System) → AreStepsTo config app before (opening config app) found → DueSince before found
  due_since before found leads = due_along [] before (opening config app) found leads (undue (undue_at config.counters c))
