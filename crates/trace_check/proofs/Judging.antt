-- What the pass over a text has found: with one line more, and at its end.
use Rattle.std.proofs.Common.{◌≡◌, ℕ, ◌+◌, ◌<◌, ◌≤◌, ◌⊎◌, inl, inr, List, [], ◌∷◌, Bool, true, false, Option, Some, None, length, get_or, refl, sym, subst, arith}
use Rattle.std.specs.Prelude.{◌==◌, ◌≢◌, All}
use Rattle.std.proofs.lemmas.Bool.{eqb-true, true≢false}
use Rattle.std.specs.Bool.{Decides}
use Rattle.std.proofs.lemmas.List.{length-map}
use Rattle.sloth_base.specs.Arrivals.{AreArrivals}
use Rattle.sloth_base.specs.declared.app.App.{App}
use Rattle.sloth_base.specs.declared.config.Config.{Config}
use Rattle.sloth_base.specs.declared.config.CounterDecl.{CounterDecl}
use Rattle.sloth_base.specs.declared.service.Arrival.{Arrival}
use Rattle.sloth_base.specs.declared.service.Event.{Event}
use Rattle.sloth_base.specs.declared.service.Event.TheVariants as event
use Rattle.sloth_base.specs.declared.service.Stamped.{Stamped}
use Rattle.sloth_base.specs.Events.{admitted_line}
use Rattle.sloth_base.specs.ConfigRange.{InRange}
use Rattle.sloth_base.specs.ImageRange.{AreNames, AreNamesApart}
use Rattle.code_rules.specs.WellFormed.{WellFormed}
use Rattle.sloth_base.specs.Owners.{IsOwned, owners_in}
use Rattle.sloth_base.specs.Limits.{counter_limit}
use Rattle.sloth_base.proofs.Owners.{IsCounterLine, owned_cases}
use Rattle.osek_scheduler.specs.InTime.{InTime}
use Rattle.trace_text.specs.EventNumbers.{HasEventNumbers}
use Rattle.trace_check.specs.Counts.{AreLinesInRange, IsLineInRange}
use Rattle.trace_check.specs.TraceText.{AreReadable, HasNoFirstLine, HasLine, IsFirstBad, IsEventText}
use Rattle.sloth_base.specs.DeclaredNames.{AreNamesOf, task_names, counter_names, function_names}
use Rattle.sloth_base.specs.declared.config.DeclaredNames.{DeclaredNames}
use Rattle.trace_check.proofs.ReadEvents.{HasRead}
use Rattle.trace_check.specs.Walk.{HasStrayAt, IsWalked, IsWalkOrStray, Walk}
use Rattle.trace_check.proofs.TraceText.{reads_all}

-- the admissions of events that have lines are of numbers of 32 bits
line_small : (tasks functions counters : ℕ) → counters ≤ counter_limit → (e : Event) → HasEventNumbers tasks functions counters e → IsLineInRange (admitted_line e)
line_small tasks functions counters few (event.Admit t) h = h.word
line_small tasks functions counters few (event.Due c) h = let inside = h.inside in omega (arith, inside, few)
line_small tasks functions counters few e h = tt

pub lines_small : (tasks functions counters : List (List ℕ)) → length counters ≤ counter_limit → (events : List Stamped) → All (HasLine tasks functions counters) events
    → AreLinesInRange events
lines_small tasks functions counters few events h k d l =
    line_small (length tasks) (length functions) (length counters) few (get_or events k d).event (h k d l).numbers

-- the names of the counters are few
pub few_names : (config : Config) → length config.counters ≤ counter_limit → length (counter_names config) ≤ counter_limit
few_names config few = let long = length-map config.counters (λ (c : CounterDecl). c.name) in omega (arith, long, few)

-- ---- names that were made, in the place of those of the configuration and its task code

-- text is left
pub is_left : (rest : List ℕ) → (length rest == 0) ≡ false → rest ≢ []
is_left [] h e = true≢false h
is_left (x ∷ rest) h e = cc

module _ (config : Config) (app : App) (names : DeclaredNames) (named : AreNamesOf config app names) where
  -- lines are read by them
  pub readable : WellFormed config app → AreReadable names
  readable well_formed =
      let range = well_formed.in_range in
      let P : List (List ℕ) → List (List ℕ) → Type 0 = λ cs ts. AreNamesApart cs ts in
      record {
        tasks = subst AreNames (sym named.tasks) range.configuration.task_names;
        funcs = subst AreNames (sym named.funcs) range.func_names;
        counters = subst AreNames (sym named.counters) range.configuration.counter_names;
        apart = subst (λ (cs : List (List ℕ)). P cs names.tasks) (sym named.counters)
            (subst (λ (ts : List (List ℕ)). P (counter_names config) ts) (sym named.tasks) range.configuration.counters_apart);
      }

  pub all_read : (text rest : List ℕ) (events : List Stamped) → HasRead names.tasks names.funcs names.counters text events rest
      → HasRead (task_names config) (function_names app) (counter_names config) text events rest
  all_read text rest events reads =
      let P : List (List ℕ) → List (List ℕ) → List (List ℕ) → Type 0 = λ ts fs cs. HasRead ts fs cs text events rest in
      subst (λ (ts : List (List ℕ)). P ts (function_names app) (counter_names config)) named.tasks
      (subst (λ (fs : List (List ℕ)). P names.tasks fs (counter_names config)) named.funcs
      (subst (λ (cs : List (List ℕ)). P names.tasks names.funcs cs) named.counters reads))

  none_begins : (rest : List ℕ) → HasNoFirstLine names.tasks names.funcs names.counters rest → HasNoFirstLine (task_names config) (function_names app) (counter_names config) rest
  none_begins rest none =
      let P : List (List ℕ) → List (List ℕ) → List (List ℕ) → Type 0 = λ ts fs cs. HasNoFirstLine ts fs cs rest in
      subst (λ (ts : List (List ℕ)). P ts (function_names app) (counter_names config)) named.tasks
      (subst (λ (fs : List (List ℕ)). P names.tasks fs (counter_names config)) named.funcs
      (subst (λ (cs : List (List ℕ)). P names.tasks names.funcs cs) named.counters none))

  -- the line behind those that were read is no event's
  pub bad_line : (text rest : List ℕ) (events : List Stamped) → HasRead names.tasks names.funcs names.counters text events rest → (length rest == 0) ≡ false
      → HasNoFirstLine names.tasks names.funcs names.counters rest → (k : ℕ) → k ≡ length events + 1
      → IsFirstBad (task_names config) (function_names app) (counter_names config) text k
  bad_line text rest events reads left none k is =
      let read = all_read text rest events reads in
      record { front = events; rest = rest; lines = read.lines; is = read.is; line = is; more = is_left rest left; bad = none_begins rest none }

-- the lines of arrivals are numbers of 32 bits
line_word : (config : Config) → InRange config → (line : ℕ) → IsOwned (owners_in config) line → line < 4294967296
line_word config range line owned = by (owned_cases (owners_in config) line owned)
  where
    by : (line < length config.tasks) ⊎ ((c : ℕ) × IsCounterLine (owners_in config) line c) → line < 4294967296
    by (inl below) = let few = range.few_tasks in omega (arith, below, few)
    by (inr counter) =
        let few = range.few_counters in
        let declared = counter.1.declared in
        let is = counter.1.is in
        omega (arith, declared, is, few)

pub line_words : (config : Config) (arrivals : List Arrival) → InRange config → AreArrivals (owners_in config) arrivals
    → All (λ a. a.line < 4294967296) arrivals
line_words config arrivals range are k d l = line_word config range (get_or arrivals k d).line (are.lines_owned k d l)

module _ (config : Config) (app : App) (events : List Stamped) (stray : Option ℕ) (walk : Walk) (h : IsWalkOrStray config app events stray walk) where
  pub stray_at : (k : ℕ) → stray ≡ Some k → HasStrayAt config app events k
  stray_at k is = let P : Option ℕ → Type 0 = λ o. IsWalkOrStray config app events o walk in subst P is h

  pub none_strays : stray ≡ None → IsWalked config app events walk
  none_strays is = let P : Option ℕ → Type 0 = λ o. IsWalkOrStray config app events o walk in subst P is h

empty : (text : List ℕ) → length text ≡ 0 → text ≡ []
empty [] h = refl
empty (x ∷ text) h = absurd (omega (arith, h))

-- all of the text was read
pub shows_all : (tasks functions counters : List (List ℕ)) (text rest : List ℕ) (events : List Stamped) → HasRead tasks functions counters text events rest
    → (length rest == 0) ≡ true → IsEventText tasks functions counters events text
shows_all tasks functions counters text rest events reads none =
    reads_all tasks functions counters text events rest reads (empty rest (eqb-true (length rest) 0 none))

-- whether the events are in time, by equal numbers of instructions and arrivals
pub in_time_at : (b : Bool) (set config : Config) (m n : ℕ) (given arrivals : List Arrival) (events : List Stamped) → set ≡ config → m ≡ n → given ≡ arrivals
    → Decides b (InTime set m given events) → Decides b (InTime config n arrivals events)
in_time_at b set config m n given arrivals events same_set same_n same decides =
    let P : Config → ℕ → List Arrival → Type 0 = λ c k list. Decides b (InTime c k list events) in
    subst (λ (c : Config). P c n arrivals) same_set (subst (λ (k : ℕ). P set k arrivals) same_n (subst (λ (list : List Arrival). P set m list) same decides))
