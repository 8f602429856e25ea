-- Facts that every step keeps need no part in the laws of a relation.
use Rattle.std.proofs.Common.{◌≡◌, ℕ, zero, suc, ◌+◌, ◌<◌, ◌≤◌, List, [], ◌∷◌, length, sym, subst, true}
use Rattle.std.specs.Prelude.{map}
use Rattle.sloth_base.specs.declared.config.Config.{Config}
use Rattle.sloth_base.specs.declared.app.App.{App}
use Rattle.sloth_base.specs.declared.service.Arrival.{Arrival}
use Rattle.sloth_base.specs.declared.service.Event.{Event}
use Rattle.sloth_base.specs.declared.service.Event.TheVariants as event
use Rattle.sloth_base.specs.declared.service.Stamped.{Stamped}
use Rattle.sloth_base.specs.declared.numbers.Step.{Step}
use Rattle.sloth_base.specs.Machine.{State}
use Rattle.sloth_base.specs.Arrivals.{moments}
use Rattle.sloth_base.specs.Owners.{owners_in, IsOwned, AreOwned}
use Rattle.sloth_base.specs.Limits.{unseen_counts}
use Rattle.rv32_machine.specs.Advance.{Goes}
use Rattle.rv32_machine.specs.Run.{moment, state_with_arrivals}
use Rattle.osek_scheduler.specs.State.{System, opening}
use Rattle.osek_scheduler.specs.Steps.{OsekStep}
use Rattle.osek_scheduler.specs.Runs.{AreStepsTo}
use Rattle.sim_induction.specs.Mirror.{Mirror}
use Rattle.sim_induction.specs.Admits.{Setting, IsSetting, lines_at, with_admits, admit_event, arrivals_behind_event}
use Rattle.sim_induction.specs.Advances.{RunTo, Advances}
use Rattle.sim_induction.specs.PieceLaws.{Passed, BootLaw, IsMeasure}
use Rattle.sim_induction.specs.Related.{IsSimulation}
use Rattle.sim_induction.proofs.Follow.{leads_admits}
use Rattle.sim_induction.proofs.Schedule.{owned_at}
use Rattle.sim_induction.proofs.Traces.{lines_behind, lines_trace}
use Rattle.sim_induction.proofs.MaskedRun.{masked_steps}

-- what each instruction keeps, and each event
abbrev pub IsKeptByRuns : List Arrival → (State → Type 0) → Type 0
IsKeptByRuns arrivals I = (count : ℕ) (state next : State) (step : Step) → moment arrivals count state ≡ Goes step next → I state → I next

abbrev pub IsKeptByEvents : Config → App → (System → Type 0) → Type 0
IsKeptByEvents config app J = (what : Event) (s next : System) → OsekStep config app what s next → J s → J next

pub along_run : (arrivals : List Arrival) (I : State → Type 0) → IsKeptByRuns arrivals I → (j k : ℕ) (m x : State) (ss : List Step) → RunTo arrivals j k m ss x → I m → I x
along_run arrivals I keep zero k m x ss h i = subst I (sym h.1) i
along_run arrivals I keep (suc j) k m x ss h i = along_run arrivals I keep j (k + 1) h.1 x h.3.0 h.3.2 (keep k m h.1 h.0 h.2 i)

pub along_events : (c : Config) (app : App) (J : System → Type 0) → IsKeptByEvents c app J → (es : List Stamped) (s z : System) → AreStepsTo c app es s z → J s → J z
along_events c app J keep [] s z h j = subst J (sym h) j
along_events c app J keep (e ∷ es) s z h j = along_events c app J keep es h.0 z h.2 (keep e.event s h.0 h.1 j)

pub record With (R : State → System → Type 0) (I : State → Type 0) (J : System → Type 0) (m : State) (s : System) : Type 0 where
  pub base : R m s
  pub machine : I m
  pub system : J s

module _ (given : Setting) (setting : IsSetting given) (R : Passed → State → System → Type 0) (I : State → Type 0) (J : System → Type 0) (progress : State → System → ℕ)
    (keep_i : IsKeptByRuns given.arrivals I) (keep_j : IsKeptByEvents given.config given.app J) where
  admits_keep : (k : ℕ) (s : System) → s.booted ≡ true → J s → J (with_admits (lines_at given.arrivals k) s)
  admits_keep k s b j =
      along_events given.config given.app J keep_j (map admit_event (moments k (k + 1) given.arrivals)) s (with_admits (lines_at given.arrivals k) s)
      (leads_admits given.config given.app (moments k (k + 1) given.arrivals) s setting.few_tasks b (owned_at given setting k)) j

  pub strengthen : (passed : Passed) (k : ℕ) (m : State) (s : System) → s.booted ≡ true → With (R passed) I J m s → Advances given R progress passed k m s
      → Advances given (λ p. With (R p) I J) progress passed k m s
  strengthen passed k m s b w a = record {
    first = a.first;
    rest = a.rest;
    next = a.next;
    runs = a.runs;
    piece = a.piece;
    pieces_are = a.pieces_are;
    cut_is = a.cut_is;
    unfinished = a.unfinished;
    finds = a.finds;
    closed = a.closed;
    others = a.others;
    events = a.events;
    stamps = a.stamps;
    later = a.later;
    placed = a.placed;
    counted = a.counted;
    keeps = a.keeps;
    few = a.few;
    brief = a.brief;
    short = a.short;
    short_front = a.short_front;
    after = a.after;
    leads = a.leads;
    weighed = a.weighed;
    paced = a.paced;
    behind = a.behind;
    spends = a.spends;
    follows = a.follows;
    progresses = a.progresses;
    related = record {
      base = a.related;
      machine = along_run given.arrivals I keep_i (suc (length a.rest)) k m a.next (a.first ∷ a.rest) a.runs w.machine;
      system = along_events given.config given.app J keep_j a.others (with_admits (lines_at given.arrivals k) s) a.after a.leads (admits_keep k s b w.system);
    };
  }

  -- the laws of the relation may use what is kept
  pub simulation_with : ((passed : Passed) (count : ℕ) (state : State) (s : System) → 0 < count → With (R passed) I J state s → Advances given R progress passed count state s)
      → ((passed : Passed) (count : ℕ) (state : State) (s : System) → With (R passed) I J state s
      → R passed (state_with_arrivals given.arrivals count state) (with_admits (lines_at given.arrivals count) s))
      → ((count : ℕ) (state : State) → I state → I (state_with_arrivals given.arrivals count state))
      → ((passed : Passed) (state : State) (s : System) → With (R passed) I J state s → s.booted ≡ true)
      → ((passed : Passed) (state : State) (s : System) → With (R passed) I J state s → Mirror given.config state.core s)
      → ((passed : Passed) (state : State) (s : System) → With (R passed) I J state s → IsMeasure given progress state s)
      → ((passed : Passed) (state : State) (s : System) → With (R passed) I J state s → progress state s ≤ unseen_counts)
      → IsSimulation given (λ p. With (R p) I J) progress
  simulation_with advances arrives kept booted mirrors measured bounded = record {
    advances = λ passed k m s z w. strengthen passed k m s (booted passed m s w) w (advances passed k m s z w);
    arrives = λ passed k m s w. record { base = arrives passed k m s w; machine = kept k m w.machine; system = admits_keep k s (booted passed m s w) w.system };
    booted = booted;
    mirrors = mirrors;
    measured = measured;
    bounded = bounded;
  }

  pub boot_with : (passed : Passed) (m : State) (law : BootLaw given (R passed) m) → law.after.booted ≡ true → I m → J (opening given.config given.app)
      → BootLaw given (With (R passed) I J) m
  boot_with passed m law b i j =
      let r = masked_steps given.arrivals (suc law.more) 0 m law.trace law.end law.steps law.ends in
      let in_range = lines_trace (IsOwned (owners_in given.config)) (suc law.more) 0 (lines_at given.arrivals) m law.trace law.end (owned_at given setting) law.steps in
      let late_below : AreOwned (owners_in given.config) (map (λ a. a.line) (arrivals_behind_event 0 law.trace)) = subst (AreOwned (owners_in given.config)) (sym (lines_behind 0 law.trace)) in_range.1 in
      record {
        more = law.more;
        few = law.few;
        within = law.within;
        trace = law.trace;
        end = law.end;
        steps = law.steps;
        ends = law.ends;
        untouched = law.untouched;
        after = law.after;
        step_is = law.step_is;
        related = record {
          base = law.related;
          machine = along_run given.arrivals I keep_i (suc law.more) 0 m law.end r.steps r.runs i;
          system = subst (λ v. J (with_admits v law.after)) (lines_behind 0 law.trace)
              (along_events given.config given.app J keep_j (map admit_event (arrivals_behind_event 0 law.trace)) law.after (with_admits (map (λ a. a.line) (arrivals_behind_event 0 law.trace)) law.after)
              (leads_admits given.config given.app (arrivals_behind_event 0 law.trace) law.after setting.few_tasks b late_below)
              (keep_j event.Boot (opening given.config given.app) law.after law.step_is j));
        };
      }
