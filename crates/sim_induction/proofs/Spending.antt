-- What a task spends on its next item: steps joined, those of arrivals, and the events of a piece of a run.
use Rattle.std.proofs.Common.{◌≡◌, ◌∙◌, ℕ, suc, ◌+◌, ◌<◌, ◌≤◌, ◌==◌, ◌||◌, ◌&&◌, List, [], ◌∷◌, ◌++◌, length, Bool, true, false, cond, refl, sym, ap, subst, arith, ⊎_elim}
use Rattle.std.specs.Prelude.{map}
use Rattle.std.proofs.lemmas.Bool.{false≢true, cases_Bool, cases_eq, eq-eqb, eqb-true, ne_eqb, or_right, and_parts}
use Rattle.sloth_base.specs.declared.app.App.{App}
use Rattle.sloth_base.specs.declared.config.Config.{Config}
use Rattle.sloth_base.specs.declared.service.Arrival.{Arrival}
use Rattle.sloth_base.specs.declared.service.Event.{Event}
use Rattle.sloth_base.specs.declared.service.Event.TheVariants as event
use Rattle.sloth_base.specs.declared.service.Stamped.{Stamped}
use Rattle.sloth_base.specs.Owners.{first_counter_line, owners_in, AreOwned}
use Rattle.observe.specs.Observe.{stamp}
use Rattle.osek_scheduler.specs.State.{System, task}
use Rattle.osek_scheduler.specs.InTime.{is_admit}
use Rattle.osek_scheduler.specs.Steps.{OsekStep}
use Rattle.osek_blocking.specs.Pace.{takes_line}
use Rattle.sim_induction.specs.Events.{stretch_counts}
use Rattle.sim_induction.specs.Pace.{ItemSizes, next_size_of, gap_counts}
use Rattle.sim_induction.specs.Admits.{Setting, with_arrival, with_admits, admit_event, line_event}
use Rattle.sim_induction.specs.Advances.{HasSpent, Spends}
use Rattle.sim_induction.specs.PieceLaws.{Passed, IsNamed, GoesOn}
use Rattle.sim_induction.specs.Spent.{is_turn, is_entry, is_running, is_preempted, front_counts, spent_behind, SpendsWithin, AreSpentTo}
use Rattle.sim_induction.proofs.Follow.{booted_arrival}
use Rattle.sim_induction.proofs.Lines.{by_event, is_admitted, arrival_steps}

module _ (c : Config) (app : App) (size : ItemSizes) (longest t : ℕ) where
  -- ---- joined

  pub spent-append : (a b : List Stamped) (at spent mid some : ℕ) (s x z : System) (to left : ℕ) → AreSpentTo c app size longest t at spent a s x mid some
      → AreSpentTo c app size longest t mid some b x z to left → AreSpentTo c app size longest t at spent (a ++ b) s z to left
  spent-append [] b at spent mid some s x z to left h k =
      subst (λ v. AreSpentTo c app size longest t at v b s z to left) h.2
      (subst (λ v. AreSpentTo c app size longest t v some b s z to left) h.1 (subst (λ v. AreSpentTo c app size longest t mid some b v z to left) h.0 k))
  spent-append (e ∷ a) b at spent mid some s x z to left h k =
      (h.0, h.1, h.2, spent-append a b (cond (is_admit e) at e.stamp.at) (spent_behind c t at spent s e) mid some h.0 x z to left h.3 k)

  -- ---- of arrivals

  -- an admission is no event of a task's turn, enters none and takes no line
  admits_nothing : (line : ℕ) → (is_turn t (line_event line) ≡ false) × (is_entry t (line_event line) ≡ false) × (takes_line (line_event line) ≡ false)
  admits_nothing line = by_event (λ e. (is_turn t e ≡ false) × (is_entry t e ≡ false) × (takes_line e ≡ false)) line (λ l. (refl, refl, refl)) (λ l. (refl, refl, refl))

  -- so nothing is spent
  admit_leaves : (at spent : ℕ) (s : System) (x : Arrival) → spent_behind c t at spent s (admit_event x) ≡ spent
  admit_leaves at spent s x =
      let none = admits_nothing x.line in
      let front = front_counts at (admit_event x) in
      let one : cond (is_turn t (line_event x.line) || is_entry t (line_event x.line)) 0 (spent + cond (is_preempted c s t (line_event x.line)) front 0)
      ≡ spent + cond (is_preempted c s t (line_event x.line)) front 0 =
      ap (λ b. cond (b || is_entry t (line_event x.line)) 0 (spent + cond (is_preempted c s t (line_event x.line)) front 0)) none.0
      ∙ ap (λ b. cond b 0 (spent + cond (is_preempted c s t (line_event x.line)) front 0)) none.1 in
      let two : cond (is_preempted c s t (line_event x.line)) front 0 ≡ 0 = ap (λ b. cond (b && is_running c s t) front 0) none.2 in
      omega (arith, one, two)

  admit_within : (at spent : ℕ) (s : System) (x : Arrival) → SpendsWithin c app size longest t at spent s (admit_event x)
  admit_within at spent s x =
      let none = admits_nothing x.line in
      record {
        begins = λ turn. absurd (false≢true (sym none.0 ∙ turn));
        ends = λ turn. absurd (false≢true (sym none.0 ∙ turn));
        preempts = λ is. absurd (false≢true (sym none.2 ∙ (and_parts (takes_line (line_event x.line)) (is_running c s t) is).0));
      }

  pub spent_admits : (at spent : ℕ) (a : List Arrival) (s : System) → length c.tasks ≤ first_counter_line → s.booted ≡ true → AreOwned (owners_in c) (map (λ x. x.line) a)
      → AreSpentTo c app size longest t at spent (map admit_event a) s (with_admits (map (λ x. x.line) a) s) at spent
  spent_admits at spent [] s few b h = (refl, refl, refl)
  spent_admits at spent (x ∷ a) s few b h =
      let last : cond (is_admit (admit_event x)) at x.at ≡ at = ap (λ b. cond b at x.at) (is_admitted x) in
      let rest = spent_admits at spent a (with_arrival x.line s) few (booted_arrival x.line s ∙ b) h.1 in (
        with_arrival x.line s,
        admit_within at spent s x,
        arrival_steps c app x.line s few h.0 b,
        subst (λ v. AreSpentTo c app size longest t v (spent_behind c t at spent s (admit_event x)) (map admit_event a) (with_arrival x.line s)
            (with_admits (map (λ y. y.line) a) (with_arrival x.line s)) at spent) (sym last)
            (subst (λ v. AreSpentTo c app size longest t at v (map admit_event a) (with_arrival x.line s) (with_admits (map (λ y. y.line) a) (with_arrival x.line s)) at spent)
            (sym (admit_leaves at spent s x)) rest),
      )

  -- ---- one event between arrivals

  -- an event, no admission, behind those that arrive before it and in front of those that arrive behind it
  pub spent_between : (at spent : ℕ) (before behind : List Arrival) (e : Stamped) (s found next end : System) → is_admit e ≡ false
      → AreSpentTo c app size longest t at spent (map admit_event before) s found at spent
      → SpendsWithin c app size longest t at spent found e → OsekStep c app e.event found next
      → AreSpentTo c app size longest t e.stamp.at (spent_behind c t at spent found e) (map admit_event behind) next end e.stamp.at (spent_behind c t at spent found e)
      → AreSpentTo c app size longest t at spent (map admit_event before ++ (e ∷ map admit_event behind)) s end e.stamp.at (spent_behind c t at spent found e)
  spent_between at spent before behind e s found next end other first within step last =
      let is : cond (is_admit e) at e.stamp.at ≡ e.stamp.at = ap (λ b. cond b at e.stamp.at) other in
      spent-append (map admit_event before) (e ∷ map admit_event behind) at spent at spent s found end e.stamp.at (spent_behind c t at spent found e) first (
        next,
        within,
        step,
        subst (λ v. AreSpentTo c app size longest t v (spent_behind c t at spent found e) (map admit_event behind) next end e.stamp.at (spent_behind c t at spent found e)) (sym is) last,
      )

-- ---- what is left behind an event

few_left : (b p : Bool) (spent front : ℕ) → cond b 0 (spent + cond p front 0) ≤ spent + front
few_left true p spent front = omega arith
few_left false true spent front = omega arith
few_left false false spent front = omega arith

kept_left : (b : Bool) (spent : ℕ) → cond b 0 (spent + 0) ≤ spent
kept_left true spent = omega arith
kept_left false spent = omega arith

module _ (c : Config) (t at spent : ℕ) (s : System) (e : Stamped) where
  -- no more than what was spent, and the counts in front of it
  pub front_left : spent_behind c t at spent s e ≤ spent + front_counts at e
  front_left = few_left (is_turn t e.event || is_entry t e.event) (is_preempted c s t e.event) spent (front_counts at e)

  -- which are left out where it does not preempt the task
  pub no_more_left : is_preempted c s t e.event ≡ false → spent_behind c t at spent s e ≤ spent
  no_more_left other =
      let same = ap (λ p. cond (is_turn t e.event || is_entry t e.event) 0 (spent + cond p (front_counts at e) 0)) other in
      let few = kept_left (is_turn t e.event || is_entry t e.event) spent in
      omega (arith, same, few)

  -- nothing where it comes in a turn of the task
  pub none_left : is_turn t e.event ≡ true → spent_behind c t at spent s e ≡ 0
  none_left turn = ap (λ b. cond (b || is_entry t e.event) 0 (spent + cond (is_preempted c s t e.event) (front_counts at e) 0)) turn

  -- or enters it
  pub none_entered : is_entry t e.event ≡ true → spent_behind c t at spent s e ≡ 0
  none_entered entry =
      ap (λ b. cond b 0 (spent + cond (is_preempted c s t e.event) (front_counts at e) 0)) (or_right (is_turn t e.event) (is_entry t e.event) entry)

-- ---- a piece that shows nothing, or one event of one instruction alone

-- the word names a task where it names this one
same_word : (word t u : ℕ) → word ≡ t + 1 → word ≡ u + 1 → t ≡ u
same_word word t u a b = omega (arith, a, b)

module _ (given : Setting) (k at t spent current now from to : ℕ) (passed : Passed) (s after : System) (h : HasSpent current from passed k at t spent) where
  -- nothing
  pub nothing_spends : after ≡ s → now ≡ current → from < to → Spends given t at spent [] s after now to passed (k + 1)
  nothing_spends same word less = record {
    to = at;
    left = spent;
    leads = λ longest. (same, refl, refl);
    holds = record {
      later = let l = h.later in omega (arith, l);
      running = λ named. let soon = h.running (sym word ∙ named) in omega (arith, soon, less);
      preempted = λ other. h.preempted (λ named. other (word ∙ named));
    };
  }

  -- the last instruction of an item of the task that the word names
  module _ (u func item result : ℕ) (step : OsekStep given.config given.app (event.Run u func item result) s after) (was : current ≡ u + 1) (is : now ≡ u + 1)
      (less : from < given.size func item) where
    abbrev last : Stamped
    last = stamp k k (event.Run u func item result)

    abbrev behind_last : ℕ
    behind_last = spent_behind given.config t at spent s last

    pub item_spends : Spends given t at spent (last ∷ []) s after now to passed (k + 1)
    item_spends = record {
      to = k;
      left = behind_last;
      leads = λ longest. (
        after,
        record {
          begins = λ turn. let soon = h.running (was ∙ ap (λ v. v + 1) (eqb-true u t turn)) in let later = h.later in omega (arith, soon, less, later);
          ends = λ turn. let soon = h.running (was ∙ ap (λ v. v + 1) (eqb-true u t turn)) in let later = h.later in omega (arith, soon, less, later);
          preempts = λ takes. absurd (false≢true takes);
        },
        step,
        (refl, refl, refl),
      );
      holds = record {
        later = omega arith;
        running = λ named.
            let none = none_left given.config t at spent s last (eq-eqb u t (same_word now u t is named)) in
            omega (arith, none);
        preempted = λ other.
            let few = no_more_left given.config t at spent s last refl in
            let least = h.preempted (λ named. other (is ∙ sym was ∙ named)) in
            omega (arith, few, least);
      };
    }

  -- the idle loop
  pub idle_spends : OsekStep given.config given.app event.Idle s after → current ≡ 0 → now ≡ 0 → Spends given t at spent (stamp k k event.Idle ∷ []) s after now to passed (k + 1)
  idle_spends step was is = record {
    to = k;
    left = spent_behind given.config t at spent s (stamp k k event.Idle);
    leads = λ longest. (
      after,
      record {
        begins = λ turn. absurd (false≢true turn);
        ends = λ turn. absurd (false≢true turn);
        preempts = λ takes. absurd (false≢true takes);
      },
      step,
      (refl, refl, refl),
    );
    holds = record {
      later = omega arith;
      running = λ named. absurd (omega (arith, is, named));
      preempted = λ other.
          let few = no_more_left given.config t at spent s (stamp k k event.Idle) refl in
          let least = h.preempted (λ named. omega (arith, was, named)) in
          omega (arith, few, least);
    };
  }

-- ---- a stretch

module _ (given : Setting) (k more at t spent current now from to : ℕ) (passed behind : Passed) (found : System) (h : HasSpent current from passed k at t spent)
    (names : is_running given.config found t ≡ true → current ≡ t + 1) where
  abbrev left_by : Event → ℕ
  left_by what = spent_behind given.config t at spent found (stamp k (k + more) what)

  -- nothing is left of the task that ran
  own_gone : (v : ℕ) (what : Event) → is_turn t what ≡ (v == t) → v ≡ t → left_by what ≡ 0
  own_gone v what turn e = none_left given.config t at spent found (stamp k (k + more) what) (turn ∙ eq-eqb v t e)

  -- of another one no more than was
  other_kept : (v : ℕ) (what : Event) → current ≡ v + 1 → (v ≡ t → ⊥) → is_preempted given.config found t what ≡ false → left_by what ≤ passed t
  other_kept v what was other none =
      let few = no_more_left given.config t at spent found (stamp k (k + more) what) none in
      let least = h.preempted (λ named. other (same_word current v t was named)) in
      omega (arith, few, least)

  -- what the bound says behind it
  bound_is : behind ≡ passed → behind t ≡ passed t
  bound_is same = ap (λ (f : ℕ → ℕ). f t) same

  -- an event behind which its task goes on
  goes_on_spends : (v : ℕ) (what : Event) → is_turn t what ≡ (v == t) → is_preempted given.config found t what ≡ false → current ≡ v + 1 → now ≡ v + 1 → behind ≡ passed
      → HasSpent now to behind (k + suc more) (k + more) t (left_by what)
  goes_on_spends v what turn none was is same = record {
    later = omega arith;
    running = λ named. let gone = own_gone v what turn (same_word now v t is named) in omega (arith, gone);
    preempted = λ other.
        let few = other_kept v what was (λ e. other (is ∙ ap (λ x. x + 1) e)) none in
        let bound = bound_is same in
        omega (arith, few, bound);
  }

  -- a task that the word does not name does not run
  rests_where : (current ≡ t + 1 → ⊥) → is_running given.config found t ≡ false
  rests_where n =
      ⊎_elim (λ (runs : is_running given.config found t ≡ true). absurd (n (names runs))) (λ (rests : is_running given.config found t ≡ false). rests)
      (cases_Bool (is_running given.config found t))

  -- behind it each task's spending is known as before
  pub stretch_spends : (what : Event) → IsNamed current what → GoesOn passed behind current now from to what
      → HasSpent now to behind (k + suc more) (k + more) t (left_by what)
  stretch_spends (event.Call v served status) named goes = goes_on_spends v (event.Call v served status) refl refl named goes.0 goes.1
  stretch_spends (event.Back v) named goes = goes_on_spends v (event.Back v) refl refl named goes.0 goes.1
  stretch_spends (event.Left v served) named goes = record {
    later = omega arith;
    running = λ is.
        ⊎_elim
        (λ (e : v ≡ t). let gone = own_gone v (event.Left v served) refl e in omega (arith, gone))
        (λ (n : v ≡ t → ⊥).
        let few = other_kept v (event.Left v served) named n refl in
        let least = goes.0 t is in
        omega (arith, few, least))
        (cases_eq v t);
    preempted = λ other.
        ⊎_elim
        (λ (e : v ≡ t). let gone = own_gone v (event.Left v served) refl e in omega (arith, gone))
        (λ (n : v ≡ t → ⊥).
        let few = other_kept v (event.Left v served) named n refl in
        let bound = bound_is goes.1 in
        omega (arith, few, bound))
        (cases_eq v t);
  }
  stretch_spends (event.Tick c) named goes = record {
    later = omega arith;
    running = λ is.
        let front = front_left given.config t at spent found (stamp k (k + more) (event.Tick c)) in
        let soon = h.running (sym goes.0 ∙ is) in
        let before = h.later in
        let on = goes.1 in
        omega (arith, front, soon, before, on);
    preempted = λ other.
        let rests : is_running given.config found t ≡ false = rests_where (λ was. other (goes.0 ∙ was)) in
        let few = no_more_left given.config t at spent found (stamp k (k + more) (event.Tick c)) rests in
        let least = h.preempted (λ was. other (goes.0 ∙ was)) in
        let bound = bound_is goes.2 in
        omega (arith, few, least, bound);
  }
  stretch_spends (event.Enter v) named goes = record {
    later = omega arith;
    running = λ is.
        let none = none_entered given.config t at spent found (stamp k (k + more) (event.Enter v)) (eq-eqb v t (same_word now v t goes.0 is)) in
        omega (arith, none);
    preempted = λ other.
        ⊎_elim
        (λ (was : current ≡ t + 1).
        let front = front_left given.config t at spent found (stamp k (k + more) (event.Enter v)) in
        let soon = h.running was in
        let before = h.later in
        let bound = goes.1 t in
        let is = ap (λ b. cond b from (passed t)) (eq-eqb current (t + 1) was) in
        omega (arith, front, soon, before, bound, is))
        (λ (n : current ≡ t + 1 → ⊥).
        let rests : is_running given.config found t ≡ false = rests_where n in
        let few = no_more_left given.config t at spent found (stamp k (k + more) (event.Enter v)) rests in
        let least = h.preempted n in
        let bound = goes.1 t in
        let is = ap (λ b. cond b from (passed t)) (ne_eqb current (t + 1) n) in
        omega (arith, few, least, bound, is))
        (cases_eq current (t + 1));
  }
  stretch_spends what named goes = absurd named

  -- ---- and it finds no more spent than the item

  module _ (measure : (v : ℕ) → current ≡ v + 1 → from ≤ next_size_of given.size (task found v)) where
    -- an event of a turn of the task that the word names
    turn_within : (longest v : ℕ) (what : Event) → is_turn t what ≡ (v == t) → is_preempted given.config found t what ≡ false → current ≡ v + 1
        → next_size_of given.size (task found v) ≤ gap_counts given.size longest found what → suc more ≤ stretch_counts given.config given.app found what
        → SpendsWithin given.config given.app given.size longest t at spent found (stamp k (k + more) what)
    turn_within longest v what turn none was gap span = record {
      begins = λ yes.
          let soon = h.running (was ∙ ap (λ x. x + 1) (eqb-true v t (sym turn ∙ yes))) in
          let few = measure v was in
          let later = h.later in
          omega (arith, soon, few, gap, later);
      ends = λ yes.
          let soon = h.running (was ∙ ap (λ x. x + 1) (eqb-true v t (sym turn ∙ yes))) in
          let few = measure v was in
          let later = h.later in
          omega (arith, soon, few, gap, span, later);
      preempts = λ takes. absurd (false≢true (sym none ∙ takes));
    }

    -- an entry or a tick
    line_within : (longest : ℕ) (what : Event) → is_turn t what ≡ false → (is_preempted given.config found t what ≡ true → is_running given.config found t ≡ true)
        → SpendsWithin given.config given.app given.size longest t at spent found (stamp k (k + more) what)
    line_within longest what none runs = record {
      begins = λ yes. absurd (false≢true (sym none ∙ yes));
      ends = λ yes. absurd (false≢true (sym none ∙ yes));
      preempts = λ takes.
          let was = names (runs takes) in
          let soon = h.running was in
          let few = measure t was in
          let later = h.later in
          omega (arith, soon, few, later);
    }

    pub stretch_within : (longest : ℕ) (what : Event) → IsNamed current what → suc more ≤ stretch_counts given.config given.app found what
        → SpendsWithin given.config given.app given.size longest t at spent found (stamp k (k + more) what)
    stretch_within longest (event.Call v served status) named span = turn_within longest v (event.Call v served status) refl refl named (omega arith) span
    stretch_within longest (event.Back v) named span = turn_within longest v (event.Back v) refl refl named (omega arith) span
    stretch_within longest (event.Left v served) named span = turn_within longest v (event.Left v served) refl refl named (omega arith) span
    stretch_within longest (event.Tick c) named span = line_within longest (event.Tick c) refl (λ takes. takes)
    stretch_within longest (event.Enter v) named span = line_within longest (event.Enter v) refl (λ takes. takes)
    stretch_within longest what named span = absurd named
