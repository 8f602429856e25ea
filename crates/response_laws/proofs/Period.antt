-- As long as a busy period is no longer than its start says, its rounds are no more than their numbers; so it ends in time.
use Rattle.std.proofs.Common.{◌≡◌, ℕ, zero, suc, ◌+◌, ◌*◌, ◌<◌, ◌≤◌, ◌⊎◌, ◌&&◌, ◌||◌, not, List, [], ◌∷◌, ◌++◌, Bool, true, false, cond, length, refl, sym, ap, ◌∙◌, subst, arith, inl, inr, append_assoc, append-nil, ◌==◌, add-mul, Some}
use Rattle.std.specs.List.{AllByRecursion}
use Rattle.std.proofs.lemmas.Bool.{cases_eq, and_parts, not-true, true≢false, or_parts, eqb-true, ne_eqb}
use Rattle.sloth_base.specs.declared.config.Config.{Config}
use Rattle.sloth_base.specs.declared.app.App.{App}
use Rattle.sloth_base.specs.Owners.{counter_line}
use Rattle.osek_scheduler.specs.State.{System, task, counter}
use Rattle.osek_scheduler.specs.Priority.{is_active}
use Rattle.osek_scheduler.specs.InTime.{is_admit}
use Rattle.osek_scheduler.specs.Next.{is_ready, is_due, all_below, no_ticks}
use Rattle.osek_scheduler.specs.Apart.{IsActive}
use Rattle.run_counts.specs.Stages.{Stage, end_of, charged, spanned}
use Rattle.run_counts.specs.OwnCounts.{IsShared}
use Rattle.response_laws.specs.Shares.{share_of, lower_counts}
use Rattle.run_counts.specs.Rounds.{goes_on_waiting, total}
use Rattle.response_laws.specs.Sums.{total_where, count, is_over, sum_over}
use Rattle.sim_induction.specs.Events.{has_frames}
use Rattle.response_laws.specs.Turns.{round_behind, if_turn, if_entry, in_turn, at_entry, at_entry_for, at_tick, at_admission, is_other, begins_first, begins_next, as_said, is_made, activated, has_grown, was_set}
use Rattle.response_laws.specs.Busy.{is_quiet, is_quiet_but, LeavesOnce}
use Rattle.osek_scheduler.proofs.Facts.{Facts}
use Rattle.response_laws.proofs.EnteredOnce.{entered_once}
use Rattle.response_laws.specs.Demand.{Costs, Start, acts_due, sets_due, outer_sets, IsEnough}
use Rattle.response_laws.specs.Bounded.{EachOf, EachFirst, EachNext, IsOfLevel, BoundsRounds, BoundsJoining, BeginsWithin, left_of, left_over, IsWithinInflow, JoinsWithin, StartsSo}
use Rattle.response_laws.proofs.Sums.{total-le, total-none, each_stage, product_grows, total-append, total_within, sum_below-le, sum_over-le, sum_over-once}
use Rattle.response_laws.proofs.Attributed.{IsDeclared, declared_by_step, all_attributed}
use Rattle.response_laws.proofs.Linked.{Known, Linked, last_state, last_end, linked_front, linked_behind, each_append, each_joined, each_so, last_within}
use Rattle.response_laws.proofs.Steps.{turn_active, ready_count, entry_takes, entry_balance, acts_by_admission, sets_by_admission, due_count, tick_balance}
use Rattle.response_laws.proofs.OwnAttributed.{own_or_entry, all_attributed_own}
use Rattle.response_laws.proofs.OwnShares.{own_apart, own_rests}
use Rattle.response_laws.proofs.RoundSums.{waiting_turn, turn_apart, turn_rests, longer}
use Rattle.response_laws.proofs.Shares.{IsApart, IsNoneAtRest, rounds_of, no_round}

-- ---- a quiet state

at_each : (n : ℕ) (test : ℕ → Bool) (j : ℕ) → all_below n test ≡ true → j < n → test j ≡ true
at_each zero test j all lt = absurd (omega (arith, lt))
at_each (suc n) test j all lt = by (cases_eq j n) (λ below. at_each n test j (and_parts (test n) (all_below n test) all).1 below)
  where
    by : (j ≡ n) ⊎ (j ≡ n → ⊥) → (j < n → test j ≡ true) → test j ≡ true
    by (inl e) again = ap test e ∙ (and_parts (test n) (all_below n test) all).0
    by (inr other) again = again (omega (arith, lt, other))

module _ (config : Config) (h : ℕ) (s : System) (quiet : is_quiet config h s ≡ true) where
  pub not_due : (t : ℕ) → t < length config.tasks → is_over config h t ≡ true → is_due s t ≡ false
  not_due t lt over =
      let all = (and_parts (all_below (length config.tasks) (λ u. not (is_over config h u && is_due s u))) (no_ticks config s) quiet).0 in
      let here = not-true _ (at_each (length config.tasks) (λ u. not (is_over config h u && is_due s u)) t all lt) in
      sym (ap (λ b. b && is_due s t) over) ∙ here

  quiet_counter : (c : ℕ) → c < length config.counters → due_count c s ≡ 0
  quiet_counter c lt =
      let all = (and_parts (all_below (length config.tasks) (λ u. not (is_over config h u && is_due s u))) (no_ticks config s) quiet).1 in
      ap {B = ℕ} (λ b. cond b 1 0) (not-true _ (at_each (length config.counters) (λ d. not (counter s d).due) c all lt))

-- ---- a state in which a period may begin

-- No task of at least the static priority of h is due but h, where that is to be entered once; none is Ready, and no counter is due.
pub record Calm (config : Config) (h : ℕ) (once : Bool) (s : System) : Type 0 where
  pub not_due_but : (t : ℕ) → t < length config.tasks → is_over config h t ≡ true → (once && (t == h)) ≡ false → is_due s t ≡ false
  pub not_ready : (t : ℕ) → t < length config.tasks → is_over config h t ≡ true → is_ready (task s t).state ≡ false
  pub counters : (c : ℕ) → c < length config.counters → due_count c s ≡ 0

pub quiet_calm : (config : Config) (h : ℕ) (once : Bool) (s : System) → is_quiet config h s ≡ true → Calm config h once s
quiet_calm config h once s quiet = record {
  not_due_but = λ t lt over other. not_due config h s quiet t lt over;
  not_ready = λ t lt over. (or_parts (is_ready (task s t).state) (is_active (task s t).state) (not_due config h s quiet t lt over)).0;
  counters = quiet_counter config h s quiet;
}

pub leaving_calm : (config : Config) (h : ℕ) (s : System) → is_quiet_but config h s ≡ true → IsActive s h → Calm config h true s
leaving_calm config h s alone active = record {
  not_due_but = away;
  not_ready = λ t lt over. by t lt over (cases_eq t h);
  counters = λ c lt.
      let all = (and_parts (all_below (length config.tasks) (λ u. not (is_over config h u && (not (u == h) && is_due s u)))) (no_ticks config s) alone).1 in
      ap {B = ℕ} (λ b. cond b 1 0) (not-true _ (at_each (length config.counters) (λ d. not (counter s d).due) c all lt));
}
  where
    away : (t : ℕ) → t < length config.tasks → is_over config h t ≡ true → (true && (t == h)) ≡ false → is_due s t ≡ false
    away t lt over other =
        let all = (and_parts (all_below (length config.tasks) (λ u. not (is_over config h u && (not (u == h) && is_due s u)))) (no_ticks config s) alone).0 in
        let here = not-true _ (at_each (length config.tasks) (λ u. not (is_over config h u && (not (u == h) && is_due s u))) t all lt) in
        sym (ap (λ b. b && (not (t == h) && is_due s t)) over ∙ ap (λ b. not b && is_due s t) other) ∙ here

    by : (t : ℕ) → t < length config.tasks → is_over config h t ≡ true → (t ≡ h) ⊎ (t ≡ h → ⊥) → is_ready (task s t).state ≡ false
    by t lt over (inl e) = ap (λ (u : ℕ). is_ready (task s u).state) e ∙ ap is_ready active
    by t lt over (inr n) = (or_parts (is_ready (task s t).state) (is_active (task s t).state) (away t lt over (ne_eqb t h n))).0

module _ (config : Config) (h : ℕ) (once : Bool) (s : System) (calm : Calm config h once s) where
  calm_ready : (again : Bool) (t : ℕ) → t < length config.tasks → is_over config h t ≡ true → ready_count again t s ≡ 0
  calm_ready again t lt over = ap {B = ℕ} (λ b. cond (b && as_said again (has_frames (task s t).frames)) 1 0) (calm.not_ready t lt over)

  calm_inactive : (t : ℕ) → t < length config.tasks → is_over config h t ≡ true → (once && (t == h)) ≡ false → IsActive s t → ⊥
  calm_inactive t lt over other active =
      let none = (or_parts (is_ready (task s t).state) (is_active (task s t).state) (calm.not_due_but t lt over other)).1 in
      true≢false (sym (ap is_active active) ∙ none)

-- ---- entries and ticks

module _ (config : Config) (app : App) where
  entries_balance : (again : Bool) (t : ℕ) (at : ℕ) (s : System) (xs : List Stage) → Linked at s xs → AllByRecursion (Known config app) xs
      → count (at_entry_for again t) xs + ready_count again t (last_state s xs) ≤ count (is_made again t) xs + ready_count again t s
  entries_balance again t at s [] l k = omega arith
  entries_balance again t at s (x ∷ xs) l k =
      let rest = entries_balance again t (end_of x) x.next xs l.2 k.1 in
      let here = entry_balance config app again t x k.0 in
      let same = ap (ready_count again t) l.1 in
      omega (arith, rest, here, same)

  pub ticks_balance : (c : ℕ) (at : ℕ) (s : System) (xs : List Stage) → Linked at s xs → AllByRecursion (Known config app) xs
      → count (at_tick c) xs + due_count c (last_state s xs) ≤ count (at_admission (counter_line c)) xs + due_count c s
  ticks_balance c at s [] l k = omega arith
  ticks_balance c at s (x ∷ xs) l k =
      let rest = ticks_balance c (end_of x) x.next xs l.2 k.1 in
      let here = (tick_balance config app c x k.0).1 in
      let same = ap (due_count c) l.1 in
      omega (arith, rest, here, same)

  -- each entry ends a making in front of it
  entries_few : (again : Bool) (t : ℕ) (at : ℕ) (s : System) (xs : List Stage) (x : Stage) → Linked at s (xs ++ x ∷ [])
      → AllByRecursion (Known config app) (xs ++ x ∷ [])
      → count (at_entry_for again t) (xs ++ x ∷ []) ≤ count (is_made again t) xs + ready_count again t s
  entries_few again t at s xs x l k =
      let ks = each_append (Known config app) xs (x ∷ []) k in
      let front = entries_balance again t at s xs (linked_front at s xs (x ∷ []) l) ks.0 in
      let takes = entry_takes config app again t x ks.1.0 in
      let same = ap (ready_count again t) (linked_behind at s xs (x ∷ []) l).1 in
      let both = total-append (λ y. cond (at_entry_for again t y) 1 0) xs (x ∷ []) in
      omega (arith, front, takes, same, both)

-- a making to go on is a setting
made_is_set : (t : ℕ) (xs : List Stage) → count (is_made true t) xs ≤ total (was_set t) xs
made_is_set t xs = total-le (λ x. cond (is_made true t x) 1 0) (was_set t) xs (each_stage (λ x. cond (is_made true t x) 1 0 ≤ was_set t x) here xs)
  where
    by : (a b : Bool) → cond a 1 0 ≤ cond (a || b) 1 0
    by true b = omega arith
    by false b = omega arith

    here : (x : Stage) → cond (is_made true t x) 1 0 ≤ was_set t x
    here x = by (is_made true t x) (has_grown (task x.found t).events (task x.next t).events)

-- where turns are not cut, each round behind a WaitEvent begins with an entry
uncut : (t : ℕ) (xs : List Stage) → count (begins_next false t) xs ≤ count (at_entry_for true t) xs
uncut t xs =
    total-le (λ x. cond (begins_next false t x) 1 0) (λ x. cond (at_entry_for true t x) 1 0) xs
    (each_stage (λ x. cond (begins_next false t x) 1 0 ≤ cond (at_entry_for true t x) 1 0) (λ x. by (at_entry_for true t x)) xs)
  where
    by : (a : Bool) → cond (a || false) 1 0 ≤ cond a 1 0
    by true = omega arith
    by false = omega arith

-- the event that finds a task at rest begins no round of it behind a WaitEvent
none_begins : (config : Config) (app : App) (k : ℕ) (x : Stage) → Known config app x → is_due x.found k ≡ false → count (begins_next true k) (x ∷ []) ≤ 0
none_begins config app k x known rests = by (begins_next true k x) refl
  where
    parts : (is_ready (task x.found k).state ≡ false) × (is_active (task x.found k).state ≡ false)
    parts = or_parts (is_ready (task x.found k).state) (is_active (task x.found k).state) rests

    entered : at_entry_for true k x ≡ true → ⊥
    entered is =
        let takes = entry_takes config app true k x known in
        let none : ready_count true k x.found ≡ 0 = ap {B = ℕ} (λ b. cond (b && as_said true (has_frames (task x.found k).frames)) 1 0) parts.0 in
        let one = ap {B = ℕ} (λ b. cond b 1 0) is in
        omega (arith, takes, none, one)

    waited : goes_on_waiting k x.stamped.event ≡ true → ⊥
    waited is =
        let active = turn_active config app k x known (waiting_turn k x.stamped.event is) in
        true≢false (sym (ap is_active active) ∙ parts.1)

    which : (a b : Bool) → at_entry_for true k x ≡ a → goes_on_waiting k x.stamped.event ≡ b → (a || b) ≡ true → ⊥
    which true b is other any = entered is
    which false true is other any = waited other
    which false false is other any = true≢false (sym any)

    by : (c : Bool) → begins_next true k x ≡ c → cond c 1 0 + 0 ≤ 0
    by true any = absurd (which (at_entry_for true k x) (goes_on_waiting k x.stamped.event) refl refl any)
    by false none = omega arith

-- with more stages no less is left over
left_grows : (once : Bool) (h : ℕ) (f : Stage → ℕ) (xs ys : List Stage) → left_over once h f xs ≤ left_over once h f (xs ++ ys)
left_grows true h f xs ys = longer false h f xs ys
left_grows false h f xs ys = omega arith

-- what comes in from outside, the first stage included
pub record Counted (config : Config) (h : ℕ) (once : Bool) (start : Start) (q : List Stage) : Type 0 where
  pub arrivals : (line : ℕ) → count (at_admission line) q ≤ start.inflow.arrivals line
  pub alarm_acts : (c j : ℕ) → count (at_tick c) q ≤ start.inflow.arrivals (counter_line c) → total_where (at_tick c) (activated j) q ≤ start.inflow.alarm_acts c j
  pub alarm_sets : (c j : ℕ) → count (at_tick c) q ≤ start.inflow.arrivals (counter_line c) → total_where (at_tick c) (was_set j) q ≤ start.inflow.alarm_sets c j
  pub acts : (j : ℕ) → is_over config h j ≡ true → total_where (is_other config h) (activated j) q + left_over once h (activated j) q ≤ start.inflow.acts j
  pub sets : (j : ℕ) → is_over config h j ≡ true → total_where (is_other config h) (was_set j) q + left_over once h (was_set j) q ≤ start.inflow.sets j

module _ (config : Config) (app : App) (h : ℕ) (cuts : ℕ → Bool) (costs : Costs) (run : List Stage) (bounds : BoundsRounds config h cuts costs run)
    (w : Facts config app) (opening : System) (linked : Linked 0 opening run) (known : AllByRecursion (Known config app) run)
    (shared : AllByRecursion (IsShared config) run) (start : Start) (joining : BoundsJoining config h cuts costs run start)
    (once : Bool) (whole : once ≡ true → cuts h ≡ false) (enough : IsEnough config h once costs start) where
  -- a part of the run
  part_linked : (before q behind : List Stage) → run ≡ before ++ (q ++ behind) → Linked (last_end 0 before) (last_state opening before) q
  part_linked before q behind is =
      linked_front (last_end 0 before) (last_state opening before) q behind
      (linked_behind 0 opening before (q ++ behind) (subst (Linked 0 opening) is linked))

  part_each : (P : Stage → Type 0) → AllByRecursion P run → (before q behind : List Stage) → run ≡ before ++ (q ++ behind) → AllByRecursion P q
  part_each P each before q behind is =
      (each_append P q behind (each_append P before (q ++ behind) (subst (AllByRecursion P) is each)).1).0

  -- what holds of the rounds begun in these stages
  pub record AreFew (xs : List Stage) : Type 0 where
    pub acts : (j : ℕ) → j < length config.tasks → is_over config h j ≡ true → total (activated j) xs ≤ acts_due config h costs start j
    pub sets : (j : ℕ) → j < length config.tasks → is_over config h j ≡ true → total (was_set j) xs ≤ sets_due config h costs start j
    pub joined : (b : ℕ) → start.joins ≡ Some b → total (was_set b) xs ≤ total_where (is_other config h) (was_set b) xs + left_over once h (was_set b) xs + outer_sets config h costs start b

  -- behind the stages `front` of a busy period comes stage x; the rounds that begin with x are no more than was made in front of it
  module _ (at : ℕ) (s : System) (calm : Calm config h once s) (front : List Stage) (x : Stage) (before behind : List Stage)
      (part : run ≡ before ++ ((front ++ x ∷ []) ++ behind)) (links : Linked at s (front ++ x ∷ [])) (few : AreFew front)
      (settings : (k : ℕ) → k < length config.tasks → is_over config h k ≡ true → cuts k ≡ true
      → count (begins_next true k) (front ++ x ∷ []) ≤ total (was_set k) front)
      (entered : once ≡ true → count (at_entry h) (front ++ x ∷ []) ≤ 1) (counted : Counted config h once start (front ++ x ∷ [])) where
    abbrev q : List Stage
    q = front ++ x ∷ []

    ks : AllByRecursion (Known config app) q
    ks = part_each (Known config app) known before q behind part

    declared : AllByRecursion (λ y. IsDeclared config y.stamped.event) q
    declared = each_so (Known config app) (λ y. IsDeclared config y.stamped.event) (λ y k. declared_by_step config app y.stamped.event y.found y.next k.step) q ks

    firsts : (k : ℕ) → k < length config.tasks → is_over config h k ≡ true → count (begins_first k) q ≤ acts_due config h costs start k
    firsts k lt over =
        let le = entries_few config app false k at s front x links ks in
        let none = calm_ready config h once s calm false k lt over in
        let most = few.acts k lt over in
        omega (arith, le, none, most)

    nexts : (k : ℕ) → k < length config.tasks → is_over config h k ≡ true → count (begins_next (cuts k) k) q ≤ sets_due config h costs start k
    nexts k lt over = by (cuts k) refl
      where
        most : total (was_set k) front ≤ sets_due config h costs start k
        most = few.sets k lt over

        by : (b : Bool) → cuts k ≡ b → count (begins_next b k) q ≤ sets_due config h costs start k
        by true is = let le = settings k lt over is in let fits = most in omega (arith, le, fits)
        by false is =
            let le = entries_few config app true k at s front x links ks in
            let none = calm_ready config h once s calm true k lt over in
            let sets = made_is_set k front in
            let whole_q = uncut k q in
            let fits = most in
            omega (arith, le, none, sets, whole_q, fits)

    -- where h is entered once, both kinds of its rounds together
    both_kinds : (xs : List Stage) → count (begins_first h) xs + count (begins_next false h) xs ≤ count (at_entry h) xs
    both_kinds [] = omega arith
    both_kinds (y ∷ ys) = let rest = both_kinds ys in let here = by (at_entry h y) (has_frames (task y.found h).frames) in omega (arith, rest, here)
      where
        by : (a f : Bool) → cond (a && not f) 1 0 + cond ((a && f) || false) 1 0 ≤ cond a 1 0
        by true true = omega arith
        by true false = omega arith
        by false f = omega arith

    rounds_once : once ≡ true → h < length config.tasks → is_over config h h ≡ true → count (begins_first h) q + count (begins_next (cuts h) h) q ≤ start.firsts h
    rounds_once is lt over =
        let first = firsts h lt over in
        let next = nexts h lt over in
        let one = entered is in
        let both = both_kinds q in
        let same = ap (λ b. count (begins_next b h) q) (whole is) in
        let most = (enough.entered is).number in
        omega (arith, first, next, one, both, same, most)

    ticks : (c : ℕ) → c < length config.counters → count (at_tick c) q ≤ start.inflow.arrivals (counter_line c)
    ticks c lt =
        let le = ticks_balance config app c at s q links ks in
        let none = calm.counters c lt in
        let most = counted.arrivals (counter_line c) in
        omega (arith, le, none, most)

    -- What the rounds of a task come to, that of h with the rest of a round of it. The part is q, or a part of it with no more of the rounds.
    module _ (entry : Stage → ℕ) (share : ℕ → Stage → ℕ) (apart : (k : ℕ) → IsApart (cuts k) k entry (share k)) where
      abbrev by_both : ℕ → Stage → ℕ
      by_both k y = if_entry k entry y + share k y

      rounds : (most more k : ℕ) → k < length config.tasks → is_over config h k ≡ true → EachOf run (cuts k) k (begins_first k) entry (share k) most
          → EachOf run (cuts k) k (begins_next (cuts k) k) entry (share k) more
          → (k ≡ h → once ≡ true → more ≡ most)
          → (ahead p further : List Stage) → run ≡ ahead ++ (p ++ further) → count (begins_first k) p ≤ count (begins_first k) q
          → count (begins_next (cuts k) k) p ≤ count (begins_next (cuts k) k) q
          → ((once && (k == h)) ≡ false → total (share k) (round_behind (cuts k) k p) ≤ 0)
          → total (by_both k) p ≤ cond (k == h) (left_of once h (share h) p) 0 + (start.firsts k * most + start.nexts k * more)
      rounds most more k lt over each again same ahead p further is fewer_first fewer_next none = by (once && (k == h)) refl
        where
          le : total (by_both k) p
              ≤ total (share k) (round_behind (cuts k) k p) + (count (begins_first k) p * most + count (begins_next (cuts k) k) p * more)
          le = rounds_of (cuts k) k entry (share k) run most more each again (apart k) ahead p further is

          by : (b : Bool) → (once && (k == h)) ≡ b → total (by_both k) p ≤ cond (k == h) (left_of once h (share h) p) 0 + (start.firsts k * most + start.nexts k * more)
          by false other =
              let rest = none other in
              let first = firsts k lt over in
              let next = nexts k lt over in
              let a = product_grows (count (begins_first k) p) (start.firsts k) most
              (let fits = enough.firsts k lt over other in omega (arith, fewer_first, first, fits)) in
              let b = product_grows (count (begins_next (cuts k) k) p) (start.nexts k) more
              (let fits = enough.nexts k lt over other in omega (arith, fewer_next, next, fits)) in
              let all = le in
              omega (arith, all, rest, a, b)
          by true own =
              let both = and_parts once (k == h) own in
              let e = eqb-true k h both.1 in
              let P : ℕ → Type 0 = λ u. count (begins_first u) q + count (begins_next (cuts u) u) q ≤ start.firsts u in
              let number = subst P (sym e) (rounds_once both.0 (subst (λ u. u < length config.tasks) e lt) (subst (λ u. is_over config h u ≡ true) e over)) in
              let Q : ℕ → Type 0 = λ u. total (share u) (round_behind (cuts u) u p) ≤ left_of once h (share h) p in
              let over_left = subst Q (sym e) (left both.0) in
              let here = ap {B = ℕ} (λ b. cond b (left_of once h (share h) p) 0) both.1 in
              let equal = ap (λ m. count (begins_next (cuts k) k) p * m) (same e both.0) in
              let sum = add-mul (count (begins_first k) p) (count (begins_next (cuts k) k) p) most in
              let grown = product_grows (count (begins_first k) p + count (begins_next (cuts k) k) p) (start.firsts k) most (omega (arith, fewer_first, fewer_next, number)) in
              let all = le in
              omega (arith, all, over_left, here, equal, sum, grown)
            where
              left : once ≡ true → total (share h) (round_behind (cuts h) h p) ≤ left_of once h (share h) p
              left is =
                  let on = ap {B = ℕ} (λ b. cond b (total (share h) (round_behind false h p)) 0) is in
                  let cut = ap (λ b. total (share h) (round_behind b h p)) (whole is) in
                  omega (arith, on, cut)

      -- of all stages
      rounds_here : (most more k : ℕ) → k < length config.tasks → is_over config h k ≡ true → EachOf run (cuts k) k (begins_first k) entry (share k) most
          → EachOf run (cuts k) k (begins_next (cuts k) k) entry (share k) more
          → (k ≡ h → once ≡ true → more ≡ most) → IsNoneAtRest (cuts k) k entry (share k) config app
          → total (by_both k) q ≤ cond (k == h) (left_of once h (share h) q) 0 + (start.firsts k * most + start.nexts k * more)
      rounds_here most more k lt over each again same rests =
          rounds most more k lt over each again same before q behind part (omega arith) (omega arith)
          (λ other. no_round (cuts k) k entry (share k) config app rests at s q links ks (calm_inactive config h once s calm k lt over other))

    turns_apart : (f : Stage → ℕ) (k : ℕ) → IsApart (cuts k) k f (if_turn k f)
    turns_apart f k = turn_apart (cuts k) k f

    split : (f : Stage → ℕ) (k : ℕ) (xs : List Stage) → total_where (at_entry k) f xs + total_where (in_turn k) f xs ≤ total (λ y. if_entry k f y + if_turn k f y) xs
    split f k [] = omega arith
    split f k (y ∷ ys) = let rest = split f k ys in omega (arith, rest)

    -- what entries and turns of all tasks come to
    turns_of : (f : Stage → ℕ) (first next : ℕ → ℕ) → ((k : ℕ) → k < length config.tasks → is_over config h k ≡ true → EachFirst run (cuts k) k f (first k))
        → ((k : ℕ) → k < length config.tasks → is_over config h k ≡ true → EachNext run (cuts k) k f (next k)) → (once ≡ true → next h ≡ first h)
        → sum_over config h (λ k. total_where (at_entry k) f q + total_where (in_turn k) f q)
        ≤ left_over once h f q + sum_over config h (λ k. start.firsts k * first k + start.nexts k * next k)
    turns_of f first next each again same =
        let le = sum_over-le config h (λ k. total_where (at_entry k) f q + total_where (in_turn k) f q)
        (λ k. cond (k == h) (left_over once h f q) 0 + (start.firsts k * first k + start.nexts k * next k))
        (λ k there above.
        let le = rounds_here f (λ u. if_turn u f) (turns_apart f) (first k) (next k) k there above (each k there above) (again k there above)
        (λ e is. let P : ℕ → Type 0 = λ u. next u ≡ first u in subst P (sym e) (same is)) (turn_rests k f config app) in
        let parts = split f k q in
        omega (arith, le, parts)) in
        let once_more = sum_over-once config h (left_over once h f q) (λ k. start.firsts k * first k + start.nexts k * next k) in
        omega (arith, le, once_more)

    acts_step : (j : ℕ) → j < length config.tasks → is_over config h j ≡ true → total (activated j) q ≤ acts_due config h costs start j
    acts_step j lt over =
        let parts_all = all_attributed config h (activated j) q declared in
        let other = counted.acts j over in
        let admits = total-le (λ y. cond (is_admit y.stamped) (activated j y) 0) (λ y. cond (at_admission j y) 1 0) q
        (each_so (Known config app) (λ y. cond (is_admit y.stamped) (activated j y) 0 ≤ cond (at_admission j y) 1 0) (acts_by_admission config app j) q ks) in
        let arrived = counted.arrivals j in
        let alarms = sum_below-le (length config.counters) (λ c. total_where (at_tick c) (activated j) q) (λ c. start.inflow.alarm_acts c j)
        (λ c lt. counted.alarm_acts c j (ticks c lt)) in
        let turns = turns_of (activated j) (λ k. costs.first_acts k j) (λ k. costs.next_acts k j) (λ k there above. bounds.first_acts k j (there, above) (lt, over)) (λ k there above. bounds.next_acts k j (there, above) (lt, over))
        (λ is. (enough.entered is).acts j) in
        omega (arith, parts_all, other, admits, arrived, alarms, turns)

    -- what sets events of a task, but for other events
    sets_of : (j : ℕ) → ((k : ℕ) → IsOfLevel config h k → EachFirst run (cuts k) k (was_set j) (costs.first_sets k j))
        → ((k : ℕ) → IsOfLevel config h k → EachNext run (cuts k) k (was_set j) (costs.next_sets k j))
        → total (was_set j) q ≤ total_where (is_other config h) (was_set j) q + left_over once h (was_set j) q + outer_sets config h costs start j
    sets_of j first next =
        let parts_all = all_attributed config h (was_set j) q declared in
        let admits = total-none (λ y. cond (is_admit y.stamped) (was_set j y) 0) q
        (each_so (Known config app) (λ y. cond (is_admit y.stamped) (was_set j y) 0 ≤ 0) (sets_by_admission config app j) q ks) in
        let alarms = sum_below-le (length config.counters) (λ c. total_where (at_tick c) (was_set j) q) (λ c. start.inflow.alarm_sets c j)
        (λ c lt. counted.alarm_sets c j (ticks c lt)) in
        let turns = turns_of (was_set j) (λ k. costs.first_sets k j) (λ k. costs.next_sets k j) (λ k there above. first k (there, above)) (λ k there above. next k (there, above))
        (λ is. (enough.entered is).sets j) in
        omega (arith, parts_all, admits, alarms, turns)

    sets_step : (j : ℕ) → j < length config.tasks → is_over config h j ≡ true → total (was_set j) q ≤ sets_due config h costs start j
    sets_step j lt over =
        let all = sets_of j (λ k level. bounds.first_sets k j level (lt, over)) (λ k level. bounds.next_sets k j level (lt, over)) in
        let other = counted.sets j over in
        omega (arith, all, other)

    pub few_step : AreFew q
    few_step = record { acts = acts_step; sets = sets_step; joined = λ b is. sets_of b (joining b is).first_sets (joining b is).next_sets }

    -- the events behind the first
    pub counts_step : (first : Stage) (period : List Stage) → q ≡ first ∷ period → total (lower_counts config h) period + left_of once h (share_of config h) period ≤ start.inflow.front
        → total charged period ≤ start.counts
    counts_step first period is blocking =
        let parts_all = all_attributed_own config app h period (each_of (Known config app) ks) (each_of (λ y. IsDeclared config y.stamped.event) declared)
        (each_of (IsShared config) (part_each (IsShared config) shared before q behind part)) in
        let turns = sum_over-le config h (λ k. total (own_or_entry config app h k) period)
        (λ k. cond (k == h) (left_of once h (share_of config h) period) 0 + (start.firsts k * costs.first k + start.nexts k * costs.next k)) by_turn in
        let once_more = sum_over-once config h (left_of once h (share_of config h) period) (λ k. start.firsts k * costs.first k + start.nexts k * costs.next k) in
        let by_ticks = sum_below-le (length config.counters) (λ c. total_where (at_tick c) spanned period) (λ c. start.inflow.arrivals (counter_line c) * costs.tick c) by_tick in
        let most = enough.enough in
        omega (arith, parts_all, blocking, turns, once_more, by_ticks, most)
      where
        each_of : (P : Stage → Type 0) → AllByRecursion P q → AllByRecursion P period
        each_of P each = (subst (AllByRecursion P) is each).1

        fewer : (f : Stage → ℕ) → total f period ≤ total f q
        fewer f = let same = ap (total f) is in omega (arith, same)

        -- the rest of a round in which they begin is none, or that of all stages
        by_turn : (k : ℕ) → k < length config.tasks → is_over config h k ≡ true
            → total (own_or_entry config app h k) period
            ≤ cond (k == h) (left_of once h (share_of config h) period) 0 + (start.firsts k * costs.first k + start.nexts k * costs.next k)
        by_turn k there above = which (once && (k == h)) refl
          where
            same : k ≡ h → once ≡ true → costs.next k ≡ costs.first k
            same e is = let P : ℕ → Type 0 = λ u. costs.next u ≡ costs.first u in subst P (sym e) (enough.entered is).cost

            no_left : (k : ℕ) → (once && (k == h)) ≡ false → cond (k == h) (left_of once h (share_of config h) q) 0 ≤ 0
            no_left k other = by once (k == h) other
              where
                by : (o e : Bool) → (o && e) ≡ false → cond e (cond o (total (share_of config h) (round_behind false h q)) 0) 0 ≤ 0
                by true true off = absurd (true≢false off)
                by true false off = omega arith
                by false true off = omega arith
                by false false off = omega arith

            own_apart_of : (u : ℕ) → IsApart (cuts u) u spanned (share_of config u)
            own_apart_of u = own_apart config app u (cuts u)

            which : (b : Bool) → (once && (k == h)) ≡ b
                → total (own_or_entry config app h k) period
                ≤ cond (k == h) (left_of once h (share_of config h) period) 0 + (start.firsts k * costs.first k + start.nexts k * costs.next k)
            which true own =
                let le = rounds spanned (share_of config) own_apart_of (costs.first k) (costs.next k) k there above (bounds.firsts k there above) (bounds.nexts k there above) same (before ++ first ∷ []) period behind
                (part ∙ ap (λ zs. before ++ (zs ++ behind)) is ∙ sym (append_assoc before (first ∷ []) (period ++ behind)))
                (fewer (λ y. cond (begins_first k y) 1 0)) (fewer (λ y. cond (begins_next (cuts k) k y) 1 0)) (λ off. absurd (true≢false (sym own ∙ off))) in
                omega (arith, le)
            which false other =
                let le = rounds_here spanned (share_of config) own_apart_of (costs.first k) (costs.next k) k there above (bounds.firsts k there above) (bounds.nexts k there above) same
                (own_rests config app k) in
                let none = no_left k other in
                let some = fewer (own_or_entry config app h k) in
                omega (arith, le, none, some)

        by_tick : (c : ℕ) → c < length config.counters → total_where (at_tick c) spanned period ≤ start.inflow.arrivals (counter_line c) * costs.tick c
        by_tick c there =
            let few_ticks = fewer (λ y. cond (at_tick c y) 1 0) in
            let all = ticks c there in
            let ticking = total_within (at_tick c) spanned (costs.tick c) period (each_of (λ y. at_tick c y ≡ true → spanned y ≤ costs.tick c)
            (part_each (λ y. at_tick c y ≡ true → spanned y ≤ costs.tick c) (bounds.ticks c) before q behind part)) in
            let more = product_grows (count (at_tick c) period) (start.inflow.arrivals (counter_line c)) (costs.tick c) (omega (arith, few_ticks, all)) in
            omega (arith, ticking, more)

  -- ---- the period, event by event

  module _ (before : List Stage) (first : Stage) (calm : Calm config h once first.found) (all rest_of_run : List Stage)
      (whole_part : run ≡ before ++ ((first ∷ all) ++ rest_of_run)) (starts : StartsSo config h once start first all)
      (leaves_once : once ≡ true → LeavesOnce h first all) where
    -- what holds behind these events of the period
    pub record Holds (period : List Stage) : Type 0 where
      pub few : AreFew (first ∷ period)
      pub ends : last_end (end_of first) period ≤ end_of first + start.counts
      pub begins : AllByRecursion (BeginsWithin start.counts first) period

    counted_by : (period : List Stage) → IsWithinInflow config h once start.inflow first period → Counted config h once start (first ∷ period)
    counted_by period b = record { arrivals = b.arrivals; alarm_acts = b.alarm_acts; alarm_sets = b.alarm_sets; acts = b.acts; sets = b.sets }

    part_of : (period rest : List Stage) → all ≡ period ++ rest → run ≡ before ++ ((first ∷ period) ++ (rest ++ rest_of_run))
    part_of period rest is =
        whole_part ∙ ap (λ zs. before ++ first ∷ (zs ++ rest_of_run)) is ∙ ap (λ zs. before ++ first ∷ zs) (append_assoc period rest rest_of_run)

    links_of : (period rest : List Stage) → all ≡ period ++ rest → Linked first.start first.found (first ∷ period)
    links_of period rest is = (refl, refl, (part_linked before (first ∷ period) (rest ++ rest_of_run) (part_of period rest is)).2)

    -- where turns are cut, the task is not h, or h is not entered once
    cut_apart : (k : ℕ) → cuts k ≡ true → (once && (k == h)) ≡ false
    cut_apart k is = by (once && (k == h)) refl
      where
        by : (b : Bool) → (once && (k == h)) ≡ b → b ≡ false
        by false e = refl
        by true e =
            let both = and_parts once (k == h) e in
            absurd (true≢false (sym is ∙ subst (λ u. cuts u ≡ false) (sym (eqb-true k h both.1)) (whole both.0)))

    -- h is entered once
    entries : (front rest : List Stage) (x : Stage) → first ∷ all ≡ front ++ x ∷ rest → once ≡ true → count (at_entry h) (front ++ x ∷ []) ≤ 1
    entries front rest x is on =
        let ahead : first ∷ all ≡ (front ++ x ∷ []) ++ rest = is ∙ sym (append_assoc front (x ∷ []) rest) in
        let there : run ≡ before ++ ((front ++ x ∷ []) ++ (rest ++ rest_of_run)) =
        whole_part ∙ ap (λ zs. before ++ (zs ++ rest_of_run)) ahead ∙ ap (λ zs. before ++ zs) (append_assoc (front ++ x ∷ []) rest rest_of_run) in
        let found = first_found front is in
        let links = part_linked before (front ++ x ∷ []) (rest ++ rest_of_run) there in
        entered_once config app w h (last_end 0 before) (last_state opening before) front x links
        (part_each (Known config app) known before (front ++ x ∷ []) (rest ++ rest_of_run) there)
        (let few = leaves_once on front rest x is in let same = ap {B = ℕ} (λ (y : System). cond (is_active (task y h).state) 1 0) found in omega (arith, few, same))
      where
        first_found : (front : List Stage) → first ∷ all ≡ front ++ x ∷ rest → first.found ≡ last_state opening before
        first_found front is =
            (part_linked before (first ∷ all) rest_of_run whole_part).1

    begin : Holds []
    begin = record {
      few = few_step first.start first.found calm [] first before (all ++ rest_of_run) (part_of [] all refl) (links_of [] all refl)
          (record { acts = λ k lt over. omega arith; sets = λ k lt over. omega arith; joined = λ b is. omega arith }) (λ k lt over is.
          none_begins config app k first (part_each (Known config app) known before (first ∷ []) (all ++ rest_of_run) (part_of [] all refl)).0
          (calm.not_due_but k lt over (cut_apart k is)))
          (entries [] all first refl) (counted_by [] (starts [] all refl tt (λ b is. let le = (joining b is).settings before [] (all ++ rest_of_run) first (part_of [] all refl) in omega (arith, le))));
      ends = omega arith;
      begins = tt;
    }

    step : (period rest : List Stage) (x : Stage) → all ≡ (period ++ x ∷ []) ++ rest → Holds period → Holds (period ++ x ∷ [])
    step period rest x is holds = record {
      few = few_step first.start first.found calm (first ∷ period) x before (rest ++ rest_of_run) part links holds.few settings
          (entries (first ∷ period) rest x (ap (λ zs. first ∷ zs) (is ∙ append_assoc period (x ∷ []) rest))) (counted_by (period ++ x ∷ []) b);
      ends =
          let le = last_within (end_of first) first.next (period ++ x ∷ []) links.2 in
          let few = counts_step first.start first.found calm (first ∷ period) x before (rest ++ rest_of_run) part links holds.few settings
          (entries (first ∷ period) rest x (ap (λ zs. first ∷ zs) (is ∙ append_assoc period (x ∷ []) rest))) (counted_by (period ++ x ∷ []) b) first (period ++ x ∷ []) refl b.front in
          omega (arith, le, few);
      begins = begins;
    }
      where
        part : run ≡ before ++ ((first ∷ (period ++ x ∷ [])) ++ (rest ++ rest_of_run))
        part = part_of (period ++ x ∷ []) rest is

        links : Linked first.start first.found (first ∷ (period ++ x ∷ []))
        links = links_of (period ++ x ∷ []) rest is

        settings : (k : ℕ) → k < length config.tasks → is_over config h k ≡ true → cuts k ≡ true
            → count (begins_next true k) ((first ∷ period) ++ x ∷ []) ≤ total (was_set k) (first ∷ period)
        settings k lt over cut =
            bounds.settings k lt over cut before period (rest ++ rest_of_run) first x part (calm.not_due_but k lt over (cut_apart k cut))

        begins : AllByRecursion (BeginsWithin start.counts first) (period ++ x ∷ [])
        begins =
            let here = (linked_behind (end_of first) first.next period (x ∷ []) links.2).0 in
            let le = holds.ends in
            each_joined (BeginsWithin start.counts first) period (x ∷ []) holds.begins (omega (arith, here, le), tt)

        -- the task that joins has a setting in front of each later round, or one in front of the period
        joined : JoinsWithin config h once start (first ∷ (period ++ x ∷ []))
        joined b is_joined =
            let le = (joining b is_joined).settings before (first ∷ period) (rest ++ rest_of_run) x part in
            let sets = holds.few.joined b is_joined in
            let most = enough.joined b is_joined in
            let more = total-append (λ y. cond (is_other config h y) (was_set b y) 0) (first ∷ period) (x ∷ []) in
            let grown = left_grows once h (was_set b) (first ∷ period) (x ∷ []) in
            omega (arith, le, sets, most, more, grown)

        b : IsWithinInflow config h once start.inflow first (period ++ x ∷ [])
        b = starts (period ++ x ∷ []) rest is begins joined

    go : (period rest : List Stage) → all ≡ period ++ rest → Holds period → Holds all
    go period [] is holds = subst Holds (sym (is ∙ append-nil period)) holds
    go period (x ∷ rest) is holds =
        let next : all ≡ (period ++ x ∷ []) ++ rest = is ∙ sym (append_assoc period (x ∷ []) rest) in
        go (period ++ x ∷ []) rest next (step period rest x next holds)

    -- the period ends within what is enough, and its rounds are no more than their numbers
    pub period_holds : Holds all
    period_holds = go [] all refl begin
