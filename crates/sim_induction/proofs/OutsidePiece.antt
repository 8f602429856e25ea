-- An instruction outside the stretches is a piece of the run.
use Rattle.std.proofs.Common.{◌≡◌, ℕ, ◌+◌, ◌<◌, ◌≤◌, List, [], ◌∷◌, ◌++◌, refl, sym, ap, ◌∙◌, subst, arith, true, false, cond, inl, append-nil}
use Rattle.std.specs.Prelude.{map}
use Rattle.std.proofs.lemmas.Bool.{not_from_false, false≢true}
use Rattle.sloth_base.specs.declared.service.Event.{Event}
use Rattle.sloth_base.specs.declared.service.Event.TheVariants as event
use Rattle.sloth_base.specs.declared.service.Stamped.{Stamped}
use Rattle.sloth_base.specs.declared.numbers.Step.{Step}
use Rattle.sloth_base.specs.Machine.{State}
use Rattle.sloth_base.specs.Arrivals.{moments}
use Rattle.observe.specs.Pieces.{Outside, Stretch, is_outside, begins}
use Rattle.observe.specs.Observe.{stamp, mark_at, outside_events}
use Rattle.osek_scheduler.specs.State.{System}
use Rattle.osek_scheduler.specs.Runs.{AreStepsTo, AreStepsBehind, PassesOverArrivals}
use Rattle.osek_scheduler.specs.InTime.{is_admit, admits_at, HasSpanFor, IsOrdered, KeepsOrder}
use Rattle.sim_induction.specs.Short.{passed_count}
use Rattle.sim_induction.specs.Admits.{Setting, IsSetting, lines_at, with_admits}
use Rattle.sim_induction.specs.Advances.{EachPair, IsInCounts, found_events, HasSpent, Spends, Advances}
use Rattle.std.specs.List.{AllByRecursion}
use Rattle.rv32_instr.specs.Ram.{word_at}
use Rattle.osek_blocking.specs.Pace.{last_count, takes_line}
use Rattle.sim_induction.specs.Pace.{single_counts, gap_counts, paced_counts}
use Rattle.sim_induction.specs.Weighed.{AreWeighedTo}
use Rattle.sim_induction.specs.Paced.{ArePacedTo}
use Rattle.sim_induction.specs.PieceLaws.{Passed, OutsideLaw, IsOutsideStep, MakesProgress, RunsOn, seen_step_at}
use Rattle.sim_induction.proofs.Schedule.{owned_at, admits_are}
use Rattle.sim_induction.proofs.Counts.{admits-append, admits_of, others_count}
use Rattle.sim_induction.proofs.Order.{orders-append, admits_order, others_order}
use Rattle.sim_induction.proofs.Shown.{AreSingle, IsSingle, outside_single}
use Rattle.sim_induction.proofs.MaskedRun.{going_moment}
use Rattle.sim_induction.proofs.Spending.{nothing_spends, item_spends, idle_spends}

single_other : (what : Event) (k : ℕ) → IsSingle what → is_admit (stamp k k what) ≡ false
single_other (event.Run t func item result) k h = refl
single_other event.Idle k h = refl
single_other what k h = absurd h

single_spans : (what : Event) (k : ℕ) → IsSingle what → HasSpanFor what (stamp k k what)
single_spans (event.Run t func item result) k h = refl
single_spans event.Idle k h = refl
single_spans what k h = absurd h

single_passes : (given : Setting) (past : List Stamped) (s : System) (k : ℕ) (what : Event) → IsSingle what → PassesOverArrivals given.config given.app past s k what
single_passes given past s k (event.Run t func item result) h = tt
single_passes given past s k event.Idle h = tt
single_passes given past s k what h = absurd h

-- it ends in pace where no more has shown nothing before it than it may take
single_paced : (given : Setting) (longest : ℕ) (s : System) (what : Event) → IsSingle what → (at from k : ℕ) → k ≤ at + 1 + from → from < single_counts given.size what
    → k ≤ at + paced_counts given.config given.app given.size longest s what
single_paced given longest s (event.Run t func item result) h at from k near less = omega (arith, near, less)
single_paced given longest s event.Idle h at from k near less = omega (arith, near, less)
single_paced given longest s what h at from k near less = absurd h

-- and begins no later
single_begins : (given : Setting) (longest : ℕ) (s : System) (what : Event) → IsSingle what → (at from k : ℕ) → k ≤ at + 1 + from → from < single_counts given.size what
    → k ≤ at + 1 + gap_counts given.size longest s what
single_begins given longest s (event.Run t func item result) h at from k near less = omega (arith, near, less)
single_begins given longest s event.Idle h at from k near less = omega (arith, near, less)
single_begins given longest s what h at from k near less = absurd h

-- it takes no line
single_takes : (what : Event) → IsSingle what → takes_line what ≡ false
single_takes (event.Run t func item result) h = refl
single_takes event.Idle h = refl
single_takes what h = absurd h

-- what its events are: none or one
record Alone (given : Setting) (k : ℕ) (whats : List Event) (s after : System) : Type 0 where
  stamps : AllByRecursion (IsInCounts k (k + 1)) (map (stamp k k) whats)
  others : AllByRecursion (λ e. is_admit e ≡ false) (map (stamp k k) whats)
  later : AllByRecursion (λ e. is_admit e ≡ true → k < e.stamp.at) (map (stamp k k) whats)
  placed : EachPair IsOrdered (map (stamp k k) whats)
  leads : AreStepsTo given.config given.app (map (stamp k k) whats) s after
  weighed : AreWeighedTo given.config given.app (map (stamp k k) whats) s after
  follows : (past : List Stamped) → AreStepsBehind given.config given.app past s (map (stamp k k) whats) after
  passing : (before from to : ℕ) → before ≤ from → MakesProgress given.size whats from to → passed_count whats before ≤ to
  paced : (longest at from to : ℕ) → k ≤ at + 1 + from → MakesProgress given.size whats from to
      → ArePacedTo given.config given.app given.size longest at (map (stamp k k) whats) s after × (k + 1 ≤ last_count at (map (stamp k k) whats) + 1 + to)

alone : (given : Setting) (k : ℕ) (whats : List Event) (s after : System) → AreSingle whats → IsOutsideStep given whats s after → Alone given k whats s after
alone given k [] s after h w = record {
  stamps = tt;
  others = tt;
  later = tt;
  placed = tt;
  leads = w;
  weighed = w;
  follows = λ past. w;
  passing = λ before from to l p. let less : from < to = p in omega (arith, l, less);
  paced = λ longest at from to near p. (w, (let less : from < to = p in omega (arith, near, less)));
}
alone given k (what ∷ []) s after h w =
    let o = single_other what k h.0 in
    record {
      stamps = (record { begins = omega arith; ordered = omega arith; ends = omega arith; spans = single_spans what k h.0 }, tt);
      others = (o, tt);
      later = ((λ e. let z : is_admit (stamp k k what) ≡ false = o in cc), tt);
      placed = (tt, tt);
      leads = (after, w, refl);
      weighed = (after, omega arith, w, refl);
      follows = λ past. (after, w, single_passes given past s k what h.0, refl);
      passing = λ before from to l p. omega arith;
      paced = λ longest at from to near p. (
        (
          after,
          record {
            begins = λ other later. single_begins given longest s what h.0 at from k near p;
            preempts = λ takes t runs. absurd (false≢true (sym (single_takes what h.0) ∙ takes));
            idles = λ takes rests. absurd (false≢true (sym (single_takes what h.0) ∙ takes));
            ends = λ other later. single_paced given longest s what h.0 at from k near p;
          },
          w,
          refl,
        ),
        (let last : cond (is_admit (stamp k k what)) at k ≡ k = ap (λ b. cond b at k) o in omega (arith, last)),
      );
    }
alone given k (what ∷ other ∷ more) s after h w = absurd w

-- what a task spends before it
alone_spends : (given : Setting) (k at t spent current now from to : ℕ) (passed : Passed) (s after : System) (whats : List Event) → AreSingle whats → IsOutsideStep given whats s after
    → RunsOn current now whats → MakesProgress given.size whats from to → HasSpent current from passed k at t spent
    → Spends given t at spent (map (stamp k k) whats) s after now to passed (k + 1)
alone_spends given k at t spent current now from to passed s after [] single w runs less h = nothing_spends given k at t spent current now from to passed s after h w runs less
alone_spends given k at t spent current now from to passed s after (event.Run u func item result ∷ []) single w runs less h =
    item_spends given k at t spent current now from to passed s after h u func item result w runs.0 runs.1 less
alone_spends given k at t spent current now from to passed s after (event.Idle ∷ []) single w runs less h =
    idle_spends given k at t spent current now from to passed s after h w runs.0 runs.1
alone_spends given k at t spent current now from to passed s after (what ∷ []) single w runs less h = absurd single.0
alone_spends given k at t spent current now from to passed s after (what ∷ other ∷ more) single w runs less h = absurd w

pub outside_advances : (given : Setting) → IsSetting given → (R : Passed → State → System → Type 0) (progress : State → System → ℕ) (passed : Passed) (k : ℕ) (m : State) (s : System) (x : State)
    → OutsideLaw given (R passed) progress k m s x → Advances given R progress passed k m s
outside_advances given setting R progress passed k m s x law =
    let first : Step = seen_step_at given k m x in
    let out : is_outside [] first ≡ true = not_from_false (begins first) law.outside in
    let single : AreSingle law.whats = subst AreSingle law.whats_are (outside_single (mark_at given.view first.pc) given.view first) in
    let a = alone given k law.whats (with_admits (lines_at given.arrivals k) s) law.after single law.shows in
    let others = map (stamp k k) law.whats in
    record {
      first = first;
      rest = [];
      next = x;
      runs = (first, x, going_moment given.arrivals k m x law.goes, ([], refl, (refl, refl)));
      piece = Outside first;
      pieces_are = ap (λ b. cond b (Outside first ∷ []) (cond first.enabled_after (Stretch (first ∷ []) ∷ []) [])) out;
      cut_is = ap (λ b. cond b [] (cond first.enabled_after [] (first ∷ []))) out;
      unfinished = λ n l. absurd (omega arith);
      finds = (refl, inl refl);
      closed = λ i a b y e. absurd (omega arith);
      others = others;
      events =
          ap (λ u. u ++ map (stamp k k) (outside_events (mark_at given.view first.pc) given.view first))
          (admits_are given setting (moments k (k + 1) given.arrivals) (owned_at given setting k))
          ∙ ap (λ v. found_events given k ++ map (stamp k k) v) law.whats_are;
      stamps = a.stamps;
      later = a.later;
      placed = a.placed;
      counted = λ i t.
          admits-append i t (found_events given k) others ∙ ap (λ n. n + admits_at i t others) (admits_of i t (moments k (k + 1) given.arrivals))
          ∙ (let z = others_count i t others a.others in omega arith);
      keeps =
          subst (λ u. KeepsOrder u (found_events given k ++ others)) (append-nil (moments k (k + 1) given.arrivals))
          (orders-append (moments k (k + 1) given.arrivals) [] (found_events given k) others (admits_order (moments k (k + 1) given.arrivals)) (others_order others a.others));
      few = omega arith;
      brief = λ heaviest stretches. stretches.some;
      short = law.untouched;
      short_front = λ n l. absurd (omega arith);
      after = law.after;
      leads = a.leads;
      weighed = a.weighed;
      behind = passed;
      spends = λ t at spent declared named h.
          alone_spends given k at t spent (word_at m.core.ram 0) (word_at x.core.ram 0) (progress m s) (progress x law.after) passed
          (with_admits (lines_at given.arrivals k) s) law.after law.whats single law.shows law.runs_on law.progresses h;
      follows = λ past h. a.follows past;
      paced = λ longest at most near item. a.paced longest at (progress m s) (progress x law.after) near law.progresses;
      progresses = λ before l. subst (λ v. passed_count v before ≤ progress x law.after) (sym law.whats_are) (a.passing before (progress m s) (progress x law.after) l law.progresses);
      related = law.related;
    }
