-- The induction: from a count that finds MIE 1 to the next.
use Rattle.std.proofs.Common.{◌≡◌, ℕ, zero, suc, ◌+◌, ◌-◌, ◌<◌, ◌≤◌, List, [], ◌∷◌, ◌++◌, length, take, refl, sym, ap, ◌∙◌, subst, arith, append_assoc, append-nil, Bool, true, false, cond, Some, ⊎_elim, filter, nat_le, nat_lt}
use Rattle.std.specs.Prelude.{map}
use Rattle.std.specs.List.{flat_map, AllByRecursion}
use Rattle.std.proofs.lemmas.Bool.{cases_lt, le-leb, true≢false}
use Rattle.std.proofs.lemmas.List.Elements.{filter-append}
use Rattle.sloth_base.specs.declared.service.Arrival.{Arrival}
use Rattle.sloth_base.specs.declared.service.Stamped.{Stamped}
use Rattle.sloth_base.specs.declared.numbers.Step.{Step}
use Rattle.sloth_base.specs.Machine.{State}
use Rattle.sloth_base.specs.Arrivals.{moments}
use Rattle.sloth_base.specs.Owners.{owners_in, AreOwned}
use Rattle.rv32_machine.specs.Run.{state_after_from, state_with_arrivals, run_from}
use Rattle.observe.specs.Pieces.{pieces, cut_off_steps}
use Rattle.observe.specs.Observe.{observe, piece_events, found_admits, admission}
use Rattle.observe.proofs.Cutting.{pieces-append, cut_off-append}
use Rattle.observe.proofs.Moments.{moments-none}
use Rattle.osek_scheduler.specs.State.{System, opening}
use Rattle.osek_scheduler.specs.Runs.{AreStepsTo, AreStepsBehind}
use Rattle.osek_scheduler.specs.InTime.{is_admit, admits_at, arrivals_at, IsOrdered, StandsBefore, KeepsOrder}
use Rattle.sim_induction.specs.Short.{AreShort, IsShortPiece, HasShortGaps, passed_length}
use Rattle.sim_induction.specs.Sound.{stands_before}
use Rattle.sim_induction.specs.Admits.{Setting, IsSetting, lines_at, with_admits, admit_event}
use Rattle.sim_induction.proofs.Lines.{is_admitted, spans_admit, admit_before}
use Rattle.sim_induction.specs.Advances.{EachPair, IsInCounts, found_events, IsWithinItem, IsNamedByWord, Advances}
use Rattle.sim_induction.specs.PieceLaws.{Passed}
use Rattle.sim_induction.specs.Spent.{AreSpentTo}
use Rattle.osek_blocking.specs.Pace.{last_count}
use Rattle.sim_induction.specs.Weighed.{AreWeighedTo}
use Rattle.sim_induction.specs.Paced.{ArePacedTo}
use Rattle.sim_induction.specs.Related.{IsSimulation}
use Rattle.sim_induction.proofs.Follow.{leads-append, follows-append, follows_leads, follows_admits}
use Rattle.sim_induction.proofs.Events.{filter_all, filter_none, each_map, each_both, each-append, each_arrival, pairs-append, admit_pairs, moment_within, before, behind}
use Rattle.sim_induction.proofs.Schedule.{from_zero, moments-split, owned_at, admits_are}
use Rattle.sim_induction.proofs.Counts.{admits-append, arrivals-append, admits_of}
use Rattle.sim_induction.proofs.Order.{orders-append, admits_order}
use Rattle.sim_induction.proofs.Runs.{steps_from, run_steps, run_take, after_steps, goes_through}
use Rattle.sim_induction.proofs.RunFrom.{events_from, ReachedAt, nothing_spent, SoundFrom}
use Rattle.sim_induction.proofs.Weighing.{weighed-append, weighed_admits}
use Rattle.sim_induction.proofs.Pacing.{last-append, last_admits, paced-append, paced_admits}
use Rattle.sim_induction.proofs.Spending.{spent-append, spent_admits}

-- events of earlier counts stand before those of later ones
ordered_apart : (mid from to : ℕ) (x y : Stamped) → IsInCounts from mid x → IsInCounts mid to y → IsOrdered x y
ordered_apart mid from to x y h k = by (is_admit x) (is_admit y)
  where
    by : (b c : Bool) → StandsBefore b c x.stamp y.stamp
    by false false = let a = h.ends in let l = k.begins in omega arith
    by true false = let a = h.ends in let l = k.begins in let o = k.ordered in omega arith
    by false true = let a = h.ends in let w = h.ordered in let l = k.begins in let o = k.ordered in omega arith
    by true true = tt

pub pairs_apart : (from mid to : ℕ) (a b : List Stamped) → AllByRecursion (IsInCounts from mid) a → AllByRecursion (IsInCounts mid to) b → EachPair IsOrdered a → EachPair IsOrdered b → EachPair IsOrdered (a ++ b)
pairs_apart from mid to a b h k p q =
    pairs-append IsOrdered a b p q (each_map (IsInCounts from mid) (λ x. AllByRecursion (IsOrdered x) b) (λ x w. each_map (IsInCounts mid to) (IsOrdered x) (λ y v. ordered_apart mid from to x y w v) b k) a h)

pub within_wider : (from to low high : ℕ) (a : List Stamped) → low ≤ from → to ≤ high → AllByRecursion (IsInCounts from to) a → AllByRecursion (IsInCounts low high) a
within_wider from to low high a l h = each_map (IsInCounts from to) (IsInCounts low high) (λ e w. record { begins = let b = w.begins in omega arith; ordered = w.ordered; ends = let b = w.ends in omega arith; spans = w.spans }) a

-- ---- the induction

module _ (given : Setting) (setting : IsSetting given) (R : Passed → State → System → Type 0) (progress : State → System → ℕ) (simulation : IsSimulation given R progress) where
  abbrev A : List Arrival
  A = given.arrivals

  abbrev mine : ℕ → List Stamped
  mine k = found_events given k

  abbrev here : ℕ → List Arrival
  here k = moments k (k + 1) A

  owned_here : (k : ℕ) → AreOwned (owners_in given.config) (lines_at A k)
  owned_here = owned_at given setting

  follow_mine : (passed : Passed) (past : List Stamped) (k : ℕ) (m : State) (s : System) → R passed m s → AreStepsBehind given.config given.app past s (mine k) (with_admits (lines_at A k) s)
  follow_mine passed past k m s r = follows_admits given.config given.app past (here k) s setting.few_tasks (simulation.booted passed m s r) (owned_here k)

  weigh_mine : (passed : Passed) (k : ℕ) (m : State) (s : System) → R passed m s → AreWeighedTo given.config given.app (mine k) s (with_admits (lines_at A k) s)
  weigh_mine passed k m s r = weighed_admits given.config given.app (here k) s setting.few_tasks (simulation.booted passed m s r) (owned_here k)

  pace_mine : (passed : Passed) (longest at k : ℕ) (m : State) (s : System) → R passed m s → ArePacedTo given.config given.app given.size longest at (mine k) s (with_admits (lines_at A k) s)
  pace_mine passed longest at k m s r = paced_admits given.config given.app given.size longest at (here k) s setting.few_tasks (simulation.booted passed m s r) (owned_here k)

  spend_mine : (passed : Passed) (longest t at spent k : ℕ) (m : State) (s : System) → R passed m s
      → AreSpentTo given.config given.app given.size longest t at spent (mine k) s (with_admits (lines_at A k) s) at spent
  spend_mine passed longest t at spent k m s r =
      spent_admits given.config given.app given.size longest t at spent (here k) s setting.few_tasks (simulation.booted passed m s r) (owned_here k)

  -- the word names the task that runs, so no more has shown nothing than its item has instructions
  within_item : (passed : Passed) (m : State) (s : System) → R passed m s → IsWithinItem given progress m s
  within_item passed m s r = record {
    of_task = λ t runs. (simulation.measured passed m s r).turn t ((simulation.mirrors passed m s r).running t runs).1 [] [];
    idle = λ rests. (simulation.measured passed m s r).idle ((simulation.mirrors passed m s r).idle rests).1;
  }

  by_word : (passed : Passed) (m : State) (s : System) → R passed m s → IsNamedByWord given m s
  by_word passed m s r t runs = ((simulation.mirrors passed m s r).running t runs).1

  mine_within : (k hi : ℕ) → k < hi → AllByRecursion (IsInCounts k hi) (mine k)
  mine_within k hi l = each_arrival (IsInCounts k hi) (λ a. a.at ≡ k) (λ a e. record { begins = omega arith; ordered = omega arith; ends = omega arith; spans = spans_admit a }) (here k) (moment_within k A)

  mine_ends : (k to : ℕ) → AllByRecursion (λ e. is_admit e ≡ false → e.stamp.at < to) (mine k)
  mine_ends k to = each_arrival (λ e. is_admit e ≡ false → e.stamp.at < to) (λ a. a.at ≡ k) (λ a e z. absurd (true≢false (sym (is_admitted a) ∙ z))) (here k) (moment_within k A)

  mine_before : (x k : ℕ) → k ≤ x → AllByRecursion (λ e. stands_before x e ≡ true) (mine k)
  mine_before x k h = each_arrival (λ e. stands_before x e ≡ true) (λ a. a.at ≡ k) (λ a e. ap (λ b. cond b (nat_le a.at x) (nat_lt a.at x)) (is_admitted a) ∙ le-leb a.at x (omega arith)) (here k) (moment_within k A)

  none_mine : (k : ℕ) → moments k k A ≡ []
  none_mine k = moments-none k A

  -- nothing has run
  none : (passed : Passed) (k : ℕ) (m : State) (s : System) (past : List Stamped) → R passed m s → SoundFrom given R progress passed 0 k m s past
  unfolding run_from state_after_from observe
  none passed k m s past r = record {
    end = m;
    whole = refl;
    last = s;
    follows = refl;
    weighed = refl;
    paced = λ longest at most near.
        let few = (simulation.measured passed m s r).few longest most in (
          refl,
          omega (arith, near, few),
          (λ heaviest within. let some = within.some in omega (arith, near, few, some)),
        );
    spends = λ t at spent declared h. nothing_spent given t at spent s;
    within = tt;
    placed = tt;
    to = k;
    to_in = (omega arith, omega arith, omega arith);
    ends = tt;
    counted = λ i t. sym (ap (arrivals_at i t) (none_mine k));
    keeps = subst (λ v. KeepsOrder v []) (sym (none_mine k)) (admits_order []);
    short = tt;
    short_cut = tt;
    gaps = λ before h. tt;
    mirrors = λ i h. absurd (omega arith);
  }

  -- the first count
  at_first : (passed : Passed) (k : ℕ) (m : State) (s : System) → R passed m s → (E others : List Stamped) → E ≡ mine k ++ others → AllByRecursion (λ e. stands_before k e ≡ false) others
      → (x : State) → state_after_from 0 A k m ≡ Some x → ReachedAt given R E s (k + 0) x
  unfolding state_after_from
  at_first passed k m s r E others e away x h =
      let k0 : k + 0 ≡ k = omega arith in
      let f : filter (stands_before k) E ≡ mine k =
      ap (filter (stands_before k)) e ∙ filter-append (stands_before k) (mine k) others
      ∙ ap (λ u. u ++ filter (stands_before k) others) (filter_all (stands_before k) (mine k) (mine_before k k (omega arith)))
      ∙ ap (λ u. mine k ++ u) (filter_none (stands_before k) others away) ∙ append-nil (mine k) in
      let mx : m ≡ x = cc in
      subst (λ i. ReachedAt given R E s i x) (sym k0) (
        with_admits (lines_at A k) s,
        subst (λ u. AreStepsTo given.config given.app u s (with_admits (lines_at A k) s)) (sym f) (follows_leads given.config given.app [] s (mine k) (with_admits (lines_at A k) s) (follow_mine passed [] k m s r)),
        (passed, subst (λ y. R passed (state_with_arrivals A k y) (with_admits (lines_at A k) s)) mx (simulation.arrives passed k m s r)),
      )

  -- a stretch that the end cuts off
  module _ (passed : Passed) (n k : ℕ) (m : State) (s : System) (past : List Stamped) (r : R passed m s) (a : Advances given R progress passed k m s) (l : suc n < suc (length a.rest)) where
    cut_run : steps_from (suc n) A k m ≡ a.first ∷ take n a.rest
    cut_run = run_take (suc (length a.rest)) (suc n) k A m (a.first ∷ a.rest) a.next a.runs (omega arith)

    cut_pieces : pieces [] (steps_from (suc n) A k m) ≡ []
    cut_pieces = ap (pieces []) cut_run ∙ (a.unfinished n (omega arith)).0

    cut_open : cut_off_steps [] (steps_from (suc n) A k m) ≡ a.first ∷ take n a.rest
    cut_open = ap (cut_off_steps []) cut_run ∙ (a.unfinished n (omega arith)).1

    cut_observed : events_from given (suc n) k m ≡ mine k
    unfolding observe
    cut_observed =
        let f : a.first.enabled_before ≡ true = ⊎_elim (λ (z : length a.rest ≡ 0). absurd (omega arith)) (λ (z : a.first.enabled_before ≡ true). z) a.finds.1 in
        ap (λ p. flat_map (piece_events given.view A) p ++ found_admits given.view A (cut_off_steps [] (steps_from (suc n) A k m))) cut_pieces
        ∙ ap (found_admits given.view A) cut_open
        ∙ ap (λ b. map (admission given.view) (moments a.first.count (cond b (a.first.count + 1) a.first.count) A)) f
        ∙ ap (λ v. map (admission given.view) (here v)) a.finds.0
        ∙ admits_are given setting (here k) (owned_here k)

    cut_sound : SoundFrom given R progress passed (suc n) k m s past
    cut_sound =
        let through = goes_through (suc (length a.rest)) (suc n) k A m (a.first ∷ a.rest) a.next a.runs (omega arith) in
        record {
          end = through.0;
          whole = through.1;
          last = with_admits (lines_at A k) s;
          follows = subst (λ E. AreStepsBehind given.config given.app past s E (with_admits (lines_at A k) s)) (sym cut_observed) (follow_mine passed past k m s r);
          weighed = subst (λ E. AreWeighedTo given.config given.app E s (with_admits (lines_at A k) s)) (sym cut_observed) (weigh_mine passed k m s r);
          paced = λ longest at most near. (
            subst (λ E. ArePacedTo given.config given.app given.size longest at E s (with_admits (lines_at A k) s)) (sym cut_observed) (pace_mine passed longest at k m s r),
            (let last : last_count at (events_from given (suc n) k m) ≡ at = ap (last_count at) cut_observed ∙ last_admits at (here k) in
                let few = (simulation.measured passed m s r).few longest most in
                let short = a.few in
                omega (arith, near, few, short, last, l)),
            (λ heaviest stretches.
                let last : last_count at (events_from given (suc n) k m) ≡ at = ap (last_count at) cut_observed ∙ last_admits at (here k) in
                let few = (simulation.measured passed m s r).few longest most in
                let short = a.brief heaviest stretches in
                omega (arith, near, few, short, last, l)),
          );
          spends = λ t at spent declared h. record {
            to = at;
            left = spent;
            leads = λ longest. subst (λ E. AreSpentTo given.config given.app given.size longest t at spent E s (with_admits (lines_at A k) s) at spent) (sym cut_observed)
                (spend_mine passed longest t at spent k m s r);
          };
          within = subst (AllByRecursion (IsInCounts k (k + suc n))) (sym cut_observed) (mine_within k (k + suc n) (omega arith));
          placed = subst (EachPair IsOrdered) (sym cut_observed) (admit_pairs (here k));
          to = k + 1;
          to_in = (omega arith, omega arith, (let q = a.few in omega arith));
          ends = subst (AllByRecursion (λ e. is_admit e ≡ false → e.stamp.at < k + 1)) (sym cut_observed) (mine_ends k (k + 1));
          counted = λ i t. ap (admits_at i t) cut_observed ∙ admits_of i t (here k);
          keeps = subst (KeepsOrder (here k)) (sym cut_observed) (admits_order (here k));
          short = subst (AllByRecursion (IsShortPiece given.config)) (sym cut_pieces) tt;
          short_cut = subst (AreShort given.config) (sym cut_open) (a.short_front n (omega arith));
          gaps = λ before h. subst (HasShortGaps given.view before) (sym cut_pieces) tt;
          mirrors = λ i h x g o. cut_mirror i h x g o;
        }
      where
        cut_mirror : (i : ℕ) → i < suc n → (x : State) → state_after_from i A k m ≡ Some x → x.core.mie ≡ true → ReachedAt given R (events_from given (suc n) k m) s (k + i) x
        cut_mirror zero h x g o = at_first passed k m s r (events_from given (suc n) k m) [] (cut_observed ∙ sym (append-nil (mine k))) tt x g
        cut_mirror (suc i) h x g o = let f = a.closed (suc i) (omega arith) (omega arith) x g in cc

  -- a piece, and the run behind it
  module _ (passed : Passed) (n k : ℕ) (m : State) (s : System) (past : List Stamped) (reached : AreStepsTo given.config given.app past (opening given.config given.app) s) (r : R passed m s)
      (a : Advances given R progress passed k m s) (g : SoundFrom given R progress a.behind n (k + suc (length a.rest)) a.next a.after (past ++ (mine k ++ a.others))) where
    abbrev j : ℕ
    j = suc (length a.rest)

    abbrev F : List Step
    F = steps_from n A (k + j) a.next

    abbrev E : List Stamped
    E = events_from given n (k + j) a.next

    long_run : steps_from (j + n) A k m ≡ (a.first ∷ a.rest) ++ F
    long_run = run_steps j n k A m (a.first ∷ a.rest) a.next a.runs

    long_pieces : pieces [] (steps_from (j + n) A k m) ≡ a.piece ∷ pieces [] F
    long_pieces =
        ap (pieces []) long_run ∙ pieces-append [] (a.first ∷ a.rest) F
        ∙ ap (λ q. pieces [] (a.first ∷ a.rest) ++ pieces q F) a.cut_is
        ∙ ap (λ p. p ++ pieces [] F) a.pieces_are

    long_open : cut_off_steps [] (steps_from (j + n) A k m) ≡ cut_off_steps [] F
    long_open = ap (cut_off_steps []) long_run ∙ cut_off-append [] (a.first ∷ a.rest) F ∙ ap (λ q. cut_off_steps q F) a.cut_is

    observed : events_from given (j + n) k m ≡ (mine k ++ a.others) ++ E
    unfolding observe
    observed =
        ap (λ p. flat_map (piece_events given.view A) p ++ found_admits given.view A (cut_off_steps [] (steps_from (j + n) A k m))) long_pieces
        ∙ ap (λ q. (piece_events given.view A a.piece ++ flat_map (piece_events given.view A) (pieces [] F)) ++ found_admits given.view A q) long_open
        ∙ append_assoc (piece_events given.view A a.piece) (flat_map (piece_events given.view A) (pieces [] F)) (found_admits given.view A (cut_off_steps [] F))
        ∙ ap (λ u. u ++ E) a.events

    others_before : (x : ℕ) → k + j ≤ x → AllByRecursion (λ e. stands_before x e ≡ true) a.others
    others_before x h = each_map (IsInCounts k (k + j)) (λ e. stands_before x e ≡ true) (λ e t. before (is_admit e) e.stamp.at x (let u = t.ends in omega arith)) a.others a.stamps

    others_behind : AllByRecursion (λ e. stands_before k e ≡ false) a.others
    others_behind =
        each_map (λ e. IsInCounts k (k + j) e × (is_admit e ≡ true → k < e.stamp.at)) (λ e. stands_before k e ≡ false)
        (λ e t. behind (is_admit e) e.stamp.at k (let u = t.0.begins in let v = t.0.ordered in omega arith) t.1) a.others
        (each_both (IsInCounts k (k + j)) (λ e. is_admit e ≡ true → k < e.stamp.at) a.others a.stamps a.later)

    rest_behind : AllByRecursion (λ e. stands_before k e ≡ false) E
    rest_behind =
        each_map (IsInCounts (k + j) (k + j + n)) (λ e. stands_before k e ≡ false)
        (λ e t. behind (is_admit e) e.stamp.at k (let u = t.begins in let v = t.ordered in omega arith) (λ z. let u = t.begins in let v = t.ordered in omega arith)) E g.within

    mine_leads : AreStepsTo given.config given.app (past ++ mine k) (opening given.config given.app) (with_admits (lines_at A k) s)
    mine_leads = leads-append given.config given.app past (mine k) (opening given.config given.app) s (with_admits (lines_at A k) s) reached (follows_leads given.config given.app past s (mine k) (with_admits (lines_at A k) s) (follow_mine passed past k m s r))

    piece_follows : AreStepsBehind given.config given.app past s (mine k ++ a.others) a.after
    piece_follows = follows-append given.config given.app past s (with_admits (lines_at A k) s) a.after (mine k) a.others (follow_mine passed past k m s r) (a.follows (past ++ mine k) mine_leads)

    piece_leads : AreStepsTo given.config given.app (mine k ++ a.others) s a.after
    piece_leads = follows_leads given.config given.app past s (mine k ++ a.others) a.after piece_follows

    piece_weighed : AreWeighedTo given.config given.app (mine k ++ a.others) s a.after
    piece_weighed = weighed-append given.config given.app (mine k) a.others s (with_admits (lines_at A k) s) a.after (weigh_mine passed k m s r) a.weighed

    -- and ends in pace
    last_piece : (at : ℕ) → last_count at (mine k ++ a.others) ≡ last_count at a.others
    last_piece at = last-append at (mine k) a.others ∙ ap (λ v. last_count v a.others) (last_admits at (here k))

    last_whole : (at : ℕ) → last_count at (events_from given (j + n) k m) ≡ last_count (last_count at a.others) E
    last_whole at = ap (last_count at) observed ∙ last-append at (mine k ++ a.others) E ∙ ap (λ v. last_count v E) (last_piece at)

    piece_paced : (longest at : ℕ) → ArePacedTo given.config given.app given.size longest at a.others (with_admits (lines_at A k) s) a.after
        → ArePacedTo given.config given.app given.size longest at (mine k ++ a.others) s a.after
    piece_paced longest at h =
        paced-append given.config given.app given.size longest (mine k) a.others at at s (with_admits (lines_at A k) s) a.after (last_admits at (here k)) (pace_mine passed longest at k m s r) h

    piece_within : AllByRecursion (IsInCounts k (k + j)) (mine k ++ a.others)
    piece_within = each-append (IsInCounts k (k + j)) (mine k) a.others (mine_within k (k + j) (omega arith)) a.stamps

    piece_placed : EachPair IsOrdered (mine k ++ a.others)
    piece_placed =
        pairs-append IsOrdered (mine k) a.others (admit_pairs (here k)) a.placed
        (each_arrival (λ x. AllByRecursion (IsOrdered x) a.others) (λ y. y.at ≡ k)
        (λ y e. each_map (IsInCounts k (k + j)) (IsOrdered (admit_event y)) (λ z w. admit_before y z (by y (is_admit z) z e w)) a.others a.stamps) (here k) (moment_within k A))
      where
        by : (y : Arrival) (b : Bool) (z : Stamped) → y.at ≡ k → IsInCounts k (k + j) z → StandsBefore true b (admit_event y).stamp z.stamp
        by y true z e w = tt
        by y false z e w = let u = w.begins in let v = w.ordered in omega arith

    longer : SoundFrom given R progress passed (j + n) k m s past
    longer =
        let same : k + j + n ≡ k + (j + n) = omega arith in
        record {
          end = g.end;
          whole = after_steps j n k A m (a.first ∷ a.rest) a.next a.runs ∙ g.whole;
          last = g.last;
          follows = subst (λ u. AreStepsBehind given.config given.app past s u g.last) (sym observed) (follows-append given.config given.app past s a.after g.last (mine k ++ a.others) E piece_follows g.follows);
          weighed = subst (λ u. AreWeighedTo given.config given.app u s g.last) (sym observed) (weighed-append given.config given.app (mine k ++ a.others) E s a.after g.last piece_weighed g.weighed);
          paced = λ longest at most near.
              let front = a.paced longest at most near (within_item passed m s r) in
              let rest = g.paced longest (last_count at a.others) most front.1 in (
                subst (λ u. ArePacedTo given.config given.app given.size longest at u s g.last) (sym observed)
                    (paced-append given.config given.app given.size longest (mine k ++ a.others) E at (last_count at a.others) s a.after g.last (last_piece at)
                    (piece_paced longest at front.0) rest.0),
                (let far = rest.1 in let last = last_whole at in omega (arith, far, last)),
                (λ heaviest stretches. let far = rest.2 heaviest stretches in let last = last_whole at in omega (arith, far, last)),
              );
          spends = λ t at spent declared h.
              let front = a.spends t at spent declared (by_word passed m s r) h in
              let rest = g.spends t front.to front.left declared front.holds in
              record {
                to = rest.to;
                left = rest.left;
                leads = λ longest. subst (λ u. AreSpentTo given.config given.app given.size longest t at spent u s g.last rest.to rest.left) (sym observed)
                    (spent-append given.config given.app given.size longest t (mine k ++ a.others) E at spent front.to front.left s a.after g.last rest.to rest.left
                    (spent-append given.config given.app given.size longest t (mine k) a.others at spent at spent s (with_admits (lines_at A k) s) a.after front.to front.left
                    (spend_mine passed longest t at spent k m s r) (front.leads longest)) (rest.leads longest));
              };
          within = subst (AllByRecursion (IsInCounts k (k + (j + n)))) (sym observed)
              (each-append (IsInCounts k (k + (j + n))) (mine k ++ a.others) E
              (within_wider k (k + j) k (k + (j + n)) (mine k ++ a.others) (omega arith) (omega arith) piece_within)
              (within_wider (k + j) (k + j + n) k (k + (j + n)) E (omega arith) (omega arith) g.within));
          placed = subst (EachPair IsOrdered) (sym observed) (pairs_apart k (k + j) (k + j + n) (mine k ++ a.others) E piece_within g.within piece_placed g.placed);
          to = g.to;
          to_in = (let q = g.to_in in (omega arith, omega arith, omega arith));
          ends = subst (AllByRecursion (λ e. is_admit e ≡ false → e.stamp.at < g.to)) (sym observed)
              (each-append (λ e. is_admit e ≡ false → e.stamp.at < g.to) (mine k ++ a.others) E
              (each_map (IsInCounts k (k + j)) (λ e. is_admit e ≡ false → e.stamp.at < g.to) (λ e w z. let u = w.ends in let q = g.to_in.0 in omega arith) (mine k ++ a.others) piece_within) g.ends);
          counted = λ i t.
              ap (admits_at i t) observed ∙ admits-append i t (mine k ++ a.others) E
              ∙ ap (λ v. v + admits_at i t E) (a.counted i t) ∙ ap (λ v. arrivals_at i t (moments k (k + j) A) + v) (g.counted i t)
              ∙ sym (ap (arrivals_at i t) (moments-split 0 k (k + j) g.to A (from_zero A setting.ordered) (omega arith) g.to_in.0) ∙ arrivals-append i t (moments k (k + j) A) (moments (k + j) g.to A));
          keeps = subst (KeepsOrder (moments k g.to A)) (sym observed)
              (subst (λ v. KeepsOrder v ((mine k ++ a.others) ++ E)) (sym (moments-split 0 k (k + j) g.to A (from_zero A setting.ordered) (omega arith) g.to_in.0))
              (orders-append (moments k (k + j) A) (moments (k + j) g.to A) (mine k ++ a.others) E a.keeps g.keeps));
          short = subst (AllByRecursion (IsShortPiece given.config)) (sym long_pieces) (a.short, g.short);
          short_cut = subst (AreShort given.config) (sym long_open) g.short_cut;
          gaps = λ b h. subst (HasShortGaps given.view b) (sym long_pieces) (
            (let p = a.progresses b h in let q = simulation.bounded a.behind a.next a.after a.related in omega arith),
            g.gaps (passed_length given.view a.piece b) (a.progresses b h),
          );
          mirrors = λ i h x f o. ⊎_elim (λ (z : i < j). first_count i z x f o) (λ (z : j ≤ i). later_count i z h x f o) (cases_lt i j);
        }
      where
        first_count : (i : ℕ) → i < j → (x : State) → state_after_from i A k m ≡ Some x → x.core.mie ≡ true → ReachedAt given R (events_from given (j + n) k m) s (k + i) x
        first_count zero z x f o =
            at_first passed k m s r (events_from given (j + n) k m) (a.others ++ E) (observed ∙ append_assoc (mine k) a.others E)
            (each-append (λ e. stands_before k e ≡ false) a.others E others_behind rest_behind) x f
        first_count (suc i) z x f o = let q = a.closed (suc i) (omega arith) z x f in cc

        later_count : (i : ℕ) → j ≤ i → i < j + n → (x : State) → state_after_from i A k m ≡ Some x → x.core.mie ≡ true → ReachedAt given R (events_from given (j + n) k m) s (k + i) x
        later_count i z h x f o =
            let i' = i - j in
            let e : j + i' ≡ i = omega arith in
            let e2 : k + j + i' ≡ k + i = omega arith in
            let f' : state_after_from i' A (k + j) a.next ≡ Some x = sym (after_steps j i' k A m (a.first ∷ a.rest) a.next a.runs) ∙ ap (λ q. state_after_from q A k m) e ∙ f in
            let v = subst (λ q. ReachedAt given R E a.after q x) e2 (g.mirrors i' (omega arith) x f' o) in
            let fl : filter (stands_before (k + i)) (events_from given (j + n) k m) ≡ (mine k ++ a.others) ++ filter (stands_before (k + i)) E =
            ap (filter (stands_before (k + i))) observed ∙ filter-append (stands_before (k + i)) (mine k ++ a.others) E
            ∙ ap (λ u. u ++ filter (stands_before (k + i)) E)
            (filter_all (stands_before (k + i)) (mine k ++ a.others)
            (each-append (λ e. stands_before (k + i) e ≡ true) (mine k) a.others (mine_before (k + i) k (omega arith)) (others_before (k + i) (omega arith)))) in
            (v.0, subst (λ u. AreStepsTo given.config given.app u s v.0) (sym fl) (leads-append given.config given.app (mine k ++ a.others) (filter (stands_before (k + i)) E) s a.after v.0 piece_leads v.1), v.2)

  -- Every run from a count at which R holds is sound.
  pub sound_from : (fuel n k : ℕ) (passed : Passed) (m : State) (s : System) (past : List Stamped) → n ≤ fuel → 0 < k → R passed m s → AreStepsTo given.config given.app past (opening given.config given.app) s
      → SoundFrom given R progress passed n k m s past
  sound_from fuel zero k passed m s past h z r l = none passed k m s past r
  sound_from zero (suc n) k passed m s past h z r l = absurd (omega arith)
  sound_from (suc fuel) (suc n) k passed m s past h z r l =
      let a = simulation.advances passed k m s z r in
      ⊎_elim
      (λ (q : suc n < suc (length a.rest)). cut_sound passed n k m s past r a q)
      (λ (q : suc (length a.rest) ≤ suc n).
      let n' = suc n - suc (length a.rest) in
      let e : suc (length a.rest) + n' ≡ suc n = omega arith in
      let past' = past ++ (mine k ++ a.others) in
      let reach = leads-append given.config given.app past (mine k ++ a.others) (opening given.config given.app) s a.after l
      (leads-append given.config given.app (mine k) a.others s (with_admits (lines_at A k) s) a.after (follows_leads given.config given.app [] s (mine k) (with_admits (lines_at A k) s) (follow_mine passed [] k m s r)) a.leads) in
      subst (λ x. SoundFrom given R progress passed x k m s past) e
      (longer passed n' k m s past l r a
      (sound_from fuel n' (k + suc (length a.rest)) a.behind a.next a.after past' (omega arith) (omega arith) a.related reach)))
      (cases_lt (suc n) (suc (length a.rest)))
