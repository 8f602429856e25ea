-- The costs of a record fit the rounds of its task code.
use Rattle.std.proofs.Common.{◌≡◌, ℕ, ◌+◌, ◌-◌, ◌<◌, ◌≤◌, ◌⊎◌, ◌&&◌, ◌||◌, ◌==◌, ◌++◌, not, cond, Bool, true, false, min, max, append_assoc, List, [], ◌∷◌, length, get_or, refl, sym, ap, ◌∙◌, subst, arith, inl, inr, Some, None, Option}
use Rattle.std.specs.List.{AllByRecursion}
use Rattle.std.specs.Prelude.{Decides}
use Rattle.std.proofs.lemmas.Bool.{leb-true, le-ltb, cases_lt, true≢false, and_parts, not-true}
use Rattle.std.proofs.lemmas.List.{get_or_past}
use Rattle.std.proofs.lemmas.Bool.Decides.{same_from_decides}
use Rattle.sloth_base.specs.declared.config.Config.{Config}
use Rattle.sloth_base.specs.declared.app.App.{App}
use Rattle.sloth_base.specs.Named.{function, declaration, body_of}
use Rattle.load_text.specs.declared.load_line.Entry.{Entry}
use Rattle.load_text.specs.Loads.{work}
use Rattle.osek_scheduler.specs.Apart.{static_priority}
use Rattle.osek_scheduler.proofs.Facts.{Facts}
use Rattle.osek_blocking.specs.Walks.{Position, AreConsecutive, IsWalk}
use Rattle.osek_blocking.specs.Sections.{operation_at}
use Rattle.bound_rules.specs.declared.bound.BodyWeights.{BodyWeights}
use Rattle.bound_rules.specs.Weights.{no_weights, going_weight, ending_weight}
use Rattle.run_counts.specs.Counts.{AreBodyCounts, AreCounts}
use Rattle.walk_sums.specs.Weights.{going_at, ending_at, sum_of}
use Rattle.sim_induction.specs.Events.{enter_counts}
use Rattle.code_lengths.specs.LongestPaths.{entry_path, tick_path}
use Rattle.walk_sums.specs.declared.sections.Sum.{Sum}
use Rattle.walk_sums.specs.declared.sections.Sum.TheVariants as sum
use Rattle.walk_sums.specs.declared.sections.RoundSums.{RoundSums}
use Rattle.walk_sums.specs.declared.counted.Counted.{Counted}
use Rattle.walk_sums.specs.declared.counted.Counted.TheVariants as counts
use Rattle.walk_sums.specs.Rounds
use Rattle.walk_sums.specs.Rounds.{IsTurn, IsClean, Reaches, is_wait}
use Rattle.walk_sums.specs.Counted.{counted_weights}
use Rattle.walk_sums.specs.Told.{NoneIsAbove, IsToldSum, are_limited, are_endless, AreToldRounds}
use Rattle.run_windows.specs.declared.costs.Costs.{Costs}
use Rattle.run_windows.specs.Costs.{reckoned, task, comes, making, no_makings}
use Rattle.run_windows.specs.Windows.{is_lower, is_left_out}
use Rattle.run_costs.specs.Rounds.{AreRounds, round_cost, activations_of, made}
use Rattle.response_laws.specs.Demand
use Rattle.response_laws.specs.Bounded.{IsOfLevel}
use Rattle.response_laws.specs.Walked.{IsFirstRound, IsLaterRound, FirstRoundsSum, LaterRoundsSum}
use Rattle.response_laws.specs.Makers.{activation_weights, setting_weights}
use Rattle.response_laws.specs.Once.{StaysOut}
use Rattle.response_laws.specs.SoundRuns.{WorksWithin, FitsRounds}
use Rattle.run_costs.specs.RunCosts.{round_entry, AreRunTaskCosts, AreRunMakings, AreRunCosts}
use Rattle.run_windows.specs.RunWindows.{is_joined, is_counted, is_making_counted, IsTold, AreTold}
use Rattle.run_responses.specs.Meeting.{AreCutTasks}
use Rattle.response_laws.proofs.Counting.{counted_lighter}
use Rattle.run_responses.proofs.Reaching.{no_waits}
use Rattle.run_responses.proofs.Numbers.{told_number, none_told, told_entry}

-- ---- walks

-- the end of a walk sums up to no more than the walk
pub end_few : (weights : List BodyWeights) → ((at : Position) → going_at weights at ≤ ending_at weights at)
    → (before positions : List Position) → sum_of weights positions ≤ sum_of weights (before ++ positions)
end_few weights lighter [] positions = omega arith
end_few weights lighter (at ∷ before) positions = by before positions (end_few weights lighter before positions)
  where
    by : (before positions : List Position) → sum_of weights positions ≤ sum_of weights (before ++ positions)
        → sum_of weights positions ≤ sum_of weights (at ∷ (before ++ positions))
    by [] [] le = omega arith
    by [] (p ∷ positions) le = omega (arith, le)
    by (b ∷ before) positions le = omega (arith, le)

consecutive_front : (app : App) (before further : List Position) (at : Position) → AreConsecutive app (before ++ at ∷ further) → AreConsecutive app (before ++ at ∷ [])
consecutive_front app [] further at c = (tt, tt)
consecutive_front app (x ∷ []) further at c = (c.0, (tt, tt))
consecutive_front app (x ∷ y ∷ before) further at c = (c.0, consecutive_front app (y ∷ before) further at c.1)

-- a walk up to one of its positions
pub walk_front : (app : App) (t : ℕ) (before further : List Position) (at : Position) → IsWalk app t (before ++ at ∷ further) → IsWalk app t (before ++ at ∷ [])
walk_front app t [] further at walk = (walk.0, (tt, tt))
walk_front app t (x ∷ before) further at walk = (walk.0, consecutive_front app (x ∷ before) further at walk.1)

only_some : (app : App) (positions : List Position) → Rounds.OnlyLast app (λ o. false) positions
only_some app [] = tt
only_some app (at ∷ further) = (λ more. refl, only_some app further)

-- ---- what is told of rounds

-- a sum that is told bounds its parts
counts_above : (Part : List Position → Type 0) (weights : List BodyWeights) (n : ℕ) (told : Sum) → told ≡ sum.Counts n → IsToldSum Part weights told → NoneIsAbove Part weights n
counts_above Part weights n told is are = (subst (IsToldSum Part weights) is are).0.none_above

module _ (app : App) (t : ℕ) (weights : List BodyWeights) (n : ℕ) where
  both_told : (told : RoundSums) → AreToldRounds app t weights told → (told.first ≡ sum.Counts n → NoneIsAbove (Rounds.IsFirstRound app t) weights n)
      × (told.later ≡ sum.Counts n → NoneIsAbove (Rounds.IsLaterRound app t) weights n)
  both_told told (are_limited _ some more first later) =
      (λ e. counts_above (Rounds.IsFirstRound app t) weights n told.first e first, λ e. counts_above (Rounds.IsLaterRound app t) weights n told.later e later)
  both_told told (are_endless each) = (λ e. cc, λ e. cc)

  module _ (lighter : (at : Position) → going_at weights at ≤ ending_at weights at) where
    turn_first : NoneIsAbove (IsTurn app t) weights n → FirstRoundsSum app false t weights n
    turn_first none positions part = none positions part

    turn_later : NoneIsAbove (IsTurn app t) weights n → LaterRoundsSum app false t weights n
    turn_later none positions part =
        let whole = none (part.before ++ positions)
        (record { before = []; of_walk = part.of_walk; begins = refl; stands = all_anywhere (part.before ++ positions); unbroken = only_some app (part.before ++ positions) }) in
        let few = end_few weights lighter part.before positions in
        omega (arith, whole, few)
      where
        all_anywhere : (ps : List Position) → AllByRecursion Rounds.Anywhere ps
        all_anywhere [] = tt
        all_anywhere (p ∷ ps) = (tt, all_anywhere ps)

    -- a task that waits for nothing has rounds that are its turns, and no others
    basic_first : ((at : Position) → Reaches app t at → is_wait (operation_at app at) ≡ false) → NoneIsAbove (Rounds.IsFirstRound app t) weights n → FirstRoundsSum app false t weights n
    basic_first never none positions part =
        none positions (record { before = part.before; of_walk = part.of_walk; begins = part.begins; stands = part.stands; unbroken = unwaiting part.before positions part.of_walk })
      where
        unwaiting : (before positions : List Position) → IsWalk app t (before ++ positions) → Rounds.OnlyLast app is_wait positions
        unwaiting before [] walk = tt
        unwaiting before (at ∷ further) walk = (
          λ more. never at (before, walk_front app t before further at walk),
          unwaiting (before ++ at ∷ []) further (subst (IsWalk app t) (sym (append_assoc before (at ∷ []) further)) walk),
        )

    basic_later : ((at : Position) → Reaches app t at → is_wait (operation_at app at) ≡ false) → LaterRoundsSum app false t weights n
    basic_later never positions part = absurd (behind part.before part.of_walk part.begins)
      where
        behind : (before : List Position) → IsWalk app t (before ++ positions) → Rounds.IsBehindWait app before → ⊥
        behind before walk (front, at, is, waits) =
            let whole : IsWalk app t (front ++ at ∷ positions) =
            subst (IsWalk app t) (append_assoc front (at ∷ []) positions) (subst (λ b. IsWalk app t (b ++ positions)) is walk) in
            true≢false (sym waits ∙ never at (front, walk_front app t front positions at whole))

    -- what is told of the first rounds, and of the others
    pub first_above : (clean extended : Bool) (told : RoundSums) → (extended ≡ false → (at : Position) → Reaches app t at → is_wait (operation_at app at) ≡ false)
        → AreRounds app clean extended t weights told → told.first ≡ sum.Counts n → FirstRoundsSum app (clean && extended) t weights n
    first_above true true told never are is = (both_told told are).0 is
    first_above true false told never are is = basic_first (never refl) ((both_told (record { first = told.first; later = are.0 }) are.1).0 is)
    first_above false extended told never are is = turn_first (counts_above (IsTurn app t) weights n told.first is are.0)

    pub later_above : (clean extended : Bool) (told : RoundSums) → (extended ≡ false → (at : Position) → Reaches app t at → is_wait (operation_at app at) ≡ false)
        → AreRounds app clean extended t weights told → told.later ≡ sum.Counts n → LaterRoundsSum app (clean && extended) t weights n
    later_above true true told never are is = (both_told told are).1 is
    later_above true false told never are is = basic_later (never refl)
    later_above false extended told never are is = turn_later (counts_above (IsTurn app t) weights n told.first (sym are.1 ∙ is) are.0)

-- ---- numbers that are told of sums

module _ (Goal : ℕ → Type 0) (weaken : (n m : ℕ) → n ≤ m → Goal n → Goal m) where
  -- of costs: by the load, or by walks
  pub cost_told : (entry : ℕ) (w : Option ℕ) (s : Sum) (o : Option ℕ) → o ≡ round_cost entry w s → IsTold o → ((n : ℕ) → s ≡ sum.Counts n → Goal n)
      → (entry ≤ reckoned o) × (((own : ℕ) × (w ≡ Some own) × (own ≤ reckoned o - entry)) ⊎ Goal (reckoned o - entry))
  cost_told entry (Some own) (sum.Counts n) o is told above = (let e = number in omega (arith, e), by (cases_lt own n))
    where
      number : reckoned o ≡ entry + min own n
      number = told_entry entry (min own n) o is told

      by : (own < n) ⊎ (n ≤ own) → ((m : ℕ) × (Some own ≡ Some m) × (m ≤ reckoned o - entry)) ⊎ Goal (reckoned o - entry)
      by (inl lt) = let e = number in inl (own, refl, omega (arith, e, lt))
      by (inr le) = let e = number in inr (weaken n (reckoned o - entry) (omega (arith, e, le)) (above n refl))
  cost_told entry (Some own) sum.Huge o is told above = let e = told_entry entry own o is told in (omega (arith, e), inl (own, refl, omega (arith, e)))
  cost_told entry (Some own) sum.Endless o is told above = let e = told_entry entry own o is told in (omega (arith, e), inl (own, refl, omega (arith, e)))
  cost_told entry None (sum.Counts own) o is told above =
      let e = told_entry entry own o is told in
      (omega (arith, e), inr (weaken own (reckoned o - entry) (omega (arith, e)) (above own refl)))
  cost_told entry None sum.Huge o is told above = absurd (none_told o is told)
  cost_told entry None sum.Endless o is told above = absurd (none_told o is told)

  -- of makings that are not once at most
  pub many_told : (s : Sum) (o : Option ℕ) → o ≡ made false s → IsTold o → ((n : ℕ) → s ≡ sum.Counts n → Goal n) → Goal (reckoned o)
  many_told (sum.Counts n) o is told above = let e = told_number n o is told in weaken n (reckoned o) (omega (arith, e)) (above n refl)
  many_told sum.Huge o is told above = absurd (none_told o is told)
  many_told sum.Endless o is told above = absurd (none_told o is told)

  -- of makings
  pub made_told : (once : Bool) (s : Sum) (o : Option ℕ) → o ≡ made once s → IsTold o → ((n : ℕ) → s ≡ sum.Counts n → Goal n)
      → Goal (reckoned o) ⊎ ((once ≡ true) × (1 ≤ reckoned o))
  made_told false s o is told above = inl (many_told s o is told above)
  made_told true sum.Huge o is told above = let e = told_number 1 o is told in inr (refl, omega (arith, e))
  made_told true sum.Endless o is told above = let e = told_number 1 o is told in inr (refl, omega (arith, e))
  made_told true (sum.Counts n) o is told above = by (cases_lt 1 n)
    where
      number : reckoned o ≡ min n 1
      number = told_number (min n 1) o is told

      by : (1 < n) ⊎ (n ≤ 1) → Goal (reckoned o) ⊎ ((true ≡ true) × (1 ≤ reckoned o))
      by (inl lt) = let e = number in inr (refl, omega (arith, e, lt))
      by (inr le) = let e = number in inl (weaken n (reckoned o) (omega (arith, e, le)) (above n refl))

pub weaker : (Part : List Position → Type 0) (weights : List BodyWeights) (n m : ℕ) → n ≤ m → NoneIsAbove Part weights n → NoneIsAbove Part weights m
weaker Part weights n m le none positions part = let few = none positions part in omega (arith, few, le)

-- ---- weights

-- an item weighs no less where a walk ends with it
pub counts_lighter : (app : App) (weights : List BodyWeights) → AreCounts app weights → (at : Position) → going_at weights at ≤ ending_at weights at
counts_lighter app weights are [] = omega arith
counts_lighter app weights (lengths, of, by) (here ∷ outer) = inside (cases_lt here.func (length app.funcs))
  where
    inside : (here.func < length app.funcs) ⊎ (length app.funcs ≤ here.func) → going_weight weights here.func here.item ≤ ending_weight weights here.func here.item
    inside (inr past) =
        let none = get_or_past weights here.func no_weights (let same = by.count in omega (arith, past, same)) in
        let goes = ap (λ (w : BodyWeights). get_or w.going here.item 0) none in
        omega (arith, goes)
    inside (inl lt) = item (cases_lt here.item (length (function app here.func).items))
      where
        body : AreBodyCounts lengths here.func (function app here.func) (get_or weights here.func no_weights)
        body = by.each here.func lt

        item : (here.item < length (function app here.func).items) ⊎ (length (function app here.func).items ≤ here.item)
            → going_weight weights here.func here.item ≤ ending_weight weights here.func here.item
        item (inl there) =
            let goes = body.going here.item there in
            let ends = body.ending here.item there in
            omega (arith, goes, ends)
        item (inr past) =
            let goes = get_or_past (get_or weights here.func no_weights).going here.item 0 (let same = body.going_count in omega (arith, past, same)) in
            omega (arith, goes)

-- ---- a record

and_decided : {P Q : Type 0} (a b : Bool) → Decides a P → Decides b Q → Decides (a && b) (P × Q)
and_decided true b p q = (λ e. (p.0 refl, q.0 e), λ both. q.1 both.1)
and_decided false b p q = (λ e. cc, λ both. p.1 both.0)

is_true : (b : Bool) → Decides b (b ≡ true)
is_true b = (λ e. e, λ e. e)

module _ (config : Config) (app : App) (w : Facts config app) (load : List Entry) (costs : Costs) (are : AreRunCosts config app load costs) (h : ℕ)
    (there : h < length config.tasks) where
  pub level_upper : (t : ℕ) → IsOfLevel config h t → is_lower costs h t ≡ false
  level_upper t over =
      let own = (are.tasks.each t over.0).priority in
      let target = (are.tasks.each h there).priority in
      let le = leb-true (static_priority config h) (static_priority config t) over.1 in
      le-ltb (task costs t).priority (task costs h).priority (omega (arith, own, target, le))

  -- of one that comes
  pub upper_counts : (t : ℕ) → IsOfLevel config h t → comes costs t ≡ true → is_left_out costs h t ≡ false
  upper_counts t over come = ap (λ b. b || not (comes costs t)) (level_upper t over) ∙ ap not come

  pub level_counts : (t : ℕ) → IsOfLevel config h t → comes costs t ≡ true → is_counted costs h t ≡ true
  level_counts t over come = ap (λ b. not b || is_joined costs h t) (upper_counts t over come)

  -- what rounds that count make of a task of the level counts
  pub level_makes : (j k : ℕ) → IsOfLevel config h j → is_counted costs h k ≡ true → is_making_counted costs h j k ≡ true
  level_makes j k over counted =
      ap (λ b. (not b && is_counted costs h k) || (is_joined costs h j && (not (is_left_out costs h k) || (k == j)))) (level_upper j over)
      ∙ ap (λ b. b || (is_joined costs h j && (not (is_left_out costs h k) || (k == j)))) counted

  pub counted_task : (t : ℕ) → t < length config.tasks → t < length costs.tasks
  counted_task t lt = let same = are.tasks.count in omega (arith, lt, same)

  abbrev pub first_entry : ℕ → ℕ
  first_entry t = enter_counts config app false t

  abbrev pub next_entry : ℕ → ℕ
  next_entry t = enter_counts config app true t

  -- nothing of a task that never comes
  abbrev pub if_comes : (t n : ℕ) → ℕ
  if_comes t n = cond (comes costs t) n 0

  pub at_coming : (t n : ℕ) → comes costs t ≡ true → if_comes t n ≡ n
  at_coming t n come = ap (λ b. cond b n 0) come

  -- what the law takes as costs
  abbrev pub law_costs : Demand.Costs
  law_costs = record {
    first = λ t. if_comes t (first_entry t + (reckoned (task costs t).first - first_entry t));
    next = λ t. if_comes t (next_entry t + (reckoned (task costs t).next - next_entry t));
    tick = λ c. tick_path config c;
    first_acts = λ k j. if_comes k (reckoned (making costs k j).first_activations);
    next_acts = λ k j. if_comes k (reckoned (making costs k j).next_activations);
    first_sets = λ k j. if_comes k (reckoned (making costs k j).first_settings);
    next_sets = λ k j. if_comes k (reckoned (making costs k j).next_settings);
  }

  -- a basic task waits for nothing
  never : (t : ℕ) → t < length config.tasks → (declaration config t).extended ≡ false → (at : Position) → Reaches app t at → is_wait (operation_at app at) ≡ false
  never t lt basic = no_waits config app w t lt basic

  -- what the record says of makings
  pub makings_of : (k j : ℕ) → k < length config.tasks → j < length config.tasks → AreRunMakings config app j k (making costs k j)
  makings_of k j klt jlt = (are.makings.each j jlt).each k klt

  module _ (told : AreTold costs h) (cuts : ℕ → Bool) (cut : AreCutTasks config app cuts) where
    pub cut_as : (t : ℕ) (lt : t < length config.tasks) (b : Bool) → Decides b (IsClean app t) → (b && (declaration config t).extended) ≡ cuts t
    cut_as t lt b decides =
        same_from_decides (b && (declaration config t).extended) (cuts t) (and_decided b (declaration config t).extended decides (is_true (declaration config t).extended)) (cut t lt)

    -- an entry in front of a round behind a WaitEvent is no shorter than that
    resumed_least : (b : Bool) (t : ℕ) → next_entry t ≤ round_entry config app b true t
    resumed_least true t = omega arith
    resumed_least false t = omega arith

    fresh_is : (b : Bool) (t : ℕ) → round_entry config app b false t ≡ first_entry t
    fresh_is true t = refl
    fresh_is false t = refl

    -- the first rounds of a task, and the others
    pub first_told : (t : ℕ) (lt : t < length config.tasks) → is_counted costs h t ≡ true → (first_entry t ≤ reckoned (task costs t).first)
        × (WorksWithin load t (reckoned (task costs t).first - first_entry t) ⊎ FirstRoundsSum app (cuts t) t are.weights (reckoned (task costs t).first - first_entry t))
    first_told t lt counted =
        let own = are.tasks.each t lt in
        cost_told (FirstRoundsSum app (cuts t) t are.weights) (λ n m. weaker (IsFirstRound app (cuts t) t) are.weights n m)
        (first_entry t) (work load t) own.told.first (task costs t).first (own.first ∙ ap (λ e. round_cost e (work load t) own.told.first) (fresh_is own.clean t))
        (told.rounds t (counted_task t lt) counted).first
        (λ n is. subst (λ c. FirstRoundsSum app c t are.weights n) (cut_as t lt own.clean own.clears)
        (first_above app t are.weights n (counts_lighter app are.weights are.are_counts) own.clean (declaration config t).extended own.told (never t lt) own.rounds is))

    pub next_told : (t : ℕ) (lt : t < length config.tasks) → is_counted costs h t ≡ true → (next_entry t ≤ reckoned (task costs t).next)
        × (WorksWithin load t (reckoned (task costs t).next - next_entry t) ⊎ LaterRoundsSum app (cuts t) t are.weights (reckoned (task costs t).next - next_entry t))
    next_told t lt counted =
        by (cost_told (LaterRoundsSum app (cuts t) t are.weights) (λ n m. weaker (IsLaterRound app (cuts t) t) are.weights n m)
        (round_entry config app own.clean true t) (work load t) own.told.later (task costs t).next own.next
        (told.rounds t (counted_task t lt) counted).next
        (λ n is. subst (λ c. LaterRoundsSum app c t are.weights n) (cut_as t lt own.clean own.clears)
        (later_above app t are.weights n (counts_lighter app are.weights are.are_counts) own.clean (declaration config t).extended own.told (never t lt) own.rounds is)))
      where
        own : AreRunTaskCosts config app load are.weights t (task costs t)
        own = are.tasks.each t lt

        by : (round_entry config app (are.tasks.each t lt).clean true t ≤ reckoned (task costs t).next)
            × (WorksWithin load t (reckoned (task costs t).next - round_entry config app (are.tasks.each t lt).clean true t)
            ⊎ LaterRoundsSum app (cuts t) t are.weights (reckoned (task costs t).next - round_entry config app (are.tasks.each t lt).clean true t))
            → (next_entry t ≤ reckoned (task costs t).next)
            × (WorksWithin load t (reckoned (task costs t).next - next_entry t) ⊎ LaterRoundsSum app (cuts t) t are.weights (reckoned (task costs t).next - next_entry t))
        by (le, inl (work_counts, said, few)) =
            let least = resumed_least (are.tasks.each t lt).clean t in
            (omega (arith, le, least), inl (work_counts, said, omega (arith, few, least)))
        by (le, inr sums) =
            let least = resumed_least (are.tasks.each t lt).clean t in (
              omega (arith, le, least),
              inr (weaker (IsLaterRound app (cuts t) t) are.weights
                  (reckoned (task costs t).next - round_entry config app (are.tasks.each t lt).clean true t) (reckoned (task costs t).next - next_entry t)
                  (omega (arith, least)) sums),
            )

    first_sum : (k n : ℕ) (lt : k < length config.tasks) (c : Counted) (b : Bool) → Decides b (IsClean app k) → (sums : RoundSums)
        → AreRounds app b (declaration config k).extended k (counted_weights c app) sums
        → sums.first ≡ sum.Counts n → FirstRoundsSum app (cuts k) k (counted_weights c app) n
    first_sum k n lt c b decides sums rounds is =
        subst (λ v. FirstRoundsSum app v k (counted_weights c app) n) (cut_as k lt b decides)
        (first_above app k (counted_weights c app) n (counted_lighter c app) b (declaration config k).extended sums (never k lt) rounds is)

    next_sum : (k n : ℕ) (lt : k < length config.tasks) (c : Counted) (b : Bool) → Decides b (IsClean app k) → (sums : RoundSums)
        → AreRounds app b (declaration config k).extended k (counted_weights c app) sums
        → sums.later ≡ sum.Counts n → LaterRoundsSum app (cuts k) k (counted_weights c app) n
    next_sum k n lt c b decides sums rounds is =
        subst (λ v. LaterRoundsSum app v k (counted_weights c app) n) (cut_as k lt b decides)
        (later_above app k (counted_weights c app) n (counted_lighter c app) b (declaration config k).extended sums (never k lt) rounds is)

    first_weaker : (k : ℕ) (weights : List BodyWeights) (n m : ℕ) → n ≤ m → FirstRoundsSum app (cuts k) k weights n → FirstRoundsSum app (cuts k) k weights m
    first_weaker k weights n m = weaker (IsFirstRound app (cuts k) k) weights n m

    next_weaker : (k : ℕ) (weights : List BodyWeights) (n m : ℕ) → n ≤ m → LaterRoundsSum app (cuts k) k weights n → LaterRoundsSum app (cuts k) k weights m
    next_weaker k weights n m = weaker (IsLaterRound app (cuts k) k) weights n m

    once_out : {G : Type 0} {n : ℕ} (k j : ℕ) (once : Bool) → Decides once (StaysOut config app k j) → G ⊎ ((once ≡ true) × (1 ≤ n)) → G ⊎ (StaysOut config app k j × (1 ≤ n))
    once_out k j once decides (inl g) = inl g
    once_out k j once decides (inr (is, le)) = inr (decides.0 is, le)

    pub first_acts_told : (k j : ℕ) (klt : k < length config.tasks) (jlt : j < length config.tasks) → is_making_counted costs h j k ≡ true
        → FirstRoundsSum app (cuts k) k (activation_weights app k j) (reckoned (making costs k j).first_activations) ⊎ (StaysOut config app k j × (1 ≤ reckoned (making costs k j).first_activations))
    first_acts_told k j klt jlt counted =
        let m = makings_of k j klt jlt in
        let (sums, rounds, first, next) = m.activations in
        once_out k j m.once m.is_once
        (made_told (FirstRoundsSum app (cuts k) k (activation_weights app k j)) (first_weaker k (activation_weights app k j)) m.once sums.first (making costs k j).first_activations first
        (told.makings j (counted_task j jlt) k (counted_task k klt) counted).first_activations
        (λ n is. first_sum k n klt (activations_of k j) m.clean m.is_clean sums rounds is))

    pub next_acts_told : (k j : ℕ) (klt : k < length config.tasks) (jlt : j < length config.tasks) → is_making_counted costs h j k ≡ true
        → LaterRoundsSum app (cuts k) k (activation_weights app k j) (reckoned (making costs k j).next_activations) ⊎ (StaysOut config app k j × (1 ≤ reckoned (making costs k j).next_activations))
    next_acts_told k j klt jlt counted =
        let m = makings_of k j klt jlt in
        let (sums, rounds, first, next) = m.activations in
        once_out k j m.once m.is_once
        (made_told (LaterRoundsSum app (cuts k) k (activation_weights app k j)) (next_weaker k (activation_weights app k j)) m.once sums.later (making costs k j).next_activations next
        (told.makings j (counted_task j jlt) k (counted_task k klt) counted).next_activations
        (λ n is. next_sum k n klt (activations_of k j) m.clean m.is_clean sums rounds is))

    pub first_sets_told : (k j : ℕ) (klt : k < length config.tasks) (jlt : j < length config.tasks) → is_making_counted costs h j k ≡ true
        → FirstRoundsSum app (cuts k) k (setting_weights app j) (reckoned (making costs k j).first_settings)
    first_sets_told k j klt jlt counted =
        let m = makings_of k j klt jlt in
        let (sums, rounds, first, next) = m.settings in
        many_told (FirstRoundsSum app (cuts k) k (setting_weights app j)) (first_weaker k (setting_weights app j)) sums.first (making costs k j).first_settings first
        (told.makings j (counted_task j jlt) k (counted_task k klt) counted).first_settings
        (λ n is. first_sum k n klt (counts.Settings j) m.clean m.is_clean sums rounds is)

    pub next_sets_told : (k j : ℕ) (klt : k < length config.tasks) (jlt : j < length config.tasks) → is_making_counted costs h j k ≡ true
        → LaterRoundsSum app (cuts k) k (setting_weights app j) (reckoned (making costs k j).next_settings)
    next_sets_told k j klt jlt counted =
        let m = makings_of k j klt jlt in
        let (sums, rounds, first, next) = m.settings in
        many_told (LaterRoundsSum app (cuts k) k (setting_weights app j)) (next_weaker k (setting_weights app j)) sums.later (making costs k j).next_settings next
        (told.makings j (counted_task j jlt) k (counted_task k klt) counted).next_settings
        (λ n is. next_sum k n klt (counts.Settings j) m.clean m.is_clean sums rounds is)

    pub fits_rounds : FitsRounds config app are.weights load (comes costs) h cuts law_costs
    fits_rounds = record {
      first_round = λ t. reckoned (task costs t).first - first_entry t;
      next_round = λ t. reckoned (task costs t).next - next_entry t;
      firsts = λ t lt over come. (first_told t lt (level_counts t (lt, over) come)).1;
      nexts = λ t lt over come. (next_told t lt (level_counts t (lt, over) come)).1;
      first = λ t come. let same = at_coming t (first_entry t + (reckoned (task costs t).first - first_entry t)) come in omega (arith, same);
      next = λ t come. let same = at_coming t (next_entry t + (reckoned (task costs t).next - next_entry t)) come in omega (arith, same);
      tick = λ c. omega arith;
      first_acts = λ k j over made come.
          subst (λ n. FirstRoundsSum app (cuts k) k (activation_weights app k j) n ⊎ (StaysOut config app k j × (1 ≤ n))) (sym (at_coming k (reckoned (making costs k j).first_activations) come))
          (first_acts_told k j over.0 made.0 (level_makes j k made (level_counts k over come)));
      next_acts = λ k j over made come.
          subst (λ n. LaterRoundsSum app (cuts k) k (activation_weights app k j) n ⊎ (StaysOut config app k j × (1 ≤ n))) (sym (at_coming k (reckoned (making costs k j).next_activations) come))
          (next_acts_told k j over.0 made.0 (level_makes j k made (level_counts k over come)));
      first_sets = λ k j over made come.
          subst (λ n. FirstRoundsSum app (cuts k) k (setting_weights app j) n) (sym (at_coming k (reckoned (making costs k j).first_settings) come))
          (first_sets_told k j over.0 made.0 (level_makes j k made (level_counts k over come)));
      next_sets = λ k j over made come.
          subst (λ n. LaterRoundsSum app (cuts k) k (setting_weights app j) n) (sym (at_coming k (reckoned (making costs k j).next_settings) come))
          (next_sets_told k j over.0 made.0 (level_makes j k made (level_counts k over come)));
      clean = λ t lt over is. ((cut t lt).0 is).0;
    }

    -- in the sums of a window the costs of the law are those of the record
    pub first_same : (t : ℕ) → IsOfLevel config h t → comes costs t ≡ true → law_costs.first t ≡ reckoned (task costs t).first
    first_same t over come =
        let le = (first_told t over.0 (level_counts t over come)).0 in
        let same = at_coming t (first_entry t + (reckoned (task costs t).first - first_entry t)) come in
        omega (arith, le, same)

    pub next_same : (t : ℕ) → IsOfLevel config h t → comes costs t ≡ true → law_costs.next t ≡ reckoned (task costs t).next
    next_same t over come =
        let le = (next_told t over.0 (level_counts t over come)).0 in
        let same = at_coming t (next_entry t + (reckoned (task costs t).next - next_entry t)) come in
        omega (arith, le, same)

-- ---- a task that is entered once

-- its rounds are all alike
alike : (app : App) (clean extended : Bool) (t : ℕ) (weights : List BodyWeights) (told : RoundSums) → (clean && extended) ≡ false → AreRounds app clean extended t weights told
    → told.later ≡ told.first
alike app true true t weights told whole are = cc
alike app true false t weights told whole are = are.2
alike app false extended t weights told whole are = are.1

-- and so are its entries
entries_alike : (config : Config) (app : App) (clean : Bool) (t : ℕ) → (clean && (declaration config t).extended) ≡ false
    → round_entry config app clean true t ≡ round_entry config app clean false t
entries_alike config app false t whole = refl
entries_alike config app true t whole =
    subst (λ e. max (entry_path e true (function app (body_of app.funcs t)).frame_words) (entry_path e true (function app (body_of app.funcs t)).frame_words)
    ≡ max (entry_path e false (function app (body_of app.funcs t)).frame_words) (entry_path e true (function app (body_of app.funcs t)).frame_words)) (sym whole) refl

module _ (config : Config) (app : App) (load : List Entry) (costs : Costs) (are : AreRunCosts config app load costs) (h : ℕ)
    (there : h < length config.tasks) (once : (task costs h).is_entered_once ≡ true) where
  abbrev own : AreRunTaskCosts config app load are.weights h (task costs h)
  own = are.tasks.each h there

  both : (not (declaration config h).non ≡ true) × (not (own.clean && (declaration config h).extended) ≡ true)
  both = and_parts (not (declaration config h).non) (not (own.clean && (declaration config h).extended)) (sym own.is_entered_once ∙ once)

  pub is_full : (declaration config h).non ≡ false
  is_full = not-true (declaration config h).non both.0

  pub is_whole : (own.clean && (declaration config h).extended) ≡ false
  is_whole = not-true (own.clean && (declaration config h).extended) both.1

  pub costs_alike : (task costs h).next ≡ (task costs h).first
  costs_alike =
      own.next ∙ ap (λ e. round_cost e (work load h) own.told.later) (entries_alike config app own.clean h is_whole)
      ∙ ap (λ s. round_cost (round_entry config app own.clean false h) (work load h) s)
      (alike app own.clean (declaration config h).extended h are.weights own.told is_whole own.rounds) ∙ sym own.first

  whole_by : (b : Bool) → Decides b (IsClean app h) → (b && (declaration config h).extended) ≡ false
  whole_by b decides = ap (λ c. c && (declaration config h).extended) (same_from_decides b own.clean decides own.clears) ∙ is_whole

  made_alike : (j : ℕ) → (cases : (j < length config.tasks) ⊎ (length config.tasks ≤ j))
      → ((making costs h j).next_activations ≡ (making costs h j).first_activations) × ((making costs h j).next_settings ≡ (making costs h j).first_settings)
  made_alike j (inl lt) =
      let m = (are.makings.each j lt).each h there in
      (acts m, sets m)
    where
      acts : AreRunMakings config app j h (making costs h j) → (making costs h j).next_activations ≡ (making costs h j).first_activations
      acts m =
          let (sums, rounds, first, next) = m.activations in
          next ∙ ap (made m.once)
          (alike app m.clean (declaration config h).extended h (counted_weights (activations_of h j) app) sums (whole_by m.clean m.is_clean) rounds) ∙ sym first

      sets : AreRunMakings config app j h (making costs h j) → (making costs h j).next_settings ≡ (making costs h j).first_settings
      sets m =
          let (sums, rounds, first, next) = m.settings in
          next ∙ ap (made false)
          (alike app m.clean (declaration config h).extended h (counted_weights (counts.Settings j) app) sums (whole_by m.clean m.is_clean) rounds) ∙ sym first
  made_alike j (inr past) =
      let none = get_or_past costs.makings j [] (let same = are.makings.count in omega (arith, past, same)) in (
        ap (λ ms. (get_or ms h no_makings).next_activations) none ∙ sym (ap (λ ms. (get_or ms h no_makings).first_activations) none),
        ap (λ ms. (get_or ms h no_makings).next_settings) none ∙ sym (ap (λ ms. (get_or ms h no_makings).first_settings) none),
      )

  pub acts_alike : (j : ℕ) → reckoned (making costs h j).next_activations ≡ reckoned (making costs h j).first_activations
  acts_alike j = ap reckoned (made_alike j (cases_lt j (length config.tasks))).0

  pub sets_alike : (j : ℕ) → reckoned (making costs h j).next_settings ≡ reckoned (making costs h j).first_settings
  sets_alike j = ap reckoned (made_alike j (cases_lt j (length config.tasks))).1
