-- A lower task whose rounds join windows of h.
use Rattle.std.proofs.Common.{◌≡◌, ℕ, ◌+◌, ◌*◌, ◌<◌, ◌≤◌, ◌-◌, ◌⊎◌, ◌==◌, ◌&&◌, ◌||◌, not, Bool, true, false, cond, max, List, length, refl, sym, ap, ◌∙◌, subst, arith, inl, inr, Some, None, Option}
use Rattle.std.proofs.lemmas.Bool.{cases_lt, false≢true, true≢false, and_parts, ltb-true, lt-leb, eq-eqb}
use Rattle.std.proofs.lemmas.List.{get_or_past}
use Rattle.sloth_base.specs.declared.config.Config.{Config}
use Rattle.sloth_base.specs.declared.app.App.{App}
use Rattle.sloth_base.specs.declared.app.Op.{Op}
use Rattle.sloth_base.specs.declared.app.Op.TheVariants as op
use Rattle.sloth_base.specs.declared.service.Service.TheVariants as service
use Rattle.sloth_base.specs.Named.{declaration}
use Rattle.load_text.specs.declared.load_line.Entry.{Entry}
use Rattle.osek_scheduler.specs.Apart.{static_priority}
use Rattle.osek_scheduler.proofs.Facts.{Facts}
use Rattle.osek_blocking.specs.Sections.{operation_at, IsLower}
use Rattle.bound_rules.specs.declared.bound.BodyWeights.{BodyWeights}
use Rattle.walk_sums.specs.Rounds.{is_wait}
use Rattle.walk_sums.specs.Counted.{calls}
use Rattle.run_windows.specs.declared.costs.TaskCosts.{TaskCosts}
use Rattle.run_windows.specs.declared.costs.Costs.{Costs}
use Rattle.run_windows.specs.declared.costs.Start.{Start}
use Rattle.run_windows.specs.declared.costs.Start.TheVariants as start
use Rattle.run_windows.specs.Costs.{reckoned, task, comes, making, section, joins, no_task}
use Rattle.run_windows.specs.Windows.{is_lower, is_left_out, is_below, greater, round_made}
use Rattle.run_windows.specs.RunWindows.{is_joined, is_counted, is_making_counted, longest_round, AreTold}
use Rattle.response_laws.specs.Sums.{is_over}
use Rattle.response_laws.specs.Bounded.{IsOfLevel}
use Rattle.response_laws.specs.Walked.{IsFirstRound, IsLaterRound, FirstRoundsSum, LaterRoundsSum}
use Rattle.response_laws.specs.Works.{WorksWithin}
use Rattle.response_laws.specs.Makers.{activation_weights, setting_weights}
use Rattle.response_laws.specs.CodeStarts.{RoundsSum, RoundsCount}
use Rattle.response_laws.specs.SoundRuns.{FitsJoined}
use Rattle.run_costs.specs.RunCosts.{AreRunTaskCosts, AreRunCosts}
use Rattle.run_responses.specs.Meeting.{AreCutTasks}
use Rattle.run_responses.proofs.Reaching.{no_waits}
use Rattle.run_responses.proofs.Rounds.{weaker, law_costs, at_coming, upper_counts, level_makes, cut_as, first_told, next_told, first_acts_told, next_acts_told, first_sets_told, next_sets_told}

-- ---- of which start

-- the task whose rounds join with the start
abbrev pub joined_of : Costs → (h : ℕ) → Start → Option ℕ
joined_of costs h (start.Round k) = cond (is_joined costs h k) (Some k) None
joined_of costs h _ = None

-- a number of that task
abbrev pub at_joined : Option ℕ → (ℕ → ℕ) → ℕ
at_joined None f = 0
at_joined (Some k) f = f k

-- a number, and that of the task besides
abbrev pub with_joined : Option ℕ → (ℕ → ℕ) → (n : ℕ) → ℕ
with_joined None f n = n
with_joined (Some k) f n = f k + n

pub joined_sum : (o : Option ℕ) (f : ℕ → ℕ) (n : ℕ) → with_joined o f n ≡ at_joined o f + n
joined_sum None f n = omega arith
joined_sum (Some k) f n = refl

pub joined_so : (costs : Costs) (h : ℕ) (s : Start) (k : ℕ) → joined_of costs h s ≡ Some k → (s ≡ start.Round k) × (is_joined costs h k ≡ true)
joined_so costs h start.Free k e = cc
joined_so costs h start.Boot k e = cc
joined_so costs h (start.Activation j) k e = cc
joined_so costs h (start.Setting j) k e = cc
joined_so costs h (start.Section j) k e = cc
joined_so costs h (start.Round j) k e = by (is_joined costs h j) refl e
  where
    by : (b : Bool) → is_joined costs h j ≡ b → cond b (Some j) None ≡ Some k → (start.Round j ≡ start.Round k) × (is_joined costs h k ≡ true)
    by true is e = let same : j ≡ k = cc in (ap start.Round same, subst (λ v. is_joined costs h v ≡ true) same is)
    by false is e = cc

-- ---- the task

right_of : (x : Bool) → (x || true) ≡ true
right_of true = refl
right_of false = refl

module _ (config : Config) (app : App) (w : Facts config app) (load : List Entry) (costs : Costs) (are : AreRunCosts config app load costs) (h : ℕ)
    (there : h < length config.tasks) (b : ℕ) (joined : is_joined costs h b ≡ true) where
  below : (is_lower costs h b ≡ true) × (comes costs b ≡ true)
  below = and_parts (is_lower costs h b) (comes costs b) (and_parts (is_below costs h b) (joins costs h b) joined).0

  pub joined_comes : comes costs b ≡ true
  joined_comes = below.1

  has_raised_waits : (task costs b).has_raised_waits ≡ true
  has_raised_waits = (and_parts (task costs b).has_raised_waits (section costs h b).is_endless (and_parts (is_below costs h b) (joins costs h b) joined).1).0

  pub joined_declared : b < length config.tasks
  joined_declared = by (cases_lt b (length config.tasks))
    where
      by : (b < length config.tasks) ⊎ (length config.tasks ≤ b) → b < length config.tasks
      by (inl lt) = lt
      by (inr past) =
          let none = get_or_past costs.tasks b no_task (let same = are.tasks.count in omega (arith, past, same)) in
          absurd (true≢false (sym has_raised_waits ∙ ap (λ (t : TaskCosts). t.has_raised_waits) none))

  pub joined_low : IsLower config h b
  joined_low =
      let own = (are.tasks.each b joined_declared).priority in
      let target = (are.tasks.each h there).priority in
      let less = ltb-true (task costs b).priority (task costs h).priority below.0 in
      (joined_declared, omega (arith, own, target, less))

  pub joined_under : is_over config h b ≡ false
  joined_under = lt-leb (static_priority config h) (static_priority config b) joined_low.1

  pub joined_left_out : is_left_out costs h b ≡ true
  joined_left_out = ap (λ v. v || not (comes costs b)) below.0

  abbrev own : AreRunTaskCosts config app load are.weights b (task costs b)
  own = are.tasks.each b joined_declared

  waiting : (own.clean ≡ true) × (own.waits ≡ true)
  waiting =
      and_parts own.clean own.waits
      (and_parts (declaration config b).non (own.clean && own.waits) (sym own.has_raised_waits ∙ has_raised_waits)).1

  pub joined_non : (declaration config b).non ≡ true
  joined_non = (and_parts (declaration config b).non (own.clean && own.waits) (sym own.has_raised_waits ∙ has_raised_waits)).0

  extended : (declaration config b).extended ≡ true
  extended = by (declaration config b).extended refl
    where
      waits_by : (o : Op) → calls service.WaitEvent o ≡ true → is_wait o ≡ true
      waits_by (op.Serve call) e = e
      waits_by op.Return e = absurd (false≢true e)
      waits_by o e = absurd (false≢true e)

      by : (v : Bool) → (declaration config b).extended ≡ v → v ≡ true
      by true e = refl
      by false e =
          let (at, reach, calls_it) = own.is_waiting.0 waiting.1 in
          absurd (true≢false (sym (waits_by (operation_at app at) calls_it) ∙ no_waits config app w b joined_declared e at reach))

  counted : is_counted costs h b ≡ true
  counted = ap (λ v. not (is_left_out costs h b) || v) joined ∙ right_of (not (is_left_out costs h b))

  -- what rounds make of it counts, of a task of the level, and of itself
  made_by : (k : ℕ) → (not (is_left_out costs h k) || (k == b)) ≡ true → is_making_counted costs h b k ≡ true
  made_by k may =
      ap (λ v. (not v && is_counted costs h k) || (is_joined costs h b && (not (is_left_out costs h k) || (k == b)))) below.0
      ∙ (ap (λ v. v && (not (is_left_out costs h k) || (k == b))) joined ∙ may)

  made_by_level : (k : ℕ) → IsOfLevel config h k → comes costs k ≡ true → is_making_counted costs h b k ≡ true
  made_by_level k over comes_too = made_by k (ap (λ v. not v || (k == b)) (upper_counts config app w load costs are h there k over comes_too))

  made_by_itself : is_making_counted costs h b b ≡ true
  made_by_itself = made_by b (ap (λ v. not v || (b == b)) joined_left_out ∙ eq-eqb b b refl)

  makes_level : (j : ℕ) → IsOfLevel config h j → is_making_counted costs h j b ≡ true
  makes_level j over = level_makes config app w load costs are h there j b over counted

  module _ (told : AreTold costs h) (cuts : ℕ → Bool) (cut : AreCutTasks config app cuts) where
    pub joined_cut : cuts b ≡ true
    joined_cut =
        sym (cut_as config app w load costs are h there told cuts cut b joined_declared own.clean own.clears)
        ∙ (ap (λ v. v && (declaration config b).extended) waiting.0 ∙ extended)

    pub fits_joined : FitsJoined config app (comes costs) h cuts (law_costs config app w load costs are h there) b
    fits_joined = record {
      first_sets = λ k over comes_too.
          subst (λ n. FirstRoundsSum app (cuts k) k (setting_weights app b) n) (sym (at_coming config app w load costs are h there k (reckoned (making costs k b).first_settings) comes_too))
          (first_sets_told config app w load costs are h there told cuts cut k b over.0 joined_declared (made_by_level k over comes_too));
      next_sets = λ k over comes_too.
          subst (λ n. LaterRoundsSum app (cuts k) k (setting_weights app b) n) (sym (at_coming config app w load costs are h there k (reckoned (making costs k b).next_settings) comes_too))
          (next_sets_told config app w load costs are h there told cuts cut k b over.0 joined_declared (made_by_level k over comes_too));
      clean = own.clears.0 waiting.0;
    }

    -- ---- its rounds

    -- they are cut
    first_cut : (weights : List BodyWeights) (n m : ℕ) → n ≤ m → FirstRoundsSum app (cuts b) b weights n → FirstRoundsSum app true b weights m
    first_cut weights n m le sums = weaker (IsFirstRound app true b) weights n m le (subst (λ c. FirstRoundsSum app c b weights n) joined_cut sums)

    later_cut : (weights : List BodyWeights) (n m : ℕ) → n ≤ m → LaterRoundsSum app (cuts b) b weights n → LaterRoundsSum app true b weights m
    later_cut weights n m le sums = weaker (IsLaterRound app true b) weights n m le (subst (λ c. LaterRoundsSum app c b weights n) joined_cut sums)

    pub rounds_count : (laters : ℕ) → RoundsCount app are.weights load b laters (longest_round costs b + laters * reckoned (task costs b).next)
    rounds_count laters = record {
      under_way = longest_round costs b;
      later = reckoned (task costs b).next;
      firsts = by (first_told config app w load costs are h there told cuts cut b joined_declared counted);
      laters_fit = by_later (next_told config app w load costs are h there told cuts cut b joined_declared counted);
      longer = omega arith;
      all = omega arith;
    }
      where
        by : {e : ℕ} → (e ≤ reckoned (task costs b).first) × (WorksWithin load b (reckoned (task costs b).first - e) ⊎ FirstRoundsSum app (cuts b) b are.weights (reckoned (task costs b).first - e))
            → WorksWithin load b (longest_round costs b) ⊎ FirstRoundsSum app true b are.weights (longest_round costs b)
        by (le, inl (counts, said, few)) = inl (counts, said, omega (arith, few))
        by {e} (le, inr sums) = inr (first_cut are.weights (reckoned (task costs b).first - e) (longest_round costs b) (omega arith) sums)

        by_later : {e : ℕ} → (e ≤ reckoned (task costs b).next) × (WorksWithin load b (reckoned (task costs b).next - e) ⊎ LaterRoundsSum app (cuts b) b are.weights (reckoned (task costs b).next - e))
            → WorksWithin load b (reckoned (task costs b).next) ⊎ LaterRoundsSum app true b are.weights (reckoned (task costs b).next)
        by_later (le, inl (counts, said, few)) = inl (counts, said, omega (arith, few))
        by_later {e} (le, inr sums) = inr (later_cut are.weights (reckoned (task costs b).next - e) (reckoned (task costs b).next) (omega arith) sums)

    both_sum : (weights : List BodyWeights) (first later laters most : ℕ) → laters * later + max first later ≤ most → FirstRoundsSum app (cuts b) b weights first
        → LaterRoundsSum app (cuts b) b weights later → RoundsSum app b weights laters most
    both_sum weights first later laters most le f l = record {
      under_way = max first later;
      later = later;
      firsts = first_cut weights first (max first later) (omega arith) f;
      laters_fit = later_cut weights later later (omega arith) l;
      longer = omega arith;
      all = omega (arith, le);
    }

    -- what they make of a task of the level: by walks, or some, where it counts once
    pub rounds_activate : (j laters : ℕ) → IsOfLevel config h j
        → RoundsSum app b (activation_weights app b j) laters (laters * reckoned (making costs b j).next_activations + greater (making costs b j).first_activations (making costs b j).next_activations)
        ⊎ (1 ≤ greater (making costs b j).first_activations (making costs b j).next_activations)
    rounds_activate j laters over =
        by (first_acts_told config app w load costs are h there told cuts cut b j joined_declared over.0 (makes_level j over))
        (next_acts_told config app w load costs are h there told cuts cut b j joined_declared over.0 (makes_level j over))
      where
        by : {A B : Type 0}
            → FirstRoundsSum app (cuts b) b (activation_weights app b j) (reckoned (making costs b j).first_activations) ⊎ (A × (1 ≤ reckoned (making costs b j).first_activations))
            → LaterRoundsSum app (cuts b) b (activation_weights app b j) (reckoned (making costs b j).next_activations) ⊎ (B × (1 ≤ reckoned (making costs b j).next_activations))
            → RoundsSum app b (activation_weights app b j) laters (laters * reckoned (making costs b j).next_activations + greater (making costs b j).first_activations (making costs b j).next_activations)
            ⊎ (1 ≤ greater (making costs b j).first_activations (making costs b j).next_activations)
        by (inl f) (inl l) = inl (both_sum (activation_weights app b j) (reckoned (making costs b j).first_activations) (reckoned (making costs b j).next_activations) laters
            (laters * reckoned (making costs b j).next_activations + greater (making costs b j).first_activations (making costs b j).next_activations) (omega arith) f l)
        by (inr (out, some)) l = inr (omega (arith, some))
        by (inl f) (inr (out, some)) = inr (omega (arith, some))

    sets_by : (j laters most : ℕ) → laters * reckoned (making costs b j).next_settings + greater (making costs b j).first_settings (making costs b j).next_settings ≤ most
        → j < length config.tasks → is_making_counted costs h j b ≡ true → RoundsSum app b (setting_weights app j) laters most
    sets_by j laters most le lt may =
        both_sum (setting_weights app j) (reckoned (making costs b j).first_settings) (reckoned (making costs b j).next_settings) laters most (omega (arith, le))
        (first_sets_told config app w load costs are h there told cuts cut b j joined_declared lt may) (next_sets_told config app w load costs are h there told cuts cut b j joined_declared lt may)

    pub rounds_set : (j laters : ℕ) → IsOfLevel config h j
        → RoundsSum app b (setting_weights app j) laters (laters * reckoned (making costs b j).next_settings + (round_made costs b j).settings)
    rounds_set j laters over = sets_by j laters (laters * reckoned (making costs b j).next_settings + (round_made costs b j).settings) (omega arith) over.0 (makes_level j over)

    pub rounds_set_own : (laters : ℕ)
        → RoundsSum app b (setting_weights app b) laters (laters * reckoned (making costs b b).next_settings + greater (making costs b b).first_settings (making costs b b).next_settings)
    rounds_set_own laters =
        sets_by b laters (laters * reckoned (making costs b b).next_settings + greater (making costs b b).first_settings (making costs b b).next_settings) (omega arith) joined_declared
        made_by_itself
