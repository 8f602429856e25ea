-- A load has one record of costs that runs keep.
use Rattle.std.proofs.Common.{◌≡◌, ◌∙◌, ◌⊎◌, inl, inr, ℕ, ◌<◌, ◌≤◌, ◌==◌, ◌&&◌, ◌||◌, List, [], length, get_or, Bool, true, false, Option, Some, refl, sym, ap, subst, arith}
use Rattle.std.proofs.lemmas.List.{ext_get_or}
use Rattle.std.proofs.lemmas.Bool.{cases_lt}
use Rattle.std.proofs.lemmas.Bool.Decides.{same_from_decides}
use Rattle.sloth_base.specs.declared.config.Config.{Config}
use Rattle.sloth_base.specs.declared.app.App.{App}
use Rattle.sloth_base.specs.declared.service.Service.{Service}
use Rattle.sloth_base.specs.Named.{declaration}
use Rattle.load_text.specs.declared.load_line.Entry.{Entry}
use Rattle.load_text.specs.Loads.{work}
use Rattle.osek_scheduler.specs.Apart.{static_priority}
use Rattle.osek_blocking.specs.Sections.{IsSection, IsLower}
use Rattle.bound_rules.specs.declared.bound.BodyWeights.{BodyWeights}
use Rattle.walk_sums.specs.declared.sections.Sum.{Sum}
use Rattle.walk_sums.specs.declared.sections.RoundSums.{RoundSums}
use Rattle.walk_sums.specs.declared.counted.Counted.{Counted}
use Rattle.walk_sums.specs.Rounds.{IsTurn, IsFirstRound, IsLaterRound}
use Rattle.walk_sums.specs.Counted.{one_if, counted_weights}
use Rattle.run_windows.specs.declared.costs.TaskCosts.{TaskCosts}
use Rattle.run_windows.specs.declared.costs.AlarmCosts.{AlarmCosts}
use Rattle.run_windows.specs.declared.costs.Makings.{Makings}
use Rattle.run_windows.specs.declared.costs.Services.{Services}
use Rattle.run_windows.specs.declared.costs.SectionCosts.{SectionCosts}
use Rattle.run_windows.specs.declared.costs.SectionMakings.{SectionMakings}
use Rattle.run_windows.specs.declared.costs.Level.{Level}
use Rattle.run_windows.specs.declared.costs.Costs.{Costs}
use Rattle.run_windows.specs.Costs.{no_task, no_makings, no_services, no_level, no_section, no_section_makings}
use Rattle.run_costs.specs.Coming.{marked, AreComing}
use Rattle.run_costs.specs.Rounds.{AreRounds, round_cost, activations_of, made, many}
use Rattle.run_costs.specs.CostsOf.{AreEach, ReachesService, IsGreatest, AreServices, AreMade, IsSectionCosts, IsTaskSection, IsSectionMade, no_counter, no_alarm, IsAlarm}
use Rattle.walk_sums.proofs.OneTold.{one_told}
use Rattle.run_costs.specs.SectionSums.{is_endless}
use Rattle.run_costs.proofs.OneSums.{same_both, same_rounds}
use Rattle.run_costs.proofs.SameCosts.{same_task, same_alarm, same_makings, same_services, same_section, same_section_makings, same_level, same_costs}
use Rattle.bounds_text.proofs.OneLatency.{same-lengths}
use Rattle.bounds_text.proofs.OneLowerCounts.{same-weights}
use Rattle.run_windows.specs.RunWindows.{call_path}
use Rattle.run_costs.specs.RunCosts.{round_entry, counts_once, has_raised_waits, section_work, AreRunTaskCosts, AreRunMakings, AreRunSectionMakings, IsRunSectionMaking, IsRunLevel, IsRunCounter, AreRunCosts}
use Rattle.run_windows.specs.declared.costs.RunCosts.{RunCosts}
use Rattle.run_costs.specs.RunRecord.{longest_of, late_of, IsRunRecord}
use Rattle.walk_sums.specs.declared.counted.Counted.TheVariants as counts

-- ---- lists

module _ {X : Type 0} (n : ℕ) (d : X) (Is : ℕ → X → Type 0) where
  same_each : ((i : ℕ) (x y : X) → i < n → Is i x → Is i y → x ≡ y) → (one other : List X) → AreEach n d Is one → AreEach n d Is other → one ≡ other
  same_each same one other a b =
      ext_get_or d one other (a.count ∙ sym b.count)
      (λ i h.
      let count = a.count in
      let inside : i < n = omega (arith, h, count) in
      same i (get_or one i d) (get_or other i d) inside (a.each i inside) (b.each i inside))

module _ (config : Config) (app : App) (load : List Entry) where
  -- ---- services

  within : (t : ℕ) (path : Service → ℕ) (n m : ℕ) → IsGreatest app t path n → IsGreatest app t path m → n ≤ m
  within t path n m a b = by a.attained
    where
      by : (n ≡ 0) ⊎ ((s : Service) × ReachesService app t s × (path s ≡ n)) → n ≤ m
      by (inl zero) = omega (arith, zero)
      by (inr some) =
          let le = b.none_above some.0 some.1 in
          let is = some.2 in
          omega (arith, le, is)

  one_greatest : (t : ℕ) (path : Service → ℕ) (n m : ℕ) → IsGreatest app t path n → IsGreatest app t path m → n ≡ m
  one_greatest t path n m a b =
      let le = within t path n m a b in
      let ge = within t path m n b a in
      omega (arith, le, ge)

  one_services : (j k : ℕ) (x y : Services) → AreServices app j k x → AreServices app j k y → x ≡ y
  one_services j k x y a b =
      same_services x y (same_from_decides x.activates y.activates a.activates b.activates) (same_from_decides x.chains y.chains a.chains b.chains)
      (same_from_decides x.sets_events y.sets_events a.sets_events b.sets_events)

  -- ---- rounds

  pub one_rounds : (clean extended : Bool) (t : ℕ) (weights : List BodyWeights) (x y : RoundSums) → AreRounds app clean extended t weights x → AreRounds app clean extended t weights y → x ≡ y
  one_rounds true true t weights x y a b = same_rounds weights (IsFirstRound app t) (IsLaterRound app t) x y a b
  one_rounds true false t weights x y a b =
      let first : x.first ≡ y.first =
      ap (λ (s : RoundSums). s.first)
      (same_rounds weights (IsFirstRound app t) (IsLaterRound app t) (record { first = x.first; later = a.0 }) (record { first = y.first; later = b.0 }) a.1 b.1) in
      same_both x y first (a.2 ∙ (first ∙ sym b.2))
  one_rounds false extended t weights x y a b =
      let first = one_told (IsTurn app t) weights x.first y.first a.0 b.0 in
      same_both x y first (a.1 ∙ (first ∙ sym b.1))

  -- of one that is clean just where the other is
  rounds_at : (v w extended : Bool) (t : ℕ) (weights : List BodyWeights) (x : RoundSums) → v ≡ w → AreRounds app v extended t weights x → AreRounds app w extended t weights x
  rounds_at v w extended t weights x e h = subst (λ u. AreRounds app u extended t weights x) e h

  -- ---- makings

  one_made : (clean : Bool) (k : ℕ) (c : Counted) (once : Bool) (f n g m : Option ℕ) → AreMade config app clean k c once f n → AreMade config app clean k c once g m
      → (f ≡ g) × (n ≡ m)
  one_made clean k c once f n g m a b =
      let told = one_rounds clean (declaration config k).extended k (counted_weights c app) a.0 b.0 a.1 b.1 in
      (a.2 ∙ (ap (λ (s : RoundSums). made once s.first) told ∙ sym b.2), a.3 ∙ (ap (λ (s : RoundSums). made once s.later) told ∙ sym b.3))

  -- ---- sections

  one_section : (weights : List BodyWeights) (h k : ℕ) (x y : SectionCosts) → k < length config.tasks → IsTaskSection config app weights h k x → IsTaskSection config app weights h k y → x ≡ y
  one_section weights h k x y there a b = by (cases_lt (static_priority config k) (static_priority config h))
    where
      lower : IsSectionCosts config app weights h k x → IsSectionCosts config app weights h k y → x ≡ y
      lower a b =
          let told = one_told (IsSection config app h k) weights a.told b.told a.is_told b.is_told in
          same_section x y (same_from_decides x.exists y.exists a.exists b.exists) (a.is_endless ∙ (ap is_endless told ∙ sym b.is_endless))
          (a.counts ∙ (ap many told ∙ sym b.counts))

      by : (static_priority config k < static_priority config h) ⊎ (static_priority config h ≤ static_priority config k) → x ≡ y
      by (inl lt) = lower (a.0 (there, lt)) (b.0 (there, lt))
      by (inr le) =
          let not_lower : ¬ (IsLower config h k) = λ l. let lt = l.1 in omega (arith, lt, le) in
          a.1 not_lower ∙ sym (b.1 not_lower)

  one_section_made : (h k : ℕ) (once : Bool) (c : Counted) (m n : Option ℕ) → IsSectionMade config app h k once c m → IsSectionMade config app h k once c n → m ≡ n
  one_section_made h k true c m n a b = a.2 ∙ (ap (λ d. Some (one_if d)) (same_from_decides a.0 b.0 a.1 b.1) ∙ sym b.2)
  one_section_made h k false c m n a b =
      a.2 ∙ (ap many (one_told (IsSection config app h k) (counted_weights c app) a.0 b.0 a.1 b.1) ∙ sym b.2)

  -- ---- alarms

  one_alarm : (i : ℕ) (x y : AlarmCosts) → IsAlarm config app i x → IsAlarm config app i y → x ≡ y
  one_alarm i x y a b =
      same_alarm x y (a.counter ∙ sym b.counter) (a.task ∙ sym b.task) (a.sets_events ∙ sym b.sets_events) (a.time ∙ sym b.time) (a.cycle ∙ sym b.cycle)
      (same_from_decides x.is_set y.is_set a.is_set b.is_set)

  -- ---- tasks

  one_task : (weights : List BodyWeights) (t : ℕ) (x y : TaskCosts) → AreRunTaskCosts config app load weights t x → AreRunTaskCosts config app load weights t y → x ≡ y
  one_task weights t x y a b =
      let clean = same_from_decides a.clean b.clean a.clears b.clears in
      let extended = (declaration config t).extended in
      let waits = same_from_decides a.waits b.waits a.is_waiting b.is_waiting in
      let told = one_rounds b.clean extended t weights a.told b.told (rounds_at a.clean b.clean extended t weights a.told clean a.rounds) b.rounds in
      let C : (resumed v : Bool) → Sum → Option ℕ = λ resumed v s. round_cost (round_entry config app v resumed t) (work load t) s in
      same_task x y (a.priority ∙ sym b.priority) (a.is_entered_once ∙ (ap (λ v. counts_once config v t) clean ∙ sym b.is_entered_once)) (a.is_autostarted ∙ sym b.is_autostarted)
      (a.is_cut ∙ (ap (λ v. v && extended) clean ∙ sym b.is_cut))
      (a.has_raised_waits ∙ (ap (λ v. has_raised_waits config v a.waits t) clean ∙ (ap (λ v. has_raised_waits config b.clean v t) waits ∙ sym b.has_raised_waits)))
      (a.distance ∙ sym b.distance)
      (a.first ∙ (ap (λ v. C false v a.told.first) clean ∙ (ap (λ (s : RoundSums). C false b.clean s.first) told ∙ sym b.first)))
      (a.next ∙ (ap (λ v. C true v a.told.later) clean ∙ (ap (λ (s : RoundSums). C true b.clean s.later) told ∙ sym b.next)))
      (a.raising ∙ sym b.raising)
      (a.section_work ∙ (ap (λ v. section_work config load v a.waits t) clean ∙ (ap (λ v. section_work config load b.clean v t) waits ∙ sym b.section_work)))
      (one_greatest t call_path x.service y.service a.service b.service)

  -- ---- makings

  one_makings : (j k : ℕ) (x y : Makings) → AreRunMakings config app j k x → AreRunMakings config app j k y → x ≡ y
  one_makings j k x y a b =
      let clean = same_from_decides b.clean a.clean b.is_clean a.is_clean in
      let once = same_from_decides b.once a.once b.is_once a.is_once in
      let acts = one_made a.clean k (activations_of k j) a.once x.first_activations x.next_activations y.first_activations y.next_activations a.activations
      (subst (λ v. AreMade config app v k (activations_of k j) a.once y.first_activations y.next_activations) clean
      (subst (λ v. AreMade config app b.clean k (activations_of k j) v y.first_activations y.next_activations) once b.activations)) in
      let sets = one_made a.clean k (counts.Settings j) false x.first_settings x.next_settings y.first_settings y.next_settings a.settings
      (subst (λ v. AreMade config app v k (counts.Settings j) false y.first_settings y.next_settings) clean b.settings) in
      same_makings x y acts.0 sets.0 acts.1 sets.1

  -- ---- sections

  one_section_making : (h j k : ℕ) (x y : SectionMakings) → k < length config.tasks → j < length config.tasks → IsRunSectionMaking config app h j k x → IsRunSectionMaking config app h j k y → x ≡ y
  one_section_making h j k x y there named a b = by (cases_lt (static_priority config k) (static_priority config h)) (cases_lt (static_priority config j) (static_priority config h))
    where
      once : Bool
      once = (declaration config k).non || (h == j)

      counted : AreRunSectionMakings config app h j k x → AreRunSectionMakings config app h j k y → x ≡ y
      counted a b =
          same_section_makings x y (one_section_made h k once (counts.Activations j) x.activations y.activations a.activations b.activations)
          (one_section_made h k false (counts.Settings j) x.settings y.settings a.settings b.settings)

      apart : ¬ (IsLower config h k × ¬ (IsLower config h j)) → x ≡ y
      apart none = a.1 none ∙ sym (b.1 none)

      by : (static_priority config k < static_priority config h) ⊎ (static_priority config h ≤ static_priority config k)
          → (static_priority config j < static_priority config h) ⊎ (static_priority config h ≤ static_priority config j) → x ≡ y
      by (inl low) (inr le) =
          let higher : ¬ (IsLower config h j) = λ l. let lt = l.1 in omega (arith, lt, le) in
          counted (a.0 (there, low) higher) (b.0 (there, low) higher)
      by (inl low) (inl lt) = apart (λ both. both.1 (named, lt))
      by (inr le) either = apart (λ both. let lt = both.0.1 in omega (arith, lt, le))

  one_level : (weights : List BodyWeights) (h : ℕ) (x y : Level) → IsRunLevel config app weights h x → IsRunLevel config app weights h y → x ≡ y
  one_level weights h x y a b =
      let n = length config.tasks in
      same_level x y (same_each n no_section (IsTaskSection config app weights h) (λ k s t lt p q. one_section weights h k s t lt p q) x.sections y.sections a.sections b.sections)
      (same_each n [] (λ j. AreEach n no_section_makings (IsRunSectionMaking config app h j))
      (λ j s t lt p q. same_each n no_section_makings (IsRunSectionMaking config app h j) (λ k u v below f g. one_section_making h j k u v below lt f g) s t p q)
      x.makings y.makings a.makings b.makings)

  -- ---- the tasks that come

  -- what is true where another is, and the other way round
  same_where : (x y : Bool) → (x ≡ true → y ≡ true) → (y ≡ true → x ≡ true) → x ≡ y
  same_where true y on back = sym (on refl)
  same_where false true on back = back refl
  same_where false false on back = refl

  one_coming : (one other : List Bool) → AreComing config app load one → AreComing config app load other → one ≡ other
  one_coming one other a b =
      ext_get_or false one other (a.count ∙ sym b.count)
      (λ i h.
      let count = a.count in
      let inside : i < length config.tasks = omega (arith, h, count) in
      same_where (get_or one i false) (get_or other i false) (a.least.each (marked other) b.closed i inside) (b.least.each (marked one) a.closed i inside))

  -- ---- all

  one_costs : (one other : Costs) → AreRunCosts config app load one → AreRunCosts config app load other → one ≡ other
  one_costs one other a b =
      let n = length config.tasks in
      let weights = same-weights app b.weights a.weights b.are_counts a.are_counts in
      same_costs one other
      (same_each n no_task (AreRunTaskCosts config app load a.weights) (λ t x y lt p q. one_task a.weights t x y p q) one.tasks other.tasks a.tasks
      (subst (λ w. AreEach n no_task (AreRunTaskCosts config app load w) other.tasks) weights b.tasks))
      (one_coming one.comes other.comes a.comes b.comes)
      (same_each (length config.counters) no_counter (IsRunCounter config load) (λ c x y lt p q. p ∙ sym q) one.counters other.counters a.counters b.counters)
      (same_each (length config.alarms) no_alarm (IsAlarm config app) (λ i x y lt p q. one_alarm i x y p q) one.alarms other.alarms a.alarms b.alarms)
      (same_each n [] (λ j. AreEach n no_makings (AreRunMakings config app j))
      (λ j x y lt p q. same_each n no_makings (AreRunMakings config app j) (λ k u v below f g. one_makings j k u v f g) x y p q) one.makings other.makings a.makings b.makings)
      (same_each n [] (λ j. AreEach n no_services (AreServices app j))
      (λ j x y lt p q. same_each n no_services (AreServices app j) (λ k u v below f g. one_services j k u v f g) x y p q) one.services other.services a.services b.services)
      (same_each n no_level (IsRunLevel config app a.weights) (λ h x y lt p q. one_level a.weights h x y p q) one.levels other.levels a.levels
      (subst (λ w. AreEach n no_level (IsRunLevel config app w) other.levels) weights b.levels))

  pub one_record : (one other : RunCosts) → IsRunRecord config app load one → IsRunRecord config app load other → one ≡ other
  one_record one other a b =
      let costs = one_costs one.costs other.costs a.costs b.costs in
      let longest : one.longest ≡ other.longest =
      a.longest.2 ∙ (ap longest_of (same-lengths app a.longest.0 b.longest.0 a.longest.1 b.longest.1) ∙ sym b.longest.2) in
      let late : one.late ≡ other.late = a.late.2 ∙ (ap (late_of config app) (same-weights app a.late.0 b.late.0 a.late.1 b.late.1) ∙ sym b.late.2) in
      let F : Costs → RunCosts = λ c. record { costs = c; longest = one.longest; late = one.late } in
      let G : ℕ → RunCosts = λ n. record { costs = other.costs; longest = n; late = one.late } in
      let H : ℕ → RunCosts = λ n. record { costs = other.costs; longest = other.longest; late = n } in
      ap F costs ∙ (ap G longest ∙ ap H late)
