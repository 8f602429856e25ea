-- A solution of a window is enough for a start of the law.
use Rattle.std.proofs.Common.{◌≡◌, ℕ, ◌+◌, ◌-◌, ◌*◌, ◌<◌, ◌≤◌, ◌⊎◌, inl, inr, ◌==◌, ◌&&◌, not, Bool, true, false, cond, min, List, length, get_or, refl, sym, ap, ◌∙◌, subst, arith, Some, None, Option}
use Rattle.std.proofs.lemmas.Bool.{cases_eq, eqb-true, eq-eqb, ne_eqb, le-leb}
use Rattle.sloth_base.specs.declared.config.Config.{Config}
use Rattle.sloth_base.specs.declared.app.App.{App}
use Rattle.sloth_base.specs.Owners.{counter_line}
use Rattle.load_text.specs.declared.load_line.Entry.{Entry}
use Rattle.load_text.specs.Loads.{distance, filling}
use Rattle.osek_scheduler.specs.Apart.{static_priority}
use Rattle.osek_scheduler.proofs.Facts.{Facts}
use Rattle.code_lengths.specs.LongestPaths.{tick_path}
use Rattle.run_windows.specs.declared.costs.CounterCosts.{CounterCosts}
use Rattle.run_windows.specs.declared.costs.Costs.{Costs}
use Rattle.run_windows.specs.declared.costs.Start.{Start}
use Rattle.run_windows.specs.declared.costs.Made.{Made}
use Rattle.run_windows.specs.declared.costs.Window.{Window}
use Rattle.run_windows.specs.declared.costs.Rule.TheVariants as rule
use Rattle.run_windows.specs.Costs.{reckoned, task, comes, makers, making, no_task, no_makings}
use Rattle.run_windows.specs.Arrivals.{arrivals}
use Rattle.run_windows.specs.Arrivals
use Rattle.run_windows.specs.Windows.{Numbers, lower_rule, rule_of, counted, begun_by, is_boot, greater, shared, of_makings, round_makings, activations, settings, round_counts, IsAtMost, IsSolution, is_target_made}
use Rattle.run_costs.specs.CostsOf.{no_counter}
use Rattle.response_laws.specs.Sums.{is_over, sum_over, sum_counters}
use Rattle.response_laws.specs.Demand
use Rattle.response_laws.specs.Demand.{acts_due, sets_due, outer_sets, IsEnteredOnce, IsEnough}
use Rattle.response_laws.specs.Bounded.{IsOfLevel}
use Rattle.response_laws.specs.Response.{LastsWithin}
use Rattle.response_laws.specs.Arrivals.{admission_window}
use Rattle.response_laws.specs.Loaded.{HasArrivals}
use Rattle.response_laws.specs.Expiries.{HasExpiries}
use Rattle.run_costs.specs.RunCosts.{AreRunCosts}
use Rattle.run_windows.specs.RunWindows.{is_joined, margin, front_of, lead_of, run_window, AreTold, begun_item}
use Rattle.run_responses.specs.Meeting.{AreCutTasks}
use Rattle.run_windows.proofs.Settling.{rounds_take}
use Rattle.run_costs.proofs.Taking.{run_take_counts}
use Rattle.run_responses.proofs.Sums.{sum_from, below_list, with_one, makings_sum, rounds_sum, ticking_sum, ticks_sum}
use Rattle.run_responses.proofs.Alarms.{is_set, expire}
use Rattle.run_responses.proofs.Joined.{joined_of, at_joined, with_joined, joined_sum, joined_so, joined_comes, joined_declared, joined_under, joined_left_out}
use Rattle.run_responses.proofs.Rounds.{law_costs, if_comes, first_entry, next_entry, upper_counts, counted_task, first_same, next_same, costs_alike, acts_alike, sets_alike}

-- ---- the start of a window

-- how often rounds of a task that joins set its own events: that which is under way, and those behind WaitEvents
abbrev pub own_sets : Costs → Numbers → (k : ℕ) → ℕ
own_sets costs d k = (d k).settings * reckoned (making costs k k).next_settings + greater (making costs k k).first_settings (making costs k k).next_settings

module _ (config : Config) (load : List Entry) (longest late : ℕ) (costs : Costs) (h : ℕ) where
  -- so many rounds; and of a task that never comes, of which no round costs anything, what would come of it
  abbrev pub due_numbers : (opens : Bool) → Start → Numbers → (counts : ℕ) → Numbers
  due_numbers opens s n counts j =
      cond (comes costs j) (n j)
      (record {
        activations = activations costs (run_window longest late costs h opens s) n counts j;
        settings = settings costs (run_window longest late costs h opens s) n counts j;
      })

  -- with so many rounds, those of a task that joins, and so many counts, the margin among them
  abbrev pub start_with : (joined : Option ℕ) → (opens : Bool) → Start → (d : Numbers) → (counts : ℕ) → Demand.Start
  start_with joined opens s d counts = record {
    is_boot = is_boot s;
    lead = lead_of opens late;
    inflow = record {
      arrivals = λ line. arrivals counts (distance load line);
      alarm_acts = λ c j. min (arrivals counts (distance load (counter_line c)))
          (Arrivals.expiring (is_boot s) false c j (arrivals counts (distance load (counter_line c))) costs.alarms);
      alarm_sets = λ c j. min (arrivals counts (distance load (counter_line c)))
          (Arrivals.expiring (is_boot s) true c j (arrivals counts (distance load (counter_line c))) costs.alarms);
      front = with_joined joined (λ k. (d k).settings * reckoned (task costs k).next) (begun_item longest s + front_of opens costs h s);
      acts = λ j. with_joined joined (λ k. (d k).settings * reckoned (making costs k j).next_activations) (begun_by costs h s j).activations;
      sets = λ j. with_joined joined (λ k. (d k).settings * reckoned (making costs k j).next_settings) (begun_by costs h s j).settings;
    };
    joins = joined;
    settings = at_joined joined (λ k. (d k).settings - (own_sets costs d k + 1));
    counts = counts - margin longest late;
    firsts = λ j. (d j).activations;
    nexts = λ j. (d j).settings;
  }

  abbrev pub start_by : (opens : Bool) → Start → Numbers → (counts : ℕ) → Demand.Start
  start_by opens s n counts = start_with (joined_of costs h s) opens s (due_numbers opens s n counts) counts

-- ---- arrivals

pub arrivals_same : (counts : ℕ) (o : Option ℕ) → filling counts o ≡ arrivals counts o
arrivals_same counts None = refl
arrivals_same counts (Some d) = refl

cond_few : (b : Bool) (n : ℕ) → cond b n 0 ≤ n
cond_few true n = omega arith
cond_few false n = omega arith

made_some : (a b : ℕ) → 1 ≤ a + b → not ((a == 0) && (b == 0)) ≡ true
made_some a b some = by (a == 0) refl (b == 0) refl
  where
    by : (x : Bool) → (a == 0) ≡ x → (y : Bool) → (b == 0) ≡ y → not (x && y) ≡ true
    by true e true f = let none = eqb-true a 0 e in let zero = eqb-true b 0 f in absurd (omega (arith, none, zero, some))
    by true e false f = refl
    by false e y f = refl

-- ---- what comes in

module _ (config : Config) (app : App) (load : List Entry) (longest late : ℕ) (costs : Costs) (are : AreRunCosts config app load costs) (h : ℕ)
    (opens : Bool) (s : Start) (n : Numbers) (counts : ℕ) (room : margin longest late ≤ counts) where
  abbrev begins : Demand.Start
  begins = start_by config load longest late costs h opens s n counts

  pub has_arrivals : HasArrivals load late (longest + late) begins
  has_arrivals line =
      let le = room in
      let e : admission_window late (longest + late) (counts - margin longest late) ≡ counts = omega (arith, le) in
      let same = ap (λ m. filling m (distance load line)) e ∙ arrivals_same counts (distance load line) in
      omega (arith, same)

  pub has_expiries : HasExpiries config (is_set config app costs.alarms are.alarms) begins
  has_expiries = record {
    acts = λ c j. let same = expire config app costs.alarms are.alarms (is_boot s) false c j (arrivals counts (distance load (counter_line c))) in omega (arith, same);
    sets = λ c j. let same = expire config app costs.alarms are.alarms (is_boot s) true c j (arrivals counts (distance load (counter_line c))) in omega (arith, same);
  }

-- ---- a solution

module _ (config : Config) (app : App) (w : Facts config app) (load : List Entry) (longest late : ℕ) (costs : Costs) (are : AreRunCosts config app load costs) (h : ℕ)
    (there : h < length config.tasks) (told : AreTold costs h) (cuts : ℕ → Bool) (cut : AreCutTasks config app cuts)
    (here : comes costs h ≡ true) (opens : Bool) (s : Start) (n : Numbers) (counts : ℕ)
    (solves : IsSolution costs (run_window longest late costs h opens s) n counts) where
  abbrev starting : Demand.Start
  starting = start_by config load longest late costs h opens s n counts

  abbrev law : Demand.Costs
  law = law_costs config app w load costs are h there

  -- what fills the window
  filled : margin longest late + (begun_item longest s + front_of opens costs h s) + round_counts n 0 costs.tasks + Arrivals.tick_counts counts costs.counters ≤ counts
  filled = solves.filled

  room : margin longest late ≤ counts
  room = let all = filled in omega (arith, all)

  counter_is : (c : ℕ) → c < length config.counters → get_or costs.counters c no_counter ≡ record { distance = distance load (counter_line c); tick = tick_path config c }
  counter_is c lt = are.counters.each c lt

  -- ---- a task that joins

  abbrev joined : Option ℕ
  joined = joined_of costs h s

  -- the sum of a number for each task of the level, and for that one
  over_and : {X : Type 0} (d : X) (F : ℕ → X → ℕ) (f g : ℕ → ℕ) (xs : List X) → length xs ≡ length config.tasks
      → ((k : ℕ) → k < length config.tasks → cond (is_over config h k) (f k) 0 ≤ F k (get_or xs k d)) → ((k : ℕ) → is_joined costs h k ≡ true → g k ≤ F k (get_or xs k d))
      → (o : Option ℕ) → joined ≡ o → sum_over config h f + at_joined o g ≤ sum_from F 0 xs
  over_and d F f g xs count each own None is =
      let sum = below_list d F (λ k. cond (is_over config h k) (f k) 0) (length config.tasks) xs count each in omega (arith, sum)
  over_and d F f g xs count each own (Some b) is =
      let more = with_one (length config.tasks) (λ k. cond (is_over config h k) (f k) 0) b (g b) (joined_declared config app w load costs are h there b joins_it) in
      let sum = below_list d F (λ k. cond (is_over config h k) (f k) 0 + cond (k == b) (g b) 0) (length config.tasks) xs count (λ k lt. at k lt (cases_eq k b)) in
      omega (arith, more, sum)
    where
      joins_it : is_joined costs h b ≡ true
      joins_it = (joined_so costs h s b is).1

      here_at : cond (is_over config h b) (f b) 0 + cond (b == b) (g b) 0 ≤ F b (get_or xs b d)
      here_at =
          let zero = ap (λ v. cond v (f b) 0) (joined_under config app w load costs are h there b joins_it) in
          let one = ap (λ v. cond v (g b) 0) (eq-eqb b b refl) in
          let le = own b joins_it in
          omega (arith, zero, one, le)

      at : (k : ℕ) → k < length config.tasks → (k ≡ b) ⊎ (k ≡ b → ⊥) → cond (is_over config h k) (f k) 0 + cond (k == b) (g b) 0 ≤ F k (get_or xs k d)
      at k lt (inl e) = subst (λ v. cond (is_over config h v) (f v) 0 + cond (v == b) (g b) 0 ≤ F v (get_or xs v d)) (sym e) here_at
      at k lt (inr ne) = let zero = ap (λ v. cond v (g b) 0) (ne_eqb k b ne) in let le = each k lt in omega (arith, zero, le)

  -- the sums of the law are at most those of the window
  by_rounds : (f g : ℕ → ℕ) (sets : Bool) (j : ℕ) → j < length config.tasks → ((k : ℕ) → k < length config.tasks → f k ≤ of_makings sets (n k) (making costs k j))
      → ((k : ℕ) → is_joined costs h k ≡ true → g k ≤ of_makings sets (n k) (making costs k j)) → sum_over config h f + at_joined joined g ≤ round_makings sets n 0 (makers costs j)
  by_rounds f g sets j lt each own =
      let sum = over_and no_makings (λ k m. of_makings sets (n k) m) f g (makers costs j) (are.makings.each j lt).count
      (λ k there. let le = each k there in let few = cond_few (is_over config h k) (f k) in omega (arith, le, few)) own joined refl in
      let same = makings_sum sets n 0 (makers costs j) in
      omega (arith, sum, same)

  by_ticks : (boot sets : Bool) (j : ℕ)
      → sum_counters config (λ c. min (arrivals counts (distance load (counter_line c))) (Arrivals.expiring boot sets c j (arrivals counts (distance load (counter_line c))) costs.alarms))
      ≤ Arrivals.ticking boot sets j counts costs.alarms 0 costs.counters
  by_ticks boot sets j =
      let sum = below_list no_counter (λ c counter. min (arrivals counts counter.distance) (Arrivals.expiring boot sets c j (arrivals counts counter.distance) costs.alarms))
      (λ c. min (arrivals counts (distance load (counter_line c))) (Arrivals.expiring boot sets c j (arrivals counts (distance load (counter_line c))) costs.alarms))
      (length config.counters) costs.counters are.counters.count
      (λ c lt. let same = ap (λ (v : CounterCosts). min (arrivals counts v.distance) (Arrivals.expiring boot sets c j (arrivals counts v.distance) costs.alarms)) (counter_is c lt) in omega (arith, same)) in
      let same = ticking_sum boot sets j counts costs.alarms 0 costs.counters in
      omega (arith, sum, same)

  -- ---- which makings count

  abbrev window : Window
  window = run_window longest late costs h opens s

  abbrev due : Numbers
  due = due_numbers config load longest late costs h opens s n counts

  abbrev acts_of : ℕ → ℕ
  acts_of j = activations costs window n counts j

  abbrev sets_of : ℕ → ℕ
  sets_of j = settings costs window n counts j

  -- of a task that comes the numbers are those of the window
  due_is : (j : ℕ) → comes costs j ≡ true → due j ≡ n j
  due_is j comes_too = ap (λ b. cond b (n j) (record { activations = acts_of j; settings = sets_of j })) comes_too

  rule_is : (j : ℕ) → IsOfLevel config h j → comes costs j ≡ true → (b : Bool) → ((j == h) && (task costs h).is_entered_once) ≡ b → rule_of costs window j ≡ cond b rule.Once rule.Each
  rule_is j over come b e =
      ap (λ x. cond x (lower_rule s j) (cond ((j == h) && (task costs h).is_entered_once) rule.Once rule.Each)) (upper_counts config app w load costs are h there j over come)
      ∙ ap (λ x. cond x rule.Once rule.Each) e

  made : (j : ℕ) (over : IsOfLevel config h j) → comes costs j ≡ true → (b : Bool) → ((j == h) && (task costs h).is_entered_once) ≡ b → IsAtMost (counted (cond b rule.Once rule.Each) (acts_of j) (sets_of j)) (n j)
  made j over come b e =
      subst (λ r. IsAtMost (counted r (acts_of j) (sets_of j)) (n j)) (rule_is j over come b e) (solves.made j (counted_task config app w load costs are h there j over.0))

  -- what rounds of a task make, of one that comes, is at most what they make in the window
  makings_few : (f x : ℕ → ℕ) (sets : Bool) (j : ℕ) → j < length config.tasks → ((k : ℕ) → of_makings sets (n k) (making costs k j) ≡ (n k).activations * f k + (n k).settings * x k)
      → sum_over config h (λ k. (due k).activations * if_comes config app w load costs are h there k (f k) + (due k).settings * if_comes config app w load costs are h there k (x k))
      + at_joined joined (λ k. (due k).settings * x k)
      ≤ round_makings sets n 0 (makers costs j)
  makings_few f x sets j lt same =
      by_rounds (λ k. (due k).activations * if_comes config app w load costs are h there k (f k) + (due k).settings * if_comes config app w load costs are h there k (x k))
      (λ k. (due k).settings * x k) sets j lt
      (λ k there. let few = by k (comes costs k) in let e = same k in omega (arith, few, e))
      (λ k joins_it. let e = same k in let these = ap (λ (m : Made). m.settings * x k) (due_is k (joined_comes config app w load costs are h there k joins_it)) in omega (arith, e, these))
    where
      by : (k : ℕ) (b : Bool) → let d : Made = cond b (n k) (record { activations = acts_of k; settings = sets_of k }) in
          d.activations * cond b (f k) 0 + d.settings * cond b (x k) 0 ≤ (n k).activations * f k + (n k).settings * x k
      by k true = omega arith
      by k false = omega arith

  acts_few : (j : ℕ) → IsOfLevel config h j → acts_due config h law starting j ≤ acts_of j
  acts_few j over =
      let arrive = ap (arrivals counts) (are.tasks.each j over.0).distance in
      let ticks = by_ticks (is_boot s) false j in
      let rounds = makings_few (λ k. reckoned (making costs k j).first_activations) (λ k. reckoned (making costs k j).next_activations) false j over.0 (λ k. refl) in
      let own = joined_sum joined (λ k. (due k).settings * reckoned (making costs k j).next_activations) (begun_by costs h s j).activations in
      omega (arith, arrive, ticks, rounds, own)

  sets_few : (j : ℕ) → IsOfLevel config h j → sets_due config h law starting j ≤ sets_of j
  sets_few j over =
      let ticks = by_ticks (is_boot s) true j in
      let rounds = makings_few (λ k. reckoned (making costs k j).first_settings) (λ k. reckoned (making costs k j).next_settings) true j over.0 (λ k. refl) in
      let own = joined_sum joined (λ k. (due k).settings * reckoned (making costs k j).next_settings) (begun_by costs h s j).settings in
      omega (arith, ticks, rounds, own)

  due_other : (j : ℕ) → comes costs j ≡ false → due j ≡ record { activations = acts_of j; settings = sets_of j }
  due_other j never = ap (λ b. cond b (n j) (record { activations = acts_of j; settings = sets_of j })) never

  swapped : (a b c : Bool) → (a && b) ≡ c → (b && a) ≡ c
  swapped true true c e = e
  swapped true false c e = e
  swapped false true c e = e
  swapped false false c e = e

  -- the numbers are enough, of a task that comes and of another one
  few_due : (j : ℕ) → IsOfLevel config h j → ((task costs h).is_entered_once && (j == h)) ≡ false → IsAtMost (record { activations = acts_of j; settings = sets_of j }) (due j)
  few_due j over other = by (comes costs j) refl
    where
      by : (b : Bool) → comes costs j ≡ b → IsAtMost (record { activations = acts_of j; settings = sets_of j }) (due j)
      by true come =
          subst (IsAtMost (record { activations = acts_of j; settings = sets_of j })) (sym (due_is j come)) (made j over come false (swapped (task costs h).is_entered_once (j == h) false other))
      by false never =
          subst (IsAtMost (record { activations = acts_of j; settings = sets_of j })) (sym (due_other j never)) (record { activations = omega arith; settings = omega arith })

  firsts_few : (j : ℕ) → IsOfLevel config h j → ((task costs h).is_entered_once && (j == h)) ≡ false → acts_due config h law starting j ≤ (due j).activations
  firsts_few j over other =
      let most = (few_due j over other).activations in
      let few = acts_few j over in
      omega (arith, most, few)

  nexts_few : (j : ℕ) → IsOfLevel config h j → ((task costs h).is_entered_once && (j == h)) ≡ false → sets_due config h law starting j ≤ (due j).settings
  nexts_few j over other =
      let most = (few_due j over other).settings in
      let few = sets_few j over in
      omega (arith, most, few)

  of_own_level : IsOfLevel config h h
  of_own_level = (there, le-leb (static_priority config h) (static_priority config h) (omega arith))

  entered : (task costs h).is_entered_once ≡ true → IsEnteredOnce config h law starting
  entered once = record {
    number =
        let most = (made h of_own_level here true (ap (λ b. b && (task costs h).is_entered_once) (eq-eqb h h refl) ∙ once)).activations in
        let acts = acts_few h of_own_level in
        let sets = sets_few h of_own_level in
        let same = ap (λ (m : Made). m.activations) (due_is h here) in
        omega (arith, most, acts, sets, same);
    cost =
        next_same config app w load costs are h there told cuts cut h of_own_level here ∙ ap reckoned (costs_alike config app load costs are h there once)
        ∙ sym (first_same config app w load costs are h there told cuts cut h of_own_level here);
    acts = λ j. ap (if_comes config app w load costs are h there h) (acts_alike config app load costs are h there once j);
    sets = λ j. ap (if_comes config app w load costs are h there h) (sets_alike config app load costs are h there once j);
  }

  -- the counts of rounds, and of ticks
  rounds_few : sum_over config h (λ k. (due k).activations * law.first k + (due k).settings * law.next k) + at_joined joined (λ k. (due k).settings * reckoned (task costs k).next)
      ≤ round_counts n 0 costs.tasks
  rounds_few =
      let sum = over_and no_task (λ k t. shared (n k) t.first t.next) (λ k. (due k).activations * law.first k + (due k).settings * law.next k)
      (λ k. (due k).settings * reckoned (task costs k).next) costs.tasks are.tasks.count (λ k lt. by k lt (is_over config h k) refl)
      (λ k joins_it. let these = ap (λ (m : Made). m.settings * reckoned (task costs k).next) (due_is k (joined_comes config app w load costs are h there k joins_it)) in omega (arith, these)) joined refl in
      let same = rounds_sum n 0 costs.tasks in
      omega (arith, sum, same)
    where
      member : (k : ℕ) → IsOfLevel config h k → (c : Bool) → comes costs k ≡ c
          → (due k).activations * law.first k + (due k).settings * law.next k ≤ shared (n k) (task costs k).first (task costs k).next
      member k over true come =
          let same = due_is k come in
          let firsts = ap (λ v. (n k).activations * v) (first_same config app w load costs are h there told cuts cut k over come) in
          let nexts = ap (λ v. (n k).settings * v) (next_same config app w load costs are h there told cuts cut k over come) in
          let acts = ap (λ (m : Made). m.activations * law.first k) same in
          let sets = ap (λ (m : Made). m.settings * law.next k) same in
          omega (arith, firsts, nexts, acts, sets)
      member k over false never =
          let firsts = ap (λ b. (due k).activations * cond b (first_entry config app w load costs are h there k + (reckoned (task costs k).first - first_entry config app w load costs are h there k)) 0) never in
          let nexts = ap (λ b. (due k).settings * cond b (next_entry config app w load costs are h there k + (reckoned (task costs k).next - next_entry config app w load costs are h there k)) 0) never in
          omega (arith, firsts, nexts)

      by : (k : ℕ) → k < length config.tasks → (b : Bool) → is_over config h k ≡ b
          → cond b ((due k).activations * law.first k + (due k).settings * law.next k) 0 ≤ shared (n k) (task costs k).first (task costs k).next
      by k lt false e = omega arith
      by k lt true e = member k (lt, e) (comes costs k) refl

  ticks_few : sum_counters config (λ c. arrivals counts (distance load (counter_line c)) * law.tick c) ≤ Arrivals.tick_counts counts costs.counters
  ticks_few =
      let sum = below_list no_counter (λ c counter. arrivals counts counter.distance * counter.tick) (λ c. arrivals counts (distance load (counter_line c)) * law.tick c)
      (length config.counters) costs.counters are.counters.count
      (λ c lt. let same = ap (λ (v : CounterCosts). arrivals counts v.distance * v.tick) (counter_is c lt) in omega (arith, same)) in
      let same = ticks_sum counts 0 costs.counters in
      omega (arith, sum, same)

  -- ---- settings of a task that joins

  -- it has a round for each of them, and for one in front
  pub settings_enough : (b : ℕ) → joined ≡ Some b → outer_sets config h law starting b + (own_sets costs due b + 1) ≤ (due b).settings
  settings_enough b is =
      let made = made_settings in
      let begun_is = ap (λ v. (begun_by costs h v b).settings) (joined_so costs h s b is).0 in
      let one = ap {B = ℕ} (λ v. cond v 1 0) (eq-eqb b b refl) in
      let ticks = by_ticks (is_boot s) true b in
      let rounds = makings_few (λ k. reckoned (making costs k b).first_settings) (λ k. reckoned (making costs k b).next_settings) true b (joined_declared config app w load costs are h there b joins_it) (λ k. refl) in
      let own = ap (λ o. at_joined o (λ k. (due k).settings * reckoned (making costs k b).next_settings)) is in
      let same = ap (λ (m : Made). m.settings) (due_is b (joined_comes config app w load costs are h there b joins_it)) in
      omega (arith, made, begun_is, one, ticks, rounds, own, same)
    where
      joins_it : is_joined costs h b ≡ true
      joins_it = (joined_so costs h s b is).1

      settings_rule : rule_of costs window b ≡ rule.Settings
      settings_rule =
          ap (λ x. cond x (lower_rule s b) (cond ((b == h) && (task costs h).is_entered_once) rule.Once rule.Each)) (joined_left_out config app w load costs are h there b joins_it)
          ∙ (ap (λ v. lower_rule v b) (joined_so costs h s b is).0 ∙ ap (λ v. cond v rule.Settings rule.Out) (eq-eqb b b refl))

      made_settings : sets_of b ≤ (n b).settings
      made_settings =
          (subst (λ r. IsAtMost (counted r (acts_of b) (sets_of b)) (n b)) settings_rule
          (solves.made b (counted_task config app w load costs are h there b (joined_declared config app w load costs are h there b joins_it)))).settings

  pub enough : IsEnough config h (task costs h).is_entered_once law starting
  enough = record {
    firsts = λ j lt over other. firsts_few j (lt, over) other;
    nexts = λ j lt over other. nexts_few j (lt, over) other;
    entered = entered;
    joined = λ b is.
        let all = settings_enough b is in
        let same = ap (λ o. at_joined o (λ k. (due k).settings - (own_sets costs due k + 1))) is in
        omega (arith, all, same);
    enough =
        let all = filled in
        let rounds = rounds_few in
        let ticks = ticks_few in
        let own = joined_sum joined (λ k. (due k).settings * reckoned (task costs k).next) (begun_item longest s + front_of opens costs h s) in
        omega (arith, all, rounds, ticks, own);
  }

  -- ---- how long it lasts

  pub lasts : (l r : ℕ) → l ≡ cond (is_target_made (Some h) n) counts 0 → l + lead_of opens late ≤ r + margin longest late → LastsWithin h r starting
  lasts l r is le due_some =
      let some : 1 ≤ (n h).activations + (n h).settings = subst (λ (m : Made). 1 ≤ m.activations + m.settings) (due_is h here) due_some in
      let made = ap (λ b. cond b counts 0) (made_some (n h).activations (n h).settings some) in
      let enough = room in
      let few = rounds_take n 0 costs.tasks (run_take_counts config app load costs are) h h (omega arith) (counted_task config app w load costs are h there h there) in
      let all = filled in
      (omega (arith, is, le, made, few, all, some), omega (arith, is, le, made, enough))
