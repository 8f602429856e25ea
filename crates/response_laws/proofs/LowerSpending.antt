-- Where no event is a lower task's, lower tasks have no more counts than the item that one of them has begun.
use Rattle.std.proofs.Common.{◌≡◌, ◌==◌, ℕ, zero, suc, ◌+◌, ◌-◌, ◌<◌, ◌≤◌, ◌⊎◌, not, List, [], ◌∷◌, ◌++◌, Bool, true, false, cond, length, refl, sym, ap, ◌∙◌, subst, arith, inl, inr}
use Rattle.std.specs.List.{AllByRecursion}
use Rattle.std.proofs.lemmas.Bool.{cases_Bool, cases_eq, true≢false, false≢true, ne_eqb, leb-true, leb-false}
use Rattle.sloth_base.specs.declared.config.Config.{Config}
use Rattle.sloth_base.specs.declared.app.App.{App}
use Rattle.sloth_base.specs.declared.service.Arrival.{Arrival}
use Rattle.sloth_base.specs.declared.service.Event.{Event}
use Rattle.sloth_base.specs.declared.service.Event.TheVariants as event
use Rattle.sloth_base.specs.declared.service.Stamped.{Stamped}
use Rattle.code_rules.specs.WellFormed.{WellFormed}
use Rattle.osek_scheduler.specs.State.{System, task, opening}
use Rattle.osek_scheduler.specs.Apart.{priority_of, static_priority, IsActive, IsOver}
use Rattle.osek_scheduler.specs.InTime.{InTime, is_admit}
use Rattle.osek_scheduler.specs.Runs.{OsekRun}
use Rattle.osek_scheduler.proofs.Apart.{Same, at_least_static, rank_active}
use Rattle.osek_scheduler.proofs.Facts.{facts}
use Rattle.osek_scheduler.proofs.Leading.{follows_leads}
use Rattle.osek_scheduler.proofs.Steps.{opening_valid}
use Rattle.osek_blocking.proofs.Effects.{Ordered}
use Rattle.osek_blocking.proofs.Once.{Blocks, blocker}
use Rattle.osek_blocking.proofs.Ordering.{effect, opening_ordered}
use Rattle.sim_induction.specs.Pace.{ItemSizes, AreAtMost, next_size}
use Rattle.sim_induction.specs.Spent.{SpendsOnItems, spent_behind}
use Rattle.run_counts.specs.Stages.{Stage, unseen, spanned, charged, own, is_turn, is_entry, is_running, run_stages}
use Rattle.run_counts.specs.Rounds.{is_left, total}
use Rattle.run_counts.specs.OwnCounts.{is_preempted, begun}
use Rattle.run_counts.proofs.Awake.{stays_active}
use Rattle.run_counts.proofs.Owned.{run_owned}
use Rattle.run_counts.proofs.Running.{Decides-is_running}
use Rattle.run_counts.proofs.SpentStages.{AreSpent, spent_stages, goes_on}
use Rattle.run_counts.proofs.TaskCases.{TaskCase, entry_case, work_case, service_case, rest_case, task_case}
use Rattle.response_laws.specs.Sums.{sum_below, count, is_over}
use Rattle.response_laws.specs.Turns.{is_other_event, is_other}
use Rattle.response_laws.specs.Shares.{lower_own, lower_counts, LowerTasksSpendOneItem}
use Rattle.response_laws.proofs.Linked.{Known, last_state, each_append, stages_known}

-- ---- sums of one

pub sum_of_none : (n : ℕ) (f : ℕ → ℕ) → ((t : ℕ) → t < n → f t ≤ 0) → sum_below n f ≤ 0
sum_of_none zero f each = omega arith
sum_of_none (suc n) f each =
    let here = each n (omega arith) in
    let rest = sum_of_none n f (λ t lt. each t (omega (arith, lt))) in
    omega (arith, here, rest)

-- where all others have nothing, a sum is no more than one of its numbers
sum_of_one : (n r : ℕ) (f : ℕ → ℕ) → ((t : ℕ) → t < n → (t ≡ r → ⊥) → f t ≤ 0) → sum_below n f ≤ f r
sum_of_one zero r f none = omega arith
sum_of_one (suc n) r f none = by (cases_eq n r) (sum_of_one n r f (λ t lt. none t (omega (arith, lt))))
  where
    by : (n ≡ r) ⊎ (n ≡ r → ⊥) → sum_below n f ≤ f r → f n + sum_below n f ≤ f r
    by (inl e) again =
        let rest = sum_of_none n f (λ t lt. none t (omega (arith, lt)) (λ same. omega (arith, same, e, lt))) in
        let same = ap f e in
        omega (arith, rest, same)
    by (inr other) again = let here = none n (omega arith) other in omega (arith, here, again)

-- a number passes, or none does
pub some_or_none : (n : ℕ) (test : ℕ → Bool) → ((t : ℕ) × (t < n) × (test t ≡ true)) ⊎ ((t : ℕ) → t < n → test t ≡ false)
some_or_none zero test = inr (λ t lt. absurd (omega (arith, lt)))
some_or_none (suc n) test = by (cases_Bool (test n)) (some_or_none n test)
  where
    by : (test n ≡ true) ⊎ (test n ≡ false) → ((t : ℕ) × (t < n) × (test t ≡ true)) ⊎ ((t : ℕ) → t < n → test t ≡ false)
        → ((t : ℕ) × (t < suc n) × (test t ≡ true)) ⊎ ((t : ℕ) → t < suc n → test t ≡ false)
    by (inl is) rest = inl (n, omega arith, is)
    by (inr off) (inl found) = inl (found.0, (let lt = found.1 in omega (arith, lt)), found.2)
    by (inr off) (inr none) = inr (λ t lt. each t lt (cases_eq t n))
      where
        each : (t : ℕ) → t < suc n → (t ≡ n) ⊎ (t ≡ n → ⊥) → test t ≡ false
        each t lt (inl e) = ap test e ∙ off
        each t lt (inr other) = none t (omega (arith, lt, other))

-- without an event of a lower task, what lower tasks have are their own counts
pub own_where_none : (config : Config) (h : ℕ) (xs : List Stage) → count (is_other config h) xs ≤ 0 → total (lower_counts config h) xs ≤ total (lower_own config h) xs
own_where_none config h [] none = omega arith
own_where_none config h (x ∷ xs) none = by (is_other config h x) none (own_where_none config h xs)
  where
    by : (o : Bool) → cond o 1 0 + count (is_other config h) xs ≤ 0
        → (count (is_other config h) xs ≤ 0 → total (lower_counts config h) xs ≤ total (lower_own config h) xs)
        → cond o (charged x) (lower_own config h x) + total (lower_counts config h) xs ≤ lower_own config h x + total (lower_own config h) xs
    by true le rest = absurd (omega (arith, le))
    by false le rest = let more = rest (omega (arith, le)) in omega (arith, more)

-- an admission has no counts
pub admit_own : (config : Config) (t : ℕ) (x : Stage) → is_admit x.stamped ≡ true → own config t x ≤ 0
admit_own config t x admits = by (is_running config x.found t) (is_turn t x.stamped.event)
  where
    none : unseen x + spanned x ≤ 0
    none =
        let a = ap {B = ℕ} (λ c. cond c 0 (x.stamped.stamp.from - x.start)) admits in
        let b = ap {B = ℕ} (λ c. cond c 0 (x.stamped.stamp.at + 1 - x.stamped.stamp.from)) admits in
        omega (arith, a, b)

    by : (runs turn : Bool) → cond runs (unseen x) 0 + cond turn (spanned x) 0 ≤ 0
    by true true = let zero = none in omega (arith, zero)
    by true false = let zero = none in omega (arith, zero)
    by false true = let zero = none in omega (arith, zero)
    by false false = omega arith

module _ (config : Config) (app : App) (h : ℕ) where
  -- task t is lower
  abbrev Lower : ℕ → Type 0
  Lower t = static_priority config t < static_priority config h

  over_of : (over : Bool) → not over ≡ false → over ≡ true
  over_of true e = refl
  over_of false e = absurd (true≢false e)

  -- an event that is no other one is of a task of at least the static priority of h, which is no lower one
  apart : (u t : ℕ) → Lower t → not (is_over config h u) ≡ false → t ≡ u → ⊥
  apart u t lower other same =
      let over = leb-true (static_priority config h) (static_priority config u) (over_of (is_over config h u) other) in
      let priority = ap (static_priority config) same in
      omega (arith, over, lower, priority)

  off_of : (u t : ℕ) → (t ≡ u → ⊥) → (u == t) ≡ false
  off_of u t n = ne_eqb u t (λ e. n (sym e))

  pub no_turn : (e : Event) (t : ℕ) → Lower t → is_other_event config h e ≡ false → is_turn t e ≡ false
  no_turn (event.Run u func item result) t lower other = off_of u t (apart u t lower other)
  no_turn (event.Call u served status) t lower other = off_of u t (apart u t lower other)
  no_turn (event.Left u served) t lower other = off_of u t (apart u t lower other)
  no_turn (event.Back u) t lower other = off_of u t (apart u t lower other)
  no_turn e t lower other = refl

  pub no_entry : (e : Event) (t : ℕ) → Lower t → is_other_event config h e ≡ false → is_entry t e ≡ false
  no_entry (event.Enter u) t lower other = off_of u t (apart u t lower other)
  no_entry e t lower other = refl

  pub no_left : (e : Event) (t : ℕ) → Lower t → is_other_event config h e ≡ false → is_left t e ≡ false
  no_left (event.Left u served) t lower other = off_of u t (apart u t lower other)
  no_left e t lower other = refl

  -- ---- a stage whose event is no lower task's

  module _ (x : Stage) (k : Known config app x) (other : is_other config h x ≡ false) where
    pub same_at : (t : ℕ) → Lower t → Same config t (task x.found t) (task x.next t)
    same_at t lower = by (task_case config x.found x.next t x.stamped.event (effect config app x.found x.next k.ordered x.stamped.event k.step))
      where
        by : TaskCase config x.found x.next t x.stamped.event → Same config t (task x.found t) (task x.next t)
        by (rest_case away out same ready) = same
        by (entry_case entry away f) = absurd (true≢false (sym entry ∙ no_entry x.stamped.event t lower other))
        by (work_case turn out calls f) = absurd (true≢false (sym turn ∙ no_turn x.stamped.event t lower other))
        by (service_case turn out calls f) = absurd (true≢false (sym turn ∙ no_turn x.stamped.event t lower other))

    stays_at : (t : ℕ) → Lower t → IsActive x.found t → IsActive x.next t
    stays_at t lower = stays_active config app t x.stamped.event x.found x.next k.step k.valid (no_left x.stamped.event t lower other)

    -- a lower task that does not run has no counts of its own
    nothing_own : (t : ℕ) → Lower t → is_running config x.found t ≡ false → own config t x ≤ 0
    nothing_own t lower rests =
        let front = ap {B = ℕ} (λ b. cond b (unseen x) 0) rests in
        let turn = ap {B = ℕ} (λ b. cond b (spanned x) 0) (no_turn x.stamped.event t lower other) in
        omega (arith, front, turn)

    -- where one lower task runs at most, they have its counts
    pub own_of_one : (r : ℕ) → ((t : ℕ) → t < length config.tasks → Lower t → (t ≡ r → ⊥) → is_running config x.found t ≡ false)
        → lower_own config h x ≤ cond (is_over config h r) 0 (own config r x)
    own_of_one r alone =
        sum_of_one (length config.tasks) r (λ t. cond (is_over config h t) 0 (own config t x)) (λ t lt n. by t lt n (is_over config h t) refl)
      where
        by : (t : ℕ) → t < length config.tasks → (t ≡ r → ⊥) → (b : Bool) → is_over config h t ≡ b → cond b 0 (own config t x) ≤ 0
        by t lt n true is = omega arith
        by t lt n false is =
            let lower = leb-false (static_priority config h) (static_priority config t) is in
            nothing_own t lower (alone t lt lower n)

    at_most_own : (b : Bool) (n : ℕ) → cond b 0 n ≤ n
    at_most_own true n = omega arith
    at_most_own false n = omega arith

    -- where a raised lower task blocks, no other one runs
    pub blocker_runs : (b : ℕ) → Blocks config h x.found b → lower_own config h x ≤ own config b x
    blocker_runs b blocks =
        let le = own_of_one b (λ t lt lower n. rests t lt lower n (cases_Bool (is_running config x.found t))) in
        let few = at_most_own (is_over config h b) (own config b x) in
        omega (arith, le, few)
      where
        rests : (t : ℕ) → t < length config.tasks → Lower t → (t ≡ b → ⊥) → (is_running config x.found t ≡ true) ⊎ (is_running config x.found t ≡ false)
            → is_running config x.found t ≡ false
        rests t lt lower n (inr off) = off
        rests t lt lower n (inl is) =
            let runs = (Decides-is_running config x.found t).0 is in
            let le = runs.1 b blocks.declared blocks.active in
            let one = rank_active config x.found t runs.0 in
            let two = rank_active config x.found b blocks.active in
            let up = blocks.raised in
            let alone = (blocker config h x.found k.ordered).1 in
            absurd (n (alone t (record { declared = lt; active = runs.0; lower = lower; raised = omega (arith, le, one, two, up) }) ∙ sym (alone b blocks)))

    -- no lower task begins to block
    pub blocked_before : (b : ℕ) → Blocks config h x.next b → Blocks config h x.found b
    blocked_before b blocks =
        let old = same_at b blocks.lower blocks.active in
        record {
          declared = blocks.declared;
          active = old.0;
          lower = blocks.lower;
          raised = subst (λ p. static_priority config h ≤ p) old.1 blocks.raised;
        }

    -- or ends to
    pub blocks_on : (b : ℕ) → Blocks config h x.found b → Blocks config h x.next b
    blocks_on b blocks =
        let now = stays_at b blocks.lower blocks.active in
        let old = same_at b blocks.lower now in
        record {
          declared = blocks.declared;
          active = now;
          lower = blocks.lower;
          raised = subst (λ p. static_priority config h ≤ p) (sym old.1) blocks.raised;
        }

  pub admit_counts : (x : Stage) → is_admit x.stamped ≡ true → lower_own config h x ≤ 0
  admit_counts x admits =
      sum_of_none (length config.tasks) (λ t. cond (is_over config h t) 0 (own config t x)) (λ t lt. by (is_over config h t) (admit_own config t x admits))
    where
      by : {n : ℕ} (b : Bool) → n ≤ 0 → cond b 0 n ≤ 0
      by true none = omega arith
      by false none = none

  -- ---- one task leads

  -- each other lower task that is Active is below task r, which is Active too
  abbrev Leads : (r : ℕ) → System → Type 0
  Leads r s =
      (t : ℕ) → t < length config.tasks → Lower t → (t ≡ r → ⊥) → IsActive s t
      → IsActive s r × (priority_of config t (task s t) < priority_of config r (task s r))

  running_leads : (s : System) → Ordered config s → (r : ℕ) → r < length config.tasks → is_running config s r ≡ true → Leads r s
  running_leads s o r there is t lt lower n active =
      let runs = (Decides-is_running config s r).0 is in
      let le = runs.1 t lt active in
      let one = rank_active config s t active in
      let two = rank_active config s r runs.0 in
      (runs.0, by runs.0 (omega (arith, le, one, two)) (o.apart.apart t r (record { first = lt; second = there; differ = n }) active runs.0))
    where
      by : IsActive s r → priority_of config t (task s t) ≤ priority_of config r (task s r) → IsOver config s r t ⊎ IsOver config s t r
          → priority_of config t (task s t) < priority_of config r (task s r)
      by active_r le (inl over) = let least = at_least_static config r (task s r) in omega (arith, over, least)
      by active_r le (inr over) = let least = at_least_static config t (task s t) in absurd (omega (arith, over, least, le))

  leads_on : (x : Stage) → Known config app x → is_other config h x ≡ false → (r : ℕ) → Lower r → Leads r x.found → Leads r x.next
  leads_on x k other r low leads t lt lower n active =
      let old = same_at x k other t lower active in
      let before = leads t lt lower n old.0 in
      let now = stays_at x k other r low before.0 in
      let same = same_at x k other r low now in
      let less = before.1 in
      let mine = old.1 in
      let its = same.1 in
      (now, omega (arith, less, mine, its))

  leader_owns : (x : Stage) → Known config app x → is_other config h x ≡ false → (r : ℕ) → r < length config.tasks → Leads r x.found
      → lower_own config h x ≤ own config r x
  leader_owns x k other r there leads =
      let le = own_of_one x k other r (λ t lt lower n. rests t lt lower n (cases_Bool (is_running config x.found t))) in
      let few = at_most_own x k other (is_over config h r) (own config r x) in
      omega (arith, le, few)
    where
      rests : (t : ℕ) → t < length config.tasks → Lower t → (t ≡ r → ⊥) → (is_running config x.found t ≡ true) ⊎ (is_running config x.found t ≡ false)
          → is_running config x.found t ≡ false
      rests t lt lower n (inr off) = off
      rests t lt lower n (inl is) =
          let runs = (Decides-is_running config x.found t).0 is in
          let above = leads t lt lower n runs.0 in
          let le = runs.1 r there above.0 in
          let one = rank_active config x.found t runs.0 in
          let two = rank_active config x.found r above.0 in
          let less = above.1 in
          absurd (omega (arith, le, one, two, less))

  -- ---- stages without an event of a lower task

  no_other_here : (x : Stage) (xs : List Stage) → count (is_other config h) (x ∷ xs) ≤ 0 → (is_other config h x ≡ false) × (count (is_other config h) xs ≤ 0)
  no_other_here x xs none = by (is_other config h x) none
    where
      by : (b : Bool) → cond b 1 0 + count (is_other config h) xs ≤ 0 → (b ≡ false) × (count (is_other config h) xs ≤ 0)
      by true le = absurd (omega (arith, le))
      by false le = (refl, omega (arith, le))

  module _ (size : ItemSizes) (longest : ℕ) (most : AreAtMost size longest) where
    pub few_begun : (t : ℕ) (x : Stage) → begun size t x ≤ longest
    few_begun t x = by (task x.found t).owed (task x.found t).frames
      where
        by : (b : Bool) (fs : _) → cond b 0 (next_size size fs) ≤ longest
        by true fs = omega arith
        by false [] = omega arith
        by false (frame ∷ outer) = most frame.func frame.item

    -- what the task that leads has spent is of its item
    of_leader : (r : ℕ) → r < length config.tasks → Lower r → (at spent : ℕ) (s : System) (xs : List Stage) → AreSpent config app size longest r at spent s xs
        → AllByRecursion (Known config app) xs → count (is_other config h) xs ≤ 0 → Leads r s
        → (total (lower_own config h) xs ≤ 0) ⊎ (total (lower_own config h) xs + spent ≤ longest)
    of_leader r there low at spent s [] spends k none leads = inl (omega arith)
    of_leader r there low at spent s (x ∷ xs) spends k none leads =
        by (of_leader r there low (cond (is_admit x.stamped) at x.stamped.stamp.at) (spent_behind config r at spent x.found x.stamped) x.next xs spends.2 k.1 both.1
        (leads_on x k.0 both.0 r low here))
        (cases_Bool (is_preempted config r x))
      where
        both : (is_other config h x ≡ false) × (count (is_other config h) xs ≤ 0)
        both = no_other_here x xs none

        here : Leads r x.found
        here = subst (Leads r) (sym spends.0) leads

        behind : ℕ
        behind = spent_behind config r at spent x.found x.stamped

        grows : (own config r x + spent ≤ behind) × (behind ≤ cond (is_preempted config r x) (begun size r x) spent)
        grows =
            goes_on config app size longest r at spent x spends.1 (no_turn x.stamped.event r low both.0) spent (omega arith)
            (no_entry x.stamped.event r low both.0)

        mine : lower_own config h x ≤ own config r x
        mine = leader_owns x k.0 both.0 r there here

        by : (total (lower_own config h) xs ≤ 0) ⊎ (total (lower_own config h) xs + behind ≤ longest)
            → (is_preempted config r x ≡ true) ⊎ (is_preempted config r x ≡ false)
            → (total (lower_own config h) (x ∷ xs) ≤ 0) ⊎ (total (lower_own config h) (x ∷ xs) + spent ≤ longest)
        by (inr le) which = let a = grows.0 in let b = mine in inr (omega (arith, le, a, b))
        by (inl le) (inl is) =
            let a = grows.0 in
            let c = grows.1 in
            let d = ap {B = ℕ} (λ b. cond b (begun size r x) spent) is in
            let few = few_begun r x in
            let b = mine in
            inr (omega (arith, le, a, b, c, d, few))
        by (inl le) (inr off) =
            let a = grows.0 in
            let c = grows.1 in
            let d = ap {B = ℕ} (λ b. cond b (begun size r x) spent) off in
            let b = mine in
            inl (omega (arith, le, a, b, c, d))

    -- what each task has spent
    abbrev AllSpent : System → List Stage → Type 0
    AllSpent s xs = (t : ℕ) → t < length config.tasks → (at : ℕ) × ((spent : ℕ) × AreSpent config app size longest t at spent s xs)

    of_all : (s : System) (xs : List Stage) → AllSpent s xs → AllByRecursion (Known config app) xs → count (is_other config h) xs ≤ 0
        → total (lower_own config h) xs ≤ longest
    of_all s [] all k none = omega arith
    of_all s (x ∷ xs) all k none =
        by (some_or_none (length config.tasks) runs) (of_all x.next xs (λ t lt. later (all t lt)) k.1 both.1)
      where
        both : (is_other config h x ≡ false) × (count (is_other config h) xs ≤ 0)
        both = no_other_here x xs none

        later : {t : ℕ} → (at : ℕ) × ((spent : ℕ) × AreSpent config app size longest t at spent s (x ∷ xs))
            → (at : ℕ) × ((spent : ℕ) × AreSpent config app size longest t at spent x.next xs)
        later {t} (at, (spent, h)) =
            (cond (is_admit x.stamped) at x.stamped.stamp.at, (spent_behind config t at spent x.found x.stamped, h.2))

        runs : ℕ → Bool
        runs t = cond (is_over config h t) false (is_running config x.found t)

        lower_runs : (t : ℕ) → (b : Bool) → is_over config h t ≡ b → cond b false (is_running config x.found t) ≡ true
            → Lower t × (is_running config x.found t ≡ true)
        lower_runs t true over is = absurd (false≢true is)
        lower_runs t false below is = (leb-false (static_priority config h) (static_priority config t) below, is)

        by : ((t : ℕ) × (t < length config.tasks) × (runs t ≡ true)) ⊎ ((t : ℕ) → t < length config.tasks → runs t ≡ false)
            → total (lower_own config h) xs ≤ longest → total (lower_own config h) (x ∷ xs) ≤ longest
        by (inl (r, there, is)) further =
            let own_spent = all r there in
            let run = lower_runs r (is_over config h r) refl is in
            let found = own_spent.1.1.0 in
            let leads : Leads r s = subst (Leads r) found (running_leads x.found k.0.ordered r there run.1) in
            few _ _ (of_leader r there run.0 own_spent.0 own_spent.1.0 s (x ∷ xs) own_spent.1.1 k none leads)
          where
            few : (counts spent : ℕ) → (counts ≤ 0) ⊎ (counts + spent ≤ longest) → counts ≤ longest
            few counts spent (inl le) = omega (arith, le)
            few counts spent (inr le) = omega (arith, le)
        by (inr rest) further =
            let none_here = sum_of_none (length config.tasks) (λ t. cond (is_over config h t) 0 (own config t x)) (λ t lt. here t lt (is_over config h t) refl) in
            omega (arith, none_here, further)
          where
            here : (t : ℕ) → t < length config.tasks → (b : Bool) → is_over config h t ≡ b → cond b 0 (own config t x) ≤ 0
            here t lt true over = omega arith
            here t lt false below =
                nothing_own x k.0 both.0 t (leb-false (static_priority config h) (static_priority config t) below)
                (sym (ap (λ b. cond b false (is_running config x.found t)) below) ∙ rest t lt)

-- ---- a run

-- what a task has spent in each part of a run
pub spent_in : (config : Config) (app : App) (size : ItemSizes) (longest n t : ℕ) (arrivals : List Arrival) (events : List Stamped)
    → WellFormed config app → OsekRun config app events → InTime config n arrivals events → SpendsOnItems config app size longest t events
    → (before xs behind : List Stage) → run_stages config app events ≡ before ++ (xs ++ behind)
    → (at : ℕ) × ((spent : ℕ) × AreSpent config app size longest t at spent (last_state (opening config app) before) xs)
spent_in config app size longest n t arrivals events wf run timed spends before xs behind is =
    let leads = follows_leads config app [] (opening config app) events run.0 run.1 in
    let owns = run_owned config app (facts config app wf) n t arrivals events run.0 leads timed in
    let whole = spent_stages config app size longest t events 0 0 0 (opening config app) spends.last spends.to spends.left spends.each (λ booted. absurd (false≢true booted)) owns in
    later before 0 0 (opening config app) (subst (AreSpent config app size longest t 0 0 (opening config app)) is whole)
  where
    later : (before : List Stage) (at spent : ℕ) (s : System) → AreSpent config app size longest t at spent s (before ++ (xs ++ behind))
        → (at : ℕ) × ((spent : ℕ) × AreSpent config app size longest t at spent (last_state s before) xs)
    later [] at spent s h = (at, (spent, front at spent s xs h))
      where
        front : (at spent : ℕ) (s : System) (ys : List Stage) → AreSpent config app size longest t at spent s (ys ++ behind) → AreSpent config app size longest t at spent s ys
        front at spent s [] h = tt
        front at spent s (y ∷ ys) h =
            (h.0, h.1, front (cond (is_admit y.stamped) at y.stamped.stamp.at) (spent_behind config t at spent y.found y.stamped) y.next ys h.2)
    later (y ∷ ys) at spent s h =
        later ys (cond (is_admit y.stamped) at y.stamped.stamp.at) (spent_behind config t at spent y.found y.stamped) y.next h.2

pub lower_spend : LowerTasksSpendOneItem
lower_spend config app size longest n h arrivals events wf run timed most spends before xs behind is none =
    of_all config app h size longest most (last_state (opening config app) before) xs
    (λ t lt. spent_in config app size longest n t arrivals events wf run timed (spends t lt) before xs behind is)
    (each_append (Known config app) xs behind (each_append (Known config app) before (xs ++ behind) (subst (AllByRecursion (Known config app)) is known)).1).0 none
  where
    known : AllByRecursion (Known config app) (run_stages config app events)
    known =
        stages_known config app (facts config app wf) 0 (opening config app) run.0 events (opening_ordered config app) (opening_valid config app)
        (follows_leads config app [] (opening config app) events run.0 run.1)
