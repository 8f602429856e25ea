-- The admissions of a busy period are no more than the arrivals that fit into its window.
use Rattle.std.proofs.Common.{◌≡◌, ℕ, ◌+◌, ◌-◌, ◌<◌, ◌≤◌, ◌⊎◌, ◌==◌, ◌&&◌, List, [], ◌∷◌, ◌++◌, length, Bool, true, false, cond, leb, ltb, Option, Some, None, refl, sym, ap, ◌∙◌, subst, arith, inl, inr}
use Rattle.std.specs.Prelude.{AllPairs, is_some}
use Rattle.std.specs.List.{AllByRecursion}
use Rattle.std.proofs.lemmas.Bool.{cases_lt, ne_eqb, and_right, false≢true, lt-ltb, le-leb, and_from}
use Rattle.std.proofs.lemmas.List.Elements.{recursion_from_All}
use Rattle.std.proofs.lemmas.List.Sums.{sum_by-cons}
use Rattle.sloth_base.specs.Options.{is_number}
use Rattle.sloth_base.specs.declared.config.Config.{Config}
use Rattle.sloth_base.specs.declared.app.App.{App}
use Rattle.sloth_base.specs.declared.service.Arrival.{Arrival}
use Rattle.sloth_base.specs.declared.service.Stamped.{Stamped}
use Rattle.sloth_base.specs.Events.{admitted_line}
use Rattle.osek_scheduler.specs.State.{System, opening}
use Rattle.osek_scheduler.specs.InTime.{IsStamped, IsOrdered, StandsBefore, InTime, AreAllAdmitted, AreLeftOut, admits_at, arrivals_at, is_admit}
use Rattle.osek_scheduler.specs.Runs.{AreStepsTo}
use Rattle.run_counts.specs.Stages.{Stage, state_behind, stage, stages, end_of}
use Rattle.response_laws.specs.Sums.{count}
use Rattle.response_laws.specs.Turns.{at_admission}
use Rattle.response_laws.specs.Bounded.{BeginsWithin}
use Rattle.load_text.specs.declared.load_line.Entry.{Entry}
use Rattle.load_text.specs.Loads.{KeepDistances, arrivals_within}
use Rattle.response_laws.specs.Response.{HasPace}
use Rattle.response_laws.specs.Arrivals.{is_inside, passing_inside, arrivals_inside, HasDistances, AreCharged, admission_window, AdmissionsAreFew}
use Rattle.run_counts.specs.Stages.{charged, run_stages}
use Rattle.osek_scheduler.specs.Runs.{OsekRun}
use Rattle.osek_scheduler.proofs.Leading.{follows_leads}
use Rattle.response_laws.proofs.Linked.{last_end, each_append, each_so, behind_is}
use Rattle.response_laws.proofs.Ordering.{ahead}
use Rattle.response_laws.proofs.Booted.{HasStarted, has_started, no_boot}
use Rattle.response_laws.proofs.Windows.{fewer_inside, few_arrivals}
use Rattle.response_laws.proofs.Responding.{IsBrief, near, run_no_less}

-- ---- no more admissions than arrivals, at each moment

none_at : (k line : ℕ) (events : List Stamped) → AllByRecursion (λ e. e.stamp.at < k) events → admits_at k line events ≡ 0
none_at k line [] below = refl
none_at k line (e ∷ events) below =
    let rest = none_at k line events below.1 in
    let more = sum_by-cons (λ x. cond (is_number line (admitted_line x.event) && (x.stamp.at == k)) 1 0) e events in
    let lt = below.0 in
    let here = ap {B = ℕ} (λ b. cond b 1 0) (and_right (is_number line (admitted_line e.event)) (e.stamp.at == k) (ne_eqb e.stamp.at k (λ same. omega (arith, same, lt)))) in
    omega (arith, rest, more, here)

module _ (config : Config) (n : ℕ) (arrivals : List Arrival) (events : List Stamped) (in_time : InTime config n arrivals events) where
  pub few_at : (k line : ℕ) → admits_at k line events ≤ arrivals_at k line arrivals
  few_at k line = by in_time.admitted
    where
      all : (m : ℕ) → AreAllAdmitted m arrivals events → k < m → admits_at k line events ≤ arrivals_at k line arrivals
      all m admits lt = let same = admits k line lt in omega (arith, same)

      late : (n ≤ k) → admits_at k line events ≤ arrivals_at k line arrivals
      late past =
          let none = none_at k line events
          (each_so (IsStamped n) (λ e. e.stamp.at < k) (λ e s. let lt = s.below in omega (arith, lt, past)) events
          (recursion_from_All (IsStamped n) events in_time.stamped)) in
          omega (arith, none)

      by : AreAllAdmitted n arrivals events ⊎ ((m : ℕ) × AreLeftOut config n arrivals events m) → admits_at k line events ≤ arrivals_at k line arrivals
      by (inl admits) = which (cases_lt k n)
        where
          which : (k < n) ⊎ (n ≤ k) → admits_at k line events ≤ arrivals_at k line arrivals
          which (inl lt) = all n admits lt
          which (inr past) = late past
      by (inr out) = which (cases_lt k out.0)
        where
          which : (k < out.0) ⊎ (out.0 ≤ k) → admits_at k line events ≤ arrivals_at k line arrivals
          which (inl lt) = all out.0 out.1.admits lt
          which (inr past) = let none = out.1.leaves k line past in omega (arith, none)

  pub admitted_inside : (low high line : ℕ) → low ≤ high
      → passing_inside (λ (e : Stamped). is_number line (admitted_line e.event)) (λ e. e.stamp.at) low high events ≤ arrivals_inside low high line arrivals
  admitted_inside low high line le =
      fewer_inside (λ (e : Stamped). is_number line (admitted_line e.event)) (λ e. e.stamp.at) (λ (a : Arrival). a.line == line) (λ a. a.at)
      events arrivals (λ k. few_at k line) low high le

-- ---- where the admissions of a period stand

module _ (config : Config) (app : App) (late : ℕ) where
  -- each stage ends near each one behind it, and its own moment
  abbrev AreNear : List Stage → Type 0
  AreNear [] = Unit {0}
  AreNear (y ∷ ys) = AllByRecursion (λ x. end_of y ≤ x.stamped.stamp.at + late) (y ∷ ys) × AreNear ys

  -- a count that is near the moments of these events
  abbrev NearAll : ℕ → List Stamped → Type 0
  NearAll k events = AllByRecursion (λ e. k ≤ e.stamp.at + late) events

  near_stages : (k start : ℕ) (s : System) (events : List Stamped) → NearAll k events
      → AllByRecursion (λ x. k ≤ x.stamped.stamp.at + late) (stages config app start s events)
  near_stages k start s [] near = tt
  near_stages k start s (e ∷ events) near = (near.0, near_stages k (end_of (stage config app start s e)) (state_behind config app e.event s) events near.1)

  near_others : (n : ℕ) (e : Stamped) (events : List Stamped) → is_admit e ≡ false → IsBrief config app late e → AllByRecursion (IsOrdered e) events
      → AllByRecursion (IsStamped n) events → NearAll (e.stamp.at + 1) events
  near_others n e [] other brief ordered stamped = tt
  near_others n e (x ∷ events) other brief ordered stamped =
      (near config app late x e stamped.0.ordered ordered.0 brief other, near_others n e events other brief ordered.1 stamped.1)

  are_near : (n start : ℕ) (s : System) (events : List Stamped) → AllPairs IsOrdered events → AllByRecursion (IsStamped n) events
      → AllByRecursion (IsBrief config app late) events → NearAll start events → AreNear (stages config app start s events)
  are_near n start s [] pairs stamped brief near = tt
  are_near n start s (e ∷ events) pairs stamped brief near =
      let next : NearAll (cond (is_admit e) start (e.stamp.at + 1)) (e ∷ events) = by (is_admit e) refl in
      let rest = are_near n (end_of (stage config app start s e)) (state_behind config app e.event s) events (ahead e events pairs).1 stamped.1 brief.1 next.1 in
      (near_stages (end_of (stage config app start s e)) start s (e ∷ events) next, rest)
    where
      by : (b : Bool) → is_admit e ≡ b → NearAll (cond b start (e.stamp.at + 1)) (e ∷ events)
      by true is = near
      by false other =
          let short = brief.0 in
          let le = stamped.0.ordered in
          (omega (arith, short, le), near_others n e events other brief.0 (ahead e events pairs).0 stamped.1)

  near_part : (before xs : List Stage) → AreNear (before ++ xs) → AreNear xs
  near_part [] xs near = near
  near_part (y ∷ before) xs near = near_part before xs near.1

module _ (config : Config) (app : App) (heaviest : ℕ) where
  -- an admit comes before the next other event ends, or the run
  soon : (n start moment : ℕ) (s end : System) (events : List Stamped) → HasStarted s → AreStepsTo config app events s end
      → AreCharged heaviest (stages config app start s events)
      → AllByRecursion (λ e. is_admit e ≡ false → moment ≤ e.stamp.at) events → n ≤ last_end start (stages config app start s events) + heaviest → moment < n
      → moment + 1 ≤ start + heaviest
  soon n start moment s end [] on leads charges later reaches below = omega (arith, reaches, below)
  soon n start moment s end (e ∷ events) on leads charges later reaches below = by (is_admit e) refl
      (λ is.
      let started = subst HasStarted (sym (behind_is config app e.event s leads.0 leads.1)) (has_started config app e.event s leads.0 leads.1) in
      soon n start moment (state_behind config app e.event s) end events started
      (subst (λ x. AreStepsTo config app events x end) (sym (behind_is config app e.event s leads.0 leads.1)) leads.2)
      (subst (λ k. AreCharged heaviest (stages config app k (state_behind config app e.event s) events)) is charges.1) later.1
      (subst (λ k. n ≤ last_end k (stages config app k (state_behind config app e.event s) events) + heaviest) is reaches) below)
    where
      by : (b : Bool) → is_admit e ≡ b → (cond (is_admit e) start (e.stamp.at + 1) ≡ start → moment + 1 ≤ start + heaviest) → moment + 1 ≤ start + heaviest
      by true is again = again (ap (λ c. cond c start (e.stamp.at + 1)) is)
      by false other again =
          let fits = charges.0 other (no_boot config app e.event s leads.0 leads.1 on) in
          let all : charged (stage config app start s e) ≡ e.stamp.at + 1 - start = ap (λ c. cond c 0 (e.stamp.at + 1 - start)) other in
          let le = later.0 other in
          omega (arith, fits, all, le)

  -- the moment of an admit
  abbrev ComesSoon : Stage → Type 0
  ComesSoon x = is_admit x.stamped ≡ true → x.stamped.stamp.at + 1 ≤ x.start + heaviest

  behind_admit : (e : Stamped) (events : List Stamped) → is_admit e ≡ true → AllByRecursion (IsOrdered e) events
      → AllByRecursion (λ x. is_admit x ≡ false → e.stamp.at ≤ x.stamp.at) events
  behind_admit e [] admits ordered = tt
  behind_admit e (x ∷ events) admits ordered = (
    λ other. subst (λ b. StandsBefore true b e.stamp x.stamp) other (subst (λ b. StandsBefore b (is_admit x) e.stamp x.stamp) admits ordered.0),
    behind_admit e events admits ordered.1,
  )

  come_soon : (n start : ℕ) (s end : System) (events : List Stamped) → AreStepsTo config app events s end → AreCharged heaviest (stages config app start s events)
      → AllPairs IsOrdered events → AllByRecursion (IsStamped n) events → n ≤ last_end start (stages config app start s events) + heaviest
      → AllByRecursion ComesSoon (stages config app start s events)
  come_soon n start s end [] leads charges pairs stamped reaches = tt
  come_soon n start s end (e ∷ events) leads charges pairs stamped reaches =
      let is = behind_is config app e.event s leads.0 leads.1 in
      let started = subst HasStarted (sym is) (has_started config app e.event s leads.0 leads.1) in
      let both = ahead e events pairs in
      let led = subst (λ x. AreStepsTo config app events x end) (sym is) leads.2 in
      let here : ComesSoon (stage config app start s e) =
      λ admits.
      let same : cond (is_admit e) start (e.stamp.at + 1) ≡ start = ap (λ c. cond c start (e.stamp.at + 1)) admits in
      soon n start e.stamp.at (state_behind config app e.event s) end events started led
      (subst (λ k. AreCharged heaviest (stages config app k (state_behind config app e.event s) events)) same charges.1)
      (behind_admit e events admits both.0) (subst (λ k. n ≤ last_end k (stages config app k (state_behind config app e.event s) events) + heaviest) same reaches)
      stamped.0.below in
      let rest = come_soon n (end_of (stage config app start s e)) (state_behind config app e.event s) end events led charges.1 both.1 stamped.1 reaches in
      (here, rest)

-- ---- counted

-- stages that stand inside
all_inside : (low high line : ℕ) (xs : List Stage)
    → AllByRecursion (λ x. at_admission line x ≡ true → (low ≤ x.stamped.stamp.at) × (x.stamped.stamp.at < high)) xs
    → count (at_admission line) xs ≤ passing_inside (at_admission line) (λ x. x.stamped.stamp.at) low high xs
all_inside low high line [] each = omega arith
all_inside low high line (x ∷ xs) each =
    let rest = all_inside low high line xs each.1 in
    let here = by (at_admission line x) each.0 in
    omega (arith, here, rest)
  where
    by : (b : Bool) → (b ≡ true → (low ≤ x.stamped.stamp.at) × (x.stamped.stamp.at < high))
        → cond b 1 0 ≤ cond (b && is_inside low high x.stamped.stamp.at) 1 0
    by false h = omega arith
    by true h =
        let both = h refl in
        let inside = and_from (leb low x.stamped.stamp.at) (ltb x.stamped.stamp.at high) (le-leb low x.stamped.stamp.at both.0) (lt-ltb x.stamped.stamp.at high both.1) in
        let here = ap {B = ℕ} (λ b. cond b 1 0) inside in
        omega (arith, here)

pub inside-append : {X : Type 0} (test : X → Bool) (moment : X → ℕ) (low high : ℕ) (xs ys : List X)
    → passing_inside test moment low high (xs ++ ys) ≡ passing_inside test moment low high xs + passing_inside test moment low high ys
inside-append test moment low high [] ys = omega arith
inside-append test moment low high (x ∷ xs) ys = let rest = inside-append test moment low high xs ys in omega (arith, rest)

module _ (config : Config) (app : App) (low high line : ℕ) where
  stages_inside : (at : ℕ) (s : System) (events : List Stamped)
      → passing_inside (at_admission line) (λ x. x.stamped.stamp.at) low high (stages config app at s events)
      ≡ passing_inside (λ (e : Stamped). is_number line (admitted_line e.event)) (λ e. e.stamp.at) low high events
  stages_inside at s [] = refl
  stages_inside at s (e ∷ events) =
      let rest = stages_inside (end_of (stage config app at s e)) (state_behind config app e.event s) events in omega (arith, rest)

-- an admission of a line is an admit
admits : (line : ℕ) (x : Stage) → at_admission line x ≡ true → is_admit x.stamped ≡ true
admits line x is = by (admitted_line x.stamped.event) is
  where
    by : (o : Option ℕ) → is_number line o ≡ true → is_some o ≡ true
    by (Some l) is = refl
    by None is = absurd (false≢true is)

module _ (config : Config) (app : App) (load : List Entry) (n late more heaviest : ℕ) (arrivals : List Arrival) (events : List Stamped)
    (osek : OsekRun config app events) (in_time : InTime config n arrivals events) (pace : HasPace n late more events) (fits : more ≤ heaviest)
    (charges : AreCharged heaviest (run_stages config app events)) (positive : HasDistances load) (keeps : KeepDistances load arrivals) where
  abbrev run : List Stage
  run = stages config app 0 (opening config app) events

  leads : AreStepsTo config app events (opening config app) osek.0
  leads = follows_leads config app [] (opening config app) events osek.0 osek.1

  stamped : AllByRecursion (IsStamped n) events
  stamped = recursion_from_All (IsStamped n) events in_time.stamped

  -- the first moment of a period's admissions, and that behind their last one
  abbrev low : (first : Stage) → ℕ
  low first = end_of first - late

  abbrev high : (l : ℕ) (first : Stage) → ℕ
  high l first = end_of first + l + heaviest

  abbrev IsInside : (l line : ℕ) (first : Stage) → Stage → Type 0
  IsInside l line first x = at_admission line x ≡ true → (low first ≤ x.stamped.stamp.at) × (x.stamped.stamp.at < high l first)

  -- the run is no longer than its last event, and what may stand behind it
  reaches : 0 < length events → n ≤ last_end 0 run + heaviest
  reaches some =
      let end = pace.reaches some in
      let less = run_no_less config app late osek.0 events some leads in
      omega (arith, end, less, fits)

  -- a run with a stage has an event
  has_events : (es : List Stamped) (before : List Stage) (first : Stage) (rest : List Stage) → stages config app 0 (opening config app) es ≡ before ++ first ∷ rest → 0 < length es
  has_events [] before first rest is = absurd (none before is)
    where
      none : (zs : List Stage) → [] ≡ zs ++ first ∷ rest → ⊥
      none [] e = cc
      none (z ∷ zs) e = cc
  has_events (e ∷ es) before first rest is = omega arith

  -- the first stage of a period ends near the moments of all its stages
  pub near_period : (before : List Stage) (first : Stage) (period behind : List Stage) → run ≡ before ++ ((first ∷ period) ++ behind)
      → AllByRecursion (λ x. end_of first ≤ x.stamped.stamp.at + late) (first ∷ period)
  near_period before first period behind part =
      (each_append (λ x. end_of first ≤ x.stamped.stamp.at + late) (first ∷ period) behind
      (near_part config app late before (first ∷ (period ++ behind)) (subst (AreNear config app late) part near_run)).0).0
    where
      near_run : AreNear config app late run
      near_run =
          are_near config app late n 0 (opening config app) events in_time.placed stamped pace.brief
          (each_so (IsStamped n) (λ e. 0 ≤ e.stamp.at + late) (λ e s. omega arith) events stamped)

  pub admissions_few : (line l : ℕ) (before : List Stage) (first : Stage) (period behind : List Stage) → run ≡ before ++ ((first ∷ period) ++ behind)
      → AllByRecursion (BeginsWithin l first) period → count (at_admission line) (first ∷ period) ≤ arrivals_within load (admission_window late heaviest l) line
  admissions_few line l before first period behind part begins =
      let counted = all_inside (low first) (high l first) line (first ∷ period) inside in
      let whole = ap (passing_inside (at_admission line) (λ x. x.stamped.stamp.at) (low first) (high l first)) part
      ∙ inside-append (at_admission line) (λ x. x.stamped.stamp.at) (low first) (high l first) before ((first ∷ period) ++ behind) in
      let parts = inside-append (at_admission line) (λ x. x.stamped.stamp.at) (low first) (high l first) (first ∷ period) behind in
      let seen = stages_inside config app (low first) (high l first) line 0 (opening config app) events in
      let admitted = admitted_inside config n arrivals events in_time (low first) (high l first) line (omega arith) in
      let few = few_arrivals load arrivals positive keeps (low first) (high l first) (admission_window late heaviest l) line (omega arith) in
      omega (arith, counted, whole, parts, seen, admitted, few)
    where
      near_first : AllByRecursion (λ x. end_of first ≤ x.stamped.stamp.at + late) (first ∷ period)
      near_first = near_period before first period behind part

      soon_run : AllByRecursion (ComesSoon config app heaviest) (first ∷ period)
      soon_run =
          let all = come_soon config app heaviest n 0 (opening config app) osek.0 events leads charges in_time.placed stamped (reaches (has_events events before first (period ++ behind) part)) in
          (each_append (ComesSoon config app heaviest) (first ∷ period) behind
          (each_append (ComesSoon config app heaviest) before ((first ∷ period) ++ behind) (subst (AllByRecursion (ComesSoon config app heaviest)) part all)).1).0

      starts : (x : Stage) → x.start ≤ end_of first + l → end_of first ≤ x.stamped.stamp.at + late → ComesSoon config app heaviest x → IsInside l line first x
      starts x le near_x soon_x is =
          let moment = soon_x (admits line x is) in
          (omega (arith, near_x), omega (arith, moment, le))

      first_begins : IsInside l line first first
      first_begins is =
          let same = ap (λ b. cond b first.start (first.stamped.stamp.at + 1)) (admits line first is) in
          starts first (omega (arith, same)) near_first.0 soon_run.0 is

      each : (xs : List Stage) → AllByRecursion (BeginsWithin l first) xs
          → AllByRecursion (λ x. end_of first ≤ x.stamped.stamp.at + late) xs → AllByRecursion (ComesSoon config app heaviest) xs
          → AllByRecursion (IsInside l line first) xs
      each [] b k s = tt
      each (x ∷ xs) b k s = (starts x b.0 k.0 s.0, each xs b.1 k.1 s.1)

      inside : AllByRecursion (IsInside l line first) (first ∷ period)
      inside = (first_begins, each period begins near_first.1 soon_run.1)

pub admissions_are_few : AdmissionsAreFew
admissions_are_few config app load n late more heaviest arrivals events osek in_time pace fits charges positive keeps line l before first period behind part begins =
    admissions_few config app load n late more heaviest arrivals events osek in_time pace fits charges positive keeps line l before first period behind part begins
