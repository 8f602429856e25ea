-- Where a period begins: at the last quiet state, or where task h left last, if that is later and it is to be entered once.
use Rattle.std.proofs.Common.{◌≡◌, ℕ, ◌≤◌, ◌⊎◌, List, [], ◌∷◌, ◌++◌, Bool, true, false, cond, refl, sym, ap, ◌∙◌, subst, arith, inl, inr, is_some}
use Rattle.std.specs.List.{AllByRecursion}
use Rattle.std.proofs.lemmas.Bool.{cases_Bool, true≢false, false≢true}
use Rattle.sloth_base.specs.declared.config.Config.{Config}
use Rattle.sloth_base.specs.declared.app.App.{App}
use Rattle.sloth_base.specs.declared.service.Event.{Event}
use Rattle.sloth_base.specs.declared.service.Event.TheVariants as event
use Rattle.sloth_base.specs.Events.{admitted_line}
use Rattle.osek_scheduler.specs.State.{System, task}
use Rattle.osek_scheduler.specs.InTime.{is_admit}
use Rattle.osek_scheduler.specs.Priority.{is_active}
use Rattle.osek_scheduler.specs.Apart.{IsActive}
use Rattle.osek_scheduler.proofs.Facts.{Facts}
use Rattle.run_counts.specs.Stages.{Stage, end_of}
use Rattle.run_counts.specs.Rounds.{is_left}
use Rattle.response_laws.specs.Sums.{count}
use Rattle.response_laws.specs.Busy.{is_quiet, is_quiet_but, LeavesFirst, IsLeaving}
use Rattle.response_laws.specs.Response.{EntersOnce}
use Rattle.response_laws.proofs.Linked.{Known, Linked}
use Rattle.response_laws.proofs.Leaving.{leaves_alone, leaves_active}
use Rattle.response_laws.proofs.Starting.{IsBusy, due_busy}
use Rattle.response_laws.proofs.Steps.{active_declared}

module _ (config : Config) (app : App) (w : Facts config app) (h : ℕ) (cuts : ℕ → Bool) (once : Bool) (enters : once ≡ true → EntersOnce config h cuts) where
  abbrev pub lefts : List Stage → ℕ
  lefts xs = count (λ x. is_left h x.stamped.event) xs

  abbrev pub runs : System → ℕ
  runs s = cond (is_active (task s h).state) 1 0

  -- the period that begins last among these stages
  pub record Begun (xs : List Stage) : Type 0 where
    pub before : List Stage
    pub first : Stage
    pub behind : List Stage
    pub parts : xs ≡ before ++ first ∷ behind
    pub begins : (is_quiet config h first.found ≡ true) ⊎ ((once ≡ true) × IsLeaving config h first behind)
    pub busy : AllByRecursion (IsBusy config h) behind
    pub few : once ≡ true → lefts (first ∷ behind) ≤ runs first.found

  -- it is found; or they begin with a leaving, and what stands in front is not known; or nothing begins
  pub data Scan (xs : List Stage) : Type 0 where
    scanned : Begun xs → Scan xs
    pending : once ≡ true → AllByRecursion (IsBusy config h) xs → LeavesFirst h xs → lefts xs ≤ 1 → Scan xs
    nothing : AllByRecursion (IsBusy config h) xs → (once ≡ true → lefts xs ≤ 0) → Scan xs

  further_in : (x : Stage) (xs : List Stage) → Begun xs → Begun (x ∷ xs)
  further_in x xs s = record {
    before = x ∷ s.before;
    first = s.first;
    behind = s.behind;
    parts = ap (λ ys. x ∷ ys) s.parts;
    begins = s.begins;
    busy = s.busy;
    few = s.few;
  }

  active_runs : (s : System) → IsActive s h → runs s ≡ 1
  active_runs s active = ap {B = ℕ} (λ m. cond (is_active m) 1 0) active

  left_no_admit : (e : Event) → is_left h e ≡ true → is_some (admitted_line e) ≡ false
  left_no_admit (event.Left u served) is = refl
  left_no_admit event.Boot is = refl
  left_no_admit e is = absurd (false≢true is)

  module _ (x : Stage) (k : Known config app x) where
    -- behind an event that is no admission they begin with the leaving
    at_leaving : (xs : List Stage) → Linked (end_of x) x.next xs → AllByRecursion (Known config app) xs → is_admit x.stamped ≡ false → once ≡ true
        → AllByRecursion (IsBusy config h) xs → LeavesFirst h xs → lefts xs ≤ 1 → Scan (x ∷ xs)
    at_leaving [] l ks other on busy leaves one = absurd leaves
    at_leaving (y ∷ ys) l ks other on busy leaves one =
        let alone = leaves_alone config app w h cuts (enters on) x (end_of x) (y ∷ ys) k other l ks leaves in
        let active = leaves_active config app w h cuts (enters on) (end_of x) x.next (y ∷ ys) l ks leaves in
        let here : IsActive y.found h = subst (λ (s : System). IsActive s h) (sym l.1) active in
        scanned
        (record {
          before = x ∷ [];
          first = y;
          behind = ys;
          parts = refl;
          begins = inr (on, record { active = here; alone = ap (is_quiet_but config h) l.1 ∙ alone; leaves = leaves });
          busy = busy.1;
          few = λ _. let run = active_runs y.found here in omega (arith, one, run);
        })

    quiet_not_active : is_quiet config h x.found ≡ true → IsActive x.found h → ⊥
    quiet_not_active quiet active =
        true≢false (sym quiet ∙ due_busy config h x.found (active_declared config x.found h k.valid.count active) (inr active))

    scan_on : (xs : List Stage) → Linked (end_of x) x.next xs → AllByRecursion (Known config app) xs → Scan xs → Scan (x ∷ xs)
    scan_on xs l ks (scanned s) = scanned (further_in x xs s)
    scan_on xs l ks (pending on busy leaves one) = by (cases_Bool (is_admit x.stamped)) (cases_Bool (is_quiet config h x.found))
      where
        by : (is_admit x.stamped ≡ true) ⊎ (is_admit x.stamped ≡ false) → (is_quiet config h x.found ≡ true) ⊎ (is_quiet config h x.found ≡ false) → Scan (x ∷ xs)
        by (inr other) q = at_leaving xs l ks other on busy leaves one
        by (inl admits) (inr not_quiet) =
            let zero = ap {B = ℕ} (λ b. cond b 1 0) (no_left (cases_Bool (is_left h x.stamped.event)) admits) in
            pending on (not_quiet, busy) (inr (admits, leaves)) (omega (arith, one, zero))
          where
            no_left : (is_left h x.stamped.event ≡ true) ⊎ (is_left h x.stamped.event ≡ false) → is_admit x.stamped ≡ true → is_left h x.stamped.event ≡ false
            no_left (inr off) admits = off
            no_left (inl is) admits = absurd (true≢false (sym admits ∙ left_no_admit x.stamped.event is))
        by (inl admits) (inl quiet) =
            absurd
            (quiet_not_active quiet
            (leaves_active config app w h cuts (enters on) x.start x.found (x ∷ xs) (refl, refl, l) (k, ks) (inr (admits, leaves))))
    scan_on xs l ks (nothing busy none) = by (cases_Bool (is_quiet config h x.found)) (cases_Bool once) (cases_Bool (is_left h x.stamped.event))
      where
        at_quiet : is_quiet config h x.found ≡ true → Scan (x ∷ xs)
        at_quiet quiet =
            scanned
            (record {
              before = [];
              first = x;
              behind = xs;
              parts = refl;
              begins = inl quiet;
              busy = busy;
              few = λ on. let rest = none on in let zero = ap {B = ℕ} (λ b. cond b 1 0) (stays on (cases_Bool (is_left h x.stamped.event))) in omega (arith, rest, zero);
            })
          where
            stays : once ≡ true → (is_left h x.stamped.event ≡ true) ⊎ (is_left h x.stamped.event ≡ false) → is_left h x.stamped.event ≡ false
            stays on (inr off) = off
            stays on (inl is) =
                absurd
                (quiet_not_active quiet
                (leaves_active config app w h cuts (enters on) x.start x.found (x ∷ xs) (refl, refl, l) (k, ks) (inl is)))

        by : (is_quiet config h x.found ≡ true) ⊎ (is_quiet config h x.found ≡ false) → (once ≡ true) ⊎ (once ≡ false)
            → (is_left h x.stamped.event ≡ true) ⊎ (is_left h x.stamped.event ≡ false) → Scan (x ∷ xs)
        by (inl quiet) o left = at_quiet quiet
        by (inr not_quiet) (inr off) left = nothing (not_quiet, busy) (λ on. absurd (true≢false (sym on ∙ off)))
        by (inr not_quiet) (inl on) (inl is) =
            let one = ap {B = ℕ} (λ b. cond b 1 0) is in
            let rest = none on in
            pending on (not_quiet, busy) (inl is) (omega (arith, one, rest))
        by (inr not_quiet) (inl on) (inr stays) =
            let zero = ap {B = ℕ} (λ b. cond b 1 0) stays in
            nothing (not_quiet, busy) (λ _. let rest = none on in omega (arith, zero, rest))

  pub scan : (at : ℕ) (s : System) (xs : List Stage) → Linked at s xs → AllByRecursion (Known config app) xs → Scan xs
  scan at s [] l k = nothing tt (λ _. omega arith)
  scan at s (x ∷ xs) l k = scan_on x k.0 xs l.2 k.1 (scan (end_of x) x.next xs l.2 k.1)
