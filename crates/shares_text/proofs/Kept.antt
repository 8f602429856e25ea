-- What every run keeps: sections, and what verdicts promise.
use Rattle.std.proofs.Common.{◌≡◌, ℕ, ◌<◌, ◌≤◌, ◌⊎◌, List, [], ◌∷◌, ◌++◌, true, false, length, get_or, refl, sym, ap, ◌∙◌, subst, arith, inl, inr, Some}
use Rattle.std.specs.Prelude.{◌≢◌, leb}
use Rattle.std.proofs.lemmas.Bool.{cases_eq}
use Rattle.std.proofs.lemmas.Bool.Decides.{leb_tells}
use Rattle.std.proofs.lemmas.List.{append_assoc}
use Rattle.std.proofs.lemmas.Option.{same_Some, none-some}
use Rattle.sloth_base.specs.declared.config.Config.{Config}
use Rattle.sloth_base.specs.declared.app.App.{App}
use Rattle.sloth_base.specs.declared.service.Event.{Event}
use Rattle.sloth_base.specs.declared.service.Event.TheVariants as event
use Rattle.sloth_base.specs.declared.service.Stamped.{Stamped}
use Rattle.sloth_base.specs.Events.{working_task}
use Rattle.sloth_base.specs.Named.{function, operation, IsBodyOf}
use Rattle.code_rules.specs.Code.{is_in}
use Rattle.code_rules.specs.WellFormed.{WellFormed, held_list_before}
use Rattle.osek_scheduler.specs.State.{Frame, System, task, opening}
use Rattle.osek_scheduler.specs.Steps.{OsekStep}
use Rattle.osek_scheduler.specs.Runs.{AreStepsTo, OsekRun}
use Rattle.osek_scheduler.proofs.Leading.{leads-parts, follows_leads, one_end}
use Rattle.osek_scheduler.specs.Valid.{held_by, AreCalls, IsValid}
use Rattle.osek_scheduler.specs.Valid as valid
use Rattle.osek_scheduler.specs.Apart.{AreTwo, IsActive, priority_of, static_priority, HasExclusion}
use Rattle.osek_scheduler.proofs.Apart.{opening_apart}
use Rattle.osek_scheduler.proofs.Facts.{facts}
use Rattle.osek_scheduler.proofs.Reached.{run_valid}
use Rattle.osek_scheduler.proofs.Stacks.{has_body}
use Rattle.osek_scheduler.proofs.Steps.{opening_valid}
use Rattle.osek_blocking.specs.Blocking.{IsRaisedTo}
use Rattle.osek_blocking.proofs.Effects.{Ordered, Effect}
use Rattle.osek_blocking.proofs.Ordering.{effect, opening_ordered, leads_ordered}
use Rattle.osek_blocking.specs.Walks.{Place, Position, place}
use Rattle.osek_blocking.specs.Sections.{held_list_along, priority_at}
use Rattle.osek_blocking.proofs.Raised.{at_position}
use Rattle.osek_blocking.proofs.Stepping.{position_of}
use Rattle.shares_text.specs.declared.verdict.Verdict.{Verdict}
use Rattle.shares_text.specs.declared.verdict.Verdict.TheVariants as verdict
use Rattle.shares_text.specs.Accesses.{symbol_of, IsCalledFrom, IsUse}
use Rattle.shares_text.specs.Verdicts.{IsVerdict, NoOpenPair, IsGuard, line_at}
use Rattle.shares_text.specs.RunLaws.{RunsKeepSections, IsUseEvent, HoldsThroughout, KeepsGuard, KeepsOrder, KeepsVerdict, RunsKeepVerdicts}

-- ---- sections

-- a task that works finds each other Active task below it
works_above : (config : Config) (app : App) (s next : System) (t u : ℕ) (e : Event) → Ordered config s → AreTwo config t u → IsActive s t
    → OsekStep config app e s next → working_task e ≡ Some u → priority_of config t (task s t) < static_priority config u
works_above config app s next t u e o two active step works = by e (effect config app s next o e step) works
  where
    Below : ℕ → Type 0
    Below v = priority_of config t (task s t) < static_priority config v

    at : (v : ℕ) → (t ≢ v → Below v) → v ≡ u → Below u
    at v above same = subst Below same (above (λ e. two.differ (e ∙ same)))

    by : (e : Event) → Effect config s next e → working_task e ≡ Some u → Below u
    by (event.Run v func item result) f is = at v (λ n. f.moves.acts.above t two.first n active) (same_Some v u is)
    by (event.Call v served status) f is = at v (λ n. f.moves.acts.above t two.first n active) (same_Some v u is)
    by e f is = absurd (none-some u is)

-- a state within a run, with the next event
record Within (config : Config) (app : App) (e : Event) (found : System) : Type 0 where
  pub next : System
  pub step : OsekStep config app e found next
  pub ordered : Ordered config found
  pub valid : IsValid config app found
  pub excludes : HasExclusion config found

within : (config : Config) (app : App) (events front rest : List Stamped) (e : Stamped) (found : System) → WellFormed config app → OsekRun config app events
    → events ≡ front ++ e ∷ rest → AreStepsTo config app front (opening config app) found → Within config app e.event found
within config app events front rest e found w run is leads =
    let start = opening config app in
    let whole = subst (λ (es : List Stamped). AreStepsTo config app es start run.0) is (follows_leads config app [] start events run.0 run.1) in
    let parts = leads-parts config app front (e ∷ rest) start run.0 whole in
    let same = one_end config app front start parts.0 found parts.1 leads in
    let kept = run_valid config app (facts config app w) front start found leads (opening_valid config app) (opening_apart config app) in
    record {
      next = parts.2.0;
      step = subst (λ (x : System). OsekStep config app e.event x parts.2.0) same parts.2.1;
      ordered = leads_ordered config app front start found (opening_ordered config app) leads;
      valid = kept.0;
      excludes = kept.2;
    }

pub keeps_sections : RunsKeepSections
keeps_sections config app events w run front rest e t u found is two leads active raised works =
    let x = within config app events front rest e found w run is leads in
    let lt = works_above config app found x.next t u e.event x.ordered two active x.step works in
    absurd (omega (arith, lt, raised))

-- ---- a use in a run

held_along : (app : App) (frames : List Frame) → held_by app frames ≡ held_list_along app (position_of frames)
held_along app [] = refl
held_along app (frame ∷ outer) = ap (λ l. l ++ held_list_before app frame.func frame.item) (held_along app outer)

-- what is static of a use that a run has
record Seen (config : Config) (app : App) (y t : ℕ) (here : Place) (found : System) : Type 0 where
  pub outer : Position
  pub is : IsUse app y t here outer
  pub declared : t < length config.tasks
  pub active : IsActive found t
  pub held : (task found t).held ≡ held_list_along app (here ∷ outer)
  pub priority : priority_of config t (task found t) ≡ priority_at config app t (here ∷ outer)

module _ (config : Config) (app : App) (wf : WellFormed config app) where
  called : (t f : ℕ) → t < length config.tasks → (outer : List Frame) → valid.IsCalledFrom app t f outer → IsCalledFrom app t f (position_of outer)
  called t f declared [] h = subst (IsBodyOf app t) (sym h) (has_body config app (facts config app wf) t declared)
  called t f declared (caller ∷ outer) h = (h.1, called t caller.func declared outer h.2)

  seen_at : (y t : ℕ) (here : Place) (result : ℕ) (found next : System) → IsValid config app found
      → OsekStep config app (event.Run t here.func here.item result) found next → symbol_of (operation app here.func here.item) ≡ Some y
      → Seen config app y t here found
  seen_at y t here result found next v step accesses =
      let at = step.1.at in
      let declared = step.1.top.declared in
      let f = step.1.in_function in
      let i = step.1.at_item in
      let calls = subst (AreCalls app t) at.frames (v.each t declared).calls in
      let same : place at.frame.func at.frame.item ≡ here = ap (λ x. place x at.frame.item) f ∙ ap (λ x. place here.func x) i in
      let position : position_of (task found t).frames ≡ here ∷ position_of at.outer = ap position_of at.frames ∙ ap (λ p. p ∷ position_of at.outer) same in
      let inside : at.frame.item < length (function app here.func).items = subst (λ x. at.frame.item < length (function app x).items) f at.inside in
      record {
        outer = position_of at.outer;
        is = record {
          called = subst (λ x. IsCalledFrom app t x (position_of at.outer)) f (called t at.frame.func declared at.outer calls.1);
          inside = subst (λ x. x < length (function app here.func).items) i inside;
          accesses = accesses;
        };
        declared = declared;
        active = at.active;
        held = (v.each t declared).held ∙ (held_along app (task found t).frames ∙ ap (held_list_along app) position);
        priority = at_position config app found t v declared at.active at.free ∙ ap (priority_at config app t) position;
      }

  seen : (y t : ℕ) (here : Place) (e : Event) (found : System) → IsUseEvent app y t here e → Within config app e found → Seen config app y t here found
  seen y t here e found is_use x =
      seen_at y t here is_use.result found x.next x.valid (subst (λ (v : Event). OsekStep config app v found x.next) is_use.is x.step) is_use.accesses

  -- ---- verdicts

  module _ (events : List Stamped) (run : OsekRun config app events) where
    seen_in : (y t : ℕ) (here : Place) (front rest : List Stamped) (e : Stamped) (found : System) → events ≡ front ++ e ∷ rest
        → IsUseEvent app y t here e.event → AreStepsTo config app front (opening config app) found → Seen config app y t here found
    seen_in y t here front rest e found is is_use leads = seen y t here e.event found is_use (within config app events front rest e found wf run is leads)

    -- where these events lead
    state_behind : (front rest : List Stamped) (e : Stamped) → events ≡ front ++ e ∷ rest
        → (found : System) × AreStepsTo config app front (opening config app) found
    state_behind front rest e is =
        let start = opening config app in
        let whole = subst (λ (es : List Stamped). AreStepsTo config app es start run.0) is (follows_leads config app [] start events run.0 run.1) in
        let parts = leads-parts config app front (e ∷ rest) start run.0 whole in
        (parts.0, parts.1)

    use_in : (y t : ℕ) (here : Place) (front rest : List Stamped) (e : Stamped) → events ≡ front ++ e ∷ rest → IsUseEvent app y t here e.event
        → (outer : Position) × IsUse app y t here outer
    use_in y t here front rest e is is_use =
        let behind = state_behind front rest e is in
        let x = seen_in y t here front rest e behind.0 is is_use behind.1 in
        (x.outer, x.is)

    held_in : (y r : ℕ) → IsGuard app y r → (front rest : List Stamped) (e : Stamped) (t : ℕ) (here : Place) (found : System) → events ≡ front ++ e ∷ rest
        → IsUseEvent app y t here e.event → AreStepsTo config app front (opening config app) found → is_in r (task found t).held ≡ true
    held_in y r guards front rest e t here found is is_use leads =
        let x = seen_in y t here front rest e found is is_use leads in
        ap (is_in r) x.held ∙ guards t here x.outer x.is

    keeps_order : (y : ℕ) → NoOpenPair config app y → KeepsOrder config app y events
    keeps_order y none front rest e t u here there outer found is is_use leads other stores differ =
        let x = seen_in y t here front rest e found is is_use leads in
        by x (leb_tells (static_priority config u) (priority_of config t (task found t)))
      where
        high : ℕ
        high = static_priority config u

        low : ℕ
        low = priority_of config t (task found t)

        by : Seen config app y t here found → ((leb high low ≡ true) × (high ≤ low)) ⊎ ((leb high low ≡ false) × (low < high)) → IsRaisedTo config found t u
        by x (inl h) = h.1
        by x (inr h) =
            absurd (none (record { low = t; low_line = line_at app here; high = u; high_line = line_at app there }) (record {
              low_place = here;
              low_outer = x.outer;
              low = x.is;
              low_line = refl;
              high_place = there;
              high_outer = outer;
              high = other;
              high_line = refl;
              stores = stores;
              lets_in = subst (λ p. p < static_priority config u) x.priority h.1;
            }))

    keeps_guard : (y r : ℕ) → IsGuard app y r → KeepsGuard config app y r events
    keeps_guard y r guards = record { held = held_in y r guards; apart = apart }
      where
        apart : (before between behind : List Stamped) (e w : Stamped) (t u : ℕ) (here there : Place) (s : System)
            → events ≡ before ++ e ∷ (between ++ w ∷ behind) → IsUseEvent app y t here e.event → IsUseEvent app y u there w.event
            → AreStepsTo config app before (opening config app) s → HoldsThroughout config app t r s (e ∷ (between ++ w ∷ [])) → u ≡ t
        apart before between behind e w t u here there s is first second leads holds = by (cases_eq u t)
          where
            later : events ≡ (before ++ e ∷ between) ++ w ∷ behind
            later = is ∙ sym (append_assoc before (e ∷ between) (w ∷ behind))

            found : (x : System) × AreStepsTo config app (before ++ e ∷ between) (opening config app) x
            found = state_behind (before ++ e ∷ between) behind w later

            from_here : AreStepsTo config app (e ∷ between) s found.0
            from_here =
                let parts = leads-parts config app before (e ∷ between) (opening config app) found.0 found.1 in
                subst (λ (x : System). AreStepsTo config app (e ∷ between) x found.0) (one_end config app before (opening config app) parts.0 s parts.1 leads) parts.2

            one : Seen config app y t here s
            one = seen_in y t here before (between ++ w ∷ behind) e s is first leads

            other : Seen config app y u there found.0
            other = seen_in y u there (before ++ e ∷ between) behind w found.0 later second found.1

            kept : Within config app w.event found.0
            kept = within config app events (before ++ e ∷ between) behind w found.0 wf run later found.1

            by : (u ≡ t) ⊎ (u ≡ t → ⊥) → u ≡ t
            by (inl same) = same
            by (inr n) =
                absurd (kept.excludes.one_holder t u r (record { first = one.declared; second = other.declared; differ = λ h. n (sym h) })
                (holds (e ∷ between) [] w found.0 refl from_here)
                (held_in y r guards (before ++ e ∷ between) behind w u there found.0 later second found.1))

    keeps_verdict : (y : ℕ) (v : Verdict) → IsVerdict config app y v → KeepsVerdict config app y v events
    keeps_verdict y verdict.Unused h = λ front rest e t here is is_use. let x = use_in y t here front rest e is is_use in h t (here, x.0, x.1)
    keeps_verdict y (verdict.One t) h = λ front rest e u here is is_use. let x = use_in y u here front rest e is is_use in h.1 u (here, x.0, x.1)
    keeps_verdict y (verdict.Reads members) h = λ front rest e t here is is_use. let x = use_in y t here front rest e is is_use in h.1 t here x.0 x.1
    keeps_verdict y (verdict.Guarded members) h = λ r few member. keeps_guard y r ((h.3 r few).0 member)
    keeps_verdict y (verdict.Ordered list) h = keeps_order y h.3
    keeps_verdict y (verdict.Open p) h = tt

pub keeps_verdicts : RunsKeepVerdicts
keeps_verdicts config app verdicts w are = record {
  promises = λ events y run few. keeps_verdict config app w events run y (get_or verdicts y verdict.Unused) (are.each y few);
  sections = λ events run. keeps_sections config app events w run;
}
