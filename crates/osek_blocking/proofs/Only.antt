-- The one event that may come next, arrivals aside.
use Rattle.std.proofs.Common.{◌≡◌, ℕ, ◌<◌, ◌≤◌, ◌⊎◌, List, [], ◌∷◌, true, false, length, map, refl, sym, ap, ◌∙◌, subst, arith, inl, inr}
use Rattle.std.specs.Prelude.{◌≢◌}
use Rattle.std.proofs.lemmas.Bool.{true≢false, cases_eq, cases_lt}
use Rattle.sloth_base.specs.declared.config.Config.{Config}
use Rattle.sloth_base.specs.declared.app.App.{App}
use Rattle.sloth_base.specs.declared.service.Event.{Event}
use Rattle.sloth_base.specs.declared.service.Event.TheVariants as event
use Rattle.sloth_base.specs.declared.service.Stamped.{Stamped}
use Rattle.osek_scheduler.specs.State.{System, opening}
use Rattle.osek_scheduler.specs.Priority.{rank, IsDue, NoTicks, IsNextTick, IsTop}
use Rattle.osek_scheduler.specs.Steps.{OsekStep}
use Rattle.osek_scheduler.specs.Runs.{AreStepsTo}
use Rattle.osek_scheduler.proofs.Leading.{one_step}
use Rattle.osek_scheduler.specs.Valid.{IsValid}
use Rattle.osek_scheduler.specs.Apart.{TasksAreApart, HasExclusion, static_priority}
use Rattle.osek_scheduler.proofs.Apart.{rank_active, rank_ready, opening_apart}
use Rattle.osek_scheduler.proofs.ApartSteps.{step_apart}
use Rattle.osek_scheduler.proofs.Excluding.{excludes}
use Rattle.osek_scheduler.proofs.Facts.{Facts, facts}
use Rattle.osek_scheduler.proofs.Steps.{step_valid, opening_valid}
use Rattle.osek_scheduler.proofs.Reached.{run_valid}
use Rattle.osek_blocking.specs.NextEvents.{IsNoAdmission, AreOwn, OneNextEvent, OneRun}
use Rattle.osek_blocking.proofs.OfTask.{only, acting, task_settles}

-- ---- one task is due

module _ (config : Config) (app : App) (s : System) (w : Facts config app) (v : IsValid config app s) (x : HasExclusion config s) where
  static_differ : (t u : ℕ) → t < length config.tasks → u < length config.tasks → t ≢ u → static_priority config t ≢ static_priority config u
  static_differ t u lt lu n e = by (cases_lt t u)
    where
      by : (t < u) ⊎ (u ≤ t) → ⊥
      by (inl less) = w.in_range.configuration.priorities_differ t u _ less lu e
      by (inr le) = w.in_range.configuration.priorities_differ u t _ (omega (arith, le, n)) lt (sym e)

  no_two : (t u : ℕ) → IsTop config s [] t → IsTop config s [] u → t ≢ u → ⊥
  no_two t u a b n = by a.due b.due
    where
      same : rank config s t ≡ rank config s u
      same = omega (arith, b.is_greatest t a.declared a.due refl, a.is_greatest u b.declared b.due refl)

      by : IsDue s t → IsDue s u → ⊥
      by (inl p) (inl q) =
          static_differ t u a.declared b.declared n (omega (arith, same, rank_ready config s t p, rank_ready config s u q))
      by (inl p) (inr q) = omega (arith, same, rank_ready config s t p, rank_active config s u q)
      by (inr p) (inl q) = omega (arith, same, rank_active config s t p, rank_ready config s u q)
      by (inr p) (inr q) =
          x.priorities_differ t u (record { first = a.declared; second = b.declared; differ = n }) p q (omega (arith, same, rank_active config s t p, rank_active config s u q))

  one_top : (t u : ℕ) → IsTop config s [] t → IsTop config s [] u → t ≡ u
  one_top t u a b = by (cases_eq t u)
    where
      by : (t ≡ u) ⊎ (t ≡ u → ⊥) → t ≡ u
      by (inl e) = e
      by (inr n) = absurd (no_two t u a b n)

  -- ---- one event

  data Next (e : Event) : Type 0 where
    begins : s.booted ≡ false → e ≡ event.Boot → Next e
    rests : s.booted ≡ true → ((t : ℕ) → t < length config.tasks → ¬ (IsDue s t)) → NoTicks config s → e ≡ event.Idle → Next e
    acts : s.booted ≡ true → (t : ℕ) → IsTop config s [] t → e ≡ only config app s t → Next e
    ticks : s.booted ≡ true → (c : ℕ) → IsNextTick config s c → e ≡ event.Tick c → Next e

  next_of : (e : Event) (after : System) → s.fresh ≡ [] → IsNoAdmission e → OsekStep config app e s after → Next e
  next_of event.Boot after none own h = begins h.0 refl
  next_of event.Idle after none own h = rests h.0 h.1 h.2 refl
  next_of event.Stray after none own h = absurd h
  next_of (event.Due c) after none own h = absurd cc
  next_of (event.Tick c) after none own h = ticks h.0 c h.1 refl
  next_of e after none own h = let a = acting config app s after e none own refl h in acts a.0 a.1.0 a.1.1 a.1.2

  -- where a counter is due, no task runs and the system does not idle
  not_quiet : (c : ℕ) → IsNextTick config s c → NoTicks config s → ⊥
  not_quiet c tick quiet = true≢false (sym tick.due ∙ quiet c tick.declared)

  one_tick : (c d : ℕ) → IsNextTick config s c → IsNextTick config s d → c ≡ d
  one_tick c d a b = by (cases_lt c d) (cases_lt d c)
    where
      by : (c < d) ⊎ (d ≤ c) → (d < c) ⊎ (c ≤ d) → c ≡ d
      by (inl lt) q = absurd (true≢false (sym a.due ∙ b.is_first c lt))
      by (inr le) (inl lt) = absurd (true≢false (sym b.due ∙ a.is_first d lt))
      by (inr le) (inr ge) = omega (arith, le, ge)

  one_of : (e f : Event) → Next e → Next f → e ≡ f
  one_of e f (begins p a) (begins q b) = a ∙ sym b
  one_of e f (begins p a) (rests q n m b) = absurd (true≢false (sym q ∙ p))
  one_of e f (begins p a) (acts q u top b) = absurd (true≢false (sym q ∙ p))
  one_of e f (begins p a) (ticks q c tick b) = absurd (true≢false (sym q ∙ p))
  one_of e f (rests p n o a) (begins q b) = absurd (true≢false (sym p ∙ q))
  one_of e f (rests p n o a) (rests q m x b) = a ∙ sym b
  one_of e f (rests p n o a) (acts q u top b) = absurd (n u top.declared top.due)
  one_of e f (rests p n o a) (ticks q c tick b) = absurd (not_quiet c tick o)
  one_of e f (acts p t top a) (begins q b) = absurd (true≢false (sym p ∙ q))
  one_of e f (acts p t top a) (rests q n o b) = absurd (n t top.declared top.due)
  one_of e f (acts p t top a) (acts q u other b) = a ∙ (ap (only config app s) (one_top t u top other) ∙ sym b)
  one_of e f (acts p t top a) (ticks q c tick b) = absurd (not_quiet c tick top.no_ticks)
  one_of e f (ticks p c tick a) (begins q b) = absurd (true≢false (sym p ∙ q))
  one_of e f (ticks p c tick a) (rests q n o b) = absurd (not_quiet c tick o)
  one_of e f (ticks p c tick a) (acts q u top b) = absurd (not_quiet c tick top.no_ticks)
  one_of e f (ticks p c tick a) (ticks q d other b) = a ∙ (ap event.Tick (one_tick c d tick other) ∙ sym b)

  pub one_event : (e f : Event) (after other : System) → s.fresh ≡ [] → IsNoAdmission e → OsekStep config app e s after → IsNoAdmission f → OsekStep config app f s other → e ≡ f
  one_event e f after other none p a q b = one_of e f (next_of e after none p a) (next_of f other none q b)

-- ---- laws

pub one_next_event : OneNextEvent
one_next_event config app events s e f after other wf leads none p a q b =
    let w = facts config app wf in
    let reached = run_valid config app w events (opening config app) s leads (opening_valid config app) (opening_apart config app) in
    one_event config app s w reached.0 reached.2 e f after other none p a q b

-- an event that is no admission leaves nothing fresh
pub settles : (config : Config) (app : App) (e : Event) (s after : System) → IsNoAdmission e → OsekStep config app e s after → after.fresh ≡ []
settles config app event.Boot s after own h = ap (λ (x : System). x.fresh) h.1
settles config app event.Idle s after own h = ap (λ (x : System). x.fresh) h.3
settles config app event.Stray s after own h = absurd h
settles config app (event.Due c) s after own h = absurd cc
settles config app (event.Tick c) s after own h = ap (λ (x : System). x.fresh) h.2
settles config app e s after own h = task_settles config app s after e own refl h

module _ (config : Config) (app : App) (w : Facts config app) where
  one_after : (e f : Event) (s after other : System) → e ≡ f → OsekStep config app e s after → OsekStep config app f s other → after ≡ other
  one_after e f s after other same a b =
      one_step config app f s after other (subst (λ (x : Event). OsekStep config app x s after) same a) b

  one_from : (events others : List Stamped) (s r end other : System) → s ≡ r → IsValid config app s → TasksAreApart config s → s.fresh ≡ [] → length events ≡ length others
      → AreOwn events → AreStepsTo config app events s end → AreOwn others → AreStepsTo config app others r other
      → (map (λ e. e.event) events ≡ map (λ e. e.event) others) × (end ≡ other)
  one_from [] [] s r end other same v a none long p h q k = (refl, h ∙ (same ∙ sym k))
  one_from [] (f ∷ others) s r end other same v a none long p h q k = absurd (omega (arith, long))
  one_from (e ∷ events) [] s r end other same v a none long p h q k = absurd (omega (arith, long))
  one_from (e ∷ events) (f ∷ others) s r end other same v a none long p h q k =
      let first = subst (λ (y : System). OsekStep config app f.event y k.0) (sym same) k.1 in
      let one = one_event config app s w v (excludes config app s v a) e.event f.event h.0 k.0 none p.0 h.1 q.0 first in
      let rest = one_from events others h.0 k.0 end other (one_after e.event f.event s h.0 k.0 one h.1 first)
      (step_valid config app e.event s h.0 w h.1 v) (step_apart config app e.event s h.0 h.1 v.count a) (settles config app e.event s h.0 p.0 h.1)
      (omega (arith, long)) p.1 h.2 q.1 k.2 in
      (ap (λ (x : Event). x ∷ map (λ (y : Stamped). y.event) events) one ∙ ap (λ (xs : List Event). f.event ∷ xs) rest.0, rest.1)

pub one_run : OneRun
one_run config app events others end other wf long p h q k =
    one_from config app (facts config app wf) events others (opening config app) (opening config app) end other refl
    (opening_valid config app) (opening_apart config app) refl long p h q k
