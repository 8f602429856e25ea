-- What the events of a run ask for, one after the other.
use Rattle.std.proofs.Common.{◌≡◌, ◌∙◌, ◌≤◌, ◌+◌, ℕ, List, [], ◌∷◌, ◌++◌, None, length, false, true, refl, sym, ap, subst, arith, append_assoc, append-nil}
use Rattle.std.proofs.lemmas.List.{get_or_past, length-append}
use Rattle.std.proofs.lemmas.List.Elements.{filter-append}
use Rattle.sloth_base.specs.declared.app.App.{App}
use Rattle.sloth_base.specs.declared.config.Config.{Config}
use Rattle.sloth_base.specs.declared.service.Stamped.{Stamped}
use Rattle.osek_machine.specs.Steps.{Machine}
use Rattle.osek_scheduler.proofs.Leading.{follows_leads, one_step}
use Rattle.osek_scheduler.specs.Runs.{AreStepsTo, OsekRun}
use Rattle.osek_scheduler.specs.Services.{if_suspended}
use Rattle.osek_scheduler.specs.State.{System, Task, opening, sleeping_task, task}
use Rattle.osek_scheduler.specs.Steps.{OsekStep}
use Rattle.losses_text.specs.NothingLost.{RunsHaveRequests}
use Rattle.losses_text.specs.RequestCounts.{is_lost_of, lost_count}
use Rattle.losses_text.specs.Requests.{AreRequests, event_requests, is_busy, next_call}
use Rattle.losses_text.specs.declared.requests.Request.{Request}

-- ---- tasks that are not there

pub rests_beyond : (s : System) (t : ℕ) → length s.tasks ≤ t → is_busy s t ≡ false
rests_beyond s t past = ap (λ (k : Task). if_suspended k.state false true) (get_or_past s.tasks t sleeping_task past)

pub calls_none_beyond : (app : App) (s : System) (t : ℕ) → length s.tasks ≤ t → next_call app (task s t) ≡ None
calls_none_beyond app s t past = ap (λ (k : Task). next_call app k) (get_or_past s.tasks t sleeping_task past)

-- ---- on the way

-- some events in front asked for this, and the others lead on
pub record IsAlong (config : Config) (app : App) (events rest : List Stamped) (machine : Machine) (asked : List Request) : Type 0 where
  pub config_is : machine.config ≡ config
  pub app_is : machine.app ≡ app
  pub last : System
  pub leads : AreStepsTo config app rest machine.system last
  pub adds : (all : List Request) → AreRequests config app rest machine.system all → AreRequests config app events (opening config app) (asked ++ all)

module _ (config : Config) (app : App) (events : List Stamped) where
  pub along_none : (machine : Machine) → machine ≡ record { config = config; app = app; system = opening config app } → OsekRun config app events
      → IsAlong config app events events machine []
  along_none machine is run =
      let P : Machine → Type 0 = λ m. IsAlong config app events events m [] in
      let leads = follows_leads config app [] (opening config app) events run.0 run.1 in
      subst P (sym is) (record { config_is = refl; app_is = refl; last = run.0; leads = leads; adds = λ all h. h })

  -- all lead on to this one
  pub along_end : (rest : List Stamped) (machine : Machine) (asked : List Request) → IsAlong config app events rest machine asked → rest ≡ []
      → AreRequests config app events (opening config app) asked
  along_end rest machine asked h none =
      let R : List Stamped → Type 0 = λ l. AreRequests config app l machine.system [] in
      subst (λ (l : List Request). AreRequests config app events (opening config app) l) (append-nil asked) (h.adds [] (subst R (sym none) refl))

  module _ (rest behind : List Stamped) (e : Stamped) (old : Machine) (asked : List Request) (h : IsAlong config app events rest old asked) (is : rest ≡ e ∷ behind) where
    led : AreStepsTo config app (e ∷ behind) old.system h.last
    led = let R : List Stamped → Type 0 = λ l. AreStepsTo config app l old.system h.last in subst R is h.leads

    abbrev Step : System → Config → App → Type 0
    Step next c a = OsekStep c a e.event old.system next

    -- the next event is a step
    pub along_steps : ((next : System) → OsekStep old.config old.app e.event old.system next → ⊥) → ⊥
    along_steps none =
        none led.0 (subst (λ (a : App). Step led.0 old.config a) (sym h.app_is) (subst (λ (c : Config). Step led.0 c app) (sym h.config_is) led.1))

    pub along_more : (new : Machine) (more : List Request) → new.config ≡ old.config → new.app ≡ old.app → OsekStep old.config old.app e.event old.system new.system
        → more ≡ asked ++ event_requests old.config old.app e old.system → IsAlong config app events behind new more
    along_more new more same_config same_app stepped asks =
        let step : OsekStep config app e.event old.system new.system =
        subst (λ (a : App). Step new.system config a) h.app_is (subst (λ (c : Config). Step new.system c old.app) h.config_is stepped) in
        let one = event_requests config app e old.system in
        let all_of : event_requests old.config old.app e old.system ≡ one =
        ap (λ (c : Config). event_requests c old.app e old.system) h.config_is ∙ ap (λ (a : App). event_requests config a e old.system) h.app_is in
        let L : System → Type 0 = λ x. AreStepsTo config app behind x h.last in
        record {
          config_is = same_config ∙ h.config_is;
          app_is = same_app ∙ h.app_is;
          last = h.last;
          leads = subst L (one_step config app e.event old.system led.0 new.system led.1 step) led.2;
          adds = λ all r.
              let G : List Stamped → Type 0 = λ l. AreRequests config app l old.system (one ++ all) in
              let A : List Request → Type 0 = λ l. AreRequests config app events (opening config app) l in
              let joined : asked ++ (one ++ all) ≡ more ++ all =
              sym (append_assoc asked one all) ∙ ap (λ l. l ++ all) (sym (asks ∙ ap (λ l. asked ++ l) all_of)) in
              subst A joined (h.adds (one ++ all) (subst G (sym is) (new.system, step, (all, r, refl))));
        }

-- ---- laws

module _ (config : Config) (app : App) where
  all_asked : (events : List Stamped) (s z : System) → AreStepsTo config app events s z → (all : List Request) × AreRequests config app events s all
  all_asked [] s z h = ([], refl)
  all_asked (e ∷ events) s z h =
      let rest = all_asked events h.0 z h.2 in
      (event_requests config app e s ++ rest.0, (h.0, h.1, (rest.0, rest.1, refl)))

  pub one_list : (events : List Stamped) (s : System) (xs ys : List Request) → AreRequests config app events s xs → AreRequests config app events s ys → xs ≡ ys
  one_list [] s xs ys h k = h ∙ sym k
  one_list (e ∷ events) s xs ys h k =
      let same = one_step config app e.event s h.0 k.0 h.1 k.1 in
      let R : System → Type 0 = λ x. AreRequests config app events x h.2.0 in
      let rest = one_list events k.0 h.2.0 k.2.0 (subst R same h.2.1) k.2.1 in
      h.2.2 ∙ ap (λ l. event_requests config app e s ++ l) rest ∙ sym k.2.2

  module _ (line : ℕ) where
    lost_in_both : (xs ys : List Request) → lost_count (xs ++ ys) line ≡ lost_count xs line + lost_count ys line
    lost_in_both xs ys = ap (λ (l : List Request). length l) (filter-append (is_lost_of line) xs ys) ∙ length-append _ _

    none_from : (before behind : List Stamped) (e : Stamped) (s x : System) (all : List Request) → AreRequests config app (before ++ e ∷ behind) s all
        → AreStepsTo config app before s x → lost_count all line ≡ 0 → lost_count (event_requests config app e x) line ≡ 0
    none_from [] behind e s x all h k none =
        let parts = lost_in_both (event_requests config app e s) h.2.0 in
        let is = ap (λ (l : List Request). lost_count l line) h.2.2 in
        let nothing : lost_count (event_requests config app e s) line ≡ 0 = omega (arith, parts, is, none) in
        ap (λ (y : System). lost_count (event_requests config app e y) line) k ∙ nothing
    none_from (d ∷ before) behind e s x all h k none =
        let parts = lost_in_both (event_requests config app d s) h.2.0 in
        let is = ap (λ (l : List Request). lost_count l line) h.2.2 in
        let L : System → Type 0 = λ y. AreStepsTo config app before y x in
        none_from before behind e h.0 x h.2.0 h.2.1 (subst L (one_step config app d.event s k.0 h.0 k.1 h.1) k.2) (omega (arith, parts, is, none))

pub runs_have_requests : RunsHaveRequests
runs_have_requests config app events run =
    let found = all_asked config app events (opening config app) run.0 (follows_leads config app [] (opening config app) events run.0 run.1) in
    record {
      all = found.0;
      are = found.1;
      only = λ other h. one_list config app events (opening config app) other found.0 h found.1;
      none_lost = λ line none before behind e s is leads.
          let R : List Stamped → Type 0 = λ l. AreRequests config app l (opening config app) found.0 in
          none_from config app line before behind e (opening config app) s found.0 (subst R is found.1) leads none;
    }
