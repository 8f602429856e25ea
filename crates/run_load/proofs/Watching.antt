-- One event more is watched.
use Rattle.std.proofs.Common.{◌≡◌, ◌∙◌, ◌+◌, ◌-◌, ℕ, Bool, not, cond, List, [], ◌∷◌, ◌++◌, length, Option, Some, None, refl, sym, ap, append_assoc}
use Rattle.std.specs.Prelude.{◌&&◌}
use Rattle.sloth_base.specs.declared.config.Config.{Config}
use Rattle.sloth_base.specs.declared.app.App.{App}
use Rattle.sloth_base.specs.declared.service.Event.{Event}
use Rattle.sloth_base.specs.declared.service.Stamped.{Stamped}
use Rattle.osek_scheduler.specs.InTime.{is_admit}
use Rattle.osek_scheduler.specs.Next.{is_ready, next_state}
use Rattle.osek_scheduler.specs.State.{System, task}
use Rattle.osek_scheduler.specs.Steps.{OsekStep}
use Rattle.osek_scheduler.proofs.Next.{step_of}
use Rattle.osek_machine.specs.Steps.{IsSound}
use Rattle.sim_induction.specs.Spent.{is_running, is_turn}
use Rattle.run_counts.specs.Stages.{Stage, own, state_or, state_behind, end_of, stage, stages}
use Rattle.response_laws.specs.Busy.{is_quiet}
use Rattle.response_laws.specs.Turns.{makes_ready}
use Rattle.run_load.specs.Watched.{Moments, noted, edge, watched, watched_stages}
use Rattle.run_load.specs.declared.watch.Watched.{Watched}

-- where an event may not come, nothing changes
pub stays : (config : Config) (app : App) (what : Event) (s : System) → ((next : System) → OsekStep config app what s next → ⊥) → s ≡ state_behind config app what s
unfolding state_behind
stays config app what s none = by (next_state config app what s) refl
  where
    by : (o : Option System) → next_state config app what s ≡ o → s ≡ state_or s (next_state config app what s)
    by (Some next) e = absurd (none next (step_of config app s next what e))
    by None e = sym (ap (state_or s) e)

-- a system has a task for each declaration
pub counted : (c d : Config) (app : App) (s z : System) → d ≡ c → z ≡ s → IsSound c app s → length z.tasks ≡ length d.tasks
counted c d app s z ec es sound =
    ap (λ (x : System). length x.tasks) es ∙ (sound.valid.count ∙ ap (λ (x : Config). length x.tasks) (sym ec))

-- the own counts of a stage, by what is known of it
pub own-is : (config known : Config) (app : App) (t start : ℕ) (s : System) (e : Stamped) (n : ℕ) (running turn : Bool)
    → n ≡ cond running (cond (is_admit e) 0 (e.stamp.from - start)) 0 + cond turn (cond (is_admit e) 0 (e.stamp.at + 1 - e.stamp.from)) 0
    → running ≡ is_running known s t → known ≡ config → turn ≡ is_turn t e.event → n ≡ own config t (stage config app start s e)
own-is config known app t start s e n running turn is runs same turns =
    let U = cond (is_admit e) 0 (e.stamp.from - start) in
    let S = cond (is_admit e) 0 (e.stamp.at + 1 - e.stamp.from) in
    is ∙ (ap (λ b. cond b U 0 + cond turn S 0) (runs ∙ ap (λ (c : Config). is_running c s t) same)
    ∙ ap (λ b. cond (is_running config s t) U 0 + cond b S 0) turns)

pub made-is : (config known : Config) (app : App) (t start : ℕ) (s next : System) (e : Stamped) (made ready : Bool) → made ≡ (not ready && is_ready (task next t).state)
    → ready ≡ is_ready (task s t).state → next ≡ state_behind known app e.event s → known ≡ config → made ≡ makes_ready t (stage config app start s e)
made-is config known app t start s next e made ready is before leads same =
    is ∙ (ap (λ b. not b && is_ready (task next t).state) before
    ∙ ap (λ (x : System). not (is_ready (task s t).state) && is_ready (task x t).state) (leads ∙ ap (λ (c : Config). state_behind c app e.event s) same))

pub quiet-is : (config known : Config) (t : ℕ) (s : System) (quiet : Bool) → quiet ≡ is_quiet known t s → known ≡ config → quiet ≡ is_quiet config t s
quiet-is config known t s quiet is same = is ∙ ap (λ (c : Config). is_quiet c t s) same

-- what is seen of a stage
pub seen-is : (config : Config) (t : ℕ) (moments : Moments) (x : Stage) (n : ℕ) (made quiet : Bool) (m : ℕ) → n ≡ own config t x → made ≡ makes_ready t x
    → quiet ≡ is_quiet config t x.found → m ≡ edge x.stamped.event x.stamped.stamp.at moments
    → record { event = x.stamped; own = n; made = made; quiet = quiet; edge = m } ≡ watched config t moments x
seen-is config t moments x n made quiet m own_is made_is quiet_is edge_is =
    let A : ℕ → Watched = λ k. record { event = x.stamped; own = k; made = made; quiet = quiet; edge = m } in
    let B : Bool → Watched = λ b. record { event = x.stamped; own = own config t x; made = b; quiet = quiet; edge = m } in
    let C : Bool → Watched = λ b. record { event = x.stamped; own = own config t x; made = makes_ready t x; quiet = b; edge = m } in
    let D : ℕ → Watched = λ k. record { event = x.stamped; own = own config t x; made = makes_ready t x; quiet = is_quiet config t x.found; edge = k } in
    ap A own_is ∙ (ap B made_is ∙ (ap C quiet_is ∙ ap D edge_is))

-- one event more
pub watched-more : (config : Config) (app : App) (t start later : ℕ) (moments behind_moments : Moments) (s next : System) (e : Stamped) (rest behind : List Stamped)
    (seen : Watched) (w more all : List Watched) → rest ≡ e ∷ behind → seen ≡ watched config t moments (stage config app start s e)
    → later ≡ end_of (stage config app start s e) → next ≡ state_behind config app e.event s → behind_moments ≡ noted e.event e.stamp.at moments
    → w ++ watched_stages config t moments (stages config app start s rest) ≡ all → more ≡ w ++ seen ∷ []
    → more ++ watched_stages config t behind_moments (stages config app later next behind) ≡ all
watched-more config app t start later moments behind_moments s next e rest behind seen w more all head is ends leads notes so_far added =
    let x : Stage = stage config app start s e in
    let tail : List Watched = watched_stages config t behind_moments (stages config app later next behind) in
    let T : ℕ → System → Moments → List Watched = λ k z m. watched_stages config t m (stages config app k z behind) in
    let tails : tail ≡ T (end_of x) (state_behind config app e.event s) (noted e.event e.stamp.at moments) =
    ap (λ k. T k next behind_moments) ends ∙ (ap (λ z. T (end_of x) z behind_moments) leads ∙ ap (λ m. T (end_of x) (state_behind config app e.event s) m) notes) in
    ap (λ l. l ++ tail) added ∙ (append_assoc w (seen ∷ []) tail
    ∙ (ap (λ y. w ++ y ∷ tail) is ∙ (ap (λ l. w ++ watched config t moments x ∷ l) tails
    ∙ (ap (λ es. w ++ watched_stages config t moments (stages config app start s es)) (sym head) ∙ so_far))))
