-- The computed step is the relation, for the events of tasks.
use Rattle.std.proofs.Common.{◌≡◌, ℕ, ◌==◌, ◌&&◌, List, [], ◌∷◌, true, false, not, ltb, length, Option, Some, is_some, refl, sym, ◌∙◌, ap, subst}
use Rattle.std.proofs.lemmas.Bool.{and_parts, and_from, not-true, not_from_false, eqb-true, eq-eqb, false≢true}
use Rattle.std.proofs.lemmas.Bool.Decides.{Decides-ltb}
use Rattle.sloth_base.specs.ServiceCodes.{code_of}
use Rattle.sloth_base.specs.Events.{named_task}
use Rattle.sloth_base.specs.declared.config.Config.{Config}
use Rattle.sloth_base.specs.declared.app.App.{App}
use Rattle.sloth_base.specs.declared.app.Call.{Call}
use Rattle.sloth_base.specs.declared.app.Op.{Op}
use Rattle.sloth_base.specs.declared.app.Op.TheVariants as op
use Rattle.sloth_base.specs.declared.service.Event.{Event}
use Rattle.sloth_base.specs.declared.service.Event.TheVariants as event
use Rattle.sloth_base.specs.declared.service.Service.{Service}
use Rattle.osek_scheduler.specs.declared.state.TaskState.TheVariants as mode
use Rattle.osek_scheduler.specs.State.{Frame, Task, System, task}
use Rattle.sloth_base.specs.Named.{body_of, function}
use Rattle.sloth_base.proofs.Services.{same_code}
use Rattle.osek_scheduler.specs.Priority.{is_active}
use Rattle.osek_scheduler.specs.Meaning.{meaning, on_some}
use Rattle.osek_scheduler.specs.Services.{is_there, ServiceOutcome, GoesOn, Leaves}
use Rattle.osek_scheduler.specs.Outcomes.{outcome}
use Rattle.osek_scheduler.specs.Steps.{settled_state, IsAt, IsItemStep, IsServiceStep, OsekStep}
use Rattle.osek_scheduler.specs.Next.{is_top, operation_of, operation_at, meaning_of, is_position, served_outcome, going_on_system, left_state, executed_state, answer_to, next_state}
use Rattle.osek_scheduler.proofs.Tests.{Decides-is_ready, Decides-is_active, Decides-is_top, some_one, if_true_some, if_true_is, on_some_from, on_some_is}
use Rattle.osek_scheduler.proofs.Guards.{Decides-itself, Finds, by_two, by_four}

-- ---- where a task runs

pub at_of : (app : App) (s : System) (t : ℕ) (operation : Op) → operation_at app (task s t) ≡ Some operation → IsAt app s t operation
at_of app s t operation e =
    let runs = if_true_some (is_active (task s t).state && not (task s t).owed) (operation_of app (task s t).frames) operation e in
    let both = and_parts _ _ runs.0 in
    of_frames (task s t).frames refl ((Decides-is_active (task s t).state).0 both.0) (not-true _ both.1) runs.1
  where
    of_frames : (frames : List Frame) → (task s t).frames ≡ frames → (task s t).state ≡ mode.Active → (task s t).owed ≡ false
        → operation_of app frames ≡ Some operation → IsAt app s t operation
    of_frames [] is active free h = absurd cc
    of_frames (frame ∷ outer) is active free h =
        let next = if_true_some (ltb frame.item (length (function app frame.func).items)) _ operation h in
        record {
          active = active;
          free = free;
          frame = frame;
          outer = outer;
          frames = is;
          inside = (Decides-ltb frame.item (length (function app frame.func).items)).0 next.0;
          next = some_one _ _ next.1;
        }

pub at_is : (app : App) (s : System) (t : ℕ) (operation : Op) → IsAt app s t operation → operation_at app (task s t) ≡ Some operation
at_is app s t operation at =
    if_true_is _ _ operation
    (and_from _ _ ((Decides-is_active (task s t).state).1 at.active) (not_from_false _ at.free))
    (of_frames (task s t).frames at.frames)
  where
    of_frames : (frames : List Frame) → frames ≡ at.frame ∷ at.outer → operation_of app frames ≡ Some operation
    of_frames frames is =
        let Q : List Frame → Type 0 = λ fs. operation_of app fs ≡ Some operation in
        subst Q (sym is)
        (if_true_is _ _ operation ((Decides-ltb at.frame.item (length (function app at.frame.func).items)).1 at.inside) (ap Some at.next))

-- ---- services

-- the call that a served operation is
record IsCall (config : Config) (s : Service) (caller : ℕ) (before : System) (operation : Op) (answer : ServiceOutcome) : Type 0 where
  call : Call
  serve : operation ≡ op.Serve call
  same : call.service ≡ s
  names : is_there config (task before caller).held s call.object ≡ true
  is : outcome config s call.object call.mask caller before ≡ answer

call_of : (config : Config) (s : Service) (caller : ℕ) (before : System) (operation : Op) (answer : ServiceOutcome) → served_outcome config s caller before operation ≡ Some answer
    → IsCall config s caller before operation answer
call_of config s caller before (op.Serve call) answer e =
    let h = if_true_some ((code_of call.service == code_of s) && is_there config (task before caller).held s call.object) _ answer e in
    let both = and_parts _ _ h.0 in
    record { call = call; serve = refl; same = same_code call.service s (eqb-true _ _ both.0); names = both.1; is = some_one _ _ h.1 }
call_of config s caller before (op.Alu k a b c) answer e = absurd cc
call_of config s caller before (op.AluImm k a b c) answer e = absurd cc
call_of config s caller before (op.Lui a b) answer e = absurd cc
call_of config s caller before (op.Li a b) answer e = absurd cc
call_of config s caller before (op.FrameLoad a b) answer e = absurd cc
call_of config s caller before (op.FrameStore a b) answer e = absurd cc
call_of config s caller before (op.Load w a b c) answer e = absurd cc
call_of config s caller before (op.Store w a b c) answer e = absurd cc
call_of config s caller before (op.LoadAt w a b c d) answer e = absurd cc
call_of config s caller before (op.StoreAt w a b c d) answer e = absurd cc
call_of config s caller before (op.Branch k a b c) answer e = absurd cc
call_of config s caller before (op.Jump a) answer e = absurd cc
call_of config s caller before (op.Invoke a) answer e = absurd cc
call_of config s caller before op.Return answer e = absurd cc

served_is : (config : Config) (s : Service) (caller : ℕ) (before : System) (call : Call) (answer : ServiceOutcome) → call.service ≡ s
    → is_there config (task before caller).held s call.object ≡ true → outcome config s call.object call.mask caller before ≡ answer
    → served_outcome config s caller before (op.Serve call) ≡ Some answer
served_is config s caller before call answer same names is = if_true_is _ _ answer (and_from _ _ (eq-eqb _ _ (ap code_of same)) names) (ap Some is)

module _ (config : Config) (app : App) where
  pub serves_of : (t : ℕ) (s : Service) (before : System) (answer : ServiceOutcome) → answer_to config app t s before ≡ Some answer
      → (before.booted ≡ true) × IsServiceStep config app t s before answer
  serves_of t s before answer e =
      let top = if_true_some (before.booted && is_top config before before.fresh t) _ answer e in
      let both = and_parts _ _ top.0 in
      let found = on_some_from (operation_at app (task before t)) (served_outcome config s t before) answer top.1 in
      let call = call_of config s t before found.0 answer found.2 in
      let P : Op → Type 0 = λ o. operation_at app (task before t) ≡ Some o in (
        both.0,
        record {
          top = (Decides-is_top config before before.fresh t).0 both.1;
          call = call.call;
          at = at_of app before t (op.Serve call.call) (subst P call.serve found.1);
          same = call.same;
          names = call.names;
          is = call.is;
        },
      )

  pub serves_is : (t : ℕ) (s : Service) (before : System) (answer : ServiceOutcome) → before.booted ≡ true → IsServiceStep config app t s before answer
      → answer_to config app t s before ≡ Some answer
  serves_is t s before answer booted h =
      if_true_is _ _ answer (and_from _ _ booted ((Decides-is_top config before before.fresh t).1 h.top))
      (on_some_is _ (served_outcome config s t before) (op.Serve h.call) (Some answer) (at_is app before t (op.Serve h.call) h.at)
      (served_is config s t before h.call answer h.same h.names h.is))

-- ---- items

module _ (app : App) (func item : ℕ) where
  positions : (frames : List Frame) (frame : Frame) (outer : List Frame) → frames ≡ frame ∷ outer → is_position func item frames ≡ true
      → (frame.func ≡ func) × (frame.item ≡ item)
  positions frames frame outer is e =
      let P : List Frame → Type 0 = λ fs. is_position func item fs ≡ true in
      let both = and_parts _ _ (subst P is e) in
      (eqb-true _ _ both.0, eqb-true _ _ both.1)

  is_at_position : (frames : List Frame) (frame : Frame) (outer : List Frame) → frames ≡ frame ∷ outer → frame.func ≡ func → frame.item ≡ item
      → is_position func item frames ≡ true
  is_at_position frames frame outer is f i =
      let P : List Frame → Type 0 = λ fs. is_position func item fs ≡ true in
      subst P (sym is) (and_from _ _ (eq-eqb _ _ f) (eq-eqb _ _ i))

meaning_is : (app : App) (operation : Op) (t : Task) (s : System) (frames : List Frame) (frame : Frame) (outer : List Frame) → frames ≡ frame ∷ outer
    → meaning_of app operation t frames s ≡ meaning app operation t.registers frame outer s.symbols
meaning_is app operation t s frames frame outer is = ap (λ fs. meaning_of app operation t fs s) is

module _ (config : Config) (app : App) (t func item result : ℕ) (s next : System) where
  abbrev ran : Option System
  ran = on_some (operation_at app (task s t)) (λ o. on_some (meaning_of app o (task s t) (task s t).frames s) (executed_state t result s))

  pub executes_of : is_top config s [] t ≡ true → is_position func item (task s t).frames ≡ true → ran ≡ Some next → IsItemStep config app t func item result s next
  executes_of top here e =
      let found = on_some_from (operation_at app (task s t)) (λ o. on_some (meaning_of app o (task s t) (task s t).frames s) (executed_state t result s)) next e in
      let at = at_of app s t found.0 found.1 in
      let meant = on_some_from (meaning_of app found.0 (task s t) (task s t).frames s) (executed_state t result s) next found.2 in
      let place = positions app func item (task s t).frames at.frame at.outer at.frames here in
      let shown = if_true_some (meant.0.result == result) _ next meant.2 in
      record {
        top = (Decides-is_top config s [] t).0 top;
        operation = found.0;
        at = at;
        in_function = place.0;
        at_item = place.1;
        meant = meant.0;
        means = sym (meaning_is app found.0 (task s t) s (task s t).frames at.frame at.outer at.frames) ∙ meant.1;
        shows = eqb-true _ _ shown.0;
        is = sym (some_one _ _ shown.1);
      }

  pub executes_is : IsItemStep config app t func item result s next
      → (is_top config s [] t ≡ true) × (is_position func item (task s t).frames ≡ true) × (ran ≡ Some next)
  executes_is h = (
    (Decides-is_top config s [] t).1 h.top,
    is_at_position app func item (task s t).frames h.at.frame h.at.outer h.at.frames h.in_function h.at_item,
    on_some_is _ (λ o. on_some (meaning_of app o (task s t) (task s t).frames s) (executed_state t result s)) h.operation (Some next) (at_is app s t h.operation h.at)
        (on_some_is _ (executed_state t result s) h.meant (Some next)
        (meaning_is app h.operation (task s t) s (task s t).frames h.at.frame h.at.outer h.at.frames ∙ h.means)
        (if_true_is _ _ next (eq-eqb _ _ h.shows) (ap Some (sym h.is)))),
  )

-- ---- events of tasks

module _ (config : Config) (app : App) (s next : System) where
  goes_on_from : (status : ℕ) (answer : ServiceOutcome) → going_on_system status answer ≡ Some next → (after : System) × (answer ≡ GoesOn status after) × (next ≡ settled_state after)
  goes_on_from status (GoesOn given after) e =
      let h = if_true_some (given == status) _ next e in
      (after, ap (λ v. GoesOn v after) (eqb-true _ _ h.0), sym (some_one _ _ h.1))
  goes_on_from status (Leaves after) e = absurd cc

  leaves_from : (answer : ServiceOutcome) → left_state answer ≡ Some next → (after : System) × (answer ≡ Leaves after) × (next ≡ settled_state after)
  leaves_from (GoesOn given after) e = absurd cc
  leaves_from (Leaves after) e = (after, refl, sym (some_one _ _ e))

  pub task_finds : (e : Event) → is_some (named_task e) ≡ true → Finds next (next_state config app e s) (OsekStep config app e s next)
  task_finds (event.Admit t) known = by_two (Decides-itself s.booted) (Decides-ltb t (length config.tasks))
  task_finds (event.Enter t) known =
      by_four (Decides-itself s.booted) (Decides-is_top config s [] t) (Decides-is_ready (task s t).state) (Decides-ltb (body_of app.funcs t) (length app.funcs))
  task_finds (event.Run t func item result) known = (
    λ h.
        let b = if_true_some (s.booted && (is_top config s [] t && is_position func item (task s t).frames)) _ next h in
        let both = and_parts _ _ b.0 in
        let two = and_parts _ _ both.1 in
        (both.0, executes_of config app t func item result s next two.0 two.1 b.1),
    λ h. let e = executes_is config app t func item result s next h.1 in if_true_is _ _ next (and_from _ _ h.0 (and_from _ _ e.0 e.1)) e.2,
  )
  task_finds (event.Call t served status) known = (
    λ h.
        let a = on_some_from (answer_to config app t served s) (going_on_system status) next h in
        let g = goes_on_from status a.0 a.2 in
        let serves = serves_of config app t served s (GoesOn status g.0) (a.1 ∙ ap Some g.1) in
        (serves.0, (g.0, serves.1, g.2)),
    λ h.
        on_some_is _ (going_on_system status) (GoesOn status h.1.0) (Some next) (serves_is config app t served s (GoesOn status h.1.0) h.0 h.1.1)
        (if_true_is _ _ next (eq-eqb _ _ refl) (ap Some (sym h.1.2))),
  )
  task_finds (event.Left t served) known = (
    λ h.
        let a = on_some_from (answer_to config app t served s) left_state next h in
        let g = leaves_from a.0 a.2 in
        let serves = serves_of config app t served s (Leaves g.0) (a.1 ∙ ap Some g.1) in
        (serves.0, (g.0, serves.1, g.2)),
    λ h. on_some_is _ left_state (Leaves h.1.0) (Some next) (serves_is config app t served s (Leaves h.1.0) h.0 h.1.1) (ap Some (sym h.1.2)),
  )
  task_finds (event.Back t) known =
      by_four (Decides-itself s.booted) (Decides-is_top config s [] t) (Decides-is_active (task s t).state) (Decides-itself (task s t).owed)
  task_finds e known = absurd (false≢true known)
