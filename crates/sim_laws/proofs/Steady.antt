-- With well-formed task code each event keeps a system valid; what follows from that for the routines.
use Rattle.std.proofs.Common.{◌≡◌, ℕ, ◌<◌, List, [], ◌++◌, length, refl, sym, ap, ◌∙◌, subst, true, false, inl, inr}
use Rattle.std.specs.Prelude.{◌⊎◌, get_or, not, ◌&&◌}
use Rattle.code_rules.specs.Code.{IsEnding, IsPausing}
use Rattle.std.proofs.Math.ListN.{get_or-map}
use Rattle.std.proofs.Math.Bool.{and-true}
use Rattle.sloth_base.specs.declared.config.Config.{Config}
use Rattle.sloth_base.specs.declared.app.App.{App}
use Rattle.sloth_base.specs.declared.app.Call.{Call}
use Rattle.sloth_base.specs.declared.app.Op.TheVariants as op
use Rattle.sloth_base.specs.declared.app.Symbol.{Symbol}
use Rattle.sloth_base.specs.declared.service.Event.{Event}
use Rattle.sloth_base.specs.Named.{no_symbol}
use Rattle.code_rules.specs.WellFormed.{WellFormed, held_list_before}
use Rattle.osek_scheduler.specs.declared.state.TaskState.TheVariants as mode
use Rattle.osek_scheduler.specs.State.{Frame, System, task, opening}
use Rattle.sloth_base.specs.Named.{declaration}
use Rattle.osek_scheduler.specs.Steps.{IsAt, OsekStep}
use Rattle.osek_scheduler.specs.Valid.{IsValid, InState, held_by}
use Rattle.osek_scheduler.proofs.Apart.{opening_apart}
use Rattle.osek_scheduler.proofs.ApartSteps.{step_apart}
use Rattle.osek_scheduler.proofs.Facts.{Facts, facts}
use Rattle.osek_scheduler.proofs.Going.{running}
use Rattle.shared_stacks.proofs.Owing.{step_owes, opening_owes}
use Rattle.osek_scheduler.proofs.Stacks.{in_body_alone, outer_free}
use Rattle.osek_scheduler.proofs.Steps.{opening_valid, step_valid}
use Rattle.sim_items.specs.Place.{HasSymbolSizes}
use Rattle.sim_laws.specs.Steady.{IsSteady}

clash : {X : Type 0} → true ≡ false → X
clash e = cc

-- ---- what a valid system has

-- the symbols have their bytes
pub valid_sizes : (config : Config) (app : App) (s : System) → IsValid config app s → HasSymbolSizes app s.symbols
valid_sizes config app s v y =
    sym (get_or-map length s.symbols y []) ∙ ap (λ (l : List ℕ). get_or l y 0) v.sizes ∙ get_or-map (λ (x : Symbol). length x.bytes) app.symbols y no_symbol

-- a task that ends holds nothing
pub ends_free : (config : Config) (app : App) → Facts config app → (s : System) (t : ℕ) (call : Call) → IsValid config app s → t < length config.tasks → IsAt app s t (op.Serve call)
    → IsEnding call.service → (task s t).held ≡ []
ends_free config app w s t call v declared at e =
    let r = running config app s t (op.Serve call) v declared at in
    let frame = at.frame in
    let body = w.ends_in_task frame.func frame.item call.object call.mask call.service r.item e in
    r.held
    ∙ ap (λ (o : List Frame). held_by app o ++ held_list_before app frame.func frame.item) (in_body_alone config app w t frame.func at.outer r.called body.0 body.1)
    ∙ w.serves_free frame.func frame.item call.object call.mask call.service r.item (inl e)

-- nor does one that gives way
pub pauses_free : (config : Config) (app : App) → Facts config app → (s : System) (t : ℕ) (call : Call) → IsValid config app s → t < length config.tasks → IsAt app s t (op.Serve call)
    → IsPausing call.service → (task s t).held ≡ []
pauses_free config app w s t call v declared at e =
    let r = running config app s t (op.Serve call) v declared at in
    let frame = at.frame in
    r.held
    ∙ ap (λ l. l ++ held_list_before app frame.func frame.item)
    (outer_free config app w t frame.func frame.func frame.item call.object call.mask call.service at.outer r.called (inl refl) r.item e)
    ∙ w.serves_free frame.func frame.item call.object call.mask call.service r.item (inr e)

-- a task that runs and owes nothing has its internal resource where its scheduling is NON
pub has_internal : (config : Config) (app : App) (s : System) (t : ℕ) (call : Call) → IsValid config app s → t < length config.tasks → IsAt app s t (op.Serve call)
    → (task s t).raised ≡ (declaration config t).non
has_internal config app s t call v declared at =
    let r = running config app s t (op.Serve call) v declared at in
    r.raised ∙ ap (λ x. (declaration config t).non && not x) at.free ∙ and-true (declaration config t).non

-- a basic task that is Ready has no frames: it starts anew
pub basic_anew : (config : Config) (app : App) (s : System) (t : ℕ) → IsValid config app s → t < length config.tasks → (task s t).state ≡ mode.Ready
    → (declaration config t).extended ≡ false → (task s t).frames ≡ []
basic_anew config app s t v declared ready basic = by (subst (InState config t (task s t)) ready (v.each t declared).in_state).1
  where
    by : ((task s t).frames ≡ []) ⊎ ((declaration config t).extended ≡ true) → (task s t).frames ≡ []
    by (inl none) = none
    by (inr extended) = clash (sym extended ∙ basic)

-- ---- each step

-- each event keeps a steady system steady
pub steady_stays : (config : Config) (app : App) → WellFormed config app → (what : Event) (s next : System) → OsekStep config app what s next
    → IsSteady config app s → IsSteady config app next
steady_stays config app well what s next h k = record {
  valid = step_valid config app what s next (facts config app well) h k.valid;
  apart = step_apart config app what s next h k.valid.count k.apart;
  owing = step_owes app config (facts config app well) what s next h k.valid k.owing;
}

-- the system at the start is steady
pub opening_steady : (config : Config) (app : App) → WellFormed config app → IsSteady config app (opening config app)
opening_steady config app well = record {
  valid = opening_valid config app;
  apart = opening_apart config app;
  owing = opening_owes app config (facts config app well);
}
