-- An event of a task takes it one step on in a walk.
use Rattle.std.proofs.Common.{◌≡◌, ℕ, ◌+◌, List, [], ◌∷◌, Bool, true, false, not, cond, ltb, length, get_or, set, refl, sym, ap, ◌∙◌, subst, inl, inr, Some}
use Rattle.std.specs.Prelude.{◌≢◌}
use Rattle.std.proofs.lemmas.Bool.{true≢false}
use Rattle.std.proofs.lemmas.Option.{get_or_from_slice_get}
use Rattle.sloth_base.specs.Arithmetic.{branch_holds}
use Rattle.sloth_base.specs.declared.app.App.{App}
use Rattle.sloth_base.specs.declared.app.Call.{Call}
use Rattle.sloth_base.specs.declared.app.Op.{Op}
use Rattle.sloth_base.specs.declared.app.Op.TheVariants as op
use Rattle.sloth_base.specs.declared.app.Width.{Width}
use Rattle.sloth_base.specs.declared.service.Service.{Service}
use Rattle.sloth_base.specs.declared.service.Service.TheVariants as service
use Rattle.sloth_base.specs.Named.{function, operation, no_label}
use Rattle.sloth_base.proofs.Services.{same_service}
use Rattle.code_rules.specs.Code.{IsItem, is_followed, way, ends_for_good}
use Rattle.osek_scheduler.specs.State.{Frame}
use Rattle.osek_scheduler.specs.Meaning.{ItemMeaning, meaning, execution, write_meaning, load_meaning, store_meaning, jump_meaning, accessed_bytes, bytes_after_store, register, going_on_frame, target, on_some, returned_frames, loaded_word}
use Rattle.osek_scheduler.proofs.Tests.{some_one, if_true_some, on_some_from}
use Rattle.osek_blocking.specs.Walks.{Position, place, chains_itself, GoesBack, GoesOnInside, LeadsTo, IsPositionStep}
use Rattle.osek_blocking.specs.Sections.{operation_at, is_schedule, is_counted}

-- where the functions in progress of a task stand
abbrev pub position_of : List Frame → Position
position_of [] = []
position_of (frame ∷ outer) = place frame.func frame.item ∷ position_of outer

-- one step on, from a position that counts; it is a Schedule only if this holds
pub record StepsOn (app : App) (old new : List Frame) (Schedules : Type 0) : Type 0 where
  pub walks : IsPositionStep app (position_of old) (position_of new)
  pub counts : is_counted (operation_at app (position_of old)) ≡ true
  pub schedules : is_schedule (operation_at app (position_of old)) ≡ true → Schedules

module _ (app : App) (x : List ℕ) (frame : Frame) (outer : List Frame) (symbols : List (List ℕ)) where
  abbrev Leads : Op → List Frame → Type 0
  Leads o frames = LeadsTo app o frame.func frame.item (position_of outer) (position_of frames)

  -- the next item
  abbrev Inside : List Frame → Type 0
  Inside frames = GoesOnInside app frame.func frame.item (position_of outer) (position_of frames)

  next : (o : Op) → operation app frame.func frame.item ≡ o → is_followed o ≡ true → chains_itself (function app frame.func) o ≡ false
      → Inside (going_on_frame frame ∷ outer)
  next o is goes free = (frame.item + 1, inl (ap is_followed is ∙ goes, refl), ap (chains_itself (function app frame.func)) is ∙ free, refl)

  jump : (o : Op) (k item : ℕ) → operation app frame.func frame.item ≡ o → way o ≡ Some k → chains_itself (function app frame.func) o ≡ false
      → target app frame k ≡ Some item → Inside (record frame { item = item } ∷ outer)
  jump o k item is to free e =
      let found = on_some_from _ (λ found. Some found.item) item e in
      let found_item = ap (λ found. found.item) (get_or_from_slice_get (function app frame.func).labels k found.0 no_label found.1) ∙ some_one _ item found.2 in
      (item, inr (k, ap way is ∙ to, sym found_item), ap (chains_itself (function app frame.func)) is ∙ free, refl)

  from_writes : (rd value : ℕ) (m : ItemMeaning) → Inside (going_on_frame frame ∷ outer) → write_meaning rd value x frame outer symbols ≡ Some m → Inside m.frames
  from_writes rd value m h e = subst (λ (m : ItemMeaning). Inside m.frames) (some_one _ m e) h

  from_loads : (w : Width) (rd y offset : ℕ) (m : ItemMeaning) → Inside (going_on_frame frame ∷ outer) → load_meaning w rd y offset x frame outer symbols ≡ Some m → Inside m.frames
  from_loads w rd y offset m h e =
      let found = on_some_from (accessed_bytes symbols y w offset) (λ bytes. write_meaning rd (loaded_word w bytes offset) x frame outer symbols) m e in
      from_writes rd (loaded_word w found.0 offset) m h found.2

  from_stores : (w : Width) (rs y offset : ℕ) (m : ItemMeaning) → Inside (going_on_frame frame ∷ outer) → store_meaning w rs y offset x frame outer symbols ≡ Some m → Inside m.frames
  from_stores w rs y offset m h e =
      let found = on_some_from (accessed_bytes symbols y w offset) (λ bytes. Some (record {
        registers = x;
        frames = going_on_frame frame ∷ outer;
        symbols = set symbols y (bytes_after_store w bytes offset (register x rs));
        result = register x rs;
      })) m e in
      subst (λ (m : ItemMeaning). Inside m.frames) (some_one _ m found.2) h

  from_place : (item : ℕ) (m : ItemMeaning) → Inside (record frame { item = item } ∷ outer) → jump_meaning item x frame outer symbols ≡ Some m → Inside m.frames
  from_place item m h e = subst (λ (m : ItemMeaning). Inside m.frames) (some_one _ m e) h

  from_branch : (taken : Bool) (item : ℕ) (m : ItemMeaning) → Inside (record frame { item = item } ∷ outer) → Inside (going_on_frame frame ∷ outer)
      → jump_meaning (cond taken item (frame.item + 1)) x frame outer symbols ≡ Some m → Inside m.frames
  from_branch true item m to on e = from_place item m to e
  from_branch false item m to on e = from_place (frame.item + 1) m on e

  from_return : (fs : List Frame) (m : ItemMeaning)
      → on_some (returned_frames fs) (λ frames. Some (record { registers = x; frames = frames; symbols = symbols; result = 0 })) ≡ Some m
      → GoesBack (position_of fs) (position_of m.frames)
  from_return [] m e = absurd cc
  from_return (caller ∷ rest) m e = subst (λ (m : ItemMeaning). GoesBack (position_of (caller ∷ rest)) (position_of m.frames)) (some_one _ m e) refl

  executed : (o : Op) (m : ItemMeaning) → operation app frame.func frame.item ≡ o → execution app o x frame outer symbols ≡ Some m
      → Leads o m.frames × (is_counted o ≡ true) × (is_schedule o ≡ false)
  executed (op.Alu kind rd a b) m is e = (from_writes rd _ m (next (op.Alu kind rd a b) is refl refl) e, refl, refl)
  executed (op.AluImm kind rd a n) m is e = (from_writes rd _ m (next (op.AluImm kind rd a n) is refl refl) e, refl, refl)
  executed (op.Lui rd n) m is e = (from_writes rd _ m (next (op.Lui rd n) is refl refl) e, refl, refl)
  executed (op.Li rd v) m is e = (from_writes rd _ m (next (op.Li rd v) is refl refl) e, refl, refl)
  executed (op.FrameLoad rd word) m is e = (
    from_writes rd (get_or frame.words word 0) m (next (op.FrameLoad rd word) is refl refl) (if_true_some (ltb word (length frame.words)) _ m e).1,
    refl,
    refl,
  )
  executed (op.FrameStore rs word) m is e = (
    subst (λ (m : ItemMeaning). Inside m.frames) (some_one _ m (if_true_some (ltb word (length frame.words)) _ m e).1) (next (op.FrameStore rs word) is refl refl),
    refl,
    refl,
  )
  executed (op.Load w rd y offset) m is e = (from_loads w rd y offset m (next (op.Load w rd y offset) is refl refl) e, refl, refl)
  executed (op.Store w rs y offset) m is e = (from_stores w rs y offset m (next (op.Store w rs y offset) is refl refl) e, refl, refl)
  executed (op.LoadAt w rd y index mask) m is e = (from_loads w rd y _ m (next (op.LoadAt w rd y index mask) is refl refl) e, refl, refl)
  executed (op.StoreAt w rs y index mask) m is e = (from_stores w rs y _ m (next (op.StoreAt w rs y index mask) is refl refl) e, refl, refl)
  executed (op.Branch kind a b l) m is e =
      let found = on_some_from _ _ m e in (
        from_branch (branch_holds kind (register x a) (register x b)) found.0 m (jump (op.Branch kind a b l) l found.0 is refl refl found.1)
            (next (op.Branch kind a b l) is refl refl) found.2,
        refl,
        refl,
      )
  executed (op.Jump l) m is e =
      let found = on_some_from _ _ m e in
      (from_place found.0 m (jump (op.Jump l) l found.0 is refl refl found.1) found.2, refl, refl)
  executed (op.Invoke g) m is e = (
    subst (λ (m : ItemMeaning). Leads (op.Invoke g) m.frames) (some_one _ m (if_true_some (ltb g (length app.funcs)) _ m e).1) refl,
    refl,
    refl,
  )
  executed op.Return m is e = (from_return outer m e, refl, refl)
  executed (op.Serve call) m is e = absurd cc

  -- a step from the innermost frame
  steps : (o : Op) (new : List Frame) (Schedules : Type 0) → IsItem app frame.func frame.item o → Leads o new → is_counted o ≡ true
      → (is_schedule o ≡ true → Schedules) → StepsOn app (frame ∷ outer) new Schedules
  steps o new Schedules item leads counts schedules = record {
    walks = (o, item, leads);
    counts = ap is_counted item.is ∙ counts;
    schedules = λ e. schedules (sym (ap is_schedule item.is) ∙ e);
  }

  pub runs : (o : Op) (m : ItemMeaning) → IsItem app frame.func frame.item o → meaning app o x frame outer symbols ≡ Some m → StepsOn app (frame ∷ outer) m.frames ⊥
  runs o m item e =
      let h = executed o m item.is (if_true_some _ _ m e).1 in
      steps o m.frames ⊥ item h.0 h.1 (λ is. absurd (true≢false (sym is ∙ h.2)))

  not_for_good : (served : Service) → served ≢ service.TerminateTask → ends_for_good served ≡ false
  not_for_good service.TerminateTask n = absurd (n refl)
  not_for_good served n = refl

  pub serves : (call : Call) (Schedules : Type 0) → IsItem app frame.func frame.item (op.Serve call) → call.service ≢ service.TerminateTask
      → chains_itself (function app frame.func) (op.Serve call) ≡ false → (call.service ≡ service.Schedule → Schedules) → StepsOn app (frame ∷ outer) (going_on_frame frame ∷ outer) Schedules
  serves call Schedules item other free schedules =
      let goes = ap not (not_for_good call.service other) in
      steps (op.Serve call) (going_on_frame frame ∷ outer) Schedules item (next (op.Serve call) item.is goes free) goes
      (λ e. schedules (same_service call.service service.Schedule e))
