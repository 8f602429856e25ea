-- An item that is no service keeps a state valid.
use Rattle.std.proofs.Common.{◌≡◌, ℕ, zero, suc, ◌+◌, ◌-◌, ◌/◌, ◌<◌, ◌≤◌, List, [], ◌∷◌, ◌++◌, Bool, true, false, ◌&&◌, leb, ltb, cond, length, get_or, set, take, drop, map, refl, sym, ap, ◌∙◌, subst, arith, inl, inr, Some, None}
use Rattle.std.proofs.lemmas.Bool.{true≢false, leb-true, and_parts}
use Rattle.std.proofs.lemmas.List.{append-nil, length-set, length-replicate, length-append, length-take-le, length-drop}
use Rattle.sloth_base.specs.Arithmetic.{size_of, branch_holds}
use Rattle.sloth_base.specs.declared.config.Config.{Config}
use Rattle.sloth_base.specs.declared.app.App.{App}
use Rattle.sloth_base.specs.declared.app.Op.{Op}
use Rattle.sloth_base.specs.declared.app.Op.TheVariants as op
use Rattle.sloth_base.specs.declared.app.Width.{Width}
use Rattle.osek_scheduler.specs.State.{Frame, Task, System, task, entry_frame}
use Rattle.sloth_base.specs.Named.{function, label_of, no_label}
use Rattle.std.proofs.lemmas.Option.{get_or_from_slice_get, same_Some}
use Rattle.osek_scheduler.specs.Meaning.{ItemMeaning, meaning, execution, write_meaning, load_meaning, store_meaning, jump_meaning, accessed_bytes, bytes_after_store, bytes_of, with_register, register, going_on_frame, target, on_some, returned_frames, loaded_word}
use Rattle.osek_scheduler.specs.Services.{moved_frames}
use Rattle.osek_scheduler.specs.Steps.{IsItemStep}
use Rattle.osek_scheduler.proofs.Tests.{if_true_some, on_some_from}
use Rattle.code_rules.specs.Code.{is_followed, held_after}
use Rattle.osek_scheduler.proofs.Facts.{Facts, GoesTo}
use Rattle.code_rules.specs.WellFormed.{held_list_before}
use Rattle.osek_scheduler.specs.Valid.{IsCalledFrom, held_by, IsValidTask, IsValid}
use Rattle.osek_scheduler.proofs.Held.{held_at_begin, falls_inside, falls_holds, jumps_inside, jumps_holds}
use Rattle.osek_scheduler.proofs.Going.{keeps, Running, running, runs_on}
use Rattle.osek_scheduler.proofs.Going as going

-- ---- data keep their lengths

pub set_lengths : (xs : List (List ℕ)) (y : ℕ) (new : List ℕ) → length new ≡ length (get_or xs y []) → map length (set xs y new) ≡ map length xs
set_lengths [] y new e = refl
set_lengths (x ∷ xs) zero new e = ap (λ n. n ∷ map length xs) e
set_lengths (x ∷ xs) (suc y) new e = ap (λ l. length x ∷ l) (set_lengths xs y new e)

length-bytes_of : (n value : ℕ) → length (bytes_of n value) ≡ n
length-bytes_of zero value = refl
length-bytes_of (suc n) value = ap suc (length-bytes_of n (value / 256))

length-stored : (w : Width) (bytes : List ℕ) (offset value : ℕ) → offset + size_of w ≤ length bytes → length (bytes_after_store w bytes offset value) ≡ length bytes
length-stored w bytes offset value le = sum (bytes_of (size_of w) _) (length-bytes_of (size_of w) _)
  where
    count : (a b c : ℕ) → a ≡ offset → b ≡ size_of w → c ≡ length bytes - (offset + size_of w) → a + (b + c) ≡ length bytes
    count a b c e f g = omega (arith, e, f, g, le)

    sum : (middle : List ℕ) → length middle ≡ size_of w → length (take offset bytes ++ (middle ++ drop (offset + size_of w) bytes)) ≡ length bytes
    sum middle e =
        length-append (take offset bytes) (middle ++ drop (offset + size_of w) bytes)
        ∙ ap (λ n. length (take offset bytes) + n) (length-append middle (drop (offset + size_of w) bytes))
        ∙ count (length (take offset bytes)) (length middle) (length (drop (offset + size_of w) bytes))
        (length-take-le offset bytes (omega (arith, le))) e (length-drop (offset + size_of w) bytes)

length-with_register : (rd value : ℕ) (x : List ℕ) → length (with_register x rd value) ≡ length x
length-with_register zero value x = refl
length-with_register (suc rd) value x = length-set x (suc rd - 5) value

-- where an access lies inside its symbol
pub accessed_is : (symbols : List (List ℕ)) (y : ℕ) (w : Width) (offset : ℕ) (bytes : List ℕ) → accessed_bytes symbols y w offset ≡ Some bytes
    → (bytes ≡ get_or symbols y []) × (offset + size_of w ≤ length (get_or symbols y []))
accessed_is symbols y w offset bytes e = by (ltb y (length symbols) && leb (offset + size_of w) (length (get_or symbols y []))) refl e
  where
    by : (b : Bool) → (ltb y (length symbols) && leb (offset + size_of w) (length (get_or symbols y []))) ≡ b
        → cond b (Some (get_or symbols y [])) None ≡ Some bytes → (bytes ≡ get_or symbols y []) × (offset + size_of w ≤ length (get_or symbols y []))
    by true t h = (sym (same_Some _ _ h), leb-true _ _ (and_parts _ _ t).1)
    by false t h = absurd cc

module _ (config : Config) (app : App) (w : Facts config app) (t : ℕ) (k : Task) (frame : Frame) (outer : List Frame) (symbols : List (List ℕ)) where
  abbrev after : ItemMeaning → Task
  after m = record k { registers = m.registers; frames = m.frames }

  abbrev Fine : ItemMeaning → Type 0
  Fine m = IsValidTask config app t (after m) × (map length m.symbols ≡ map length symbols)

  fine : (m meant : ItemMeaning) → Some m ≡ Some meant → Fine m → Fine meant
  fine m meant e f = subst Fine (same_Some m meant e) f

  module _ (o : Op) (r : Running config app t k frame outer o) where
    writes_fine : (rd value : ℕ) (meant : ItemMeaning) → is_followed o ≡ true → ((held : List ℕ) → held_after o held ≡ held)
        → write_meaning rd value k.registers frame outer symbols ≡ Some meant → Fine meant
    writes_fine rd value meant goes holds e =
        fine _ meant e (
          going.goes_on config app w t k frame outer o r
              (record k { registers = with_register k.registers rd value; frames = going_on_frame frame ∷ outer })
              goes holds refl (sym (ap moved_frames r.frames)) refl refl refl (length-with_register rd value k.registers ∙ r.registers) r.events,
          refl,
        )

    loads_fine : (width : Width) (rd y offset : ℕ) (meant : ItemMeaning) → is_followed o ≡ true → ((held : List ℕ) → held_after o held ≡ held)
        → load_meaning width rd y offset k.registers frame outer symbols ≡ Some meant → Fine meant
    loads_fine width rd y offset meant goes holds e =
        let found = on_some_from (accessed_bytes symbols y width offset) (λ bytes. write_meaning rd (loaded_word width bytes offset) k.registers frame outer symbols) meant e in
        writes_fine rd (loaded_word width found.0 offset) meant goes holds found.2

    stores_fine : (width : Width) (rs y offset : ℕ) (meant : ItemMeaning) → is_followed o ≡ true → ((held : List ℕ) → held_after o held ≡ held)
        → store_meaning width rs y offset k.registers frame outer symbols ≡ Some meant → Fine meant
    stores_fine width rs y offset meant goes holds e =
        let found = on_some_from (accessed_bytes symbols y width offset) (λ bytes. Some (record {
          registers = k.registers;
          frames = going_on_frame frame ∷ outer;
          symbols = set symbols y (bytes_after_store width bytes offset (register k.registers rs));
          result = register k.registers rs;
        })) meant e in
        let inside = accessed_is symbols y width offset found.0 found.1 in
        fine _ meant found.2 (
          going.goes_on config app w t k frame outer o r (record k { frames = going_on_frame frame ∷ outer }) goes holds refl (sym (ap moved_frames r.frames))
              refl refl refl r.registers r.events,
          set_lengths symbols y _
              (length-stored width found.0 offset (register k.registers rs) (subst (λ l. offset + size_of width ≤ length l) (sym inside.0) inside.1)
              ∙ ap length inside.0),
        )

    place_fine : (item : ℕ) (meant : ItemMeaning) → item < length (function app frame.func).items
        → held_list_before app frame.func item ≡ held_list_before app frame.func frame.item → jump_meaning item k.registers frame outer symbols ≡ Some meant → Fine meant
    place_fine item meant inside holds e =
        fine _ meant e (
          going.goes_to config app w t k frame outer o r (record k { frames = record frame { item = item } ∷ outer }) (record frame { item = item })
              refl refl refl (record { known = r.is_frame.known; inside = inside; words = r.is_frame.words }) holds refl refl refl r.registers r.events,
          refl,
        )

  -- the item behind a label
  target_is : (l item : ℕ) → target app frame l ≡ Some item → (label_of (function app frame.func) l).item ≡ item
  target_is l item e =
      let found = on_some_from _ (λ found. Some found.item) item e in
      ap (λ found. found.item) (get_or_from_slice_get (function app frame.func).labels l found.0 no_label found.1) ∙ same_Some _ item found.2

  label_fine : (o : Op) (l item : ℕ) (meant : ItemMeaning) → Running config app t k frame outer o → GoesTo app frame.func frame.item l
      → target app frame l ≡ Some item → jump_meaning item k.registers frame outer symbols ≡ Some meant → Fine meant
  label_fine o l item meant r goes is =
      subst (λ x. jump_meaning x k.registers frame outer symbols ≡ Some meant → Fine meant) (target_is l item is)
      (place_fine o r (label_of (function app frame.func) l).item meant
      (jumps_inside config app w frame.func frame.item l r.is_frame.known r.is_frame.inside goes)
      (jumps_holds config app w frame.func frame.item l r.is_frame.known goes))

  -- a branch goes to its label or falls on
  branch_fine : (kind : _) (a b l item : ℕ) (meant : ItemMeaning) → Running config app t k frame outer (op.Branch kind a b l) → target app frame l ≡ Some item
      → (taken : Bool) → jump_meaning (cond taken item (frame.item + 1)) k.registers frame outer symbols ≡ Some meant → Fine meant
  branch_fine kind a b l item meant r is true e = label_fine (op.Branch kind a b l) l item meant r (inr (kind, a, b, r.item)) is e
  branch_fine kind a b l item meant r is false e =
      place_fine (op.Branch kind a b l) r (frame.item + 1) meant
      (falls_inside config app w frame.func frame.item (op.Branch kind a b l) r.item refl)
      (falls_holds config app w frame.func frame.item (op.Branch kind a b l) r.item refl) e

  invoke_fine : (f : ℕ) (meant : ItemMeaning) → Running config app t k frame outer (op.Invoke f)
      → Some (record { registers = k.registers; frames = entry_frame app f ∷ frame ∷ outer; symbols = symbols; result = 0 }) ≡ Some meant → Fine meant
  invoke_fine f meant r e =
      let known = (w.items frame.func frame.item (op.Invoke f) r.item).0 in
      fine _ meant e (
        runs_on config app t (record k { frames = entry_frame app f ∷ frame ∷ outer }) (entry_frame app f) (frame ∷ outer) r.active refl
            (record { known = known; inside = w.has_items f known; words = length-replicate (function app f).frame_words 0 })
            (r.is_frame, r.item, r.called)
            (r.held ∙ sym (append-nil _) ∙ ap (λ l. (held_by app outer ++ held_list_before app frame.func frame.item) ++ l) (sym (held_at_begin config app w f known)))
            r.raised (λ h. absurd (true≢false (sym h ∙ r.free))) r.registers r.listed r.distinct r.events,
        refl,
      )

  return_fine : (meant : ItemMeaning) → Running config app t k frame outer op.Return
      → on_some (returned_frames outer) (λ frames. Some (record { registers = k.registers; frames = frames; symbols = symbols; result = 0 })) ≡ Some meant → Fine meant
  return_fine meant r e = by outer refl e r.called r.held
    where
      by : (fs : List Frame) → outer ≡ fs
          → on_some (returned_frames fs) (λ frames. Some (record { registers = k.registers; frames = frames; symbols = symbols; result = 0 })) ≡ Some meant
          → IsCalledFrom app t frame.func fs → k.held ≡ held_by app fs ++ held_list_before app frame.func frame.item → Fine meant
      by [] is h called held = absurd cc
      by (caller ∷ rest) is h called held =
          fine _ meant h (
            runs_on config app t (record k { frames = going_on_frame caller ∷ rest }) (going_on_frame caller) rest r.active refl
                (record {
                  known = called.0.known;
                  inside = falls_inside config app w caller.func caller.item (op.Invoke frame.func) called.1 refl;
                  words = called.0.words;
                })
                called.2
                (held ∙ ap (λ l. (held_by app rest ++ held_list_before app caller.func caller.item) ++ l) (w.returns_free frame.func frame.item r.item)
                ∙ append-nil _
                ∙ ap (λ l. held_by app rest ++ l) (sym (falls_holds config app w caller.func caller.item (op.Invoke frame.func) called.1 refl)))
                r.raised (λ b. absurd (true≢false (sym b ∙ r.free))) r.registers r.listed r.distinct r.events,
            refl,
          )

  frame_store_fine : (rs word : ℕ) (meant : ItemMeaning) → Running config app t k frame outer (op.FrameStore rs word)
      → Some (record {
        registers = k.registers;
        frames = record frame { item = frame.item + 1; words = set frame.words word (register k.registers rs) } ∷ outer;
        symbols = symbols;
        result = register k.registers rs;
      }) ≡ Some meant → Fine meant
  frame_store_fine rs word meant r e =
      let next : Frame = record frame { item = frame.item + 1; words = set frame.words word (register k.registers rs) } in
      let o = op.FrameStore rs word in
      fine _ meant e (
        going.goes_to config app w t k frame outer o r (record k { frames = next ∷ outer }) next refl refl refl
            (record {
              known = r.is_frame.known;
              inside = falls_inside config app w frame.func frame.item o r.item refl;
              words = length-set frame.words word (register k.registers rs) ∙ r.is_frame.words;
            })
            (falls_holds config app w frame.func frame.item o r.item refl) refl refl refl r.registers r.events,
        refl,
      )

  executed : (o : Op) (meant : ItemMeaning) → Running config app t k frame outer o → execution app o k.registers frame outer symbols ≡ Some meant → Fine meant
  executed (op.Alu kind rd a b) meant r e = writes_fine (op.Alu kind rd a b) r rd _ meant refl (λ _. refl) e
  executed (op.AluImm kind rd a n) meant r e = writes_fine (op.AluImm kind rd a n) r rd _ meant refl (λ _. refl) e
  executed (op.Lui rd n) meant r e = writes_fine (op.Lui rd n) r rd _ meant refl (λ _. refl) e
  executed (op.Li rd v) meant r e = writes_fine (op.Li rd v) r rd _ meant refl (λ _. refl) e
  executed (op.FrameLoad rd word) meant r e =
      writes_fine (op.FrameLoad rd word) r rd (get_or frame.words word 0) meant refl (λ _. refl) (if_true_some (ltb word (length frame.words)) _ meant e).1
  executed (op.FrameStore rs word) meant r e = frame_store_fine rs word meant r (if_true_some (ltb word (length frame.words)) _ meant e).1
  executed (op.Load width rd y offset) meant r e = loads_fine (op.Load width rd y offset) r width rd y offset meant refl (λ _. refl) e
  executed (op.Store width rs y offset) meant r e = stores_fine (op.Store width rs y offset) r width rs y offset meant refl (λ _. refl) e
  executed (op.LoadAt width rd y index mask) meant r e = loads_fine (op.LoadAt width rd y index mask) r width rd y _ meant refl (λ _. refl) e
  executed (op.StoreAt width rs y index mask) meant r e = stores_fine (op.StoreAt width rs y index mask) r width rs y _ meant refl (λ _. refl) e
  executed (op.Branch kind a b l) meant r e =
      let found = on_some_from _ _ meant e in
      branch_fine kind a b l found.0 meant r found.1 (branch_holds kind (register k.registers a) (register k.registers b)) found.2
  executed (op.Jump l) meant r e =
      let found = on_some_from _ _ meant e in
      label_fine (op.Jump l) l found.0 meant r (inl r.item) found.1 found.2
  executed (op.Invoke f) meant r e = invoke_fine f meant r (if_true_some (ltb f (length app.funcs)) _ meant e).1
  executed op.Return meant r e = return_fine meant r e
  executed (op.Serve call) meant r e = absurd cc

  pub item_fine : (o : Op) (meant : ItemMeaning) → Running config app t k frame outer o → meaning app o k.registers frame outer symbols ≡ Some meant → Fine meant
  item_fine o meant r e = executed o meant r (if_true_some _ _ meant e).1

pub executes_valid : (config : Config) (app : App) → Facts config app → (t func item result : ℕ) (s next : System) → IsValid config app s → s.booted ≡ true
    → IsItemStep config app t func item result s next → IsValid config app next
executes_valid config app w t func item result s next v booted h =
    let r = running config app s t h.operation v h.top.declared h.at in
    let f = item_fine config app w t (task s t) h.at.frame h.at.outer s.symbols h.operation h.meant r h.means in
    let new : Task = record (task s t) { registers = h.meant.registers; frames = h.meant.frames } in
    let kept = keeps config app s t new v booted h.top.declared f.0 in
    subst (IsValid config app) (sym h.is)
    (record { count = kept.count; each = kept.each; sizes = f.1 ∙ v.sizes; asleep = kept.asleep; clock = kept.clock })
