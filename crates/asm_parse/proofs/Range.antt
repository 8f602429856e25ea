-- The task code of lines without a fault is in range of the configuration.
use Rattle.std.proofs.Common.{◌≡◌, ◌∙◌, ap, sym, refl, subst, inl, inr, ℕ, ◌+◌, ◌<◌, Bool, true, false, cond, List, [], length, map, take, get_or, Some, None, true≢false, arith}
use Rattle.std.specs.Prelude.{◌||◌, not, codes, All, filter, position}
use Rattle.std.specs.List.{list_any}
use Rattle.std.specs.Str.{bytes_eq}
use Rattle.std.proofs.lemmas.List.{length-map, get_or-map, get_or_default}
use Rattle.std.proofs.lemmas.List.Elements.{All-weaker, All-map, recursion_from_All}
use Rattle.std.proofs.lemmas.List.Sums.{length-filter, sum-map}
use Rattle.std.proofs.lemmas.Option.{slice_get-get_or}
use Rattle.std.proofs.lemmas.Slice.Eq.{bytes_eq-Decides}
use Rattle.std.proofs.lemmas.Bool.{not-false, not-true, and_parts}
use mathlib.Core.List.{map-map}
use Rattle.text_pieces.proofs.Tests.{none_pass, All-kept}
use Rattle.text_pieces.proofs.Places.{position_at}
use Rattle.sloth_base.specs.ConfigRange.{InRange}
use Rattle.sloth_base.specs.ImageRange.{IsName, AreNames}
use Rattle.sloth_base.specs.Named.{function, no_function, IsBodyOf}
use Rattle.sloth_base.specs.declared.app.App.{App}
use Rattle.sloth_base.specs.declared.app.Func.{Func}
use Rattle.sloth_base.specs.declared.app.Label.{Label}
use Rattle.sloth_base.specs.declared.app.Symbol.{Symbol}
use Rattle.sloth_base.specs.declared.config.Config.{Config}
use Rattle.sloth_base.specs.declared.config.EventDecl.{EventDecl}
use Rattle.sloth_base.specs.declared.config.TaskDecl.{TaskDecl}
use Rattle.sloth_base.specs.declared.config.AlarmDecl.{AlarmDecl}
use Rattle.sloth_base.specs.declared.refusal.Code.TheVariants.{A7}
use Rattle.sloth_base.specs.declared.refusal.Part.TheVariants.{Src}
use Rattle.sloth_base.specs.Order.{NoFault}
use Rattle.sloth_base.proofs.Nowhere.{nowhere, case_false}
use Rattle.asm_lines.specs.declared.source_line.SourceLine.{SourceLine}
use Rattle.asm_lines.specs.declared.source_line.SourceLine.TheVariants.{Empty}
use Rattle.asm_lines.specs.Faults.{source_lines, SourceLinesFault}
use Rattle.asm_scopes.specs.declared.scope.Scope.{Scope}
use Rattle.asm_scopes.specs.Statements.{is_data, is_label, is_task, name_of, label_names, symbol_names}
use Rattle.asm_scopes.specs.Bodies.{BodyText, bodies_of, body_name, is_task_body, is_called_body, function_names, called_names, task_body_names}
use Rattle.sloth_base.specs.DeclaredNames.{task_names, event_names, alarm_names}
use Rattle.asm_scopes.specs.Scopes.{scope_of, is_scheduler}
use Rattle.asm_parse.specs.NameFaults.{has_long, items_in, is_body_missing, BodyNameFault, NameFault}
use Rattle.asm_parse.specs.Operations.{number_of as number_in, resource_number, mask_given, mask_at}
use Rattle.asm_parse.specs.Apps.{func_of, symbol_of, body_task, app_of, labels_from}
use Rattle.asm_parse.specs.AppTexts.{AppText, SourceTextFault}
use Rattle.code_rules.specs.AppRange.{IsResource, IsCallable, IsLabelPlaced, IsBody, HasBodies, IsWithinLimits, AppInRange}
use Rattle.sloth_base.specs.ConfigRange.{no_event}
use Rattle.asm_parse.proofs.BodiesRead.{IsReadBody, bodies_read, no_body, body_at, line_at, names_apart, few_bodies, few_words, short_name, known_at, short_at, labels_apart, few_items}
use Rattle.asm_parse.proofs.Declared.{header_name, label_name}
use Rattle.asm_parse.proofs.Growth.{Apart, same_place, sum_mapped}
use Rattle.asm_parse.proofs.ItemsRange.{label_or, names_of_labels, IsSound, items_range, IsPlacedIn, labels_range}
use Rattle.asm_parse.proofs.Known.{IsKnown, IsEvent}
use Rattle.asm_parse.proofs.LinesRead.{all_read}
use Rattle.asm_parse.proofs.Places.{place_of, stands, number_is, number_below, found_kept}
use Rattle.asm_parse.proofs.Read.{IsRead}
use Rattle.asm_parse.proofs.SymbolsRange.{names, few_symbols, few_bytes, some_bytes}

-- ---- names of the configuration

resource_range : (config : Config) (scope : Scope) (name : List ℕ) → scope.resources ≡ config.resources → scope.has_scheduler ≡ config.res_scheduler
    → (is_scheduler scope name || list_any (bytes_eq name) scope.resources) ≡ true → IsResource config (resource_number scope name)
resource_range config scope name same has e = by (is_scheduler scope name) refl
  where
    by : (b : Bool) → is_scheduler scope name ≡ b → IsResource config (resource_number scope name)
    by true t = rw t (inr (refl, sym has ∙ (and_parts scope.has_scheduler (bytes_eq name (codes "RES_SCHEDULER")) t).0))
    by false t =
        let n = number_below scope.resources name (ap (λ b. b || list_any (bytes_eq name) scope.resources) (sym t) ∙ e) in
        rw t (inl (subst (λ (names : List (List ℕ)). number_in scope.resources name < length names) same n))

event_range : (config : Config) (scope : Scope) (name : List ℕ) → scope.events ≡ event_names config → list_any (bytes_eq name) scope.events ≡ true → IsEvent config scope name
event_range config scope name same e =
    let p = place_of scope.events name e in
    let w = (stands scope.events name p.0 [] p.1).0 in
    let l = ap length same ∙ length-map config.events (λ (e : EventDecl). e.name) in
    let inside : p.0 < length config.events = omega (arith, w, l) in
    record {
      place = p.0;
      declared = inside;
      same = ap (mask_at config) p.1 ∙ ap mask_given (slice_get-get_or config.events p.0 no_event inside);
    }

-- ---- the task code

module _ (config : Config) (ls : List SourceLine) (range : InRange config) (read : All IsRead ls) (none : NoFault (NameFault config ls)) where
  abbrev bodies : List BodyText
  bodies = bodies_of ls

  abbrev scope : Scope
  scope = scope_of config ls bodies

  abbrev app : App
  app = app_of config ls

  body_none : (i : ℕ) → i < length bodies → NoFault (BodyNameFault scope (take i bodies) (body_at bodies i))
  body_none i h = nowhere (BodyNameFault scope) bodies (λ r x. none r (inr (inl x))) i no_body h

  all_bodies : All IsReadBody bodies
  all_bodies = bodies_read 1 ls read

  length_funcs : length app.funcs ≡ length bodies
  length_funcs = length-map bodies (func_of config scope)

  function_is : (i : ℕ) → i < length bodies → function app i ≡ func_of config scope (body_at bodies i)
  function_is i h = get_or-map (func_of config scope) bodies i no_body no_function h

  name_is : (i : ℕ) → i < length bodies → get_or (function_names bodies) i [] ≡ body_name (body_at bodies i)
  name_is i h = get_or-map body_name bodies i no_body [] h

  length_names : length (function_names bodies) ≡ length bodies
  length_names = length-map bodies body_name

  apart : Apart (function_names bodies)
  apart = names_apart scope bodies body_none

  -- two bodies of one name are one
  same_body : (i j : ℕ) → i < length bodies → j < length bodies → body_name (body_at bodies i) ≡ body_name (body_at bodies j) → i ≡ j
  same_body i j h k e =
      let l = length_names in same_place (function_names bodies) apart i j [] (omega (arith, h, l)) (omega (arith, k, l)) (name_is i h ∙ e ∙ sym (name_is j k))

  -- ---- the tasks of bodies

  length_tasks : length (task_names config) ≡ length config.tasks
  length_tasks = length-map config.tasks (λ (t : TaskDecl). t.name)

  length_alarms : length (alarm_names config) ≡ length config.alarms
  length_alarms = length-map config.alarms (λ (a : AlarmDecl). a.name)

  -- the task of a body has its name
  task_some : (b : BodyText) (t : ℕ) → body_task scope b ≡ Some t → (t < length config.tasks) × (get_or (task_names config) t [] ≡ body_name b)
  task_some b t e = by (is_task_body b) refl
    where
      found : position (bytes_eq (body_name b)) (task_names config) ≡ Some t → (t < length config.tasks) × (get_or (task_names config) t [] ≡ body_name b)
      found e = let s = stands (task_names config) (body_name b) t [] e in let w = s.0 in let l = length_tasks in (omega (arith, w, l), s.1)

      by : (x : Bool) → is_task_body b ≡ x → (t < length config.tasks) × (get_or (task_names config) t [] ≡ body_name b)
      by true q = found (ap (λ x. cond x (position (bytes_eq (body_name b)) (task_names config)) None) (sym q) ∙ e)
      by false q = absurd (none_some (ap (λ x. cond x (position (bytes_eq (body_name b)) (task_names config)) None) (sym q) ∙ e))
        where
          none_some : None ≡ Some t → ⊥
          none_some e = cc

  of_body : (t f : ℕ) → IsBodyOf app t f → (f < length bodies) × (body_task scope (body_at bodies f) ≡ Some t)
  of_body t f h =
      let w = h.0 in
      let l = length_funcs in
      let inside : f < length bodies = omega (arith, w, l) in
      (inside, sym (ap (λ (g : Func). g.task) (function_is f inside)) ∙ h.1)

  is_body : (t f : ℕ) → f < length bodies → body_task scope (body_at bodies f) ≡ Some t → IsBodyOf app t f
  is_body t f h e = let l = length_funcs in (omega (arith, h, l), ap (λ (g : Func). g.task) (function_is f h) ∙ e)

  -- what stands in the place of a task that is not there
  abbrev no_task : TaskDecl
  no_task = record { name = []; priority = 0; extended = false; non = false; autostart = false; resources = []; events = 0 }

  has_body : (t : ℕ) → t < length config.tasks → (f : ℕ) × IsBodyOf app t f
  has_body t h =
      let lacks = none_pass (λ (t : TaskDecl). not (list_any (bytes_eq t.name) (task_body_names bodies))) config.tasks (case_false Src (is_body_missing config bodies) 1 A7 (λ r x. none r (inr (inr x)))) in
      let name = (get_or config.tasks t no_task).name in
      let k = found_kept is_task_body body_name (bytes_eq name) bodies (not-false (list_any (bytes_eq name) (task_body_names bodies)) (lacks t no_task h)) in
      let same : name ≡ body_name (body_at bodies k.place) = (bytes_eq-Decides name (body_name (body_at bodies k.place))).0 (k.found no_body) in
      let l = length_tasks in
      let inside : t < length (task_names config) = omega (arith, h, l) in
      let at : get_or (task_names config) t [] ≡ name = get_or-map (λ (t : TaskDecl). t.name) config.tasks t no_task [] h in
      let place : position (bytes_eq name) (task_names config) ≡ Some t =
      ap (λ (n : List ℕ). position (bytes_eq n) (task_names config)) (sym at) ∙ position_at (task_names config) range.task_names.distinct t [] inside in (
        k.place,
        is_body t k.place k.within
            (ap (λ b. cond b (position (bytes_eq (body_name (body_at bodies k.place))) (task_names config)) None) (k.passes no_body)
            ∙ ap (λ (n : List ℕ). position (bytes_eq n) (task_names config)) (sym same) ∙ place),
      )

  pub tasks : HasBodies config app
  tasks = record {
    body = has_body;
    one = λ t f g a b.
        let x = of_body t f a in
        let y = of_body t g b in
        same_body f g x.0 y.0 (sym (task_some (body_at bodies f) t x.1).1 ∙ (task_some (body_at bodies g) t y.1).1);
    declared = λ t f a. (task_some (body_at bodies f) t (of_body t f a).1).0;
  }

  -- ---- names that exist

  -- A function that is called by its name is no task's body.
  callable : (name : List ℕ) → list_any (bytes_eq name) (called_names bodies) ≡ true → IsCallable app (number_in (function_names bodies) name)
  callable name e =
      let k = found_kept is_called_body body_name (bytes_eq name) bodies e in
      let same : name ≡ body_name (body_at bodies k.place) = (bytes_eq-Decides name (body_name (body_at bodies k.place))).0 (k.found no_body) in
      let w = k.within in
      let l = length_names in
      let inside : k.place < length (function_names bodies) = omega (arith, w, l) in
      let place : position (bytes_eq name) (function_names bodies) ≡ Some k.place =
      ap (λ (n : List ℕ). position (bytes_eq n) (function_names bodies)) (same ∙ sym (name_is k.place k.within)) ∙ position_at (function_names bodies) apart k.place [] inside in
      subst (IsCallable app) (sym (number_is (function_names bodies) name k.place place)) (
        let f = length_funcs in omega (arith, w, f),
        ap (λ (g : Func). g.task) (function_is k.place k.within)
            ∙ ap (λ b. cond b (position (bytes_eq (body_name (body_at bodies k.place))) (task_names config)) None) (not-true (is_task (body_at bodies k.place).header) (k.passes no_body)),
      )

  known : (i : ℕ) → i < length bodies → IsKnown config app (func_of config scope (body_at bodies i)) scope (label_names (body_at bodies i).lines)
  known i h =
      let body = body_at bodies i in
      record {
        symbol = λ name e.
            let n = number_below scope.symbols name e in
            let a = length-map (filter is_data ls) name_of in
            let b = length-map (filter is_data ls) symbol_of in
            omega (arith, n, a, b);
        label = λ name e.
            let n = number_below (label_names body.lines) name e in
            let a = ap length (names_of_labels config scope (label_names body.lines) (body.line + 1) 0 body.lines) in
            let b = length-map (labels_from config scope (label_names body.lines) (body.line + 1) 0 body.lines) (λ (l : Label). l.name) in
            omega (arith, n, a, b);
        function = callable;
        task = λ name e. let n = number_below scope.tasks name e in let l = length_tasks in omega (arith, n, l);
        resource = λ name e. resource_range config scope name refl refl e;
        alarm = λ name e. let n = number_below scope.alarms name e in let l = length_alarms in omega (arith, n, l);
        event = λ name e. event_range config scope name refl e;
      }

  -- ---- bodies

  sound : (i : ℕ) (h : i < length bodies) → All (IsSound config app (func_of config scope (body_at bodies i)) scope (label_names (body_at bodies i).lines) (known i h)) (body_at bodies i).lines
  sound i h j d l =
      let body = body_at bodies i in
      subst (IsSound config app (func_of config scope body) scope (label_names body.lines) (known i h)) (get_or_default body.lines j Empty d l)
      ((all_bodies i no_body h).2 j Empty l, known_at scope bodies body_none i h j l)

  names_of_body : (i : ℕ) → i < length bodies → AreNames (label_names (body_at bodies i).lines)
  names_of_body i h =
      let body = body_at bodies i in
      record {
        each = All-kept is_label name_of IsName body.lines
            (λ j d l. subst (λ x. is_label x ≡ true → IsName (name_of x)) (get_or_default body.lines j Empty d l)
            (λ t. label_or (λ x. is_label x ≡ true → IsRead x → has_long x ≡ false → IsName (name_of x))
            (λ os t r s. label_name os r s) (λ x e t. absurd (true≢false (sym t ∙ e)))
            (line_at body j) t ((all_bodies i no_body h).2 j Empty l) (short_at scope bodies body_none i h j l)));
        distinct = labels_apart scope bodies body_none i h;
      }

  body_range : (i : ℕ) → i < length bodies → IsBody config app (func_of config scope (body_at bodies i))
  body_range i h =
      let body = body_at bodies i in
      let f = func_of config scope body in
      let labels = label_names body.lines in
      let lines = recursion_from_All (IsSound config app f scope labels (known i h)) body.lines (sound i h) in
      record {
        frame = few_words scope bodies body_none i h;
        label_names = subst AreNames (sym (names_of_labels config scope labels (body.line + 1) 0 body.lines)) (names_of_body i h);
        labels = All-weaker (IsPlacedIn config app f scope labels (known i h) (length f.items)) (IsLabelPlaced config f) (λ l p. record { place = p.0; holds = p.1 }) f.labels
            (labels_range config app f scope labels (known i h) (length f.items) (body.line + 1) 0 body.lines lines (omega arith));
        items = (items_range config app f scope labels (known i h) (body.line + 1) body.lines lines).0;
      }

  items_of_bodies : All (λ b. length (func_of config scope b).items ≡ items_in b) bodies
  items_of_bodies i d h =
      let body = body_at bodies i in
      let f = func_of config scope body in
      let labels = label_names body.lines in
      let lines = recursion_from_All (IsSound config app f scope labels (known i h)) body.lines (sound i h) in
      subst (λ b. length (func_of config scope b).items ≡ items_in b) (get_or_default bodies i no_body d h)
      (items_range config app f scope labels (known i h) (body.line + 1) body.lines lines).1

  names_of_functions : AreNames (function_names bodies)
  names_of_functions = record {
    each = All-map IsName body_name bodies
        (λ i d h. subst (λ b. IsName (body_name b)) (get_or_default bodies i no_body d h)
        (header_name (body_at bodies i).header (all_bodies i no_body h).0 (all_bodies i no_body h).1 (short_name scope bodies body_none i h)));
    distinct = apart;
  }

  limits : IsWithinLimits app
  limits =
      let f = length_funcs in
      let b = few_bodies scope bodies body_none in
      let s = sum-map (λ (f : Func). length f.items) app.funcs in
      let e = sum_mapped (func_of config scope) (λ (f : Func). length f.items) items_in bodies items_of_bodies in
      let i = few_items scope bodies body_none in
      let y = few_symbols ls read (λ r x. none r (inl x)) in
      let m = length-map (filter is_data ls) symbol_of in
      let n = length-filter is_data ls in
      record {
        few_bodies = omega (arith, f, b);
        few_items = omega (arith, s, e, i);
        few_symbols = omega (arith, y, m, n);
        few_bytes = few_bytes ls read (λ r x. none r (inl x));
      }

  same_names : map (λ (f : Func). f.name) app.funcs ≡ function_names bodies
  same_names = map-map (λ (f : Func). f.name) (func_of config scope) bodies

  same_symbols : map (λ (y : Symbol). y.name) app.symbols ≡ symbol_names ls
  same_symbols = map-map (λ (y : Symbol). y.name) symbol_of (filter is_data ls)

  pub in_range : AppInRange config app
  in_range = record {
    configuration = range;
    limits = limits;
    func_names = subst AreNames (sym same_names) names_of_functions;
    symbol_names = subst AreNames (sym same_symbols) (names ls read (λ r x. none r (inl x)));
    symbols = some_bytes ls read (λ r x. none r (inl x));
    tasks = tasks;
    bodies = All-map (IsBody config app) (func_of config scope) bodies
        (λ i d h. subst (λ b. IsBody config app (func_of config scope b)) (get_or_default bodies i no_body d h) (body_range i h));
  }

-- the task code of a text without a fault
pub text_in_range : (text : List ℕ) (config : Config) (app : App) → InRange config → NoFault (SourceTextFault config text) → AppText text config app → AppInRange config app
text_in_range text config a range none says =
    let lines : NoFault (SourceLinesFault text) = λ r x. none r (inl x) in
    subst (AppInRange config) (sym says) (in_range config (source_lines text) range (all_read text lines) (λ r x. none r (inr (lines, x))))
