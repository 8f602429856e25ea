-- The kernel's words rise.
use Rattle.std.proofs.Common.{◌≡◌, ◌<◌, ◌≤◌, ◌+◌, ◌*◌, ◌∙◌, inl, inr, ℕ, zero, suc, Bool, true, false, List, [], ◌∷◌, ◌++◌, codes, length, get_or, drop, refl, sym, ap, arith}
use Rattle.sloth_base.specs.ConfigRange.{InRange, scheduler_number}
use Rattle.sloth_base.specs.Named.{undeclared_alarm, undeclared_counter, undeclared_task}
use Rattle.sloth_base.specs.declared.config.AlarmDecl.{AlarmDecl}
use Rattle.sloth_base.specs.declared.config.Config.{Config}
use Rattle.sloth_base.specs.declared.config.CounterDecl.{CounterDecl}
use Rattle.sloth_base.specs.declared.config.TaskDecl.{TaskDecl}
use Rattle.map_text.specs.PieceNames.{joined}
use Rattle.symbol_image.specs.Symbols.{alarm_words, context_symbol, counter_words, context_and_level_symbols, resume_words, saved_words, scheduler_words, state_words, word_symbols}
use Rattle.symbol_image.specs.declared.symbol.Symbol.{Symbol}
use Rattle.symbol_build.proofs.LocalNames.{Active, Cycle, Events, Front, IsLocal, IsThere, Kernel, Left, Resume, Saved, Value, Wait, front_text, object_name, place, resource_is, sort_of}
use Rattle.symbol_build.proofs.RisingNames.{Rises, rise_both, rise_from}

-- what is left of a list behind so many elements
record Left_of {X : Type 0} (xs : List X) (k : ℕ) (x d : X) (rest : List X) : Type 0 where
  inside : k < length xs
  is : get_or xs k d ≡ x
  rest_is : rest ≡ drop (k + 1) xs

left-of : {X : Type 0} (xs : List X) (k : ℕ) (x d : X) (rest : List X) → x ∷ rest ≡ drop k xs → Left_of xs k x d rest
left-of [] zero x d rest e = absurd (cc)
left-of [] (suc k) x d rest e = absurd (cc)
left-of (y ∷ ys) zero x d rest e =
    let both : x ∷ rest ≡ y ∷ ys = e in
    let head : y ≡ x = cc in
    let tail : rest ≡ ys = cc in
    let on : suc zero ≡ zero + 1 = omega arith in
    record { inside = omega arith; is = head; rest_is = tail ∙ ap (λ n. drop n (y ∷ ys)) on }
left-of (y ∷ ys) (suc k) x d rest e =
    let h = left-of ys k x d rest e in
    let inside = h.inside in
    let on : suc (k + 1) ≡ suc k + 1 = omega arith in
    record { inside = omega (arith, inside); is = h.is; rest_is = h.rest_is ∙ ap (λ n. drop n (y ∷ ys)) on }

module _ (config : Config) (range : InRange config) where
  -- a symbol of this name
  pub local : (f : Front) (number : ℕ) (s : Symbol) → IsThere config (sort_of f) number
      → s.name ≡ joined (front_text f) (object_name config (sort_of f) number) → IsLocal config (place f number) s
  local f number s there name = record { front = f; number = number; there = there; key_is = refl; name_is = name }

  states : (k : ℕ) (tasks : List TaskDecl) → k ≤ length config.tasks → tasks ≡ drop k config.tasks → Rises config (3 * k + 1) 100 (state_words k tasks)
  states k [] le e = let few = range.few_tasks in omega (arith, le, few)
  states k (d ∷ tasks) le e =
      let at = left-of config.tasks k d undeclared_task tasks e in
      let inside = at.inside in
      let name : (f : List ℕ) → joined f d.name ≡ joined f (get_or config.tasks k undeclared_task).name = λ f. ap (λ (t : TaskDecl). joined f t.name) (sym at.is) in
      record {
        key = 3 * k + 1;
        above = omega arith;
        is = local Active k _ inside (name (codes "active"));
        rest = record {
          key = 3 * k + 2;
          above = omega arith;
          is = local Events k _ inside (name (codes "events"));
          rest = record {
            key = 3 * k + 3;
            above = omega arith;
            is = local Wait k _ inside (name (codes "wait"));
            rest = rise_from config (3 * k + 3 + 1) (3 * (k + 1) + 1) 100 (state_words (k + 1) tasks) (omega arith)
                (states (k + 1) tasks (omega (arith, inside)) at.rest_is);
          };
        };
      }

  values : (k : ℕ) (counters : List CounterDecl) → k ≤ length config.counters → counters ≡ drop k config.counters
      → Rises config (100 + k) 200 (counter_words k counters)
  values k [] le e = let few = range.few_counters in omega (arith, le, few)
  values k (d ∷ counters) le e =
      let at = left-of config.counters k d undeclared_counter counters e in
      let inside = at.inside in
      record {
        key = 100 + k;
        above = omega arith;
        is = local Value k _ inside (ap (λ (c : CounterDecl). joined (codes "value") c.name) (sym at.is));
        rest = rise_from config (100 + k + 1) (100 + (k + 1)) 200 (counter_words (k + 1) counters) (omega arith)
            (values (k + 1) counters (omega (arith, inside)) at.rest_is);
      }

  alarms : (k : ℕ) (all : List AlarmDecl) → k ≤ length config.alarms → all ≡ drop k config.alarms → Rises config (200 + 2 * k) 300 (alarm_words k all)
  alarms k [] le e = let few = range.few_alarms in omega (arith, le, few)
  alarms k (d ∷ all) le e =
      let at = left-of config.alarms k d undeclared_alarm all e in
      let inside = at.inside in
      let name : (f : List ℕ) → joined f d.name ≡ joined f (get_or config.alarms k undeclared_alarm).name = λ f. ap (λ (a : AlarmDecl). joined f a.name) (sym at.is) in
      record {
        key = 200 + 2 * k;
        above = omega arith;
        is = local Left k _ inside (name (codes "left"));
        rest = record {
          key = 201 + 2 * k;
          above = omega arith;
          is = local Cycle k _ inside (name (codes "cycle"));
          rest = rise_from config (201 + 2 * k + 1) (200 + 2 * (k + 1)) 300 (alarm_words (k + 1) all) (omega arith)
              (alarms (k + 1) all (omega (arith, inside)) at.rest_is);
        };
      }

  resumes : (k : ℕ) (tasks : List TaskDecl) → k ≤ length config.tasks → tasks ≡ drop k config.tasks → Rises config (400 + k) 500 (resume_words k tasks)
  resumes k [] le e = let few = range.few_tasks in omega (arith, le, few)
  resumes k (d ∷ tasks) le e =
      let at = left-of config.tasks k d undeclared_task tasks e in
      let inside = at.inside in
      record {
        key = 400 + k;
        above = omega arith;
        is = local Resume k _ inside (ap (λ (t : TaskDecl). joined (codes "resume") t.name) (sym at.is));
        rest = rise_from config (400 + k + 1) (400 + (k + 1)) 500 (resume_words (k + 1) tasks) (omega arith)
            (resumes (k + 1) tasks (omega (arith, inside)) at.rest_is);
      }

  saved : (k : ℕ) (names : List (List ℕ)) → k ≤ length config.resources → names ≡ drop k config.resources
      → Rises config (500 + k) (500 + scheduler_number) (saved_words k names)
  saved k [] le e = let few = range.few_resources in omega (arith, le, few)
  saved k (name ∷ names) le e =
      let at = left-of config.resources k name [] names e in
      let inside = at.inside in
      record {
        key = 500 + k;
        above = omega arith;
        is = local Saved k _ (inl inside) (ap (λ (n : List ℕ). joined (codes "saved") n) (sym (resource_is config range k inside ∙ at.is)));
        rest = rise_from config (500 + k + 1) (500 + (k + 1)) (500 + scheduler_number) (saved_words (k + 1) names) (omega arith)
            (saved (k + 1) names (omega (arith, inside)) at.rest_is);
      }

  scheduler : (exists : Bool) → config.res_scheduler ≡ exists → Rises config (500 + scheduler_number) 600 (scheduler_words exists)
  scheduler false e = omega arith
  scheduler true e = record {
    key = 500 + scheduler_number;
    above = omega arith;
    is = local Saved scheduler_number _ (inr (refl, e)) refl;
    rest = omega arith;
  }

  context : Rises config 600 700 (context_symbol ∷ [])
  context = record { key = 600; above = omega arith; is = local Kernel 2 context_symbol (omega arith) refl; rest = omega arith }

  pub words_rise : Rises config 0 700 (word_symbols config)
  unfolding word_symbols
  words_rise =
      let first =
      rise_both config 1 100 300 (state_words 0 config.tasks) (counter_words 0 config.counters ++ alarm_words 0 config.alarms) (states 0 config.tasks (omega arith) refl)
      (rise_both config 100 200 300 (counter_words 0 config.counters) (alarm_words 0 config.alarms) (values 0 config.counters (omega arith) refl)
      (alarms 0 config.alarms (omega arith) refl)) in
      let last =
      rise_both config 400 500 700 (resume_words 0 config.tasks) (saved_words 0 config.resources ++ (scheduler_words config.res_scheduler ++ context_symbol ∷ []))
      (resumes 0 config.tasks (omega arith) refl)
      (rise_both config 500 (500 + scheduler_number) 700 (saved_words 0 config.resources) (scheduler_words config.res_scheduler ++ context_symbol ∷ [])
      (saved 0 config.resources (omega arith) refl)
      (rise_both config (500 + scheduler_number) 600 700 (scheduler_words config.res_scheduler) (context_symbol ∷ []) (scheduler config.res_scheduler refl) context)) in
      record {
        key = 0;
        above = omega arith;
        is = local Kernel 0 _ (omega arith) refl;
        rest =
            rise_both config 1 300 700 (state_words 0 config.tasks ++ (counter_words 0 config.counters ++ alarm_words 0 config.alarms)) (context_and_level_symbols config) first
            (record { key = 300; above = omega arith; is = local Kernel 1 _ (omega arith) refl; rest = rise_from config 301 400 700 _ (omega arith) last });
      }
