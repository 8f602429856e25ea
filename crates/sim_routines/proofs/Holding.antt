-- GetResource and ReleaseResource are steps, and the relation stands behind them.
use Rattle.std.proofs.Common.{◌≡◌, ℕ, ◌%◌, ◌<◌, ◌≤◌, List, [], ◌∷◌, ◌++◌, length, refl, sym, ap, ◌∙◌, subst, arith, ⊎_elim, inl, inr, true, false, max}
use Rattle.std.specs.Prelude.{◌≢◌, ◌⊎◌, slice_index, Contains}
use Rattle.std.specs.List.{AllByRecursion}
use Rattle.std.proofs.lemmas.Bool.{cases_Bool, or_cases, eqb-true}
use Rattle.sloth_base.specs.Status.{E_OK}
use Rattle.sloth_base.specs.PriorityLevels.{level_of}
use Rattle.sloth_base.specs.declared.service.Service.TheVariants as service
use Rattle.sloth_base.specs.Machine.{State}
use Rattle.sloth_region.specs.Layout.{cur, saved_level, idle_context}
use Rattle.rv32_instr.specs.Ram.{word_at, with_word}
use Rattle.masked_code.proofs.Words.{word_at-same, get_or-with_word, length-with_word}
use Rattle.service_gen.specs.GetResource.{GetResourceEffect}
use Rattle.service_gen.specs.ReleaseResource.{ReleaseResourceEffect}
use Rattle.code_rules.specs.Code.{is_last, without_last}
use Rattle.osek_scheduler.specs.declared.state.TaskState.{TaskState}
use Rattle.osek_scheduler.specs.declared.state.TaskState.TheVariants as mode
use Rattle.osek_scheduler.specs.State.{Task, System, task, with_task}
use Rattle.sloth_base.specs.Named.{declaration}
use Rattle.sloth_base.specs.Limits.{task_limit, ceiling_count}
use Rattle.code_rules.specs.Code.{is_in}
use Rattle.osek_scheduler.specs.Priority.{is_active, ceiling}
use Rattle.osek_scheduler.specs.Services.{answered_task, is_there, GoesOn}
use Rattle.osek_scheduler.proofs.Stacks.{is_in-append, in-without_last}
use Rattle.sim_relation.specs.Build.{Build, HasFittingPlaces}
use Rattle.sim_relation.specs.Context.{RunsTask, RunsFirst}
use Rattle.sim_relation.specs.ServiceWords.{AreHeldWords, base_priority}
use Rattle.sim_relation.specs.Stands.{Stands, AreActive, IsActiveTask}
use Rattle.sim_relation.proofs.Levels.{level_of-few}
use Rattle.sim_relation.proofs.Parts.{held_kept, word_other}
use Rattle.sim_relation.proofs.Placed.{first_by_word}
use Rattle.sim_relation.proofs.Tops.{below_first}
use Rattle.sim_routines.specs.Served.{IsServed, IsServiceAnswer}
use Rattle.sim_routines.specs.ServiceSteps.{MayGoOn, MayHaveResource}
use Rattle.sim_routines.proofs.Answered.{long_status, status_held}
use Rattle.sim_routines.proofs.GoesOn.{active, long_registers, held_registers, answers_so}
use Rattle.sim_routines.proofs.HeldLevels.{with_held, current_is, with_one_more, words_push, Popped, words_pop, holds_at_least}
use Rattle.sim_routines.proofs.OtherLevel.{AtOtherLevel, at_other_level, position_behind}

is_mode : (m : TaskState) → is_active m ≡ true → m ≡ mode.Active
is_mode mode.Suspended e = cc
is_mode mode.Ready e = cc
is_mode mode.Active e = refl
is_mode (mode.Waiting mask) e = cc

-- The priority ceiling protocol: another task that holds the resource is below the running one, and so below the ceiling.
module _ (b : Build) (state : State) (s : System) (k : Stands b state s) (t : ℕ) (below : List ℕ) (stack_is : k.stack ≡ t ∷ below) (r : ℕ)
    (under : (declaration b.config t).priority ≤ ceiling b.config r) where
  stack : AreActive b s (t ∷ below)
  stack = subst (AreActive b s) stack_is k.active

  holds_not : (u : ℕ) → u < length b.config.tasks → u ≢ t → is_in r (task s u).held ≡ true → ⊥
  holds_not u l n h = ⊎_elim while_active at_rest (cases_Bool (is_active (task s u).state))
    where
      lower : is_in u below ≡ true → ⊥
      lower i =
          let first = below_first b s t below stack.falling u i in
          let most = holds_at_least b u (task s u) r h in
          let c = under in
          omega arith

      while_active : is_active (task s u).state ≡ true → ⊥
      while_active a =
          ⊎_elim (λ e. n (sym (eqb-true t u e))) lower (or_cases _ _ (stack.all u l (is_mode (task s u).state a)))

      at_rest : is_active (task s u).state ≡ false → ⊥
      at_rest a =
          let none = ((k.tidy.each u l).at_rest a).0 in
          let c : is_in r [] ≡ true = subst (λ x. is_in r x ≡ true) none h in
          cc

  -- what another task holds is another resource
  pub other_holder : (u q : ℕ) → u < length b.config.tasks → u ≢ t → is_in q (task s u).held ≡ true → q ≢ r
  other_holder u q l n h e = holds_not u l n (subst (λ x. is_in x (task s u).held ≡ true) e h)

module _ (b : Build) (state : State) (s : System) (t : ℕ) (called : Task) (object level : ℕ) (touched : List ℕ) (end : State) (fits : HasFittingPlaces b)
    (on : MayGoOn b state s t called service.GetResource object) (may : MayHaveResource b t called object level) (effect : GetResourceEffect object level touched state end) where
  abbrev is : IsServed b state s t called service.GetResource
  is = on.is_served

  abbrev k : Stands b state s
  k = is.stands

  abbrev own : Task
  own = task s t

  abbrev old : List ℕ
  old = state.core.ram

  abbrev new : List ℕ
  new = with_word old (saved_level object) state.core.ilevel

  abbrev held_now : List ℕ
  held_now = own.held ++ object ∷ []

  abbrev own_now : Task
  own_now = record (answered_task E_OK own) { held = held_now }

  abbrev base : ℕ
  base = base_priority b t own

  here : IsActiveTask b s t
  here = active b state s t called service.GetResource is fits

  not_yet : is_in object own.held ≡ false
  not_yet = ap (λ (o : Task). is_in object o.held) is.own_is ∙ may.new

  runs_at : state.core.ilevel ≡ level_of b.config (with_held b base own.held)
  runs_at =
      let f = first_by_word b state s t k.stack k.running is.opening.current in
      let run : RunsTask b state s t f.0 = subst (RunsFirst b state s) f.1 k.running in
      run.level ∙ ap (level_of b.config) (current_is b t own)

  small : state.core.ilevel < 4294967296
  small = let e = runs_at in let m = level_of-few b.config (with_held b base own.held) in let f = fits.few_tasks in omega arith

  named : (p : ℕ) → p % 4 ≡ 0 → p ≢ saved_level object → word_at new p ≡ word_at old p
  named p a n = word_other old (saved_level object) state.core.ilevel p a (omega arith) n

  saved_is : word_at new (saved_level object) ≡ level_of b.config (with_held b base own.held)
  saved_is = let f = k.fixed.ram in let l = may.is_resource in word_at-same old (saved_level object) state.core.ilevel (omega arith) small ∙ runs_at

  differs : (q : ℕ) → is_in q own.held ≡ true → saved_level q ≢ saved_level object
  differs q i e = let same : q ≡ object = omega arith in let c : is_in object own.held ≡ true = subst (λ x. is_in x own.held ≡ true) same i in let d = not_yet in cc

  words : AreHeldWords b new base held_now
  words =
      words_push b new base own.held object
      (held_kept b old new base own.held (λ q i. named (saved_level q) (omega arith) (differs q i)) (k.words t here.declared).held) saved_is

  few : (q : ℕ) → is_in q held_now ≡ true → q < ceiling_count
  few q i = by (or_cases _ _ (sym (is_in-append q own.held (object ∷ [])) ∙ i))
    where
      by : (is_in q own.held ≡ true) ⊎ (is_in q (object ∷ []) ≡ true) → q < ceiling_count
      by (inl e) = (k.tidy.each t here.declared).few q e
      by (inr e) = ⊎_elim (λ x. let same = eqb-true object q x in let l = may.is_resource in omega arith) (λ x. absurd cc) (or_cases _ _ e)

  others : (u q : ℕ) → u < length b.config.tasks → u ≢ t → is_in q (task s u).held ≡ true → word_at new (saved_level q) ≡ word_at old (saved_level q)
  others u q l n i =
      let f = first_by_word b state s t k.stack k.running is.opening.current in
      named (saved_level q) (omega arith) (λ e. other_holder b state s k t f.0 f.1 object may.below u q l n i (omega arith))

  high : (i : ℕ) → idle_context ≤ i → slice_index new i ≡ slice_index old i
  high i h = let l = may.is_resource in get_or-with_word old (saved_level object) state.core.ilevel i (inr (omega arith))

  holds : AtOtherLevel b state s t object own_now (max state.core.ilevel level) new end
  holds =
      let long = long_registers b state s t called service.GetResource is fits in
      let same = held_registers b state s t called service.GetResource is fits in
      record {
        left = effect.back.left;
        x2 = effect.back.x2;
        active = here.active;
        events = refl;
        long = long_status own.registers state.core.registers end.core.registers long same E_OK effect.status;
        same = status_held own.registers state.core.registers end.core.registers long same E_OK effect.status effect.back.kept;
        words = words;
        few = few;
        ram_long = length-with_word old (saved_level object) state.core.ilevel;
        high = high;
        named = named;
        others = others;
        level_is = λ below run. ap (λ x. max x level) runs_at ∙ may.is_level (with_held b base own.held)
            ∙ sym (ap (level_of b.config) (current_is b t own_now ∙ with_one_more b base own.held object));
        position = position_behind b state s t called service.GetResource is fits on.followed end effect.back.pc new effect.back.left.ram
            high own_now refl refl;
      }

  -- GetResource
  pub takes : IsServiceAnswer b s t service.GetResource touched end
  takes =
      answers_so b state s t called service.GetResource is fits touched end t t
      (subst (AllByRecursion (Contains (t ∷ t ∷ []))) (sym effect.touches) tt)
      (subst (λ o. is_there b.config called.held service.GetResource o ≡ true) (sym on.object_is) on.names)
      E_OK effect.status (with_task s t own_now)
      (ap (λ o. GoesOn E_OK (with_task s t (record (answered_task E_OK own) { held = own.held ++ (o ∷ []) }))) on.object_is)
      (at_other_level b state s k fits t is.opening.current object own_now (max state.core.ilevel level) new end holds)
      (ap (λ r. word_at r cur) effect.back.left.ram ∙ named cur (omega arith) (λ e. omega arith))

module _ (b : Build) (state : State) (s : System) (k : Stands b state s) (t : ℕ) (declared : t < length b.config.tasks) (r : ℕ) (last : is_last r (task s t).held ≡ true) where
  -- the words of what is still held
  pub popped : Popped b state.core.ram (base_priority b t (task s t)) (task s t).held r
  popped = words_pop b state.core.ram (base_priority b t (task s t)) (task s t).held r last (k.words t declared).held

  -- the saved level has room in a byte
  pub saved_few : length b.config.tasks ≤ task_limit → word_at state.core.ram (saved_level r) < 256
  saved_few f =
      let e = popped.level in
      let m = level_of-few b.config (with_held b (base_priority b t (task s t)) (without_last (task s t).held)) in
      omega arith

module _ (b : Build) (state : State) (s : System) (t : ℕ) (called : Task) (object : ℕ) (touched : List ℕ) (end : State) (fits : HasFittingPlaces b)
    (on : MayGoOn b state s t called service.ReleaseResource object) (effect : ReleaseResourceEffect object touched state end) where
  abbrev release_is : IsServed b state s t called service.ReleaseResource
  release_is = on.is_served

  abbrev releasing : Task
  releasing = task s t

  abbrev released : Task
  released = record (answered_task E_OK releasing) { held = without_last releasing.held }

  releaser : IsActiveTask b s t
  releaser = active b state s t called service.ReleaseResource release_is fits

  pop : Popped b state.core.ram (base_priority b t releasing) releasing.held object
  pop = popped b state s release_is.stands t releaser.declared object (ap (λ (o : Task). is_last object o.held) release_is.own_is ∙ on.names)

  releases_to : AtOtherLevel b state s t object released (word_at state.core.ram (saved_level object)) state.core.ram end
  releases_to =
      let long = long_registers b state s t called service.ReleaseResource release_is fits in
      let same = held_registers b state s t called service.ReleaseResource release_is fits in
      record {
        left = effect.back.left;
        x2 = effect.back.x2;
        active = releaser.active;
        events = refl;
        long = long_status releasing.registers state.core.registers end.core.registers long same E_OK effect.status;
        same = status_held releasing.registers state.core.registers end.core.registers long same E_OK effect.status effect.back.kept;
        words = pop.words;
        few = λ q i. (release_is.stands.tidy.each t releaser.declared).few q (in-without_last q releasing.held i);
        ram_long = refl;
        high = λ i h. refl;
        named = λ p a n. refl;
        others = λ u q l n i. refl;
        level_is = λ below run. pop.level ∙ sym (ap (level_of b.config) (current_is b t released));
        position = position_behind b state s t called service.ReleaseResource release_is fits on.followed end effect.back.pc state.core.ram effect.back.left.ram
            (λ i h. refl) released refl refl;
      }

  -- ReleaseResource
  pub releases : IsServiceAnswer b s t service.ReleaseResource touched end
  releases =
      answers_so b state s t called service.ReleaseResource release_is fits touched end t t
      (subst (AllByRecursion (Contains (t ∷ t ∷ []))) (sym effect.touches) tt)
      (subst (λ o. is_there b.config called.held service.ReleaseResource o ≡ true) (sym on.object_is) on.names)
      E_OK effect.status (with_task s t released) refl
      (at_other_level b state s release_is.stands fits t release_is.opening.current object released (word_at state.core.ram (saved_level object))
      state.core.ram end releases_to)
      (ap (λ r. word_at r cur) effect.back.left.ram)
