-- The contract of the generator of prologues, for what is built.
use Rattle.std.proofs.Common.{◌≡◌, ℕ, ◌+◌, ◌-◌, ◌*◌, ◌<◌, ◌≤◌, List, [], ◌∷◌, length, get_or, refl, sym, ap, ◌∙◌, subst, arith, Bool, true, false, cond, leb}
use Rattle.std.specs.Prelude.{map, slice_index}
use Rattle.std.proofs.lemmas.Bool.{le-leb}
use Rattle.std.proofs.lemmas.List.Sums.{sum_by-cons}
use Rattle.std.proofs.lemmas.Option.{get_or_from_slice_get}
use Rattle.sloth_base.specs.declared.app.Func.{Func}
use Rattle.sloth_base.specs.declared.config.Config.{Config}
use Rattle.sloth_base.specs.declared.config.TaskDecl.{TaskDecl}
use Rattle.sloth_base.specs.declared.limits.Levels.{Levels}
use Rattle.sloth_region.specs.declared.region.Map.{Map}
use Rattle.rv32_instr.specs.declared.InstrKind.{InstrKind}
use Rattle.rv32_expand.specs.Expansion.{item_address}
use Rattle.sloth_base.specs.Named.{declaration, undeclared_task, body_of}
use Rattle.sloth_base.specs.Named.{function, no_function}
use Rattle.osek_scheduler.specs.Priority.{greatest, highest_priority}
use Rattle.vector_gen.specs.Places.{IsTaskPrologue, IsPrologueCode, frame_at, first_item}
use Rattle.vector_gen.specs.Places as generator
use Rattle.sloth_base.specs.PriorityLevels.{level_of}
use Rattle.sim_relation.specs.Build.{Build, HasFittingPlaces, start_level}
use Rattle.sim_relation.proofs.Levels.{levels_in}
use Rattle.sim_relation.proofs.Room.{first_room}
use Rattle.sim_routines.specs.Entries.{IsEntryBuilt, body_frame_words}
use Rattle.sim_routines.specs.Generated.{IsBuiltFrom, HasOneBody}

-- the level of a priority that is no less than all is the number of tasks
all_counted : (ds : List TaskDecl) (p : ℕ) → greatest (map (λ (d : TaskDecl). d.priority) ds) ≤ p → levels_in ds p ≡ length ds
all_counted [] p h = refl
all_counted (d ∷ ds) p h =
    let c = sum_by-cons (λ (d : TaskDecl). cond (leb d.priority p) 1 0) d ds in
    let e : ◌≡◌ {A = ℕ} (cond (leb d.priority p) 1 0) 1 = ap (λ x. cond x 1 0) (le-leb d.priority p (omega arith)) in
    let rest = all_counted ds p (omega arith) in
    omega arith

-- the level of the highest priority is that of all tasks
pub highest_level : (config : Config) → level_of config (highest_priority config) ≡ length config.tasks
highest_level config = all_counted config.tasks (highest_priority config) (omega arith)

module _ (b : Build) (levels : Levels) (map_of : Map) (t : ℕ) (code : List InstrKind) (fits : HasFittingPlaces b) (built : IsBuiltFrom b levels map_of) (declared : t < length b.config.tasks)
    (one : HasOneBody b t) (enters : IsTaskPrologue t b.config b.app levels map_of code) where
  body : enters.body ≡ body_of b.app.funcs t
  body = one enters.body enters.func enters.is_func enters.is_body

  func : function b.app (body_of b.app.funcs t) ≡ enters.func
  func = ap (λ f. get_or b.app.funcs f no_function) (sym body) ∙ get_or_from_slice_get b.app.funcs enters.body enters.func no_function enters.is_func

  words : enters.func.frame_words ≡ body_frame_words b t
  words = sym (ap (λ (f : Func). f.frame_words) func)

  decl : declaration b.config t ≡ enters.decl
  decl = get_or_from_slice_get b.config.tasks t enters.decl undeclared_task enters.is_decl

  by_scheduling : (non : Bool) (top own : ℕ) (p q : ℕ) → top ≡ level_of b.config p → own ≡ level_of b.config q → cond non top own ≡ level_of b.config (cond non p q)
  by_scheduling true top own p q e f = e
  by_scheduling false top own p q e f = f

  level : generator.start_level enters.decl t levels ≡ start_level b t
  level =
      ap (λ (d : TaskDecl). generator.start_level d t levels) (sym decl)
      ∙ by_scheduling (declaration b.config t).non levels.top (slice_index levels.task t) (highest_priority b.config) (declaration b.config t).priority
      (built.highest ∙ sym (highest_level b.config)) (built.ranks t declared)

  first : first_item map_of.places enters.body ≡ item_address b.places (body_of b.app.funcs t) 0
  first =
      let e : slice_index map_of.places.first enters.body ≡ slice_index map_of.places.first enters.body + 0 = omega arith in
      ap (λ i. slice_index map_of.places.items i) e ∙ ap (λ p. item_address p enters.body 0) (sym built.places) ∙ ap (λ f. item_address b.places f 0) body

  frame : frame_at (slice_index map_of.tops t) enters.func.frame_words ≡ b.top t - 4 * body_frame_words b t
  frame =
      let w = words in
      let e = built.tops t declared in
      let r = first_room b fits t declared in
      omega arith

  -- the code of a generated prologue enters its task
  pub enters_built : IsEntryBuilt b t code
  enters_built =
      let kind : Bool = (declaration b.config t).extended in
      let at : ℕ = frame_at (slice_index map_of.tops t) enters.func.frame_words in
      subst (λ x. IsPrologueCode kind t (start_level b t) (item_address b.places (body_of b.app.funcs t) 0) (b.top t - 4 * body_frame_words b t) x code) words
      (subst (λ x. IsPrologueCode kind t (start_level b t) (item_address b.places (body_of b.app.funcs t) 0) x enters.func.frame_words code) frame
      (subst (λ x. IsPrologueCode kind t (start_level b t) x at enters.func.frame_words code) first
      (subst (λ x. IsPrologueCode kind t x (first_item map_of.places enters.body) at enters.func.frame_words code) level
      (subst (λ (d : TaskDecl). IsPrologueCode d.extended t (generator.start_level enters.decl t levels) (first_item map_of.places enters.body) at enters.func.frame_words code)
      (sym decl) enters.enters))))
