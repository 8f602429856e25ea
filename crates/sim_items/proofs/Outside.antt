-- Instructions outside the stretches.
use Rattle.std.proofs.Common.{◌≡◌, ℕ, ◌+◌, ◌*◌, ◌<◌, ◌≤◌, List, [], ◌∷◌, length, refl, sym, ap, ◌∙◌, subst, arith, Some, None, cond}
use Rattle.std.specs.Prelude.{slice_index, IfSome, Contains}
use Rattle.sloth_base.specs.declared.image.Mark.{Mark}
use Rattle.sloth_base.specs.declared.image.MarkKind.TheVariants as kind
use Rattle.sloth_base.specs.declared.service.Event.{Event}
use Rattle.sloth_base.specs.declared.service.Event.TheVariants as event
use Rattle.sloth_base.specs.declared.service.Arrival.{Arrival}
use Rattle.sloth_base.specs.Choose.{choose}
use Rattle.sloth_base.specs.Machine.{State}
use Rattle.sloth_base.specs.Take.{line_to_take, entry_state}
use Rattle.sloth_region.specs.Layout.{cur}
use Rattle.rv32_instr.specs.Ram.{word_at}
use Rattle.rv32_instr.specs.Execute.{Going, step, touched}
use Rattle.rv32_machine.specs.Run.{state_with_arrivals}
use Rattle.masked_code.specs.Place.{offset_state, InPlace}
use Rattle.rv32_expand.specs.Expansion.{item_address, expansion}
use Rattle.sloth_base.specs.Named.{operation, function}
use Rattle.sloth_base.specs.declared.numbers.Owners.{Owners}
use Rattle.sloth_base.specs.MemoryMap.{memory_base, memory_bytes, line_count}
use Rattle.rv32_expand.specs.InPlace.{result_register, item_mark, mark_of, last_address}
use Rattle.observe.specs.Observe.{View, mark_at, running_task, outside_events, events_of_kind}
use Rattle.osek_scheduler.specs.State.{System}
use Rattle.osek_scheduler.specs.Priority.{IsTop}
use Rattle.osek_scheduler.specs.Steps.{settled_state}
use Rattle.sim_induction.specs.Admits.{Setting, lines_at, with_admits}
use Rattle.sim_induction.specs.PieceLaws.{OutsideLaw, IsOutsideStep, MakesProgress, RunsOn, seen_step_at}
use Rattle.sim_induction.proofs.Routes.{begins_none}
use Rattle.sim_induction.proofs.Schedule.{owned_at}
use Rattle.sim_induction.proofs.Stretched.{task_is}
use Rattle.sim_relation.specs.Build.{Build}
use Rattle.sim_relation.specs.Context.{RunsFirst, RunsIdle}
use Rattle.sim_relation.specs.Stands.{Stands}
use Rattle.sim_relation.proofs.Arrive.{stands_arrived, stands_fresh}
use Rattle.sim_relation.proofs.Placed.{placed_in, first_by_word}
use Rattle.sim_relation.proofs.Choice.{quiet, running_top, none_due}
use Rattle.sim_items.proofs.Cases.{mark_shows}
use Rattle.sim_items.specs.Place.{AtItem, ItemStands, IsStraight, HasNumbers}
use Rattle.sim_items.specs.ItemSteps.{RunsItem}
use Rattle.sim_relation.specs.Placed.{item_words, setting_of}
use Rattle.sim_items.specs.Outside.{StandsAt, GoesOutside, HasIdle}
use Rattle.sim_items.proofs.Straight.{straight_run}

module _ (b : Build) (view : View) (arrivals : List Arrival) (progress : State → System → ℕ) (count : ℕ) (state : State) (s : System) (here : StandsAt b view arrivals count state s) where
  abbrev pub n : State
  n = state_with_arrivals arrivals count state

  abbrev pub s1 : System
  s1 = with_admits (lines_at arrivals count) s

  abbrev pub given : Setting
  given = setting_of b view arrivals

  pub few : length b.config.tasks ≤ line_count
  few = let f = here.fits.few_tasks in omega arith

  pub now : Stands b n s1
  now = stands_arrived b (lines_at arrivals count) state s here.fits.few_tasks (owned_at (setting_of b view arrivals) here.setting count) here.stands

  pub none : line_to_take n ≡ None
  none = ap (λ m. cond m (choose n.core) None) here.stands.fixed.open_to_lines ∙ here.none

  -- any instruction after which the relation stands
  pub one_instruction : (next : State) (whats : List Event) (after : System) → step n ≡ Going next → touched n ≡ None
      → outside_events (mark_at view n.pc) view (seen_step_at given count state next) ≡ whats → IsOutsideStep given whats s1 after
      → MakesProgress (item_words b) whats (progress state s) (progress next after) → RunsOn (word_at state.core.ram cur) (word_at next.core.ram cur) whats
      → Stands b next after → OutsideLaw given (Stands b) progress count state s next
  one_instruction next whats after goes quiet shown shows rises runs related = record {
    goes = ap (λ o. step (entry_state o n)) none ∙ goes;
    outside = begins_none count n next here.after_boot none related.fixed.open_to_lines;
    untouched = subst (λ o. IfSome o (Contains [])) (sym (ap (λ o. touched (entry_state o n)) none ∙ quiet)) tt;
    whats = whats;
    whats_are = ap (λ o. outside_events (mark_at view (entry_state o n).pc) view (seen_step_at given count state next)) none ∙ shown;
    after = after;
    shows = shows;
    progresses = rises;
    runs_on = runs;
    related = related;
  }

  -- what it shows at a mark
  pub marked_shows : (next : State) (mark : Mark) (whats : List Event) → mark_at view n.pc ≡ Some mark
      → events_of_kind mark.kind view mark (seen_step_at given count state next) ≡ whats → outside_events (mark_at view n.pc) view (seen_step_at given count state next) ≡ whats
  marked_shows next mark whats marked shown = ap (λ m. outside_events m view (seen_step_at given count state next)) marked ∙ shown

  -- the running task is the top task
  pub top_here : (t : ℕ) → word_at n.core.ram cur ≡ t + 1 → IsTop b.config s1 [] t
  top_here t current = let f = first_by_word b n s1 t now.stack now.running current in running_top b n s1 now few here.none t f.0 f.1

  -- the last instruction of an item that is no service
  module _ (t : ℕ) (current : word_at n.core.ram cur ≡ t + 1) (func item : ℕ) (runs : RunsItem b n s1 t func item) (placed : ItemStands b view func item)
      (at_last : n.pc ≡ last_address b.app b.places func item)
      (is_item : (address : ℕ) → mark_of (operation b.app func item) address func item
      ≡ record { address = address; kind = kind.Item; a = result_register (operation b.app func item); b = func; c = item })
      (early : progress state s < item_words b func item) where
    abbrev mark : Mark
    mark = item_mark b.app b.places func item

    abbrev result : ℕ
    result = slice_index runs.next.core.registers (result_register (operation b.app func item))

    shown : events_of_kind mark.kind view mark (seen_step_at given count state runs.next) ≡ event.Run t func item result ∷ []
    shown =
        let l : t < view.owners.tasks = let v = ap (λ (o : Owners). o.tasks) here.setting.owners in let h = (top_here t current).declared in omega arith in
        ap (λ m. events_of_kind m.kind view m (seen_step_at given count state runs.next)) (is_item (last_address b.app b.places func item))
        ∙ ap (λ u. event.Run u func item result ∷ []) (ap (running_task view.owners.tasks) current ∙ task_is view.owners.tasks t l)

    -- an instruction with a mark shows its event
    pub committed_outside : GoesOutside b view arrivals progress count state s
    committed_outside = (
      runs.next,
      one_instruction runs.next _ runs.after runs.goes runs.untouched
          (marked_shows runs.next mark _ (ap (mark_at view) at_last ∙ placed.marked) shown) runs.step_is early (current, runs.current) runs.stands,
    )

  pub last_at : (func item done : ℕ) → n.pc ≡ item_address b.places func item + 4 * done → done + 1 ≡ length (expansion b.app b.places func item) → n.pc ≡ last_address b.app b.places func item
  last_at func item done p l = omega arith

  -- one behind which the next item follows
  module _ (t : ℕ) (item : AtItem b n s1 t) (numbers : HasNumbers b n s1) (is : IsStraight b.app item.frame.func (operation b.app item.frame.func item.frame.item))
      (placed : ItemStands b view item.frame.func item.frame.item)
      (last : item.here.done + 1 ≡ length (expansion b.app b.places item.frame.func item.frame.item))
      (more : item.frame.item + 1 < length (function b.app item.frame.func).items) (early : progress state s < item_words b item.frame.func item.frame.item) where
    -- the last instruction of an item
    pub item_outside : GoesOutside b view arrivals progress count state s
    item_outside =
        committed_outside t item.current item.frame.func item.frame.item
        (straight_run b view n s1 t here.fits now item (top_here t item.current) numbers is placed last more) placed
        (last_at item.frame.func item.frame.item item.here.done item.here.pc last)
        (λ address. mark_shows b.app item.frame.func address item.frame.item (operation b.app item.frame.func item.frame.item) is)
        early

  -- the idle loop
  module _ (idle_word : word_at state.core.ram cur ≡ 0) (idle : HasIdle b view) (still : progress state s ≡ 0) where
    empty : now.stack ≡ []
    empty = by now.stack refl
      where
        by : (stack : List ℕ) → now.stack ≡ stack → now.stack ≡ []
        by [] e = e
        by (t ∷ below) e = let r = (subst (RunsFirst b n s1) e now.running).current in absurd (omega arith)

    runs_idle : RunsIdle b n
    runs_idle = subst (RunsFirst b n s1) empty now.running

    pc_is : n.pc ≡ memory_base + idle.offset
    pc_is = runs_idle.pc ∙ idle.is

    n_is : n ≡ offset_state idle.offset n.core
    n_is = ap (λ p. record { pc = p; core = n.core }) pc_is

    placed : InPlace n.core.ram idle.offset idle.code
    placed = placed_in b n.core.ram idle.offset idle.code now.fixed.code idle.placed

    inside : idle.offset + 4 ≤ memory_bytes
    inside = let l = idle.placed.inside in let w = idle.idles.word in omega arith

    stays : step n ≡ Going n
    stays = ap step n_is ∙ idle.idles.stays idle.offset n.core idle.placed.aligned inside placed ∙ ap Going (sym n_is)

    -- the idle loop
    pub idle_outside : GoesOutside b view arrivals progress count state s
    idle_outside = (
      n,
      one_instruction n (event.Idle ∷ []) (settled_state s1) stays (ap touched n_is ∙ idle.idles.untouched idle.offset n.core placed)
          (marked_shows n idle.mark (event.Idle ∷ []) (ap (mark_at view) runs_idle.pc ∙ idle.marked)
          (ap (λ k. events_of_kind k view idle.mark (seen_step_at given count state n)) idle.shows))
          (now.tidy.booted, none_due b n s1 now few here.none empty, quiet b n s1 now here.none, refl) (let less : progress state s < 1 = omega (arith, still) in less) (idle_word, idle_word) (stands_fresh b n s1 [] now),
    )
