-- The measure of the instructions that show nothing is at most the next item of the task that runs.
use Rattle.std.proofs.Common.{◌≡◌, ◌∙◌, ℕ, zero, suc, ◌+◌, ◌<◌, ◌≤◌, Bool, true, false, cond, List, [], ◌∷◌, length, refl, sym, ap, subst, arith}
use Rattle.std.proofs.lemmas.Bool.{lt-ltb}
use Rattle.sloth_base.specs.declared.service.Arrival.{Arrival}
use Rattle.sloth_base.specs.Machine.{State}
use Rattle.sloth_base.specs.Named.{function}
use Rattle.sloth_region.specs.Layout.{cur}
use Rattle.rv32_instr.specs.Ram.{word_at}
use Rattle.rv32_expand.specs.Expansion.{item_address, expansion}
use Rattle.observe.specs.Observe.{View}
use Rattle.osek_scheduler.specs.State.{Frame, Task, System, task}
use Rattle.sim_induction.specs.Pace.{AreAtMost, next_size, next_size_of}
use Rattle.sim_induction.specs.Admits.{with_admits}
use Rattle.sim_induction.specs.PieceLaws.{IsMeasure}
use Rattle.sim_induction.proofs.Passing.{not_suspended, kept_admits}
use Rattle.sim_relation.specs.Build.{Build}
use Rattle.sim_relation.specs.Context.{RunsFirst, RunsTask}
use Rattle.sim_relation.specs.Placed.{item_words, setting_of}
use Rattle.sim_relation.specs.Stands.{Stands}
use Rattle.sim_relation.proofs.Placed.{first_by_word, active_by_word}
use Rattle.sim_items.specs.Progress.{passed_count_in, passed_count_of, passed_count_by, progress_in}
use Rattle.sim_items.proofs.Passing.{passed_few, none_passed}

module _ (b : Build) where
  -- of an item that there is
  item_few : (pc : ℕ) (frame : Frame) (outer : List Frame) → frame.item < length (function b.app frame.func).items → passed_count_in b.app b.places pc (frame ∷ outer) ≤ item_words b frame.func frame.item
  item_few pc frame outer inside =
      let size = length (expansion b.app b.places frame.func frame.item) in
      let whole : item_words b frame.func frame.item ≡ size = ap {B = ℕ} (λ v. cond v size 0) (lt-ltb frame.item (length (function b.app frame.func).items) inside) in
      let most = passed_few (item_address b.places frame.func frame.item) size pc in
      omega (arith, whole, most)

  -- of a task that stands there
  task_few : (pc : ℕ) (own : Task) (frame : Frame) (outer : List Frame) → own.frames ≡ frame ∷ outer → frame.item < length (function b.app frame.func).items
      → passed_count_of b.app b.places pc own ≤ next_size_of (item_words b) own
  task_few pc own frame outer frames inside = by own.owed
    where
      by : (owed : Bool) → cond owed 0 (passed_count_in b.app b.places pc own.frames) ≤ cond owed 0 (next_size (item_words b) own.frames)
      by true = omega arith
      by false = subst (λ fs. passed_count_in b.app b.places pc fs ≤ next_size (item_words b) fs) (sym frames) (item_few pc frame outer inside)

  size_few : (longest : ℕ) → AreAtMost (item_words b) longest → (own : Task) → next_size_of (item_words b) own ≤ longest
  size_few longest most own = by own.owed own.frames
    where
      by : (owed : Bool) (frames : List Frame) → cond owed 0 (next_size (item_words b) frames) ≤ longest
      by true frames = omega arith
      by false [] = omega arith
      by false (frame ∷ outer) = most frame.func frame.item

  module _ (state : State) (s : System) (stands : Stands b state s) where
    -- of the task that the word names
    by_word : (t : ℕ) → word_at state.core.ram cur ≡ t + 1 → progress_in b state s ≤ next_size_of (item_words b) (task s t)
    by_word t named =
        let f = first_by_word b state s t stands.stack stands.running named in
        let run : RunsTask b state s t f.0 = subst (RunsFirst b state s) f.1 stands.running in
        let p = run.context.position in
        let one : word_at state.core.ram cur ≡ suc t = omega (arith, named) in
        subst (λ word. passed_count_by b.app b.places state.pc s word ≤ next_size_of (item_words b) (task s t)) (sym one) (task_few state.pc (task s t) p.frame p.outer p.frames p.inside)

    -- its record stays, whatever arrives
    kept : (t : ℕ) → word_at state.core.ram cur ≡ t + 1 → (found early : List ℕ) → task (with_admits early (with_admits found s)) t ≡ task s t
    kept t named found early =
        let active = (active_by_word b state s t stands named).active in
        let same = kept_admits found t s (not_suspended (task s t).state active) in
        kept_admits early t (with_admits found s) (not_suspended (task (with_admits found s) t).state (ap (λ (own : Task). own.state) same ∙ active)) ∙ same

    few : (longest : ℕ) → AreAtMost (item_words b) longest → progress_in b state s ≤ longest
    few longest most = by (word_at state.core.ram cur) refl
      where
        by : (word : ℕ) → word_at state.core.ram cur ≡ word → progress_in b state s ≤ longest
        by zero is = let none = none_passed b state s is in omega (arith, none)
        by (suc t) is =
            let named : word_at state.core.ram cur ≡ t + 1 = omega (arith, is) in
            let next = by_word t named in
            let size = size_few longest most (task s t) in
            omega (arith, next, size)

    pub measured : (view : View) (arrivals : List Arrival) → IsMeasure (setting_of b view arrivals) (progress_in b) state s
    measured view arrivals = record {
      turn = λ t named found early.
          subst (λ own. progress_in b state s ≤ next_size_of (item_words b) own) (sym (kept t named found early)) (by_word t named);
      few = few;
      idle = none_passed b state s;
    }
