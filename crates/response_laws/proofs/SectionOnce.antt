-- A section makes a task that cannot be entered meanwhile Ready once at most.
use Rattle.std.proofs.Common.{◌≡◌, ℕ, ◌<◌, ◌≤◌, ◌⊎◌, ◌&&◌, not, List, [], ◌∷◌, Bool, true, false, cond, length, refl, sym, ap, subst, arith, inl, inr}
use Rattle.std.specs.List.{AllByRecursion}
use Rattle.std.proofs.lemmas.Bool.{cases_Bool, false≢true, eqb-true}
use Rattle.sloth_base.specs.declared.config.Config.{Config}
use Rattle.sloth_base.specs.declared.app.App.{App}
use Rattle.sloth_base.specs.declared.service.Event.{Event}
use Rattle.sloth_base.specs.declared.service.Event.TheVariants as event
use Rattle.osek_scheduler.specs.State.{System, task}
use Rattle.osek_scheduler.specs.Steps.{OsekStep}
use Rattle.osek_scheduler.specs.Apart.{priority_of, static_priority}
use Rattle.osek_scheduler.proofs.Apart.{rank_active, rank_ready}
use Rattle.osek_scheduler.proofs.Facts.{Facts}
use Rattle.osek_blocking.proofs.Once.{Blocks}
use Rattle.osek_blocking.specs.Sections.{IsLower}
use Rattle.run_counts.specs.Stages.{Stage, end_of, is_entry}
use Rattle.response_laws.specs.Sums.{total_where}
use Rattle.response_laws.specs.Turns.{at_entry, is_other, is_ready_for, activated}
use Rattle.response_laws.specs.Once.{IsShutOut}
use Rattle.response_laws.specs.Starts.{InSection}
use Rattle.response_laws.proofs.Blocking.{blocks_or_not}
use Rattle.response_laws.proofs.Highest.{over_all}
use Rattle.response_laws.proofs.Linked.{Known, Linked}
use Rattle.response_laws.proofs.OneEvent.{no_others}
use Rattle.response_laws.proofs.ReadyTasks.{ready_on}
use Rattle.response_laws.proofs.SectionEnds.{none_follow}
use Rattle.response_laws.proofs.SectionWalks.{free}

module _ (config : Config) (app : App) (w : Facts config app) (h b : ℕ) (lower : IsLower config h b) (j : ℕ) (out : IsShutOut config h b j) where
  -- while b blocks, j is not entered
  not_entered : (x : Stage) → Known config app x → Blocks config h x.found b → at_entry j x ≡ false
  not_entered x k blocks = which (cases_Bool (at_entry j x))
    where
      above : j < length config.tasks → IsShutOut config h b j → static_priority config j ≤ priority_of config b (task x.found b)
      above lt (inl same) = let up = blocks.raised in let e = ap (static_priority config) same in omega (arith, up, e)
      above lt (inr non) =
          over_all config app b lower.0 non j x.found k.valid (free config app w h b lower x k blocks.active blocks.raised) blocks.active lt

      by : (e : Event) → OsekStep config app e x.found x.next → is_entry j e ≡ true → ⊥
      by (event.Enter u) step is =
          let same = eqb-true u j is in
          let le = step.1.is_greatest b lower.0 (inr blocks.active) refl in
          let own = rank_active config x.found b blocks.active in
          let ready = rank_ready config x.found u step.2 in
          let equal = ap (static_priority config) same in
          let no_higher = above (subst (λ n. n < length config.tasks) same step.1.declared) out in
          omega (arith, le, own, ready, equal, no_higher)
      by e step is = absurd (false≢true is)

      which : (at_entry j x ≡ true) ⊎ (at_entry j x ≡ false) → at_entry j x ≡ false
      which (inr off) = off
      which (inl is) = absurd (by x.stamped.event k.step is)

  abbrev sum : List Stage → ℕ
  sum xs = total_where (is_other config h) (activated j) xs

  cond_few : (c : Bool) (n : ℕ) → cond c n 0 ≤ n
  cond_few true n = omega arith
  cond_few false n = omega arith

  -- what is Ready already is not made so
  none_more : (at : ℕ) (s : System) (xs : List Stage) → Linked at s xs → AllByRecursion (Known config app) xs → InSection config h b xs
      → is_ready_for false (task s j) ≡ true → sum xs ≤ 0
  none_more at s [] l k section ready = omega arith
  none_more at s (x ∷ xs) l k section ready =
      by (blocks_or_not config app h x.found b) (λ still. none_more (end_of x) x.next xs l.2 k.1 section.1 still)
    where
      here : is_ready_for false (task x.found j) ≡ true
      here = subst (λ (y : System). is_ready_for false (task y j) ≡ true) (sym l.1) ready

      by : Blocks config h x.found b ⊎ (Blocks config h x.found b → ⊥) → (is_ready_for false (task x.next j) ≡ true → sum xs ≤ 0) → sum (x ∷ xs) ≤ 0
      by (inr away) rest = no_others config h (activated j) (x ∷ xs) (none_follow config app h b lower x.start x.found (x ∷ xs) (refl, refl, l.2) k section away)
      by (inl blocks) rest =
          let later = rest (ready_on config app w j x k.0 (not_entered x k.0 blocks) here) in
          let none : activated j x ≡ 0 = ap {B = ℕ} (λ r. cond (not r && is_ready_for false (task x.next j)) 1 0) here in
          let few = cond_few (is_other config h x) (activated j x) in
          omega (arith, later, none, few)

  pub section_once : (at : ℕ) (s : System) (xs : List Stage) → Linked at s xs → AllByRecursion (Known config app) xs → InSection config h b xs → sum xs ≤ 1
  section_once at s [] l k section = omega arith
  section_once at s (x ∷ xs) l k section =
      by (is_ready_for false (task x.next j)) refl (none_more (end_of x) x.next xs l.2 k.1 section.1) (section_once (end_of x) x.next xs l.2 k.1 section.1)
    where
      one : (c : Bool) → cond c 1 0 ≤ 1
      one true = omega arith
      one false = omega arith

      none : (r : Bool) → cond (not r && false) 1 0 ≤ 0
      none true = omega arith
      none false = omega arith

      by : (r : Bool) → is_ready_for false (task x.next j) ≡ r → (is_ready_for false (task x.next j) ≡ true → sum xs ≤ 0) → sum xs ≤ 1 → sum (x ∷ xs) ≤ 1
      by true is more rest =
          let last = more is in
          let few = cond_few (is_other config h x) (activated j x) in
          let most : activated j x ≤ 1 = one (not (is_ready_for false (task x.found j)) && is_ready_for false (task x.next j)) in
          omega (arith, last, few, most)
      by false off more rest =
          let few = cond_few (is_other config h x) (activated j x) in
          let same : activated j x ≡ cond (not (is_ready_for false (task x.found j)) && false) 1 0 =
          ap {B = ℕ} (λ r. cond (not (is_ready_for false (task x.found j)) && r) 1 0) off in
          let zero = none (is_ready_for false (task x.found j)) in
          omega (arith, rest, few, same, zero)
