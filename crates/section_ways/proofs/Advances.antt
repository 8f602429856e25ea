-- Steps of stacks.
use Rattle.std.proofs.Common.{◌≡◌, ℕ, ◌+◌, ◌≤◌, ◌<◌, ◌⊎◌, inl, inr, ◌||◌, leb, Bool, true, false, List, [], ◌∷◌, ◌++◌, sym, ap, ◌∙◌, subst}
use Rattle.std.proofs.lemmas.Bool.Decides.{leb_tells}
use Rattle.sloth_base.specs.declared.config.Config.{Config}
use Rattle.sloth_base.specs.declared.app.App.{App}
use Rattle.sloth_base.specs.declared.app.Op.{Op}
use Rattle.sloth_base.specs.declared.app.Op.TheVariants as op
use Rattle.sloth_base.specs.Named.{function, operation, body_of}
use Rattle.code_rules.specs.Code.{IsItem, IsPathStep}
use Rattle.osek_scheduler.specs.Apart.{static_priority}
use Rattle.osek_blocking.specs.Walks.{place, IsPositionStep, chains_itself}
use Rattle.osek_blocking.specs.Sections.{priority_at, operation_at, is_schedule, is_counted}
use Rattle.osek_blocking.proofs.Reached.{IsReached}
use Rattle.walk_sums.specs.Activations.{ceiling_before, is_plain, ReachesItem}
use Rattle.walk_sums.proofs.LevelsAt.{raised_at_is}
use Rattle.walk_sums.specs.declared.standing.Point.{Point}
use Rattle.walk_sums.specs.declared.standing.Standing.{Standing}
use Rattle.walk_sums.specs.Positions.{place_of}
use Rattle.section_ways.specs.Standings.{is_raised_at, AreTold, IsStart, IsAdvance, IsRaisedAt, IsSectionStep}
use Rattle.walk_sums.specs.Positions.{position_of}
use Rattle.section_ways.proofs.Stacks.{position_more, told_more, told_less}
use Rattle.section_ways.proofs.Walks.{step_inside, walk_called, walk_body}

reaches : (p a : ℕ) → leb p a ≡ true → p ≤ a
reaches p a e = by (leb_tells p a)
  where
    by : ((leb p a ≡ true) × (p ≤ a)) ⊎ ((leb p a ≡ false) × (a < p)) → p ≤ a
    by (inl x) = x.1
    by (inr x) = let wrong : true ≡ false = sym e ∙ x.0 in absurd cc

module _ (config : Config) (app : App) (h t : ℕ) where
  -- whether the task is raised inside one more function
  pub raised_inside : (stack : List Standing) (at : Standing) (raised : Bool) → at.raised ≡ is_raised_at config app h t (position_of stack)
      → raised ≡ (at.raised || leb (static_priority config h) (ceiling_before config app at.point.func at.point.item))
      → raised ≡ is_raised_at config app h t (position_of (stack ++ at ∷ []))
  raised_inside stack at raised is made =
      made ∙ ap (λ b. b || leb (static_priority config h) (ceiling_before config app at.point.func at.point.item)) is
      ∙ sym (raised_at_is config app h t at.point.func at.point.item (position_of stack))
      ∙ ap (is_raised_at config app h t) (sym (position_more [] stack at))

  -- into a call
  pub entered : (stack : List Standing) (at next : Standing) (g : ℕ) → IsItem app at.point.func at.point.item (op.Invoke g) → next.point.func ≡ g → next.point.item ≡ 0
      → AreTold config app h t stack → at.raised ≡ is_raised_at config app h t (position_of stack)
      → next.raised ≡ (at.raised || leb (static_priority config h) (ceiling_before config app at.point.func at.point.item))
      → IsAdvance config app h t (place_of at.point ∷ position_of stack) ((stack ++ at ∷ []) ++ next ∷ []) next.point
  entered stack at next g item func first told is made =
      let around : position_of (stack ++ at ∷ []) ≡ place_of at.point ∷ position_of stack = position_more [] stack at in
      let stands : position_of ((stack ++ at ∷ []) ++ next ∷ []) ≡ place_of next.point ∷ place_of at.point ∷ position_of stack =
      position_more [] (stack ++ at ∷ []) next ∙ ap (λ p. place_of next.point ∷ p) around in
      record {
        told = told_more config app h t [] (stack ++ at ∷ []) next (told_more config app h t [] stack at told is) (raised_inside stack at next.raised is made);
        outer = place_of at.point ∷ position_of stack;
        is = stands;
        step = (op.Invoke g, item, stands ∙ ap (λ p. p ∷ place_of at.point ∷ position_of stack) (ap (λ f. place f next.point.item) func ∙ ap (place g) first));
      }

  -- back from one
  pub left : (stack : List Standing) (caller at next : Standing) → IsItem app at.point.func at.point.item op.Return → next.point.func ≡ caller.point.func
      → next.point.item ≡ caller.point.item + 1 → next.raised ≡ caller.raised → AreTold config app h t (stack ++ caller ∷ [])
      → IsAdvance config app h t (place_of at.point ∷ position_of (stack ++ caller ∷ [])) (stack ++ next ∷ []) next.point
  left stack caller at next item func behind same told =
      let parts = told_less config app h t [] stack caller told in
      let stands : position_of (stack ++ next ∷ []) ≡ place_of next.point ∷ position_of stack = position_more [] stack next in
      let back : position_of (stack ++ next ∷ []) ≡ place caller.point.func (caller.point.item + 1) ∷ position_of stack =
      stands ∙ ap (λ p. p ∷ position_of stack) (ap (λ f. place f next.point.item) func ∙ ap (place caller.point.func) behind) in
      record {
        told = told_more config app h t [] stack next parts.0 (same ∙ parts.1);
        outer = position_of stack;
        is = stands;
        step = subst (λ p. IsPositionStep app (place_of at.point ∷ p) (position_of (stack ++ next ∷ []))) (sym (position_more [] stack caller)) (op.Return, item, back);
      }

  -- on inside a function
  pub stayed : (stack : List Standing) (at next : Standing) (o : Op) → IsItem app at.point.func at.point.item o → is_plain o ≡ true → at.point.func ≡ next.point.func
      → IsPathStep (function app at.point.func) at.point.item next.point.item → chains_itself (function app at.point.func) (operation app at.point.func at.point.item) ≡ false
      → next.raised ≡ at.raised → AreTold config app h t stack → at.raised ≡ is_raised_at config app h t (position_of stack)
      → IsAdvance config app h t (place_of at.point ∷ position_of stack) (stack ++ next ∷ []) next.point
  stayed stack at next o item plain func path stays same told is =
      let stands : position_of (stack ++ next ∷ []) ≡ place_of next.point ∷ position_of stack = position_more [] stack next in
      let inside : IsPositionStep app (place_of at.point ∷ position_of stack) (place at.point.func next.point.item ∷ position_of stack) =
      step_inside app at.point.func at.point.item next.point.item (position_of stack) o item plain path stays in
      record {
        told = told_more config app h t [] stack next told (same ∙ is);
        outer = position_of stack;
        is = stands;
        step = subst (IsPositionStep app (place_of at.point ∷ position_of stack)) (ap (λ f. place f next.point.item ∷ position_of stack) func ∙ sym stands) inside;
      }

  -- ---- by equations of stacks

  pub entered_as : (old mid new : List Standing) (at next : Standing) (g : ℕ) → mid ≡ old ++ at ∷ [] → new ≡ mid ++ next ∷ []
      → IsItem app at.point.func at.point.item (op.Invoke g) → next.point.func ≡ g → next.point.item ≡ 0
      → AreTold config app h t old → at.raised ≡ is_raised_at config app h t (position_of old)
      → next.raised ≡ (at.raised || leb (static_priority config h) (ceiling_before config app at.point.func at.point.item))
      → IsAdvance config app h t (place_of at.point ∷ position_of old) new next.point
  entered_as old mid new at next g m n item func first told is made =
      subst (λ s. IsAdvance config app h t (place_of at.point ∷ position_of old) s next.point) (sym (n ∙ ap (λ l. l ++ next ∷ []) m))
      (entered old at next g item func first told is made)

  pub left_as : (old stack new : List Standing) (caller at next : Standing) → old ≡ stack ++ caller ∷ [] → new ≡ stack ++ next ∷ []
      → IsItem app at.point.func at.point.item op.Return → next.point.func ≡ caller.point.func
      → next.point.item ≡ caller.point.item + 1 → next.raised ≡ caller.raised → AreTold config app h t old
      → IsAdvance config app h t (place_of at.point ∷ position_of old) new next.point
  left_as old stack new caller at next o n item func behind same told =
      let from : IsAdvance config app h t (place_of at.point ∷ position_of (stack ++ caller ∷ [])) (stack ++ next ∷ []) next.point =
      left stack caller at next item func behind same (subst (AreTold config app h t) o told) in
      subst (λ s. IsAdvance config app h t (place_of at.point ∷ position_of s) new next.point) (sym o)
      (subst (λ s. IsAdvance config app h t (place_of at.point ∷ position_of (stack ++ caller ∷ [])) s next.point) (sym n) from)

  pub stayed_as : (stack new : List Standing) (at next : Standing) (o : Op) → new ≡ stack ++ next ∷ [] → IsItem app at.point.func at.point.item o → is_plain o ≡ true
      → at.point.func ≡ next.point.func → IsPathStep (function app at.point.func) at.point.item next.point.item
      → chains_itself (function app at.point.func) (operation app at.point.func at.point.item) ≡ false
      → next.raised ≡ at.raised → AreTold config app h t stack → at.raised ≡ is_raised_at config app h t (position_of stack)
      → IsAdvance config app h t (place_of at.point ∷ position_of stack) new next.point
  stayed_as stack new at next o n item plain func path stays same told is =
      subst (λ s. IsAdvance config app h t (place_of at.point ∷ position_of stack) s next.point) (sym n)
      (stayed stack at next o item plain func path stays same told is)

  -- from the position of a stack with its innermost function
  pub advanced_as : (old stack new : List Standing) (at : Standing) (to : Point) → old ≡ stack ++ at ∷ []
      → IsAdvance config app h t (place_of at.point ∷ position_of stack) new to → IsAdvance config app h t (position_of old) new to
  advanced_as old stack new at to o a =
      subst (λ p. IsAdvance config app h t p new to) (sym (ap position_of o ∙ position_more [] stack at)) a

  -- what is told of a stack is told of its innermost function and of those around it
  pub told_parts : (old stack : List Standing) (at : Standing) → old ≡ stack ++ at ∷ [] → AreTold config app h t old
      → AreTold config app h t stack × (at.raised ≡ is_raised_at config app h t (position_of stack))
  told_parts old stack at o told = told_less config app h t [] stack at (subst (AreTold config app h t) o told)

  -- ---- where the task is raised

  pub raised_there : (stack : List Standing) (at : Standing) (point : Point) → at.point ≡ point → at.raised ≡ is_raised_at config app h t (position_of stack)
      → is_counted (operation app at.point.func at.point.item) ≡ true
      → (at.raised || leb (static_priority config h) (ceiling_before config app at.point.func at.point.item)) ≡ true
      → IsRaisedAt config app h t (stack ++ at ∷ []) point
  raised_there stack at point same is counts raised =
      let stands : position_of (stack ++ at ∷ []) ≡ place_of at.point ∷ position_of stack = position_more [] stack at in
      let up : true ≡ is_raised_at config app h t (position_of (stack ++ at ∷ [])) = raised_inside stack at true is (sym raised) in
      record {
        outer = position_of stack;
        is = stands ∙ ap (λ p. place_of p ∷ position_of stack) same;
        raised = reaches (static_priority config h) (priority_at config app t (position_of (stack ++ at ∷ []))) (sym up);
        counts = ap (λ p. is_counted (operation_at app p)) stands ∙ counts;
      }

  -- a step of a section
  pub section_step : (old new : List Standing) (from to : Point) → is_schedule (operation app from.func from.item) ≡ false → IsRaisedAt config app h t old from
      → IsAdvance config app h t (position_of old) new to → IsRaisedAt config app h t new to → IsSectionStep config app h t old new from to
  section_step old new from to calm at a there = record {
    told = a.told;
    goes = ap (λ p. is_schedule (operation_at app p)) at.is ∙ calm;
    step = a.step;
    at = there;
  }

  pub section_step_as : (old mid new : List Standing) (from to : Point) → is_schedule (operation app from.func from.item) ≡ false → IsRaisedAt config app h t old from
      → IsAdvance config app h t (position_of old) mid to → new ≡ mid → IsRaisedAt config app h t mid to → IsSectionStep config app h t old new from to
  section_step_as old mid new from to calm at a same there =
      subst (λ s. IsSectionStep config app h t old s from to) (sym same) (section_step old mid from to calm at a there)

  -- ---- starts

  -- a walk leads to one more function
  pub taken : (stack : List Standing) (at next : Standing) → IsStart config app h t (stack ++ at ∷ []) → IsItem app at.point.func at.point.item (op.Invoke next.point.func)
      → ReachesItem app next.point.func next.point.item
      → next.raised ≡ (at.raised || leb (static_priority config h) (ceiling_before config app at.point.func at.point.item))
      → IsStart config app h t ((stack ++ at ∷ []) ++ next ∷ [])
  taken stack at next start call reached made =
      let parts = told_less config app h t [] stack at start.told in
      let around : position_of (stack ++ at ∷ []) ≡ place_of at.point ∷ position_of stack = position_more [] stack at in
      let stands : position_of ((stack ++ at ∷ []) ++ next ∷ []) ≡ place_of next.point ∷ place_of at.point ∷ position_of stack =
      position_more [] (stack ++ at ∷ []) next ∙ ap (λ p. place_of next.point ∷ p) around in
      let there : IsReached app t (position_of (stack ++ at ∷ [])) = record { before = start.before; walk = start.walk } in
      let r = walk_called app t at.point.func at.point.item next.point.func next.point.item (position_of stack) call reached (subst (IsReached app t) around there) in
      let found : IsReached app t (position_of ((stack ++ at ∷ []) ++ next ∷ [])) = subst (IsReached app t) (sym stands) r in
      record {
        told = told_more config app h t [] (stack ++ at ∷ []) next start.told (raised_inside stack at next.raised parts.1 made);
        before = found.before;
        walk = found.walk;
      }

  -- to an item of the task's body
  pub begun : (at : Standing) → at.point.func ≡ body_of app.funcs t → ReachesItem app at.point.func at.point.item → at.raised ≡ is_raised_at config app h t []
      → IsStart config app h t (at ∷ [])
  begun at body reached is =
      let r = walk_body app t at.point.item (subst (λ f. ReachesItem app f at.point.item) body reached) in
      let there : IsReached app t (place_of at.point ∷ []) = subst (λ f. IsReached app t (place f at.point.item ∷ [])) (sym body) r in
      record { told = (is, tt); before = there.before; walk = there.walk }

  -- by equations of stacks
  pub taken_as : (stack mid new : List Standing) (at next : Standing) → mid ≡ stack ++ at ∷ [] → new ≡ mid ++ next ∷ []
      → IsStart config app h t (stack ++ at ∷ []) → IsItem app at.point.func at.point.item (op.Invoke next.point.func)
      → ReachesItem app next.point.func next.point.item
      → next.raised ≡ (at.raised || leb (static_priority config h) (ceiling_before config app at.point.func at.point.item))
      → IsStart config app h t new
  taken_as stack mid new at next m n start call reached made =
      subst (IsStart config app h t) (sym (n ∙ ap (λ l. l ++ next ∷ []) m)) (taken stack at next start call reached made)
