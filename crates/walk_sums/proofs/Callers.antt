-- Where walks of a task stand: at items that walks into their functions reach, each of which the next one calls, up to the task's body.
use Rattle.std.proofs.Common.{◌≡◌, ℕ, ◌+◌, ◌<◌, true, false, List, [], ◌∷◌, ◌++◌, length, refl, sym, ap, ◌∙◌, subst}
use Rattle.sloth_base.specs.declared.config.Config.{Config}
use Rattle.sloth_base.specs.declared.app.App.{App}
use Rattle.sloth_base.specs.declared.app.Op.{Op}
use Rattle.sloth_base.specs.declared.app.Op.TheVariants as op
use Rattle.sloth_base.specs.Named.{function, operation, body_of}
use Rattle.code_rules.specs.Code.{IsItem, IsPathStep}
use Rattle.osek_scheduler.proofs.Facts.{Facts}
use Rattle.osek_scheduler.proofs.Stacks.{has_body}
use Rattle.osek_blocking.specs.Walks.{Position, GoesBack, IsPositionStep, AreConsecutive, IsWalk, chains_itself}
use Rattle.walk_sums.specs.Activations.{is_plain, IsInnerStep, ReachesItem, reaches_first, reaches_inside, reaches_behind, ReachesCall}
use Rattle.walk_sums.proofs.LevelsAt.{leads_cases}
use Rattle.walk_sums.proofs.Reached.{called_known, reached_inside}

-- a step between items of a function
abbrev pub step_of : (app : App) (o : Op) (f i j : ℕ) → IsItem app f i o → is_plain o ≡ true → IsPathStep (function app f) i j → chains_itself (function app f) (operation app f i) ≡ false → IsInnerStep app f i j
step_of app o f i j item plain goes free = record { operation = o; item = item; plain = plain; goes_on = goes; stays = sym (ap (chains_itself (function app f)) item.is) ∙ free }

nothing_there : (before : List Position) (at : Position) (further : List Position) → before ++ at ∷ further ≡ [] → ⊥
nothing_there [] at further e = cc
nothing_there (y ∷ before) at further e = cc

module _ (app : App) (t : ℕ) where
  -- function f was called by the first of these, at an item that walks reach, and so on
  abbrev pub AreCallers : ℕ → Position → Type 0
  AreCallers f [] = f ≡ body_of app.funcs t
  AreCallers f (caller ∷ outer) = ReachesCall app caller.func caller.item f × AreCallers caller.func outer

  -- a position that walks may lead to
  abbrev pub Walked : Position → Type 0
  Walked [] = ⊥
  Walked (here ∷ outer) = (here.func < length app.funcs) × ReachesItem app here.func here.item × AreCallers here.func outer

module _ (config : Config) (app : App) (w : Facts config app) where
  pub item_at : (f i : ℕ) → f < length app.funcs → ReachesItem app f i → IsItem app f i (operation app f i)
  item_at f i known r = record { known = known; inside = reached_inside config app w f i known r; is = refl }

  module _ (t : ℕ) where
    pub stands_on : (at next : Position) → Walked app t at → IsPositionStep app at next → Walked app t next
    stands_on [] next s step = absurd s
    stands_on (here ∷ outer) next s step =
        leads_cases app step.0 here.func here.item outer next (λ o. IsItem app here.func here.item o → Walked app t next)
        (λ plain g item. subst (Walked app t) (sym g.3) (s.0, reaches_inside here.func here.item g.0 s.1 (step_of app step.0 here.func here.item g.0 item plain g.1 g.2), s.2))
        (λ g is e item.
        let call = subst (IsItem app here.func here.item) is item in
        subst (Walked app t) (sym e) (called_known config app w here.func g (here.item, call), reaches_first g, (record { reached = s.1; item = call }, s.2)))
        (λ is back item. returned outer s.2 back (subst (IsItem app here.func here.item) is item)) step.2 step.1
      where
        returned : (outer : Position) → AreCallers app t here.func outer → GoesBack outer next → IsItem app here.func here.item op.Return → Walked app t next
        returned [] c back item = absurd back
        returned (caller ∷ outer) c back item =
            subst (Walked app t) (sym back) (c.0.item.known, reaches_behind caller.func caller.item here.func here.item c.0.reached c.0.item s.1 item, c.1)

    -- where positions stand behind others of a walk, the first of them stands too
    first_stands : (before : List Position) (at : Position) (further : List Position) (first : Position) (rest : List Position)
        → before ++ at ∷ further ≡ first ∷ rest → AreConsecutive app (first ∷ rest) → Walked app t first → Walked app t at × AreConsecutive app (at ∷ further)
    first_stands [] at further first rest e c s =
        let P : List Position → Type 0 = AreConsecutive app in
        (subst (Walked app t) (sym (head_is at first further rest e)) s, subst P (sym e) c)
      where
        head_is : (a b : Position) (xs ys : List Position) → a ∷ xs ≡ b ∷ ys → a ≡ b
        head_is a b xs ys e = cc
    first_stands (x ∷ before) at further first [] e c s = absurd (nothing_there before at further (tail_is e))
      where
        tail_is : x ∷ (before ++ at ∷ further) ≡ first ∷ [] → before ++ at ∷ further ≡ []
        tail_is e = cc
    first_stands (x ∷ before) at further first (next ∷ rest) e c s =
        first_stands before at further next rest (tail_is e) c.1 (stands_on first next s c.0)
      where
        tail_is : x ∷ (before ++ at ∷ further) ≡ first ∷ next ∷ rest → before ++ at ∷ further ≡ next ∷ rest
        tail_is e = cc

    -- a position of a walk stands where it leads
    pub walked_to : t < length config.tasks → (before : List Position) (at : Position) (further : List Position) → IsWalk app t (before ++ at ∷ further)
        → Walked app t at × AreConsecutive app (at ∷ further)
    walked_to declared before at further is = by (before ++ at ∷ further) refl is
      where
        body : body_of app.funcs t < length app.funcs
        body = (has_body config app w t declared).0

        by : (walk : List Position) → before ++ at ∷ further ≡ walk → IsWalk app t walk → Walked app t at × AreConsecutive app (at ∷ further)
        by [] e walk = absurd (nothing_there before at further e)
        by (first ∷ rest) e walk =
            first_stands before at further first rest e walk.1 (subst (Walked app t) (sym walk.0) (body, reaches_first (body_of app.funcs t), refl))
