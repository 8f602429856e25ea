-- The priority of a task that runs is what its position says.
use Rattle.std.proofs.Common.{◌≡◌, ℕ, ◌<◌, List, [], ◌∷◌, ◌++◌, Bool, true, false, not, ◌&&◌, cond, length, map, max, refl, sym, ap, ◌∙◌, subst, arith}
use Rattle.std.proofs.lemmas.Bool.{true≢false}
use Rattle.sloth_base.specs.declared.config.Config.{Config}
use Rattle.sloth_base.specs.declared.app.App.{App}
use Rattle.code_rules.specs.WellFormed.{held_list_before}
use Rattle.osek_scheduler.specs.declared.state.TaskState.TheVariants as mode
use Rattle.osek_scheduler.specs.State.{Frame, System, task}
use Rattle.osek_scheduler.specs.Priority.{highest_priority, greatest, ceiling}
use Rattle.osek_scheduler.specs.Valid.{held_by, InState, IsValid}
use Rattle.osek_scheduler.specs.Apart.{priority_of, static_priority, IsActive}
use Rattle.osek_blocking.specs.Sections.{held_list_along, priority_at}
use Rattle.osek_blocking.proofs.Stepping.{position_of}

held_is : (app : App) (frames : List Frame) → held_by app frames ≡ held_list_along app (position_of frames)
held_is app [] = refl
held_is app (frame ∷ outer) = ap (λ l. l ++ held_list_before app frame.func frame.item) (held_is app outer)

and_true : (b owed : Bool) → owed ≡ false → (b && not owed) ≡ b
and_true b true e = absurd (true≢false e)
and_true true false e = refl
and_true false false e = refl

and_false : (b owed : Bool) → owed ≡ true → (b && not owed) ≡ false
and_false b false e = absurd (true≢false (sym e))
and_false true true e = refl
and_false false true e = refl

module _ (config : Config) (app : App) (s : System) (t : ℕ) (v : IsValid config app s) (declared : t < length config.tasks) (active : IsActive s t) where
  state : InState config t (task s t) mode.Active
  state = subst (InState config t (task s t)) active (v.each t declared).in_state

  -- what a task that runs has is what its position says
  pub at_position : (task s t).owed ≡ false → priority_of config t (task s t) ≡ priority_at config app t (position_of (task s t).frames)
  at_position free =
      ap (λ l. max (static_priority config t) (max (greatest (map (ceiling config) l)) (cond (task s t).raised (highest_priority config) 0)))
      ((v.each t declared).held ∙ held_is app (task s t).frames)
      ∙ ap (λ b. max (static_priority config t) (max (greatest (map (ceiling config) (held_list_along app (position_of (task s t).frames)))) (cond b (highest_priority config) 0)))
      (state.1 ∙ and_true _ _ free)

  -- and one that owes a `back` has its static priority
  pub owing : (task s t).owed ≡ true → priority_of config t (task s t) ≡ static_priority config t
  owing owed =
      ap (λ l. max (static_priority config t) (max (greatest (map (ceiling config) l)) (cond (task s t).raised (highest_priority config) 0))) (state.2 owed)
      ∙ ap (λ b. max (static_priority config t) (max 0 (cond b (highest_priority config) 0))) (state.1 ∙ and_false _ _ owed)
      ∙ omega arith
