-- What rounds of a task come to, by what its entries have and what the other stages have that are its: no more than each round may, for each that begins.
use Rattle.std.proofs.Common.{◌≡◌, ℕ, ◌+◌, ◌*◌, ◌≤◌, ◌&&◌, ◌||◌, not, List, [], ◌∷◌, ◌++◌, Bool, true, false, cond, refl, sym, ap, ◌∙◌, subst, arith, append_assoc}
use Rattle.std.specs.List.{AllByRecursion}
use Rattle.std.proofs.lemmas.Bool.{false≢true, and_right, eqb-true}
use Rattle.sloth_base.specs.declared.config.Config.{Config}
use Rattle.sloth_base.specs.declared.app.App.{App}
use Rattle.sloth_base.specs.declared.service.Event.{Event}
use Rattle.sloth_base.specs.declared.service.Event.TheVariants as event
use Rattle.osek_scheduler.specs.State.{System, task}
use Rattle.osek_scheduler.specs.Steps.{OsekStep}
use Rattle.osek_scheduler.specs.Apart.{IsActive}
use Rattle.osek_scheduler.proofs.Facts.{Facts}
use Rattle.osek_blocking.proofs.FrameEffects.{frame_effect}
use Rattle.run_counts.specs.Stages.{Stage, end_of, is_turn, is_entry}
use Rattle.run_counts.specs.Rounds.{goes_on_waiting, is_left, round_of, total}
use Rattle.response_laws.specs.Sums.{count}
use Rattle.sim_induction.specs.Events.{has_frames}
use Rattle.response_laws.specs.Bounded.{EachOf}
use Rattle.response_laws.specs.Turns.{at_entry, begins_first, begins_next, round_behind, if_entry}
use Rattle.response_laws.proofs.Sums.{one_more}
use Rattle.response_laws.proofs.Linked.{Known, Linked}
use Rattle.response_laws.proofs.Steps.{stays_inactive}

-- an entry is in no turn, and no WaitEvent that goes on
pub entry_alone : (t : ℕ) (e : Event) → is_entry t e ≡ true → (is_turn t e ≡ false) × (goes_on_waiting t e ≡ false)
entry_alone t (event.Enter u) is = (refl, refl)
entry_alone t e is = absurd (false≢true is)

-- a task that leaves is not Active behind it
pub left_inactive : (config : Config) (app : App) → Facts config app → (t : ℕ) (x : Stage) → Known config app x → is_left t x.stamped.event ≡ true → IsActive x.next t → ⊥
left_inactive config app w t x k is = by x.stamped.event k.step is
  where
    by : (e : Event) → OsekStep config app e x.found x.next → is_left t e ≡ true → IsActive x.next t → ⊥
    by (event.Left u served) step is active =
        (frame_effect config app w x.found x.next k.valid (event.Left u served) step).gone (subst (IsActive x.next) (sym (eqb-true u t is)) active)
    by e step is active = absurd (false≢true is)

module _ (cuts : Bool) (t : ℕ) (e share : Stage → ℕ) where
  -- what a stage has as an entry of the task and else
  abbrev pub both_of : Stage → ℕ
  both_of x = if_entry t e x + share x

  abbrev pub own : List Stage → ℕ
  own xs = total share xs

  -- an entry of the task has no share besides
  abbrev pub IsApart : Type 0
  IsApart = (x : Stage) → at_entry t x ≡ true → share x ≡ 0

  -- and where the task is not Active there is none
  abbrev pub IsNoneAtRest : Config → App → Type 0
  IsNoneAtRest config app = (x : Stage) → Known config app x → (IsActive x.found t → ⊥) → share x ≡ 0

  -- more stages, more of the round
  pub longer : (xs ys : List Stage) → own (round_behind cuts t xs) ≤ own (round_behind cuts t (xs ++ ys))
  longer [] ys = omega arith
  longer (x ∷ xs) ys = by (at_entry t x) (cuts && goes_on_waiting t x.stamped.event) (longer xs ys)
    where
      by : (b w : Bool) → own (round_behind cuts t xs) ≤ own (round_behind cuts t (xs ++ ys))
          → own (cond b [] (x ∷ cond w [] (round_behind cuts t xs))) ≤ own (cond b [] (x ∷ cond w [] (round_behind cuts t (xs ++ ys))))
      by true w le = omega arith
      by false true le = omega arith
      by false false le = omega (arith, le)

  -- what is to be shown of a stage in front of others, by what it is
  abbrev WholeOf : (most more : ℕ) (x : Stage) (xs : List Stage) → (entry waits : Bool) → (begins goes : Bool) → Type 0
  WholeOf most more x xs entry waits begins goes =
      total both_of (x ∷ xs)
      ≤ own (cond entry [] (x ∷ cond waits [] (round_behind cuts t xs)))
      + ((cond begins 1 0 + count (begins_first t) xs) * most + (cond goes 1 0 + count (begins_next cuts t) xs) * more)

  -- the rest of the round in which they begin, and one round for each that begins
  pub rounds_of : (run : List Stage) (most more : ℕ) → EachOf run cuts t (begins_first t) e share most → EachOf run cuts t (begins_next cuts t) e share more
      → IsApart
      → (before xs behind : List Stage) → run ≡ before ++ (xs ++ behind)
      → total both_of xs ≤ own (round_behind cuts t xs) + (count (begins_first t) xs * most + count (begins_next cuts t) xs * more)
  rounds_of run most more each again apart before [] behind is = omega arith
  rounds_of run most more each again apart before (x ∷ xs) behind is =
      by (at_entry t x) refl (cuts && goes_on_waiting t x.stamped.event) refl
      (rounds_of run most more each again apart (before ++ x ∷ []) xs behind (is ∙ sym (append_assoc before (x ∷ []) (xs ++ behind))))
    where
      -- a round of this kind begins
      with_first : if_entry t e x + own (round_behind cuts t xs) ≤ most → (w : Bool) → share x ≡ 0
          → total both_of xs ≤ own (round_behind cuts t xs) + (count (begins_first t) xs * most + count (begins_next cuts t) xs * more)
          → WholeOf most more x xs true w true false
      with_first le w none rest =
          let one = one_more (count (begins_first t) xs) most in
          let zero : 0 + count (begins_next cuts t) xs ≡ count (begins_next cuts t) xs = omega arith in
          let same = ap (λ c. c * more) zero in
          omega (arith, le, none, rest, one, same)

      with_next : if_entry t e x + own (round_behind cuts t xs) ≤ more → (w : Bool) → share x ≡ 0
          → total both_of xs ≤ own (round_behind cuts t xs) + (count (begins_first t) xs * most + count (begins_next cuts t) xs * more)
          → WholeOf most more x xs true w false true
      with_next le w none rest =
          let one = one_more (count (begins_next cuts t) xs) more in
          let zero : 0 + count (begins_first t) xs ≡ count (begins_first t) xs = omega arith in
          let same = ap (λ c. c * most) zero in
          omega (arith, le, none, rest, one, same)

      going_on : own (round_behind cuts t xs) ≤ more → if_entry t e x ≡ 0
          → total both_of xs ≤ own (round_behind cuts t xs) + (count (begins_first t) xs * most + count (begins_next cuts t) xs * more)
          → WholeOf most more x xs false true false true
      going_on le none rest =
          let one = one_more (count (begins_next cuts t) xs) more in
          let zero : 0 + count (begins_first t) xs ≡ count (begins_first t) xs = omega arith in
          let same = ap (λ c. c * most) zero in
          omega (arith, le, none, rest, one, same)

      staying : if_entry t e x ≡ 0
          → total both_of xs ≤ own (round_behind cuts t xs) + (count (begins_first t) xs * most + count (begins_next cuts t) xs * more)
          → WholeOf most more x xs false false false false
      staying none rest =
          let zero : 0 + count (begins_first t) xs ≡ count (begins_first t) xs = omega arith in
          let same = ap (λ c. c * most) zero in
          let zeros : 0 + count (begins_next cuts t) xs ≡ count (begins_next cuts t) xs = omega arith in
          let sames = ap (λ c. c * more) zeros in
          omega (arith, none, rest, same, sames)

      by : (b : Bool) → at_entry t x ≡ b → (w : Bool) → (cuts && goes_on_waiting t x.stamped.event) ≡ w
          → total both_of xs ≤ own (round_behind cuts t xs) + (count (begins_first t) xs * most + count (begins_next cuts t) xs * more)
          → WholeOf most more x xs b w (b && not (has_frames (task x.found t).frames)) ((b && has_frames (task x.found t).frames) || w)
      by true entry w waits rest =
          let alone = entry_alone t x.stamped.event entry in
          let none = apart x entry in
          let off : w ≡ false = sym waits ∙ and_right cuts (goes_on_waiting t x.stamped.event) alone.1 in
          which (has_frames (task x.found t).frames) refl none off
        where
          further : own (round_behind cuts t xs) ≤ own (round_behind cuts t (xs ++ behind))
          further = longer xs behind

          which : (g : Bool) → has_frames (task x.found t).frames ≡ g → share x ≡ 0 → w ≡ false → WholeOf most more x xs true w (not g) (g || w)
          which true g none off =
              let opens : begins_next cuts t x ≡ true =
              ap (λ b. (b && has_frames (task x.found t).frames) || (cuts && goes_on_waiting t x.stamped.event)) entry ∙ ap (λ b. b || (cuts && goes_on_waiting t x.stamped.event)) g in
              let le = again before (xs ++ behind) x is opens in
              with_next (omega (arith, le, further)) w none rest
          which false g none off =
              let opens : begins_first t x ≡ true = ap (λ b. b && not (has_frames (task x.found t).frames)) entry ∙ ap not g in
              let le = each before (xs ++ behind) x is opens in
              subst (λ v. WholeOf most more x xs true w true v) (sym off) (with_first (omega (arith, le, further)) w none rest)
      by false other true waits rest =
          let none = ap {B = ℕ} (λ b. cond b (e x) 0) other in
          let opens : begins_next cuts t x ≡ true =
          ap (λ b. (b && has_frames (task x.found t).frames) || (cuts && goes_on_waiting t x.stamped.event)) other ∙ waits in
          let le = again before (xs ++ behind) x is opens in
          let further = longer xs behind in
          going_on (omega (arith, le, further)) none rest
      by false other false waits rest = staying (ap {B = ℕ} (λ b. cond b (e x) 0) other) rest

  module _ (config : Config) (app : App) where
    -- where the task is not Active, none of its rounds goes on
    pub no_round : IsNoneAtRest config app → (at : ℕ) (s : System) (xs : List Stage) → Linked at s xs → AllByRecursion (Known config app) xs → (IsActive s t → ⊥)
        → own (round_behind cuts t xs) ≤ 0
    no_round rests at s [] l k away = omega arith
    no_round rests at s (x ∷ xs) l k away =
        by (at_entry t x) refl (λ other. no_round rests (end_of x) x.next xs l.2 k.1 (λ active. idle (stays_inactive config app t x k.0 other active)))
      where
        idle : IsActive x.found t → ⊥
        idle active = away (subst (λ y. IsActive y t) l.1 active)

        by : (b : Bool) → at_entry t x ≡ b → (at_entry t x ≡ false → own (round_behind cuts t xs) ≤ 0)
            → own (cond b [] (x ∷ cond (cuts && goes_on_waiting t x.stamped.event) [] (round_behind cuts t xs))) ≤ 0
        by true entry rest = omega arith
        by false other rest = none (cuts && goes_on_waiting t x.stamped.event) (rest other)
          where
            here : share x ≡ 0
            here = rests x k.0 idle

            none : (w : Bool) → own (round_behind cuts t xs) ≤ 0 → share x + own (cond w [] (round_behind cuts t xs)) ≤ 0
            none true le = omega (arith, here)
            none false le = omega (arith, here, le)

  -- up to where the next round begins it has no more than up to where the round ends
  module _ (config : Config) (app : App) (w : Facts config app) where
    pub within_round : IsNoneAtRest config app → (at : ℕ) (s : System) (xs : List Stage) → Linked at s xs → AllByRecursion (Known config app) xs
        → own (round_behind cuts t xs) ≤ own (round_of cuts t xs)
    within_round rests at s [] l k = omega arith
    within_round rests at s (x ∷ xs) l k =
        by (at_entry t x) (cuts && goes_on_waiting t x.stamped.event) (is_left t x.stamped.event) refl (within_round rests (end_of x) x.next xs l.2 k.1)
      where
        gone : is_left t x.stamped.event ≡ true → own (round_behind cuts t xs) ≤ 0
        gone is = no_round config app rests (end_of x) x.next xs l.2 k.1 (left_inactive config app w t x k.0 is)

        by : (entry waits leaves : Bool) → is_left t x.stamped.event ≡ leaves → own (round_behind cuts t xs) ≤ own (round_of cuts t xs)
            → own (cond entry [] (x ∷ cond waits [] (round_behind cuts t xs))) ≤ share x + own (cond (leaves || waits) [] (round_of cuts t xs))
        by true waits leaves is rest = omega arith
        by false true true is rest = omega arith
        by false true false is rest = omega arith
        by false false true is rest = let none = gone is in omega (arith, none)
        by false false false is rest = omega (arith, rest)
