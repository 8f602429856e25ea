-- A section of a lower task that is Suspended all along has no event of a lower task.
use Rattle.std.proofs.Common.{◌≡◌, ℕ, ◌≤◌, ◌⊎◌, ◌==◌, List, [], ◌∷◌, ◌++◌, Bool, true, false, cond, refl, sym, ap, ◌∙◌, subst, arith, inl, inr, append_assoc}
use Rattle.std.specs.List.{AllByRecursion}
use Rattle.std.proofs.lemmas.Bool.{false≢true, and_parts, eqb-true}
use Rattle.sloth_base.specs.declared.config.Config.{Config}
use Rattle.sloth_base.specs.declared.app.App.{App}
use Rattle.sloth_base.specs.declared.service.Event.{Event}
use Rattle.sloth_base.specs.declared.service.Event.TheVariants as event
use Rattle.sloth_base.specs.declared.service.Service.TheVariants as service
use Rattle.sloth_base.specs.Named.{declaration}
use Rattle.sloth_base.specs.ServiceCodes.{is_service}
use Rattle.osek_scheduler.specs.declared.state.TaskState.TheVariants as mode
use Rattle.osek_scheduler.specs.State.{task}
use Rattle.osek_scheduler.specs.InTime.{is_admit}
use Rattle.osek_scheduler.specs.Steps.{OsekStep}
use Rattle.run_counts.specs.Stages.{Stage, is_turn}
use Rattle.run_counts.proofs.States.{not_suspended}
use Rattle.response_laws.specs.Demand.{Start}
use Rattle.response_laws.specs.Shares.{LowerSpendWithin}
use Rattle.response_laws.specs.Starts.{IsRaisedTurn, InSection, may_raise, OpensSection, AreOfSection, HasSectionBehind, IsSectionWithin}
use Rattle.response_laws.specs.Sums.{count}
use Rattle.response_laws.specs.Turns.{in_turn, is_other, activated, was_set}
use Rattle.response_laws.proofs.Linked.{Known, each_append}
use Rattle.response_laws.proofs.Lower.{admit_is_none}
use Rattle.response_laws.proofs.LowerSpending.{own_where_none}
use Rattle.response_laws.proofs.OneEvent.{no_others}
use Rattle.response_laws.proofs.Steps.{turn_active}
use Rattle.response_laws.proofs.Suspended.{awake}
use Rattle.response_laws.proofs.Uncounted.{itself}

-- a part of a list with what stands before its first element and after it
part_behind : {X : Type 0} (before : List X) (first : X) (xs behind : List X) → before ++ ((first ∷ xs) ++ behind) ≡ (before ++ first ∷ []) ++ (xs ++ behind)
part_behind before first xs behind = sym (append_assoc before (first ∷ []) (xs ++ behind))

pub at_most : (b : Bool) (n : ℕ) → cond b n 0 ≤ n
at_most true n = omega arith
at_most false n = omega arith

module _ (config : Config) (app : App) (h b : ℕ) where
  abbrev Off : Stage → Type 0
  Off x = (task x.found b).state ≡ mode.Suspended

  module _ (x : Stage) (k : Known config app x) (off : Off x) where
    no_turn : in_turn b x ≡ true → ⊥
    no_turn turn = not_suspended (task x.found b).state (turn_active config app b x k turn) off

    no_raise : may_raise config b x.stamped.event ≡ true → ⊥
    no_raise raises = by x.stamped.event refl k.step raises
      where
        turns : (u : ℕ) (e : Event) → x.stamped.event ≡ e → ((u ≡ b) → is_turn b e ≡ true) → (u == b) ≡ true → ⊥
        turns u e is turn same = no_turn (ap (is_turn b) is ∙ turn (eqb-true u b same))

        by : (e : Event) → x.stamped.event ≡ e → OsekStep config app e x.found x.next → may_raise config b e ≡ true → ⊥
        by (event.Enter u) is step raises =
            let same = eqb-true u b (and_parts (u == b) (declaration config b).non raises).0 in
            awake (task x.found b).state (subst (λ v. (task x.found v).state ≡ mode.Ready) same step.2) off
        by (event.Back u) is step raises =
            turns u (event.Back u) is (λ same. subst (λ v. is_turn b (event.Back v) ≡ true) (sym same) (itself b)) (and_parts (u == b) (declaration config b).non raises).0
        by (event.Call u served status) is step raises =
            turns u (event.Call u served status) is (λ same. subst (λ v. is_turn b (event.Call v served status) ≡ true) (sym same) (itself b))
            (and_parts (u == b) (is_service served service.GetResource) raises).0
        by e is step raises = false≢true raises

    not_other : (is_other config h x ≡ true → IsRaisedTurn config h b x ⊎ (may_raise config b x.stamped.event ≡ true)) → is_other config h x ≡ false
    not_other opens = by (is_other config h x) refl
      where
        which : IsRaisedTurn config h b x ⊎ (may_raise config b x.stamped.event ≡ true) → ⊥
        which (inl raised) = no_turn raised.turn
        which (inr raises) = no_raise raises

        by : (o : Bool) → is_other config h x ≡ o → is_other config h x ≡ false
        by true is = absurd (which (opens is))
        by false is = is

  none_more : (x : Stage) (xs : List Stage) → is_other config h x ≡ false → count (is_other config h) xs ≤ 0 → count (is_other config h) (x ∷ xs) ≤ 0
  none_more x xs is none = let here = ap {B = ℕ} (λ o. cond o 1 0) is in omega (arith, here, none)

  none_in : (xs : List Stage) → AllByRecursion (Known config app) xs → AllByRecursion Off xs → InSection config h b xs → count (is_other config h) xs ≤ 0
  none_in [] k off section = omega arith
  none_in (x ∷ xs) k off section = none_more x xs (not_other x k.0 off.0 (λ is. inl (section.0 is))) (none_in xs k.1 off.1 section.1)

  none_of : (xs : List Stage) → AllByRecursion (Known config app) xs → AllByRecursion Off xs → AreOfSection config h b xs → count (is_other config h) xs ≤ 0
  none_of [] k off section = omega arith
  none_of (x ∷ xs) k off section = by (is_admit x.stamped) refl section (none_of xs k.1 off.1)
    where
      by : (a : Bool) → is_admit x.stamped ≡ a → OpensSection config h b a (AreOfSection config h b xs) x xs → (AreOfSection config h b xs → count (is_other config h) xs ≤ 0)
          → count (is_other config h) (x ∷ xs) ≤ 0
      by true admits rest again = none_more x xs (admit_is_none config app h x admits) (again rest)
      by false other opens again = none_more x xs (not_other x k.0 off.0 opens.0) (none_in xs k.1 off.1 opens.1)

  module _ (longest : ℕ) (run : List Stage) (few : LowerSpendWithin config h longest run) (known : AllByRecursion (Known config app) run) (off : AllByRecursion Off run)
      (raised : Bool) (s : Start) (room : longest ≤ s.inflow.front) where
    inside : (P : Stage → Type 0) → AllByRecursion P run → (before xs behind : List Stage) → run ≡ before ++ (xs ++ behind) → AllByRecursion P xs
    inside P all before xs behind is = (each_append P xs behind (each_append P before (xs ++ behind) (subst (AllByRecursion P) is all)).1).0

    none_where : (before behind xs : List Stage) → run ≡ before ++ (xs ++ behind) → AreOfSection config h b xs → count (is_other config h) xs ≤ 0
    none_where before behind xs is = none_of xs (inside (Known config app) known before xs behind is) (inside Off off before xs behind is)

    none_behind : (before behind : List Stage) (first : Stage) (xs : List Stage) → run ≡ before ++ ((first ∷ xs) ++ behind) → (r : Bool) → HasSectionBehind config h b r first xs
        → count (is_other config h) xs ≤ 0
    none_behind before behind first xs is true section =
        let there = is ∙ part_behind before first xs behind in
        none_in xs (inside (Known config app) known (before ++ first ∷ []) xs behind there) (inside Off off (before ++ first ∷ []) xs behind there) section
    none_behind before behind first xs is false section =
        let none = none_where before behind (first ∷ xs) is section in
        omega (arith, none)

    pub absent_within : IsSectionWithin config h run b raised s
    absent_within = record {
      front = λ before behind first xs is all section busy joins.
          let none = none_behind before behind first xs is raised section in
          let own = own_where_none config h xs none in
          let most = few (before ++ first ∷ []) xs behind (is ∙ part_behind before first xs behind) none in
          let le = room in
          omega (arith, own, most, le);
      acts = λ before behind j xs over is section joins.
          let none = no_others config h (activated j) xs (none_where before behind xs is section) in
          omega (arith, none);
      sets = λ before behind j xs over is section joins.
          let none = no_others config h (was_set j) xs (none_where before behind xs is section) in
          omega (arith, none);
    }
