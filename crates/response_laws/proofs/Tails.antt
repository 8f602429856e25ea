-- What lower tasks do behind the first stage of a busy period.
use Rattle.std.proofs.Common.{◌≡◌, ℕ, ◌≤◌, ◌⊎◌, ◌==◌, List, [], ◌∷◌, ◌++◌, Bool, true, false, cond, refl, sym, ap, ◌∙◌, subst, arith, inl, inr}
use Rattle.std.specs.List.{AllByRecursion}
use Rattle.std.proofs.lemmas.Bool.{true≢false, cases_Bool, false≢true, eqb-true, and_parts}
use Rattle.sloth_base.specs.declared.config.Config.{Config}
use Rattle.sloth_base.specs.declared.app.App.{App}
use Rattle.sloth_base.specs.declared.service.Event.{Event}
use Rattle.sloth_base.specs.declared.service.Event.TheVariants as event
use Rattle.sloth_base.specs.declared.service.Service.TheVariants as service
use Rattle.sloth_base.specs.Named.{declaration}
use Rattle.sloth_base.specs.ServiceCodes.{is_service}
use Rattle.osek_scheduler.specs.State.{System}
use Rattle.osek_scheduler.specs.InTime.{is_admit}
use Rattle.osek_blocking.specs.Sections.{IsLower}
use Rattle.run_counts.specs.Stages.{Stage, end_of, is_turn}
use Rattle.response_laws.specs.Sums.{count}
use Rattle.response_laws.specs.Turns.{is_other}
use Rattle.response_laws.specs.Starts.{IsRaisedTurn, InSection, may_raise, OpensSection, AreOfSection, IsAlone, AreOfOne}
use Rattle.response_laws.proofs.Booted.{HasStarted, has_started}
use Rattle.response_laws.proofs.Starting.{IsBusy}
use Rattle.response_laws.proofs.Linked.{Known, Linked}
use Rattle.response_laws.proofs.Blocking.{IsLowService, raised_or_served}
use Rattle.response_laws.proofs.Lower.{admit_is_none}
use Rattle.response_laws.proofs.Passing.{AreAdmissions}

-- In states that are not quiet none is another event; or one is a service of a task that is not raised, behind admissions; or all come in raised turns.
module _ (config : Config) (app : App) (h : ℕ) where
  pub data Tail (xs : List Stage) : Type 0 where
    none_other : count (is_other config h) xs ≤ 0 → Tail xs
    one_serves : (group : List Stage) (y : Stage) (rest : List Stage) → xs ≡ group ++ y ∷ rest → AreAdmissions group → is_admit y.stamped ≡ false
        → is_other config h y ≡ true → IsLowService config h y → count (is_other config h) rest ≤ 0 → Tail xs
    all_raised : (b : ℕ) → IsLower config h b → InSection config h b xs → Tail xs

  none_raised : (b : ℕ) (xs : List Stage) → count (is_other config h) xs ≤ 0 → InSection config h b xs
  none_raised b [] none = tt
  none_raised b (x ∷ xs) none = (
    λ is. let one = ap {B = ℕ} (λ c. cond c 1 0) is in absurd (omega (arith, none, one)),
    none_raised b xs (omega (arith, none)),
  )

  pub tail : (at : ℕ) (s : System) (xs : List Stage) → Linked at s xs → AllByRecursion (Known config app) xs → AllByRecursion (IsBusy config h) xs → HasStarted s
      → AreOfOne config h xs → Tail xs
  tail at s [] l k busy on one = none_other (omega arith)
  tail at s (x ∷ xs) l k busy on one =
      by (is_admit x.stamped) refl one (λ further. tail (end_of x) x.next xs l.2 k.1 busy.1 (has_started config app x.stamped.event x.found x.next k.0.step) further)
    where
      behind_admission : is_admit x.stamped ≡ true → Tail xs → Tail (x ∷ xs)
      behind_admission admits (none_other few) =
          none_other (let zero = ap {B = ℕ} (λ c. cond c 1 0) (admit_is_none config app h x admits) in omega (arith, few, zero))
      behind_admission admits (one_serves group y rest is all later other low few) =
          one_serves (x ∷ group) y rest (ap (λ ys. x ∷ ys) is) (admits, all) later other low few
      behind_admission admits (all_raised b lower section) =
          all_raised b lower ((λ is. absurd (true≢false (sym is ∙ admit_is_none config app h x admits))), section)

      at_other : is_admit x.stamped ≡ false → count (is_other config h) xs ≤ 0 → is_other config h x ≡ true → Tail (x ∷ xs)
      at_other later few other = which (raised_or_served config app h x k.0 busy.0 (subst HasStarted (sym l.1) on) other)
        where
          which : ((b : ℕ) × IsLower config h b × IsRaisedTurn config h b x) ⊎ IsLowService config h x → Tail (x ∷ xs)
          which (inl (b, lower, r)) = all_raised b lower ((λ _. r), none_raised b xs few)
          which (inr low) = one_serves [] x xs refl tt later other low few

      by : (a : Bool) → is_admit x.stamped ≡ a → IsAlone config h a (AreOfOne config h xs) xs → (AreOfOne config h xs → Tail xs) → Tail (x ∷ xs)
      by true admits further again = behind_admission admits (again further)
      by false later few again = of (cases_Bool (is_other config h x))
        where
          of : (is_other config h x ≡ true) ⊎ (is_other config h x ≡ false) → Tail (x ∷ xs)
          of (inl other) = at_other later few other
          of (inr off) = none_other (let zero = ap {B = ℕ} (λ c. cond c 1 0) off in omega (arith, few, zero))

  -- a section is raised from the first stage on; or a service behind admissions raises its task
  pub data SectionTail (b : ℕ) (xs : List Stage) : Type 0 where
    was_raised : InSection config h b xs → SectionTail b xs
    gets_raised : (group : List Stage) (y : Stage) (rest : List Stage) → xs ≡ group ++ y ∷ rest → AreAdmissions group → is_admit y.stamped ≡ false
        → IsLowService config h y → SectionTail b xs

  -- what may raise task b, in a turn, is of that
  same_turn : (b c : ℕ) (e : Event) → may_raise config b e ≡ true → is_turn c e ≡ true → c ≡ b
  same_turn b c (event.Enter t) may turn = absurd (false≢true turn)
  same_turn b c (event.Back t) may turn = sym (eqb-true t c turn) ∙ eqb-true t b (and_parts (t == b) (declaration config b).non may).0
  same_turn b c (event.Call t served status) may turn = sym (eqb-true t c turn) ∙ eqb-true t b (and_parts (t == b) (is_service served service.GetResource) may).0
  same_turn b c e may turn = absurd (false≢true may)

  pub section_tail : (b at : ℕ) (s : System) (xs : List Stage) → Linked at s xs → AllByRecursion (Known config app) xs → AllByRecursion (IsBusy config h) xs → HasStarted s
      → AreOfSection config h b xs → SectionTail b xs
  section_tail b at s [] l k busy on section = was_raised tt
  section_tail b at s (x ∷ xs) l k busy on section =
      by (is_admit x.stamped) refl section
      (λ further. section_tail b (end_of x) x.next xs l.2 k.1 busy.1 (has_started config app x.stamped.event x.found x.next k.0.step) further)
    where
      behind_admission : is_admit x.stamped ≡ true → SectionTail b xs → SectionTail b (x ∷ xs)
      behind_admission admits (was_raised more) = was_raised ((λ is. absurd (true≢false (sym is ∙ admit_is_none config app h x admits))), more)
      behind_admission admits (gets_raised group y rest is all later low) = gets_raised (x ∷ group) y rest (ap (λ ys. x ∷ ys) is) (admits, all) later low

      may_be : is_admit x.stamped ≡ false → is_other config h x ≡ true → InSection config h b xs → may_raise config b x.stamped.event ≡ true → SectionTail b (x ∷ xs)
      may_be later other more may = which (raised_or_served config app h x k.0 busy.0 (subst HasStarted (sym l.1) on) other)
        where
          which : ((c : ℕ) × IsLower config h c × IsRaisedTurn config h c x) ⊎ IsLowService config h x → SectionTail b (x ∷ xs)
          which (inl (c, lower, r)) =
              was_raised ((λ _. subst (λ v. IsRaisedTurn config h v x) (same_turn b c x.stamped.event may r.turn) r), more)
          which (inr low) = gets_raised [] x xs refl tt later low

      opened : is_admit x.stamped ≡ false → (is_other config h x ≡ true) ⊎ (is_other config h x ≡ false)
          → (is_other config h x ≡ true → IsRaisedTurn config h b x ⊎ (may_raise config b x.stamped.event ≡ true)) → InSection config h b xs → SectionTail b (x ∷ xs)
      opened later (inr off) how more = was_raised ((λ is. absurd (true≢false (sym is ∙ off))), more)
      opened later (inl other) how more = which (how other)
        where
          which : IsRaisedTurn config h b x ⊎ (may_raise config b x.stamped.event ≡ true) → SectionTail b (x ∷ xs)
          which (inl r) = was_raised ((λ _. r), more)
          which (inr may) = may_be later other more may

      by : (a : Bool) → is_admit x.stamped ≡ a → OpensSection config h b a (AreOfSection config h b xs) x xs → (AreOfSection config h b xs → SectionTail b xs) → SectionTail b (x ∷ xs)
      by true admits further again = behind_admission admits (again further)
      by false later s again = opened later (cases_Bool (is_other config h x)) s.0 s.1

  -- where each other event is in a raised turn, they are a section
  pub all_of_section : (b : ℕ) (xs : List Stage) → InSection config h b xs → AreOfSection config h b xs
  all_of_section b [] section = tt
  all_of_section b (x ∷ xs) section = by (is_admit x.stamped) (all_of_section b xs section.1)
    where
      by : (a : Bool) → AreOfSection config h b xs → OpensSection config h b a (AreOfSection config h b xs) x xs
      by true rest = rest
      by false rest = ((λ is. inl (section.0 is)), section.1)
