-- Runs lose no expiry of the alarm of a task that is told as lossless.
use Rattle.std.proofs.Common.{◌≡◌, ℕ, zero, suc, ◌+◌, ◌*◌, ◌<◌, ◌≤◌, ◌⊎◌, ◌==◌, ◌&&◌, not, cond, count_by, get_or, Bool, true, false, List, [], ◌∷◌, length, is_some, Option, Some, None, refl, sym, ap, ◌∙◌, subst, arith, inl, inr}
use Rattle.std.specs.Prelude.{position}
use Rattle.std.proofs.lemmas.Bool.{and_parts, or_cases, not-true, eqb-true, leb-true, cases_eq, false≢true}
use Rattle.std.proofs.lemmas.List.Quantifiers.{position-Some}
use Rattle.std.proofs.lemmas.List.Sums.{sum_by-cons}
use Rattle.sloth_base.specs.declared.config.Config.{Config}
use Rattle.sloth_base.specs.declared.app.App.{App}
use Rattle.sloth_base.specs.declared.image.Image.{Image}
use Rattle.sloth_base.specs.declared.service.Service.TheVariants as service
use Rattle.sloth_base.specs.Named.{undeclared_alarm, alarm_declaration}
use Rattle.sloth_base.specs.Owners.{owners_in}
use Rattle.code_rules.specs.WellFormed.{WellFormed}
use Rattle.load_text.specs.declared.load_line.Entry.{Entry}
use Rattle.load_text.specs.declared.load_line.Form.TheVariants as form
use Rattle.load_text.specs.Loads.{distance, IsLoad}
use Rattle.sim_induction.specs.Sound.{Sound, events_of}
use Rattle.sim_induction.specs.Weighed.{Weighed}
use Rattle.run_windows.specs.RunWindows.{IsRunResponse}
use Rattle.response_laws.specs.Made.{are_called, is_activating, is_made_from_outside, is_made_by_one_alarm}
use Rattle.response_laws.specs.Ticks.{activates}
use Rattle.response_laws.specs.Expected.{line_of, IsMadeByAlarm, IsExpected, ExpiriesFindSuspended}
use Rattle.response_laws.specs.SoundRuns.{IsLongestItem}
use Rattle.response_laws.proofs.Expected.{expected_expiries_find_suspended}
use Rattle.response_laws.proofs.Unmade.{uncalled}
use Rattle.run_windows.specs.declared.costs.RunCosts.{RunCosts}
use Rattle.run_costs.specs.RunRecord.{IsRunRecord}
use Rattle.run_responses.proofs.Meeting.{some_said}
use Rattle.run_responses.proofs.Sizes.{longest_is}
use Rattle.run_responses.proofs.TickTimes.{tick_fits}
use Rattle.response_text.specs.Lines.{is_within, is_within_cycle, is_spaced, has_spaced, keeps_expiries}
use Rattle.response_text.specs.ResponseText.{ImageKeepsNumbers, ImageKeepsExpiries}

-- ---- the only one that passes a test

module _ {X : Type 0} (test : X → Bool) (d : X) where
  some_counted : (xs : List X) (i : ℕ) → i < length xs → test (get_or xs i d) ≡ true → 1 ≤ count_by test xs
  some_counted [] i lt is = absurd (omega (arith, lt))
  some_counted (x ∷ xs) zero lt is =
      let more = sum_by-cons (λ y. cond (test y) 1 0) x xs in let here = ap {B = ℕ} (λ b. cond b 1 0) is in omega (arith, more, here)
  some_counted (x ∷ xs) (suc i) lt is =
      let more = sum_by-cons (λ y. cond (test y) 1 0) x xs in let rest = some_counted xs i (omega (arith, lt)) is in omega (arith, more, rest)

  only_one : (xs : List X) → count_by test xs ≤ 1 → (i j : ℕ) → i < length xs → test (get_or xs i d) ≡ true → j < length xs → test (get_or xs j d) ≡ true → i ≡ j
  only_one [] few i j in_i is_i in_j is_j = absurd (omega (arith, in_i))
  only_one (x ∷ xs) few zero zero in_i is_i in_j is_j = refl
  only_one (x ∷ xs) few zero (suc j) in_i is_i in_j is_j =
      let more = sum_by-cons (λ y. cond (test y) 1 0) x xs in
      let here = ap {B = ℕ} (λ b. cond b 1 0) is_i in
      let rest = some_counted xs j (omega (arith, in_j)) is_j in
      absurd (omega (arith, few, more, here, rest))
  only_one (x ∷ xs) few (suc i) zero in_i is_i in_j is_j =
      let more = sum_by-cons (λ y. cond (test y) 1 0) x xs in
      let here = ap {B = ℕ} (λ b. cond b 1 0) is_j in
      let rest = some_counted xs i (omega (arith, in_i)) is_i in
      absurd (omega (arith, few, more, here, rest))
  only_one (x ∷ xs) few (suc i) (suc j) in_i is_i in_j is_j =
      let more = sum_by-cons (λ y. cond (test y) 1 0) x xs in
      ap (λ n. suc n) (only_one xs (omega (arith, few, more)) i j (omega (arith, in_i)) is_i (omega (arith, in_j)) is_j)

-- ---- a run

module _ (config : Config) (app : App) (load : List Entry) (code : WellFormed config app) (in_load : IsLoad (owners_in config) load) (costs : RunCosts)
    (are : IsRunRecord config app load costs) (image : Image) (sound : Sound config app image) (weighed : Weighed config app image) where
  item : IsLongestItem app costs.longest
  item = subst (IsLongestItem app) (sym are.longest.2) (longest_is app are.longest.0 are.longest.1)

  module _ (t a : ℕ) (number : Option ℕ) (here : a < length config.alarms) (makes : activates t (alarm_declaration config a).action ≡ true)
      (kept : keeps_expiries config app load t number ≡ true) where
    both : (is_made_by_one_alarm config app t ≡ true) × ((not (is_some (distance load t)) && has_spaced config app load (position (is_activating t) config.alarms) number) ≡ true)
    both = and_parts (is_made_by_one_alarm config app t) (not (is_some (distance load t)) && has_spaced config app load (position (is_activating t) config.alarms) number) kept

    alone : (is_made_from_outside config app t ≡ true) × ((count_by (is_activating t) config.alarms == 1) ≡ true)
    alone = and_parts (is_made_from_outside config app t) (count_by (is_activating t) config.alarms == 1) both.0

    rest : (not (is_some (distance load t)) ≡ true) × (has_spaced config app load (position (is_activating t) config.alarms) number ≡ true)
    rest = and_parts (not (is_some (distance load t))) (has_spaced config app load (position (is_activating t) config.alarms) number) both.1

    -- there is no other
    only : (b : ℕ) → b < length config.alarms → activates t (alarm_declaration config b).action ≡ true → b ≡ a
    only b inside is =
        let one = eqb-true (count_by (is_activating t) config.alarms) 1 alone.1 in
        only_one (is_activating t) undeclared_alarm config.alarms (omega (arith, one)) b a inside is here makes

    spaced : is_spaced app load a (alarm_declaration config a) number ≡ true
    spaced = by (position (is_activating t) config.alarms) refl rest.1
      where
        by : (p : Option ℕ) → position (is_activating t) config.alarms ≡ p → has_spaced config app load p number ≡ true → is_spaced app load a (alarm_declaration config a) number ≡ true
        by None is none = absurd (false≢true none)
        by (Some b) is has =
            let found = position-Some (is_activating t) config.alarms b undeclared_alarm is in
            subst (λ m. is_spaced app load m (alarm_declaration config m) number ≡ true) (only b found.0 found.1) has

    never_arrives : distance load t ≡ None
    never_arrives = by (distance load t) refl rest.0
      where
        by : (o : Option ℕ) → distance load t ≡ o → not (is_some o) ≡ true → distance load t ≡ None
        by None is none = is
        by (Some d) is none = absurd (false≢true none)

    parts : (not (are_called service.SetRelAlarm service.SetAbsAlarm a app.funcs) ≡ true)
        × (is_within_cycle number (distance load (line_of config a)) (alarm_declaration config a).cycle ≡ true)
    parts =
        and_parts (not (are_called service.SetRelAlarm service.SetAbsAlarm a app.funcs)) (is_within_cycle number (distance load (line_of config a)) (alarm_declaration config a).cycle)
        (and_parts (not ((alarm_declaration config a).time == 0))
        (not (are_called service.SetRelAlarm service.SetAbsAlarm a app.funcs) && is_within_cycle number (distance load (line_of config a)) (alarm_declaration config a).cycle) spaced).1

    made_so : IsMadeByAlarm config app load t a
    made_so = record {
      outside = alone.0;
      never_arrives = never_arrives;
      inside = here;
      only = only;
      unset = uncalled app service.SetRelAlarm service.SetAbsAlarm a (not-true (are_called service.SetRelAlarm service.SetAbsAlarm a app.funcs) parts.0);
    }

    -- the alarm expires once, or the number is at most a cycle
    abbrev IsShort : Type 0
    IsShort =
        ((alarm_declaration config a).cycle ≡ 0)
        ⊎ ((r d : ℕ) × (number ≡ Some r) × (distance load (line_of config a) ≡ Some d) × (r ≤ (alarm_declaration config a).cycle * d))

    short : IsShort
    short = by (distance load (line_of config a)) refl parts.1
      where
        by : (o : Option ℕ) → distance load (line_of config a) ≡ o → is_within_cycle number o (alarm_declaration config a).cycle ≡ true → IsShort
        by None is none = absurd (false≢true none)
        by (Some d) is within = which (or_cases ((alarm_declaration config a).cycle == 0) (is_within number ((alarm_declaration config a).cycle * d)) within)
          where
            told : (o : Option ℕ) → number ≡ o → is_within o ((alarm_declaration config a).cycle * d) ≡ true → IsShort
            told None same none = absurd (false≢true none)
            told (Some r) same le = inr (r, d, same, is, leb-true r ((alarm_declaration config a).cycle * d) le)

            which : (((alarm_declaration config a).cycle == 0) ≡ true) ⊎ (is_within number ((alarm_declaration config a).cycle * d) ≡ true) → IsShort
            which (inl once) = inl (eqb-true (alarm_declaration config a).cycle 0 once)
            which (inr le) = told number refl le

  pub expiries_kept : (number : ℕ → Option ℕ) → ((t : ℕ) → t < length config.tasks → IsRunResponse costs.longest costs.late costs.costs t true (number t))
      → ImageKeepsNumbers config app image load costs.longest costs.late true number → ImageKeepsExpiries config app image load number
  expiries_kept number told respond arrivals n t a cuts come keeps cut works there kept here makes = by (short t a (number t) here makes kept)
    where
      positive : (line : ℕ) → (distance load line ≡ Some 0) → ⊥
      positive line = some_said form.Every line load in_load.numbers

      some : (d : ℕ) → distance load (line_of config a) ≡ Some d → 0 < d
      some d is = which (cases_eq d 0)
        where
          which : (d ≡ 0) ⊎ (d ≡ 0 → ⊥) → 0 < d
          which (inl none) = absurd (positive (line_of config a) (is ∙ ap (λ v. Some v) none))
          which (inr other) = omega (arith, other)

      law : (r : ℕ) → IsExpected config app load n (costs.longest + costs.late) t a r (events_of image arrivals n)
          → ExpiriesFindSuspended config app t a (events_of image arrivals n)
      law r expected =
          let run = sound.each arrivals n come in
          expected_expiries_find_suspended config app load n (costs.longest + costs.late) t a r arrivals (events_of image arrivals n) code run.osek run.in_time
          (weighed.each arrivals n come) positive keeps (made_so t a (number t) here makes kept) expected

      by : IsShort t a (number t) here makes kept → ExpiriesFindSuspended config app t a (events_of image arrivals n)
      by (inl once) = law 0 (inl once)
      by (inr (r, d, same, is, few)) =
          let bound = (subst (IsRunResponse costs.longest costs.late costs.costs t true) same (told t there)).0 in
          law r
          (inr (record {
            apart = d;
            is_distance = is;
            brief = tick_fits config app load costs.longest costs.late t r costs.costs are.costs item.some bound.within (alarm_declaration config a).counter d
                (code.in_range.configuration.alarms a undeclared_alarm here).counter is (some d is);
            within = few;
            responds = respond arrivals n t r cuts come keeps cut works there same;
          }))
