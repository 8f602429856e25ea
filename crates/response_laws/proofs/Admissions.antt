-- Admissions of a task that nothing but its arrivals makes Ready find it Suspended.
use Rattle.std.proofs.Common.{◌≡◌, ℕ, ◌+◌, ◌<◌, ◌≤◌, ◌⊎◌, not, List, [], ◌∷◌, ◌++◌, length, map, Bool, true, false, cond, refl, sym, ap, ◌∙◌, subst, arith, inl, inr, append_assoc, is_some, Option, Some, None}
use Rattle.std.specs.Prelude.{AllPairs, IsTrue}
use Rattle.std.specs.List.{AllByRecursion, list_any}
use Rattle.std.proofs.lemmas.Bool.{cases_Bool, false≢true, true≢false, eq-eqb, and_parts, not-true}
use Rattle.std.proofs.lemmas.List.Folds.{list_any_at}
use Rattle.std.proofs.lemmas.List.Elements.{recursion_from_All, All-from_recursion}
use Rattle.sloth_base.specs.Options.{is_number}
use Rattle.sloth_base.specs.Events.{admitted_line}
use Rattle.sloth_base.specs.declared.config.Config.{Config}
use Rattle.sloth_base.specs.declared.app.App.{App}
use Rattle.sloth_base.specs.declared.service.Arrival.{Arrival}
use Rattle.sloth_base.specs.declared.service.Event.{Event}
use Rattle.sloth_base.specs.declared.service.Event.TheVariants as event
use Rattle.sloth_base.specs.declared.service.Stamped.{Stamped}
use Rattle.sloth_base.specs.Named.{undeclared_alarm}
use Rattle.code_rules.specs.WellFormed.{WellFormed}
use Rattle.load_text.specs.declared.load_line.Entry.{Entry}
use Rattle.load_text.specs.Loads.{distance, IsBehind, KeepDistances}
use Rattle.osek_scheduler.specs.declared.state.TaskState.TheVariants as mode
use Rattle.osek_scheduler.specs.State.{System, task, opening}
use Rattle.osek_scheduler.specs.InTime.{IsStamped, IsOrdered, IsSubsequence, InTime, is_admit, others}
use Rattle.osek_scheduler.specs.Runs.{AreStepsTo, OsekRun}
use Rattle.osek_scheduler.proofs.Facts.{Facts, facts}
use Rattle.osek_blocking.specs.Blocking.{MakesReady}
use Rattle.run_counts.specs.Rounds.{is_left}
use Rattle.response_laws.specs.Arrivals.{HasDistances}
use Rattle.response_laws.specs.Made.{is_activating, is_made_from_outside, is_made_by_arrivals}
use Rattle.response_laws.specs.Response.{LeavesBefore, RespondsWithin}
use Rattle.response_laws.specs.Admissions.{HasOther, IsFollowed, AdmissionsFindSuspended}
use Rattle.response_laws.proofs.Linked.{each_append, each_joined, each_so}
use Rattle.response_laws.proofs.Ordering.{ordered_front, admits_before, admits_behind}
use Rattle.response_laws.proofs.Distant.{apart}
use Rattle.response_laws.proofs.Due.{Since, asleep, made, since}
use Rattle.response_laws.proofs.Passing.{Cut, at_one, in_front, behind_it, cut}

-- ---- events

-- an admission is no leaving
stays : (t : ℕ) (e : Stamped) → is_admit e ≡ true → is_left t e.event ≡ false
stays t e admits = by e.event admits
  where
    by : (w : Event) → is_some (admitted_line w) ≡ true → is_left t w ≡ false
    by (event.Left u served) admits = absurd (false≢true admits)
    by w admits = refl

-- the events up to the first that is no admission
pub record Others (events : List Stamped) : Type 0 where
  pub group : List Stamped
  pub next : Stamped
  pub rest : List Stamped
  pub are : events ≡ group ++ next ∷ rest
  pub admits : AllByRecursion (λ e. is_admit e ≡ true) group
  pub other : is_admit next ≡ false

-- there is one, or all are admissions
pub first_other : (events : List Stamped) → Others events ⊎ AllByRecursion (λ e. is_admit e ≡ true) events
first_other [] = inr tt
first_other (e ∷ events) = by (cases_Bool (is_admit e)) (first_other events)
  where
    by : (is_admit e ≡ true) ⊎ (is_admit e ≡ false) → Others events ⊎ AllByRecursion (λ x. is_admit x ≡ true) events
        → Others (e ∷ events) ⊎ AllByRecursion (λ x. is_admit x ≡ true) (e ∷ events)
    by (inr other) further = inl (record { group = []; next = e; rest = events; are = refl; admits = tt; other = other })
    by (inl admits) (inl more) = inl (record {
      group = e ∷ more.group;
      next = more.next;
      rest = more.rest;
      are = ap (λ es. e ∷ es) more.are;
      admits = (admits, more.admits);
      other = more.other;
    })
    by (inl admits) (inr all) = inr (admits, all)

-- among admissions there is no other event
none_other : (events : List Stamped) → AllByRecursion (λ e. is_admit e ≡ true) events → length (others events) ≡ 0
none_other [] all = refl
none_other (e ∷ events) all = by (is_admit e) all.0 (none_other events all.1)
  where
    by : (b : Bool) → b ≡ true → length (others events) ≡ 0 → length (cond (not b) (e ∷ others events) (others events)) ≡ 0
    by true is zero = zero
    by false is zero = absurd (false≢true is)

-- ---- arrivals that keep a load

module _ (load : List Entry) (line d : ℕ) (is : distance load line ≡ Some d) where
  abbrev key_of : Stamped → ℕ × Option ℕ
  key_of e = (e.stamp.at, admitted_line e.event)

  abbrev keys : List Arrival → List (ℕ × Option ℕ)
  keys arrivals = map (λ (a : Arrival). (a.at, Some a.line)) arrivals

  abbrev line_of : Option ℕ → ℕ
  line_of (Some l) = l
  line_of None = 0

  same_line : (e : Stamped) (b : Arrival) → admitted_line e.event ≡ Some line → key_of e ≡ (b.at, Some b.line) → (b.line ≡ line) × (e.stamp.at ≡ b.at)
  same_line e b admits same = (
    sym (ap (λ (k : ℕ × Option ℕ). line_of k.1) same) ∙ ap line_of admits,
    ap (λ (k : ℕ × Option ℕ). k.0) same,
  )

  -- the last of admissions that follow one another is among the arrivals
  among : (low : ℕ) (es : List Stamped) (y : Stamped) (arrivals : List Arrival) → admitted_line y.event ≡ Some line
      → IsSubsequence (map key_of (es ++ y ∷ [])) (keys arrivals) → AllByRecursion (λ b. b.line ≡ line → low ≤ b.at) arrivals → low ≤ y.stamp.at
  among low [] y [] admits sub each = absurd sub
  among low [] y (b ∷ arrivals) admits (inl here) each =
      let both = same_line y b admits here.0 in
      let le = each.0 both.0 in
      let same = both.1 in
      omega (arith, le, same)
  among low [] y (b ∷ arrivals) admits (inr sub) each = among low [] y arrivals admits sub each.1
  among low (e ∷ es) y [] admits sub each = absurd sub
  among low (e ∷ es) y (b ∷ arrivals) admits (inl here) each = among low es y arrivals admits here.1 each.1
  among low (e ∷ es) y (b ∷ arrivals) admits (inr sub) each = among low (e ∷ es) y arrivals admits sub each.1

  -- so the first and the last of them are a distance apart
  pub follow_apart : (x : Stamped) (es : List Stamped) (y : Stamped) (arrivals : List Arrival) → admitted_line x.event ≡ Some line → admitted_line y.event ≡ Some line
      → IsSubsequence (map key_of (x ∷ (es ++ y ∷ []))) (keys arrivals) → KeepDistances load arrivals → x.stamp.at + d ≤ y.stamp.at
  follow_apart x es y [] first last sub keeps = absurd sub
  follow_apart x es y (b ∷ arrivals) first last (inl here) keeps =
      let both = same_line x b first here.0 in
      among (x.stamp.at + d) es y arrivals last here.1
      (each_so (λ c. c.line ≡ b.line → IsBehind (distance load b.line) b c) (λ c. c.line ≡ line → x.stamp.at + d ≤ c.at)
      (λ c behind same.
      let le : b.at + d ≤ c.at = subst (λ o. IsBehind o b c) (ap (distance load) both.0 ∙ is) (behind (same ∙ sym both.0)) in
      let moment = both.1 in
      omega (arith, le, moment)) arrivals keeps.1)
  follow_apart x es y (b ∷ arrivals) first last (inr sub) keeps = follow_apart x es y arrivals first last sub keeps.2

-- ---- in a run

module _ (config : Config) (app : App) (load : List Entry) (n more t r d : ℕ) (arrivals : List Arrival) (events : List Stamped) (wf : WellFormed config app)
    (osek : OsekRun config app events) (in_time : InTime config n arrivals events) (positive : HasDistances load) (keeps : KeepDistances load arrivals)
    (responds : RespondsWithin config app n more t r true events) (made_so : is_made_by_arrivals config app t ≡ true) (is_distance : distance load t ≡ Some d) (short : r ≤ d) where
  w : Facts config app
  w = facts config app wf

  outside : is_made_from_outside config app t ≡ true
  outside = (and_parts (is_made_from_outside config app t) (not (list_any (is_activating t) config.alarms)) made_so).0

  -- nothing is asked of what makes the task Ready
  anywhere : {P : Type 0} → true ≡ false → P
  anywhere e = absurd (true≢false e)

  -- ---- two admissions of the task

  module _ (before behind rest : List Stamped) (one other : Stamped) (is : events ≡ before ++ one ∷ (behind ++ other ∷ rest))
      (admits_one : one.event ≡ event.Admit t) (admits_other : other.event ≡ event.Admit t) where
    of_task : (e : Stamped) → e.event ≡ event.Admit t → is_number t (admitted_line e.event) ≡ true
    of_task e admits = ap (λ x. is_number t (admitted_line x)) admits ∙ eq-eqb t t refl

    distant : (one.stamp.at + d ≤ other.stamp.at) ⊎ (other.stamp.at + d ≤ one.stamp.at)
    distant = apart config load n t d arrivals events in_time positive keeps is_distance before behind rest one other is (of_task one admits_one) (of_task other admits_other)

    -- what the events in front of one owe it
    placed : (front : List Stamped) (e : Stamped) (end : List Stamped) → events ≡ front ++ e ∷ end → AllByRecursion (λ x. IsOrdered x e) front
    placed front e end at = ordered_front front e end (subst (AllPairs IsOrdered) at in_time.placed)

    is_admit_of : (e : Stamped) → e.event ≡ event.Admit t → is_admit e ≡ true
    is_admit_of e admits = ap (λ x. is_some (admitted_line x)) admits

    module _ (found first : System) (leads : AreStepsTo config app before (opening config app) found) (makes : MakesReady config app t one.event found first)
        (none : AllByRecursion (λ e. is_left t e.event ≡ false) behind) where
      -- where an event stands between them, that would span too much
      not_between : Others behind → other.stamp.at + d ≤ one.stamp.at → ⊥
      not_between o earlier =
          let at : events ≡ before ++ one ∷ (o.group ++ o.next ∷ (o.rest ++ other ∷ rest)) =
          is ∙ ap (λ es. before ++ one ∷ (es ++ other ∷ rest)) o.are ∙ ap (λ es. before ++ one ∷ es) (append_assoc o.group (o.next ∷ o.rest) (other ∷ rest)) in
          let stay = (each_append (λ e. is_left t e.event ≡ false) o.group (o.next ∷ o.rest) (subst (AllByRecursion (λ e. is_left t e.event ≡ false)) o.are none)).0 in
          let spans = (responds.pends before o.group (o.rest ++ other ∷ rest) one o.next found first one.stamp.at at leads makes anywhere (inl refl) stay o.other).spans in
          let in_one = (each_append (λ x. IsOrdered x o.next) before (one ∷ o.group)
          (placed (before ++ one ∷ o.group) o.next (o.rest ++ other ∷ rest) (at ∙ sym (append_assoc before (one ∷ o.group) (o.next ∷ (o.rest ++ other ∷ rest)))))).1.0 in
          let until = admits_before one o.next in_one o.other (is_admit_of one admits_one) in
          let in_other = (each_append (λ x. IsOrdered x other) (before ++ one ∷ o.group) (o.next ∷ o.rest)
          (placed ((before ++ one ∷ o.group) ++ o.next ∷ o.rest) other rest
          (at ∙ sym (append_assoc before (one ∷ o.group) (o.next ∷ (o.rest ++ other ∷ rest))) ∙ sym (append_assoc (before ++ one ∷ o.group) (o.next ∷ o.rest) (other ∷ rest))))).1.0 in
          let from = admits_behind o.next other in_other (is_admit_of other admits_other) o.other in
          let fits = short in
          omega (arith, spans, until, from, earlier, fits)

      -- where none does, they keep the order of the arrivals
      in_order : AllByRecursion (λ e. is_admit e ≡ true) behind → one.stamp.at + d ≤ other.stamp.at
      in_order all =
          follow_apart load t d is_distance one behind other arrivals (ap admitted_line admits_one) (ap admitted_line admits_other)
          (in_time.in_order before (one ∷ (behind ++ other ∷ [])) rest
          (is ∙ ap (λ es. before ++ one ∷ es) (sym (append_assoc behind (other ∷ []) rest)))
          (All-from_recursion (λ e. IsTrue (is_admit e)) (one ∷ (behind ++ other ∷ []))
          (is_admit_of one admits_one, each_joined (λ e. is_admit e ≡ true) behind (other ∷ []) all (is_admit_of other admits_other, tt)))) keeps

      later : one.stamp.at + d ≤ other.stamp.at
      later = by distant (first_other behind)
        where
          by : (one.stamp.at + d ≤ other.stamp.at) ⊎ (other.stamp.at + d ≤ one.stamp.at) → Others behind ⊎ AllByRecursion (λ e. is_admit e ≡ true) behind
              → one.stamp.at + d ≤ other.stamp.at
          by (inl le) between = le
          by (inr earlier) (inl o) = absurd (not_between o earlier)
          by (inr earlier) (inr all) = in_order all

      -- the response is over by then, but another event behind would be in it
      not_followed : HasOther rest → ⊥
      not_followed has = by (first_other rest)
        where
          by : Others rest ⊎ AllByRecursion (λ e. is_admit e ≡ true) rest → ⊥
          by (inr all) = let zero = none_other rest all in let some = has in omega (arith, zero, some)
          by (inl o) =
              let at : events ≡ before ++ one ∷ ((behind ++ other ∷ o.group) ++ o.next ∷ o.rest) =
              is ∙ ap (λ es. before ++ one ∷ (behind ++ other ∷ es)) o.are ∙ ap (λ es. before ++ one ∷ es) (sym (append_assoc behind (other ∷ o.group) (o.next ∷ o.rest))) in
              let stay = each_joined (λ e. is_left t e.event ≡ false) behind (other ∷ o.group) none
              (stays t other (is_admit_of other admits_other), each_so (λ e. is_admit e ≡ true) (λ e. is_left t e.event ≡ false) (stays t) o.group o.admits) in
              let ends = (responds.pends before (behind ++ other ∷ o.group) o.rest one o.next found first one.stamp.at at leads makes anywhere (inl refl) stay o.other).ends in
              let in_other = (each_append (λ x. IsOrdered x o.next) behind (other ∷ o.group)
              (each_append (λ x. IsOrdered x o.next) before (one ∷ (behind ++ other ∷ o.group))
              (placed (before ++ one ∷ (behind ++ other ∷ o.group)) o.next o.rest
              (at ∙ sym (append_assoc before (one ∷ (behind ++ other ∷ o.group)) (o.next ∷ o.rest))))).1.1).1.0 in
              let until = admits_before other o.next in_other o.other (is_admit_of other admits_other) in
              let le = later in
              let fits = short in
              omega (arith, ends, until, le, fits)

      -- the run is not so long that the task leaves
      not_long : one.stamp.at + r + more ≤ n → ⊥
      not_long many = by (cut behind other rest leaving.front leaving.left leaving.rest leaving.parts)
        where
          leaving : LeavesBefore t (one.stamp.at + r) (behind ++ other ∷ rest)
          leaving = responds.leaves before (behind ++ other ∷ rest) one found first one.stamp.at is leads makes anywhere (inl refl) many

          by : Cut behind other rest leaving.front leaving.left leaving.rest → ⊥
          by (at_one same) = false≢true (ap (is_left t) (sym admits_other ∙ ap (λ (e : Stamped). e.event) same) ∙ leaving.leaves)
          by (in_front mid front parts) =
              let at : events ≡ (before ++ one ∷ (behind ++ other ∷ mid)) ++ leaving.left ∷ leaving.rest =
              is ∙ ap (λ es. before ++ one ∷ es) (leaving.parts ∙ ap (λ es. es ++ leaving.left ∷ leaving.rest) front)
              ∙ sym (append_assoc before (one ∷ (behind ++ other ∷ mid)) (leaving.left ∷ leaving.rest)) in
              let in_other = (each_append (λ x. IsOrdered x leaving.left) behind (other ∷ mid)
              (each_append (λ x. IsOrdered x leaving.left) before (one ∷ (behind ++ other ∷ mid))
              (placed (before ++ one ∷ (behind ++ other ∷ mid)) leaving.left leaving.rest at)).1.1).1.0 in
              let until = admits_before other leaving.left in_other (no_admit leaving.left leaving.leaves) (is_admit_of other admits_other) in
              let ends = leaving.in_time in
              let le = later in
              let fits = short in
              omega (arith, ends, until, le, fits)
            where
              no_admit : (e : Stamped) → is_left t e.event ≡ true → is_admit e ≡ false
              no_admit e left = which (is_admit e) refl
                where
                  which : (b : Bool) → is_admit e ≡ b → b ≡ false
                  which false at = refl
                  which true at = absurd (false≢true (sym (stays t e at) ∙ left))
          by (behind_it mid front parts) =
              false≢true (sym ((each_append (λ e. is_left t e.event ≡ false) leaving.front (leaving.left ∷ mid) (subst (AllByRecursion (λ e. is_left t e.event ≡ false)) front none)).1.0) ∙ leaving.leaves)

      below : other.stamp.at < n
      below =
          ((each_append (IsStamped n) (before ++ one ∷ behind) (other ∷ rest)
          (subst (AllByRecursion (IsStamped n)) (is ∙ sym (append_assoc before (one ∷ behind) (other ∷ rest))) (recursion_from_All (IsStamped n) events in_time.stamped))).1.0).below

      never : IsFollowed n more r d other rest → ⊥
      never (inl has) = not_followed has
      never (inr (inl many)) = not_long (let le = later in let fits = short in omega (arith, many, le, fits))
      never (inr (inr far)) = not_long (let lt = below in let le = later in omega (arith, far, lt, le))

  -- ---- each of them

  find_suspended : (before behind : List Stamped) (admit : Stamped) (found : System) → events ≡ before ++ admit ∷ behind
      → AreStepsTo config app before (opening config app) found → admit.event ≡ event.Admit t → IsFollowed n more r d admit behind
      → (task found t).state ≡ mode.Suspended
  find_suspended before behind admit found is leads admits which = by (since config app w t outside before found leads)
    where
      both : (is_made_from_outside config app t ≡ true) × (not (list_any (is_activating t) config.alarms) ≡ true)
      both = and_parts (is_made_from_outside config app t) (not (list_any (is_activating t) config.alarms)) made_so

      by : Since config app w t outside before found → (task found t).state ≡ mode.Suspended
      by (asleep suspended) = suspended
      by (made front one mid at first past led makes (inl made_one) none) =
          absurd (never front mid behind one admit (is ∙ ap (λ es. es ++ admit ∷ behind) past ∙ append_assoc front (one ∷ mid) (admit ∷ behind)) made_one admits at first led makes none which)
      by (made front one mid at first past led makes (inr expiry) none) =
          absurd (true≢false (sym (list_any_at (is_activating t) config.alarms expiry.number undeclared_alarm expiry.inside expiry.makes) ∙ not-true (list_any (is_activating t) config.alarms) both.1))

pub admissions_find_suspended : AdmissionsFindSuspended
admissions_find_suspended config app load n more t r d arrivals events wf osek in_time positive keeps responds made_so is_distance short before behind admit found is leads admits which =
    find_suspended config app load n more t r d arrivals events wf osek in_time positive keeps responds made_so is_distance short before behind admit found is leads admits which
