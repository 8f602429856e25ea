-- What task h has of the turn with which it leaves, where a period begins with that.
use Rattle.std.proofs.Common.{◌≡◌, ℕ, ◌+◌, ◌<◌, ◌≤◌, List, [], ◌∷◌, Bool, true, false, cond, refl, ap, arith, inl, inr, is_some, ◌&&◌}
use Rattle.std.specs.List.{AllByRecursion}
use Rattle.sloth_base.specs.declared.config.Config.{Config}
use Rattle.sloth_base.specs.declared.app.App.{App}
use Rattle.std.proofs.lemmas.Bool.{false≢true}
use Rattle.sloth_base.specs.Events.{admitted_line}
use Rattle.osek_scheduler.specs.InTime.{is_admit}
use Rattle.osek_scheduler.specs.State.{System}
use Rattle.run_counts.specs.Stages.{Stage, unseen, charged, own, end_of, is_turn, is_running}
use Rattle.run_counts.specs.OwnCounts.{if_preempted, IsOwn}
use Rattle.osek_blocking.specs.Pace.{takes_line}
use Rattle.response_laws.specs.Shares.{share_of}
use Rattle.response_laws.proofs.LowerSpending.{admit_own}
use Rattle.response_laws.proofs.OwnShares.{own_no_round}
use Rattle.sloth_base.specs.declared.service.Event.{Event}
use Rattle.sloth_base.specs.declared.service.Event.TheVariants as event
use Rattle.run_counts.specs.Rounds.{goes_on_waiting, is_left, total}
use Rattle.response_laws.proofs.RoundEnds.{left_inactive}
use Rattle.response_laws.proofs.RoundSums.{no_round}
use Rattle.response_laws.specs.Sums.{is_over}
use Rattle.response_laws.specs.Turns.{activated, was_set, in_turn, at_entry, round_behind, if_turn}
use Rattle.response_laws.specs.Busy.{LeavesFirst}
use Rattle.response_laws.specs.Demand.{Start}
use Rattle.response_laws.specs.Starts.{SomeIsWithin}
use Rattle.response_laws.proofs.Linked.{Known, Linked}
use Rattle.osek_scheduler.proofs.Facts.{Facts}

pub at_most_itself : (b : Bool) (n : ℕ) → cond b n 0 ≤ n
at_most_itself true n = omega arith
at_most_itself false n = omega arith

-- what is left of a round of h
abbrev pub rest_own : Config → (h : ℕ) → List Stage → ℕ
rest_own config h xs = total (share_of config h) (round_behind false h xs)

abbrev pub rest_of : (h : ℕ) → (Stage → ℕ) → List Stage → ℕ
rest_of h f xs = total (if_turn h f) (round_behind false h xs)

module _ (config : Config) (h longest late starts : ℕ) (start : ℕ → Start) where
  -- where it leaves with a stage, starts have what it leaves with
  abbrev pub LeavesWithin : Stage → Type 0
  LeavesWithin x =
      is_left h x.stamped.event ≡ true → SomeIsWithin config h starts start longest late x × SomeIsWithin config h starts start (charged x + longest) 0 x

  -- a start has what is left of its turn
  pub record HasLeaving (xs : List Stage) : Type 0 where
    pub which : ℕ
    pub there : which < starts
    pub no_boot_start : (start which).is_boot ≡ false
    pub front : rest_own config h xs + longest ≤ (start which).inflow.front
    pub acts : (j : ℕ) → is_over config h j ≡ true → rest_of h (activated j) xs ≤ (start which).inflow.acts j
    pub sets : (j : ℕ) → is_over config h j ≡ true → rest_of h (was_set j) xs ≤ (start which).inflow.sets j

module _ (config : Config) (app : App) (w : Facts config app) (h : ℕ) where
  -- what stages that begin with its leaving have of h's turn is what it leaves with
  pub step_left : (f : Stage → ℕ) (x : Stage) (xs : List Stage) → Known config app x → Linked (end_of x) x.next xs → AllByRecursion (Known config app) xs
      → is_left h x.stamped.event ≡ true → rest_of h f (x ∷ xs) ≤ f x
  step_left f x xs k l ks is =
      by (at_entry h x)
      (no_round false h f config app (end_of x) x.next xs l ks (left_inactive config app w h x k is))
    where
      by : (e : Bool) → rest_of h f xs ≤ 0 → total (if_turn h f) (cond e [] (x ∷ cond (false && goes_on_waiting h x.stamped.event) [] (round_behind false h xs))) ≤ f x
      by true rest = omega arith
      by false rest = let few = at_most_itself (in_turn h x) (f x) in omega (arith, rest, few)

  pub step_admit : (f : Stage → ℕ) (x : Stage) (xs : List Stage) → is_admit x.stamped ≡ true → rest_of h f (x ∷ xs) ≤ rest_of h f xs
  step_admit f x xs admits = by (at_entry h x) (no_turn x.stamped.event admits)
    where
      no_turn : (e : Event) → is_some (admitted_line e) ≡ true → is_turn h e ≡ false
      no_turn (event.Admit t) admits = refl
      no_turn (event.Due c) admits = refl
      no_turn e admits = absurd (false≢true admits)

      by : (e : Bool) → in_turn h x ≡ false
          → total (if_turn h f) (cond e [] (x ∷ cond (false && goes_on_waiting h x.stamped.event) [] (round_behind false h xs))) ≤ rest_of h f xs
      by true none = omega arith
      by false none = let zero = ap {B = ℕ} (λ b. cond b (f x) 0) none in omega (arith, zero)

  -- the same of its own counts
  pub own_left : (x : Stage) (xs : List Stage) → Known config app x → IsOwn config h x → Linked (end_of x) x.next xs → AllByRecursion (Known config app) xs
      → is_left h x.stamped.event ≡ true → rest_own config h (x ∷ xs) ≤ charged x
  own_left x xs k owns l ks is =
      by (at_entry h x) (own_no_round config app h false (end_of x) x.next xs l ks (left_inactive config app w h x k is))
    where
      no_line : (e : Event) → is_left h e ≡ true → takes_line e ≡ false
      no_line (event.Left u s) is = refl
      no_line e is = absurd (false≢true is)

      here : own config h x ≤ charged x
      here =
          let zero : if_preempted config h unseen x ≡ 0 = ap (λ b. cond (b && is_running config x.found h) (unseen x) 0) (no_line x.stamped.event is) in
          let few = at_most_itself (in_turn h x) (charged x) in
          omega (arith, owns, zero, few)

      by : (e : Bool) → rest_own config h xs ≤ 0
          → total (share_of config h) (cond e [] (x ∷ cond (false && goes_on_waiting h x.stamped.event) [] (round_behind false h xs))) ≤ charged x
      by true rest = omega arith
      by false rest = let few = at_most_zero (at_entry h x) (own config h x) in let le = here in omega (arith, rest, few, le)
        where
          at_most_zero : (b : Bool) (n : ℕ) → cond b 0 n ≤ n
          at_most_zero true n = omega arith
          at_most_zero false n = omega arith

  pub own_admit : (x : Stage) (xs : List Stage) → is_admit x.stamped ≡ true → rest_own config h (x ∷ xs) ≤ rest_own config h xs
  own_admit x xs admits = by (at_entry h x)
    where
      at_most_zero : (b : Bool) (n : ℕ) → cond b 0 n ≤ n
      at_most_zero true n = omega arith
      at_most_zero false n = omega arith

      by : (e : Bool) → total (share_of config h) (cond e [] (x ∷ cond (false && goes_on_waiting h x.stamped.event) [] (round_behind false h xs))) ≤ rest_own config h xs
      by true = omega arith
      by false = let none = admit_own config h x admits in let few = at_most_zero (at_entry h x) (own config h x) in omega (arith, none, few)

  module _ (longest late starts : ℕ) (start : ℕ → Start) where
    -- behind admissions
    pub has_leaving : (at : ℕ) (s : System) (xs : List Stage) → Linked at s xs → AllByRecursion (Known config app) xs → AllByRecursion (IsOwn config h) xs → AllByRecursion (LeavesWithin config h longest late starts start) xs → LeavesFirst h xs
        → HasLeaving config h longest late starts start xs
    has_leaving at s [] l k owned kept leaves = absurd leaves
    has_leaving at s (x ∷ xs) l k owned kept (inl is) =
        let own = (kept.0 is).1 in
        record {
          which = own.0;
          there = own.1;
          no_boot_start = own.2;
          front = let a = own_left x xs k.0 owned.0 l.2 k.1 is in let b = own.3.front in omega (arith, a, b);
          acts = λ j over. let a = step_left (activated j) x xs k.0 l.2 k.1 is in let b = own.3.acts j over in omega (arith, a, b);
          sets = λ j over. let a = step_left (was_set j) x xs k.0 l.2 k.1 is in let b = own.3.sets j over in omega (arith, a, b);
        }
    has_leaving at s (x ∷ xs) l k owned kept (inr (admits, leaves)) =
        let rest = has_leaving (end_of x) x.next xs l.2 k.1 owned.1 kept.1 leaves in
        record {
          which = rest.which;
          there = rest.there;
          no_boot_start = rest.no_boot_start;
          front = let a = own_admit x xs admits in let b = rest.front in omega (arith, a, b);
          acts = λ j over. let a = step_admit (activated j) x xs admits in let b = rest.acts j over in omega (arith, a, b);
          sets = λ j over. let a = step_admit (was_set j) x xs admits in let b = rest.sets j over in omega (arith, a, b);
        }
