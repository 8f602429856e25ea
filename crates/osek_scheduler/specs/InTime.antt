-- When arrivals are admitted: at their moment, or when the stretch that is running then ends.
use Rattle.std.specs.Prelude.{ℕ, ◌-◌, ◌<◌, ◌≤◌, ◌≡◌, ◌⊎◌, ◌==◌, ◌&&◌, not, List, [], ◌∷◌, ◌++◌, Bool, true, false, cond, map, filter, count_by, All, AllPairs, IsTrue, is_some, Option, Some}
use Rattle.sloth_base.specs.Options.{is_number}
use Rattle.sloth_base.specs.declared.service.Arrival.{Arrival}
use Rattle.sloth_base.specs.declared.service.Event.{Event}
use Rattle.sloth_base.specs.declared.service.Stamp.{Stamp}
use Rattle.sloth_base.specs.declared.service.Stamped.{Stamped}
use Rattle.sloth_base.specs.declared.config.Config.{Config}
use Rattle.sloth_base.specs.Stretches.{Boots, stretch_limit, longest_stretch}
use Rattle.sloth_base.specs.Events.{admitted_line, is_boot}
use Rattle.sloth_base.specs.Events.{is_single}

-- an event is the admission of an arrival: a task's activation, or that a counter is due
abbrev pub is_admit : Stamped → Bool
is_admit e = is_some (admitted_line e.event)

-- the events that are no admissions
abbrev pub others : List Stamped → List Stamped
others events = filter (λ e. not (is_admit e)) events

-- how many admissions of a line a moment has
abbrev pub admits_at : ℕ → ℕ → List Stamped → ℕ
admits_at k line events = count_by (λ e. is_number line (admitted_line e.event) && (e.stamp.at == k)) events

-- how many arrivals of a line a moment has
abbrev pub arrivals_at : ℕ → ℕ → List Arrival → ℕ
arrivals_at k line arrivals = count_by (λ a. (a.line == line) && (a.at == k)) arrivals

-- ---- stamps

-- one instruction alone is seen in these events
abbrev pub IsAlone : Stamped → Type 0
IsAlone e = e.stamp.from ≡ e.stamp.at

-- how many counts an event spans: one, or any number
abbrev pub HasSpan : (single : Bool) → Stamped → Type 0
HasSpan true e = IsAlone e
HasSpan false e = Unit {0}

abbrev pub HasSpanFor : Event → Stamped → Type 0
HasSpanFor kind e = HasSpan (is_single kind) e

-- the stamp of an event of the first `n` instructions
pub record IsStamped (n : ℕ) (e : Stamped) : Type 0 where
  pub ordered : e.stamp.from ≤ e.stamp.at
  pub spans : HasSpanFor e.event e
  pub below : e.stamp.at < n

-- ---- the arrivals that the end of the run leaves out

-- none: each arrival of a moment below n is admitted
abbrev pub AreAllAdmitted : ℕ → List Arrival → List Stamped → Type 0
AreAllAdmitted n arrivals events = (k t : ℕ) → k < n → admits_at k t events ≡ arrivals_at k t arrivals

-- the longest stretch that the end may cut off: boot before there is a `boot`
abbrev pub longest_cut_off_stretch : Config → List Stamped → ℕ
longest_cut_off_stretch config [] = stretch_limit config Boots
longest_cut_off_stretch config (e ∷ events) = cond (is_boot e.event) (longest_stretch config) (longest_cut_off_stretch config events)

-- those from moment k on, which fall into the stretch that the end cuts off
pub record AreLeftOut (config : Config) (n : ℕ) (arrivals : List Arrival) (events : List Stamped) (k : ℕ) : Type 0 where
  pub admits : AreAllAdmitted k arrivals events
  pub leaves : (moment t : ℕ) → k ≤ moment → admits_at moment t events ≡ 0
  pub first : (t : ℕ) × (0 < arrivals_at k t arrivals)
  pub inside : k < n
  pub behind : All (λ e. e.stamp.at < k) (others events)
  pub short : n - k < longest_cut_off_stretch config events

-- ---- where an admission stands

-- what the stamps of an event and of one behind it owe, by which of the two are admissions
abbrev pub StandsBefore : Bool → Bool → Stamp → Stamp → Type 0
StandsBefore false false earlier later = earlier.at < later.from
StandsBefore true false admit later = admit.at ≤ later.at
StandsBefore false true earlier admit = earlier.from < admit.at
StandsBefore true true admit other = Unit {0}

-- an event's stamp may stand before that of a later event
abbrev pub IsOrdered : Stamped → Stamped → Type 0
IsOrdered earlier later = StandsBefore (is_admit earlier) (is_admit later) earlier.stamp later.stamp

-- the first list is the second with some items left out
abbrev pub IsSubsequence : List (ℕ × Option ℕ) → List (ℕ × Option ℕ) → Type 0
IsSubsequence [] ys = Unit {0}
IsSubsequence (x ∷ xs) [] = ⊥
IsSubsequence (x ∷ xs) (y ∷ ys) = ((x ≡ y) × IsSubsequence xs ys) ⊎ IsSubsequence (x ∷ xs) ys

-- admissions with no other event between them keep the order of the arrivals
abbrev pub KeepsOrder : List Arrival → List Stamped → Type 0
KeepsOrder arrivals events =
    (before group behind : List Stamped) → events ≡ before ++ (group ++ behind) → All (λ e. IsTrue (is_admit e)) group
    → IsSubsequence (map (λ e. (e.stamp.at, admitted_line e.event)) group) (map (λ a. (a.at, Some a.line)) arrivals)

-- the events of `n` instructions stand where the arrivals allow
pub record InTime (config : Config) (n : ℕ) (arrivals : List Arrival) (events : List Stamped) : Type 0 where
  pub stamped : All (IsStamped n) events
  pub placed : AllPairs IsOrdered events
  pub in_order : KeepsOrder arrivals events
  pub admitted : AreAllAdmitted n arrivals events ⊎ ((k : ℕ) × AreLeftOut config n arrivals events k)
