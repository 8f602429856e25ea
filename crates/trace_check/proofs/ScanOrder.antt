-- Where the pass over the arrivals stands, and the order that it keeps.
use Rattle.std.specs.Prelude.{ℕ, ◌≤◌, List, [], ◌∷◌, cond, map, Option, Some, None}
use Rattle.sloth_base.specs.declared.service.Arrival.{Arrival}
use Rattle.sloth_base.specs.declared.service.Stamped.{Stamped}
use Rattle.sloth_base.specs.Events.{admitted_line}
use Rattle.osek_scheduler.specs.InTime.{is_admit, IsSubsequence}
use Rattle.trace_check.specs.Scan.{Scan}

-- the moment and the line of an admission, and of an arrival
abbrev pub key_of : Stamped → ℕ × Option ℕ
key_of e = (e.stamp.at, admitted_line e.event)

abbrev pub arrival_key : Arrival → ℕ × Option ℕ
arrival_key a = (a.at, Some a.line)

-- the admits in front
abbrev pub front_admits : List Stamped → List Stamped
front_admits [] = []
front_admits (e ∷ events) = cond (is_admit e) (e ∷ front_admits events) []

-- the admits behind each other event keep the order of the arrivals
abbrev pub IsOrderKeptBehind : List Arrival → List Stamped → Type 0
IsOrderKeptBehind arrivals [] = Unit {0}
IsOrderKeptBehind arrivals (e ∷ events) =
    cond (is_admit e) (Unit {0}) (IsSubsequence (map key_of (front_admits events)) (map arrival_key arrivals)) × IsOrderKeptBehind arrivals events

-- those in front keep that of what is left, those behind each other event that of all
pub record IsOrderKept (base rest : List Arrival) (events : List Stamped) : Type 0 where
  pub front : IsSubsequence (map key_of (front_admits events)) (map arrival_key rest)
  pub behind : IsOrderKeptBehind base events

-- where an event may stand, by which of the two it is
abbrev pub IsBehindScan : Scan → Option ℕ → ℕ → ℕ → Type 0
IsBehindScan s (Some t) from at = s.begins ≤ at
IsBehindScan s None from at = (s.ends ≤ from) × (s.latest ≤ at)

abbrev pub MayFollow : Scan → Stamped → Type 0
MayFollow s e = IsBehindScan s (admitted_line e.event) e.stamp.from e.stamp.at
