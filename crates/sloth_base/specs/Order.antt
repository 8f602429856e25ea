-- Which refusal is answered where a text has several faults: the one of the least line, and on that line of the least number.
use Rattle.std.specs.Prelude.{◌≡◌, ℕ, ◌<◌, ◌≤◌, ◌⊎◌, Bool, ◌||◌, ◌&&◌, ◌==◌, nat_lt, nat_le}
use Rattle.sloth_base.specs.declared.refusal.Code.{Code}
use Rattle.sloth_base.specs.declared.refusal.Code.TheVariants as code
use Rattle.sloth_base.specs.declared.refusal.Refusal.{Refusal}
use Rattle.sloth_base.specs.declared.refusal.BuildError.{BuildError}
use Rattle.sloth_base.specs.declared.refusal.BuildError.TheVariants.{Refused, Memory}

-- the place of a code among all codes
abbrev pub number : Code → ℕ
number code.O1 = 0
number code.O2 = 1
number code.O3 = 2
number code.O4 = 3
number code.O5 = 4
number code.O6 = 5
number code.O7 = 6
number code.O8 = 7
number code.O9 = 8
number code.O10 = 9
number code.O11 = 10
number code.O12 = 11
number code.O13 = 12
number code.O14 = 13
number code.O15 = 14
number code.A1 = 15
number code.A2 = 16
number code.A3 = 17
number code.A4 = 18
number code.A5 = 19
number code.A6 = 20
number code.A7 = 21
number code.V1 = 22
number code.V2 = 23
number code.V3 = 24
number code.V4 = 25
number code.V5 = 26
number code.V6 = 27
number code.V7 = 28
number code.V8 = 29
number code.V9 = 30
number code.V10 = 31
number code.V11 = 32
number code.V12 = 33
number code.T1 = 34
number code.T2 = 35
number code.T3 = 36
number code.T4 = 37
number code.L1 = 38
number code.L2 = 39
number code.L3 = 40
number code.L4 = 41

-- r stands no later than s: on an earlier line, or on the same line with no greater number
abbrev pub IsNoLater : Refusal → Refusal → Type 0
IsNoLater r s = (r.line < s.line) ⊎ ((r.line ≡ s.line) × (number r.code ≤ number s.code))

-- the same as a test
abbrev pub is_before : Refusal → Refusal → Bool
is_before r s = nat_lt r.line s.line || ((r.line == s.line) && nat_le (number r.code) (number s.code))

-- r is one of the faults, and none of them stands before it
pub record IsLeast (Fault : Refusal → Type 0) (r : Refusal) : Type 0 where
  pub is_fault : Fault r
  pub is_least : (s : Refusal) → Fault s → IsNoLater r s

-- there is none of these faults
abbrev pub NoFault : (Refusal → Type 0) → Type 0
NoFault Fault = (r : Refusal) → Fault r → ⊥

-- the error is want of memory, or the least of these faults
abbrev pub ErrorIs : (Refusal → Type 0) → BuildError → Type 0
ErrorIs Fault (Refused r) = IsLeast Fault r
ErrorIs Fault Memory = Unit {0}
