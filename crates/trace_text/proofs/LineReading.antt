-- The faults of an arrivals file's lines, for what reads line after line.
use Rattle.std.proofs.Common.{◌≡◌, ℕ, List, inl, inr, ap}
use Rattle.sloth_base.specs.declared.service.Arrival.{Arrival}
use Rattle.sloth_base.specs.declared.refusal.Refusal.{Refusal}
use Rattle.trace_text.specs.ArrivalsText.{ArrivalLineFault}

-- the line of a fault is that where it stands
pub fault_line : (tasks counters : List (List ℕ)) (before : List Arrival) (n : ℕ) (line : List ℕ) (r : Refusal) → ArrivalLineFault tasks counters before n line r → r.line ≡ n
fault_line tasks counters before n line r (inl f) = ap (λ (x : Refusal). x.line) f.1
fault_line tasks counters before n line r (inr (inl f)) = ap (λ (x : Refusal). x.line) f.1
fault_line tasks counters before n line r (inr (inr (inl f))) = ap (λ (x : Refusal). x.line) f.1
fault_line tasks counters before n line r (inr (inr (inr f))) = ap (λ (x : Refusal). x.line) f.1
