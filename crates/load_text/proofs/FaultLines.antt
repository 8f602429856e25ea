-- The faults of a load's lines, for what reads line after line.
use Rattle.std.proofs.Common.{◌≡◌, ℕ, List, inl, inr, ap}
use Rattle.sloth_base.specs.declared.refusal.Refusal.{Refusal}
use Rattle.load_text.specs.declared.load_line.Entry.{Entry}
use Rattle.load_text.specs.LoadText.{LineFault}

-- the line of a fault is that where it stands
pub fault_line : (tasks counters : List (List ℕ)) (before : List Entry) (n : ℕ) (line : List ℕ) (r : Refusal) → LineFault tasks counters before n line r → r.line ≡ n
fault_line tasks counters before n line r (inl f) = ap (λ (x : Refusal). x.line) f.1
fault_line tasks counters before n line r (inr (inl f)) = ap (λ (x : Refusal). x.line) f.1
fault_line tasks counters before n line r (inr (inr (inl f))) = ap (λ (x : Refusal). x.line) f.1
fault_line tasks counters before n line r (inr (inr (inr f))) = ap (λ (x : Refusal). x.line) f.1
