-- Inputs that are accepted are not refused, and others are refused in one way.
use Rattle.std.proofs.Common.{◌≡◌, ◌+◌, inl, inr, ℕ, List, [], ap, subst, length}
use Rattle.sloth_base.specs.declared.app.App.{App}
use Rattle.sloth_base.specs.declared.config.Config.{Config}
use Rattle.sloth_base.specs.declared.service.Arrival.{Arrival}
use Rattle.sloth_base.specs.declared.refusal.Part.TheVariants.{Arr}
use Rattle.sloth_base.specs.declared.refusal.Refusal.{Refusal}
use Rattle.sloth_base.specs.Order.{IsLeast, NoFault}
use Rattle.sloth_source.specs.Texts.{AreAccepted}
use Rattle.sloth_source.proofs.Least.{one_least, of_some}
use Rattle.sloth_source.proofs.Refusals.{one_refusal}
use Rattle.sloth_source.proofs.Unique.{one_meaning, never_both}
use Rattle.trace_text.specs.ArrivalsText.{ArrivalsFault, ArrivalFaultAt, ArrivalLineFault, arrivals_of}
use Rattle.run_inputs.specs.Inputs.{IsRefusal}
use Rattle.sloth_base.specs.DeclaredNames.{task_names, counter_names}

-- accepted inputs are not refused
pub not-refused : (oil src arr : List ℕ) (config : Config) (app : App) (r : Refusal) → AreAccepted oil src config app
    → NoFault (ArrivalsFault (task_names config) (counter_names config) arr) → IsRefusal oil src arr r → ⊥
not-refused oil src arr config app r h none (inl first) = never_both oil src config app r h first
not-refused oil src arr config app r h none (inr other) =
    let same = one_meaning oil src other.config config other.app app other.accepted h in
    none r (subst (λ (c : Config). ArrivalsFault (task_names c) (counter_names c) arr r) same.0 other.least.is_fault)

-- a fault of arrivals is one of their text
part-is : (tasks counters : List (List ℕ)) (before : List Arrival) (n : ℕ) (line : List ℕ) (r : Refusal) → ArrivalLineFault tasks counters before n line r → r.part ≡ Arr
part-is tasks counters before n line r (inl f) = ap (λ (x : Refusal). x.part) f.1
part-is tasks counters before n line r (inr (inl f)) = ap (λ (x : Refusal). x.part) f.1
part-is tasks counters before n line r (inr (inr (inl f))) = ap (λ (x : Refusal). x.part) f.1
part-is tasks counters before n line r (inr (inr (inr f))) = ap (λ (x : Refusal). x.part) f.1

pub of-arrivals : (tasks counters : List (List ℕ)) (text : List ℕ) (r : Refusal) → ArrivalsFault tasks counters text r → r.part ≡ Arr
of-arrivals tasks counters text r h =
    of_some Arr (ArrivalFaultAt tasks counters) (λ front line s f. part-is tasks counters (arrivals_of tasks counters front) (length front + 1) line s f) [] _ r h

-- the inputs that are told are refused in one way
pub one-way : (oil src arr : List ℕ) (r s : Refusal) → IsRefusal oil src arr r → IsRefusal oil src arr s → r ≡ s
one-way oil src arr r s (inl a) (inl b) = one_refusal oil src r s a b
one-way oil src arr r s (inl a) (inr b) = absurd (never_both oil src b.config b.app r b.accepted a)
one-way oil src arr r s (inr a) (inl b) = absurd (never_both oil src a.config a.app s a.accepted b)
one-way oil src arr r s (inr a) (inr b) =
    let same = one_meaning oil src a.config b.config a.app b.app a.accepted b.accepted in
    one_least Arr (ArrivalsFault (task_names b.config) (counter_names b.config) arr) (of-arrivals (task_names b.config) (counter_names b.config) arr) r s
    (subst (λ (c : Config). IsLeast (ArrivalsFault (task_names c) (counter_names c) arr) r) same.0 a.least) b.least
