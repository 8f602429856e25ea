-- Texts that are accepted are not refused, and others are refused in one way.
use Rattle.std.proofs.Common.{◌≡◌, ◌+◌, inl, inr, ℕ, List, [], ap, subst, length}
use Rattle.sloth_base.specs.declared.app.App.{App}
use Rattle.sloth_base.specs.declared.config.Config.{Config}
use Rattle.sloth_base.specs.declared.refusal.Part.TheVariants.{Load}
use Rattle.sloth_base.specs.declared.refusal.Refusal.{Refusal}
use Rattle.sloth_base.specs.DeclaredNames.{task_names, counter_names}
use Rattle.sloth_base.specs.Order.{NoFault}
use Rattle.sloth_source.specs.Texts.{AreAccepted}
use Rattle.sloth_source.proofs.Least.{one_least, of_some}
use Rattle.sloth_source.proofs.Refusals.{one_refusal}
use Rattle.sloth_source.proofs.Unique.{one_meaning, never_both}
use Rattle.load_text.specs.declared.load_line.Entry.{Entry}
use Rattle.load_text.specs.LoadText.{LineFault, FaultAt, LoadFault, entries_of}
use Rattle.response_text.specs.Inputs.{IsLoadFault, IsRefusal}

-- accepted texts are not refused
pub not_refused : (oil src load : List ℕ) (config : Config) (app : App) (r : Refusal) → AreAccepted oil src config app
    → NoFault (LoadFault (task_names config) (counter_names config) load) → IsRefusal oil src load r → ⊥
not_refused oil src load config app r h none (inl first) = never_both oil src config app r h first
not_refused oil src load config app r h none (inr other) =
    let same = one_meaning oil src other.config config other.app app other.accepted h in
    none r (subst (λ (c : Config). LoadFault (task_names c) (counter_names c) load r) same.0 other.least.is_fault)

-- a fault of a load is one of its text
part_is : (tasks counters : List (List ℕ)) (before : List Entry) (n : ℕ) (line : List ℕ) (r : Refusal) → LineFault tasks counters before n line r → r.part ≡ Load
part_is tasks counters before n line r (inl f) = ap (λ (x : Refusal). x.part) f.1
part_is tasks counters before n line r (inr (inl f)) = ap (λ (x : Refusal). x.part) f.1
part_is tasks counters before n line r (inr (inr (inl f))) = ap (λ (x : Refusal). x.part) f.1
part_is tasks counters before n line r (inr (inr (inr f))) = ap (λ (x : Refusal). x.part) f.1

of_load : (tasks counters : List (List ℕ)) (text : List ℕ) (r : Refusal) → LoadFault tasks counters text r → r.part ≡ Load
of_load tasks counters text r h =
    of_some Load (FaultAt tasks counters) (λ front line s f. part_is tasks counters (entries_of tasks counters front) (length front + 1) line s f) [] _ r h

pub one_way : (oil src load : List ℕ) (r s : Refusal) → IsRefusal oil src load r → IsRefusal oil src load s → r ≡ s
one_way oil src load r s (inl a) (inl b) = one_refusal oil src r s a b
one_way oil src load r s (inl a) (inr b) = absurd (never_both oil src b.config b.app r b.accepted a)
one_way oil src load r s (inr a) (inl b) = absurd (never_both oil src a.config a.app s a.accepted b)
one_way oil src load r s (inr a) (inr b) =
    let same = one_meaning oil src a.config b.config a.app b.app a.accepted b.accepted in
    one_least Load (LoadFault (task_names b.config) (counter_names b.config) load) (of_load (task_names b.config) (counter_names b.config) load) r s
    (subst (λ (c : Config). IsLoadFault c load r) same.0 a.least) b.least
