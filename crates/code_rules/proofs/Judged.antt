-- The least fault of numbered things, judged one after the other.
use Rattle.std.proofs.Common.{Bool, ◌≡◌, ℕ, ◌+◌, ◌<◌, ◌≤◌, inl, inr, ⊎_elim, Option, None, subst, sym, arith}
use Rattle.std.proofs.lemmas.Bool.{cases_eq}
use Rattle.std.specs.Bool.{Decides}
use Rattle.sloth_base.specs.declared.refusal.Code.{Code}
use Rattle.sloth_base.specs.declared.refusal.Refusal.{Refusal}
use Rattle.sloth_base.specs.Search.{IsSearchResult, merge, fault_if}
use Rattle.sloth_base.proofs.Searching.{KeepsLeast}
use Rattle.sloth_base.proofs.Kept.{kept_start, kept_on, kept_merge, kept_finds, fault_if_found}
use Rattle.code_rules.specs.WellFormed.{fault_at_line}

module _ (Fault : ℕ → Refusal → Type 0) (count : ℕ) where
  -- a fault of one of the things
  abbrev pub Below : Refusal → Type 0
  Below r = (i : ℕ) × (i < count) × Fault i r

  -- a fault of one that is not judged yet
  abbrev pub From : ℕ → Refusal → Type 0
  From n r = (i : ℕ) × (n ≤ i) × (i < count) × Fault i r

  -- those before n are judged
  abbrev pub Judged : ℕ → Option Refusal → Type 0
  Judged n least = KeepsLeast Below (From n) least

  pub judged_start : Judged 0 None
  judged_start = kept_on Below Below (From 0) None (λ r x. (x.0, omega arith, x.1, x.2)) (λ r x. (x.0, x.2, x.3)) (kept_start Below)

  pub judged_more : (n : ℕ) (least found new : Option Refusal) → n < count → IsSearchResult (Fault n) found → new ≡ merge least found → Judged n least → Judged (n + 1) new
  judged_more n least found new l finds is judged =
      subst (λ (o : Option Refusal). Judged (n + 1) o) (sym is)
      (kept_merge Below (From n) (Fault n) (From (n + 1)) least found finds
      (λ r x. ⊎_elim (λ e. inl (subst (λ (i : ℕ). Fault i r) e x.3)) (λ ne. inr (x.0, omega (arith, x.1, ne), x.2, x.3)) (cases_eq x.0 n))
      (λ r x. (n, omega arith, l, x))
      (λ r x. (x.0, omega (arith, x.1), x.2, x.3))
      judged)

  pub judged_end : (n : ℕ) (least : Option Refusal) → count ≤ n → Judged n least → IsSearchResult Below least
  judged_end n least l judged = kept_finds Below (From n) least (λ r x. omega (arith, x.1, x.2, l)) judged

-- A test that decides a fact finds the refusal where it holds.
pub decided : (P : Type 0) (test : Bool) (line : ℕ) (c : Code) (found : Option Refusal) → found ≡ fault_if test (fault_at_line line c) → Decides test P
    → IsSearchResult (λ r. P × (r ≡ fault_at_line line c)) found
decided P test line c found is decides =
    subst (IsSearchResult (λ r. P × (r ≡ fault_at_line line c))) (sym is) (fault_if_found P test (fault_at_line line c) decides.0 decides.1)
