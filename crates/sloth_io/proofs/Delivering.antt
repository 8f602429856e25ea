-- What a read of a file in memory gives, by its outcome.
use Rattle.std.proofs.Common.{◌≡◌, ◌≤◌, ◌<◌, ◌+◌, ◌∙◌, ◌⊎◌, ℕ, min, List, [], ◌∷◌, ◌++◌, length, drop, Option, Some, None, Result, Ok, Err, Bool, true, false, cond, inl, inr, refl, sym, ap, subst, arith, le_refl}
use Rattle.std.specs.Prelude.{IsOkUnless, IsTrue, MatchOption, OnErr, OnOk, nat_lt}
use Rattle.std.specs.List.{list_any}
use Rattle.std.proofs.Transfers.{drop-appended}
use Rattle.sloth_io.specs.Counts.{Rose, count_after_call}
use Rattle.sloth_io.specs.Store.{Files, IsAppended, IsMissing, IsTooLong}
use Rattle.sloth_io.specs.MemStore.{IsDelivered, fault_by, is_overlong, is_sure, is_too_long, reads_after}
use Rattle.sloth_io.specs.declared.store.StoreFault.{StoreFault}
use Rattle.sloth_io.specs.declared.store.StoreFault.TheVariants.{Failed, TooLong, Memory}

-- why a read was refused
abbrev pub IsRefused : {T : Type 0} → Bool → Option (List ℕ) → ℕ → Result T StoreFault → Type 0
IsRefused fails held limit r = MatchOption (fault_by fails held limit) (IsOkUnless r Memory) (λ fault. r ≡ Err fault)

-- a counted call has risen
rose : (call : Bool) (old new : ℕ) → call ≡ true → new ≡ count_after_call call old → Rose old new
rose call old new is counted =
    let now : new ≡ min (old + 1) 18446744073709551615 = counted ∙ ap (λ b. count_after_call b old) is in
    subst (λ n. min (old + 1) 18446744073709551615 ≤ n) (sym now) (le_refl _)

-- a call that is to fail is of a store that is not sure
unsure : (p : ℕ → Bool) (calls : List ℕ) → list_any p calls ≡ true → is_sure calls ≡ false
unsure p [] e = cc
unsure p (call ∷ calls) e = refl

module _ {T : Type 0} where
  -- the call was to fail, or there is no such file
  why_failed : (fails : Bool) (held : Option (List ℕ)) (limit : ℕ) (r : Result T StoreFault) → IsRefused fails held limit r → r ≡ Err Failed
      → (fails ≡ true) ⊎ (held ≡ None)
  why_failed true held limit r refused is = inl refl
  why_failed false None limit r refused is = inr refl
  why_failed false (Some bytes) limit r refused is = by (nat_lt limit (length bytes)) refused
    where
      by : (b : Bool) → MatchOption (cond b (Some TooLong) None) (IsOkUnless r Memory) (λ fault. r ≡ Err fault) → (false ≡ true) ⊎ (Some bytes ≡ None)
      by true h = cc
      by false h = let clash : Failed ≡ Memory = subst (λ (s : Result T StoreFault). IsOkUnless s Memory) is h in absurd cc

  -- there is a file, and it is too long
  why_long : (fails : Bool) (held : Option (List ℕ)) (limit : ℕ) (r : Result T StoreFault) → IsRefused fails held limit r → r ≡ Err TooLong
      → (bytes : List ℕ) × (held ≡ Some bytes) × (limit < length bytes)
  why_long true held limit r refused is = cc
  why_long false None limit r refused is = cc
  why_long false (Some bytes) limit r refused is = by (nat_lt limit (length bytes)) refl refused
    where
      by : (b : Bool) → nat_lt limit (length bytes) ≡ b → MatchOption (cond b (Some TooLong) None) (IsOkUnless r Memory) (λ fault. r ≡ Err fault)
          → (found : List ℕ) × (Some bytes ≡ Some found) × (limit < length found)
      by true e h = (bytes, refl, grind (arith, e))
      by false e h = let clash : TooLong ≡ Memory = subst (λ (s : Result T StoreFault). IsOkUnless s Memory) is h in absurd cc

  -- the count of overlong reads goes by the outcome
  pub overlong-is : (fails : Bool) (held : Option (List ℕ)) (limit : ℕ) (r : Result T StoreFault) → IsRefused fails held limit r
      → is_overlong r ≡ is_too_long (fault_by fails held limit)
  overlong-is true held limit r refused = ap is_overlong refused
  overlong-is false None limit r refused = ap is_overlong refused
  overlong-is false (Some bytes) limit r refused = by (nat_lt limit (length bytes)) r refused
    where
      by : (b : Bool) (r : Result T StoreFault) → MatchOption (cond b (Some TooLong) None) (IsOkUnless r Memory) (λ fault. r ≡ Err fault)
          → is_overlong r ≡ is_too_long (cond b (Some TooLong) None)
      by true r h = ap is_overlong h
      by false (Ok x) h = refl
      by false (Err e) h = ap (λ (f : StoreFault). is_overlong {T = T} (Err f)) h

  pub mem_done : (r : Result T StoreFault) (held : Option (List ℕ)) (limit : ℕ) (name old new : List ℕ) (before after : Files) → before.holds name ≡ held
      → OnOk r (IsDelivered held limit old new) → after.reads ≡ reads_after r name (drop (length old) new) before.reads
      → OnOk r (IsAppended before after name limit old new)
  mem_done (Ok x) held limit name old new before after is delivered told = (
    delivered.0,
    delivered.2,
    delivered.3,
    λ tells. is ∙ delivered.1,
    told ∙ ap (λ bytes. before.reads ++ (name, bytes) ∷ []) (drop-appended old new delivered.0 delivered.2),
  )
  mem_done (Err e) held limit name old new before after is delivered told = tt

  pub mem_untold : (r : Result T StoreFault) (name bytes : List ℕ) (old new : List (List ℕ × List ℕ)) → new ≡ reads_after r name bytes old → OnErr r (new ≡ old)
  mem_untold (Ok x) name bytes old new told = tt
  mem_untold (Err e) name bytes old new told = told

  pub mem_missed : (fails : Bool) (held : Option (List ℕ)) (limit : ℕ) (r : Result T StoreFault) (name : List ℕ) (p : ℕ → Bool) (calls : List ℕ) (before after : Files)
      → IsRefused fails held limit r → IsTrue before.tells → before.holds name ≡ held → before.sure ≡ is_sure calls → fails ≡ list_any p calls
      → after.failed_reads ≡ count_after_call fails before.failed_reads → r ≡ Err Failed → IsMissing before after name
  mem_missed fails held limit r name p calls before after refused tells is sure why counted failed =
      elim (why_failed fails held limit r refused failed) [
        | inl e ↦ inl (rose fails before.failed_reads after.failed_reads e counted, sure ∙ unsure p calls (sym why ∙ e))
        | inr e ↦ inr (tells, is ∙ e)
      ]

  pub mem_beyond : (fails : Bool) (held : Option (List ℕ)) (limit : ℕ) (r : Result T StoreFault) (name : List ℕ) (before after : Files)
      → IsRefused fails held limit r → before.holds name ≡ held → after.overlong_reads ≡ count_after_call (is_overlong r) before.overlong_reads
      → r ≡ Err TooLong → IsTooLong before after name limit
  mem_beyond fails held limit r name before after refused is counted long =
      let found = why_long fails held limit r refused long in
      (rose (is_overlong r) before.overlong_reads after.overlong_reads (ap is_overlong long) counted, λ tells. (found.0, is ∙ found.1, found.2))
