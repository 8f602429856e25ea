-- What a read of a file of the system gives, by its outcome.
use Rattle.std.proofs.Common.{◌≡◌, ◌≢◌, ◌≤◌, ◌<◌, ◌+◌, ◌-◌, ◌∙◌, ℕ, min, List, [], ◌∷◌, ◌++◌, length, take, drop, Option, Result, Ok, Err, refl, ap, subst, sym, arith}
use Rattle.std.proofs.Common.{inl, cond, true, false, length-append, append_assoc, take_at, le_refl}
use Rattle.std.proofs.lemmas.Result.{on_err_weaker, on_ok_weaker}
use Rattle.std.specs.Prelude.{IsTrue, OnErr, OnOk, is_err, is_ok}
use Rattle.std.specs.Io.KnownBytes.{Consumes}
use Rattle.std.proofs.KnownBytes.{Consumes-trans}
use Rattle.std.proofs.Transfers.{drop-appended}
use Rattle.sloth_io.specs.Store.{Files, IsAppended, IsMissing, IsTooLong}
use Rattle.sloth_io.specs.FileStore.{HasPrefix, HasPrefixBeyond, HasPrefixWithin, files_after_read}
use Rattle.sloth_io.specs.declared.store.StoreFault.{StoreFault}
use Rattle.sloth_io.specs.declared.store.StoreFault.TheVariants.{Failed, TooLong, Memory}

-- a piece behind those that were read before
pub reads_more : (old mid new : Option (List ℕ)) (start now bytes more : List ℕ) → now ≡ start ++ bytes → Consumes old mid bytes → Consumes mid new more
    → (now ++ more ≡ start ++ (bytes ++ more)) × Consumes old new (bytes ++ more)
reads_more old mid new start now bytes more is first second =
    (ap (λ xs. xs ++ more) is ∙ append_assoc start bytes more, Consumes-trans old mid new bytes more first second)

-- what is appended where memory is there, and left alone where it is not
module _ {T E : Type 0} where
  pub appended : (r : Result T E) (new old piece : List ℕ) → new ≡ cond (is_ok r) (old ++ piece) old → is_err r ≡ false → new ≡ old ++ piece
  appended (Ok x) new old piece e f = e
  appended (Err x) new old piece e f = cc

  pub left_alone : (r : Result T E) (new old piece : List ℕ) → new ≡ cond (is_ok r) (old ++ piece) old → is_err r ≡ true → new ≡ old
  left_alone (Ok x) new old piece e f = cc
  left_alone (Err x) new old piece e f = e

-- that more bytes than the limit were taken
pub taken_beyond : (limit : ℕ) (old mid : List ℕ) (taken : ℕ) → taken ≡ length mid - length old → HasPrefixBeyond limit old mid → limit < taken
taken_beyond limit old mid taken is long =
    let size : length mid ≡ length old + length long.0 = ap length long.1 ∙ length-append old long.0 in omega (arith, size, is, long.2)

module _ {T : Type 0} where
  -- what a read appended that was not done is taken back
  pub taken_back : (r : Result T StoreFault) (old mid new : List ℕ) → HasPrefix old mid → OnErr r (new ≡ take (length old) mid) → OnErr r (new ≡ old)
  taken_back r old mid new front back =
      let made : new ≡ take (length old) mid → new ≡ old = λ e. e ∙ ap (take (length old)) front.1 ∙ take_at old front.0 (length old) refl in
      on_err_weaker r made back

  -- how many bytes were taken
  pub taken_whole : (r : Result T StoreFault) (old mid new : List ℕ) (taken : ℕ) → HasPrefix old mid → taken ≡ length mid - length old → OnOk r (new ≡ mid)
      → OnOk r (length new ≡ length old + taken)
  taken_whole r old mid new taken front is kept =
      let size : length mid ≡ length old + length front.0 = ap length front.1 ∙ length-append old front.0 in
      let made : new ≡ mid → length new ≡ length old + taken = λ e. ap length e ∙ omega (arith, size, is) in
      on_ok_weaker r made kept

  -- what a store that does not tell its files shows behind it
  pub read_done : (r : Result T StoreFault) (limit : ℕ) (name old mid new : List ℕ) (before after : Files) → (IsTrue before.tells → ⊥)
      → OnOk r (HasPrefixWithin limit old mid) → OnOk r (new ≡ mid) → after ≡ files_after_read r name (drop (length old) mid) before
      → OnOk r (IsAppended before after name limit old new)
  read_done (Ok x) limit name old mid new before after untold within kept told = (
    within.0,
    kept ∙ within.1,
    within.2,
    λ tells. absurd (untold tells),
    ap (λ (files : Files). files.reads) told ∙ ap (λ bytes. before.reads ++ (name, bytes) ∷ []) (drop-appended old mid within.0 within.1),
  )
  read_done (Err e) limit name old mid new before after untold within kept told = tt

  pub read_missed : (r : Result T StoreFault) (name bytes : List ℕ) (before after : Files) → before.sure ≡ false
      → after ≡ files_after_read r name bytes before → r ≡ Err Failed → IsMissing before after name
  read_missed r name bytes before after unsure told e =
      let rise : after.failed_reads ≡ min (before.failed_reads + 1) 18446744073709551615 =
      ap (λ (files : Files). files.failed_reads) told ∙ ap (λ s. (files_after_read s name bytes before).failed_reads) e in
      inl (subst (λ n. min (before.failed_reads + 1) 18446744073709551615 ≤ n) (sym rise) (le_refl _), unsure)

  pub read_beyond : (r : Result T StoreFault) (limit : ℕ) (name bytes : List ℕ) (before after : Files) → (IsTrue before.tells → ⊥)
      → after ≡ files_after_read r name bytes before → r ≡ Err TooLong → IsTooLong before after name limit
  read_beyond r limit name bytes before after untold told e =
      let rise : after.overlong_reads ≡ min (before.overlong_reads + 1) 18446744073709551615 =
      ap (λ (files : Files). files.overlong_reads) told ∙ ap (λ s. (files_after_read s name bytes before).overlong_reads) e in
      (subst (λ n. min (before.overlong_reads + 1) 18446744073709551615 ≤ n) (sym rise) (le_refl _), λ tells. absurd (untold tells))

  pub read_untold : (r : Result T StoreFault) (name bytes : List ℕ) (before after : Files) → after ≡ files_after_read r name bytes before
      → OnErr r (after.reads ≡ before.reads)
  read_untold (Ok x) name bytes before after told = tt
  read_untold (Err Failed) name bytes before after told = ap (λ (files : Files). files.reads) told
  read_untold (Err TooLong) name bytes before after told = ap (λ (files : Files). files.reads) told
  read_untold (Err Memory) name bytes before after told = ap (λ (files : Files). files.reads) told

  pub only_failed_counted : (r : Result T StoreFault) (name bytes : List ℕ) (before after : Files) → after ≡ files_after_read r name bytes before
      → r ≢ Err Failed → after.failed_reads ≡ before.failed_reads
  only_failed_counted (Ok x) name bytes before after told other = ap (λ (files : Files). files.failed_reads) told
  only_failed_counted (Err Failed) name bytes before after told other = absurd (other refl)
  only_failed_counted (Err TooLong) name bytes before after told other = ap (λ (files : Files). files.failed_reads) told
  only_failed_counted (Err Memory) name bytes before after told other = ap (λ (files : Files). files.failed_reads) told

  pub only_overlong_counted : (r : Result T StoreFault) (name bytes : List ℕ) (before after : Files) → after ≡ files_after_read r name bytes before
      → r ≢ Err TooLong → after.overlong_reads ≡ before.overlong_reads
  only_overlong_counted (Ok x) name bytes before after told other = ap (λ (files : Files). files.overlong_reads) told
  only_overlong_counted (Err Failed) name bytes before after told other = ap (λ (files : Files). files.overlong_reads) told
  only_overlong_counted (Err TooLong) name bytes before after told other = absurd (other refl)
  only_overlong_counted (Err Memory) name bytes before after told other = ap (λ (files : Files). files.overlong_reads) told
