-- A mnemonic of a text has a width or kind of its group.
use Rattle.std.proofs.Common.{ℕ, Bool, true, false, List, [], ◌∷◌, Option, Some, None}
use Rattle.std.specs.Prelude.{if◌then◌else◌}
use Rattle.std.specs.List.{AllByRecursion}
use Rattle.std.specs.Str.{bytes_eq}
use Rattle.asm_lines.specs.declared.forms.Mnemonic.{Mnemonic}
use Rattle.asm_lines.specs.declared.forms.Mnemonic.TheVariants as m
use Rattle.sloth_base.specs.ServiceCodes.{service_named}
use Rattle.asm_lines.specs.Table.{kind_named, alu_of, imm_words, imm_of, shift_words, shift_of, load_of, store_words, store_of, branch_of, plain_words, plain_of, or_else, mnemonic_of}
use Rattle.asm_parse.proofs.MnemonicKinds.{HasKind}

-- what is there is of a kind of this group
abbrev KindIf : {K : Type 0} → (K → Mnemonic) → Option K → Type 0
KindIf f None = Unit {0}
KindIf f (Some k) = HasKind (f k)

abbrev pub HasKindIf : Option Mnemonic → Type 0
HasKindIf None = Unit {0}
HasKindIf (Some m) = HasKind m

or : {K : Type 0} (P : Option K → Type 0) (b : Bool) (x y : Option K) → P x → P y → P (if b then x else y)
or P true x y p q = p
or P false x y p q = q

-- what rows name is as each of them is
named : {K : Type 0} (P : Option K → Type 0) → P None → (rows : List (List ℕ × K)) → AllByRecursion (λ row. P (Some row.1)) rows → (word : List ℕ)
    → P (kind_named rows word)
named P none [] h word = none
named P none (row ∷ rest) h word = or P (bytes_eq word row.0) (Some row.1) (kind_named rest word) h.0 (named P none rest h.1 word)

module _ (word : List ℕ) where
  imm_kind : KindIf m.Imm (imm_of word)
  unfolding imm_of
  imm_kind = named (KindIf m.Imm) tt imm_words (λ n h. h, (λ n h. h, (λ n h. h, (λ n h. h, (λ n h. h, (λ n h. h, tt)))))) word

  shift_kind : KindIf m.Shift (shift_of word)
  unfolding shift_of
  shift_kind = named (KindIf m.Shift) tt shift_words (λ n h. h, (λ n h. h, (λ n h. h, tt))) word

  store_kind : KindIf m.Store (store_of word)
  unfolding store_of
  store_kind = named (KindIf m.Store) tt store_words (tt, (tt, (tt, tt))) word

  plain_kind : HasKindIf (plain_of word)
  unfolding plain_of
  plain_kind = named HasKindIf tt plain_words (tt, (tt, (tt, (tt, (tt, (tt, (tt, (tt, (tt, (tt, (tt, (tt, tt)))))))))))) word

any_kind : {K : Type 0} (f : K → Mnemonic) (o : Option K) → ((k : K) → HasKind (f k)) → KindIf f o
any_kind f None h = tt
any_kind f (Some k) h = h k

or_else_kind : {K : Type 0} (f : K → Mnemonic) (o : Option K) (rest : Option Mnemonic) → KindIf f o → HasKindIf rest → HasKindIf (or_else o f rest)
or_else_kind f None rest h g = g
or_else_kind f (Some k) rest h g = h

pub has_kind : (word : List ℕ) → HasKindIf (mnemonic_of word)
unfolding mnemonic_of
has_kind word =
    or_else_kind m.Alu (alu_of word) _ (any_kind m.Alu (alu_of word) (λ k. tt))
    (or_else_kind m.Imm (imm_of word) _ (imm_kind word)
    (or_else_kind m.Shift (shift_of word) _ (shift_kind word)
    (or_else_kind m.Load (load_of word) _ (any_kind m.Load (load_of word) (λ k. tt))
    (or_else_kind m.Store (store_of word) _ (store_kind word)
    (or_else_kind m.Branch (branch_of word) _ (any_kind m.Branch (branch_of word) (λ k. tt))
    (or_else_kind m.Serve (service_named word) (plain_of word) (any_kind m.Serve (service_named word) (λ k. tt)) (plain_kind word)))))))
