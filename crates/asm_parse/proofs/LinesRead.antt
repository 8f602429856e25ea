-- The lines of a text without a fault.
use Rattle.std.proofs.Common.{◌≡◌, inl, inr, ℕ, Bool, true, false, List, [], ◌∷◌, length, map, drop, get_or, Option, Some, None}
use Rattle.std.specs.Prelude.{if◌then◌else◌, All, not, ◌==◌}
use Rattle.std.proofs.lemmas.List.Elements.{All-nil, All-cons}
use Rattle.std.specs.List.{list_any}
use Rattle.std.proofs.lemmas.Bool.{not-false, or_parts}
use Rattle.sloth_base.specs.declared.refusal.Code.TheVariants as code
use Rattle.sloth_base.specs.declared.refusal.Part.TheVariants.{Src}
use Rattle.sloth_base.specs.Order.{NoFault}
use Rattle.sloth_base.proofs.Nowhere.{nowhere, case_false}
use Rattle.asm_lines.specs.declared.source_line.SourceLine.{SourceLine}
use Rattle.asm_lines.specs.declared.source_line.SourceLine.TheVariants.{Empty, Shapeless}
use Rattle.asm_lines.specs.declared.forms.Mnemonic.{Mnemonic}
use Rattle.asm_lines.specs.Bytes.{word_of, trim}
use Rattle.text_pieces.specs.Lines.{lines}
use Rattle.asm_lines.specs.Lines.{operands_of}
use Rattle.asm_lines.specs.Forms.{is_operand_count}
use Rattle.asm_lines.specs.Table.{mnemonic_of}
use Rattle.text_pieces.specs.Bytes.{before}
use Rattle.asm_lines.specs.SourceLines.{read_operands, known_statement, statement_of, source_line, has_empty, begins_statement}
use Rattle.asm_lines.specs.Faults.{is_wrong, is_outside, is_long, is_a3, is_a4, FaultAt, source_lines, SourceLinesFault}
use Rattle.asm_parse.proofs.Read.{IsRead}
use Rattle.asm_parse.proofs.ReadFits.{all_fit}
use Rattle.asm_parse.proofs.KindsRead.{HasKindIf, has_kind}

-- a line without A3 and A4 is read
abbrev IsSound : SourceLine → Type 0
IsSound l = is_a3 l ≡ false → is_a4 l ≡ false → IsRead l

known_sound : (o : Option Mnemonic) (ts : List (List ℕ)) → HasKindIf o → IsSound (known_statement o ts)
known_sound None ts h w x = tt
known_sound (Some m) ts h w x =
    let os = read_operands m 0 ts in
    let t = not-false (is_operand_count m (length os)) (or_parts (not (is_operand_count m (length os))) (list_any is_wrong os) w).0 in (
      t,
      all_fit m 0 ts (or_parts (not (is_operand_count m (length os))) (list_any is_wrong os) w).1 (or_parts (list_any is_outside os) (is_long os) x).0,
      h,
      (or_parts (list_any is_outside os) (is_long os) x).1,
    )

choose : (b : Bool) (x y : SourceLine) → IsSound x → IsSound y → IsSound (if b then x else y)
choose true x y p q = p
choose false x y p q = q

statement_sound : (t : List ℕ) → IsSound (statement_of t)
unfolding statement_of
statement_sound t =
    let rest = drop (length (word_of t)) t in
    let ts = operands_of rest in
    choose (begins_statement t rest) (if has_empty ts then Shapeless else known_statement (mnemonic_of (word_of t)) ts) Shapeless
    (choose (has_empty ts) Shapeless (known_statement (mnemonic_of (word_of t)) ts) (λ w x. tt) (known_sound (mnemonic_of (word_of t)) ts (has_kind (word_of t))))
    (λ w x. tt)

line_sound : (l : List ℕ) → IsSound (source_line l)
unfolding source_line
line_sound l =
    let t = trim (before 35 l) in
    choose (length t == 0) Empty (statement_of t) (λ w x. tt) (statement_sound t)

lines_sound : (ls : List (List ℕ)) → All IsSound (map source_line ls)
lines_sound [] = All-nil IsSound
lines_sound (l ∷ ls) = All-cons IsSound (source_line l) (map source_line ls) (line_sound l) (lines_sound ls)

pub all_read : (text : List ℕ) → NoFault (SourceLinesFault text) → All IsRead (source_lines text)
all_read text none i d h =
    let l = get_or (source_lines text) i d in
    let n = nowhere FaultAt (source_lines text) (λ r f. none r (inl f)) i d h in
    let a3 = case_false Src (is_a3 l) _ code.A3 (λ r x. n r (inr (inr (inl x)))) in
    let a4 = case_false Src (is_a4 l) _ code.A4 (λ r x. n r (inr (inr (inr x)))) in
    lines_sound (lines text) i d h a3 a4
