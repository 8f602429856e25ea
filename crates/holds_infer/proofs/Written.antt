-- The line of a label as it is written is read back.
use Rattle.std.proofs.Common.{◌≡◌, ℕ, ◌+◌, ◌<◌, Bool, true, false, ◌&&◌, ◌||◌, List, [], ◌∷◌, ◌++◌, length, map, reverse, cond, Some, refl, sym, ap, ◌∙◌, subst, arith, append_assoc, append-nil}
use Rattle.std.specs.Prelude.{◌==◌, codes}
use Rattle.std.specs.List.{flat_map, list_all, list_any}
use Rattle.std.proofs.lemmas.Bool.{false≢true, eqb-true, or_left}
use Rattle.std.proofs.lemmas.List.Folds.{list_all-append}
use Rattle.sloth_base.specs.ImageRange.{continues_word}
use Rattle.text_pieces.specs.Bytes.{is_name, is_byte_of}
use Rattle.sloth_base.specs.ServiceCodes.{service_named}
use Rattle.asm_lines.specs.declared.operands.Operand.TheVariants.{Name, Wrong}
use Rattle.asm_lines.specs.declared.source_line.SourceLine.TheVariants.{Empty, Statement}
use Rattle.asm_lines.specs.declared.forms.Mnemonic.TheVariants as m
use Rattle.asm_lines.specs.Bytes.{is_shown, trim}
use Rattle.asm_lines.specs.Table.{mnemonic_of, alu_of, imm_of, shift_of, load_of, store_of, branch_of, plain_of}
use Rattle.text_pieces.specs.Bytes.{before}
use Rattle.asm_lines.specs.SourceLines.{source_line, statement_of, known_statement, read_operands, has_empty}
use Rattle.asm_lines.specs.Grammar.{has_bare_start, HasBareEnds, IsTrimmed, is_whole, IsOperands, is_last, is_more, is_something, IsShape}
use Rattle.text_pieces.proofs.Cuts.{lacks, all_weaker}
use Rattle.asm_lines.proofs.Shapes.{remains_made, shape_made}
use Rattle.asm_lines.proofs.PlacesMade.{name_bare, end_on}
use Rattle.asm_lines.proofs.Parts.{name_bytes}
use Rattle.holds_infer.specs.Relabel.{label_statement}
use Rattle.holds_infer.specs.LabelLines.{label_text}

-- names, each a word
abbrev pub AreWritten : List (List ℕ) → Type 0
AreWritten [] = Unit {0}
AreWritten (n ∷ ns) = (is_name n ≡ true) × AreWritten ns

-- what stands behind the first name
abbrev more : List (List ℕ) → List ℕ
more ns = flat_map (λ r. codes ", " ++ r) ns

-- ---- bytes of a line

-- letters, digits, `_`, comma and space
abbrev is_line_byte : ℕ → Bool
is_line_byte b = continues_word b || ((b == 44) || (b == 32))

name_line : (n : List ℕ) → is_name n ≡ true → list_all is_line_byte n ≡ true
name_line n h = all_weaker continues_word is_line_byte (λ b e. or_left (continues_word b) ((b == 44) || (b == 32)) e) n (name_bytes n h)

join_all : (p : ℕ → Bool) (a b : List ℕ) → list_all p a ≡ true → list_all p b ≡ true → list_all p (a ++ b) ≡ true
join_all p a b e f = list_all-append p a b ∙ ap (λ x. x && list_all p b) e ∙ f

more_line : (ns : List (List ℕ)) → AreWritten ns → list_all is_line_byte (more ns) ≡ true
more_line [] h = refl
more_line (n ∷ ns) h = join_all is_line_byte (codes ", " ++ n) (more ns) (join_all is_line_byte (codes ", ") n refl (name_line n h.0)) (more_line ns h.1)

text_line : (name : List ℕ) (ns : List (List ℕ)) → is_name name ≡ true → AreWritten ns → list_all is_line_byte (label_text name ns) ≡ true
text_line name ns h w = join_all is_line_byte (codes "label ") (name ++ more ns) refl (join_all is_line_byte name (more ns) (name_line name h) (more_line ns w))

-- a text of such bytes has no LF, no CR and no `#`
pub text_lacks : (c : ℕ) → is_line_byte c ≡ false → (name : List ℕ) (ns : List (List ℕ)) → is_name name ≡ true → AreWritten ns → is_byte_of c (label_text name ns) ≡ false
text_lacks c f name ns h w = lacks is_line_byte c f (label_text name ns) (text_line name ns h w)

shown : (b : ℕ) → is_line_byte b ≡ true → is_shown b ≡ true
shown b h = grind arith

-- ---- the end of a line

-- a name ends with a byte of a word
some_name : (n : List ℕ) → is_name n ≡ true → 0 < length n
unfolding is_name
some_name [] h = absurd (false≢true h)
some_name (b ∷ n) h = omega arith

ends : (a name : List ℕ) (ns : List (List ℕ)) → is_name name ≡ true → AreWritten ns → has_bare_start (reverse (a ++ (name ++ more ns))) ≡ true
ends a name [] h w = ap (λ x. has_bare_start (reverse (a ++ x))) (append-nil name) ∙ end_on a name (some_name name h) (name_bare name h).end
ends a name (n ∷ ns) h w =
    ap (λ x. has_bare_start (reverse (a ++ x))) (sym (append_assoc name (codes ", ") (n ++ more ns)))
    ∙ ap (λ x. has_bare_start (reverse x)) (sym (append_assoc a (name ++ codes ", ") (n ++ more ns)))
    ∙ ends (a ++ (name ++ codes ", ")) n ns w.0 w.1

-- ---- the parts of a line

untrimmed : (t : List ℕ) → HasBareEnds t → IsTrimmed t t
untrimmed t b = record { before = []; behind = []; blanks_before = refl; blanks_behind = refl; text = sym (append-nil t); bare = b }

behind_blank : (n : List ℕ) → is_name n ≡ true → IsTrimmed (32 ∷ n) n
behind_blank n h = record { before = 32 ∷ []; behind = []; blanks_before = refl; blanks_behind = refl; text = ap (λ x. 32 ∷ x) (sym (append-nil n)); bare = name_bare n h }

no_comma : (n : List ℕ) → is_name n ≡ true → is_byte_of 44 (32 ∷ n) ≡ false
unfolding is_byte_of
no_comma n h = lacks continues_word 44 refl n (name_bytes n h)

operands : (x : List ℕ) (ns : List (List ℕ)) → is_name x ≡ true → AreWritten ns → IsOperands (32 ∷ (x ++ more ns)) (x ∷ ns)
operands x [] h w = subst (λ (t : List ℕ). IsOperands (32 ∷ t) (x ∷ [])) (sym (append-nil x)) (is_last (32 ∷ x) x (no_comma x h) (behind_blank x h))
operands x (n ∷ ns) h w = is_more (32 ∷ x) x (32 ∷ (n ++ more ns)) (n ∷ ns) (no_comma x h) (behind_blank x h) (operands n ns w.0 w.1)

not_empty : (n : List ℕ) → 0 < length n → (length n == 0) ≡ false
not_empty n l = by (length n == 0) refl
  where
    by : (b : Bool) → (length n == 0) ≡ b → (length n == 0) ≡ false
    by true e = let z = eqb-true (length n) 0 e in absurd (omega (arith, l, z))
    by false e = e

none_empty : (ns : List (List ℕ)) → AreWritten ns → has_empty ns ≡ false
unfolding has_empty
none_empty [] w = refl
none_empty (n ∷ ns) w = ap (λ b. b || list_any (λ t. length t == 0) ns) (not_empty n (some_name n w.0)) ∙ none_empty ns w.1

shape : (name : List ℕ) (ns : List (List ℕ)) → is_name name ≡ true → AreWritten ns → IsShape (label_text name ns) (codes "label") (name ∷ ns)
shape name ns h w = record {
  rest = 32 ∷ (name ++ more ns);
  shown = all_weaker is_line_byte is_shown shown (label_text name ns) (text_line name ns h w);
  letter = refl;
  is_word = refl;
  text = refl;
  tail = is_something 32 (name ++ more ns) (name ∷ ns) refl (operands name ns h w) (none_empty (name ∷ ns) (h, w));
}

operands_read : (i : ℕ) (ns : List (List ℕ)) → AreWritten ns → read_operands m.Label i ns ≡ map Name ns
operands_read i [] w = refl
operands_read i (n ∷ ns) w = ap (λ b. cond b (Name n) Wrong ∷ read_operands m.Label (i + 1) ns) w.0 ∙ ap (λ xs. Name n ∷ xs) (operands_read (i + 1) ns w.1)

label_word : mnemonic_of (codes "label") ≡ Some m.Label
unfolding mnemonic_of alu_of imm_of shift_of load_of store_of branch_of service_named plain_of
label_word = refl

pub label_read : (name : List ℕ) (ns : List (List ℕ)) → is_name name ≡ true → AreWritten ns → source_line (label_text name ns) ≡ label_statement name ns
unfolding source_line
label_read name ns h w =
    let t = label_text name ns in
    let bare : HasBareEnds t = record { front = refl; end = ends (codes "label ") name ns h w } in
    let kept : trim (before 35 t) ≡ t = remains_made t t (is_whole t t (text_lacks 35 refl name ns h w) (untrimmed t bare)) in
    ap (λ x. cond (length x == 0) Empty (statement_of x)) kept
    ∙ ap (λ b. cond b Empty (statement_of t)) (not_empty t (omega arith))
    ∙ shape_made t (codes "label") (name ∷ ns) (shape name ns h w)
    ∙ ap (λ o. known_statement o (name ∷ ns)) label_word
    ∙ ap (λ os. Statement m.Label os) (operands_read 0 (name ∷ ns) (h, w))
