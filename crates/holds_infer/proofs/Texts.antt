-- The text with the lists of task code at its labels says the lines with these lists.
use Rattle.std.proofs.Common.{◌≡◌, ℕ, zero, suc, ◌-◌, ◌<◌, Bool, true, false, ◌||◌, List, [], ◌∷◌, ◌++◌, length, map, take, drop, get_or, cond, refl, sym, ap, ◌∙◌, arith, append-nil}
use Rattle.std.specs.Prelude.{◌==◌, All, slice_index}
use Rattle.std.specs.List.{list_any, slice_split, onto_first, join_with_byte}
use Rattle.std.specs.Str.Lines.{strip_carriage_return}
use Rattle.std.proofs.lemmas.Bool.{true≢false, or_parts}
use Rattle.std.proofs.lemmas.List.{drop_all}
use Rattle.std.proofs.lemmas.List.Elements.{All-nil, All-cons}
use Rattle.std.proofs.lemmas.List.Splits.{slice_split_none, slice_split_at}
use Rattle.std.proofs.Math.Seq.{drop-append_seam}
use Rattle.sloth_base.specs.declared.config.Config.{Config}
use Rattle.sloth_base.specs.declared.app.App.{App}
use Rattle.text_pieces.specs.Bytes.{is_name, is_byte_of}
use Rattle.asm_lines.specs.declared.source_line.SourceLine.{SourceLine}
use Rattle.text_pieces.specs.Lines.{line_of, without_returns, lines}
use Rattle.asm_lines.specs.SourceLines.{source_line}
use Rattle.asm_lines.specs.Faults.{source_lines}
use Rattle.text_pieces.proofs.Cuts.{has_in, has_here, last_is, but_last, ends_there}
use Rattle.asm_scopes.specs.Statements.{is_label, name_of}
use Rattle.holds_infer.specs.LabelLines.{label_text, line_end, resource_names}
use Rattle.holds_infer.specs.Relabel.{all_holds, first_list, other_lists, label_statement, relabeled_lines}
use Rattle.holds_infer.specs.FilledText.{lists_behind, filled_parts, filled_text}
use Rattle.holds_infer.proofs.Written.{AreWritten, text_lacks, label_read}

-- ---- parts without LF

abbrev AllLack : List (List ℕ) → Type 0
AllLack [] = Unit {0}
AllLack (p ∷ ps) = (is_byte_of 10 p ≡ false) × AllLack ps

clean : (x : List ℕ) → is_byte_of 10 x ≡ false → All (λ b. (b == 10) ≡ false) x
unfolding is_byte_of
clean [] h = All-nil (λ b. (b == 10) ≡ false)
clean (b ∷ x) h = let w = or_parts (b == 10) (list_any (λ y. y == 10) x) h in All-cons (λ b. (b == 10) ≡ false) b x w.0 (clean x w.1)

split_joined : (ps : List (List ℕ)) → 0 < length ps → AllLack ps → slice_split (λ b. b == 10) (join_with_byte 10 ps) ≡ ps
split_joined [] l h = absurd (omega (arith, l))
split_joined (x ∷ []) l h = slice_split_none (λ b. b == 10) x (clean x h.0)
split_joined (x ∷ y ∷ ps) l h =
    slice_split_at (λ b. b == 10) x 10 (join_with_byte 10 (y ∷ ps)) (clean x h.0) refl
    ∙ ap (λ r. x ∷ r) (split_joined (y ∷ ps) (omega arith) h.1)

onto_lacks : (b : ℕ) (ps : List (List ℕ)) → (b == 10) ≡ false → AllLack ps → AllLack (onto_first b ps)
unfolding is_byte_of
onto_lacks b [] e h = (ap (λ c. c || false) e, tt)
onto_lacks b (p ∷ ps) e h = (ap (λ c. c || list_any (λ x. x == 10) p) e ∙ h.0, h.1)

parts_lack : (t : List ℕ) → AllLack (slice_split (λ b. b == 10) t)
unfolding is_byte_of
parts_lack [] = (refl, tt)
parts_lack (b ∷ t) = by (b == 10) refl (parts_lack t)
  where
    by : (c : Bool) → (b == 10) ≡ c → AllLack (slice_split (λ b. b == 10) t) → AllLack (cond c ([] ∷ slice_split (λ b. b == 10) t) (onto_first b (slice_split (λ b. b == 10) t)))
    by true e ih = (refl, ih)
    by false e ih = onto_lacks b (slice_split (λ b. b == 10) t) e ih

onto_some : (b : ℕ) (ps : List (List ℕ)) → 0 < length (onto_first b ps)
onto_some b [] = omega arith
onto_some b (p ∷ ps) = omega arith

some_parts : (t : List ℕ) → 0 < length (slice_split (λ b. b == 10) t)
some_parts [] = omega arith
some_parts (b ∷ t) = by (b == 10)
  where
    by : (c : Bool) → 0 < length (cond c ([] ∷ slice_split (λ b. b == 10) t) (onto_first b (slice_split (λ b. b == 10) t)))
    by true = omega arith
    by false = onto_some b (slice_split (λ b. b == 10) t)

drop_lacks : (c k : ℕ) (t : List ℕ) → is_byte_of c t ≡ false → is_byte_of c (drop k t) ≡ false
unfolding is_byte_of
drop_lacks c zero t h = h
drop_lacks c (suc k) [] h = h
drop_lacks c (suc k) (b ∷ t) h = drop_lacks c k t (or_parts (b == c) (list_any (λ y. y == c) t) h).1

-- ---- line ends

keeps_end : (t : List ℕ) → is_byte_of 13 t ≡ false → strip_carriage_return t ≡ t
keeps_end t h = by (slice_index t (length t - 1) == 13) refl
  where
    by : (b : Bool) → (slice_index t (length t - 1) == 13) ≡ b → cond b (take (length t - 1) t) t ≡ t
    by false e = refl
    by true e = absurd (true≢false (sym (has_here 13 (take (length t - 1) t) [] refl) ∙ ap (is_byte_of 13) (sym (ends_there t 13 refl e)) ∙ h))

loses_end : (t : List ℕ) → strip_carriage_return (t ++ 13 ∷ []) ≡ t
loses_end t =
    ap (λ n. cond (n == 13) (take (length (t ++ 13 ∷ []) - 1) (t ++ 13 ∷ [])) (t ++ 13 ∷ [])) (last_is t 13) ∙ but_last t 13

-- with the end of another line the text is as before
pub with_end : (last : Bool) (part t : List ℕ) → is_byte_of 13 t ≡ false → line_of last (t ++ line_end last part) ≡ t
with_end true part t h = ap (λ x. t ++ x) (drop_all (length part) part (omega arith)) ∙ append-nil t
with_end false part t h = by (slice_index part (length part - 1) == 13) refl
  where
    by : (b : Bool) → (slice_index part (length part - 1) == 13) ≡ b → strip_carriage_return (t ++ drop (length (cond b (take (length part - 1) part) part)) part) ≡ t
    by false e =
        ap (λ x. strip_carriage_return (t ++ x)) (drop_all (length part) part (omega arith))
        ∙ ap strip_carriage_return (append-nil t) ∙ keeps_end t h
    by true e =
        let x = take (length part - 1) part in
        ap (λ y. strip_carriage_return (t ++ drop (length x) y)) (ends_there part 13 refl e)
        ∙ ap (λ y. strip_carriage_return (t ++ y)) (drop-append_seam x (13 ∷ [])) ∙ loses_end t

-- ---- the lines

-- the names of labels are words
abbrev pub AreNamed : List SourceLine → Type 0
AreNamed [] = Unit {0}
AreNamed (l ∷ ls) = (is_label l ≡ true → is_name (name_of l) ≡ true) × AreNamed ls

-- the names of the resources of these lists are words
abbrev pub AreKnown : Config → List (List ℕ) → Type 0
AreKnown config hs = (k : ℕ) → AreWritten (resource_names config (get_or hs k []))

first_known : (config : Config) (hs : List (List ℕ)) → AreKnown config hs → AreWritten (resource_names config (first_list hs))
first_known config [] h = tt
first_known config (x ∷ hs) h = h 0

others_known : (config : Config) (hs : List (List ℕ)) → AreKnown config hs → AreKnown config (other_lists hs)
others_known config [] h k = tt
others_known config (x ∷ hs) h k = h (suc k)

module _ (config : Config) where
  abbrev line : List (List ℕ) → List ℕ → SourceLine
  line parts part = source_line (line_of (length parts == 0) part)

  abbrev label : List (List ℕ) → SourceLine → List ℕ
  label hs l = label_text (name_of l) (resource_names config (first_list hs))

  -- the parts with the test of the first line split off
  abbrev filled_by : Bool → List (List ℕ) → List ℕ → List (List ℕ) → List (List ℕ)
  filled_by b hs p ps =
      cond b (label hs (line ps p) ++ line_end (length ps == 0) p) p ∷ filled_parts config (cond b (other_lists hs) hs) ps

  count_parts : (hs ps : List (List ℕ)) → length (filled_parts config hs ps) ≡ length ps
  count_parts hs [] = refl
  count_parts hs (p ∷ ps) = let n = count_parts (lists_behind (line ps p) hs) ps in omega (arith, n)

  fill_lacks : (hs ps : List (List ℕ)) → AreKnown config hs → AreNamed (map source_line (without_returns ps)) → AllLack ps → AllLack (filled_parts config hs ps)
  fill_lacks hs [] k n h = tt
  fill_lacks hs (p ∷ ps) k n h = by (is_label (line ps p)) refl (λ xs w. fill_lacks xs ps w n.1 h.1)
    where
      by : (b : Bool) → is_label (line ps p) ≡ b → ((xs : List (List ℕ)) → AreKnown config xs → AllLack (filled_parts config xs ps)) → AllLack (filled_by b hs p ps)
      by true e ih = (
        has_in 10 (label hs (line ps p)) (line_end (length ps == 0) p)
            (text_lacks 10 refl (name_of (line ps p)) (resource_names config (first_list hs)) (n.0 e) (first_known config hs k))
            (drop_lacks 10 (length (line_of (length ps == 0) p)) p h.0),
        ih (other_lists hs) (others_known config hs k),
      )
      by false e ih = (h.0, ih hs k)

  -- the lines of the parts with lists
  lines_filled : (hs ps : List (List ℕ)) → AreKnown config hs → AreNamed (map source_line (without_returns ps))
      → map source_line (without_returns (filled_parts config hs ps)) ≡ relabeled_lines config hs (map source_line (without_returns ps))
  lines_filled hs [] k n = refl
  lines_filled hs (p ∷ ps) k n = by (is_label (line ps p)) refl (λ xs w. lines_filled xs ps w n.1)
    where
      by : (b : Bool) → is_label (line ps p) ≡ b
          → ((xs : List (List ℕ)) → AreKnown config xs → map source_line (without_returns (filled_parts config xs ps)) ≡ relabeled_lines config xs (map source_line (without_returns ps)))
          → map source_line (without_returns (filled_by b hs p ps))
          ≡ cond b (label_statement (name_of (line ps p)) (resource_names config (first_list hs)) ∷ relabeled_lines config (other_lists hs) (map source_line (without_returns ps)))
          (line ps p ∷ relabeled_lines config hs (map source_line (without_returns ps)))
      by true e ih =
          let t = label hs (line ps p) in
          let w = first_known config hs k in
          let rest = map source_line (without_returns (filled_parts config (other_lists hs) ps)) in
          ap (λ c. source_line (line_of (c == 0) (t ++ line_end (length ps == 0) p)) ∷ rest) (count_parts (other_lists hs) ps)
          ∙ ap (λ x. source_line x ∷ rest) (with_end (length ps == 0) p t (text_lacks 13 refl (name_of (line ps p)) (resource_names config (first_list hs)) (n.0 e) w))
          ∙ ap (λ x. x ∷ rest) (label_read (name_of (line ps p)) (resource_names config (first_list hs)) (n.0 e) w)
          ∙ ap (λ x. label_statement (name_of (line ps p)) (resource_names config (first_list hs)) ∷ x) (ih (other_lists hs) (others_known config hs k))
      by false e ih =
          let rest = map source_line (without_returns (filled_parts config hs ps)) in
          ap (λ c. source_line (line_of (c == 0) p) ∷ rest) (count_parts hs ps)
          ∙ ap (λ x. line ps p ∷ x) (ih hs k)

-- the text with the lists says the lines with the lists
pub text_filled : (config : Config) (text : List ℕ) (app : App) → AreKnown config (all_holds app) → AreNamed (source_lines text)
    → source_lines (filled_text text config app) ≡ relabeled_lines config (all_holds app) (source_lines text)
unfolding filled_text lines
text_filled config text app k n =
    let hs = all_holds app in
    let ps = slice_split (λ b. b == 10) text in
    let some : 0 < length (filled_parts config hs ps) = let c = count_parts config hs ps in let s = some_parts text in omega (arith, c, s) in
    ap (λ x. map source_line (without_returns x)) (split_joined (filled_parts config hs ps) some (fill_lacks config hs ps k n (parts_lack text)))
    ∙ lines_filled config hs ps k n
