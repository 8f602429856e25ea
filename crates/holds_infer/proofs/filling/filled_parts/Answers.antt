use Rattle.std.proofs.Common.{◌≡◌, ◌+◌, ◌≤◌, ◌<◌, ◌∙◌, ◌++◌, ℕ, Bool, cond, List, [], ◌∷◌, length, map, drop, get_or, ap, sym, subst, arith}
use Rattle.std.proofs.lemmas.List.{length-map, get_or-map}
use Rattle.std.specs.Prelude.{◌==◌}
use Rattle.std.specs.Borrow.{Bor}
use Rattle.std.specs.List.{join_with_byte}
use Rattle.text_pieces.specs.Names.{referent}
use Rattle.asm_lines.specs.declared.source_line.SourceLine.{SourceLine}
use Rattle.text_pieces.specs.Lines.{line_of}
use Rattle.asm_lines.specs.SourceLines.{source_line}
use Rattle.asm_scopes.specs.Statements.{is_label}
use Rattle.holds_infer.specs.FilledText.{filled_part, filled_parts}
use Rattle.holds_infer.proofs.Loops.{written_on, count_lines, line_at, last_at, few_behind}
use Rattle.holds_infer.proofs.filling.filled_parts.Goals as goal

pub bounds-lines-n : goal.bounds-lines-n
bounds-lines-n c =
    let e = ap (λ (ls : List SourceLine). length ls) c.requires in
    let n = count_lines (map referent c.args.parts.now) in
    let m = length-map c.args.parts.now referent in
    let l = c.loop-n-test.true in
    omega (arith, e, n, m, l)

pub loop-n-preserved : goal.loop-n-preserved
loop-n-preserved c =
    let config = c.args.config.now in
    let parts = c.args.parts.now in
    let hs = map referent c.args.lists.now in
    let ps = map referent parts in
    let n = c.loop-n.n in
    let k = c.loop-n.number in
    let line = c.index-lines-n.result in
    let last : Bool = n + 1 == length parts in
    let d : Bor (List ℕ) = record { ref_ptr = (0, 0); now = [] } in
    let p = (get_or parts n d).now in
    let count = length-map parts referent in
    let test = c.loop-n-test.true in
    let inside : n < length ps = omega (arith, count, test) in
    let part : p ≡ get_or ps n [] = sym (get_or-map referent parts n d [] test) in
    let is_last : last ≡ (length (drop (n + 1) ps) == 0) = ap (λ (m : ℕ). n + 1 == m) (sym count) ∙ last_at ps n inside in
    let number = c.labels_behind-number.ensures in
    let whole = join_with_byte 10 (filled_parts config hs ps) in
    let on = written_on config hs ps n k line last p c.loop-n.out.items c.write_line.new.out.items whole (record {
      inside = inside;
      part = part;
      line = c.index-lines-n.is ∙ ap (λ (ls : List SourceLine). get_or ls n line) c.requires ∙ line_at ps n line inside
          ∙ ap (λ (x : List ℕ). source_line (line_of (length (drop (n + 1) ps) == 0) x)) (sym part)
          ∙ ap (λ (b : Bool). source_line (line_of b p)) (sym is_last);
      is_last = is_last;
      grown = c.in_ok-write_line.ensures ∙ ap (λ (held : List ℕ). c.loop-n.out.items ++ (filled_part config line last held p ++ cond last [] (10 ∷ []))) c.numbered_list-list.ensures;
    }) c.loop-n.invariant.text in
    record {
      few = subst (λ (x : ℕ). x ≤ n + 1) (sym number) (few_behind (is_label line) k n c.loop-n.invariant.few);
      text = subst (λ (x : ℕ). c.write_line.new.out.items ++ join_with_byte 10 (filled_parts config (drop x hs) (drop (n + 1) ps)) ≡ whole) (sym number) on;
    }
