use Rattle.std.proofs.Common.{ℕ, List, map, ap, sym, subst, ◌∙◌}
use Rattle.std.specs.List.{join_with_byte}
use Rattle.text_pieces.specs.Names.{referent}
use Rattle.text_pieces.specs.Lines.{lines, without_returns}
use Rattle.asm_lines.specs.SourceLines.{source_line}
use Rattle.sloth_source.specs.SourceText.{HasApp, SourceText}
use Rattle.holds_infer.specs.Relabel.{all_holds}
use Rattle.holds_infer.specs.FilledText.{filled_parts, filled_text}
use Rattle.holds_infer.proofs.Accepts.{out_has_app, out_accepted, range_known}
use Rattle.holds_infer.proofs.filling.fill.Goals as goal

pub filled_parts-requires : goal.filled_parts-requires
unfolding lines
filled_parts-requires c =
    c.items.ensures ∙ c.in_ok-lines.ensures
    ∙ ap (λ ps. map source_line (without_returns ps)) (sym c.in_ok-parts.ensures ∙ sym (ap (λ xs. map referent xs) c.as_slice-2.ensures.value))

pub returns-clause-text : goal.returns-clause-text
unfolding filled_text
returns-clause-text c =
    c.in_ok-out.ensures
    ∙ ap (λ hs. join_with_byte 10 (filled_parts c.args.config.now hs (map referent c.as_slice-2.result.now))) (ap (λ xs. map referent xs) c.as_slice.ensures.value ∙ c.in_ok-lists.ensures)
    ∙ ap (λ ps. join_with_byte 10 (filled_parts c.args.config.now (all_holds c.args.app.now) ps)) (ap (λ xs. map referent xs) c.as_slice-2.ensures.value ∙ c.in_ok-parts.ensures)

pub returns-clause-says : goal.returns-clause-says
returns-clause-says c =
    subst (λ (out : List ℕ). HasApp out c.args.config.now c.args.app.now) (sym (returns-clause-text c))
    (out_has_app c.args.config.now c.requires.in_range.configuration c.args.text.now c.args.before.now c.args.app.now c.requires.says c.requires.same
    (range_known c.args.config.now c.args.app.now c.requires.in_range))

pub returns-clause-accepted : goal.returns-clause-accepted
returns-clause-accepted c = λ whole.
    subst (λ (out : List ℕ). SourceText out c.args.config.now c.args.app.now) (sym (returns-clause-text c))
    (out_accepted c.args.config.now c.args.text.now c.args.before.now c.args.app.now c.requires.says c.requires.same whole
    (range_known c.args.config.now c.args.app.now c.requires.in_range))
