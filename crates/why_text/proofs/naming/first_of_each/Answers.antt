use Rattle.std.proofs.Common.{◌≡◌, ◌∙◌, [], List, ap, sym, take, get_or, length, arith}
use Rattle.std.specs.Prelude.{fold}
use Rattle.std.proofs.Math.Seq.{take-length}
use Rattle.std.proofs.lemmas.List.Sums.{fold_more}
use Rattle.stage_faults.specs.declared.notes.Note.{Note}
use Rattle.why_text.specs.NamedFaults.{apart_with}
use Rattle.why_text.proofs.NamedFaults.{no_note}
use Rattle.why_text.proofs.naming.first_of_each.Goals as goal

pub loop-note-preserved : goal.loop-note-preserved
loop-note-preserved c =
    let notes = c.args.notes.now in
    let i = c.loop-note.note-index in
    let k = c.loop-note.invariant in
    record {
      list = c.in_ok-push_once.ensures.list ∙ ap (λ (xs : List Note). apart_with xs (get_or notes i no_note)) k.list ∙ sym (fold_more apart_with [] notes i no_note c.loop-note-test.true);
      keys = c.in_ok-push_once.ensures.keys;
    }

pub returns : goal.returns
returns c =
    let notes = c.args.notes.now in
    let e : c.loop-note.note-index ≡ length notes = omega arith in
    c.loop-note.invariant.list ∙ ap (λ n. fold apart_with [] (take n notes)) e ∙ ap (fold apart_with []) (take-length notes)
