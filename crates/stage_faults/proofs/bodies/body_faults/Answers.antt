use Rattle.std.proofs.Common.{◌∙◌, ℕ, List, ap, subst, take}
use Rattle.std.proofs.lemmas.Result.{on_ok_weaker}
use Rattle.sloth_base.specs.declared.refusal.Part.TheVariants.{Src}
use Rattle.asm_lines.specs.declared.source_line.SourceLine.{SourceLine}
use Rattle.sloth_base.specs.Search.{Somewhere}
use Rattle.asm_scopes.specs.Statements.{label_names}
use Rattle.stage_faults.specs.ToldNames.{ToldHeader, ToldLineName}
use Rattle.stage_faults.specs.Told.{Adds}
use Rattle.stage_faults.proofs.Telling.{adds_both}
use Rattle.stage_faults.proofs.bodies.body_faults.Goals as goal

pub returns : goal.returns
returns c =
    let body = c.args.body.now in
    let scope = c.args.scope.now in
    let earlier = take c.args.before.count scope.functions in
    let count = c.args.before.count in
    let items = c.args.before.items in
    let a = c.args.notes.now.items in
    let b = c.add_header_faults.new.notes.items in
    let d = c.line_faults.new.notes.items in
    let of_header = subst (λ (x : SourceLine). Adds Src (ToldHeader scope earlier count body.line x) a b) c.header.ensures
    (subst (λ (n : ℕ). Adds Src (ToldHeader scope earlier count n c.header.result.now) a b) c.line-number.ensures c.in_ok-add_header_faults.ensures) in
    let labels = c.in_ok-labels.ensures ∙ ap label_names c.lines.ensures in
    on_ok_weaker c.line_faults.result
    (λ told.
    adds_both Src (ToldHeader scope earlier count body.line body.header) (Somewhere (ToldLineName scope (label_names body.lines) items body.line) body.lines) a b d of_header
    (subst (λ (xs : List SourceLine). Adds Src (Somewhere (ToldLineName scope (label_names body.lines) items body.line) xs) b d) c.lines-2.ensures
    (subst (λ (n : ℕ). Adds Src (Somewhere (ToldLineName scope (label_names body.lines) items n) c.lines-2.result.now) b d) c.line-number.ensures
    (subst (λ (e : List (List ℕ)). Adds Src (Somewhere (ToldLineName scope e items c.line-number.result) c.lines-2.result.now) b d) labels told))))
    c.line_faults.ensures
