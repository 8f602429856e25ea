use Rattle.std.proofs.Common.{◌∙◌, ap, List, ℕ}
use Rattle.std.specs.Prelude.{◌||◌, ◌&&◌}
use Rattle.std.specs.Borrow.{Bor}
use Rattle.std.specs.List.{list_any}
use Rattle.std.specs.Str.{bytes_eq}
use Rattle.std.proofs.lemmas.Result.{on_ok_weaker}
use Rattle.oil_rules.proofs.Fronts.{named_more}
use Rattle.oil_rules.proofs.front.add_name.Goals as goal

pub returns : goal.returns
returns c = on_ok_weaker c.insert.result (λ kept. λ kind name.
    let x = c.args.object.now in
    let keys = c.args.names.now.keys in
    ap (λ (ks : List (Bor (List ℕ) × Bor (List ℕ))). list_any (λ y. bytes_eq y.0.now kind && bytes_eq y.1.now name) ks) kept
    ∙ named_more keys c.bytes.result c.bytes-2.result kind name
    ∙ ap (λ (w : List ℕ). list_any (λ y. bytes_eq y.0.now kind && bytes_eq y.1.now name) keys || (bytes_eq w kind && bytes_eq c.bytes-2.result.now name)) c.bytes.ensures
    ∙ ap (λ (w : List ℕ). list_any (λ y. bytes_eq y.0.now kind && bytes_eq y.1.now name) keys || (bytes_eq x.kind kind && bytes_eq w name)) c.bytes-2.ensures) c.insert.ensures
