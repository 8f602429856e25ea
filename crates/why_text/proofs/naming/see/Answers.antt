use Rattle.std.proofs.Common.{◌∙◌, List, ℕ, ap}
use Rattle.std.specs.Borrow.{Bor}
use Rattle.std.specs.List.{list_any}
use Rattle.std.proofs.lemmas.Result.{on_ok_weaker}
use Rattle.why_text.specs.NamedFaults.{is_key}
use Rattle.why_text.proofs.Apart.{key_more}
use Rattle.why_text.proofs.naming.see.Goals as goal

pub returns : goal.returns
returns c = on_ok_weaker c.insert.result (λ kept. λ n word.
    ap (λ (ks : List (ℕ × Bor (List ℕ))). list_any (is_key n word) ks) kept ∙ key_more c.args.seen.now.keys c.args.place c.args.name n word) c.insert.ensures
