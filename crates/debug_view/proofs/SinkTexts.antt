-- What a sink in memory took of a run.
use Rattle.std.proofs.Common.{◌≡◌, ◌∙◌, ℕ, List, [], ◌++◌, ap}
use Rattle.std.specs.Prelude.{Some}
use Rattle.sloth_io.specs.MemSink.{taken_by, shown_output}
use Rattle.sloth_io.specs.Sink.{Output, output_with}
use Rattle.sloth_io.specs.declared.mem_sink.MemSink.{MemSink}

pub taken_whole : (old new : MemSink) (text : List ℕ) → shown_output new ≡ output_with (shown_output old) text → taken_by old ≡ [] → taken_by new ≡ text
taken_whole old new text put fresh =
    let some : Some (taken_by new) ≡ Some (taken_by old ++ text) = ap (λ (o : Output). o.taken) put in
    let same : taken_by new ≡ taken_by old ++ text = cc in
    same ∙ ap (λ t. t ++ text) fresh
