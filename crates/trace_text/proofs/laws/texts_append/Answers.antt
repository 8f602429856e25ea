use Rattle.trace_text.proofs.Appends.{text_after-append}
use Rattle.trace_text.proofs.laws.texts_append.Goals as goal

pub returns : goal.returns
returns c = text_after-append
