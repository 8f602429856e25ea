use Rattle.bounds_text.proofs.OneLatency.{one_latency_text}
use Rattle.bounds_text.proofs.laws.one_latency_text.Goals as goal

pub returns : goal.returns
returns c = one_latency_text
