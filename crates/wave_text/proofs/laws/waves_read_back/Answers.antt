use Rattle.wave_text.proofs.ReadBack.{reads-back}
use Rattle.wave_text.proofs.laws.waves_read_back.Goals as goal

pub returns : goal.returns
returns c = reads-back
