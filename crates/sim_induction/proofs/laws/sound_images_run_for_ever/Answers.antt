use Rattle.sim_induction.proofs.laws.sound_images_run_for_ever.Goals as goal
use Rattle.sim_induction.proofs.Endless.{sound_for_ever}

pub returns : goal.returns
returns c = λ config app image arrival sound come n. sound_for_ever config app image arrival sound come n
