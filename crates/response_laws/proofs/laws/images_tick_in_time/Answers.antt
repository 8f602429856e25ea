use Rattle.response_laws.proofs.laws.images_tick_in_time.Goals as goal
use Rattle.response_laws.proofs.ImageTicks.{images_tick_in_time}

pub returns : goal.returns
returns c = images_tick_in_time
