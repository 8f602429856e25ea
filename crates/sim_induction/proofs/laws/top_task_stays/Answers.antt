use Rattle.sim_induction.proofs.laws.top_task_stays.Goals as goal
use Rattle.sim_induction.proofs.Passing.{still_top, passes_inner}

pub returns : goal.returns
returns c = record {
  stays = λ config s t lines few tasks top active fresh. still_top config s t lines few tasks top active fresh;
  passes = λ config app past count t s trace few leads booted below top active. passes_inner config app past count t s trace few leads booted below top active;
}
