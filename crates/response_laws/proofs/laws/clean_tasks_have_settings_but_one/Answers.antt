use Rattle.response_laws.proofs.laws.clean_tasks_have_settings_but_one.Goals as goal
use Rattle.response_laws.proofs.Settings.{settings_but_one}

pub returns : goal.returns
returns c = settings_but_one
