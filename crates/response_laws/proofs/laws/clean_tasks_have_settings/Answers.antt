use Rattle.response_laws.proofs.laws.clean_tasks_have_settings.Goals as goal
use Rattle.response_laws.proofs.Settings.{clean_tasks_have_settings}

pub returns : goal.returns
returns c = clean_tasks_have_settings
