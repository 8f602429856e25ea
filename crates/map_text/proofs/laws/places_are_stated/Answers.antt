use Rattle.map_text.proofs.StatedPlaces.{files_are_names, others_have_none, places_are_stated}
use Rattle.map_text.proofs.laws.places_are_stated.Goals as goal

pub returns-clause-stated : goal.returns-clause-stated
returns-clause-stated c = places_are_stated

pub returns-clause-none : goal.returns-clause-none
returns-clause-none c = others_have_none

pub returns-clause-files : goal.returns-clause-files
returns-clause-files c = files_are_names
