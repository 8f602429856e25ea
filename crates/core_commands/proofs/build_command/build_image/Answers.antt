use Rattle.core_commands.proofs.Ceilings.{runs-keep, well_formed}
use Rattle.core_commands.proofs.OnlyRuns.{runs-only}
use Rattle.core_commands.proofs.build_command.build_image.Goals as goal

pub returns-clause-image : goal.returns-clause-image
returns-clause-image c =
    let built = c.in_ok-built.ensures in
    let well = well_formed _ _ _ _ built.in_range built.accepted in
    record {
      well_formed = well;
      sound = built.sound;
      weighed = built.weighed;
      paced = built.paced;
      shows = built.shows;
      protocol = runs-keep _ _ _ well built.sound;
      only = runs-only _ _ _ well built.sound;
      items = built.items;
      format = built.format;
      names = built.tasks;
      counters = built.counters;
      planned = built.planned;
    }
