-- Texts have one file, which is that of the image's map, and its formulas are right.
use Rattle.std.proofs.Common.{refl}
use Rattle.orti_text.specs.OrtiTable.{orti_table}
use Rattle.orti_text.specs.Tables.{table_text}
use Rattle.orti_text.proofs.OneText.{one_text}
use Rattle.debug_view.proofs.Images.{images_show}
use Rattle.sloth_commands.specs.BuiltFormulas.{BuiltFilesAreRight}

pub built-files-are-right : BuiltFilesAreRight
built-files-are-right oil src text config app image accepted built printed = record {
  is = one_text oil src text (table_text (orti_table config built.planned.by_map.map)) printed
      (record {
        config = config;
        app = app;
        accepted = accepted;
        well_formed = built.well_formed;
        bounds = built.planned.bounds;
        are_bounds = built.planned.are_bounds;
        has_table = record { plan = built.planned.by_map.map; planned = built.planned.by_map.planned; is = refl };
      });
  shows = images_show config app image built.well_formed built.sound built.items built.planned;
}
