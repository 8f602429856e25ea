-- The map that `map` prints is that of the image: texts have one list of lines, and that of the image's map is one.
use Rattle.std.proofs.Common.{refl}
use Rattle.map_text.specs.MapText.{map_text}
use Rattle.map_text.proofs.OneText.{one_text}
use Rattle.sloth_commands.specs.PrintedMap.{PrintsMapOfImage}

pub prints-map-of-image : PrintsMapOfImage
prints-map-of-image oil src text config app image accepted has printed =
    one_text oil src text (map_text config app has.bounds has.by_map.map) printed
    (record {
      config = config;
      app = app;
      accepted = accepted;
      well_formed = has.by_map.is.has_items.well_formed;
      bounds = has.bounds;
      are_bounds = has.are_bounds;
      has_map = record { plan = has.by_map.map; planned = has.by_map.planned; is = refl };
    })
