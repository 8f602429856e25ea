use Rattle.std.proofs.Common.{◌≡◌, ◌∙◌}
use Rattle.std.proofs.lemmas.Result.{IfOk-weaker}
use Rattle.map_text.proofs.Listing.{listable}
use Rattle.sloth_base.specs.declared.image.Image.{Image}
use Rattle.symbol_image.specs.SymbolFile.{symbol_file}
use Rattle.symbol_build.specs.SymbolFiles.{IsFileOfImage, parts_of, source_origins}
use Rattle.symbol_build.proofs.OwnFile.{may_show_again, own_file}
use Rattle.symbol_build.proofs.building.planned_file.Goals as goal

pub parts_file-requires-clause-listable : goal.parts_file-requires-clause-listable
parts_file-requires-clause-listable c =
    listable c.args.config.now c.args.app.now c.args.bounds.now c.in_ok-map.map c.requires.may.well_formed c.in_ok-map.ensures

pub parts_file-requires-clause-may : goal.parts_file-requires-clause-may
parts_file-requires-clause-may c =
    may_show_again c.args.config.now c.args.app.now c.args.bounds.now c.in_ok-image.image c.in_ok-image.ensures.planned c.in_ok-map.map c.in_ok-map.ensures
    c.args.name.now c.in_ok-origins.origins c.items-memory.result.now c.items-memory.ensures

pub returns : goal.returns
returns c =
    let config = c.args.config.now in
    let app = c.args.app.now in
    let name = c.args.name.now in
    let origins = source_origins c.args.src.now in
    let image = c.in_ok-image.image in
    let h = c.in_ok-image.ensures in
    IfOk-weaker c.parts_file.result (λ file. file.items ≡ symbol_file (parts_of name c.in_ok-origins.origins config app c.in_ok-map.map c.items-memory.result.now))
    (λ file. (i : Image) × IsFileOfImage config app name origins i file.items)
    (λ file e. (
      image,
      record {
        is_built = record {
          sound = h.sound;
          weighed = h.weighed;
          paced = h.paced;
          shows = h.shows;
          items = h.items;
          format = h.format;
          names = h.tasks;
          counters = h.counters;
          planned = record { bounds = c.args.bounds.now; are_bounds = c.requires.may.are_bounds; by_map = h.planned };
        };
        is = own_file config app c.args.bounds.now image h.planned c.in_ok-map.map c.in_ok-map.ensures name origins c.in_ok-origins.origins c.items-memory.result.now
            file.items c.items-memory.ensures c.in_ok-origins.ensures e;
      },
    ))
    c.parts_file.ensures
