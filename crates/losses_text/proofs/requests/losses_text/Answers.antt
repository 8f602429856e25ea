use Rattle.std.proofs.Common.{◌∙◌}
use Rattle.std.proofs.lemmas.Result.{err_from_is_err_and}
use Rattle.sloth_build.proofs.Ready.{may_build}
use Rattle.losses_text.proofs.ReadTexts.{arrivals_are, arrivals_coming, arrivals_named, arrivals_refused, texts_refused}
use Rattle.losses_text.proofs.requests.losses_text.Goals as goal

pub image-requires : goal.image-requires
image-requires c =
    let read = c.in_ok-config.ensures in
    may_build _ _ read.well_formed read.named _ read.bounds

pub run_text-requires-clause-arrivals : goal.run_text-requires-clause-arrivals
run_text-requires-clause-arrivals c =
    arrivals_named c.in_ok-image.image c.items.result.now c.items-2.result.now c.items.ensures c.items-2.ensures c.in_ok-arrivals.arrivals.items
    c.as_slice.result.now c.as_slice.ensures.value c.in_ok-arrivals.ensures.in_range

pub run_text-requires-clause-coming : goal.run_text-requires-clause-coming
run_text-requires-clause-coming c =
    arrivals_coming c.in_ok-config.field-0.config c.items.result.now c.items-2.result.now (c.items.ensures ∙ c.in_ok-image.ensures.tasks)
    (c.items-2.ensures ∙ c.in_ok-image.ensures.counters) c.in_ok-arrivals.arrivals.items c.as_slice.result.now c.as_slice.ensures.value
    c.in_ok-arrivals.ensures.in_range

pub returns-in_err-config-clause-refused : goal.returns-in_err-config-clause-refused
returns-in_err-config-clause-refused c =
    let failed = err_from_is_err_and c.from_residual.result c.from_residual.ensures.1 in
    rw (failed.1, failed.2) (texts_refused c.args.oil.now c.args.src.now c.args.arr.now c.in_err-config.field-0.0 c.in_err-config.ensures.refused)

pub returns-in_err-arrivals-clause-refused : goal.returns-in_err-arrivals-clause-refused
returns-in_err-arrivals-clause-refused c =
    let failed = err_from_is_err_and c.from_residual-in_err-arrivals.result c.from_residual-in_err-arrivals.ensures.1 in
    let texts = c.in_ok-config.field-0 in
    rw (failed.1, failed.2)
    (arrivals_refused texts.config c.items.result.now c.items-2.result.now (c.items.ensures ∙ c.in_ok-image.ensures.tasks)
    (c.items-2.ensures ∙ c.in_ok-image.ensures.counters) c.args.oil.now c.args.src.now c.args.arr.now texts.app c.in_err-arrivals.field-0.0
    c.in_ok-config.ensures.accepted c.in_err-arrivals.ensures.refused)

pub returns-clause-text : goal.returns-clause-text
returns-clause-text c =
    let texts = c.in_ok-config.field-0 in
    let image = c.in_ok-image.ensures in
    let arrivals = c.in_ok-arrivals.ensures in
    record {
      config = texts.config;
      app = texts.app;
      accepted = c.in_ok-config.ensures.accepted;
      image = c.in_ok-image.image;
      is_built = record {
        sound = image.sound;
        weighed = image.weighed;
        paced = image.paced;
        shows = image.shows;
        items = image.items;
        format = image.format;
        names = image.tasks;
        counters = image.counters;
        planned = record { bounds = texts.bounds; are_bounds = c.in_ok-config.ensures.bounds; by_map = image.planned };
      };
      arrivals = c.as_slice.result.now;
      read = arrivals_are texts.config c.items.result.now c.items-2.result.now (c.items.ensures ∙ image.tasks) (c.items-2.ensures ∙ image.counters) c.args.arr.now
          c.in_ok-arrivals.arrivals.items c.as_slice.result.now c.as_slice.ensures.value arrivals.none arrivals.arrivals;
      tells = c.in_ok-text.ensures;
    }
