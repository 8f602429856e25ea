use Rattle.std.proofs.lemmas.Result.{IfOk-weaker}
use Rattle.sloth_base.specs.declared.image.Image.{Image}
use Rattle.symbol_build.specs.SymbolFiles.{IsBuilt}
use Rattle.run_load.specs.RunText.{HasToldRun}
use Rattle.run_load.specs.declared.lines.ToldRun.{ToldRun}
use Rattle.run_load.proofs.Telling.{is-built}
use Rattle.run_load.proofs.text.told_built.Goals as goal

pub told_image-requires-clause-built : goal.told_image-requires-clause-built
told_image-requires-clause-built c =
    let h = c.in_ok-built.ensures in
    is-built c.args.source.now.config c.args.source.now.app c.args.source.now.bounds c.in_ok-built.built c.requires.may.are_bounds h.sound h.weighed h.paced h.shows h.items h.format h.tasks h.counters
    h.planned

pub returns : goal.returns
returns c =
    let source = c.args.source.now in
    let h = c.in_ok-built.ensures in
    let built : IsBuilt source.config source.app c.in_ok-built.built =
    is-built source.config source.app source.bounds c.in_ok-built.built c.requires.may.are_bounds h.sound h.weighed h.paced h.shows h.items h.format h.tasks h.counters h.planned in
    let made : (told : ToldRun) → HasToldRun source.config source.app c.args.load.now c.args.arr.now c.args.arrivals.now c.in_ok-built.built c.args.n told
    → (i : Image) × IsBuilt source.config source.app i × HasToldRun source.config source.app c.args.load.now c.args.arr.now c.args.arrivals.now i c.args.n told =
    λ told has. (c.in_ok-built.built, built, has) in
    IfOk-weaker _ _ _ made c.told_image.ensures
