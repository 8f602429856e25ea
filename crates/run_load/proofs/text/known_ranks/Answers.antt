use Rattle.run_load.proofs.text.known_ranks.Goals as goal

pub ranks-requires : goal.ranks-requires
ranks-requires c = (c.args.config.now, c.requires.in_range)
