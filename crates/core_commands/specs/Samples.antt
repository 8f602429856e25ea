-- What `sample` generates from a seed, and what it shows.
use Rattle.std.specs.Prelude.{ℕ, List}
use Rattle.sloth_base.specs.declared.service.Arrival.{Arrival}
use Rattle.sloth_base.specs.declared.image.Image.{Image}
use Rattle.sloth_base.specs.Limits.{task_limit, count_limit}
use Rattle.app_gen.specs.Load.{arrivals}
use Rattle.app_gen.specs.Oil.{oil_text}
use Rattle.app_gen.specs.Source.{source_text}
use Rattle.sim_induction.specs.Sound.{events_of}
use Rattle.trace_text.specs.Summary.{counts_of, summary_text}

-- the OIL text: that of a generated application of 30 tasks
abbrev pub sample_oil : List ℕ
sample_oil = oil_text task_limit

-- its task source
abbrev pub sample_source : ℕ → List ℕ
sample_source seed = source_text seed task_limit

-- its arrivals
abbrev pub sample_arrivals : ℕ → List Arrival
sample_arrivals seed = arrivals seed task_limit

-- what is put: the summary of what is observed of the image's run of `count_limit` instructions with these arrivals
unfoldable pub sample_text : Image → List Arrival → List ℕ
sample_text image arrivals = summary_text (counts_of (events_of image arrivals count_limit))
