-- The events that are read of a text are those that it shows.
use Rattle.std.proofs.Common.{ℕ, ◌+◌, ◌≡◌, List, true, false, length}
use Rattle.std.specs.Prelude.{◌==◌}
use Rattle.sloth_base.specs.ImageRange.{AreNamesApart, AreNames}
use Rattle.sloth_base.specs.declared.service.Stamped.{Stamped}
use Rattle.trace_check.specs.TraceText.{HasNoFirstLine, IsEventText}
use Rattle.trace_check.proofs.ReadEvents.{HasRead}
use Rattle.trace_check.proofs.TraceText.{shows_one, bad_shows_none, reads_bad}
use Rattle.trace_check.proofs.Judging.{is_left, shows_all}

module _ (tasks functions counters : List (List ℕ)) (named : AreNames tasks) (called : AreNames functions) (counted : AreNames counters) (apart : AreNamesApart counters tasks)
    (text : List ℕ) (shown : List Stamped) (shows : IsEventText tasks functions counters shown text)
    (events : List Stamped) (rest : List ℕ) (reads : HasRead tasks functions counters text events rest) where
  pub none_bad : (length rest == 0) ≡ false → HasNoFirstLine tasks functions counters rest → ⊥
  none_bad left none =
      bad_shows_none tasks functions counters named called counted apart text (length events + 1) shown
      (reads_bad tasks functions counters text events rest reads (is_left rest left) none) shows

  pub all_shown : (length rest == 0) ≡ true → events ≡ shown
  all_shown none = shows_one tasks functions counters named called counted apart text events shown (shows_all tasks functions counters text rest events reads none) shows
