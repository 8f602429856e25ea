use Rattle.std.proofs.Common.{◌≡◌, ◌++◌, take}
use Rattle.schedule_picture.specs.Items.{bar_words}
use Rattle.schedule_picture.specs.Picture.{bar_lines}
use Rattle.schedule_picture.proofs.text.push_bars.Given as goal

abbrev pub invariant-loop-bar : goal.invariant-loop-bar
invariant-loop-bar l =
    l.text.items
    ≡ l.fn.text.items ++ bar_lines l.drawn.scale l.name l.middle (bar_words l.drawn.image.now l.drawn.addresses.now l.drawn.scale.from) (take l.bar-index l.bars)
