use Rattle.std.proofs.Common.{ℕ, List, subst}
use Rattle.wave_text.specs.declared.dump.Dump.{Dump}
use Rattle.wave_text.specs.declared.signals.Scope.TheVariants as scope
use Rattle.wave_text.specs.Changes.{DumpEntry, scope_changes}
use Rattle.wave_text.specs.Signals.{alarm_count}
use Rattle.wave_text.specs.Waves.{HasNewEntries}
use Rattle.wave_text.proofs.Dumping.{gets-both}
use Rattle.wave_text.proofs.dump.Dump.clock.Goals as goal

pub returns : goal.returns
returns c =
    let before = c.args.before.now in
    let after = c.args.after.now in
    let one : Dump = c.scope.new.self in
    let two : Dump = c.scope-2.new.self in
    let A : ℕ → List DumpEntry = λ n. scope_changes scope.Alarms before after n in
    let H : ℕ → Type 0 = λ n. HasNewEntries one two (A n) in
    let second : H (alarm_count c.args.counters) = subst H c.alarm_count.ensures.is c.in_ok-scope-2.ensures in
    gets-both c.args.self.now one two (scope_changes scope.Values before after c.args.counters) (A (alarm_count c.args.counters)) c.in_ok-scope.ensures second
