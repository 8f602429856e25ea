use Rattle.std.proofs.Common.{◌++◌, List}
use Rattle.wave_text.specs.declared.dump.Dump.{Dump}
use Rattle.wave_text.specs.declared.signals.Scope.TheVariants as scope
use Rattle.wave_text.specs.declared.signals.Width.TheVariants as width
use Rattle.wave_text.specs.Changes.{DumpEntry, change_entries, scope_changes}
use Rattle.wave_text.specs.Signals.{level_signal, masked_code, level_value, masked_value}
use Rattle.wave_text.specs.Waves.{HasNewEntries}
use Rattle.wave_text.proofs.Dumping.{gets-both, gets-values}
use Rattle.wave_text.proofs.dump.Dump.kernel.Goals as goal

pub returns : goal.returns
returns c =
    let before = c.args.before.now in
    let after = c.args.after.now in
    let start : Dump = c.args.self.now in
    let one : Dump = c.scope.new.self in
    let two : Dump = c.scope-2.new.self in
    let three : Dump = c.scope-3.new.self in
    let lined : Dump = c.scope-4.new.self in
    let four : Dump = c.change.new.self in
    let five : Dump = c.change-2.new.self in
    let A : List DumpEntry = scope_changes scope.State before after c.args.owners.now.tasks in
    let B : List DumpEntry = scope_changes scope.Runs before after c.args.owners.now.tasks in
    let C : List DumpEntry = scope_changes scope.Pending before after c.args.owners.now.tasks in
    let F : List DumpEntry = scope_changes scope.Counters before after c.args.owners.now.counters in
    let D : List DumpEntry = change_entries level_signal width.Eight (level_value before) (level_value after) in
    let E : List DumpEntry = change_entries masked_code width.One (masked_value before) (masked_value after) in
    let first : HasNewEntries start one A = c.in_ok-scope.ensures in
    let second : HasNewEntries one two B = c.in_ok-scope-2.ensures in
    let third : HasNewEntries two three C = c.in_ok-scope-3.ensures in
    let counters : HasNewEntries three lined F = c.in_ok-scope-4.ensures in
    let fourth : HasNewEntries lined four D = gets-values lined four level_signal width.Eight c.level_value.result c.level_value-2.result (level_value before) (level_value after)
    c.level_value.ensures c.level_value-2.ensures c.in_ok-change.ensures in
    let fifth : HasNewEntries four five E = gets-values four five masked_code width.One c.masked_value.result c.masked_value-2.result (masked_value before) (masked_value after)
    c.masked_value.ensures c.masked_value-2.ensures c.in_ok-change-2.ensures in
    gets-both start four five (A ++ B ++ C ++ F ++ D) E (gets-both start lined four (A ++ B ++ C ++ F) D
    (gets-both start three lined (A ++ B ++ C) F (gets-both start two three (A ++ B) C (gets-both start one two A B first second) third) counters) fourth) fifth
