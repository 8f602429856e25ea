use Rattle.std.proofs.Common.{rules, ◌≡◌, ◌∙◌, List, [], ◌∷◌, ◌++◌, ap, sym, append_assoc, append-nil}
use Rattle.std.specs.Prelude.{cond}
use Rattle.schedule_picture.specs.declared.marks.Actor.TheVariants as actor
use Rattle.schedule_picture.specs.declared.marks.Mark.{Mark}
use Rattle.schedule_picture.specs.declared.marks.Sign.TheVariants as sign
use Rattle.schedule_picture.specs.Marks.{is_alarm_over, expiries}
use Rattle.schedule_picture.proofs.MarkRows.{no-expiries, one-expiry-more}
use Rattle.schedule_picture.proofs.marks.push_expiries.Goals as goal

pub loop-alarm-init : goal.loop-alarm-init
loop-alarm-init c =
    let at = c.args.at in
    let counter = c.args.counter in
    let before = c.args.before.now in
    let now = c.args.now.now in
    let old = c.args.marks.now.items in
    sym (append-nil old) ∙ ap (λ more. old ++ more) (sym (no-expiries at counter before now))

pub loop-alarm-preserved : goal.loop-alarm-preserved
loop-alarm-preserved c =
    let at = c.args.at in
    let counter = c.args.counter in
    let before = c.args.before.now in
    let now = c.args.now.now in
    let old = c.args.marks.now.items in
    let k = c.loop-alarm.alarm in
    let one : List Mark = cond (is_alarm_over before now k) (record { at = at; actor = actor.Counter counter; sign = sign.Expires k } ∷ []) [] in
    let pushed : c.push_marked.new.marks.items ≡ c.loop-alarm.marks.items ++ one = search rules in
    pushed ∙ ap (λ t. t ++ one) c.loop-alarm.invariant ∙ append_assoc old (expiries at counter before now k) one
    ∙ ap (λ more. old ++ more) (sym (one-expiry-more at counter before now k))
