use Rattle.std.proofs.Common.{◌≡◌, List, ◌++◌, sym, ◌∙◌, subst, append_assoc}
use Rattle.rv32_instr.specs.declared.InstrKind.{InstrKind}
use Rattle.service_gen.specs.AlarmPieces.{counting_code, look_clearing_code, looks_code, basing_code, alarms_code, returning_code, tick_code}
use Rattle.service_gen.specs.Tick.{IsTickCode}
use Rattle.service_gen.proofs.Ticking.{ticks}
use Rattle.service_gen.proofs.tick_code.code.Goals.{In_ok-put-3}
use Rattle.service_gen.proofs.tick_code.code.Goals as goal

six : (a b d e f g : List InstrKind) → (((((a ++ b) ++ d) ++ e) ++ f) ++ g) ≡ a ++ (b ++ (d ++ (e ++ (f ++ g))))
six a b d e f g =
    append_assoc (((a ++ b) ++ d) ++ e) f g ∙ append_assoc ((a ++ b) ++ d) e (f ++ g) ∙ append_assoc (a ++ b) d (e ++ (f ++ g)) ∙ append_assoc a b (d ++ (e ++ (f ++ g)))

made : (c : In_ok-put-3) → c.put-3.new.code.items ≡ tick_code c.args.counter c.args.max c.args.alarms.now
made c =
    let alarms = c.args.alarms.now in
    rw (c.in_ok-put-3.ensures, c.lui-2.ensures, c.mret.ensures, c.in_ok-run_all.ensures, c.in_ok-put-2.ensures, c.lui.ensures, c.in_ok-look_at_all.ensures, c.in_ok-put.ensures, c.addi.ensures, c.in_ok-count.ensures.added, c.new-code.ensures.items)
    (six (counting_code c.args.counter c.args.max) look_clearing_code (looks_code alarms) basing_code (alarms_code alarms) returning_code)

pub returns-clause-is : goal.returns-clause-is
returns-clause-is c = made (goal.at.returns-clause-is c).In_ok-put-3

pub returns-clause-effect : goal.returns-clause-effect
returns-clause-effect c =
    let d = (goal.at.returns-clause-effect c).In_ok-put-3 in
    let a = d.args in
    subst (IsTickCode a.counter a.max a.alarms.now) (sym (made d)) (ticks a.counter a.max a.alarms.now d.requires.0 d.count.ensures.fits d.requires.1)
