use Rattle.std.proofs.Common.{subst, sym}
use Rattle.osek_scheduler.specs.State.{System, opening}
use Rattle.osek_scheduler.proofs.Steps.{opening_valid}
use Rattle.osek_scheduler.proofs.Apart.{opening_apart}
use Rattle.osek_machine.specs.Steps.{IsSound}
use Rattle.osek_machine.proofs.osek.Osek.boot.Goals as goal

pub invariant_of-result : goal.invariant_of-result
invariant_of-result c =
    let config = c.args.config.now in
    let app = c.args.app.now in
    let is : IsSound config app (opening config app) = record {
      well_formed = c.requires;
      valid = opening_valid config app;
      apart = opening_apart config app;
      distinct = tt;
    } in
    subst (λ (x : System). IsSound config app x) (sym c.in_ok-store.ensures) is
