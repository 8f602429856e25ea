use Rattle.std.proofs.Common.{◌≡◌, sym, subst}
use Rattle.block_parts.specs.Boot.{idle_code}
use Rattle.vector_gen.specs.Idle.{IsIdleCode}
use Rattle.vector_gen.proofs.Idling.{idles}
use Rattle.vector_gen.proofs.boot_code.idle.Goals as goal

pub returns-clause-effect : goal.returns-clause-effect
returns-clause-effect c =
    let e : c.from_vec.result ≡ idle_code = rw (c.from_vec.ensures, c.in_ok-stay.ensures, c.new-code.ensures.items) in
    subst IsIdleCode (sym e) idles
