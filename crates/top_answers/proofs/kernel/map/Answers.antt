use Rattle.std.proofs.Common.{◌%◌, get_or, refl}
use Rattle.std.specs.Prelude.{ltb, leb, eqb, set, replicate}
use Rattle.std.proofs.lemmas.Bool.{ltb-true, leb-true, eqb-true}
use Rattle.sloth_base.specs.MemoryMap.{boot_base}
use Rattle.top_answers.proofs.Every.{every_at}
use Rattle.top_answers.proofs.kernel.map.Goals as goal

pub returns-clause-reach : goal.returns-clause-reach
returns-clause-reach c =
    let handlers = set (replicate 32 0x8000_0548) 0 0x800f_fffc in
    record {
      long = refl;
      aligned = λ k h. eqb-true (get_or handlers k 0 % 4) 0 (every_at (λ x. eqb (x % 4) 0) handlers refl k h);
      behind = λ k h. leb-true boot_base (get_or handlers k 0) (every_at (λ x. leb boot_base x) handlers refl k h);
      near = λ k h. ltb-true (get_or handlers k 0) 0x8010_0400 (every_at (λ x. ltb x 0x8010_0400) handlers refl k h);
    }
