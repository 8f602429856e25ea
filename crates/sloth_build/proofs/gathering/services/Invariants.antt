use Rattle.std.proofs.Common.{take}
use Rattle.std.specs.List.{AllZip}
use Rattle.sloth_build.specs.Services.{IsService, wanted_services_from}
use Rattle.sloth_build.proofs.gathering.services.Given as goal

abbrev pub invariant-loop-number : goal.invariant-loop-number
invariant-loop-number l = AllZip (IsService l.config l.levels l.map) (wanted_services_from 0 (take l.number l.wanted)) l.blocks.items
