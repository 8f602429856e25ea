use Rattle.std.proofs.Common.{◌≡◌, rules}
use Rattle.sloth_base.specs.ServiceCodes.{service_of}
use Rattle.sloth_base.proofs.Services.{of_number, no_number}
use Rattle.sloth_base.proofs.service.Service.from_code.Goals as goal

pub returns-clause-some : goal.returns-clause-some
returns-clause-some c = let is : c.copied.result ≡ service_of c.args.code = search rules in of_number c.args.code c.copied.result is

pub returns-clause-none : goal.returns-clause-none
returns-clause-none c = let is : c.copied.result ≡ service_of c.args.code = search rules in no_number c.args.code c.copied.result is
