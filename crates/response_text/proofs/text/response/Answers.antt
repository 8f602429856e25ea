use Rattle.std.proofs.Common.{true, false, sym, subst}
use Rattle.response_text.specs.ResponseText.{IsTaskResponse}
use Rattle.response_text.proofs.Numbered.{told_number}
use Rattle.response_text.proofs.text.response.Goals as goal

pub returns : goal.returns
returns c =
    let costs = c.args.run.now.costs in
    subst (IsTaskResponse c.args.run.now.longest c.args.run.now.late costs c.args.task) (sym c.response_of.ensures)
    (record {
      comes = c.comes-is_made.ensures;
      anywhere = told_number c.args.run.now.longest c.args.run.now.late costs c.args.task true c.in_ok-anywhere.anywhere (c.in_ok-anywhere.ensures c.requires.there);
      behind = told_number c.args.run.now.longest c.args.run.now.late costs c.args.task false c.in_ok-behind.behind (c.in_ok-behind.ensures c.requires.there);
    })
