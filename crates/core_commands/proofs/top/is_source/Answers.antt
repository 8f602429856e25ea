use Rattle.std.proofs.Common.{◌∙◌, inl, inr, refl, subst, sym, false}
use Rattle.std.specs.Prelude.{IsTrue}
use Rattle.sloth_io.specs.Store.{Files}
use Rattle.core_commands.specs.CommandFiles.{IsFileAmong, IsOnlyAsked, arrivals_named}
use Rattle.command_line.specs.Words.{run_of}
use Rattle.core_commands.proofs.OwnOutput.{only-asked, said-not, said-so}
use Rattle.core_commands.proofs.top.is_source.Goals as goal

pub returns-then-is_same-clause-yes : goal.returns-then-is_same-clause-yes
returns-then-is_same-clause-yes g c _ =
    let old = g.F.Store.seen c.args.files.now in
    inl (said-so c.is_same.result old old (g.F.Store.seen c.is_same.new.self) _ _ refl c.if-is_same.true (c.is_same.ensures.yes c.if-is_same.true) c.is_same.ensures.said)

pub returns-then-is_same-clause-only : goal.returns-then-is_same-clause-only
returns-then-is_same-clause-only g c =
    let old = g.F.Store.seen c.args.files.now in
    only-asked c.is_same.result old old (g.F.Store.seen c.is_same.new.self) _ _ refl c.is_same.ensures.said

pub returns-then-is_same-2-clause-yes : goal.returns-then-is_same-2-clause-yes
returns-then-is_same-2-clause-yes g c _ =
    let old = g.F.Store.seen c.args.files.now in
    let mid = g.F.Store.seen c.is_same.new.self in
    let kept = said-not c.is_same.result old old mid _ _ refl c.if-is_same.false c.is_same.ensures.said in
    inr (inl (said-so c.is_same-2.result old mid (g.F.Store.seen c.is_same-2.new.self) _ _ kept c.if-is_same-2.true (c.is_same-2.ensures.yes c.if-is_same-2.true) c.is_same-2.ensures.said))

pub returns-then-is_same-2-clause-only : goal.returns-then-is_same-2-clause-only
returns-then-is_same-2-clause-only g c =
    let old = g.F.Store.seen c.args.files.now in
    let mid = g.F.Store.seen c.is_same.new.self in
    let kept = said-not c.is_same.result old old mid _ _ refl c.if-is_same.false c.is_same.ensures.said in
    only-asked c.is_same-2.result old mid (g.F.Store.seen c.is_same-2.new.self) _ _ kept c.is_same-2.ensures.said

pub returns-clause-yes : goal.returns-clause-yes
returns-clause-yes g c found =
    let old = g.F.Store.seen c.args.files.now in
    let mid = g.F.Store.seen c.is_same.new.self in
    let next = g.F.Store.seen c.is_same-2.new.self in
    let first = said-not c.is_same.result old old mid _ _ refl c.if-is_same.false c.is_same.ensures.said in
    let kept = said-not c.is_same-2.result old mid next _ _ first c.if-is_same-2.false c.is_same-2.ensures.said in
    inr (inr (subst (λ (files : Files). IsFileAmong files (g.F.Store.seen c.is_arrivals.new.files) c.args.c.now.img.now (arrivals_named (run_of c.args.c.now.run))) kept
    (c.is_arrivals.ensures.yes found)))

pub returns-clause-no : goal.returns-clause-no
returns-clause-no g c none tells =
    let old = g.F.Store.seen c.args.files.now in
    let mid = g.F.Store.seen c.is_same.new.self in
    let next = g.F.Store.seen c.is_same-2.new.self in
    let first = said-not c.is_same.result old old mid _ _ refl c.if-is_same.false c.is_same.ensures.said in
    let kept = said-not c.is_same-2.result old mid next _ _ first c.if-is_same-2.false c.is_same-2.ensures.said in (
      λ e. let yes = c.is_same.ensures.no tells e in let no = c.if-is_same.false in cc,
      (
        λ e. let yes = c.is_same-2.ensures.no (subst (λ (files : Files). IsTrue files.tells) (sym first) tells) e in let no = c.if-is_same-2.false in cc,
        c.is_arrivals.ensures.no none (subst (λ (files : Files). IsTrue files.tells) (sym kept) tells),
      ),
    )

pub returns-clause-kept : goal.returns-clause-kept
returns-clause-kept g c none =
    let old = g.F.Store.seen c.args.files.now in
    let mid = g.F.Store.seen c.is_same.new.self in
    let next = g.F.Store.seen c.is_same-2.new.self in
    let first = said-not c.is_same.result old old mid _ _ refl c.if-is_same.false c.is_same.ensures.said in
    c.is_arrivals.ensures.kept none ∙ said-not c.is_same-2.result old mid next _ _ first c.if-is_same-2.false c.is_same-2.ensures.said

pub returns-clause-only : goal.returns-clause-only
returns-clause-only g c =
    let old = g.F.Store.seen c.args.files.now in
    let mid = g.F.Store.seen c.is_same.new.self in
    let next = g.F.Store.seen c.is_same-2.new.self in
    let first = said-not c.is_same.result old old mid _ _ refl c.if-is_same.false c.is_same.ensures.said in
    let kept = said-not c.is_same-2.result old mid next _ _ first c.if-is_same-2.false c.is_same-2.ensures.said in
    subst (λ (files : Files). IsOnlyAsked files (g.F.Store.seen c.is_arrivals.new.files)) kept c.is_arrivals.ensures.only
