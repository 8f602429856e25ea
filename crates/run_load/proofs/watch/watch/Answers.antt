use Rattle.std.proofs.Common.{◌≡◌, ◌∙◌, ◌<◌, ◌++◌, length, refl, sym, ap, subst}
use Rattle.sloth_base.specs.declared.config.Config.{Config}
use Rattle.sloth_base.specs.declared.app.App.{App}
use Rattle.osek_machine.specs.Steps.{Machine}
use Rattle.run_counts.specs.Stages.{state_behind, stage, stages}
use Rattle.run_load.specs.Watched.{no_moments, watched_stages}
use Rattle.run_load.proofs.Watching.{own-is, made-is, quiet-is, seen-is, watched-more}
use Rattle.run_load.proofs.watch.watch.Goals as goal

pub loop-event-init : goal.loop-event-init
loop-event-init c =
    let config = c.args.config.now in
    let app = c.args.app.now in
    record {
      seen = ap (λ l. l ++ watched_stages config c.args.task no_moments (stages config app 0 c.in_ok-osek.osek.system c.args.events.now)) c.new-watched.ensures.items
          ∙ ap (λ (m : Machine). watched_stages config c.args.task no_moments (stages config app 0 m.system c.args.events.now)) c.in_ok-osek.ensures;
      config = ap (λ (m : Machine). m.config) c.in_ok-osek.ensures;
      app = ap (λ (m : Machine). m.app) c.in_ok-osek.ensures;
    }

pub found-before-requires : goal.found-before-requires
found-before-requires c = subst (λ (x : Config). c.args.task < length x.tasks) (sym c.loop-event.invariant.config) c.requires.declared

pub is_made-requires : goal.is_made-requires
is_made-requires c = subst (λ (x : Config). c.args.task < length x.tasks) (sym (c.follow.ensures.config ∙ c.loop-event.invariant.config)) c.requires.declared

pub loop-event-preserved : goal.loop-event-preserved
loop-event-preserved c =
    let config = c.args.config.now in
    let app = c.args.app.now in
    let t = c.args.task in
    let m : Machine = c.loop-event.osek in
    let e = c.in-Some.event.now in
    let start = c.loop-event.start in
    let same : m.config ≡ config = c.loop-event.invariant.config in
    let leads : c.follow.new.osek.system ≡ state_behind config app e.event m.system =
    c.follow.ensures.system ∙ (ap (λ (x : Config). state_behind x m.app e.event m.system) same ∙ ap (λ (x : App). state_behind config x e.event m.system) c.loop-event.invariant.app) in
    let own = own-is config m.config app t start m.system e c.own_counts.result c.found-before.result.running c.is_turn-turn.result c.own_counts.ensures c.found-before.ensures.running same
    c.is_turn-turn.ensures in
    let made = made-is config config app t start m.system c.follow.new.osek.system e c.is_made.result c.found-before.result.ready c.is_made.ensures c.found-before.ensures.ready leads refl in
    let quiet = quiet-is config m.config t m.system c.found-before.result.quiet c.found-before.ensures.quiet same in
    record {
      seen = watched-more config app t start c.end_count-start.result c.loop-event.moments c.note.new.moments m.system c.follow.new.osek.system e c.loop-event.rest.now c.in-Some.behind.now _
          c.loop-event.watched.items c.push.new.list.items _ c.in-Some.ensures.cases.0
          (seen-is config t c.loop-event.moments (stage config app start m.system e) c.own_counts.result c.is_made.result c.found-before.result.quiet c.edge.result own made quiet c.edge.ensures)
          c.end_count-start.ensures leads c.note.ensures c.loop-event.invariant.seen c.in_ok-push.ensures;
      config = c.follow.ensures.config ∙ same;
      app = c.follow.ensures.app ∙ c.loop-event.invariant.app;
    }
