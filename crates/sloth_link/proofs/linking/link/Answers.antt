use Rattle.sloth_link.proofs.InPlace.{in_place}
use Rattle.sloth_link.proofs.linking.link.Goals as goal

pub returns : goal.returns
returns c =
    let memory = c.in_ok-linked.linked.memory in
    let marks = c.in_ok-linked.linked.marks in
    let names = c.in_ok-names.names in
    let are = c.in_ok-names.ensures in
    let h = c.in_ok-linked.ensures in
    record {
      items = in_place c.args.config.now c.args.app.now c.args.map.now c.args.blocks.now c.requires
          (record { tasks = names.tasks; funcs = names.funcs; counters = names.counters; memory = memory; marks = marks })
          h.stand are.tasks are.funcs;
      stand = h.stand;
      range = h.range;
      code = h.code;
      data_stands = h.data_stands;
      linked = h.linked;
      bytes = h.bytes;
      marks = h.moved;
      ascending = h.ascending;
      tasks = are.tasks;
      functions = are.funcs;
      counters = are.counters;
    }
