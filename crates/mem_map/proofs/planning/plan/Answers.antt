use Rattle.std.proofs.Common.{List, ℕ, sym, subst}
use Rattle.mem_map.specs.Plan.{MayPlan}
use Rattle.mem_map.proofs.Covering.{agree, covers}
use Rattle.mem_map.proofs.Planned.{code_near, placed, reach, code_follows, code_close, data_follows, data_close}
use Rattle.mem_map.proofs.SmallLengths.{small}
use Rattle.mem_map.proofs.planning.plan.Goals.{In_ok-offsets}
use Rattle.mem_map.proofs.planning.plan.Goals as goal

-- there is a map for the lengths and the parts of the stack that were computed
may_plan : (c : In_ok-offsets) → MayPlan c.args.config.now c.args.app.now c.in_ok-lengths.lengths c.args.bounds.now c.in_ok-offsets.offsets.items
may_plan c = record {
  in_range = c.requires.well_formed.in_range;
  code = small c.args.config.now c.args.app.now c.in_ok-lengths.lengths c.requires.well_formed c.in_ok-lengths.ensures;
  needs = record { are_bounds = c.requires.bounds; parts = c.in_ok-offsets.ensures };
}

pub make_map-requires : goal.make_map-requires
make_map-requires c =
    subst (λ (offsets : List ℕ). MayPlan c.args.config.now c.args.app.now c.in_ok-lengths.lengths c.args.bounds.now offsets) (sym c.deref.ensures.value)
    (may_plan (goal.at.make_map-requires c).In_ok-offsets)

pub returns : goal.returns
returns c =
    let config = c.args.config.now in
    let app = c.args.app.now in
    let bounds = c.args.bounds.now in
    let lengths = c.in_ok-lengths.lengths in
    let offsets = c.in_ok-offsets.offsets.items in
    let map = c.in_ok-map.map in
    let may = may_plan (goal.at.returns c).In_ok-offsets in
    let at = c.in_ok-map.ensures.addresses in
    let are = placed config app lengths bounds offsets may map at in
    record {
      lengths = lengths;
      are_lengths = c.in_ok-lengths.ensures;
      zones = c.in_ok-map.ensures.zones;
      stacks = c.in_ok-map.ensures.stacks;
      addresses = at;
      reach = reach config app lengths bounds offsets may map at;
      near = code_near config app lengths bounds offsets may;
      code_follows = code_follows config app lengths bounds offsets may map at;
      code_close = code_close config app lengths bounds offsets may map at;
      data_follows = data_follows config app lengths bounds offsets may map at;
      data_close = data_close config app lengths bounds offsets may map at;
      agree = agree config _ lengths.items lengths.services _ _ _ _ c.requires.well_formed.in_range c.in_ok-lengths.ensures.items are;
      covers = covers config _ lengths.items lengths.services _ _ _ _ c.requires.well_formed.in_range c.in_ok-lengths.ensures.items are;
    }
