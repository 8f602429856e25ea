use Rattle.std.proofs.Common.{◌≡◌, ℕ, ◌<◌, Bool, false, List, length, get_or, sym, subst}
use Rattle.walk_sums.specs.Graph.{ways_of}
use Rattle.walk_sums.specs.Links.{item_ways}
use Rattle.walk_sums.specs.Computed.{is_alive}
use Rattle.walk_sums.specs.Known.{CallerCode}
use Rattle.walk_sums.specs.Lists.{AreBodyWays}
use Rattle.walk_sums.proofs.levels.Caller.ways.Goals as goal

pub returns : goal.returns
returns c =
    let func = c.self.inside.func.now in
    let alive = c.args.alive.now in
    let going = c.in_ok-going.going.items in
    let passed = c.in_ok-passed.passed.items in
    let ways = c.in_ok-ways.ways.items in
    subst (λ (v : CallerCode). AreBodyWays v.kind v.known.func v.known.body v.known.level v.known.whole alive ways) c.self.view_is (record {
      going = going;
      passed = passed;
      alive_count = subst (λ (v : CallerCode). length alive ≡ length v.known.func.items) (sym c.self.view_is) c.requires.count;
      alive_is = subst (λ (v : CallerCode). (k : ℕ) → k < length v.known.func.items → get_or alive k false ≡ is_alive v.known.body v.known.level k) (sym c.self.view_is) c.requires.alive;
      going_is = c.in_ok-going.ensures.exact;
      passed_is = c.in_ok-passed.ensures;
      ways_count = c.in_ok-ways.ensures.count;
      ways_are = subst (λ (l : List Bool). (k : ℕ) → k < length func.items → ways_of ways k ≡ item_ways func l going alive k) c.deref.ensures.value
          (subst (λ (l : List Bool). (k : ℕ) → k < length func.items → ways_of ways k ≡ item_ways func c.deref.result.now l alive k) c.deref-2.ensures.value
          c.in_ok-ways.ensures.exact);
    })
