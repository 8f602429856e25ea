-- Ways through a body by its items alone, whatever lists its labels have, and what they hold.
use Rattle.std.specs.Prelude.{ℕ, ◌+◌, ◌<◌, ◌≡◌, ◌≢◌, true, List, [], length, take, get_or}
use Rattle.std.specs.List.{fold}
use Rattle.sloth_base.specs.declared.app.Func.{Func}
use Rattle.sloth_base.specs.Named.{item_of, label_of}
use Rattle.code_rules.specs.Code.{IsPathStep, held_after}
use Rattle.fault_witnesses.specs.CleanWays.{is_orderly}
use Rattle.holds_infer.specs.declared.other_ways.HoldingWay.{HoldingWay}
use Rattle.holds_infer.specs.declared.other_ways.OtherWays.{OtherWays}

-- item n of a way, and behind its last one the goal
abbrev pub way_place : List ℕ → (goal n : ℕ) → ℕ
way_place way goal n = get_or way n goal

-- what is held behind these items, which begin with nothing held
abbrev pub held_on_way : Func → List ℕ → List ℕ
held_on_way f way = fold (λ held i. held_after (item_of f i).op held) [] way

-- Item n of a way goes on or jumps to the next one, the last one to the goal. Of what the items before it hold it takes nothing, and it releases the last one taken, if any.
pub record IsWayStep (f : Func) (goal : ℕ) (way : List ℕ) (n : ℕ) : Type 0 where
  pub inside : way_place way goal n < length f.items
  pub orderly : is_orderly (held_on_way f (take n way)) (item_of f (way_place way goal n)).op ≡ true
  pub goes : IsPathStep f (way_place way goal n) (way_place way goal (n + 1))

-- The way begins with the first item, and leads to the goal. One of no items is where the body begins.
pub record IsWayTo (f : Func) (goal : ℕ) (way : List ℕ) : Type 0 where
  pub starts : way_place way goal 0 ≡ 0
  pub steps : (n : ℕ) → n < length way → IsWayStep f goal way n

-- the way leads to the goal, where these are held
pub record HoldsOnWay (f : Func) (goal : ℕ) (way held : List ℕ) : Type 0 where
  pub leads : IsWayTo f goal way
  pub is : held ≡ held_on_way f way

-- the same of a way that is kept with what it holds
abbrev pub IsHoldingWay : Func → (goal : ℕ) → HoldingWay → Type 0
IsHoldingWay f goal way = HoldsOnWay f goal way.items way.held

-- two ways to a label that hold different resources
pub record AreOtherWays (f : Func) (ways : OtherWays) : Type 0 where
  pub known : ways.label < length f.labels
  pub one : IsHoldingWay f (label_of f ways.label).item ways.one
  pub other : IsHoldingWay f (label_of f ways.label).item ways.other
  pub differ : ways.one.held ≢ ways.other.held
