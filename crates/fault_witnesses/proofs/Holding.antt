-- What a clean way holds.
use Rattle.std.proofs.Common.{◌≡◌, ◌∙◌, ℕ, suc, ◌-◌, ◌<◌, List, [], ◌∷◌, length, Some, None, sym, ap, subst, add-one, arith}
use Rattle.sloth_base.specs.declared.app.Func.{Func}
use Rattle.sloth_base.specs.Named.{item_of, label_of}
use Rattle.code_rules.specs.Code.{held_after, held_list_at}
use Rattle.fault_witnesses.specs.CleanWays.{IsCleanStep, IsCleanWay, held_along, way_item}
use Rattle.fault_witnesses.specs.WayLaws.{WayHolds}
use Rattle.fault_witnesses.proofs.Straight.{held_at_last}

along : (f : Func) (way : List ℕ) (first goal : ℕ) (held : List ℕ) → held ≡ held_list_at f first
    → ((n : ℕ) → n < length way → IsCleanStep f (way_item (first ∷ way) n) (way_item (first ∷ way) (suc n))) → way_item (first ∷ way) (length way) ≡ goal
    → held_along f held first way ≡ held_list_at f goal
along f [] first goal held h steps e = h ∙ ap (held_list_at f) e
along f (k ∷ ks) first goal held h steps e =
    let o = (item_of f first).op in
    along f ks k goal (held_after o held) (ap (held_after o) h ∙ sym (steps 0 (omega arith)).held) (λ n l. steps (suc n) (omega (arith, l))) e

along_way : (f : Func) (first goal begin : ℕ) (way held : List ℕ) → IsCleanWay f begin goal (first ∷ way) → held ≡ held_list_at f begin
    → held_along f held first way ≡ held_list_at f goal
along_way f first goal begin way held w h =
    along f way first goal held (h ∙ ap (held_list_at f) (sym w.starts))
    (λ n l. subst (λ m. IsCleanStep f (way_item (first ∷ way) n) (way_item (first ∷ way) m)) (add-one n) (w.steps n (omega (arith, l))))
    (let e : length (first ∷ way) - 1 ≡ length way = omega arith in subst (λ m. way_item (first ∷ way) m ≡ goal) e w.ends)

pub way_holds : WayHolds
way_holds f None goal first way w = along_way f first goal 0 way [] w.steps (sym w.nothing)
way_holds f (Some k) goal first way w = along_way f first goal (label_of f k).item way (label_of f k).holds w.steps (sym (held_at_last f k w.last))
