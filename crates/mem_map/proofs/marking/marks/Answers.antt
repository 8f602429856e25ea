use Rattle.std.proofs.Common.{◌≡◌, ◌++◌, ◌∙◌, rules, subst, sym, List}
use Rattle.std.specs.List.Sorted.{IsPermutation}
use Rattle.std.proofs.lemmas.List.Sorted.{IsNonDecreasingBy-from_sort_by_key}
use Rattle.sloth_base.specs.declared.image.Mark.{Mark}
use Rattle.mem_map.proofs.Marked.{ascending, marks_join}
use Rattle.mem_map.specs.Sections.{HaveOwnAddresses, marks_of}
use Rattle.mem_map.proofs.marking.marks.Goals.{In_ok-append}
use Rattle.mem_map.proofs.marking.marks.Goals as goal

joined : (c : In_ok-append) → c.append.new.self.items ≡ marks_of (c.args.blocks.now ++ c.args.items.now)
joined c =
    c.in_ok-append.ensures.items
    ∙ marks_join c.args.blocks.now c.args.items.now c.in_ok-marks.marks.items c.in_ok-own.own.items c.in_ok-marks.ensures c.in_ok-own.ensures

pub returns-clause-same : goal.returns-clause-same
returns-clause-same c =
    subst (λ (l : List Mark). IsPermutation l c.sort_by_key.new.self.items) (joined (goal.at.returns-clause-same c).In_ok-append)
    c.in_ok-sort_by_key.ensures.permutation

pub returns-clause-ascending : goal.returns-clause-ascending
returns-clause-ascending c =
    ascending _ _ c.in_ok-sort_by_key.ensures.permutation (subst HaveOwnAddresses (sym (joined (goal.at.returns-clause-ascending c).In_ok-append)) c.requires)
    (IsNonDecreasingBy-from_sort_by_key (λ m. m.address) _ c.in_ok-sort_by_key.ensures.sorted (λ a r q k. search rules))
