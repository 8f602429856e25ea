-- The faults of a configuration are of its part.
use Rattle.std.proofs.Common.{◌≡◌, ◌+◌, ℕ, List, [], ◌∷◌, inl, inr, ap, Bool}
use Rattle.sloth_base.specs.declared.config.EventDecl.{EventDecl}
use Rattle.sloth_base.specs.declared.refusal.Refusal.{Refusal}
use Rattle.sloth_base.specs.declared.refusal.Part.TheVariants.{Oil}
use Rattle.sloth_base.specs.declared.refusal.Code.{Code}
use Rattle.oil_parse.specs.Pieces.{TextPiece}
use Rattle.oil_parse.specs.declared.lexer.Meaning.{Meaning}
use Rattle.oil_parse.specs.declared.lexer.Meaning.TheVariants as mean
use Rattle.oil_parse.specs.Tokens.{Lexeme, FaultBy, FaultOf, TextFault, meaning, line_ends}
use Rattle.oil_parse.specs.declared.tree.OilTree.{OilTree}
use Rattle.oil_parse.specs.declared.tree.OilObject.{OilObject}
use Rattle.oil_parse.specs.declared.tree.OilAttr.{OilAttr}
use Rattle.oil_parse.specs.Faults.{GrammarFault}
use Rattle.oil_parse.specs.Text.{HasGrammarFault}
use Rattle.oil_table.specs.Cases.{OilCase}
use Rattle.oil_table.specs.Objects.{has_scheduler}
use Rattle.oil_table.specs.Events.{events_of, BitFault}
use Rattle.oil_rules.specs.ObjectFaults.{KnownFault}
use Rattle.oil_rules.specs.AttributeFaults.{AttributeFault}
use Rattle.oil_rules.specs.TaskFaults.{TaskFault}
use Rattle.oil_rules.specs.TreeFaults.{KnownObjectFault, ObjectFault, TreeFault}
use Rattle.oil_table.specs.declared.table.Place.{Place}
use Rattle.oil_table.specs.declared.table.Place.TheVariants.{Alarm}
use Rattle.oil_table.specs.Table.{place_of, block_place}
use Rattle.oil_table.specs.declared.counter_limits.Limits.{Limits}
use Rattle.oil_table.specs.AlarmCounters.{limits_of}
use Rattle.oil_rules.specs.Blocks.{BlockText, blocks_of}
use Rattle.oil_rules.specs.AlarmFaults.{InsideFault, BlockFault, PartFault, AlarmFault}
use Rattle.oil_rules.specs.ModelFaults.{ModelFault}
use Rattle.sloth_source.proofs.Least.{of_some}

by_meaning : (m : Meaning) (n : ℕ) (r : Refusal) → FaultBy m n r → r.part ≡ Oil
by_meaning (mean.IsFault c) n r h = ap (λ x. x.part) h
by_meaning (mean.IsToken k) n r h = absurd h
by_meaning mean.Nothing n r h = absurd h

of_pieces : (n : ℕ) (ps : List TextPiece) (r : Refusal) → FaultOf n ps r → r.part ≡ Oil
of_pieces n [] r h = absurd h
of_pieces n (p ∷ ps) r (inl h) = by_meaning (meaning p.kind p.bytes) n r h
of_pieces n (p ∷ ps) r (inr h) = of_pieces (n + line_ends p.bytes) ps r h

pub of_text : (text : List ℕ) (r : Refusal) → TextFault text r → r.part ≡ Oil
of_text text r h = of_pieces 1 h.0 r h.2

of_tokens : (ts : List Lexeme) (r : Refusal) → GrammarFault ts r → r.part ≡ Oil
of_tokens ts r (inl h) = ap (λ x. x.part) h.is
of_tokens ts r (inr (inl h)) = ap (λ x. x.part) h.is
of_tokens ts r (inr (inr h)) = ap (λ x. x.part) h.is

pub of_grammar : (text : List ℕ) (r : Refusal) → HasGrammarFault text r → r.part ≡ Oil
of_grammar text r h = of_tokens h.tokens r h.fault

of_case : (b : Bool) (line : ℕ) (c : Code) (r : Refusal) → OilCase b line c r → r.part ≡ Oil
of_case b line c r h = ap (λ x. x.part) h.1

of_known : (scheduler : Bool) (front : List OilObject) (object : OilObject) (r : Refusal) → KnownFault scheduler front object r → r.part ≡ Oil
of_known scheduler front object r (inl h) = of_case _ _ _ r h
of_known scheduler front object r (inr (inl h)) = of_case _ _ _ r h
of_known scheduler front object r (inr (inr (inl h))) = of_case _ _ _ r h
of_known scheduler front object r (inr (inr (inr h))) = of_case _ _ _ r h

of_attribute : (objects : List OilObject) (scheduler : Bool) (kind : List ℕ) (before : List OilAttr) (attr : OilAttr) (r : Refusal)
    → AttributeFault objects scheduler (place_of kind) before attr r → r.part ≡ Oil
of_attribute objects scheduler kind before attr r (inl h) = of_case _ _ _ r h
of_attribute objects scheduler kind before attr r (inr (inl h)) = of_case _ _ _ r h
of_attribute objects scheduler kind before attr r (inr (inr (inl h))) = of_case _ _ _ r h
of_attribute objects scheduler kind before attr r (inr (inr (inr h))) = of_case _ _ _ r h

of_task : (events : List EventDecl) (front : List OilObject) (before : List OilAttr) (attr : OilAttr) (r : Refusal) → TaskFault events front before attr r → r.part ≡ Oil
of_task events front before attr r (inl h) = of_case _ _ _ r h
of_task events front before attr r (inr h) = of_case _ _ _ r h

of_inner : (objects : List OilObject) (scheduler : Bool) (events : List EventDecl) (front : List OilObject) (object : OilObject) (r : Refusal)
    → KnownObjectFault objects scheduler events front object r → r.part ≡ Oil
of_inner objects scheduler events front object r (inl h) = of_known scheduler front object r h
of_inner objects scheduler events front object r (inr (inl h)) =
    of_some Oil (AttributeFault objects scheduler (place_of object.kind)) (of_attribute objects scheduler object.kind) [] object.attrs r h
of_inner objects scheduler events front object r (inr (inr h)) = of_some Oil (TaskFault events front) (of_task events front) [] object.attrs r h.1

of_object : (objects : List OilObject) (scheduler : Bool) (events : List EventDecl) (front : List OilObject) (object : OilObject) (r : Refusal)
    → ObjectFault objects scheduler events front object r → r.part ≡ Oil
of_object objects scheduler events front object r (inl h) = of_case _ _ _ r h
of_object objects scheduler events front object r (inr h) = of_inner objects scheduler events front object r h.1

of_rules : (tree : OilTree) (r : Refusal) → TreeFault tree r → r.part ≡ Oil
of_rules tree r (inl h) =
    of_some Oil (ObjectFault tree.objects (has_scheduler tree.objects) (events_of tree.objects))
    (of_object tree.objects (has_scheduler tree.objects) (events_of tree.objects)) [] tree.objects r h
of_rules tree r (inr (inl h)) = of_some Oil (BitFault tree.objects) (λ front object s g. of_case _ _ _ s g) [] tree.objects r h
of_rules tree r (inr (inr h)) = of_case _ _ _ r h

of_inside : (objects : List OilObject) (limits : Limits) (place : Place) (inner before : List OilAttr) (attr : OilAttr) (r : Refusal)
    → InsideFault objects limits place inner before attr r → r.part ≡ Oil
of_inside objects limits place inner before attr r (inl h) = of_case _ _ _ r h
of_inside objects limits place inner before attr r (inr (inl h)) = of_case _ _ _ r h
of_inside objects limits place inner before attr r (inr (inr h)) = of_case _ _ _ r h

of_block : (objects : List OilObject) (limits : Limits) (front : List BlockText) (block : BlockText) (r : Refusal) → BlockFault objects limits front block r → r.part ≡ Oil
of_block objects limits front block r h =
    let place = block_place Alarm block.head in
    of_some Oil (InsideFault objects limits place block.inner) (of_inside objects limits place block.inner) [] block.inner r h

of_part : (objects : List OilObject) (alarm : OilObject) (r : Refusal) → PartFault objects alarm r → r.part ≡ Oil
of_part objects alarm r (inl h) = of_case _ _ _ r h
of_part objects alarm r (inr h) =
    let limits = limits_of objects alarm.attrs in
    of_some Oil (BlockFault objects limits) (of_block objects limits) [] (blocks_of alarm.attrs) r h

pub of_tree : (tree : OilTree) (r : Refusal) → ModelFault tree r → r.part ≡ Oil
of_tree tree r (inl h) = of_rules tree r h
of_tree tree r (inr h) = of_some Oil (AlarmFault tree.objects) (λ front object s g. of_part tree.objects object s g.1) [] tree.objects r h
