-- The generated OIL text declares 30 tasks and no counter: its tokens are cut and its objects built by computation.
use Rattle.std.proofs.Common.{◌≡◌, ◌≤◌, ◌∙◌, ℕ, List, [], ◌∷◌, length, filter, take, drop, Some, refl, sym, ap, arith}
use Rattle.std.specs.Prelude.{codes}
use Rattle.std.specs.Fmt.{digits}
use Rattle.std.proofs.lemmas.List.{take-append-drop, length-drop, length-map}
use Rattle.sloth_base.specs.declared.config.Config.{Config}
use Rattle.sloth_base.specs.Limits.{task_limit}
use Rattle.app_gen.specs.Oil.{oil_text, event_object, resource_object, schedule_of, autostart_of, event_attribute, task_object}
use Rattle.app_gen.specs.Pieces.{number_behind}
use Rattle.oil_parse.specs.Bytes.{class_of, is_word_byte, is_digit, is_hex_digit, is_quoted, is_not_lf}
use Rattle.oil_parse.specs.Front.{front_piece, comment_length, comment_piece, text_piece, slash_piece, number_piece, piece_by}
use Rattle.oil_parse.specs.Pieces.{TextPiece, IsCutInto}
use Rattle.oil_parse.specs.Tokens.{Lexeme, AreTokens, tokens_of}
use Rattle.oil_parse.proofs.Fronts.{front_stands}
use Rattle.oil_parse.proofs.Cuts.{tokens_one}
use Rattle.oil_parse.specs.declared.tree.OilObject.{OilObject}
use Rattle.oil_parse.specs.declared.tree.OilTree.{OilTree}
use Rattle.oil_parse.specs.declared.machine.Expect.TheVariants.{Start}
use Rattle.oil_parse.specs.Grammar.{IsFile}
use Rattle.oil_parse.specs.Steps.{next}
use Rattle.oil_parse.specs.Machine.{nothing_built, partial_tree_after, PartialTree}
use Rattle.oil_parse.specs.Shapes.{key_of, sign_of, shape_by}
use Rattle.oil_parse.proofs.Steps.{build}
use Rattle.oil_parse.proofs.Complete.{file_takes}
use Rattle.oil_table.specs.Objects.{is_of_kind}
use Rattle.oil_rules.specs.Clocks.{declared_counter}
use Rattle.oil_rules.specs.Configs.{declared_task, resource_names}
use Rattle.oil_table.specs.Events.{events_of}
use Rattle.sloth_source.specs.OilText.{OilText}

-- the pieces of a text that is no longer than the first list
unfoldable pieces : List ℕ → List ℕ → List TextPiece
pieces fuel [] = []
pieces [] (b ∷ bs) = []
pieces (f ∷ fuel) (b ∷ bs) = let k = front_piece (b ∷ bs) in record { kind = k.0; bytes = take k.1 (b ∷ bs) } ∷ pieces fuel (drop k.1 (b ∷ bs))

-- they are the whole text
pieces-cut : (fuel t : List ℕ) → length t ≤ length fuel → IsCutInto t (pieces fuel t)
unfolding pieces
pieces-cut fuel [] le = refl
pieces-cut [] (b ∷ bs) le = absurd (omega (arith, le))
pieces-cut (f ∷ fuel) (b ∷ bs) le =
    let t : List ℕ = b ∷ bs in
    let k = front_piece t in
    let at = front_stands t (omega arith) in
    let some = at.1 in
    let whole = at.2 in
    let shorter = length-drop k.1 t in
    (drop k.1 t, sym (take-append-drop k.1 t), at.0, pieces-cut fuel (drop k.1 t) (omega (arith, le, some, whole, shorter)))

-- the tokens of a text
abbrev tokens_in : List ℕ → List Lexeme
tokens_in t = tokens_of 1 (pieces t t)

-- the objects of a file
abbrev objects_of : List Lexeme → List OilObject
objects_of ts = (build (Some Start) nothing_built ts).objects

-- a text that has a tree has these objects
same-objects : (t : List ℕ) (ts : List Lexeme) (tree : OilTree) → AreTokens t ts → IsFile ts tree → tree.objects ≡ objects_of (tokens_in t)
same-objects t ts tree are is =
    let own : AreTokens t (tokens_in t) = (pieces t t, pieces-cut t t (omega arith), refl) in
    let taken = file_takes is nothing_built in
    sym taken.3 ∙ ap (λ (b : PartialTree). b.objects) (sym taken.1.builds) ∙ ap objects_of (tokens_one t ts (tokens_in t) are own)

-- 30 of the objects of the generated text are tasks
thirty-objects : length (filter (is_of_kind (codes "TASK")) (objects_of (tokens_in (oil_text task_limit)))) ≡ task_limit
unfolding pieces oil_text event_object resource_object schedule_of autostart_of event_attribute task_object number_behind digits class_of is_word_byte is_digit is_hex_digit is_quoted is_not_lf comment_length comment_piece text_piece slash_piece number_piece piece_by next partial_tree_after key_of sign_of shape_by
thirty-objects = refl

pub thirty-tasks : (config : Config) → OilText (oil_text task_limit) config → length config.tasks ≡ task_limit
thirty-tasks config h =
    let objects : List OilObject = h.tree.objects in
    let tree = h.has_tree in
    let same = same-objects (oil_text task_limit) tree.tokens h.tree tree.are_tokens tree.is_file in
    ap (λ (c : Config). length c.tasks) h.means
    ∙ length-map (filter (is_of_kind (codes "TASK")) objects) (declared_task (resource_names objects) (events_of objects))
    ∙ ap (λ (os : List OilObject). length (filter (is_of_kind (codes "TASK")) os)) same
    ∙ thirty-objects

-- none of them is a counter
no-objects : length (filter (is_of_kind (codes "COUNTER")) (objects_of (tokens_in (oil_text task_limit)))) ≡ 0
unfolding pieces oil_text event_object resource_object schedule_of autostart_of event_attribute task_object number_behind digits class_of is_word_byte is_digit is_hex_digit is_quoted is_not_lf comment_length comment_piece text_piece slash_piece number_piece piece_by next partial_tree_after key_of sign_of shape_by
no-objects = refl

pub no-counters : (config : Config) → OilText (oil_text task_limit) config → length config.counters ≡ 0
no-counters config h =
    let objects : List OilObject = h.tree.objects in
    let tree = h.has_tree in
    let same = same-objects (oil_text task_limit) tree.tokens h.tree tree.are_tokens tree.is_file in
    ap (λ (c : Config). length c.counters) h.means
    ∙ length-map (filter (is_of_kind (codes "COUNTER")) objects) declared_counter
    ∙ ap (λ (os : List OilObject). length (filter (is_of_kind (codes "COUNTER")) os)) same
    ∙ no-objects
