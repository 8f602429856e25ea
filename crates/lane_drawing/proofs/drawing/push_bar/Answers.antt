use Rattle.std.proofs.Common.{◌≡◌, ◌∙◌, ◌++◌, List, ℕ, ap, append_assoc, rules}
use Rattle.std.specs.Prelude.{codes}
use Rattle.lane_drawing.specs.Drawing.{bar_front, bar_line}
use Rattle.lane_drawing.proofs.drawing.push_bar.Goals as goal

pub returns : goal.returns
unfolding bar_line bar_front
returns c =
    let text : List ℕ = c.args.text.now.items in
    let front : List ℕ = bar_front c.args.scale c.args.name.now c.args.middle c.args.bar in
    let made : c.push_number-4.new.self ≡ front = search rules in
    let words : List ℕ = c.args.words.now in
    let end : List ℕ = codes "</title></rect>\n" in
    c.in_ok-extend_from_slice-3.ensures.items
    ∙ ap (λ t. t ++ end)
    (c.in_ok-extend_from_slice-2.ensures.items
    ∙ ap (λ t. t ++ words) (c.in_ok-extend_from_slice.ensures.items ∙ ap (λ l. text ++ l) (c.bytes.ensures ∙ made)) ∙ append_assoc text front words)
    ∙ append_assoc text (front ++ words) end
