-- Texts of events, part after part.
use Rattle.std.proofs.Common.{◌≡◌, List, [], ◌∷◌, ◌++◌, Bool, true, false, refl, ◌∙◌, ap}
use Rattle.std.specs.Prelude.{◌&&◌, if◌then◌else◌}
use Rattle.std.proofs.lemmas.Grind.{flat_map-append}
use Rattle.sloth_base.specs.declared.service.Stamped.{Stamped}
use Rattle.sloth_base.specs.declared.image.Image.{Image}
use Rattle.trace_text.specs.Lines.{line_of}
use Rattle.trace_text.specs.Texts.{ends_idle, is_idle, lines_of, merged_events, printed_events, text_after}
use Rattle.trace_text.specs.declared.events.Form.{Form}
use Rattle.trace_text.specs.declared.events.Form.TheVariants as form

pub lines_of-append : (image : Image) (form : Form) (events more : List Stamped)
    → lines_of image form (events ++ more) ≡ lines_of image form events ++ lines_of image form more
lines_of-append image form events more = flat_map-append (λ e. line_of image form e ++ 10 ∷ []) events more

-- one event more in front, which is an idle or not
merged-cons : (after_idle idle : Bool) (e : Stamped) (rest more : List Stamped)
    → ((b : Bool) → merged_events b (rest ++ more) ≡ merged_events b rest ++ merged_events (ends_idle b rest) more)
    → (if after_idle && idle then merged_events true (rest ++ more) else e ∷ merged_events idle (rest ++ more))
    ≡ (if after_idle && idle then merged_events true rest else e ∷ merged_events idle rest) ++ merged_events (ends_idle idle rest) more
merged-cons true true e rest more of_rest = of_rest true
merged-cons true false e rest more of_rest = ap (λ x. e ∷ x) (of_rest false)
merged-cons false idle e rest more of_rest = ap (λ x. e ∷ x) (of_rest idle)

pub merged-append : (after_idle : Bool) (events more : List Stamped)
    → merged_events after_idle (events ++ more) ≡ merged_events after_idle events ++ merged_events (ends_idle after_idle events) more
merged-append after_idle [] more = refl
merged-append after_idle (e ∷ rest) more =
    merged-cons after_idle (is_idle e.event) e rest more (λ b. merged-append b rest more)

pub printed-append : (form : Form) (after_idle : Bool) (events more : List Stamped)
    → printed_events form after_idle (events ++ more) ≡ printed_events form after_idle events ++ printed_events form (ends_idle after_idle events) more
printed-append form.Counted after_idle events more = refl
printed-append form.Bare after_idle events more = merged-append after_idle events more

pub text_after-append : (image : Image) (form : Form) (after_idle : Bool) (events more : List Stamped)
    → text_after image form after_idle (events ++ more)
    ≡ text_after image form after_idle events ++ text_after image form (ends_idle after_idle events) more
text_after-append image form after_idle events more =
    ap (lines_of image form) (printed-append form after_idle events more)
    ∙ lines_of-append image form (printed_events form after_idle events) (printed_events form (ends_idle after_idle events) more)
