-- Events and their masks (OIL 2.5, section 3.2.6).
use Rattle.std.specs.Prelude.{ℕ, Bool, if◌then◌else◌, not, ◌||◌, ◌&&◌, ◌==◌, bit_and, bit_or, List, [], ◌∷◌, fold, find, codes, Option, Some, None, is_none, unwrap_or}
use Rattle.std.specs.Str.{bytes_eq}
use Rattle.sloth_base.specs.declared.config.EventDecl.{EventDecl}
use Rattle.sloth_base.specs.declared.refusal.Code.TheVariants.{O15}
use Rattle.sloth_base.specs.declared.refusal.Refusal.{Refusal}
use Rattle.oil_parse.specs.declared.tree.OilObject.{OilObject}
use Rattle.oil_table.specs.Cases.{OilCase}
use Rattle.oil_table.specs.Objects.{is_of_kind, is_used, first_is, first_number}

-- the bits of a mask, the lowest first
abbrev pub bits : List ℕ
bits =
    0x1 ∷ 0x2 ∷ 0x4 ∷ 0x8 ∷ 0x10 ∷ 0x20 ∷ 0x40 ∷ 0x80 ∷ 0x100 ∷ 0x200 ∷ 0x400 ∷ 0x800 ∷ 0x1000 ∷ 0x2000 ∷ 0x4000 ∷ 0x8000
    ∷ 0x1_0000 ∷ 0x2_0000 ∷ 0x4_0000 ∷ 0x8_0000 ∷ 0x10_0000 ∷ 0x20_0000 ∷ 0x40_0000 ∷ 0x80_0000
    ∷ 0x100_0000 ∷ 0x200_0000 ∷ 0x400_0000 ∷ 0x800_0000 ∷ 0x1000_0000 ∷ 0x2000_0000 ∷ 0x4000_0000 ∷ 0x8000_0000 ∷ []

-- an object is an EVENT
abbrev pub is_event : OilObject → Bool
is_event object = is_of_kind (codes "EVENT") object

-- the first MASK is AUTO, or there is none
abbrev pub is_auto : OilObject → Bool
is_auto event = not (is_used event.attrs (codes "MASK")) || first_is event.attrs (codes "MASK") (codes "AUTO")

-- the number of the first MASK; a mask that is no number has no bits
abbrev pub number_mask : OilObject → ℕ
number_mask event = unwrap_or (first_number event.attrs (codes "MASK")) 0

-- the mask that an EVENT object gives as a number, or 0
abbrev pub number_bits : OilObject → ℕ
number_bits object = if is_event object then number_mask object else 0

-- the bits that are in a number mask
abbrev pub number_masks : List OilObject → ℕ
number_masks objects = fold (λ taken object. bit_or taken (number_bits object)) 0 objects

-- the lowest bit that is not taken
unfoldable pub free_bit : ℕ → Option ℕ
free_bit taken = find (λ bit. bit_and taken bit == 0) bits

-- the mask of an event, where these bits are in a number mask or were given to an earlier AUTO event
abbrev pub mask_by : ℕ → OilObject → ℕ
mask_by taken event = if is_auto event then unwrap_or (free_bit taken) 0 else number_mask event

-- the bits that are taken, with those of one more object
abbrev pub taken_more : ℕ → OilObject → ℕ
taken_more taken object = if is_event object then bit_or taken (mask_by taken object) else taken

-- the bits that are taken for an event behind these objects
abbrev pub taken_bits_before : List OilObject → List OilObject → ℕ
taken_bits_before objects front = fold taken_more (number_masks objects) front

-- an EVENT object is to get a bit, and none is free
abbrev pub lacks_bit : ℕ → OilObject → Bool
lacks_bit taken object = is_event object && (is_auto object && is_none (free_bit taken))

-- O15: an AUTO event finds no free bit
abbrev pub BitFault : List OilObject → List OilObject → OilObject → Refusal → Type 0
BitFault objects front object r = OilCase (lacks_bit (taken_bits_before objects front) object) object.line O15 r

-- the declarations of the events among these objects, where these bits are taken
abbrev pub event_decls : ℕ → List OilObject → List EventDecl
event_decls taken [] = []
event_decls taken (object ∷ objects) =
    let mask = mask_by taken object in
    if is_event object then record { name = object.name; mask = mask } ∷ event_decls (bit_or taken mask) objects else event_decls taken objects

-- the events of the configuration
abbrev pub events_of : List OilObject → List EventDecl
events_of objects = event_decls (number_masks objects) objects

-- the mask of an event, or 0 where there is none
abbrev pub mask_given : Option EventDecl → ℕ
mask_given None = 0
mask_given (Some event) = event.mask

-- the mask of the first event of this name, 0 where there is none
abbrev pub mask_named : List EventDecl → List ℕ → ℕ
mask_named events name = mask_given (find (λ event. bytes_eq event.name name) events)
