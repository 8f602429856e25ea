-- Words of memory, and the words of marks.
use Rattle.std.specs.Prelude.{ℕ, List, ◌++◌, codes, decimal, Option, Some, None}
use Rattle.std.specs.Int.{to_be_bytes, w32}
use Rattle.hex.specs.Hex.{encode_lower}
use Rattle.sloth_base.specs.ServiceCodes.{service_of, service_name}
use Rattle.sloth_base.specs.declared.image.Mark.{Mark}
use Rattle.sloth_base.specs.declared.image.MarkKind.{MarkKind}
use Rattle.sloth_base.specs.declared.image.MarkKind.TheVariants as kind
use Rattle.sloth_base.specs.declared.service.Service.{Service}
use Rattle.trace_text.specs.EventWords.{name_of}

-- a number of 32 bits in eight hexadecimal digits, the high ones first
unfoldable pub word_text : ℕ → List ℕ
word_text number = encode_lower (to_be_bytes w32 number)

-- the name of a service, or `-` of a number that is none's
abbrev pub called_text : Option Service → List ℕ
called_text None = codes "-"
called_text (Some service) = service_name service

-- what a mark of a kind says, with the names of functions
abbrev pub kind_text : MarkKind → List (List ℕ) → Mark → List ℕ
kind_text kind.Item functions mark = codes " item " ++ name_of functions mark.b ++ codes " " ++ decimal mark.c
kind_text kind.Jump functions mark = codes " service " ++ name_of functions mark.b ++ codes " " ++ decimal mark.c
kind_text kind.Opening functions mark = codes " opening " ++ called_text (service_of mark.a)
kind_text kind.Idle functions mark = codes " idle"
kind_text kind.Back functions mark = codes " back"

-- what a mark says
abbrev pub mark_text : List (List ℕ) → Mark → List ℕ
mark_text functions mark = kind_text mark.kind functions mark
