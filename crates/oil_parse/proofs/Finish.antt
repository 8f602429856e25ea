-- From each state the tokens can go on to the end of a file.
use Rattle.std.proofs.Common.{◌≡◌, ℕ, List, [], ◌∷◌, Some, refl, suc, zero}
use Rattle.oil_parse.specs.Tokens.{Lexeme}
use Rattle.oil_parse.specs.declared.tree.TokenKind.TheVariants as token
use Rattle.oil_parse.specs.declared.machine.Construct.{Construct}
use Rattle.oil_parse.specs.declared.machine.Construct.TheVariants.{Head, Section, Object, Attr, File}
use Rattle.oil_parse.specs.declared.machine.Expect.{Expect}
use Rattle.oil_parse.specs.declared.machine.Expect.TheVariants.{Start, VersionIs, VersionText, Ending, Describing, Closing, Body, SectionName, SectionOpen, Inside, CpuWord, CpuName, CpuOpen, Objects, ObjectName, ObjectTail, Attrs, AttrIs, AttrValue, AttrTail, Done}
use Rattle.oil_parse.specs.Shapes.{shape_by, sign_of, key_of, version_word, cpu_word}
use Rattle.oil_parse.specs.Steps.{next, behind}
use Rattle.oil_parse.proofs.Steps.{step}

abbrev sign : ℕ → Lexeme
sign b = record { kind = token.Sign; line = 1; bytes = b ∷ [] }

abbrev plain : Lexeme
plain = record { kind = token.Word; line = 1; bytes = 97 ∷ [] }

abbrev cpu : Lexeme
cpu = record { kind = token.Word; line = 1; bytes = cpu_word }

abbrev version : Lexeme
version = record { kind = token.Word; line = 1; bytes = version_word }

abbrev quoted : Lexeme
quoted = record { kind = token.Text; line = 1; bytes = 34 ∷ 34 ∷ [] }

-- `}` and `;`
abbrev shut : List Lexeme → List Lexeme
shut ts = sign 125 ∷ sign 59 ∷ ts

abbrev from_objects : List Lexeme
from_objects = shut []

abbrev from_attrs : ℕ → List Lexeme
from_attrs zero = shut from_objects
from_attrs (suc d) = shut (from_attrs d)

abbrev from_name : List Lexeme
from_name = plain ∷ sign 123 ∷ from_objects

abbrev from_inside : ℕ → List Lexeme
from_inside zero = shut (cpu ∷ from_name)
from_inside (suc n) = sign 125 ∷ from_inside n

abbrev from_behind : Construct → List Lexeme
from_behind Head = cpu ∷ from_name
from_behind Section = cpu ∷ from_name
from_behind Object = from_objects
from_behind (Attr d) = from_attrs d
from_behind File = []

attrs_finish : (d : ℕ) → step (Some (Attrs d)) (from_attrs d) ≡ Some Done
unfolding next shape_by sign_of key_of
attrs_finish zero = refl
attrs_finish (suc d) = attrs_finish d

inside_finish : (n : ℕ) → step (Some (Inside n)) (from_inside n) ≡ Some Done
unfolding next shape_by sign_of key_of
inside_finish zero = refl
inside_finish (suc n) = inside_finish n

behind_finish : (p : Construct) → step (Some (behind p)) (from_behind p) ≡ Some Done
unfolding next shape_by sign_of key_of
behind_finish Head = refl
behind_finish Section = refl
behind_finish Object = refl
behind_finish (Attr d) = attrs_finish d
behind_finish File = refl

pub finish : (e : Expect) → (more : List Lexeme) × (step (Some e) more ≡ Some Done)
unfolding next shape_by sign_of key_of
finish Start = (version ∷ sign 61 ∷ quoted ∷ sign 59 ∷ cpu ∷ from_name, refl)
finish VersionIs = (sign 61 ∷ quoted ∷ sign 59 ∷ cpu ∷ from_name, refl)
finish VersionText = (quoted ∷ sign 59 ∷ cpu ∷ from_name, refl)
finish (Ending p) = (sign 59 ∷ from_behind p, behind_finish p)
finish (Describing p) = (quoted ∷ sign 59 ∷ from_behind p, behind_finish p)
finish (Closing p) = (sign 59 ∷ from_behind p, behind_finish p)
finish Body = (cpu ∷ from_name, refl)
finish SectionName = (plain ∷ sign 123 ∷ from_inside 0, refl)
finish SectionOpen = (sign 123 ∷ from_inside 0, refl)
finish (Inside n) = (from_inside n, inside_finish n)
finish CpuWord = (cpu ∷ from_name, refl)
finish CpuName = (from_name, refl)
finish CpuOpen = (sign 123 ∷ from_objects, refl)
finish Objects = (from_objects, refl)
finish ObjectName = (plain ∷ sign 59 ∷ from_objects, refl)
finish ObjectTail = (sign 59 ∷ from_objects, refl)
finish (Attrs d) = (from_attrs d, attrs_finish d)
finish (AttrIs d) = (sign 61 ∷ quoted ∷ sign 59 ∷ from_attrs d, attrs_finish d)
finish (AttrValue d) = (quoted ∷ sign 59 ∷ from_attrs d, attrs_finish d)
finish (AttrTail d) = (sign 59 ∷ from_attrs d, attrs_finish d)
finish Done = ([], refl)
