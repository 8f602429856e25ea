-- What may come next behind the tokens so far. That the grammar allows the same is proved with the parser.
use Rattle.std.specs.Prelude.{ℕ, ◌+◌, if◌then◌else◌, nat_lt, ◌<◌, suc, zero, Option, Some, None}
use Rattle.oil_parse.specs.declared.machine.Key.TheVariants.{Version, Implementation, Cpu}
use Rattle.oil_parse.specs.declared.machine.Shape.{Shape}
use Rattle.oil_parse.specs.declared.machine.Shape.TheVariants.{Word, Number, Text, Open, Close, Equals, Semicolon, Colon, Other}
use Rattle.oil_parse.specs.declared.machine.Construct.{Construct}
use Rattle.oil_parse.specs.declared.machine.Construct.TheVariants.{Head, Section, Object, Attr, File}
use Rattle.oil_parse.specs.declared.machine.Expect.{Expect}
use Rattle.oil_parse.specs.declared.machine.Expect.TheVariants.{Start, VersionIs, VersionText, Ending, Describing, Closing, Body, SectionName, SectionOpen, Inside, CpuWord, CpuName, CpuOpen, Objects, ObjectName, ObjectTail, Attrs, AttrIs, AttrValue, AttrTail, Done}

-- what comes behind the `;` that ends a construct
abbrev pub behind : Construct → Expect
behind Head = Body
behind Section = CpuWord
behind Object = Objects
behind (Attr d) = Attrs d
behind File = Done

-- the construct that a `}` of attributes closes
abbrev pub closed_construct : ℕ → Construct
closed_construct zero = Object
closed_construct (suc d) = Attr d

-- what comes behind a `}` in a section IMPLEMENTATION
abbrev pub expectation_behind : ℕ → Expect
expectation_behind zero = Ending Section
expectation_behind (suc n) = Inside n

-- what comes behind a token of this shape, if it may stand here
unfoldable pub next : Expect → Shape → Option Expect
next Start (Word Version) = Some VersionIs
next VersionIs Equals = Some VersionText
next VersionText Text = Some (Ending Head)
next (Ending p) Colon = Some (Describing p)
next (Ending p) Semicolon = Some (behind p)
next (Describing p) Text = Some (Closing p)
next (Closing p) Semicolon = Some (behind p)
next Body (Word Implementation) = Some SectionName
next Body (Word Cpu) = Some CpuName
next SectionName (Word k) = Some SectionOpen
next SectionOpen Open = Some (Inside 0)
next (Inside n) Open = Some (Inside (suc n))
next (Inside n) Close = Some (expectation_behind n)
next (Inside n) (Word k) = Some (Inside n)
next (Inside n) (Number v) = Some (Inside n)
next (Inside n) Text = Some (Inside n)
next (Inside n) Equals = Some (Inside n)
next (Inside n) Semicolon = Some (Inside n)
next (Inside n) Colon = Some (Inside n)
next (Inside n) Other = Some (Inside n)
next CpuWord (Word Cpu) = Some CpuName
next CpuName (Word k) = Some CpuOpen
next CpuOpen Open = Some Objects
next Objects (Word k) = Some ObjectName
next Objects Close = Some (Ending File)
next ObjectName (Word k) = Some ObjectTail
next ObjectTail Open = Some (Attrs 0)
next ObjectTail Colon = Some (Describing Object)
next ObjectTail Semicolon = Some Objects
next (Attrs d) (Word k) = Some (AttrIs d)
next (Attrs d) Close = Some (Ending (closed_construct d))
next (AttrIs d) Equals = Some (AttrValue d)
next (AttrValue d) (Word k) = Some (AttrTail d)
next (AttrValue d) (Number v) = Some (AttrTail d)
next (AttrValue d) Text = Some (AttrTail d)
next (AttrTail d) Open = if nat_lt d 8 then Some (Attrs (suc d)) else None
next (AttrTail d) Colon = Some (Describing (Attr d))
next (AttrTail d) Semicolon = Some (Attrs d)
next _ _ = None

-- Fewer braces are open than a number of 64 bits counts.
abbrev pub IsShallow : Expect → Type 0
IsShallow (Inside n) = n + 1 < 18446744073709551616
IsShallow _ = Unit {0}
