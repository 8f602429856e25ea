-- The parser as it goes over the tokens.
use Rattle.std.specs.Prelude.{◌≡◌, Some, None}
use Rattle.sloth_base.specs.declared.refusal.Part.TheVariants.{Oil}
use Rattle.sloth_base.specs.declared.refusal.Code.TheVariants as code
use Rattle.sloth_base.specs.declared.refusal.BuildError.{BuildError}
use Rattle.sloth_base.specs.declared.refusal.BuildError.TheVariants.{Refused, Memory}
use Rattle.sloth_base.specs.Search.{lesser}
use Rattle.oil_parse.specs.Tokens.{Lexeme}
use Rattle.oil_parse.specs.declared.tree.Draft.{Draft}
use Rattle.oil_parse.specs.declared.tree.Parser.{Parser}
use Rattle.oil_parse.specs.Shapes.{shape}
use Rattle.oil_parse.specs.Steps.{next}
use Rattle.oil_parse.specs.Machine.{partial_tree_after, PartialTree, least_fault_after}

-- the draft without where it lies in memory
abbrev pub draft : Draft → PartialTree
draft d = record {
  cpu_line = d.cpu_line;
  objects = d.objects.items;
  kind = d.kind.now;
  name = d.name.now;
  line = d.line;
  attrs = d.attrs.items;
  attr_name = d.attr_name.now;
  attr_line = d.attr_line;
}

-- The parser read a token.
pub record IsTokenStep (p q : Parser) (t : Lexeme) : Type 0 where
  pub goes : next p.expect (shape t) ≡ Some q.expect
  pub last : q.last ≡ t.line
  pub least : q.least ≡ least_fault_after p.least p.expect (shape t) t.line
  pub built : q.least ≡ None → draft q.draft ≡ partial_tree_after p.expect (shape t) t (draft p.draft)

-- The parser refuses a token, or memory is short.
abbrev pub StopsWith : Parser → Lexeme → BuildError → Type 0
StopsWith p t Memory = Unit {0}
StopsWith p t (Refused r) = (next p.expect (shape t) ≡ None) × (r ≡ lesser p.least (record { part = Oil; line = t.line; code = code.O5 }))
