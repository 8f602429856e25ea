-- The lines of the faults of an OIL tree's meaning.
use Rattle.std.proofs.Common.{◌≡◌, ℕ, List, subst, sym}
use Rattle.std.specs.List.Sorted.{IsNonDecreasingBy, IsPermutation}
use Rattle.sloth_base.specs.declared.refusal.BuildError.{BuildError}
use Rattle.sloth_base.specs.declared.refusal.BuildError.TheVariants as error
use Rattle.sloth_base.specs.declared.refusal.Part.{Part}
use Rattle.sloth_base.specs.declared.refusal.Part.TheVariants.{Oil}
use Rattle.sloth_base.specs.declared.refusal.Refusal.{Refusal}
use Rattle.sloth_base.specs.Order.{NoFault, ErrorIs}
use Rattle.oil_parse.specs.Tokens.{Lexeme, AreTokens, TextFault}
use Rattle.oil_parse.specs.declared.tree.OilTree.{OilTree}
use Rattle.oil_parse.specs.Faults.{GrammarFault}
use Rattle.oil_parse.specs.Text.{HasTree}
use Rattle.oil_parse.proofs.Texts.{one_tree, not_both, grammar_of}
use Rattle.stage_faults.specs.declared.notes.Note.{Note}
use Rattle.stage_faults.specs.Told.{AreAll, TellSame}
use Rattle.stage_faults.specs.ToldModel.{ToldModel}
use Rattle.stage_faults.proofs.Places.{all_told, tell_on}
use Rattle.why_text.specs.NameLines.{TellsNamed, AreNamedLines}
use Rattle.why_text.specs.WhyLines.{LacksTree, TellsMeaning}

pub text_refused : (text : List ℕ) (error : BuildError) → ErrorIs (TextFault text) error → LacksTree text error
text_refused text (error.Refused r) least = λ tree t. t.no_text_fault r least.is_fault
text_refused text error.Memory h = tt

pub grammar_refused : (text : List ℕ) (tokens : List Lexeme) (error : BuildError) → AreTokens text tokens → NoFault (TextFault text) → ErrorIs (GrammarFault tokens) error → LacksTree text error
grammar_refused text tokens (error.Refused r) are none least = λ tree t. not_both text tree r t ((grammar_of text tokens are none r).1 least.is_fault)
grammar_refused text tokens error.Memory are none h = tt

pub named_lines_of : (part : Part) (F : Refusal → Type 0) (notes faults : List Note) (lines : List ℕ) → AreAll part F notes → TellSame notes faults → TellsNamed faults lines → AreNamedLines part F lines
named_lines_of part F notes faults lines all same t =
    record { named = t.named; is_named = t.is_named; notes = t.told; sorted = t.sorted; apart = t.apart; own = t.own; all = all_told part F notes t.told (tell_on notes faults t.told same t.same) all; are = t.are }

pub meaning_of_tree : (oil lines : List ℕ) (tree : OilTree) → HasTree oil tree → AreNamedLines Oil (ToldModel tree) lines → TellsMeaning oil lines
meaning_of_tree oil lines tree t lines_are other o = subst (λ (x : OilTree). AreNamedLines Oil (ToldModel x) lines) (one_tree oil tree other t o) lines_are

pub no_meaning : (oil lines : List ℕ) (r : Refusal) → LacksTree oil (error.Refused r) → TellsMeaning oil lines
no_meaning oil lines r lacks tree t = absurd (lacks tree t)
