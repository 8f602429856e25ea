-- The source lines of accepted texts are rows of the standard's machine.
use Rattle.std.proofs.Common.{◌≡◌, ◌+◌, List, inl, length, map, sym, ap, subst, arith}
use Rattle.sloth_base.specs.declared.app.Func.{Func}
use Rattle.asm_parse.specs.Apps.{func_of}
use Rattle.asm_lines.proofs.Counts.{lines_few}
use Rattle.asm_lines.specs.Faults.{source_lines}
use Rattle.asm_scopes.specs.Bodies.{bodies_of}
use Rattle.asm_scopes.specs.Scopes.{scope_of}
use Rattle.symbol_image.proofs.Matrix.{program_makes}
use Rattle.mem_map.specs.Plan.{items_at}
use Rattle.mem_map.specs.Starts.{code_byte_count}
use Rattle.mem_map.specs.Zones.{data_zone}
use Rattle.symbol_build.proofs.RisingLines.{BodiesRise, bodies_rise}
use Rattle.symbol_build.proofs.RisingRows.{rows_rise}
use Rattle.symbol_build.proofs.SmallPlaces.{source_places_small}
use Rattle.symbol_build.specs.SymbolFiles.{source_origins}
use Rattle.symbol_build.specs.SourceRows.{SourceLinesAreRows, rows_by}

pub source_lines_are_rows : SourceLinesAreRows
source_lines_are_rows oil src config app bounds m short accepted p =
    let lines = source_lines src in
    let scope = scope_of config lines (bodies_of lines) in
    let funcs : app.funcs ≡ map (func_of config scope) (bodies_of lines) = ap (λ a. a.funcs) accepted.code.has_app.says in
    let rise = bodies_rise config scope lines (λ r fault. accepted.code.has_app.no_fault r (inl (inl fault))) in
    let from = p.addresses.data_from in
    let near = p.near in
    let few = lines_few src in
    program_makes (rows_by (source_origins src).places app m) (data_zone m).base
    (rows_rise m.places (source_origins src).places (source_places_small src) (items_at p.lengths) (data_zone m).base (1 + length lines) (map code_byte_count p.lengths.items) app.funcs p.addresses.items (omega (arith, from))
    (omega (arith, from, near)) (omega (arith, few, short)) (subst (λ (fs : List Func). BodiesRise 1 fs (1 + length lines)) (sym funcs) rise))
