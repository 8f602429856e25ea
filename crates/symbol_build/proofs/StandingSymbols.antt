-- Each symbol is found in the file.
use Rattle.std.proofs.Common.{codes, length, refl, arith}
use Rattle.symbol_image.proofs.Reading.{symbols_read_back}
use Rattle.symbol_image.specs.Layout.{strings}
use Rattle.symbol_image.specs.SymbolFile.{parts_borders, rows_of, symbol_file, symbol_section}
use Rattle.symbol_image.specs.SymbolTable.{name_table, symbol_table}
use Rattle.symbol_image.specs.Symbols.{locals_of, all_symbols}
use Rattle.symbol_build.proofs.Standing.{no-longer, sections_stand}
use Rattle.symbol_build.specs.StandingSymbols.{SymbolsStand}

pub symbols_stand : SymbolsStand
symbols_stand parts k symbol few e =
    let b = parts_borders parts in
    let symbols = all_symbols parts.config parts.app (rows_of parts) in
    let table = symbol_section (symbol_table b symbols) (length (locals_of parts.config (rows_of parts))) in
    let names = strings (codes ".strtab") (name_table symbols) in
    let stand = sections_stand parts 9 names few refl in
    let short = no-longer (symbol_file parts) 10 names stand in
    record {
      table_number = 9;
      table = table;
      names = names;
      table_stands = sections_stand parts 8 table few refl;
      is_table = refl;
      names_stand = stand;
      reads = symbols_read_back b symbols k symbol (omega (arith, few, short)) e;
    }
