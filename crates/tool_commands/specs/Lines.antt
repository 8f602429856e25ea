-- The line of a tool that wrote a file.
use Rattle.std.specs.Prelude.{ℕ, List, ◌++◌, codes, decimal}

-- `written` and the length of the file, in bytes
abbrev pub written_line : ℕ → List ℕ
written_line length = codes "written " ++ decimal length ++ codes "\n"
