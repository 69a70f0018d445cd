-- The lines that tell what the cache did in an execution, and those that tell the links behind it.
use Rattle.std.specs.Prelude.{ℕ, List, [], ◌∷◌, ◌++◌, codes}
use Rattle.std.specs.Fmt.{decimal}
use Rattle.dx_base.specs.Words.{quoted}
use Rattle.dx_print.specs.declared.lines.Traced.{Traced}
use Rattle.dx_print.specs.declared.lines.Traced.TheVariants.{Run, Hit, Keep, Drop, Clear}
use Rattle.dx_print.specs.declared.lines.LinkName.{LinkName}
use Rattle.dx_print.specs.declared.lines.LinkName.TheVariants.{Global, Local}

abbrev pub traced : Traced → List ℕ
traced (Run site) = codes "run " ++ site.now
traced (Hit site) = codes "hit " ++ site.now
traced (Keep site size) = codes "keep " ++ site.now ++ codes " " ++ decimal size
traced (Drop site) = codes "drop " ++ site.now
traced Clear = codes "clear"

-- a module ran, a kept result was used, results were kept with their stated size, dropped, or all dropped
abbrev pub trace_line : Traced → List ℕ
trace_line event = codes "trace " ++ traced event ++ codes "\n"

-- how many links there are
abbrev pub links_line : ℕ → List ℕ
links_line n = codes "links " ++ decimal n ++ codes "\n"

-- the path of the top level, which is empty, is a dash
abbrev pub path_word : List ℕ → List ℕ
path_word [] = codes "-"
path_word (b ∷ bs) = b ∷ bs

abbrev pub link_name : LinkName → List ℕ
link_name (Global name) = codes "global " ++ quoted name.now
link_name (Local path name) = codes "local " ++ path_word path.now ++ codes " " ++ quoted name.now

-- the line before the native text of a link's value
abbrev pub link_line : LinkName → List ℕ
link_line name = codes "link " ++ link_name name ++ codes "\n"
