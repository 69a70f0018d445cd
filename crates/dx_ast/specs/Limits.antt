-- How much a script may have of each thing.
use Rattle.std.specs.Prelude.{ℕ}

-- the bytes of a name
abbrev pub max_name_bytes : ℕ
max_name_bytes = 255

-- names in one list: the parameters of a macro, or its results
abbrev pub max_names : ℕ
max_names = 64

-- the numbers of a vector
abbrev pub max_numbers : ℕ
max_numbers = 256

-- the elements of a list, whether it is written out or a range
abbrev pub max_elements : ℕ
max_elements = 65536

-- calls that stand in one another as arguments
abbrev pub max_nested_calls : ℕ
max_nested_calls = 64

-- macros that are entered from one another
abbrev pub max_macro_steps : ℕ
max_macro_steps = 64

-- the calls that the walk of a statement comes by
abbrev pub max_walk_calls : ℕ
max_walk_calls = 65536
