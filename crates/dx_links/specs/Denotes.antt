-- What a closed term denotes: by the library's answers, the files read and the values held, and by nothing else.
use Rattle.std.specs.Prelude.{ℕ, List, [], ◌∷◌, Option, Some, None, Result, Ok, Err}
use Rattle.dx_base.specs.Object.{Tree, text}
use Rattle.dx_base.specs.declared.function.Module.{Module}
use Rattle.dx_base.specs.declared.function.Module.TheVariants.{Import}
use Rattle.dx_base.specs.declared.code.Code.{Code}
use Rattle.dx_ast.specs.Value.{value_of}
use Rattle.dx_objects.specs.Runs.{Values, Answer}
use Rattle.dx_objects.specs.Values.{value_at}
use Rattle.dx_tags.specs.Closed.{ValueTerm, ConstantTerm, HeldTerm, ResultTerm, FileTerm, CallTerm, CallOf, ValueTerms, NoTerm, AndTerm}

-- what a term depends on: the answers of modules, the files by their names, and the values that were kept by number
pub record Around : Type 0 where
  pub answer : Module → Values → Option (List ℕ) → Answer
  pub file : List ℕ → Option (List ℕ)
  pub held : ℕ → Option Tree

-- the bytes of the file that a call term has
abbrev pub own_file : ValueTerms → Option (List ℕ)
own_file NoTerm = None
own_file (AndTerm (FileTerm bytes) rest) = Some bytes
own_file (AndTerm (ConstantTerm c) rest) = own_file rest
own_file (AndTerm (HeldTerm n) rest) = own_file rest
own_file (AndTerm (ResultTerm result c) rest) = own_file rest

-- the file that a module reads: an Import reads the one that its first value names
abbrev pub named_file : Around → Module → Values → Option (List ℕ)
named_file a Import (Some (text name attributes) ∷ rest) = a.file name
named_file a m values = None

abbrev pub file_of : Around → Module → Values → Option (List ℕ) → Option (List ℕ)
file_of a m values (Some bytes) = Some bytes
file_of a m values None = named_file a m values

-- one of the results, and NULL past the end
abbrev pub denoted_result : ℕ → Answer → Result (Option Tree) Code
denoted_result result (Ok values) = Ok (value_at values result)
denoted_result result (Err code) = Err code

abbrev pub denoted_call : Around → Module → Option (List ℕ) → Answer → Answer
denoted_call a m own (Ok values) = a.answer m values (file_of a m values own)
denoted_call a m own (Err code) = Err code

-- the first code in order, else all values
abbrev pub denoted_beside : Result (Option Tree) Code → Answer → Answer
denoted_beside (Err code) rest = Err code
denoted_beside (Ok v) (Err code) = Err code
denoted_beside (Ok v) (Ok vs) = Ok (v ∷ vs)

abbrev mutual
  -- a value, or the code by which a module refuses its inputs; a file stands for no value
  pub denotes : Around → ValueTerm → Result (Option Tree) Code
  denotes a (ConstantTerm c) = Ok (value_of c)
  denotes a (HeldTerm n) = Ok (a.held n)
  denotes a (ResultTerm result c) = denoted_result result (results_of a c)
  denotes a (FileTerm bytes) = Ok None

  -- the results of a call term
  pub results_of : Around → CallTerm → Answer
  results_of a (CallOf m ts) = denoted_call a m (own_file ts) (all_denote a ts)

  -- the values of the arguments that are no files
  pub all_denote : Around → ValueTerms → Answer
  all_denote a NoTerm = Ok []
  all_denote a (AndTerm (FileTerm bytes) ts) = all_denote a ts
  all_denote a (AndTerm (ConstantTerm c) ts) = denoted_beside (Ok (value_of c)) (all_denote a ts)
  all_denote a (AndTerm (HeldTerm n) ts) = denoted_beside (Ok (a.held n)) (all_denote a ts)
  all_denote a (AndTerm (ResultTerm result c) ts) = denoted_beside (denoted_result result (results_of a c)) (all_denote a ts)
