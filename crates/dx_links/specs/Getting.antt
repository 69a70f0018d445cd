-- The order in which the calls of a term are run where nothing is kept from earlier executions.
use Rattle.std.specs.Prelude.{List, [], ◌∷◌, ◌++◌, Bool, true, false, ◌&&◌, ◌||◌, ◌==◌, bytes_eq, Ok, Err}
use Rattle.dx_base.specs.declared.code.Code.{Code}
use Rattle.dx_base.specs.contracts.function.ModulePartialEq.TheImpl as modules
use Rattle.dx_ast.specs.contracts.constants.ConstPartialEq.TheImpl as constants
use Rattle.dx_objects.specs.Runs.{Answer}
use Rattle.dx_tags.specs.Closed.{ValueTerm, ConstantTerm, HeldTerm, ResultTerm, FileTerm, CallTerm, CallOf, ValueTerms, NoTerm, AndTerm}
use Rattle.dx_links.specs.Denotes.{Around, results_of}

-- ---- terms that are the same

abbrev mutual
  pub same_value : ValueTerm → ValueTerm → Bool
  same_value (ConstantTerm c) (ConstantTerm d) = constants.ghosts.eq c d
  same_value (HeldTerm n) (HeldTerm k) = n == k
  same_value (ResultTerm r c) (ResultTerm s d) = (r == s) && same_call c d
  same_value (FileTerm b) (FileTerm d) = bytes_eq b d
  same_value t u = false

  pub same_call : CallTerm → CallTerm → Bool
  same_call (CallOf m ts) (CallOf n us) = modules.ghosts.eq m n && same_values ts us

  pub same_values : ValueTerms → ValueTerms → Bool
  same_values NoTerm NoTerm = true
  same_values (AndTerm t ts) (AndTerm u us) = same_value t u && same_values ts us
  same_values ts us = false

abbrev pub has_value : List ValueTerm → ValueTerm → Bool
has_value [] t = false
has_value (u ∷ us) t = same_value u t || has_value us t

abbrev pub has_call : List CallTerm → CallTerm → Bool
has_call [] c = false
has_call (d ∷ ds) c = same_call d c || has_call ds c

-- ---- getting

-- the calls that were run, in order; where one refused, it stands last and nothing is got behind it
pub data Got : Type 0 where
  Went : List CallTerm → Got
  Stopped : List CallTerm → CallTerm → Code → Got

abbrev pub and_then : Got → (List CallTerm → Got) → Got
and_then (Went ran) next = next ran
and_then (Stopped ran c code) next = Stopped ran c code

-- a call is run behind those before it
abbrev pub run_of : CallTerm → Answer → List CallTerm → Got
run_of c (Ok results) ran = Went (ran ++ c ∷ [])
run_of c (Err code) ran = Stopped (ran ++ c ∷ []) c code

abbrev pub unless : Bool → List CallTerm → Got → Got
unless true ran got = Went ran
unless false ran got = got

-- a constant, a held value, a file and a link's term need nothing; a call that was run isn't run again; else its
-- arguments are got in order, and it is run
abbrev mutual
  pub get : Around → (links : List ValueTerm) → ValueTerm → List CallTerm → Got
  get a links (ConstantTerm c) ran = Went ran
  get a links (HeldTerm n) ran = Went ran
  get a links (FileTerm bytes) ran = Went ran
  get a links (ResultTerm result c) ran = unless (has_value links (ResultTerm result c)) ran (get_call a links c ran)

  pub get_call : Around → (links : List ValueTerm) → CallTerm → List CallTerm → Got
  get_call a links (CallOf m ts) ran = unless (has_call ran (CallOf m ts)) ran (and_then (get_all a links ts ran) (run_of (CallOf m ts) (results_of a (CallOf m ts))))

  pub get_all : Around → (links : List ValueTerm) → ValueTerms → List CallTerm → Got
  get_all a links NoTerm ran = Went ran
  get_all a links (AndTerm t ts) ran = and_then (get a links t ran) (get_all a links ts)
