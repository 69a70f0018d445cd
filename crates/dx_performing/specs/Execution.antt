-- One execution of a statement's effects, evaluated afresh: what it does, and what it leaves behind it.
use Rattle.std.specs.Prelude.{ℕ, List, [], ◌∷◌, ◌++◌, Option, Some, None, is_some, if◌then◌else◌}
use Rattle.std.specs.Map.{lookup, remove_entry}
use Rattle.std.specs.BTreeMap.{insert_entry, is_at}
use Rattle.dx_base.specs.Object.{Tree as Object}
use Rattle.dx_base.specs.declared.code.Code.{Code}
use Rattle.dx_base.specs.declared.function.Effect.{Effect}
use Rattle.dx_base.specs.declared.function.Function.TheVariants as function
use Rattle.dx_base.specs.declared.function.Module.{Module}
use Rattle.dx_macros.specs.Site.{Step}
use Rattle.dx_macros.specs.Tree.{Place, CallTree, TreeCall, Trees}
use Rattle.dx_objects.specs.Runs.{Values, Answer}
use Rattle.dx_signatures.specs.declared.fault.StaticFault.{StaticFault}
use Rattle.dx_tags.specs.Files.{FileMap, content_of, file_put}
use Rattle.dx_links.specs.declared.key.Key.{Key}
use Rattle.dx_links.specs.LinkMap.{key_cmp}
use Rattle.dx_meaning.specs.Outcome.{Value, Use, Decided, Val, ErrAt, Off, HaltAt, demand}
use Rattle.dx_meaning.specs.Meaning.{World, outcomes, together}
use Rattle.dx_performing.specs.Acts.{Act, Prints, Puts, Sets, Refuses, act}

-- what is wrong with a call: it has a static fault, or it refuses its inputs
pub data Failure : Type 0 where
  Faulty : StaticFault → Failure
  Refused : Code → Failure

-- a call and what is wrong with it
pub record Error : Type 0 where
  pub site : List Step
  pub failure : Failure

-- a key of links holds this value from now on, or nothing more
pub record Set : Type 0 where
  pub key : Key
  pub value : Value

-- a name, and the bytes that are put under it
abbrev pub Export : Type 0
Export = List ℕ × List ℕ

-- what the effects print, the error that it ends with, if any, the files that they put, the runs that it demands, and what they set
pub record Execution : Type 0 where
  pub printed : List ℕ
  pub error : Option Error
  pub exports : List Export
  pub demanded : List Use
  pub sets : List Set

-- ---- effects one behind the other, up to and including the first that ends the execution

abbrev pub nothing : Execution
nothing = record { printed = []; error = None; exports = []; demanded = []; sets = [] }

abbrev pub demanding : List Use → Execution → Execution
demanding uses x = record { printed = x.printed; error = x.error; exports = x.exports; demanded = uses ++ x.demanded; sets = x.sets }

abbrev pub ends_at : List Step → Code → Execution
ends_at site code = record { printed = []; error = Some (record { site = site; failure = Refused code }); exports = []; demanded = []; sets = [] }

-- an act, and what comes behind it
abbrev pub performing : List Step → Act → Execution → Execution
performing site (Prints text) x = record { printed = text ++ x.printed; error = x.error; exports = x.exports; demanded = x.demanded; sets = x.sets }
performing site (Puts name content) x = record { printed = x.printed; error = x.error; exports = (name, content) ∷ x.exports; demanded = x.demanded; sets = x.sets }
performing site (Sets key value) x = record { printed = x.printed; error = x.error; exports = x.exports; demanded = x.demanded; sets = record { key = key; value = value } ∷ x.sets }
performing site (Refuses code) x = ends_at site code

-- it is passed over, ends the execution, or is performed
abbrev pub deciding : Effect → Place → Decided Values → Execution → Execution
deciding e p Off x = x
deciding e p (HaltAt site code) x = ends_at site code
deciding e p (ErrAt site code) x = ends_at site code
deciding e p (Val values) x = performing p.site (act e p values) x

abbrev pub effect_of : World → Effect → Place → Trees → Execution → Execution
effect_of w e p args x =
    let o = together (outcomes w args) in
    demanding (demand o) (deciding e p o.decided x)

-- effects are calls of effects
abbrev pub call_of : World → CallTree → Execution → Execution
call_of w (TreeCall (function.Effect e) p args) x = effect_of w e p args x
call_of w (TreeCall other p args) x = x

abbrev pub execution : World → List CallTree → Execution
execution w [] = nothing
execution w (c ∷ cs) = call_of w c (execution w cs)

-- ---- what is current when it begins, and behind it

-- keys with their values, in the order of the keys
abbrev pub Links : Type 0
Links = List (Key × Object)

abbrev pub link_at : Links → Key → Option Object
link_at links k = lookup (is_at (key_cmp k)) links

abbrev pub put_link : Links → Key → Value → Links
put_link links k (Some o) = insert_entry key_cmp links k o
put_link links k None = remove_entry (is_at (key_cmp k)) links

-- links after Sets, put in order
abbrev pub after_sets : Links → List Set → Links
after_sets links [] = links
after_sets links (s ∷ ss) = after_sets (put_link links s.key s.value) ss

-- files after exports, put in order
abbrev pub after_exports : FileMap → List Export → FileMap
after_exports files [] = files
after_exports files (e ∷ es) = after_exports (file_put files e.0 e.1) es

-- what links hold, and what was written by earlier executions
pub record Current : Type 0 where
  pub links : Links
  pub written : FileMap

-- an execution that ends with an error changes no link, and what it exported is written in any case
abbrev pub behind : Execution → Current → Current
behind x now = record {
  links = if is_some x.error then now.links else after_sets now.links x.sets;
  written = after_exports now.written x.exports;
}

-- what the meaning is given
abbrev pub world_with : Current → (Module → Values → Option (List ℕ) → Answer) → (List ℕ → Option (List ℕ)) → World
world_with now answer file = record { link = link_at now.links; written = λ name. content_of name now.written; file = file; answer = answer }
