-- What the code finds under the name of a call.
use Rattle.std.specs.Prelude.{List, [], ◌∷◌, Option, Some, None, option_map, if◌then◌else◌, Bool, ◌&&◌, ◌≡◌, ℕ, suc, length}
use Rattle.std.specs.Str.{bytes_eq}
use Rattle.dx_ast.specs.Classes.{Text}
use Rattle.dx_ast.specs.Plain.{plain_macro}
use Rattle.dx_signatures.specs.Callees as plain
use Rattle.dx_signatures.specs.Faults.{names_fit, fault_of_signature}
use Rattle.dx_signatures.specs.declared.fault.StaticFault.{StaticFault}
use Rattle.dx_signatures.specs.declared.callee.Callee.{Callee}
use Rattle.dx_signatures.specs.declared.callee.Callee.TheVariants as callee

abbrev pub plain_callee : Callee → plain.Callee
plain_callee callee.Unknown = plain.Unknown
plain_callee (callee.Macro m) = plain.CallsMacro (plain_macro m.now)
plain_callee (callee.Function f) = plain.CallsFunction f

-- the place of a name in a list
abbrev pub place_of : List Text → Text → Option ℕ
place_of [] name = None
place_of (n ∷ rest) name = if bytes_eq n name then Some 0 else option_map suc (place_of rest name)

-- an argument takes a parameter that is free, unless the result is false
abbrev pub UsesOne : List Text → Option Text → List Text → Bool → Type 0
UsesOne old name new result = (others : List (Option Text)) → names_fit old (name ∷ others) ≡ (result && names_fit new others)

-- the fault of a call with so many arguments and targets, where there may be so many, and where the named arguments fit
abbrev pub FaultOfCounts : (named more results : ℕ) → (fit : Bool) → (args targets : ℕ) → Option StaticFault → Type 0
FaultOfCounts named more results fit args targets fault =
    (s : plain.Signature) (names : List (Option Text)) → length s.named ≡ named → s.more ≡ more → s.results ≡ results → length names ≡ args →
    names_fit s.named names ≡ fit → fault ≡ fault_of_signature s names targets
