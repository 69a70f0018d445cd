-- The static fault of one call by itself: its name, its arguments, its targets, and the limits.
use Rattle.std.specs.Prelude.{ℕ, zero, suc, ◌+◌, List, [], ◌∷◌, length, Option, Some, None, Bool, true, not, nat_lt, nat_le, ◌&&◌, if◌then◌else◌}
use Rattle.std.specs.Str.{bytes_eq}
use Rattle.dx_base.specs.NameLists.{has}
use Rattle.dx_ast.specs.Classes.{Text}
use Rattle.dx_ast.specs.Syntax.{Args, NoArg, AndArg}
use Rattle.dx_ast.specs.Limits.{max_walk_calls}
use Rattle.dx_signatures.specs.declared.fault.StaticFault.{StaticFault}
use Rattle.dx_signatures.specs.declared.fault.StaticFault.TheVariants as fault
use Rattle.dx_signatures.specs.Callees.{Callee, Unknown, CallsMacro, CallsFunction, Signature, signature_of_function, signature_of_macro}

abbrev pub arg_names : Args → List (Option Text)
arg_names NoArg = []
arg_names (AndArg n e rest) = n ∷ arg_names rest

abbrev pub without : Text → List Text → List Text
without name [] = []
without name (n ∷ rest) = if bytes_eq n name then rest else n ∷ without name rest

-- each named argument names a parameter that isn't given yet; `free` are those
abbrev pub names_fit : List Text → List (Option Text) → Bool
names_fit free [] = true
names_fit [] (None ∷ args) = names_fit [] args
names_fit (p ∷ free) (None ∷ args) = names_fit free args
names_fit free (Some n ∷ args) = has free n && names_fit (without n free) args

abbrev pub fault_of_signature : Signature → List (Option Text) → ℕ → Option StaticFault
fault_of_signature s args targets =
    if nat_lt (length s.named + s.more) (length args) then Some fault.TooManyArguments
    else (if not (names_fit s.named args) then Some fault.NoSuchParameter
    else (if nat_lt s.results targets then Some fault.TooManyResults else None))

-- no macro step is left
abbrev pub or_nesting : ℕ → Option StaticFault → Option StaticFault
or_nesting left (Some f) = Some f
or_nesting zero None = Some fault.Nesting
or_nesting (suc left) None = None

abbrev pub fault_of_callee : Callee → ℕ → List (Option Text) → ℕ → Option StaticFault
fault_of_callee Unknown left args targets = Some fault.UnknownFunction
fault_of_callee (CallsMacro m) left args targets = or_nesting left (fault_of_signature (signature_of_macro m) args targets)
fault_of_callee (CallsFunction f) left args targets = fault_of_signature (signature_of_function f) args targets

-- the fault of a call behind so many calls, where so many macro steps are left
abbrev pub fault_of_call : ℕ → Callee → ℕ → List (Option Text) → ℕ → Option StaticFault
fault_of_call calls c left args targets = if nat_le max_walk_calls calls then Some fault.Calls else fault_of_callee c left args targets
