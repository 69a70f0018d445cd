-- The dictionary after a macro or a definition joined.
use Rattle.std.proofs.Common.{◌≡◌, ◌<◌, ℕ, zero, suc, List, [], ◌∷◌, ◌++◌, length, get_or, map, Option, Some, Bool, true, false, Vec, refl, sym, ap, subst, ◌∙◌, option_map, arith}
use Rattle.std.specs.Prelude.{Result, Ok, Err, All, OnOk, OnErr, if◌then◌else◌}
use Rattle.std.specs.Str.{bytes_eq}
use Rattle.std.specs.declared.alloc.Global.{Global}
use Rattle.std.specs.HashMap.{HashMap}
use Rattle.std.specs.Map.{lookup}
use Rattle.std.proofs.lemmas.List.Elements.{All-append}
use Rattle.dx_base.specs.NameTable.{under_name, changed_at}
use Rattle.dx_ast.specs.declared.statements.Assign.{Assign}
use Rattle.dx_ast.specs.declared.statements.MacroDef.{MacroDef, out-MacroDef}
use Rattle.dx_ast.specs.Classes.{Text}
use Rattle.dx_ast.specs.Lawful.{IsLawfulMacro}
use Rattle.dx_ast.specs.Plain.{plain_macro}
use Rattle.dx_ast.proofs.PlainLaws.{plain_macro_out}
use Rattle.dx_macros.specs.Dictionary.{Macros, macro_name, with_macro}
use Rattle.dx_definitions.specs.TopTexts.{definition}
use Rattle.dx_macros.specs.Shown.{IsLawfulDefinition, AreLawfulDefinitions, AreLawfulMacros}
use Rattle.dx_definitions.specs.Index.{text_of}

-- ---- definitions

one_lawful : (a : Assign) → IsLawfulDefinition a → All IsLawfulDefinition (a ∷ [])
one_lawful a h zero d lt = h
one_lawful a h (suc i) d lt = absurd (omega arith)

pub lawful_push : {A E : Type 0} (r : Result A E) (old new : List Assign) (a : Assign) → AreLawfulDefinitions old → IsLawfulDefinition a →
    OnOk r (new ≡ old ++ a ∷ []) → OnErr r (new ≡ old) → AreLawfulDefinitions new
lawful_push (Ok x) old new a all h ok err = subst AreLawfulDefinitions (sym ok) (All-append IsLawfulDefinition old (a ∷ []) all (one_lawful a h))
lawful_push (Err x) old new a all h ok err = subst AreLawfulDefinitions (sym err) all

-- ---- macros

lawful_by : (o : Option MacroDef) (m n : MacroDef) (b : Bool) → (o ≡ Some n → IsLawfulMacro (plain_macro n)) → IsLawfulMacro (plain_macro m) →
    (if b then Some m else o) ≡ Some n → IsLawfulMacro (plain_macro n)
lawful_by o m n true old h e = let same : m ≡ n = cc in subst (λ (x : MacroDef). IsLawfulMacro (plain_macro x)) same h
lawful_by o m n false old h e = old e

lawful_changed : {S : Type 0} (old new : HashMap (Vec ℕ Global) MacroDef S) (name : Text) (m : MacroDef) → AreLawfulMacros old → IsLawfulMacro (plain_macro m) →
    under_name new ≡ changed_at (under_name old) name (Some m) → AreLawfulMacros new
lawful_changed old new name m all h e other n is =
    lawful_by (under_name old other) m n (bytes_eq name other) (all other n) h (sym (ap (λ (t : Text → Option MacroDef). t other) e) ∙ is)

lawful_same : {S : Type 0} (old new : HashMap (Vec ℕ Global) MacroDef S) → AreLawfulMacros old → new.entries ≡ old.entries → AreLawfulMacros new
lawful_same old new all e name m is = all name m (ap (λ (es : List (Vec ℕ Global × MacroDef)). lookup (λ (key : Vec ℕ Global). bytes_eq name key.items) es) (sym e) ∙ is)

pub lawful_insert : {A E S : Type 0} (r : Result A E) (old new : HashMap (Vec ℕ Global) MacroDef S) (name : Text) (m : MacroDef) → AreLawfulMacros old → IsLawfulMacro (plain_macro m) →
    OnOk r (under_name new ≡ changed_at (under_name old) name (Some m)) → OnErr r (new.entries ≡ old.entries) → AreLawfulMacros new
lawful_insert (Ok x) old new name m all h ok err = lawful_changed old new name m all h ok
lawful_insert (Err x) old new name m all h ok err = lawful_same old new all err

-- a fact of an Ok, by another
pub on_ok : {A E P Q : Type 0} (r : Result A E) → (P → Q) → OnOk r P → OnOk r Q
on_ok (Ok x) go h = go h
on_ok (Err x) go h = h

through_by : (o : Option MacroDef) (m : MacroDef) (b : Bool) → option_map plain_macro (if b then Some m else o) ≡ (if b then Some (plain_macro m) else option_map plain_macro o)
through_by o m true = refl
through_by o m false = refl

pub name_out : (m : MacroDef) → macro_name (plain_macro m) ≡ (out-MacroDef m).name
name_out m = ap macro_name (plain_macro_out m)

-- the macros after one joined
pub macros_changed : (old new : Text → Option MacroDef) (name : Text) (m : MacroDef) → name ≡ (out-MacroDef m).name → new ≡ changed_at old name (Some m) →
    (let before : Macros = λ n. option_map plain_macro (old n) in let after : Macros = λ n. option_map plain_macro (new n) in after ≡ with_macro (plain_macro m) before)
macros_changed old new name m e h =
    let before : Macros = λ n. option_map plain_macro (old n) in
    let each : (n : Text) → option_map plain_macro (new n) ≡ with_macro (plain_macro m) before n =
    λ n. ap (λ (t : Text → Option MacroDef). option_map plain_macro (t n)) h
    ∙ through_by (old n) m (bytes_eq name n)
    ∙ ap (λ (x : Text). if bytes_eq x n then Some (plain_macro m) else before n) (e ∙ sym (name_out m)) in
    λ i n. each n i
