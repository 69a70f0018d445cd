-- Arguments and parameters.
use Rattle.std.proofs.Common.{◌≡◌, ℕ, zero, suc, ◌+◌, ◌<◌, ◌≤◌, List, [], ◌∷◌, ◌++◌, map, length, Option, Some, None, Bool, true, false, refl, ap, ap₂, ◌∙◌, sym, arith, option_map, take, drop, get_or}
use Rattle.std.specs.Prelude.{nat_lt, ◌&&◌, ◌||◌, if◌then◌else◌, is_some}
use Rattle.std.specs.List.{remove, list_any}
use Rattle.std.proofs.lemmas.List.{length-map, drop_all, drop_more}
use Rattle.std.specs.Str.{bytes_eq}
use Rattle.dx_ast.specs.Classes.{Text}
use Rattle.dx_base.specs.NameLists.{has}
use Rattle.dx_signatures.specs.declared.fault.StaticFault.TheVariants.{TooManyArguments, NoSuchParameter, TooManyResults}
use Rattle.dx_signatures.specs.Faults.{names_fit, without, fault_of_signature, fault_of_callee, or_nesting, arg_names}
use Rattle.dx_signatures.specs.Callees.{Signature, CallsMacro, param_names}
use Rattle.dx_ast.specs.declared.expressions.Arg.{Arg}
use Rattle.dx_ast.specs.Plain.{plain_args, plain_macro}
use Rattle.dx_ast.specs.Syntax.{Macro}
use Rattle.dx_ast.specs.Values.{param_name}
use Rattle.dx_ast.specs.declared.statements.Param.{Param}
use Rattle.dx_ast.specs.declared.statements.MacroDef.{MacroDef, out-MacroDef}
use Rattle.dx_ast.proofs.PlainLaws.{plain_macro_out}
use Rattle.dx_signatures.specs.declared.fault.StaticFault.{StaticFault}
use Rattle.dx_signatures.specs.CalleeView.{place_of, UsesOne, FaultOfCounts}

none_by : (ns : List Text) (n : Text) (b : Bool) (o : Option ℕ) → (o ≡ None → has ns n ≡ false) → (if b then Some 0 else option_map suc o) ≡ None → (b || has ns n) ≡ false
none_by ns n true o go e = cc
none_by ns n false None go e = go refl
none_by ns n false (Some i) go e = cc

pub has_none : (ns : List Text) (n : Text) → place_of ns n ≡ None → has ns n ≡ false
has_none [] n e = refl
has_none (m ∷ ns) n e = none_by ns n (bytes_eq m n) (place_of ns n) (has_none ns n) e

pub record IsAt (ns : List Text) (n : Text) (i : ℕ) : Type 0 where
  pub present : has ns n ≡ true
  pub rest : without n ns ≡ take i ns ++ drop (suc i) ns
  pub below : i < length ns

at_by : (m : Text) (ns : List Text) (n : Text) (i : ℕ) (b : Bool) (o : Option ℕ) → ((j : ℕ) → o ≡ Some j → IsAt ns n j) → (if b then Some 0 else option_map suc o) ≡ Some i →
    ((b || has ns n) ≡ true) × ((if b then ns else m ∷ without n ns) ≡ take i (m ∷ ns) ++ drop (suc i) (m ∷ ns)) × (i < suc (length ns))
at_by m ns n zero true o go e = (refl, refl, omega arith)
at_by m ns n (suc i) true o go e = cc
at_by m ns n i false None go e = cc
at_by m ns n zero false (Some j) go e = cc
at_by m ns n (suc i) false (Some j) go e =
    let same : j ≡ i = cc in
    let h = go i (ap Some same) in
    (h.present, ap (λ (xs : List Text). m ∷ xs) h.rest, omega (arith, h.below))

pub is_at : (ns : List Text) (n : Text) (i : ℕ) → place_of ns n ≡ Some i → IsAt ns n i
is_at [] n i e = cc
is_at (m ∷ ns) n i e =
    let p = at_by m ns n i (bytes_eq m n) (place_of ns n) (λ j h. is_at ns n j h) e in
    record { present = p.0; rest = p.1; below = p.2 }

map-remove : {A B : Type 0} (f : A → B) (i : ℕ) (xs : List A) → map f (take i xs ++ drop (suc i) xs) ≡ take i (map f xs) ++ drop (suc i) (map f xs)
map-remove f zero [] = refl
map-remove f zero (x ∷ xs) = refl
map-remove f (suc i) [] = refl
map-remove f (suc i) (x ∷ xs) = ap (λ ys. f x ∷ ys) (map-remove f i xs)

-- the argument that names parameter number i
pub uses_named : {A : Type 0} (f : A → Text) (xs ys : List A) (name : Option Text) (n : Text) (i : ℕ) → name ≡ Some n → place_of (map f xs) n ≡ Some i → ys ≡ remove xs i → UsesOne (map f xs) name (map f ys) true
uses_named f xs ys name n i e h r others =
    let p = is_at (map f xs) n i h in
    ap (λ o. names_fit (map f xs) (o ∷ others)) e
    ∙ named_by (map f xs) n others
    ∙ ap (λ b. b && names_fit (without n (map f xs)) others) p.present
    ∙ ap (λ zs. names_fit zs others) (p.rest ∙ sym (map-remove f i xs) ∙ ap (map f) (sym r))
  where
    named_by : (zs : List Text) (n : Text) (others : List (Option Text)) → names_fit zs (Some n ∷ others) ≡ (has zs n && names_fit (without n zs) others)
    named_by [] n others = refl
    named_by (z ∷ zs) n others = refl

pub uses_none : (zs ws : List Text) (name : Option Text) (n : Text) → name ≡ Some n → place_of zs n ≡ None → UsesOne zs name ws false
uses_none zs ws name n e h others =
    ap (λ o. names_fit zs (o ∷ others)) e ∙ named_by zs n others ∙ ap (λ b. b && names_fit (without n zs) others) (has_none zs n h)
  where
    named_by : (zs : List Text) (n : Text) (others : List (Option Text)) → names_fit zs (Some n ∷ others) ≡ (has zs n && names_fit (without n zs) others)
    named_by [] n others = refl
    named_by (z ∷ zs) n others = refl

-- the arguments from one place on
from_here : (free : List Text) (xs : List Arg) (i : ℕ) (a : Arg) → i < length xs → a ≡ get_or xs i a →
    names_fit free (arg_names (plain_args (drop i xs))) ≡ names_fit free (a.name ∷ arg_names (plain_args (drop (i + 1) xs)))
from_here free xs i a h e = ap (λ (ys : List Arg). names_fit free (arg_names (plain_args ys))) (drop_more xs i a h ∙ ap (λ (x : Arg). x ∷ drop (i + 1) xs) (sym e))

pub fits_on : (old new : List Text) (xs : List Arg) (i : ℕ) (a : Arg) (b r : Bool) → i < length xs → a ≡ get_or xs i a → UsesOne old a.name new b → b ≡ true →
    names_fit old (arg_names (plain_args (drop i xs))) ≡ r → names_fit new (arg_names (plain_args (drop (i + 1) xs))) ≡ r
fits_on old new xs i a b r h e u t p =
    let others = arg_names (plain_args (drop (i + 1) xs)) in
    sym (u others ∙ ap (λ (q : Bool). q && names_fit new others) t) ∙ sym (from_here old xs i a h e) ∙ p

pub fits_not : (old new : List Text) (xs : List Arg) (i : ℕ) (a : Arg) (b r : Bool) → i < length xs → a ≡ get_or xs i a → UsesOne old a.name new b → b ≡ false →
    names_fit old (arg_names (plain_args (drop i xs))) ≡ r → false ≡ r
fits_not old new xs i a b r h e u t p =
    let others = arg_names (plain_args (drop (i + 1) xs)) in
    sym (u others ∙ ap (λ (q : Bool). q && names_fit new others) t) ∙ sym (from_here old xs i a h e) ∙ p

no_more : (free : List Text) → names_fit free [] ≡ true
no_more [] = refl
no_more (p ∷ free) = refl

pub fits_all : (free : List Text) (xs : List Arg) (i : ℕ) (r : Bool) → length xs ≤ i → names_fit free (arg_names (plain_args (drop i xs))) ≡ r → true ≡ r
fits_all free xs i r h p = sym (ap (λ (ys : List Arg). names_fit free (arg_names (plain_args ys))) (drop_all i xs h) ∙ no_more free) ∙ p

pub length-args : (xs : List Arg) → length (arg_names (plain_args xs)) ≡ length xs
length-args [] = refl
length-args (x ∷ xs) = ap suc (length-args xs)

pub many_arguments : (s : Signature) (args : List (Option Text)) (targets : ℕ) → nat_lt (length s.named + s.more) (length args) ≡ true → fault_of_signature s args targets ≡ Some TooManyArguments
many_arguments s args targets h = rw h refl

pub no_parameter : (s : Signature) (args : List (Option Text)) (targets : ℕ) → nat_lt (length s.named + s.more) (length args) ≡ false → names_fit s.named args ≡ false → fault_of_signature s args targets ≡ Some NoSuchParameter
no_parameter s args targets h e = rw (h, e) refl

pub many_results : (s : Signature) (args : List (Option Text)) (targets : ℕ) → nat_lt (length s.named + s.more) (length args) ≡ false → names_fit s.named args ≡ true → nat_lt s.results targets ≡ true → fault_of_signature s args targets ≡ Some TooManyResults
many_results s args targets h e r = rw (h, e, r) refl

pub fits_signature : (s : Signature) (args : List (Option Text)) (targets : ℕ) → nat_lt (length s.named + s.more) (length args) ≡ false → names_fit s.named args ≡ true → nat_lt s.results targets ≡ false → fault_of_signature s args targets ≡ None
fits_signature s args targets h e r = rw (h, e, r) refl

pub beyond_by : (s : Signature) (args : List (Option Text)) (named more n : ℕ) (b : Bool) → length s.named ≡ named → s.more ≡ more → length args ≡ n → nat_lt (named + more) n ≡ b → nat_lt (length s.named + s.more) (length args) ≡ b
beyond_by s args named more n b h m l e = ap₂ (λ (k : ℕ) (j : ℕ). nat_lt k j) (ap₂ (λ (k : ℕ) (j : ℕ). k + j) h m) l ∙ e

-- arguments without names fit all parameters
unnamed_by : (p : Option Text) (rest : List (Option Text)) → ((free : List Text) → names_fit free rest ≡ true) → is_some p ≡ false → (free : List Text) → names_fit free (p ∷ rest) ≡ true
unnamed_by None rest go e [] = go []
unnamed_by None rest go e (x ∷ free) = go free
unnamed_by (Some n) rest go e free = cc

pub unnamed_fit : (args : List (Option Text)) → list_any is_some args ≡ false → (free : List Text) → names_fit free args ≡ true
unnamed_fit [] e free = ends free
  where
    ends : (free : List Text) → names_fit free [] ≡ true
    ends [] = refl
    ends (x ∷ free) = refl
unnamed_fit (p ∷ rest) e free =
    let parts = neither (is_some p) (list_any is_some rest) e in
    unnamed_by p rest (unnamed_fit rest parts.1) parts.0 free
  where
    neither : (a b : Bool) → (a || b) ≡ false → (a ≡ false) × (b ≡ false)
    neither false b e = (refl, e)
    neither true b e = cc

-- what counts tell of a call of a macro, where so many macro steps are left
pub macro_fault : (x : MacroDef) (ps : List Param) (n r k : ℕ) (fit : Bool) (args : List Arg) (left targets : ℕ) (f : Option StaticFault) → ps ≡ (out-MacroDef x).params → n ≡ length ps → r ≡ length (out-MacroDef x).results → k ≡ length args →
    fit ≡ names_fit (param_names ps) (arg_names (plain_args args)) → FaultOfCounts n 0 r fit k targets f →
    fault_of_callee (CallsMacro (plain_macro x)) left (arg_names (plain_args args)) targets ≡ or_nesting left f
macro_fault x ps n r k fit args left targets f a b c l e h =
    let s : Signature = record { named = param_names ps; more = 0; results = length (out-MacroDef x).results } in
    ap (λ (y : Macro). fault_of_callee (CallsMacro y) left (arg_names (plain_args args)) targets) (plain_macro_out x)
    ∙ sym (ap (or_nesting left) (h s (arg_names (plain_args args)) (length-map ps param_name ∙ sym b) refl (sym c) (length-args args ∙ sym l) (sym e)
    ∙ ap (λ (us : List Param). let t : Signature = record { named = param_names us; more = 0; results = length (out-MacroDef x).results } in fault_of_signature t (arg_names (plain_args args)) targets) a))

pub nested_some : (left : ℕ) (f : StaticFault) → or_nesting left (Some f) ≡ Some f
nested_some zero f = refl
nested_some (suc left) f = refl

pub nested_none : (left : ℕ) → 0 < left → or_nesting left None ≡ None
nested_none zero h = absurd (omega arith)
nested_none (suc left) h = refl
