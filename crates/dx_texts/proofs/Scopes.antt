-- Names that get a meaning.
use Rattle.std.proofs.Common.{◌≡◌, ℕ, suc, ◌+◌, ◌<◌, List, [], ◌∷◌, length, drop, get_or, Option, Some, None, Bool, true, false, refl, sym, ap, subst, ◌∙◌, arith}
use Rattle.std.specs.Prelude.{if◌then◌else◌, ◌||◌}
use Rattle.std.specs.Str.{bytes_eq}
use Rattle.dx_base.specs.NameTable.{changed_at}
use Rattle.std.proofs.lemmas.List.{drop_more}
use Rattle.dx_ast.specs.Classes.{Text}
use Rattle.dx_ast.specs.declared.statements.Param.{Param}
use Rattle.dx_macros.specs.Expansion as plain
use Rattle.dx_base.specs.NameLists.{has}
use Rattle.dx_macros.specs.Tree.{Tree}
use Rattle.dx_texts.specs.Expanding.{last_target}
use Rattle.dx_graph.specs.Graph.{Node}
use Rattle.dx_graph.specs.Operands.{operand_tree, OperandFits, OptionFits, Own, OwnFits, meaning, scope_with, Means}
use Rattle.dx_graph.specs.declared.operand.Operand.{Operand}

meaning_by : (nodes : List Node) (b : Bool) (o : Operand) (old : Option Operand) (top : Tree) → meaning nodes (if b then Some o else old) top ≡ (if b then operand_tree nodes o else meaning nodes old top)
meaning_by nodes true o old top = refl
meaning_by nodes false o old top = refl

-- one name more
pub scope_put : (nodes : List Node) (old new : Own) (name : Text) (o : Operand) (t : Tree) (top : plain.Scope) → new ≡ changed_at old name (Some o) → operand_tree nodes o ≡ t →
    scope_with nodes new top ≡ plain.with_name name t (scope_with nodes old top)
scope_put nodes old new name o t top e h =
    let each : (n : Text) → scope_with nodes (changed_at old name (Some o)) top n ≡ plain.with_name name (operand_tree nodes o) (scope_with nodes old top) n = λ n. meaning_by nodes (bytes_eq name n) o (old n) (top n) in
    ap (λ (own : Own). scope_with nodes own top) e ∙ (λ i n. each n i) ∙ ap (λ (u : Tree). plain.with_name name u (scope_with nodes old top)) h

fits_by : (nodes : List Node) (b : Bool) (o : Operand) (old : Option Operand) → OperandFits nodes o → OptionFits nodes old → OptionFits nodes (if b then Some o else old)
fits_by nodes true o old h g = h
fits_by nodes false o old h g = g

pub fits_put : (nodes : List Node) (old new : Own) (name : Text) (o : Operand) → new ≡ changed_at old name (Some o) → OperandFits nodes o → OwnFits nodes old → OwnFits nodes new
fits_put nodes old new name o e h all = subst (λ (own : Own). OwnFits nodes own) (sym e) (λ n. fits_by nodes (bytes_eq name n) o (old n) h (all n))

-- ---- the last target of a name

target_by : (b : Bool) (i found : ℕ) (f : ℕ → Tree) (t : Tree) → t ≡ f found → (if b then f i else t) ≡ f (if b then i else found)
target_by true i found f t e = refl
target_by false i found f t e = e

assigned_found : (ts : List Text) (i found : ℕ) (f : ℕ → Tree) (scope : plain.Scope) (n : Text) → scope n ≡ f found → plain.assigned ts i f scope n ≡ f (last_target ts i found n)
assigned_found [] i found f scope n e = e
assigned_found (t ∷ ts) i found f scope n e =
    assigned_found ts (suc i) (if bytes_eq t n then i else found) f (plain.with_name t (f i) scope) n (target_by (bytes_eq t n) i found f (scope n) e)

named_by : (b rest : Bool) (t : Text) (ts : List Text) (i found : ℕ) (f : ℕ → Tree) (scope : plain.Scope) (n : Text) → bytes_eq t n ≡ b → (b || rest) ≡ true →
    (rest ≡ true → plain.assigned ts (suc i) f (plain.with_name t (f i) scope) n ≡ f (last_target ts (suc i) found n)) →
    plain.assigned ts (suc i) f (plain.with_name t (f i) scope) n ≡ f (last_target ts (suc i) (if b then i else found) n)
named_by true rest t ts i found f scope n h e go = assigned_found ts (suc i) i f (plain.with_name t (f i) scope) n (rw h refl)
named_by false rest t ts i found f scope n h e go = go e

-- where a name is a target, what it meant before doesn't matter
pub assigned_named : (ts : List Text) (i found : ℕ) (f : ℕ → Tree) (scope : plain.Scope) (n : Text) → has ts n ≡ true → plain.assigned ts i f scope n ≡ f (last_target ts i found n)
assigned_named [] i found f scope n e = cc
assigned_named (t ∷ ts) i found f scope n e = named_by (bytes_eq t n) (has ts n) t ts i found f scope n refl e (λ h. assigned_named ts (suc i) found f (plain.with_name t (f i) scope) n h)

not_by : (b rest : Bool) (t u : Tree) → (b || rest) ≡ false → (if b then t else u) ≡ u
not_by true rest t u e = cc
not_by false rest t u e = refl

rest_by : (b rest : Bool) → (b || rest) ≡ false → rest ≡ false
rest_by true rest e = cc
rest_by false rest e = e

pub not_assigned : (ts : List Text) (i : ℕ) (f : ℕ → Tree) (scope : plain.Scope) (n : Text) → has ts n ≡ false → plain.assigned ts i f scope n ≡ scope n
not_assigned [] i f scope n e = refl
not_assigned (t ∷ ts) i f scope n e =
    not_assigned ts (suc i) f (plain.with_name t (f i) scope) n (rest_by (bytes_eq t n) (has ts n) e)
    ∙ not_by (bytes_eq t n) (has ts n) (f i) (scope n) e

-- ---- lists of names, one at a time

pub assigned_step : (ts : List Text) (i : ℕ) (t name : Text) (f : ℕ → Tree) (old new : plain.Scope) → i < length ts → t ≡ get_or ts i t → name ≡ t → new ≡ plain.with_name name (f i) old →
    plain.assigned (drop (i + 1) ts) (i + 1) f new ≡ plain.assigned (drop i ts) i f old
assigned_step ts i t name f old new h is same e =
    let next : i + 1 ≡ suc i = omega arith in
    ap (λ (s : plain.Scope). plain.assigned (drop (i + 1) ts) (i + 1) f s) (e ∙ ap (λ (n : Text). plain.with_name n (f i) old) same)
    ∙ ap (λ (k : ℕ). plain.assigned (drop (i + 1) ts) k f (plain.with_name t (f i) old)) next
    ∙ sym (ap (λ (xs : List Text). plain.assigned xs i f old) (drop_more ts i t h ∙ ap (λ (x : Text). x ∷ drop (i + 1) ts) (sym is)))

pub params_step : (ps : List Param) (i : ℕ) (p : Param) (name : Text) (gs : List plain.Given) (old new : plain.Scope) → i < length ps → p ≡ get_or ps i p → name ≡ p.name →
    new ≡ plain.with_name name (plain.or_tree (plain.given_for gs i p.name) (plain.default_tree p.default)) old →
    plain.with_params (drop (i + 1) ps) (i + 1) gs new ≡ plain.with_params (drop i ps) i gs old
params_step ps i p name gs old new h is same e =
    let next : i + 1 ≡ suc i = omega arith in
    let t : Tree = plain.or_tree (plain.given_for gs i p.name) (plain.default_tree p.default) in
    ap (λ (s : plain.Scope). plain.with_params (drop (i + 1) ps) (i + 1) gs s) (e ∙ ap (λ (n : Text). plain.with_name n t old) same)
    ∙ ap (λ (k : ℕ). plain.with_params (drop (i + 1) ps) k gs (plain.with_name p.name t old)) next
    ∙ sym (ap (λ (xs : List Param). plain.with_params xs i gs old) (drop_more ps i p h ∙ ap (λ (x : Param). x ∷ drop (i + 1) ps) (sym is)))

-- ---- what a name means

pub own_means : (nodes : List Node) (own : Own) (top : plain.Scope) (n : Text) (o : Operand) → own n ≡ Some o → OwnFits nodes own → Means nodes o (scope_with nodes own top n)
own_means nodes own top n o e all = record {
  fits = subst (λ (r : Option Operand). OptionFits nodes r) e (all n);
  tree = sym (ap (λ (r : Option Operand). meaning nodes r (top n)) e);
}

pub top_means : (nodes : List Node) (own : Own) (top : plain.Scope) (n : Text) (o : Operand) → own n ≡ None → Means nodes o (top n) → Means nodes o (scope_with nodes own top n)
top_means nodes own top n o e h = record { fits = h.fits; tree = h.tree ∙ sym (ap (λ (r : Option Operand). meaning nodes r (top n)) e) }
