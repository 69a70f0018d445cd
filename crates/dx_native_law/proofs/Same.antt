-- The offsets of words don't matter to what clauses mean.
use Rattle.std.proofs.Common.{◌≡◌, ℕ, zero, suc, ◌+◌, ◌-◌, ◌<◌, ◌≤◌, Bool, true, false, cond, List, [], ◌∷◌, ◌++◌, length, map, Option, Some, None, ℤ, pos, refl, sym, ap, ◌∙◌, subst, arith}
use Rattle.std.specs.Prelude.{bytes_eq, slice_get, position, option_map, nat_le}
use Rattle.dx_base.specs.Object.{Tree, PartList}
use Rattle.dx_base.specs.declared.code.NativeKind.TheVariants as fault
use Rattle.dx_native_lex.specs.Token.{error}
use Rattle.dx_native_lex.specs.declared.fault.NativeError.{NativeError}
use Rattle.dx_native_lex.specs.declared.token.Named.{Named}
use Rattle.dx_native_grammar.specs.declared.clause.Attribute.{Attribute}
use Rattle.dx_native_grammar.specs.declared.clause.Body.{Body}
use Rattle.dx_native_grammar.specs.declared.clause.Body.TheVariants as body
use Rattle.dx_native_grammar.specs.declared.clause.Clause.{Clause}
use Rattle.dx_native_grammar.specs.declared.clause.Content.{Content}
use Rattle.dx_native_grammar.specs.declared.clause.Given.{Given}
use Rattle.dx_native_grammar.specs.declared.clause.Given.TheVariants as value
use Rattle.dx_native_grammar.specs.declared.clause.ListClass.{ListClass}
use Rattle.dx_native_grammar.specs.declared.clause.ListClass.TheVariants as listing
use Rattle.dx_native_grammar.specs.declared.clause.Part.{Part}
use Rattle.dx_native_grammar.specs.Names.{clause_names}
use Rattle.dx_native_grammar.specs.Meaning.{place_of, earlier, unknown, unfit, is_array_body, is_field_class, is_field_body, has_body, part_fault, parts_fault, given_fault, attributes_fault, body_fault, content_fault, clauses_fault, with_part, parts_at, given_at, attributes_at, listed_at, body_at, clause_at, at_place, named_at, tree_at}
use Rattle.dx_native_law.proofs.Erased.{unplaced, erased_given, erased_attribute, erased_part, erased_body, erased_content, erased_clause}

-- ---- trees

names_same : (cs : List Clause) → clause_names (map erased_clause cs) ≡ clause_names cs
names_same [] = refl
names_same (c ∷ cs) = ap (λ ns. c.name.text ∷ ns) (names_same cs)

get_same : (cs : List Clause) (i : ℕ) → slice_get (map erased_clause cs) i ≡ option_map erased_clause (slice_get cs i)
get_same [] i = refl
get_same (c ∷ cs) zero = refl
get_same (c ∷ cs) (suc i) = get_same cs i

given_same : (lev : ℕ) (meant : List ℕ → Option Tree) (g : Given) → given_at lev meant (erased_given g) ≡ given_at lev meant g
given_same zero meant g = refl
given_same (suc lev) meant (value.Text b) = refl
given_same (suc lev) meant (value.Number z) = refl
given_same (suc lev) meant (value.Object r) = refl

attributes_same : (lev : ℕ) (meant : List ℕ → Option Tree) (xs : List Attribute) → attributes_at lev meant (map erased_attribute xs) ≡ attributes_at lev meant xs
attributes_same lev meant [] = refl
attributes_same lev meant (a ∷ xs) =
    ap (λ (o : Option Tree). with_part (Some a.name) (pos 0) o (attributes_at lev meant (map erased_attribute xs))) (given_same lev meant a.value)
    ∙ ap (λ (o : Option PartList). with_part (Some a.name) (pos 0) (given_at lev meant a.value) o) (attributes_same lev meant xs)

parts_same : (meant : List ℕ → Option Tree) (ps : List Part) → parts_at meant (map erased_part ps) ≡ parts_at meant ps
parts_same meant [] = refl
parts_same meant (p ∷ ps) = ap (λ (o : Option PartList). with_part p.name p.position (meant p.target.text) o) (parts_same meant ps)

body_same : (meant : List ℕ → Option Tree) (b : Body) (o : Option PartList) → body_at meant (erased_body b) o ≡ body_at meant b o
body_same meant b None = refl
body_same meant (body.Array a) (Some xs) = refl
body_same meant (body.Text b) (Some xs) = refl
body_same meant (body.Parts k ps) (Some xs) = ap (λ (o : Option PartList). listed_at k o xs) (parts_same meant ps)

clause_same : (lev : ℕ) (meant : List ℕ → Option Tree) (o : Option Clause) → clause_at lev meant (option_map erased_clause o) ≡ clause_at lev meant o
clause_same lev meant None = refl
clause_same lev meant (Some c) = body_same meant c.content.body (attributes_at lev meant (map erased_attribute c.content.attributes)) ∙ ap (body_at meant c.content.body) (attributes_same lev meant c.content.attributes)

named_same : (cs : List Clause) (f : ℕ → Option Tree) → named_at (map erased_clause cs) f ≡ named_at cs f
named_same cs f = ap {B = List ℕ → Option Tree} (λ (ns : List (List ℕ)) (name : List ℕ). at_place f (position (bytes_eq name) ns)) (names_same cs)

pub tree_same : (cs : List Clause) (lev i : ℕ) → tree_at (map erased_clause cs) lev i ≡ tree_at cs lev i
unfolding tree_at
tree_same cs zero i = refl
tree_same cs (suc lev) i =
    let all = map erased_clause cs in
    let each : tree_at all lev ≡ tree_at cs lev = λ x j. tree_same cs lev j x in
    ap (λ (f : ℕ → Option Tree). clause_at lev (named_at all f) (slice_get all i)) each
    ∙ ap (λ (m : List ℕ → Option Tree). clause_at lev m (slice_get all i)) (named_same cs (tree_at cs lev))
    ∙ ap (clause_at lev (named_at cs (tree_at cs lev))) (get_same cs i)
    ∙ clause_same lev (named_at cs (tree_at cs lev)) (slice_get cs i)

-- ---- faults of references

no_by : (t : Bool) (e g : NativeError) → cond {A = Option NativeError} t (Some e) (Some g) ≡ None → ⊥
no_by true e g h = cc
no_by false e g h = cc

pub first_none : (x y : Option NativeError) → earlier x y ≡ None → x ≡ None
first_none None y h = refl
first_none (Some e) None h = absurd cc
first_none (Some e) (Some g) h = absurd (no_by (nat_le e.at g.at) e g h)

pub second_none : (x y : Option NativeError) → earlier x y ≡ None → y ≡ None
second_none None y h = h
second_none (Some e) None h = refl
second_none (Some e) (Some g) h = absurd (no_by (nat_le e.at g.at) e g h)

pub both_none : (x y : Option NativeError) → x ≡ None → y ≡ None → earlier x y ≡ None
both_none x y h g = ap (λ (x : Option NativeError). earlier x y) h ∙ g

unknown_same : (o : Option ℕ) (a b : ℕ) → unknown o a ≡ None → unknown o b ≡ None
unknown_same None a b h = absurd cc
unknown_same (Some i) a b h = refl

array_body : (b : Body) → is_array_body (erased_body b) ≡ is_array_body b
array_body (body.Array a) = refl
array_body (body.Text b) = refl
array_body (body.Parts k ps) = refl

field_body : (b : Body) → is_field_body (erased_body b) ≡ is_field_body b
field_body (body.Array a) = refl
field_body (body.Text b) = refl
field_body (body.Parts k ps) = refl

kind_same : (kind : Body → Bool) → ((b : Body) → kind (erased_body b) ≡ kind b) → (o : Option Clause) → has_body kind (option_map erased_clause o) ≡ has_body kind o
kind_same kind keeps None = refl
kind_same kind keeps (Some c) = keeps c.content.body

unfit_by : (t : Bool) (e f : NativeError) → cond {A = Option NativeError} t None (Some e) ≡ None → cond {A = Option NativeError} t None (Some f) ≡ None
unfit_by true e f h = refl
unfit_by false e f h = absurd cc

unfit_same : (kind : Body → Bool) → ((b : Body) → kind (erased_body b) ≡ kind b) → (cs : List Clause) (o : Option ℕ) (a b : ℕ) → unfit kind (map erased_clause cs) o a ≡ None → unfit kind cs o b ≡ None
unfit_same kind keeps cs None a b h = absurd cc
unfit_same kind keeps cs (Some i) a b h =
    let t : has_body kind (slice_get (map erased_clause cs) i) ≡ has_body kind (slice_get cs i) = ap (has_body kind) (get_same cs i) ∙ kind_same kind keeps (slice_get cs i) in
    unfit_by (has_body kind (slice_get cs i)) (error fault.BadPart a) (error fault.BadPart b) (ap (λ t. cond {A = Option NativeError} t None (Some (error fault.BadPart a))) (sym t) ∙ h)

place_same : (cs : List Clause) (w : List ℕ) → place_of (map erased_clause cs) w ≡ place_of cs w
place_same cs w = ap (position (bytes_eq w)) (names_same cs)

part_none : (cs : List Clause) (k : ListClass) (r : Named) → part_fault (map erased_clause cs) k (unplaced r.text) ≡ None → part_fault cs k r ≡ None
part_none cs listing.Field r h = unfit_same is_array_body array_body cs (place_of cs r.text) 0 r.at (ap (λ o. unfit is_array_body (map erased_clause cs) o 0) (sym (place_same cs r.text)) ∙ h)
part_none cs listing.Group r h = unknown_same (place_of cs r.text) 0 r.at (ap (λ o. unknown o 0) (sym (place_same cs r.text)) ∙ h)
part_none cs listing.Composite r h = unfit_same is_field_body field_body cs (place_of cs r.text) 0 r.at (ap (λ o. unfit is_field_body (map erased_clause cs) o 0) (sym (place_same cs r.text)) ∙ h)
part_none cs listing.Series r h = unknown_same (place_of cs r.text) 0 r.at (ap (λ o. unknown o 0) (sym (place_same cs r.text)) ∙ h)

parts_none : (cs : List Clause) (k : ListClass) (ps : List Part) → parts_fault (map erased_clause cs) k (map erased_part ps) ≡ None → parts_fault cs k ps ≡ None
parts_none cs k [] h = refl
parts_none cs k (p ∷ ps) h =
    let all = map erased_clause cs in
    both_none (part_fault cs k p.target) (parts_fault cs k ps) (part_none cs k p.target (first_none (part_fault all k (unplaced p.target.text)) (parts_fault all k (map erased_part ps)) h))
    (parts_none cs k ps (second_none (part_fault all k (unplaced p.target.text)) (parts_fault all k (map erased_part ps)) h))

given_none : (cs : List Clause) (g : Given) → given_fault (map erased_clause cs) (erased_given g) ≡ None → given_fault cs g ≡ None
given_none cs (value.Text b) h = refl
given_none cs (value.Number z) h = refl
given_none cs (value.Object r) h = part_none cs listing.Group r h

attributes_none : (cs : List Clause) (xs : List Attribute) → attributes_fault (map erased_clause cs) (map erased_attribute xs) ≡ None → attributes_fault cs xs ≡ None
attributes_none cs [] h = refl
attributes_none cs (a ∷ xs) h =
    let all = map erased_clause cs in
    both_none (given_fault cs a.value) (attributes_fault cs xs) (given_none cs a.value (first_none (given_fault all (erased_given a.value)) (attributes_fault all (map erased_attribute xs)) h))
    (attributes_none cs xs (second_none (given_fault all (erased_given a.value)) (attributes_fault all (map erased_attribute xs)) h))

body_none : (cs : List Clause) (b : Body) → body_fault (map erased_clause cs) (erased_body b) ≡ None → body_fault cs b ≡ None
body_none cs (body.Array a) h = refl
body_none cs (body.Text b) h = refl
body_none cs (body.Parts k ps) h = parts_none cs k ps h

-- where the clauses without offsets have no fault, these have none
pub clauses_none : (cs rest : List Clause) → clauses_fault (map erased_clause cs) (map erased_clause rest) ≡ None → clauses_fault cs rest ≡ None
clauses_none cs [] h = refl
clauses_none cs (c ∷ rest) h =
    let all = map erased_clause cs in
    let x = erased_content c.content in
    let more = clauses_fault all (map erased_clause rest) in
    let one = first_none (content_fault all x) more h in
    both_none (content_fault cs c.content) (clauses_fault cs rest)
    (both_none (body_fault cs c.content.body) (attributes_fault cs c.content.attributes) (body_none cs c.content.body (first_none (body_fault all x.body) (attributes_fault all x.attributes) one))
    (attributes_none cs c.content.attributes (second_none (body_fault all x.body) (attributes_fault all x.attributes) one)))
    (clauses_none cs rest (second_none (content_fault all x) more h))
