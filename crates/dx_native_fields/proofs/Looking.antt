-- Whether what clauses mean has good fields, part by part.
use Rattle.std.proofs.Common.{◌≡◌, ◌≢◌, ◌⊎◌, inl, inr, ℕ, suc, ◌+◌, ◌-◌, ◌<◌, ◌≤◌, Bool, true, false, List, length, drop, get_or, Option, Some, None, Result, Ok, Err, refl, sym, ap, subst, ◌∙◌, arith, drop_of_length-le, length-set}
use Rattle.std.specs.Prelude.{IfOk, ◌&&◌, slice_get, slice_set, slice_index_or, is_none, ◌==◌}
use Rattle.std.proofs.lemmas.Bool.Decides.{eqb_tells}
use Rattle.std.proofs.lemmas.Bool.{cases_lt}
use Rattle.std.proofs.lemmas.List.{get_or-set_same, get_or-set_other}
use Rattle.std.specs.declared.alloc.AllocError.{AllocError}
use Rattle.dx_base.specs.Object.{Tree, PartList, array, text, field, group, composite, series, no_parts, part, levels}
use Rattle.dx_base.specs.ObjectLimits.{unplaced}
use Rattle.dx_fields.specs.Faults.{field_fault}
use Rattle.dx_fields.specs.declared.check.FieldFault.{FieldFault}
use Rattle.dx_native_grammar.specs.Meaning.{parts_at, attributes_at, listed_tree, body_at, clause_at, named_at, tree_at}
use Rattle.dx_native_grammar.specs.declared.clause.Body.{Body}
use Rattle.dx_native_grammar.specs.declared.clause.Body.TheVariants as body
use Rattle.dx_native_grammar.specs.declared.clause.Clause.{Clause}
use Rattle.dx_native_grammar.specs.declared.clause.ListClass.{ListClass}
use Rattle.dx_native_grammar.specs.declared.clause.ListClass.TheVariants as listing
use Rattle.dx_native_grammar.specs.declared.clause.Part.{Part}
use Rattle.dx_native_meaning.proofs.Levels.{low, deep}
use Rattle.dx_native_meaning.proofs.Somes.{some_is, part_parts, listed_parts}
use Rattle.dx_native_clauses.specs.Outline.{outline_body, IsOutlineAt}
use Rattle.dx_native_walk.proofs.Lists.{parts_opened}
use Rattle.dx_native_fields.specs.Good.{good_fields, all_good}
use Rattle.dx_native_fields.specs.Marked.{lines_of, lines_of_body, Tells, TellsAll, GoodAt, AreMarked}

-- ---- the lines of a clause

lines_outline : (b : Body) → lines_of_body (outline_body b) ≡ lines_of_body b
lines_outline (body.Array a) = refl
lines_outline (body.Text b) = refl
lines_outline (body.Parts k ls) = refl

-- the outline of a clause has the clause's lines
pub lines_at : (cs : List Clause) (i : ℕ) (c : Clause) → IsOutlineAt cs i c → lines_of_body c.content.body ≡ lines_of (slice_get cs i)
lines_at cs i c o = ap (λ (c : Clause). lines_of_body c.content.body) o.2 ∙ lines_outline o.0.content.body ∙ sym (ap lines_of o.1)

-- ---- parts one after the other

-- whether all parts are good is whether those from this line on are
abbrev pub AreGoodBefore : (List ℕ → Option Tree) → List Part → ℕ → Type 0
AreGoodBefore f ls i = (ps : PartList) → parts_at f ls ≡ Some ps → (qs : PartList) × (parts_at f (drop i ls) ≡ Some qs) × (all_good ps ≡ all_good qs)

pub none_before : (f : List ℕ → Option Tree) (ls : List Part) → AreGoodBefore f ls 0
none_before f ls ps e = (ps, e, refl)

first_of : (f : List ℕ → Option Tree) (ls : List Part) (i : ℕ) (l : Part) (b : Bool) → i < length ls → l ≡ get_or ls i l → Tells (f l.target.text) b → AreGoodBefore f ls i → (ps : PartList) → parts_at f ls ≡ Some ps
    → (rs : PartList) × (parts_at f (drop (i + 1) ls) ≡ Some rs) × (all_good ps ≡ (b && all_good rs))
first_of f ls i l b below item tells before ps e =
    let r = before ps e in
    let q = part_parts l.name l.position (f l.target.text) (parts_at f (drop (i + 1) ls)) r.0 (sym (parts_opened f ls i l below item) ∙ r.1) in
    (q.1, q.3, r.2 ∙ ap all_good (sym q.4) ∙ ap (λ b. b && all_good q.1) (sym (tells q.0 q.2)))

pub one_before : (f : List ℕ → Option Tree) (ls : List Part) (i : ℕ) (l : Part) (b : Bool) → i < length ls → l ≡ get_or ls i l → Tells (f l.target.text) b → b ≡ true → AreGoodBefore f ls i → AreGoodBefore f ls (i + 1)
one_before f ls i l b below item tells good before ps e =
    let r = first_of f ls i l b below item tells before ps e in
    (r.0, r.1, r.2 ∙ ap (λ b. b && all_good r.0) good)

pub not_good : (f : List ℕ → Option Tree) (ls : List Part) (i : ℕ) (l : Part) (b : Bool) → i < length ls → l ≡ get_or ls i l → Tells (f l.target.text) b → b ≡ false → AreGoodBefore f ls i → TellsAll (parts_at f ls) false
not_good f ls i l b below item tells bad before ps e =
    let r = first_of f ls i l b below item tells before ps e in
    sym (r.2 ∙ ap (λ b. b && all_good r.0) bad)

pub all_before : (f : List ℕ → Option Tree) (ls : List Part) (i : ℕ) → length ls ≤ i → AreGoodBefore f ls i → TellsAll (parts_at f ls) true
all_before f ls i past before ps e =
    let r = before ps e in
    let none : r.0 ≡ no_parts = some_is r.0 no_parts (sym r.1 ∙ ap (parts_at f) (drop_of_length-le ls past)) in
    sym (r.2 ∙ ap all_good none)

-- ---- one object

good_unplaced : (ps : PartList) → all_good (unplaced ps) ≡ all_good ps
good_unplaced no_parts = refl
good_unplaced (part n z t ps) = ap (λ b. good_fields t && b) (good_unplaced ps)

-- a field with a fault
pub faulty : (t : Tree) (fault : FieldFault) → field_fault t ≡ Some fault → false ≡ good_fields t
faulty (array a xs) fault e = absurd cc
faulty (text b xs) fault e = absurd cc
faulty (field ps xs) fault e = sym (ap (λ o. is_none o && all_good ps) e)
faulty (group ps xs) fault e = absurd cc
faulty (composite ps xs) fault e = absurd cc
faulty (series ps xs) fault e = absurd cc

listed_good : (k : ListClass) (ps xs : PartList) → field_fault (listed_tree k ps xs) ≡ None → all_good ps ≡ good_fields (listed_tree k ps xs)
listed_good listing.Field ps xs e = sym (ap (λ o. is_none o && all_good (unplaced ps)) e ∙ good_unplaced ps)
listed_good listing.Group ps xs e = sym (good_unplaced ps)
listed_good listing.Composite ps xs e = sym (good_unplaced ps)
listed_good listing.Series ps xs e = refl

body_good : (f : List ℕ → Option Tree) (b : Body) (o : Option PartList) (t : Tree) (good : Bool) → body_at f b o ≡ Some t → field_fault t ≡ None → TellsAll (parts_at f (lines_of_body b)) good → good ≡ good_fields t
body_good f b None t good e h tells = absurd cc
body_good f (body.Array a) (Some xs) t good e h tells = tells no_parts refl ∙ ap good_fields (some_is (array a xs) t e)
body_good f (body.Text b) (Some xs) t good e h tells = tells no_parts refl ∙ ap good_fields (some_is (text b xs) t e)
body_good f (body.Parts k ls) (Some xs) t good e h tells =
    let q = listed_parts k (parts_at f ls) xs t e in
    tells q.0 q.1 ∙ listed_good k q.0 xs (ap field_fault q.2 ∙ h) ∙ ap good_fields q.2

-- an object that is no field with a fault has good fields where its parts have
pub clause_good : (k : ℕ) (f : List ℕ → Option Tree) (c : Option Clause) (t : Tree) (good : Bool) → clause_at k f c ≡ Some t → field_fault t ≡ None → TellsAll (parts_at f (lines_of c)) good → good ≡ good_fields t
clause_good k f None t good e h tells = absurd cc
clause_good k f (Some c) t good e h tells = body_good f c.content.body (attributes_at k f c.content.attributes) t good e h tells

pub object_tells : (k : ℕ) (f : List ℕ → Option Tree) (c : Option Clause) (t : Tree) (lines : List Part) (r : Result Bool AllocError) → clause_at k f c ≡ Some t → field_fault t ≡ None → lines ≡ lines_of c
    → IfOk r (λ good. TellsAll (parts_at f lines) good) → IfOk r (λ good. good ≡ good_fields t)
object_tells k f c t lines (Ok good) e h same tells = clause_good k f c t good e h (subst (λ (ls : List Part). TellsAll (parts_at f ls) good) same tells)
object_tells k f c t lines (Err failed) e h same tells = tt

-- ---- clauses

pub nothing_meant : (meant : Option Tree) (good : Bool) → meant ≡ None → Tells meant good
nothing_meant meant good none t e = let absent = sym none ∙ e in absurd cc

pub one_level : (cs : List Clause) (i calls : ℕ) (t : Tree) → 0 < calls → tree_at cs calls i ≡ Some t → clause_at (calls - 1) (named_at cs (tree_at cs (calls - 1))) (slice_get cs i) ≡ Some t
unfolding tree_at
one_level cs i calls t some e = ap (λ k. tree_at cs k i) (let turn : suc (calls - 1) ≡ calls = omega arith in turn) ∙ e

-- what a clause means is told by the object that was built of it
pub told : (meant : Option Tree) (t : Tree) (good : Bool) → meant ≡ Some t → good ≡ good_fields t → Tells meant good
told meant t good e h u p = h ∙ ap good_fields (some_is t u (sym e ∙ p))

-- ---- marks

by_levels : (cs : List Clause) (i k calls : ℕ) (t u : Tree) → tree_at cs calls i ≡ Some t → tree_at cs k i ≡ Some u → ((calls < levels u) ⊎ (levels u ≤ calls)) → t ≡ u
by_levels cs i k calls t u e p (inl less) = let none = deep cs k calls i u p less in absurd cc
by_levels cs i k calls t u e p (inr enough) = some_is t u (sym e ∙ low cs k calls i u p enough)

same_tree : (cs : List Clause) (i k calls : ℕ) (t u : Tree) → tree_at cs calls i ≡ Some t → tree_at cs k i ≡ Some u → t ≡ u
same_tree cs i k calls t u e p = by_levels cs i k calls t u e p (cases_lt calls (levels u))

marked_at : (cs : List Clause) (marks : List Bool) (i calls : ℕ) (t : Tree) → AreMarked cs marks → i < length marks → tree_at cs calls i ≡ Some t → good_fields t ≡ true → (j : ℕ) → (((j == i) ≡ true) × (j ≡ i)) ⊎ (((j == i) ≡ false) × (j ≢ i))
    → GoodAt cs j (get_or (slice_set marks i true) j false)
marked_at cs marks i calls t h l e good j (inl p) =
    subst (λ (j : ℕ). GoodAt cs j (get_or (slice_set marks i true) j false)) (sym p.1)
    (subst (λ (b : Bool). GoodAt cs i b) (sym (get_or-set_same marks i true false l)) (λ k u q. ap good_fields (sym (same_tree cs i k calls t u e q)) ∙ good))
marked_at cs marks i calls t h l e good j (inr p) = subst (λ (b : Bool). GoodAt cs j b) (sym (get_or-set_other marks i j true false p.1)) (h.each j)

pub marked : (cs : List Clause) (marks : List Bool) (i calls : ℕ) (t : Tree) → AreMarked cs marks → i < length marks → tree_at cs calls i ≡ Some t → good_fields t ≡ true → AreMarked cs (slice_set marks i true)
marked cs marks i calls t h l e good = record {
  many = length-set marks i true ∙ h.many;
  each = λ j. marked_at cs marks i calls t h l e good j (eqb_tells j i);
}

pub marked_by : (cs : List Clause) (marks : List Bool) (i calls : ℕ) (t : Tree) (good : Bool) → AreMarked cs marks → i < length marks → tree_at cs calls i ≡ Some t → good ≡ good_fields t → good ≡ true → AreMarked cs (slice_set marks i true)
marked_by cs marks i calls t good h l e same is = marked cs marks i calls t h l e (sym same ∙ is)

pub good_if_marked : (cs : List Clause) (marks : List Bool) (i calls : ℕ) (t : Tree) → AreMarked cs marks → slice_index_or marks i false ≡ true → tree_at cs calls i ≡ Some t → Tells (tree_at cs calls i) true
good_if_marked cs marks i calls t h m e u p = sym (subst (λ (b : Bool). GoodAt cs i b) m (h.each i) calls u p)
