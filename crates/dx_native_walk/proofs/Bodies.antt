-- What a clause means, told by its outline.
use Rattle.std.proofs.Common.{◌≡◌, ℕ, suc, ◌-◌, ◌<◌, List, Option, Some, None, Result, Err, sym, ap, subst, ◌∙◌, arith}
use Rattle.std.specs.Prelude.{slice_get}
use Rattle.dx_base.specs.Array.{ArrayData}
use Rattle.dx_base.specs.Object.{Tree, PartList, array, text}
use Rattle.dx_base.specs.ObjectLimits.{unplaced}
use Rattle.dx_native_grammar.specs.Meaning.{parts_at, attributes_at, listed_tree, listed_at, body_at, clause_at, named_at, tree_at}
use Rattle.dx_native_grammar.specs.declared.clause.Attribute.{Attribute}
use Rattle.dx_native_grammar.specs.declared.clause.Body.{Body}
use Rattle.dx_native_grammar.specs.declared.clause.Body.TheVariants as body
use Rattle.dx_native_grammar.specs.declared.clause.Clause.{Clause}
use Rattle.dx_native_grammar.specs.declared.clause.ListClass.{ListClass}
use Rattle.dx_native_grammar.specs.declared.clause.Part.{Part}
use Rattle.dx_native_meaning.proofs.Somes.{some_is}
use Rattle.dx_native_clauses.specs.Outline.{outline_body, array_in, array_at, IsOutlineAt}
use Rattle.dx_native_walk.proofs.Lists.{attributes_unplaced}
use Rattle.dx_native_walk.proofs.Steps.{made_builds, listed_builds, fails_listed, fails_body, built_exit}
use Rattle.dx_native_walk.specs.Answer.{PartsFail, BuildsObject, Makes_of, content_at}
use Rattle.dx_native_walk.specs.declared.fail.BuildFail.{BuildFail}

pub one_more : (cs : List Clause) (i calls : ℕ) → 0 < calls → tree_at cs calls i ≡ clause_at (calls - 1) (named_at cs (tree_at cs (calls - 1))) (slice_get cs i)
unfolding tree_at
one_more cs i calls some = ap (λ k. tree_at cs k i) (let turn : calls ≡ suc (calls - 1) = omega arith in turn)

-- ---- bodies and their outlines

outline_text : (b : Body) (t : List ℕ) → outline_body b ≡ body.Text t → b ≡ body.Text t
outline_text (body.Array a) t e = absurd cc
outline_text (body.Text u) t e = e
outline_text (body.Parts k ls) t e = absurd cc

outline_parts : (b : Body) (k : ListClass) (ls : List Part) → outline_body b ≡ body.Parts k ls → b ≡ body.Parts k ls
outline_parts (body.Array a) k ls e = absurd cc
outline_parts (body.Text u) k ls e = absurd cc
outline_parts (body.Parts j ms) k ls e = e

module _ (cs : List Clause) (i : ℕ) (c : Clause) (o : IsOutlineAt cs i c) where
  whole_body : (b : Body) → c.content.body ≡ b → outline_body o.0.content.body ≡ b
  whole_body b is = sym (ap (λ (c : Clause). c.content.body) o.2) ∙ is

  whole_attributes : c.content.attributes ≡ o.0.content.attributes
  whole_attributes = ap (λ (c : Clause). c.content.attributes) o.2

  module _ (f : List ℕ → Option Tree) (xs : PartList) (r : Result Tree BuildFail) where
    by_body : (b : Body) → o.0.content.body ≡ b → BuildsObject (body_at f b (Some xs)) r → BuildsObject (content_at f (slice_get cs i) (Some xs)) r
    by_body b is h =
        subst (λ (w : Option Clause). BuildsObject (content_at f w (Some xs)) r) (sym o.1)
        (subst (λ (b : Body). BuildsObject (body_at f b (Some xs)) r) (sym is) h)

    pub text_builds : (t : List ℕ) → c.content.body ≡ body.Text t → Makes_of (text t xs) r → BuildsObject (content_at f (slice_get cs i) (Some xs)) r
    text_builds t is h = by_body (body.Text t) (outline_text o.0.content.body t (whole_body (body.Text t) is)) (made_builds (text t xs) r h)

    pub parts_build : (k : ListClass) (ls lines : List Part) (ps : PartList) → c.content.body ≡ body.Parts k ls → lines ≡ ls → parts_at f lines ≡ Some ps → Makes_of (listed_tree k ps xs) r
        → BuildsObject (content_at f (slice_get cs i) (Some xs)) r
    parts_build k ls lines ps is same e h =
        by_body (body.Parts k ls) (outline_parts o.0.content.body k ls (whole_body (body.Parts k ls) is))
        (listed_builds k (parts_at f ls) ps xs r (sym (ap (parts_at f) same) ∙ e) h)

    pub parts_fail : (k : ListClass) (ls lines : List Part) (e y : BuildFail) → c.content.body ≡ body.Parts k ls → lines ≡ ls → r ≡ Err y → y ≡ e → PartsFail (parts_at f lines) e
        → BuildsObject (content_at f (slice_get cs i) (Some xs)) r
    parts_fail k ls lines e y is same p q h =
        by_body (body.Parts k ls) (outline_parts o.0.content.body k ls (whole_body (body.Parts k ls) is))
        (built_exit (listed_at k (parts_at f ls) xs) r e y p q (fails_listed k (parts_at f ls) xs e (subst (λ (l : List Part). PartsFail (parts_at f l) e) same h)))

  module _ (k : ℕ) (f : List ℕ → Option Tree) (lines : List Attribute) (r : Result Tree BuildFail) (same : lines ≡ c.content.attributes) where
    -- the object of a clause, whose attributes are these
    pub object_builds : (xs : PartList) → attributes_at k f lines ≡ Some xs → BuildsObject (content_at f (slice_get cs i) (Some (unplaced xs))) r → BuildsObject (clause_at k f (slice_get cs i)) r
    object_builds xs e h =
        let all = same ∙ whole_attributes in
        let meant : attributes_at k f o.0.content.attributes ≡ Some xs = sym (ap (attributes_at k f) all) ∙ e in
        let none : attributes_at k f o.0.content.attributes ≡ Some (unplaced xs) = meant ∙ ap (λ (xs : PartList). Some xs) (sym (attributes_unplaced k f o.0.content.attributes xs meant)) in
        subst (λ (w : Option Clause). BuildsObject (clause_at k f w) r) (sym o.1)
        (subst (λ (p : Option PartList). BuildsObject (body_at f o.0.content.body p) r) (sym none) (subst (λ (w : Option Clause). BuildsObject (content_at f w (Some (unplaced xs))) r) o.1 h))

    -- an object whose attributes fail
    pub attributes_fail : (e y : BuildFail) → r ≡ Err y → y ≡ e → PartsFail (attributes_at k f lines) e → BuildsObject (clause_at k f (slice_get cs i)) r
    attributes_fail e y p q h =
        subst (λ (w : Option Clause). BuildsObject (clause_at k f w) r) (sym o.1)
        (built_exit (clause_at k f (Some o.0)) r e y p q
        (fails_body f o.0.content.body (attributes_at k f o.0.content.attributes) e (subst (λ (l : List Attribute). PartsFail (attributes_at k f l) e) (same ∙ whole_attributes) h)))

-- ---- arrays

body_array : (f : List ℕ → Option Tree) (b : Body) (a : ArrayData) (xs : PartList) → array_in b ≡ Some a → body_at f b (Some xs) ≡ Some (array a xs)
body_array f (body.Array b) a xs e = ap (λ (a : ArrayData). Some (array a xs)) (some_is b a e)
body_array f (body.Text t) a xs e = absurd cc
body_array f (body.Parts k ls) a xs e = absurd cc

content_array : (f : List ℕ → Option Tree) (o : Option Clause) (a : ArrayData) (xs : PartList) → array_at o ≡ Some a → content_at f o (Some xs) ≡ Some (array a xs)
content_array f None a xs e = absurd cc
content_array f (Some c) a xs e = body_array f c.content.body a xs e

pub array_builds : (f : List ℕ → Option Tree) (o : Option Clause) (a : ArrayData) (xs : PartList) (r : Result Tree BuildFail) → array_at o ≡ Some a → Makes_of (array a xs) r → BuildsObject (content_at f o (Some xs)) r
array_builds f o a xs r e h = subst (λ (m : Option Tree). BuildsObject m r) (sym (content_array f o a xs e)) (made_builds (array a xs) r h)
