-- The terms of the links that are kept.
use Rattle.std.proofs.Common.{◌≡◌, List, [], ◌∷◌, map, Option, Some, Bool, true, false, refl, sym, ap, ◌∙◌}
use Rattle.std.specs.Prelude.{Ok, option_map, cond, ◌||◌}
use Rattle.std.specs.Map.{lookup}
use Rattle.std.specs.BTreeMap.{is_at}
use Rattle.dx_base.specs.Object.{Tree as Object}
use Rattle.dx_tags.specs.Closed.{ValueTerm}
use Rattle.dx_links.specs.declared.key.Key.{Key}
use Rattle.dx_links.specs.LinkMap.{key_cmp}
use Rattle.dx_links.specs.Denotes.{Around, denotes}
use Rattle.dx_links.specs.Getting.{same_value, has_value}
use Rattle.dx_machine.proofs.SameTerms.{value_is, value_itself}
use Rattle.dx_meaning.specs.Outcome.{Value}
use Rattle.dx_performing.specs.Kept.{Kept, Link, LinkTerms, objects_of}
use Rattle.dx_performing.specs.Course.{Fixed, around_of, world_of}
use Rattle.dx_performing.specs.Meant.{LinksRight}
use Rattle.dx_performing.proofs.Executed.{names_of, term_or_null, denote}
use Rattle.dx_demanded.specs.Found.{AreLinks}

abbrev pub terms_in : LinkTerms → List ValueTerm
terms_in ls = map (λ (l : Key × Link). l.1.term) ls

found_by : (b : Bool) (l : Link) (o : Option Object) (p : Option Link) → o ≡ option_map (λ (x : Link). x.object) p → cond b (Some l.object) o ≡ option_map (λ (x : Link). x.object) (cond b (Some l) p)
found_by true l o p e = refl
found_by false l o p e = e

found : (test : Key → Bool) (ls : LinkTerms) → lookup test (objects_of ls) ≡ option_map (λ (l : Link). l.object) (lookup test ls)
found test [] = refl
found test (l ∷ ls) = found_by (test l.0) l.1 (lookup test (objects_of ls)) (lookup test ls) (found test ls)

pub true_behind : (a b : Bool) → b ≡ true → (a || b) ≡ true
true_behind true b e = refl
true_behind false b e = e

listed_by : (b : Bool) (l : Link) (p : Option Link) (terms : List ValueTerm) (o : Object) → (option_map (λ (x : Link). x.object) p ≡ Some o → has_value terms (term_or_null p) ≡ true) →
    option_map (λ (x : Link). x.object) (cond b (Some l) p) ≡ Some o → has_value (l.term ∷ terms) (term_or_null (cond b (Some l) p)) ≡ true
listed_by true l p terms o f e = ap (λ b. b || has_value terms l.term) (value_itself l.term)
listed_by false l p terms o f e = true_behind (same_value l.term (term_or_null p)) (has_value terms (term_or_null p)) (f e)

listed_at : (test : Key → Bool) (ls : LinkTerms) (o : Object) → option_map (λ (l : Link). l.object) (lookup test ls) ≡ Some o → has_value (terms_in ls) (term_or_null (lookup test ls)) ≡ true
listed_at test [] o e = cc
listed_at test (l ∷ ls) o e = listed_by (test l.0) l.1 (lookup test ls) (terms_in ls) o (listed_at test ls o) e

valued_by : (a : Around) (b : Bool) (l : Link) (t : ValueTerm) (rest : Bool) → same_value l.term t ≡ b → denotes a l.term ≡ Ok (Some l.object) → (rest ≡ true → (v : Value) × (denotes a t ≡ Ok v)) → (b || rest) ≡ true → (v : Value) × (denotes a t ≡ Ok v)
valued_by a true l t rest q r f e = (Some l.object, ap (denotes a) (sym (value_is l.term t q)) ∙ r)
valued_by a false l t rest q r f e = f e

valued : (a : Around) (ls : LinkTerms) → LinksRight a ls → (t : ValueTerm) → has_value (terms_in ls) t ≡ true → (v : Value) × (denotes a t ≡ Ok v)
valued a [] r t e = cc
valued a (l ∷ ls) r t e = valued_by a (same_value l.1.term t) l.1 t (has_value (terms_in ls) t) refl r.0 (valued a ls r.1 t) e

-- they are right, where each denotes its object
pub are_links : (x : Fixed) (k : Kept) → LinksRight (around_of x k) k.links → AreLinks (world_of x k) (names_of k) (terms_in k.links)
are_links x k r = record {
  denote = denote x k r;
  listed = λ key o e. listed_at (is_at (key_cmp key)) k.links o (sym (found (is_at (key_cmp key)) k.links) ∙ e);
  valued = valued (around_of x k) k.links r;
}
