-- Behind each execution a link's object is what its term denotes, and so is each object that was set.
use Rattle.std.proofs.Common.{◌≡◌, ℕ, suc, ◌+◌, List, [], ◌∷◌, ◌++◌, map, Option, Some, None, is_some, Bool, true, false, sym, ap, ◌∙◌, arith}
use Rattle.std.specs.Prelude.{Result, Ok, Err, option_map, if◌then◌else◌, cond}
use Rattle.std.specs.Map.{remove_entry}
use Rattle.std.specs.BTreeMap.{insert_entry, is_at}
use Rattle.std.specs.Ordering.{match_ordering}
use Rattle.std.specs.declared.cmp.Ordering.{Ordering}
use Rattle.std.specs.declared.cmp.Ordering.TheVariants.{Less, Equal, Greater}
use Rattle.dx_base.specs.Object.{Tree as Object}
use Rattle.dx_base.specs.declared.code.Code.{Code}
use Rattle.dx_base.specs.declared.function.Effect.{Effect}
use Rattle.dx_base.specs.declared.function.Effect.TheVariants as effect
use Rattle.dx_base.specs.declared.function.Function.TheVariants as function
use Rattle.dx_macros.specs.Tree.{Place, CallTree, TreeCall, Trees, NoTree, AndTree}
use Rattle.dx_objects.specs.Runs.{Values, Answer}
use Rattle.dx_objects.specs.Values.{value_at}
use Rattle.dx_tags.specs.Closed.{ValueTerm, ValueTerms}
use Rattle.dx_links.specs.declared.key.Key.{Key}
use Rattle.dx_links.specs.declared.key.Key.TheVariants as key
use Rattle.dx_links.specs.LinkMap.{key_cmp}
use Rattle.dx_links.specs.Denotes.{Around, denotes, denoted_beside, all_denote}
use Rattle.dx_print.specs.Printed.{print_of}
use Rattle.dx_meaning.specs.Outcome.{Value, Decided, Val, ErrAt, Off, HaltAt}
use Rattle.dx_meaning.specs.Meaning.{outcomes, together}
use Rattle.dx_meaning.specs.Picking.{key_in}
use Rattle.dx_meaning.specs.Term.{term_at, term_of, terms_of, Agrees}
use Rattle.dx_meaning.proofs.Terms.{tree_right}
use Rattle.dx_performing.specs.Acts.{act, printing, setting, set_of, text_in, object_in, name_in, format_code, putting, export_of}
use Rattle.dx_performing.specs.Execution.{Execution, execution}
use Rattle.dx_performing.specs.Kept.{Kept, Link, LinkTerms, SetTerm, set_terms, put_term, after_set_terms, held_links, is_full, emptied}
use Rattle.dx_performing.specs.Course.{Fixed, At, Came, world_of, around_of, sight_of, begins, came, sets_by, ends_by, look_at, worked, unless, course, committed, unless_full}
use Rattle.dx_performing.specs.Meant.{CameSo, LinksRight}
use Rattle.dx_performing.specs.SoundLinks.{LinkRight, SetsRight, SetsAreRight, LinksStayRight}
use Rattle.dx_performing.proofs.Meant.{effect_comes, all_agree, no_file_first}
use Rattle.dx_performing.proofs.Executed.{names_of, full, denote}

rights-append : (a : Around) (xs ys : List SetTerm) → SetsRight a xs → SetsRight a ys → SetsRight a (xs ++ ys)
rights-append a [] ys p q = q
rights-append a (x ∷ xs) ys p q = (p.0, rights-append a xs ys p.1 q)

-- ---- links after Sets

ordered_right : (a : Around) (o : Ordering) (k : Key) (x : Link) (l : Key × Link) (ls rest : LinkTerms) → denotes a x.term ≡ Ok (Some x.object) → LinksRight a (l ∷ ls) → LinksRight a rest → LinksRight a (match_ordering o ((k, x) ∷ l ∷ ls) ((l.0, x) ∷ ls) (l ∷ rest))
ordered_right a Less k x l ls rest h r q = (h, r)
ordered_right a Equal k x l ls rest h r q = (h, r.1)
ordered_right a Greater k x l ls rest h r q = (r.0, q)

inserted_right : (a : Around) (ls : LinkTerms) (k : Key) (x : Link) → denotes a x.term ≡ Ok (Some x.object) → LinksRight a ls → LinksRight a (insert_entry key_cmp ls k x)
inserted_right a [] k x h r = (h, tt)
inserted_right a (l ∷ ls) k x h r = ordered_right a (key_cmp k l.0) k x l ls (insert_entry key_cmp ls k x) h r (inserted_right a ls k x h r.1)

kept_right : (a : Around) (b : Bool) (l : Key × Link) (ls rest : LinkTerms) → LinksRight a (l ∷ ls) → LinksRight a rest → LinksRight a (cond b ls (l ∷ rest))
kept_right a true l ls rest r q = r.1
kept_right a false l ls rest r q = (r.0, q)

removed_right : (a : Around) (test : Key → Bool) (ls : LinkTerms) → LinksRight a ls → LinksRight a (remove_entry test ls)
removed_right a test [] r = tt
removed_right a test (l ∷ ls) r = kept_right a (test l.0) l ls (remove_entry test ls) r (removed_right a test ls r.1)

put_right : (a : Around) (ls : LinkTerms) (k : Key) (o : Option Link) → LinkRight a o → LinksRight a ls → LinksRight a (put_term ls k o)
put_right a ls k (Some x) h r = inserted_right a ls k x h r
put_right a ls k None h r = removed_right a (is_at (key_cmp k)) ls r

sets_right : (a : Around) (ls : LinkTerms) (ss : List SetTerm) → SetsRight a ss → LinksRight a ls → LinksRight a (after_set_terms ls ss)
sets_right a ls [] h r = r
sets_right a ls (s ∷ ss) h r = sets_right a (put_term ls s.key s.link) ss h.1 (put_right a ls s.key s.link h.0 r)

-- ---- the Sets of an effect

value_right : (a : Around) (t : ValueTerm) (v : Value) → denotes a t ≡ Ok v → LinkRight a (option_map (λ (o : Object). record { object = o; term = t }) v)
value_right a t None h = tt
value_right a t (Some o) h = h

setting_right : (a : Around) (to_key : List ℕ → Key) (ts : ValueTerms) (v : Value) → denotes a (term_at ts 0) ≡ Ok v → (o : Option (List ℕ)) → SetsRight a (set_terms (setting to_key v o) ts)
setting_right a to_key ts v h (Some name) = (value_right a (term_at ts 0) v h, tt)
setting_right a to_key ts v h None = tt

-- the first term denotes the first value
abbrev FirstDenotes : Around → ValueTerms → Values → Type 0
FirstDenotes a ts [] = Unit {0}
FirstDenotes a ts (v ∷ vs) = denotes a (term_at ts 0) ≡ Ok v

set_right : (a : Around) (to_key : List ℕ → Key) (ts : ValueTerms) (vs : Values) → FirstDenotes a ts vs → SetsRight a (set_terms (set_of to_key vs) ts)
set_right a to_key ts [] h = tt
set_right a to_key ts (v ∷ []) h = tt
set_right a to_key ts (v ∷ link ∷ []) h = setting_right a to_key ts v h (text_in link)
set_right a to_key ts (v ∷ link ∷ w ∷ rest) h = tt

print_sets : (a : Around) (ts : ValueTerms) (r : Result (List ℕ) Code) → SetsRight a (set_terms (printing r) ts)
print_sets a ts (Ok text) = tt
print_sets a ts (Err code) = tt

put_sets : (a : Around) (ts : ValueTerms) (object : Result Object Code) (name : Result (List ℕ) Code) (format : Option Code) → SetsRight a (set_terms (putting object name format) ts)
put_sets a ts (Err code) name format = tt
put_sets a ts (Ok object) (Err code) format = tt
put_sets a ts (Ok object) (Ok name) (Some code) = tt
put_sets a ts (Ok object) (Ok name) None = tt

export_sets : (a : Around) (ts : ValueTerms) (vs : Values) → SetsRight a (set_terms (export_of vs) ts)
export_sets a ts [] = tt
export_sets a ts (v ∷ []) = tt
export_sets a ts (v ∷ w ∷ []) = tt
export_sets a ts (v ∷ w ∷ u ∷ []) = put_sets a ts (object_in v) (name_in (text_in w)) (format_code u)
export_sets a ts (v ∷ w ∷ u ∷ z ∷ rest) = tt

act_right : (a : Around) (e : Effect) (p : Place) (ts : ValueTerms) (vs : Values) → FirstDenotes a ts vs → SetsRight a (set_terms (act e p vs) ts)
act_right a effect.Print p ts vs h = print_sets a ts (print_of vs)
act_right a effect.Echo p ts vs h = tt
act_right a effect.Export p ts vs h = export_sets a ts vs
act_right a effect.SetLocal p ts vs h = set_right a (key_in p) ts vs h
act_right a effect.SetGlobal p ts vs h = set_right a key.Global ts vs h

came_right : (a : Around) (e : Effect) (p : Place) (d : Decided Values) (ts : ValueTerms) (c : Came) → CameSo d ts c → Agrees d (all_denote a ts) → ((vs : Values) → all_denote a ts ≡ Ok vs → FirstDenotes a ts vs) → SetsRight a (sets_by e p c)
came_right a e p (Val vs) ts c so g h = rw so (act_right a e p ts vs (h vs g))
came_right a e p (ErrAt site code) ts c so g h = rw so tt
came_right a e p Off ts c so g h = rw so tt
came_right a e p (HaltAt site code) ts c so g h = rw so tt

-- ---- an execution

beside_first : (x : Result Value Code) (y : Answer) (v : Value) (vs : Values) → denoted_beside x y ≡ Ok (v ∷ vs) → x ≡ Ok v
beside_first (Err code) y v vs e = cc
beside_first (Ok u) (Err code) v vs e = cc
beside_first (Ok u) (Ok us) v vs e = let same : u ≡ v = cc in ap (λ z. Ok z) same

module _ (x : Fixed) (k : Kept) (r : LinksRight (around_of x k) k.links) where
  first_denotes : (args : Trees) (vs : Values) → all_denote (around_of x k) (terms_of (world_of x k) (names_of k) args) ≡ Ok vs → FirstDenotes (around_of x k) (terms_of (world_of x k) (names_of k) args) vs
  first_denotes args [] e = tt
  first_denotes NoTree (v ∷ vs) e = cc
  first_denotes (AndTree t ts) (v ∷ vs) e =
      let w = world_of x k in
      let n = names_of k in
      beside_first (denotes (around_of x k) (term_of w n t)) (all_denote (around_of x k) (terms_of w n ts)) v vs
      (sym (no_file_first w n (sight_of x k) (denote x k r) (full x k) (term_of w n t) (terms_of w n ts) (tree_right w n (denote x k r) t).1) ∙ e)

  unless_right : (b : Bool) (now later : At) → SetsRight (around_of x k) now.sets → SetsRight (around_of x k) later.sets → SetsRight (around_of x k) (unless b now later).sets
  unless_right true now later p q = p
  unless_right false now later p q = q

  course_right : (effects : List CallTree) (at : At) → SetsRight (around_of x k) at.sets → SetsRight (around_of x k) (course x k effects at).sets
  course_right [] at i = i
  course_right (TreeCall (function.Effect e) p args ∷ cs) at i =
      let w = world_of x k in
      let n = names_of k in
      let looked = look_at (sight_of x k) args in
      let now = worked x k e p looked at in
      let own = came_right (around_of x k) e p (together (outcomes w args)).decided (terms_of w n args) (came (around_of x k) looked.terms)
      (effect_comes w n (sight_of x k) (denote x k r) (full x k) args) (all_agree w n (sight_of x k) (denote x k r) (full x k) args) (first_denotes args) in
      let here = rights-append (around_of x k) at.sets (sets_by e p (came (around_of x k) looked.terms)) i own in
      unless_right (ends_by e p (came (around_of x k) looked.terms)) now (course x k cs now) here (course_right cs now here)
  course_right (TreeCall (function.Module m) p args ∷ cs) at i = course_right cs at i
  course_right (TreeCall function.Switch p args ∷ cs) at i = course_right cs at i
  course_right (TreeCall function.Route p args ∷ cs) at i = course_right cs at i
  course_right (TreeCall function.GetLocal p args ∷ cs) at i = course_right cs at i
  course_right (TreeCall function.GetGlobal p args ∷ cs) at i = course_right cs at i

-- ---- behind it

committed_right : (x : Fixed) (k : Kept) (done : Execution) (at : At) → LinksRight (around_of x k) k.links → SetsRight (around_of x k) at.sets → LinksRight (around_of x k) (committed k done at).links
committed_right x k done at r h = by (is_some done.error)
  where
    by : (b : Bool) → LinksRight (around_of x k) (if b then k.links else after_set_terms k.links at.sets)
    by true = r
    by false = sets_right (around_of x k) k.links at.sets h r

abbrev held_of : LinkTerms → Values
held_of ls = map (λ (l : Key × Link). Some l.1.object) ls

held_right : (a : Around) (n : ℕ) (ls : LinkTerms) → ((i : ℕ) → a.held (n + i) ≡ value_at (held_of ls) i) → LinksRight a (held_links n ls)
held_right a n [] h = tt
held_right a n (l ∷ ls) h =
    let here : n ≡ n + 0 = omega arith in
    let later : (i : ℕ) → suc n + i ≡ n + suc i = λ i. omega arith in
    (ap (λ m. Ok (a.held m)) here ∙ ap (λ v. Ok v) (h 0), held_right a (suc n) ls (λ i. ap a.held (later i) ∙ h (suc i)))

full_right : (x : Fixed) (k : Kept) → LinksRight (around_of x k) k.links → LinksRight (around_of x (unless_full k)) (unless_full k).links
full_right x k r = by (is_full k.terms)
  where
    by : (b : Bool) → LinksRight (around_of x (if b then emptied k else k)) (if b then emptied k else k).links
    by true = held_right (around_of x (emptied k)) 0 k.links (λ i. let at : 0 + i ≡ i = omega arith in ap (value_at (held_of k.links)) at)
    by false = r

pub sets_are_right : SetsAreRight
sets_are_right x k effects r = course_right x k r effects (begins k) tt

pub links_stay_right : LinksStayRight
links_stay_right x k effects r =
    let at = course x k effects (begins k) in
    full_right x (committed k (execution (world_of x k) effects) at) (committed_right x k (execution (world_of x k) effects) at r (sets_are_right x k effects r))
