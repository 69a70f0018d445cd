-- Behind an execution the links hold, and there is written, what the meaning says.
use Rattle.std.proofs.Common.{◌≡◌, ℕ, suc, List, [], ◌∷◌, ◌++◌, map, Option, Some, None, is_some, Bool, true, false, refl, sym, ap, ◌∙◌, append_assoc, append-nil}
use Rattle.std.specs.Prelude.{Ok, option_map, if◌then◌else◌, cond}
use Rattle.std.specs.Map.{lookup, remove_entry}
use Rattle.std.specs.BTreeMap.{insert_entry, is_at}
use Rattle.std.specs.Ordering.{match_ordering}
use Rattle.std.specs.declared.cmp.Ordering.{Ordering}
use Rattle.std.specs.declared.cmp.Ordering.TheVariants.{Less, Equal, Greater}
use Rattle.dx_base.specs.Object.{Tree as Object}
use Rattle.dx_base.specs.declared.function.Effect.{Effect}
use Rattle.dx_base.specs.declared.function.Function.TheVariants as function
use Rattle.dx_macros.specs.Tree.{Place, CallTree, TreeCall}
use Rattle.dx_objects.specs.Runs.{Values}
use Rattle.dx_objects.specs.Values.{value_at}
use Rattle.dx_tags.specs.Closed.{ValueTerm, ValueTerms}
use Rattle.dx_links.specs.declared.key.Key.{Key}
use Rattle.dx_links.specs.LinkMap.{key_cmp}
use Rattle.dx_links.specs.Denotes.{Around, denotes}
use Rattle.dx_meaning.specs.Outcome.{Value, Use, Decided, Val, ErrAt, Off, HaltAt, demand}
use Rattle.dx_meaning.specs.Meaning.{outcomes, together}
use Rattle.dx_meaning.specs.Scan.{null_term, scan_each, all_scanned}
use Rattle.dx_meaning.specs.Term.{Names, LinksDenote, term_at, terms_of}
use Rattle.dx_performing.specs.Acts.{Act, Prints, Puts, Sets, Refuses, act}
use Rattle.dx_performing.specs.Execution.{Set, Execution, Links, link_at, put_link, after_sets, after_exports, performing, deciding, demanding, execution, behind}
use Rattle.dx_performing.specs.Kept.{Kept, Link, LinkTerms, SetTerm, link_in, objects_of, current, set_terms, put_term, after_set_terms, held_links, is_full, emptied}
use Rattle.dx_performing.specs.Course.{Fixed, At, Came, HasValues, world_of, around_of, sight_of, begins, came, sets_by, ends_by, worked, unless, course, committed, unless_full, look_at}
use Rattle.dx_performing.specs.Meant.{IsFull, CameSo, LinksRight, LeavesWhatIsMeant}
use Rattle.dx_performing.proofs.Meant.{effect_comes}

-- ---- links without their terms

found_by : (b : Bool) (l : Link) (o : Option Object) (p : Option Link) → o ≡ option_map (λ (x : Link). x.object) p → cond b (Some l.object) o ≡ option_map (λ (x : Link). x.object) (cond b (Some l) p)
found_by true l o p e = refl
found_by false l o p e = e

found : (test : Key → Bool) (ls : LinkTerms) → lookup test (objects_of ls) ≡ option_map (λ (l : Link). l.object) (lookup test ls)
found test [] = refl
found test (l ∷ ls) = found_by (test l.0) l.1 (lookup test (objects_of ls)) (lookup test ls) (found test ls)

removed_by : (b : Bool) (l : Key × Link) (ls rest : LinkTerms) (rest' : Links) → objects_of rest ≡ rest' → objects_of (cond b ls (l ∷ rest)) ≡ cond b (objects_of ls) ((l.0, l.1.object) ∷ rest')
removed_by true l ls rest rest' e = refl
removed_by false l ls rest rest' e = ap (λ xs. (l.0, l.1.object) ∷ xs) e

removed : (test : Key → Bool) (ls : LinkTerms) → objects_of (remove_entry test ls) ≡ remove_entry test (objects_of ls)
removed test [] = refl
removed test (l ∷ ls) = removed_by (test l.0) l ls (remove_entry test ls) (remove_entry test (objects_of ls)) (removed test ls)

inserted_by : (o : Ordering) (k : Key) (x : Link) (l : Key × Link) (ls rest : LinkTerms) (rest' : Links) → objects_of rest ≡ rest' →
    objects_of (match_ordering o ((k, x) ∷ l ∷ ls) ((l.0, x) ∷ ls) (l ∷ rest)) ≡ match_ordering o ((k, x.object) ∷ (l.0, l.1.object) ∷ objects_of ls) ((l.0, x.object) ∷ objects_of ls) ((l.0, l.1.object) ∷ rest')
inserted_by Less k x l ls rest rest' e = refl
inserted_by Equal k x l ls rest rest' e = refl
inserted_by Greater k x l ls rest rest' e = ap (λ xs. (l.0, l.1.object) ∷ xs) e

inserted : (ls : LinkTerms) (k : Key) (x : Link) → objects_of (insert_entry key_cmp ls k x) ≡ insert_entry key_cmp (objects_of ls) k x.object
inserted [] k x = refl
inserted (l ∷ ls) k x = inserted_by (key_cmp k l.0) k x l ls (insert_entry key_cmp ls k x) (insert_entry key_cmp (objects_of ls) k x.object) (inserted ls k x)

-- a Set without the term of its object
abbrev plain : SetTerm → Set
plain s = record { key = s.key; value = option_map (λ (l : Link). l.object) s.link }

abbrev plains : List SetTerm → List Set
plains ss = map plain ss

put_alike : (ls : LinkTerms) (k : Key) (o : Option Link) → objects_of (put_term ls k o) ≡ put_link (objects_of ls) k (option_map (λ (l : Link). l.object) o)
put_alike ls k (Some l) = inserted ls k l
put_alike ls k None = removed (is_at (key_cmp k)) ls

sets_alike : (ls : LinkTerms) (ss : List SetTerm) → objects_of (after_set_terms ls ss) ≡ after_sets (objects_of ls) (plains ss)
sets_alike ls [] = refl
sets_alike ls (s ∷ ss) = sets_alike (put_term ls s.key s.link) ss ∙ ap (λ xs. after_sets xs (plains ss)) (put_alike ls s.key s.link)

plains-append : (xs ys : List SetTerm) → plains (xs ++ ys) ≡ plains xs ++ plains ys
plains-append [] ys = refl
plains-append (x ∷ xs) ys = ap (λ zs. plain x ∷ zs) (plains-append xs ys)

held_alike : (n : ℕ) (ls : LinkTerms) → objects_of (held_links n ls) ≡ objects_of ls
held_alike n [] = refl
held_alike n (l ∷ ls) = ap (λ xs. (l.0, l.1.object) ∷ xs) (held_alike (suc n) ls)

-- ---- what an execution has from what is kept

abbrev pub term_or_null : Option Link → ValueTerm
term_or_null None = null_term
term_or_null (Some l) = l.term

abbrev pub names_of : Kept → Names
names_of k = record { term = λ key. term_or_null (link_in k.links key); held = value_at k.held }

linked_by : (o : Option Link) (p : Option Object) → p ≡ option_map (λ (l : Link). l.object) o → option_map (λ (l : Link). l.term) o ≡ option_map (λ (x : Object). term_or_null o) p
linked_by None p e = rw e refl
linked_by (Some l) p e = rw e refl

pub full : (x : Fixed) (k : Kept) → IsFull (world_of x k) (names_of k) (sight_of x k)
full x k = record {
  linked = λ key. linked_by (link_in k.links key) (link_at (objects_of k.links) key) (found (is_at (key_cmp key)) k.links);
  written = λ name. refl;
  told = λ t. refl;
}

right_by : (a : Around) (b : Bool) (l : Link) (p : Option Link) (o : Object) → denotes a l.term ≡ Ok (Some l.object) → (option_map (λ (x : Link). x.object) p ≡ Some o → denotes a (term_or_null p) ≡ Ok (Some o)) →
    option_map (λ (x : Link). x.object) (cond b (Some l) p) ≡ Some o → denotes a (term_or_null (cond b (Some l) p)) ≡ Ok (Some o)
right_by a true l p o r f e = r ∙ ap (λ v. Ok v) e
right_by a false l p o r f e = f e

right_at : (a : Around) (test : Key → Bool) (ls : LinkTerms) → LinksRight a ls → (o : Object) → option_map (λ (l : Link). l.object) (lookup test ls) ≡ Some o → denotes a (term_or_null (lookup test ls)) ≡ Ok (Some o)
right_at a test [] r o e = cc
right_at a test (l ∷ ls) r o e = right_by a (test l.0) l.1 (lookup test ls) o r.0 (right_at a test ls r.1 o) e

pub denote : (x : Fixed) (k : Kept) → LinksRight (around_of x k) k.links → LinksDenote (world_of x k) (names_of k)
denote x k r key o e = right_at (around_of x k) (is_at (key_cmp key)) k.links r o (sym (found (is_at (key_cmp key)) k.links) ∙ e)

-- ---- Sets of an execution

-- where there is no error, these Sets come behind those so far
abbrev SetsSo : Execution → List SetTerm → List SetTerm → Type 0
SetsSo done before after = is_some done.error ≡ false → plains after ≡ plains before ++ done.sets

-- what one effect does to its execution's Sets
module _ (x : Fixed) (k : Kept) (e : Effect) (p : Place) (at : At) (rest : Execution) (go : At → At) (next : (now : At) → SetsSo rest now.sets (go now).sets) where
  keeps_sets : (now : At) → now.sets ≡ at.sets ++ [] → SetsSo rest at.sets (go now).sets
  keeps_sets now same none = next now none ∙ ap (λ ss. plains ss ++ rest.sets) (same ∙ append-nil at.sets)

  sets_more : (now : At) (s : SetTerm) → now.sets ≡ at.sets ++ s ∷ [] → is_some rest.error ≡ false → plains (go now).sets ≡ plains at.sets ++ (plain s ∷ rest.sets)
  sets_more now s same none = next now none ∙ ap (λ ss. plains ss ++ rest.sets) same ∙ ap (λ ss. ss ++ rest.sets) (plains-append at.sets (s ∷ [])) ∙ append_assoc (plains at.sets) (plain s ∷ []) rest.sets

  plain_set : (key : Key) (v : Value) (t : ValueTerm) → option_map (λ (l : Link). l.object) (option_map (λ (o : Object). record { object = o; term = t }) v) ≡ v
  plain_set key None t = refl
  plain_set key (Some o) t = refl

  by_act : (ts : ValueTerms) (vs : Values) (ac : Act) → act e p vs ≡ ac → (now : At) → now.sets ≡ at.sets ++ set_terms (act e p vs) ts → SetsSo (performing p.site (act e p vs) rest) at.sets (unless (ends_by e p (HasValues ts vs)) now (go now)).sets
  by_act ts vs (Prints text) i now same = rw i (λ none. keeps_sets now (same ∙ ap (λ b. at.sets ++ set_terms b ts) i) none)
  by_act ts vs (Puts name content) i now same = rw i (λ none. keeps_sets now (same ∙ ap (λ b. at.sets ++ set_terms b ts) i) none)
  by_act ts vs (Sets key v) i now same = rw i (λ none.
      sets_more now (record { key = key; link = option_map (λ (o : Object). record { object = o; term = term_at ts 0 }) v }) (same ∙ ap (λ b. at.sets ++ set_terms b ts) i) none
      ∙ ap (λ u. plains at.sets ++ (record { key = key; value = u } ∷ rest.sets)) (plain_set key v (term_at ts 0)))
  by_act ts vs (Refuses code) i now same = rw i (λ none. cc)

  by_decided : (d : Decided Values) (ts : ValueTerms) (uses : List Use) (c : Came) → CameSo d ts c → (now : At) → now.sets ≡ at.sets ++ sets_by e p c → SetsSo (demanding uses (deciding e p d rest)) at.sets (unless (ends_by e p c) now (go now)).sets
  by_decided (Val vs) ts uses c so now same = rw so (by_act ts vs (act e p vs) refl now (same ∙ ap (λ b. at.sets ++ sets_by e p b) so))
  by_decided (ErrAt site code) ts uses c so now same = λ none. cc
  by_decided Off ts uses c so now same = rw so (keeps_sets now (same ∙ ap (λ b. at.sets ++ sets_by e p b) so))
  by_decided (HaltAt site code) ts uses c so now same = λ none. cc

-- a call that is no effect does nothing
course_sets : (x : Fixed) (k : Kept) → LinksRight (around_of x k) k.links → (effects : List CallTree) (at : At) → SetsSo (execution (world_of x k) effects) at.sets (course x k effects at).sets
course_sets x k r [] at = λ none. sym (append-nil (plains at.sets))
course_sets x k r (TreeCall (function.Effect e) p args ∷ cs) at =
    by_decided x k e p at (execution (world_of x k) cs) (course x k cs) (course_sets x k r cs)
    (together (outcomes (world_of x k) args)).decided (terms_of (world_of x k) (names_of k) args) (demand (together (outcomes (world_of x k) args))) (came (around_of x k) (all_scanned (scan_each (sight_of x k) args)))
    (effect_comes (world_of x k) (names_of k) (sight_of x k) (denote x k r) (full x k) args)
    (worked x k e p (look_at (sight_of x k) args) at) refl
course_sets x k r (TreeCall (function.Module m) p args ∷ cs) at = course_sets x k r cs at
course_sets x k r (TreeCall function.Switch p args ∷ cs) at = course_sets x k r cs at
course_sets x k r (TreeCall function.Route p args ∷ cs) at = course_sets x k r cs at
course_sets x k r (TreeCall function.GetLocal p args ∷ cs) at = course_sets x k r cs at
course_sets x k r (TreeCall function.GetGlobal p args ∷ cs) at = course_sets x k r cs at

-- ---- behind it

links_behind : (x : Fixed) (k : Kept) (done : Execution) (at : At) → SetsSo done [] at.sets → objects_of (committed k done at).links ≡ (behind done (current k)).links
links_behind x k done at h = by (is_some done.error) refl
  where
    by : (b : Bool) → is_some done.error ≡ b → objects_of (if b then k.links else after_set_terms k.links at.sets) ≡ (if b then objects_of k.links else after_sets (objects_of k.links) done.sets)
    by true e = refl
    by false e = sets_alike k.links at.sets ∙ ap (after_sets (objects_of k.links)) (h e)

emptied_current : (k : Kept) → current (unless_full k) ≡ current k
emptied_current k = by (is_full k.terms)
  where
    by : (b : Bool) → current (if b then emptied k else k) ≡ current k
    by true = ap (λ ls. record { links = ls; written = k.written }) (held_alike 0 k.links)
    by false = refl

pub leaves_what_is_meant : LeavesWhatIsMeant
leaves_what_is_meant x k effects r =
    let done = execution (world_of x k) effects in
    let at = course x k effects (begins k) in
    emptied_current (committed k done at) ∙ ap (λ ls. record { links = ls; written = after_exports k.written done.exports }) (links_behind x k done at (course_sets x k r effects (begins k)))
