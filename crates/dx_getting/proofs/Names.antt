-- Tags name calls exactly, so tests by tags are tests of closed terms.
use Rattle.std.proofs.Common.{◌≡◌, ℕ, zero, suc, ◌+◌, ◌<◌, ◌≤◌, List, [], ◌∷◌, ◌++◌, length, map, Bool, true, false, cond, Option, Some, None, refl, sym, ap, ap₂, ◌∙◌, subst, arith, is_some, true≢false}
use Rattle.std.specs.Prelude.{slice_get, filter, not, ◌==◌, ◌&&◌, ◌||◌, nat_le, nat_eq, if◌then◌else◌}
use Rattle.std.specs.Map.{lookup}
use Rattle.std.specs.Bool.{Decides}
use Rattle.std.specs.Cmp.{first_so, second_so, unsigned_Decides}
use Rattle.dx_base.specs.Object.{Tree}
use Rattle.dx_objects.specs.Runs.{Values}
use Rattle.dx_tags.specs.declared.term.Term.{Term}
use Rattle.dx_tags.specs.declared.term.ValueTag.{ValueTag}
use Rattle.dx_tags.specs.contracts.term.ValueTagPartialEq.TheImpl as tags
use Rattle.dx_tags.specs.Closed.{ValueTerm, CallTerm, CallOf, CallHead, Head, ConstantHead, HeldHead, FileHead, head_at, heads_of, value_term, value_terms, head_of, result_of_head, NamesExactly, Fits, IsResultOf, IsFormed, AreFormed}
use Rattle.dx_tags.proofs.ClosedTerms.{names_exactly, head_unfolds}
use Rattle.dx_links.specs.Getting.{same_value, same_call, has_value, has_call}
use Rattle.dx_cache.specs.declared.entry.Entry.{Entry}
use Rattle.dx_cache.specs.Cached as kept
use Rattle.dx_cache.proofs.Places.{cases}
use Rattle.dx_machine.specs.Machine.{Cached, Event, DroppedAt, has_entry, site_of, attribute_of, total, fitting, passed, others, own_site, of_site, left_for, dropped_for, drops}
use Rattle.dx_machine.specs.Covered.{is_formed}
use Rattle.dx_machine.proofs.SameTerms.{call_is, call_true, value_is, value_true, same_test}
use Rattle.dx_getting.specs.declared.scene.Called.{Called}
use Rattle.dx_getting.specs.Terms.{BoundValues}
use Rattle.dx_getting.specs.Stands.{IsCall, AreExact, Setting, World, FormedCalls, call_at, named, known_calls, EntriesRight, KnownRight, AreLawful, LinksFit, link_terms, formed_calls, shown_event}
use Rattle.dx_getting.specs.Steps.{find_link, AreCalls}

-- what is true of each term of a table
pub formed_at : (all : List Head) (k : ℕ) (ts : List Term) → AreFormed all k ts → (n : ℕ) (t : Term) → slice_get ts n ≡ Some t → IsFormed all (k + n) t
formed_at all k [] o n t e = cc
formed_at all k (first ∷ ts) o zero t e =
    let same : first ≡ t = cc in
    let at : k + 0 ≡ k = omega arith in
    subst (λ m. IsFormed all m t) (sym at) (subst (IsFormed all k) same o.0)
formed_at all k (first ∷ ts) o (suc n) t e =
    let at : suc k + n ≡ k + suc n = omega arith in
    subst (λ m. IsFormed all m t) at (formed_at all (suc k) ts o.1 n t e)

-- results of heads are the same only of the same head and result
pub same_result : (a b : Head) (r s : ℕ) → IsResultOf a r → IsResultOf b s → result_of_head a r ≡ result_of_head b s → (a ≡ b) × (r ≡ s)
same_result (ConstantHead c) (ConstantHead d) r s p q e = (let k : c ≡ d = cc in ap ConstantHead k, p ∙ sym q)
same_result (ConstantHead c) (HeldHead d) r s p q e = cc
same_result (ConstantHead c) (CallHead d) r s p q e = cc
same_result (HeldHead c) (ConstantHead d) r s p q e = cc
same_result (HeldHead c) (HeldHead d) r s p q e = (let k : c ≡ d = cc in ap HeldHead k, p ∙ sym q)
same_result (HeldHead c) (CallHead d) r s p q e = cc
same_result (CallHead c) (ConstantHead d) r s p q e = cc
same_result (CallHead c) (HeldHead d) r s p q e = cc
same_result (CallHead c) (CallHead d) r s p q e = (let k : c ≡ d = cc in ap CallHead k, cc)
same_result (FileHead c) (FileHead d) r s p q e = (let k : c ≡ d = cc in ap FileHead k, p ∙ sym q)
same_result (FileHead c) (ConstantHead d) r s p q e = cc
same_result (FileHead c) (HeldHead d) r s p q e = cc
same_result (FileHead c) (CallHead d) r s p q e = cc
same_result (ConstantHead c) (FileHead d) r s p q e = cc
same_result (HeldHead c) (FileHead d) r s p q e = cc
same_result (CallHead c) (FileHead d) r s p q e = cc

both_true : (p q : Bool) → p ≡ true → q ≡ true → (p && q) ≡ true
both_true p q e f = rw (e, f) refl

tag_itself : (a : ValueTag) → tags.ghosts.eq a a ≡ true
tag_itself a = both_true (a.tag == a.tag) (a.result == a.result) ((unsigned_Decides a.tag a.tag).1 refl) ((unsigned_Decides a.result a.result).1 refl)

pub tag_decides : (a b : ValueTag) → Decides (tags.ghosts.eq a b) (a ≡ b)
tag_decides a b = (
  λ h i. record { tag = (unsigned_Decides a.tag b.tag).0 (first_so (a.tag == b.tag) (a.result == b.result) h) i; result = (unsigned_Decides a.result b.result).0 (second_so (a.tag == b.tag) (a.result == b.result) h) i },
  λ e. rw (← e) (tag_itself a),
)

pub exact : (terms : List Term) → AreExact terms → NamesExactly terms
exact terms x = names_exactly terms x.formed x.distinct

pub exact_call : (terms : List Term) → AreExact terms → (a b : ℕ) → IsCall terms a → IsCall terms b → call_at (heads_of terms) a ≡ call_at (heads_of terms) b → a ≡ b
exact_call terms x a b p q e = exact terms x a b p.within q.within (p.head ∙ ap CallHead e ∙ sym q.head)

pub same_names : (terms : List Term) → AreExact terms → (a b : ℕ) → IsCall terms a → IsCall terms b → same_call (call_at (heads_of terms) a) (call_at (heads_of terms) b) ≡ (a == b)
same_names terms x a b p q = same_test _ _
    (λ h. (unsigned_Decides a b).1 (exact_call terms x a b p q (call_is _ _ h)))
    (λ h. call_true _ _ (ap (call_at (heads_of terms)) ((unsigned_Decides a b).0 h)))

-- the other way round, as a table looks up
pub names_same : (terms : List Term) → AreExact terms → (a b : ℕ) → IsCall terms a → IsCall terms b → same_call (call_at (heads_of terms) a) (call_at (heads_of terms) b) ≡ nat_eq b a
names_same terms x a b p q = same_test _ _
    (λ h. (unsigned_Decides b a).1 (sym (exact_call terms x a b p q (call_is _ _ h))))
    (λ h. call_true _ _ (ap (call_at (heads_of terms)) (sym ((unsigned_Decides b a).0 h))))

pub values_same : (terms : List Term) → AreExact terms → (a b : ValueTag) → Fits terms a → Fits terms b → same_value (value_term (heads_of terms) a) (value_term (heads_of terms) b) ≡ tags.ghosts.eq b a
values_same terms x a b p q = same_test _ _
    (λ h.
    let r = same_result (head_at (heads_of terms) a.tag) (head_at (heads_of terms) b.tag) a.result b.result p.result q.result (value_is _ _ h) in
    let tag = exact terms x a.tag b.tag p.within q.within r.0 in
    (tag_decides b a).1 (λ i. record { tag = sym tag i; result = sym r.1 i }))
    (λ h. value_true _ _ (ap (value_term (heads_of terms)) (sym ((tag_decides b a).0 h))))

-- Looking up.

or_some : {A : Type 0} (b c : Bool) (x : A) (o : Option A) → c ≡ is_some o → (b || c) ≡ is_some (if b then Some x else o)
or_some true c x o e = refl
or_some false c x o e = e

pub known_is : (e : Setting) (files : World) → AreExact e.terms → (ks : List (ℕ × Values)) → KnownRight e files ks → (t : ℕ) → IsCall e.terms t → has_call (known_calls (heads_of e.terms) ks) (call_at (heads_of e.terms) t) ≡ is_some (lookup (nat_eq t) ks)
known_is e files x [] r t c = refl
known_is e files x (k ∷ ks) r t c = rw (names_same e.terms x k.0 t r.0.0 c) (or_some (nat_eq t k.0) _ k.1 (lookup (nat_eq t) ks) (known_is e files x ks r.1 t c))

pub entry_is : (e : Setting) (files : World) → AreExact e.terms → (es : List Entry) → EntriesRight e files es → (t : ℕ) → IsCall e.terms t → has_entry (map (named (heads_of e.terms)) es) (call_at (heads_of e.terms) t) ≡ is_some (kept.find t es)
entry_is e files x [] r t c = refl
entry_is e files x (k ∷ ks) r t c = rw (same_names e.terms x k.tag t r.0.0 c) (or_some (k.tag == t) _ k (kept.find t ks) (entry_is e files x ks r.1 t c))

pub formed_is : (terms : List Term) → AreExact terms → (fs : FormedCalls) → AreLawful terms fs → (t : ℕ) → IsCall terms t → is_formed (formed_calls (heads_of terms) fs) (call_at (heads_of terms) t) ≡ is_some (lookup (nat_eq t) fs)
formed_is terms x [] r t c = refl
formed_is terms x (f ∷ fs) r t c = rw (names_same terms x f.0 t r.0.0 c) (or_some (nat_eq t f.0) _ f.1 (lookup (nat_eq t) fs) (formed_is terms x fs r.1 t c))

pub site_is : (terms : List Term) → AreExact terms → (fs : FormedCalls) → AreLawful terms fs → (t : ℕ) → IsCall terms t → (f : Called) → lookup (nat_eq t) fs ≡ Some f → site_of (formed_calls (heads_of terms) fs) (call_at (heads_of terms) t) ≡ f.site
site_is terms x [] r t c f h = cc
site_is terms x (k ∷ fs) r t c f h = rw (names_same terms x k.0 t r.0.0 c) (cases (nat_eq t k.0)
    (λ q. let h1 : Some k.1 ≡ Some f = rw q at h in let same : k.1 ≡ f = cc in rw q (ap (λ (y : Called). y.site) same))
    (λ q. let h1 : lookup (nat_eq t) fs ≡ Some f = rw q at h in rw q (site_is terms x fs r.1 t c f h1)))

pub attribute_is : (terms : List Term) → AreExact terms → (fs : FormedCalls) → AreLawful terms fs → (t : ℕ) → IsCall terms t → (f : Called) → lookup (nat_eq t) fs ≡ Some f → attribute_of (formed_calls (heads_of terms) fs) (call_at (heads_of terms) t) ≡ f.attribute
attribute_is terms x [] r t c f h = cc
attribute_is terms x (k ∷ fs) r t c f h = rw (names_same terms x k.0 t r.0.0 c) (cases (nat_eq t k.0)
    (λ q. let h1 : Some k.1 ≡ Some f = rw q at h in let same : k.1 ≡ f = cc in rw q (ap (λ (y : Called). y.attribute) same))
    (λ q. let h1 : lookup (nat_eq t) fs ≡ Some f = rw q at h in rw q (attribute_is terms x fs r.1 t c f h1)))

pub formed_lawful : (terms : List Term) (fs : FormedCalls) → AreLawful terms fs → (t : ℕ) (f : Called) → lookup (nat_eq t) fs ≡ Some f → (f.attribute ≤ 2) × (¬ (f.site ≡ []))
formed_lawful terms [] r t f h = cc
formed_lawful terms (k ∷ fs) r t f h = cases (nat_eq t k.0)
    (λ q. let h1 : Some k.1 ≡ Some f = rw q at h in let same : k.1 ≡ f = cc in subst (λ (y : Called). (y.attribute ≤ 2) × (¬ (y.site ≡ []))) same (r.0.1, r.0.2))
    (λ q. let h1 : lookup (nat_eq t) fs ≡ Some f = rw q at h in formed_lawful terms fs r.1 t f h1)

pub link_is : (terms : List Term) → AreExact terms → (ls : BoundValues) → LinksFit terms ls → (t : ValueTag) → Fits terms t → has_value (link_terms (heads_of terms) ls) (value_term (heads_of terms) t) ≡ is_some (find_link t ls)
link_is terms x [] r t c = refl
link_is terms x (l ∷ ls) r t c = rw (values_same terms x l.0 t r.0 c) (or_some (tags.ghosts.eq t l.0) _ l.1 (find_link t ls) (link_is terms x ls r.1 t c))

-- Entries as the machine sees them.

pub others_named : (e : Setting) (files : World) → AreExact e.terms → (es : List Entry) → EntriesRight e files es → (t : ℕ) → IsCall e.terms t → filter (λ (k : Cached). not (same_call k.call (call_at (heads_of e.terms) t))) (map (named (heads_of e.terms)) es) ≡ map (named (heads_of e.terms)) (filter (λ k. not (kept.has_tag t k)) es)
others_named e files x [] r t c = refl
others_named e files x (k ∷ ks) r t c = rw (same_names e.terms x k.tag t r.0.0 c) (cases (k.tag == t)
    (λ q. rw q (others_named e files x ks r.1 t c))
    (λ q. rw q (ap (λ xs. named (heads_of e.terms) k ∷ xs) (others_named e files x ks r.1 t c))))

pub own_named : (e : Setting) (files : World) → AreExact e.terms → (es : List Entry) → EntriesRight e files es → (t : ℕ) → IsCall e.terms t → filter (λ (k : Cached). same_call k.call (call_at (heads_of e.terms) t)) (map (named (heads_of e.terms)) es) ≡ map (named (heads_of e.terms)) (filter (kept.has_tag t) es)
own_named e files x [] r t c = refl
own_named e files x (k ∷ ks) r t c = rw (same_names e.terms x k.tag t r.0.0 c) (cases (k.tag == t)
    (λ q. rw q (ap (λ xs. named (heads_of e.terms) k ∷ xs) (own_named e files x ks r.1 t c)))
    (λ q. rw q (own_named e files x ks r.1 t c)))

module _ (hs : List Head) where
  total_named : (es : List Entry) → total (map (named hs) es) ≡ kept.total es
  total_named [] = refl
  total_named (e ∷ es) = ap (λ n. e.size + n) (total_named es)

  fitting_named : (budget size : ℕ) (es : List Entry) → fitting budget size (map (named hs) es) ≡ map (named hs) (kept.fitting budget size es)
  fitting_named budget size [] = refl
  fitting_named budget size (e ∷ es) = rw (total_named es) (cases (nat_le (e.size + kept.total es + size) budget) (λ q. rw q refl) (λ q. rw q (fitting_named budget size es)))

  passed_named : (budget size : ℕ) (es : List Entry) → passed budget size (map (named hs) es) ≡ map (named hs) (kept.passed budget size es)
  passed_named budget size [] = refl
  passed_named budget size (e ∷ es) = rw (total_named es) (cases (nat_le (e.size + kept.total es + size) budget) (λ q. rw q refl) (λ q. rw q (ap (λ xs. named hs e ∷ xs) (passed_named budget size es))))

  not_site_named : (site : List ℕ) (es : List Entry) → filter (λ k. not (of_site site k)) (map (named hs) es) ≡ map (named hs) (filter (λ k. not (kept.of_site site k)) es)
  not_site_named site [] = refl
  not_site_named site (e ∷ es) = cases (kept.of_site site e) (λ q. rw q (not_site_named site es)) (λ q. rw q (ap (λ xs. named hs e ∷ xs) (not_site_named site es)))

  site_named : (site : List ℕ) (es : List Entry) → filter (of_site site) (map (named hs) es) ≡ map (named hs) (filter (kept.of_site site) es)
  site_named site [] = refl
  site_named site (e ∷ es) = cases (kept.of_site site e) (λ q. rw q (ap (λ xs. named hs e ∷ xs) (site_named site es))) (λ q. rw q (site_named site es))

  others_site : (attribute : ℕ) (site : List ℕ) (es : List Entry) → others attribute site (map (named hs) es) ≡ map (named hs) (kept.others attribute site es)
  others_site attribute site es = cases (attribute == 2) (λ q. rw q (not_site_named site es)) (λ q. rw q refl)

  own_site_named : (attribute : ℕ) (site : List ℕ) (es : List Entry) → own_site attribute site (map (named hs) es) ≡ map (named hs) (kept.own_site attribute site es)
  own_site_named attribute site es = cases (attribute == 2) (λ q. rw q (site_named site es)) (λ q. rw q refl)

  append_named : (es fs : List Entry) → map (named hs) (es ++ fs) ≡ map (named hs) es ++ map (named hs) fs
  append_named [] fs = refl
  append_named (e ∷ es) fs = ap (λ xs. named hs e ∷ xs) (append_named es fs)

  pub left_named : (site : List ℕ) (attribute size budget : ℕ) (es : List Entry) → left_for site attribute size budget (map (named hs) es) ≡ map (named hs) (kept.left_for site attribute size budget es)
  left_named site attribute size budget es =
      cases (attribute == 0) (λ a. rw a refl)
      (λ a. cases (nat_le size budget)
      (λ w. rw (a, w) (ap (fitting budget size) (others_site attribute site es) ∙ fitting_named budget size (kept.others attribute site es)))
      (λ w. rw (a, w) (others_site attribute site es)))

  pub dropped_named : (site : List ℕ) (attribute size budget : ℕ) (es : List Entry) → dropped_for site attribute size budget (map (named hs) es) ≡ map (named hs) (kept.dropped_for site attribute size budget es)
  dropped_named site attribute size budget es =
      cases (attribute == 0) (λ a. rw a refl)
      (λ a. cases (nat_le size budget)
      (λ w. rw (a, w) (ap₂ (λ xs ys. xs ++ ys) (own_site_named attribute site es) (ap (passed budget size) (others_site attribute site es) ∙ passed_named budget size (kept.others attribute site es)) ∙ sym (append_named (kept.own_site attribute site es) (kept.passed budget size (kept.others attribute site es)))))
      (λ w. rw (a, w) (own_site_named attribute site es)))

  pub named-append : (es fs : List Entry) → map (named hs) (es ++ fs) ≡ map (named hs) es ++ map (named hs) fs
  named-append es fs = append_named es fs
