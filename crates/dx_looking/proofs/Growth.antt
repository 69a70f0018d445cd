-- What looking has at hand stays the same as terms are formed.
use Rattle.std.proofs.Common.{◌≡◌, ℕ, zero, suc, List, [], ◌∷◌, ◌++◌, map, cond, Some, refl, sym, ap, ap₂, ◌∙◌, subst, arith}
use Rattle.std.specs.Prelude.{option_map, slice_get}
use Rattle.std.specs.Map.{lookup}
use Rattle.std.specs.BTreeMap.{is_at}
use Rattle.dx_cache.proofs.Places.{cases}
use Rattle.dx_cache.specs.declared.entry.Entry.{Entry}
use Rattle.dx_objects.specs.Runs.{Values}
use Rattle.dx_tags.specs.declared.term.Term.{Term}
use Rattle.dx_tags.specs.declared.term.Term.TheVariants.{Held as HeldBy}
use Rattle.dx_tags.specs.declared.term.ValueTag.{ValueTag}
use Rattle.dx_tags.specs.contracts.term.ValueTagPartialEq.TheImpl as tags
use Rattle.dx_tags.specs.Closed.{ValueTerm, CallTerm, Head, CallHead, heads_of, value_term, GoesOn}
use Rattle.dx_tags.proofs.Growth.{heads_grow, longer}
use Rattle.dx_links.specs.declared.key.Key.{Key}
use Rattle.dx_links.specs.Denotes.{results_of}
use Rattle.dx_links.specs.Getting.{same_value}
use Rattle.dx_links.specs.Holding.{Holding}
use Rattle.dx_links.specs.LinkMap.{LinkMap, held_at, key_cmp}
use Rattle.dx_machine.specs.Machine.{Cached, State}
use Rattle.dx_getting.specs.Bound.{BeginHeld}
use Rattle.dx_getting.specs.Told.{Told}
use Rattle.dx_getting.specs.Stands.{Setting, World, FormedCalls, IsCall, Stands, EntriesRight, KnownRight, call_at, call_of_head, named, known_calls, around_of}
use Rattle.dx_getting.specs.Steps.{AreCalls}
use Rattle.dx_getting.specs.declared.work.Work.{Work}
use Rattle.dx_getting.proofs.Names.{values_same}
use Rattle.dx_demand.specs.Terms.{IsValue, AreExact}
use Rattle.dx_demand.specs.Picked.{LinksFit}
use Rattle.dx_demand.specs.Steps.{Sees}
use Rattle.dx_demand.proofs.Growing.{term_grows}
use Rattle.dx_demand.proofs.Terms.{value_grow}
use Rattle.dx_performing.specs.Kept.{Link, LinkTerms, link_in}
use Rattle.dx_looking.specs.ToldTags.{ToldTags}
use Rattle.dx_looking.specs.Setting.{TermValues, links_of, told_terms, told_sight}
use Rattle.dx_looking.specs.Looking.{AllFit, AreValues}
use Rattle.dx_looking.specs.declared.setup.Setup.{Setup}
use Rattle.dx_looking.proofs.Bound.{eq_turned}

-- ---- links

-- the tag of a link at a place
pub fit_at : (terms : List Term) (links : LinkMap) → AllFit terms links → (i : ℕ) (l : Key × Holding) → slice_get links i ≡ Some l → IsValue terms l.1.tag
fit_at terms [] f i l e = cc
fit_at terms (x ∷ xs) f zero l e = let same : x ≡ l = cc in subst (λ (y : Key × Holding). IsValue terms y.1.tag) same f.0
fit_at terms (x ∷ xs) f (suc i) l e = fit_at terms xs f.1 i l e

-- the terms of held values in front stay
get_left : {A : Type 0} (xs ys : List A) (i : ℕ) (x : A) → slice_get xs i ≡ Some x → slice_get (xs ++ ys) i ≡ Some x
get_left [] ys i x e = cc
get_left (y ∷ xs) ys zero x e = e
get_left (y ∷ xs) ys (suc i) x e = get_left xs ys i x e

pub begin_held_grows : (n : ℕ) (old new : List Term) → GoesOn old new → BeginHeld n old → BeginHeld n new
begin_held_grows n old new g b k h = ap (λ ts. slice_get ts k) g.1 ∙ get_left old g.0 k (HeldBy k) (b k h)

-- and of what a key holds
pub fits_held : (terms : List Term) (links : LinkMap) → AllFit terms links → LinksFit terms links
fits_held terms [] f key h e = cc
fits_held terms (l ∷ ls) f key h e = cases (is_at (key_cmp key) l.0)
    (λ q. let same : l.1 ≡ h = (let o : Some l.1 ≡ Some h = subst (λ b. cond b (Some l.1) (held_at key ls) ≡ Some h) q e in cc) in subst (λ (x : Holding). IsValue terms x.tag) same f.0)
    (λ q. fits_held terms ls f.1 key h (subst (λ b. cond b (Some l.1) (held_at key ls) ≡ Some h) q e))

pub all_fit_grows : (old new : List Term) → GoesOn old new → (links : LinkMap) → AllFit old links → AllFit new links
all_fit_grows old new g [] f = tt
all_fit_grows old new g (l ∷ ls) f = (value_grow old new g l.1.tag f.0, all_fit_grows old new g ls f.1)

pub links_same : (old new : List Term) → GoesOn old new → (links : LinkMap) → AllFit old links → links_of (heads_of new) links ≡ links_of (heads_of old) links
links_same old new g [] f = refl
links_same old new g (l ∷ ls) f = ap₂ (λ (t : ValueTerm) (rest : LinkTerms). (l.0, record { object = l.1.value; term = t }) ∷ rest) (term_grows old new g l.1.tag f.0) (links_same old new g ls f.1)

-- what a key holds
linked_in : (hs : List Head) (links : LinkMap) (key : Key) → option_map (λ (l : Link). l.term) (link_in (links_of hs links) key) ≡ option_map (λ (h : Holding). value_term hs h.tag) (held_at key links)
linked_in hs [] key = refl
linked_in hs (l ∷ ls) key = cases (is_at (key_cmp key) l.0) (λ q. rw q refl) (λ q. rw q (linked_in hs ls key))

-- ---- what is told

pub told_same : (old new : List Term) → GoesOn old new → (told : ToldTags) → AreValues old told → told_terms (heads_of new) told ≡ told_terms (heads_of old) told
told_same old new g [] v = refl
told_same old new g (x ∷ xs) v = ap₂ (λ (t : ValueTerm) (rest : TermValues). (t, x.1) ∷ rest) (term_grows old new g x.0 v.0) (told_same old new g xs v.1)

pub values_grow : (old new : List Term) → GoesOn old new → (told : ToldTags) → AreValues old told → AreValues new told
values_grow old new g [] v = tt
values_grow old new g (x ∷ xs) v = (value_grow old new g x.0 v.0, values_grow old new g xs v.1)

-- a tag's value is told where its term's is
tag_told : (terms : List Term) → ((a b : ValueTag) → IsValue terms a → IsValue terms b → same_value (value_term (heads_of terms) a) (value_term (heads_of terms) b) ≡ tags.ghosts.eq a b) →
    (told : ToldTags) → AreValues terms told → (t : ValueTag) → IsValue terms t → lookup (tags.ghosts.eq t) told ≡ lookup (same_value (value_term (heads_of terms) t)) (told_terms (heads_of terms) told)
tag_told terms same [] v t i = refl
tag_told terms same (x ∷ xs) v t i =
    let e = same t x.0 i v.0 in
    cases (tags.ghosts.eq t x.0) (λ q. rw (e, q) refl) (λ q. rw (e, q) (tag_told terms same xs v.1 t i))

tests_same : (terms : List Term) → AreExact terms → (a b : ValueTag) → IsValue terms a → IsValue terms b → same_value (value_term (heads_of terms) a) (value_term (heads_of terms) b) ≡ tags.ghosts.eq a b
tests_same terms x a b i j = values_same terms (record { formed = x.formed; distinct = x.distinct; whole = x.whole }) a b i.fits j.fits ∙ eq_turned a b

pub sees_so : (terms : List Term) → AreExact terms → (setup : Setup) (told : ToldTags) → AreValues terms told →
    Sees (λ t. lookup (tags.ghosts.eq t) told) setup.links.now.links setup.written.now.files terms (told_sight (links_of (heads_of terms) setup.links.now.links) setup.written.now.files (told_terms (heads_of terms) told))
sees_so terms x setup told v = record {
  told = λ t i. tag_told terms (tests_same terms x) told v t i;
  linked = λ key. linked_in (heads_of terms) setup.links.now.links key;
  written = λ name. refl;
}

-- ---- calls

pub call_grows : (old new : List Term) → GoesOn old new → (t : ℕ) → IsCall old t → call_at (heads_of new) t ≡ call_at (heads_of old) t
call_grows old new g t c = ap call_of_head (heads_grow old new g t c.within)

pub is_call_grows : (old new : List Term) → GoesOn old new → (t : ℕ) → IsCall old t → IsCall new t
is_call_grows old new g t c = record {
  within = (let le = longer old new g in let lt = c.within in omega (arith, le, lt));
  head = heads_grow old new g t c.within ∙ c.head ∙ ap CallHead (sym (call_grows old new g t c));
}

pub calls_grow : (old new : List Term) → GoesOn old new → (es : List Entry) → AreCalls old es → AreCalls new es
calls_grow old new g [] c = tt
calls_grow old new g (x ∷ xs) c = (is_call_grows old new g x.tag c.0, calls_grow old new g xs c.1)

-- ---- where the work stands

entries_same : (e : Setting) (files : World) (new : List Term) → GoesOn e.terms new → (es : List Entry) → EntriesRight e files es → map (named (heads_of e.terms)) es ≡ map (named (heads_of new)) es
entries_same e files new g [] h = refl
entries_same e files new g (x ∷ xs) h =
    ap₂ (λ (c : CallTerm) (rest : List Cached). record { call = c; site = x.site; attribute = x.attribute; size = x.size; results = x.outs } ∷ rest) (sym (call_grows e.terms new g x.tag h.0.0)) (entries_same e files new g xs h.1)

known_same : (e : Setting) (files : World) (new : List Term) → GoesOn e.terms new → (ks : List (ℕ × Values)) → KnownRight e files ks → known_calls (heads_of e.terms) ks ≡ known_calls (heads_of new) ks
known_same e files new g [] h = refl
known_same e files new g (x ∷ xs) h = ap₂ (λ (c : CallTerm) (rest : List CallTerm). c ∷ rest) (sym (call_grows e.terms new g x.0 h.0.0)) (known_same e files new g xs h.1)

abbrev with_terms : Setting → List Term → FormedCalls → Setting
with_terms e new formed = record { terms = new; links = e.links; held = e.held; formed = formed }

entries_right : (e : Setting) (files : World) (new : List Term) (formed : FormedCalls) → GoesOn e.terms new → (es : List Entry) → EntriesRight e files es → EntriesRight (with_terms e new formed) files es
entries_right e files new formed g [] h = tt
entries_right e files new formed g (x ∷ xs) h = ((is_call_grows e.terms new g x.tag h.0.0, ap (results_of (around_of e files)) (call_grows e.terms new g x.tag h.0.0) ∙ h.0.1), entries_right e files new formed g xs h.1)

known_right : (e : Setting) (files : World) (new : List Term) (formed : FormedCalls) → GoesOn e.terms new → (ks : List (ℕ × Values)) → KnownRight e files ks → KnownRight (with_terms e new formed) files ks
known_right e files new formed g [] h = tt
known_right e files new formed g (x ∷ xs) h = ((is_call_grows e.terms new g x.0 h.0.0, ap (results_of (around_of e files)) (call_grows e.terms new g x.0 h.0.0) ∙ h.0.1), known_right e files new formed g xs h.1)

pub stands_grow : (e : Setting) (files : World) (new : List Term) (formed : FormedCalls) → GoesOn e.terms new → (w : Work) (base now : Told) (s : State) → Stands e files w base now s → Stands (with_terms e new formed) files w base now s
stands_grow e files new formed g w base now s h = record {
  sound = record { entries = entries_right e files new formed g w.cache.entries h.sound.entries; known = known_right e files new formed g w.known.calls h.sound.known };
  entries = h.entries ∙ entries_same e files new g w.cache.entries h.sound.entries;
  known = h.known ∙ known_same e files new g w.known.calls h.sound.known;
  events = h.events;
  told = h.told;
}
