-- What getting a value needs, and its frame, from where looking stands.
use Rattle.std.proofs.Common.{◌≡◌, ◌⊎◌, inl, inr, ⊎_elim, ℕ, zero, suc, ◌<◌, ◌≤◌, List, [], ◌∷◌, ◌++◌, length, map, Bool, true, false, cond, Some, refl, sym, ap, ◌∙◌, subst}
use Rattle.std.specs.Prelude.{slice_get, ◌==◌, ◌||◌, Ok}
use Rattle.std.specs.Map.{lookup}
use Rattle.std.specs.Cmp.{unsigned_Decides}
use Rattle.dx_base.specs.Object.{Tree as Object}
use Rattle.dx_cache.proofs.Places.{cases}
use Rattle.dx_graph.specs.Graph.{Node, node_at}
use Rattle.dx_graph.specs.GraphView.{graph_of}
use Rattle.dx_demand.proofs.PortSteps.{nodes_of}
use Rattle.dx_macros.specs.Site.{steps_text}
use Rattle.dx_tags.specs.declared.term.Term.{Term}
use Rattle.dx_tags.specs.declared.term.ValueTag.{ValueTag}
use Rattle.dx_tags.specs.contracts.term.ValueTagPartialEq.TheImpl as tags
use Rattle.dx_tags.specs.Closed.{ValueTerm, HeldTerm, ResultTerm, CallTerm, Head, HeldHead, CallHead, head_at, heads_of, result_of_head, value_term, value_terms, Fits, AreEarlier}
use Rattle.dx_tags.specs.declared.term.Term.TheVariants.{Held as HeldBy}
use Rattle.dx_tags.proofs.ClosedTerms.{head_unfolds}
use Rattle.dx_links.specs.declared.key.Key.{Key}
use Rattle.dx_links.specs.Denotes.{Around, denotes}
use Rattle.dx_links.specs.Getting.{has_value, same_value}
use Rattle.dx_links.specs.Holding.{Holding}
use Rattle.dx_links.specs.LinkMap.{LinkMap, held_at, key_cmp}
use Rattle.std.specs.BTreeMap.{is_at}
use Rattle.dx_machine.specs.Machine.{FormedCall, Frame, State, get, get_all}
use Rattle.dx_machine.specs.Covered.{is_formed, IsCovered}
use Rattle.dx_machine.specs.Sound.{HaveAttributes}
use Rattle.dx_machine.proofs.SameTerms.{value_is, value_true, same_test}
use Rattle.dx_getting.specs.Bound.{IsBound, BeginHeld}
use Rattle.dx_getting.specs.Terms.{BoundValues, Table}
use Rattle.dx_getting.specs.Stands.{Setting, World, IsCall, AreLawful, LinksFit, LinksDenote, MayGetValue, call_of_head, frame_of, formed_calls, link_terms, around_of, world}
use Rattle.dx_getting.specs.Stands as getting
use Rattle.dx_demand.specs.Terms as demand
use Rattle.dx_demand.specs.Memo.{formed_of}
use Rattle.dx_demand.specs.Found.{NeedsNoCall, IsFound, AllFound}
use Rattle.dx_demand.specs.Forming.{Entries, IsCallTag, found_in, formings}
use Rattle.dx_objects.specs.Values.{value_at}
use Rattle.dx_links.specs.Getting.{same_call}
use Rattle.dx_meaning.specs.Forming.{Formed, Formings, after}
use Rattle.dx_performing.specs.Alike.{SameCalls, with_formed}
use Rattle.dx_performing.specs.Kept.{Kept, Link, LinkTerms}
use Rattle.dx_performing.specs.Course.{Fixed, frame_with}
use Rattle.dx_performing.specs.Course as course
use Rattle.dx_performing.specs.Meant.{LinksRight}
use Rattle.dx_performing.proofs.Alike as alike
use Rattle.dx_resuming.specs.Covering.{LinksBound}
use Rattle.dx_resuming.specs.Formed.{formed_in}
use Rattle.dx_resuming.specs.Links.{SameResults, SameLinks}
use Rattle.dx_resuming.proofs.Covers.{closed_covers, all_closed_cover, linked_value}
use Rattle.dx_resuming.proofs.FormedFirst.{formed_same}
use Rattle.dx_resuming.proofs.LinkTerms as links_alike
use Rattle.dx_resuming.proofs.Stayed.{after_goes_on, site_behind, attribute_behind}
use Rattle.dx_looking.specs.Setting.{nodes_in, links_of, IsKept, setting_in}
use Rattle.dx_looking.specs.Looking.{AllFit, IsLooking}
use Rattle.dx_looking.specs.declared.setup.Setup.{Setup}
use Rattle.dx_looking.specs.declared.progress.Progress.{Progress}
use Rattle.dx_looking.proofs.Bound.{AllBound, AllTagged, AllHeld, all_bound, all_tagged, all_held}
use Rattle.dx_looking.proofs.Growth.{fit_at}
use Rattle.dx_looking.proofs.Nodes.{nodes_named, attributes_small}

-- ---- calls that were formed

or_here : (a b : Bool) → a ≡ true → (a || b) ≡ true
or_here true b e = refl
or_here false b e = cc

or_there : (a b : Bool) → b ≡ true → (a || b) ≡ true
or_there true b e = refl
or_there false b e = e

entry_found : (es : Entries) (i : ℕ) (e : ℕ × ℕ) → slice_get es i ≡ Some e → (n : ℕ) × (found_in es e.0 ≡ Some n)
entry_found [] i e h = cc
entry_found (x ∷ es) zero e h = (x.1, (let same : x ≡ e = cc in let t : (e.0 == x.0) ≡ true = (unsigned_Decides e.0 x.0).1 (sym (ap (λ (y : ℕ × ℕ). y.0) same)) in rw t refl))
entry_found (x ∷ es) (suc i) e h = let r = entry_found es i e h in cases (e.0 == x.0) (λ q. (x.1, rw q refl)) (λ q. (r.0, rw q r.1))

call_there : (terms : List Term) (t : ℕ) → IsCallTag terms t → IsCall terms t
call_there terms t c = record { within = c.within; head = c.head ∙ ap CallHead (sym (ap call_of_head c.head)) }

lawful_from : (terms : List Term) (nodes : List Node) → ((n : ℕ) → (node_at nodes n).place.cache ≤ 2) → ((n : ℕ) → ¬ (steps_text (node_at nodes n).place.site ≡ [])) →
    (xs : Entries) → ((i : ℕ) (e : ℕ × ℕ) → slice_get xs i ≡ Some e → IsCall terms e.0) → AreLawful terms (formed_in nodes xs)
lawful_from terms nodes small named [] h = tt
lawful_from terms nodes small named (x ∷ xs) h = ((h 0 x refl, small x.1, named x.1), lawful_from terms nodes small named xs (λ i e at. h (suc i) e at))

-- ---- links

-- so many heads in front are those of held values
abbrev BeginHeads : ℕ → List Head → Type 0
BeginHeads n hs = (k : ℕ) → k < n → head_at hs k ≡ HeldHead k

begin_heads : (terms : List Term) → demand.AreExact terms → (n : ℕ) → BeginHeld n terms → BeginHeads n (heads_of terms)
begin_heads terms x n b k h = head_unfolds terms x.formed k (HeldBy k) (b k h)

link_held : (hs : List Head) (n : ℕ) → BeginHeads n hs → (links : LinkMap) (bound : BoundValues) → AllBound n links bound → LinksBound hs links bound
link_held hs n b [] bound a key h e = cc
link_held hs n b (l ∷ ls) bound a key h e = cases (is_at (key_cmp key) l.0)
    (λ q. let same : l.1 ≡ h = (let o : Some l.1 ≡ Some h = subst (λ b. cond b (Some l.1) (held_at key ls) ≡ Some h) q e in cc) in
    subst (λ (x : Holding). NeedsNoCall (head_at hs x.tag.tag) ⊎ ((o : Object) × (lookup (tags.ghosts.eq x.tag) bound ≡ Some o))) same
    (⊎_elim (λ low. inl (subst NeedsNoCall (sym (b l.1.tag.tag low)) tt)) (λ there. inr there) a.0))
    (λ q. link_held hs n b ls bound a.1 key h (subst (λ b. cond b (Some l.1) (held_at key ls) ≡ Some h) q e))

links_fit : (terms : List Term) (links : LinkMap) → AllFit terms links → (bound : BoundValues) → AllTagged links bound → LinksFit terms bound
links_fit terms links f [] a = tt
links_fit terms links f (x ∷ xs) a = (subst (Fits terms) a.0.tag (fit_at terms links f a.0.place a.0.link a.0.at).fits, links_fit terms links f xs a.1)

-- what a link holds is what its term denotes
pub link_denotes : (a : Around) (hs : List Head) (links : LinkMap) → LinksRight a (links_of hs links) → (i : ℕ) (l : Key × Holding) → slice_get links i ≡ Some l → denotes a (value_term hs l.1.tag) ≡ Ok (Some l.1.value)
link_denotes a hs [] r i l e = cc
link_denotes a hs (x ∷ xs) r zero l e = let same : x ≡ l = cc in subst (λ (y : Key × Holding). denotes a (value_term hs y.1.tag) ≡ Ok (Some y.1.value)) same r.0
link_denotes a hs (x ∷ xs) r (suc i) l e = link_denotes a hs xs r.1 i l e

bound_denote : (e : Setting) (files : World) (links : LinkMap) → LinksRight (around_of e files) (links_of (heads_of e.terms) links) → (bound : BoundValues) → AllHeld links bound → LinksDenote e files bound
bound_denote e files links r [] a = tt
bound_denote e files links r (x ∷ xs) a = (
  subst (λ (t : ValueTag). denotes (around_of e files) (value_term (heads_of e.terms) t) ≡ Ok (Some x.1)) a.0.tag
      (link_denotes (around_of e files) (heads_of e.terms) links r a.0.place a.0.link a.0.at ∙ ap (λ (o : Object). Ok (Some o)) a.0.object),
  bound_denote e files links r xs a.1,
)

-- the results of calls that links have as terms and those of what is bound are the same
link_has : (hs : List Head) (links : LinkMap) (i : ℕ) (l : Key × Holding) → slice_get links i ≡ Some l → has_value (map (λ (l : Key × Link). l.1.term) (links_of hs links)) (value_term hs l.1.tag) ≡ true
link_has hs [] i l e = cc
link_has hs (x ∷ xs) zero l e =
    let same : x ≡ l = cc in
    or_here _ _ (value_true (value_term hs x.1.tag) (value_term hs l.1.tag) (ap (λ (y : Key × Holding). value_term hs y.1.tag) same))
link_has hs (x ∷ xs) (suc i) l e = or_there _ _ (link_has hs xs i l e)

bound_to_link : (hs : List Head) (links : LinkMap) (bound : BoundValues) → AllTagged links bound → (t : ValueTerm) → has_value (link_terms hs bound) t ≡ true → has_value (map (λ (l : Key × Link). l.1.term) (links_of hs links)) t ≡ true
bound_to_link hs links [] a t e = cc
bound_to_link hs links (x ∷ xs) a t e = cases (same_value (value_term hs x.0) t)
    (λ q. subst (λ u. has_value (map (λ (l : Key × Link). l.1.term) (links_of hs links)) u ≡ true) (ap (value_term hs) a.0.tag ∙ value_is (value_term hs x.0) t q) (link_has hs links a.0.place a.0.link a.0.at))
    (λ q. bound_to_link hs links xs a.1 t (subst (λ b. (b || has_value (link_terms hs xs) t) ≡ true) q e))

link_to_bound : (hs : List Head) (n : ℕ) → BeginHeads n hs → (links : LinkMap) (bound : BoundValues) → AllBound n links bound → (result : ℕ) (c : CallTerm) →
    has_value (map (λ (l : Key × Link). l.1.term) (links_of hs links)) (ResultTerm result c) ≡ true → has_value (link_terms hs bound) (ResultTerm result c) ≡ true
link_to_bound hs n b [] bound a result c e = cc
link_to_bound hs n b (l ∷ ls) bound a result c e = cases (same_value (value_term hs l.1.tag) (ResultTerm result c))
    (λ q. let is = value_is (value_term hs l.1.tag) (ResultTerm result c) q in
    ⊎_elim
    (λ low. absurd (let other : HeldTerm l.1.tag.tag ≡ ResultTerm result c = sym (ap (λ h. result_of_head h l.1.tag.result) (b l.1.tag.tag low)) ∙ is in cc))
    (λ there. subst (λ u. has_value (link_terms hs bound) u ≡ true) is (linked_value hs bound l.1.tag there.0 there.1))
    a.0)
    (λ q. link_to_bound hs n b ls bound a.1 result c (subst (λ b. (b || has_value (map (λ (x : Key × Link). x.1.term) (links_of hs ls)) (ResultTerm result c)) ≡ true) q e))

pub same_links : (hs : List Head) (links : LinkMap) (bound : Table) → BeginHeads bound.from hs → IsBound links bound → SameResults (link_terms hs bound.pairs) (map (λ (l : Key × Link). l.1.term) (links_of hs links))
same_links hs links bound h b result c =
    same_test _ _ (link_to_bound hs bound.from h links bound.pairs (all_bound links bound b) result c) (bound_to_link hs links bound.pairs (all_tagged links bound b) (ResultTerm result c))

-- ---- what getting needs

getting_exact : (terms : List Term) → demand.AreExact terms → getting.AreExact terms
getting_exact terms x = record { formed = x.formed; distinct = x.distinct; whole = x.whole }

pub formed_lawful : (setup : Setup) (at : Progress) → IsLooking setup at → AreLawful at.tags (setting_in setup at).formed
formed_lawful setup at l =
    lawful_from at.tags (nodes_in setup) (attributes_small (nodes_in setup) (nodes_of (graph_of setup.graph.now) setup.graph.now.lawful)) (nodes_named setup.graph.now) at.seen.memo.formed.entries
    (λ i e h. let r = entry_found at.seen.memo.formed.entries i e h in call_there at.tags e.0 (l.formed.memo.calls e.0 r.0 r.1))

begins_so : (setup : Setup) (at : Progress) → IsLooking setup at → BeginHeads setup.bound.now.from (heads_of at.tags)
begins_so setup at l = begin_heads at.tags l.exact setup.bound.now.from l.below

pub links_bound : (setup : Setup) (at : Progress) → IsLooking setup at → LinksBound (heads_of at.tags) setup.links.now.links setup.bound.now.pairs
links_bound setup at l = link_held (heads_of at.tags) setup.bound.now.from (begins_so setup at l) setup.links.now.links setup.bound.now.pairs (all_bound setup.links.now.links setup.bound.now l.bound)

pub is_covered : (setup : Setup) (at : Progress) → IsLooking setup at → (t : ValueTag) → Fits at.tags t → IsFound setup.links.now.links at.tags (formed_of at.seen.memo) t →
    IsCovered (formed_calls (heads_of at.tags) (setting_in setup at).formed) (link_terms (heads_of at.tags) setup.bound.now.pairs) (value_term (heads_of at.tags) t)
is_covered setup at l t fits found = closed_covers setup.links.now.links at.tags setup.bound.now.pairs (nodes_in setup) at.seen l.exact l.closed (links_bound setup at l) t fits found

pub may_get : (setup : Setup) (at : Progress) → IsLooking setup at → (t : ValueTag) → Fits at.tags t → IsFound setup.links.now.links at.tags (formed_of at.seen.memo) t → MayGetValue (setting_in setup at) t
may_get setup at l t fits found = record {
  exact = getting_exact at.tags l.exact;
  lawful = formed_lawful setup at l;
  links = links_fit at.tags setup.links.now.links l.links setup.bound.now.pairs (all_tagged setup.links.now.links setup.bound.now l.bound);
  fits = fits;
  covered = is_covered setup at l t fits found;
}

-- ---- frames

pub around_same : (setup : Setup) (at : Progress) (x : Fixed) (k : Kept) → IsKept (heads_of at.tags) setup k → around_of (setting_in setup at) (world x.answer x.file) ≡ course.around_of x k
around_same setup at x k kept = ap (λ h. record { answer = x.answer; file = x.file; held = value_at h }) (sym kept.held)

pub links_denote : (setup : Setup) (at : Progress) → IsLooking setup at → (x : Fixed) (k : Kept) → IsKept (heads_of at.tags) setup k → LinksRight (course.around_of x k) k.links → LinksDenote (setting_in setup at) (world x.answer x.file) setup.bound.now.pairs
links_denote setup at l x k kept r =
    bound_denote (setting_in setup at) (world x.answer x.file) setup.links.now.links
    (subst (λ a. LinksRight a (links_of (heads_of at.tags) setup.links.now.links)) (sym (around_same setup at x k kept)) (subst (LinksRight (course.around_of x k)) kept.links r)) setup.bound.now.pairs
    (all_held setup.links.now.links setup.bound.now.pairs l.bound.once kept.values)

-- the frame of getting, with these calls formed
abbrev getting_frame : Setup → Progress → Fixed → List FormedCall → Frame
getting_frame setup at x later = with_formed (frame_of (setting_in setup at) (world x.answer x.file) x.budget) later

frames_alike : (setup : Setup) (at : Progress) → IsLooking setup at → (x : Fixed) (k : Kept) → IsKept (heads_of at.tags) setup k → (later : List FormedCall) → SameLinks (getting_frame setup at x later) (frame_with x k later)
frames_alike setup at l x k kept later = record {
  around = sym (around_same setup at x k kept);
  links = λ result c. ap (λ (ls : LinkTerms). has_value (map (λ (l : Key × Link). l.1.term) ls) (ResultTerm result c)) kept.links
      ∙ same_links (heads_of at.tags) setup.links.now.links setup.bound.now (begins_so setup at l) l.bound result c;
  formed = refl;
  budget = refl;
}

-- the calls that were formed, as the course has them
pub calls_same : (setup : Setup) (at : Progress) (f : Formings) → formings (nodes_in setup) at.tags at.seen.memo ≡ f → formed_calls (heads_of at.tags) (setting_in setup at).formed ≡ course.formed_calls f
calls_same setup at f e = formed_same (nodes_in setup) at.tags at.seen.memo ∙ ap course.formed_calls e

-- getting a value is the same in the course's frame, whatever is formed behind
pub gets_same : (setup : Setup) (at : Progress) → IsLooking setup at → (x : Fixed) (k : Kept) → IsKept (heads_of at.tags) setup k → (f : Formings) → formings (nodes_in setup) at.tags at.seen.memo ≡ f →
    (t : ValueTag) → Fits at.tags t → IsFound setup.links.now.links at.tags (formed_of at.seen.memo) t → (later : List FormedCall) → SameCalls (course.formed_calls f) later → (s : State) →
    get (frame_with x k later) (value_term (heads_of at.tags) t) s ≡ get (frame_of (setting_in setup at) (world x.answer x.file) x.budget) (value_term (heads_of at.tags) t) s
gets_same setup at l x k kept f e t fits found later same s =
    links_alike.gets_alike (getting_frame setup at x later) (frame_with x k later) (frames_alike setup at l x k kept later) (value_term (heads_of at.tags) t) s
    ∙ alike.gets_alike (frame_of (setting_in setup at) (world x.answer x.file) x.budget) later (subst (λ fs. SameCalls fs later) (sym (calls_same setup at f e)) same) (value_term (heads_of at.tags) t) (is_covered setup at l t fits found) s

pub gets_all_same : (setup : Setup) (at : Progress) → IsLooking setup at → (x : Fixed) (k : Kept) → IsKept (heads_of at.tags) setup k → (f : Formings) → formings (nodes_in setup) at.tags at.seen.memo ≡ f →
    (ts : List ValueTag) → AreEarlier (heads_of at.tags) (length at.tags) ts → AllFound setup.links.now.links at.tags (formed_of at.seen.memo) ts → (later : List FormedCall) → SameCalls (course.formed_calls f) later → (s : State) →
    get_all (frame_with x k later) (value_terms (heads_of at.tags) ts) s ≡ get_all (frame_of (setting_in setup at) (world x.answer x.file) x.budget) (value_terms (heads_of at.tags) ts) s
gets_all_same setup at l x k kept f e ts earlier found later same s =
    links_alike.get_all_alike (getting_frame setup at x later) (frame_with x k later) (frames_alike setup at l x k kept later) (value_terms (heads_of at.tags) ts) s
    ∙ alike.get_all_alike (frame_of (setting_in setup at) (world x.answer x.file) x.budget) later (subst (λ fs. SameCalls fs later) (sym (calls_same setup at f e)) same) (value_terms (heads_of at.tags) ts)
    (all_closed_cover setup.links.now.links at.tags setup.bound.now.pairs (nodes_in setup) at.seen l.exact l.closed (links_bound setup at l) ts earlier found) s

-- ---- what is formed behind

formed_behind : (fs gs : List FormedCall) (c : _) → is_formed fs c ≡ true → is_formed (fs ++ gs) c ≡ true
formed_behind [] gs c h = cc
formed_behind (f ∷ fs) gs c h = cases (same_call f.call c) (λ q. or_here _ _ q) (λ q. or_there _ _ (formed_behind fs gs c (subst (λ b. (b || is_formed fs c) ≡ true) q h)))

same_before : (fs gs later : List FormedCall) → SameCalls (fs ++ gs) later → SameCalls fs later
same_before fs gs later h = record {
  sites = λ c f. h.sites c (formed_behind fs gs c f) ∙ site_behind fs gs c f;
  attributes = λ c f. h.attributes c (formed_behind fs gs c f) ∙ attribute_behind fs gs c f;
}

map_behind : {A B : Type 0} (f : A → B) (xs ys : List A) → map f (xs ++ ys) ≡ map f xs ++ map f ys
map_behind f [] ys = refl
map_behind f (x ∷ xs) ys = ap (λ zs. f x ∷ zs) (map_behind f xs ys)

-- what goes on from the end of what is formed goes on from its beginning
pub same_from : (fs : List Formed) (was : Formings) (later : List FormedCall) → SameCalls (course.formed_calls (after fs was)) later → SameCalls (course.formed_calls was) later
same_from fs was later h =
    let g = after_goes_on fs was in
    same_before (course.formed_calls was) (map course.formed_call g.0) later (subst (λ cs. SameCalls cs later) (ap (map course.formed_call) g.1 ∙ map_behind course.formed_call was.calls g.0) h)

-- ---- attributes

have_attributes : (terms : List Term) (fs : getting.FormedCalls) → AreLawful terms fs → HaveAttributes (formed_calls (heads_of terms) fs)
have_attributes terms [] h = tt
have_attributes terms (f ∷ fs) h = (h.0.1, have_attributes terms fs h.1)

pub attributes_of : (setup : Setup) (at : Progress) → IsLooking setup at → (f : Formings) → formings (nodes_in setup) at.tags at.seen.memo ≡ f → HaveAttributes (course.formed_calls f)
attributes_of setup at l f e = subst HaveAttributes (calls_same setup at f e) (have_attributes at.tags (setting_in setup at).formed (formed_lawful setup at l))
