-- Each call that getting a value can reach was formed, or is a link's.
use Rattle.std.proofs.Common.{◌≡◌, ◌⊎◌, ⊎_elim, ℕ, zero, suc, ◌+◌, ◌<◌, ◌≤◌, List, [], ◌∷◌, length, Some, Bool, true, false, refl, sym, ap, ◌∙◌, subst, arith, get_or, true≢false}
use Rattle.std.specs.Prelude.{slice_get, cond, ◌==◌, ◌||◌}
use Rattle.std.specs.Map.{lookup}
use Rattle.std.specs.Cmp.{unsigned_Decides}
use Rattle.std.proofs.lemmas.Option.{slice_get-get_or}
use Rattle.dx_base.specs.Object.{Tree as Object}
use Rattle.dx_base.specs.declared.function.Module.{Module}
use Rattle.dx_graph.specs.Graph.{Node}
use Rattle.dx_tags.specs.declared.term.Term.{Term}
use Rattle.dx_tags.specs.declared.term.Term.TheVariants.{Constant, Held, Call, File}
use Rattle.dx_tags.specs.declared.term.ValueTag.{ValueTag}
use Rattle.dx_tags.specs.contracts.term.ValueTagPartialEq.TheImpl as tags
use Rattle.dx_tags.specs.Closed.{ResultTerm, CallTerm, CallOf, Head, ConstantHead, HeldHead, CallHead, FileHead, head_at, heads_of, result_of_head, value_term, value_terms, AreEarlier, IsFormed, AreFormed, AllFormed}
use Rattle.dx_tags.proofs.ClosedTerms.{head_unfolds}
use Rattle.dx_links.specs.Getting.{same_value, same_call, has_value}
use Rattle.dx_links.specs.LinkMap.{LinkMap}
use Rattle.dx_machine.specs.Covered.{is_formed, IsCovered, IsCoveredCall, AreCovered}
use Rattle.dx_machine.proofs.SameTerms.{call_true, value_true}
use Rattle.dx_getting.specs.Stands.{call_of_head, call_at, formed_calls, link_terms}
use Rattle.dx_getting.specs.Terms.{BoundValues}
use Rattle.dx_getting.proofs.Names.{tag_decides}
use Rattle.dx_demand.specs.Memo.{formed_of}
use Rattle.dx_demand.specs.Forming.{Entries, found_in}
use Rattle.dx_demand.specs.Found.{NeedsNoCall, IsLinked, IsFirst, IsFound, AllFound, MemoFound}
use Rattle.dx_demand.specs.declared.seen.Memo.{Memo}
use Rattle.dx_resuming.specs.Formed.{formed_in}
use Rattle.dx_resuming.specs.Covering.{LinksBound, ClosedCovers, AllClosedCover}

-- ---- what stands in lists

cases : {P : Type 0} (b : Bool) → (b ≡ true → P) → (b ≡ false → P) → P
cases true f g = f refl
cases false f g = g refl

or_here : (a b : Bool) → a ≡ true → (a || b) ≡ true
or_here true b e = refl
or_here false b e = cc

or_there : (a b : Bool) → b ≡ true → (a || b) ≡ true
or_there true b e = refl
or_there false b e = e

-- a link's value is at hand
pub linked_value : (hs : List Head) (bound : BoundValues) (t : ValueTag) (o : Object) → lookup (tags.ghosts.eq t) bound ≡ Some o → has_value (link_terms hs bound) (value_term hs t) ≡ true
linked_value hs [] t o e = cc
linked_value hs (l ∷ ls) t o e = cases (tags.ghosts.eq t l.0)
    (λ q. or_here (same_value (value_term hs l.0) (value_term hs t)) (has_value (link_terms hs ls) (value_term hs t))
    (value_true (value_term hs l.0) (value_term hs t) (ap (value_term hs) (sym ((tag_decides t l.0).0 q)))))
    (λ q. or_there (same_value (value_term hs l.0) (value_term hs t)) (has_value (link_terms hs ls) (value_term hs t))
    (linked_value hs ls t o (subst (λ b. cond b (Some l.1) (lookup (tags.ghosts.eq t) ls) ≡ Some o) q e)))

-- a call that has its first node was formed
pub first_formed : (nodes : List Node) (hs : List Head) (es : Entries) (tag n : ℕ) → found_in es tag ≡ Some n → is_formed (formed_calls hs (formed_in nodes es)) (call_at hs tag) ≡ true
first_formed nodes hs [] tag n e = cc
first_formed nodes hs (x ∷ es) tag n e = cases (tag == x.0)
    (λ q. or_here (same_call (call_at hs x.0) (call_at hs tag)) (is_formed (formed_calls hs (formed_in nodes es)) (call_at hs tag))
    (call_true (call_at hs x.0) (call_at hs tag) (ap (call_at hs) (sym ((unsigned_Decides tag x.0).0 q)))))
    (λ q. or_there (same_call (call_at hs x.0) (call_at hs tag)) (is_formed (formed_calls hs (formed_in nodes es)) (call_at hs tag))
    (first_formed nodes hs es tag n (subst (λ b. cond b (Some x.1) (found_in es tag) ≡ Some n) q e)))

formed_at : (all : List Head) (k : ℕ) (ts : List Term) → AreFormed all k ts → (n : ℕ) (t : Term) → slice_get ts n ≡ Some t → IsFormed all (k + n) t
formed_at all k [] o n t e = cc
formed_at all k (first ∷ ts) o zero t e =
    let same : first ≡ t = cc in
    subst (λ x. IsFormed all x t) (omega arith) (subst (λ x. IsFormed all k x) same o.0)
formed_at all k (first ∷ ts) o (suc n) t e = subst (λ x. IsFormed all x t) (omega arith) (formed_at all (suc k) ts o.1 n t e)

-- a tag that names a call is that of a call
record IsCallAt (terms : List Term) (tag : ℕ) (c : CallTerm) : Type 0 where
  what : Module
  arguments : List ValueTag
  at : slice_get terms tag ≡ Some (Call what arguments)
  call : c ≡ CallOf what (value_terms (heads_of terms) arguments)
  earlier : AreEarlier (heads_of terms) tag arguments

call_where : (terms : List Term) → AllFormed terms → (tag : ℕ) (c : CallTerm) → head_at (heads_of terms) tag ≡ CallHead c → (t : Term) → slice_get terms tag ≡ Some t → IsCallAt terms tag c
call_where terms f tag c h (Constant k) e = let u = head_unfolds terms f tag (Constant k) e in cc
call_where terms f tag c h (Held k) e = let u = head_unfolds terms f tag (Held k) e in cc
call_where terms f tag c h (File b) e = let u = head_unfolds terms f tag (File b) e in cc
call_where terms f tag c h (Call m ts) e = (
    let u = head_unfolds terms f tag (Call m ts) e in
    let both : CallHead c ≡ CallHead (CallOf m (value_terms (heads_of terms) ts)) = sym h ∙ u in
    record {
      what = m;
      arguments = ts;
      at = e;
      call = cc;
      earlier = subst (λ k. AreEarlier (heads_of terms) k ts) (omega arith) (formed_at (heads_of terms) 0 terms f tag (Call m ts) e);
    })

-- ---- values

module _ (links : LinkMap) (terms : List Term) (bound : BoundValues) (nodes : List Node) (m : Memo) (f : AllFormed terms) (found : MemoFound links terms m) (b : LinksBound (heads_of terms) links bound) where
  abbrev Covers : ValueTag → Type 0
  Covers t = IsCovered (formed_calls (heads_of terms) (formed_in nodes m.formed.entries)) (link_terms (heads_of terms) bound) (value_term (heads_of terms) t)

  -- where each found value of an earlier tag is covered
  all_cover : (k : ℕ) → ((t : ValueTag) → t.tag < k → IsFound links terms (formed_of m) t → Covers t) → (ts : List ValueTag) → AreEarlier (heads_of terms) k ts → AllFound links terms (formed_of m) ts →
      AreCovered (formed_calls (heads_of terms) (formed_in nodes m.formed.entries)) (link_terms (heads_of terms) bound) (value_terms (heads_of terms) ts)
  all_cover k before [] e a = tt
  all_cover k before (t ∷ ts) e a = (before t e.0.0 a.0, all_cover k before ts e.1 a.1)

  call_covers : (tag : ℕ) → ((t : ValueTag) → t.tag < tag → IsFound links terms (formed_of m) t → Covers t) → (c : CallTerm) → head_at (heads_of terms) tag ≡ CallHead c → IsFirst (formed_of m) tag → IsCallAt terms tag c →
      IsCoveredCall (formed_calls (heads_of terms) (formed_in nodes m.formed.entries)) (link_terms (heads_of terms) bound) c
  call_covers tag before c h first is =
      let calls = formed_calls (heads_of terms) (formed_in nodes m.formed.entries) in
      let here : call_at (heads_of terms) tag ≡ CallOf is.what (value_terms (heads_of terms) is.arguments) = ap call_of_head h ∙ is.call in
      subst (IsCoveredCall calls (link_terms (heads_of terms) bound)) (sym is.call) (
        subst (λ d. is_formed calls d ≡ true) here (first_formed nodes (heads_of terms) m.formed.entries tag first.node first.at),
        all_cover tag before is.arguments is.earlier (found.formed tag first.node first.at is.what is.arguments is.at),
      )

  value_covers : (t : ValueTag) → ((u : ValueTag) → u.tag < t.tag → IsFound links terms (formed_of m) u → Covers u) → t.tag < length terms → IsFound links terms (formed_of m) t → Covers t
  value_covers t before within is = by_head (head_at (heads_of terms) t.tag) refl
    where
      by_call : (c : CallTerm) → head_at (heads_of terms) t.tag ≡ CallHead c → has_value (link_terms (heads_of terms) bound) (ResultTerm t.result c) ≡ false → IsCoveredCall (formed_calls (heads_of terms) (formed_in nodes m.formed.entries)) (link_terms (heads_of terms) bound) c
      by_call c h none = ⊎_elim
          (λ (no : NeedsNoCall (head_at (heads_of terms) t.tag)). absurd (subst NeedsNoCall h no))
          (λ (other : IsLinked links t ⊎ IsFirst (formed_of m) t.tag). ⊎_elim
          (λ (l : IsLinked links t). absurd (⊎_elim
          (λ (no : NeedsNoCall (head_at (heads_of terms) l.held.tag.tag)). subst NeedsNoCall (ap (λ (x : ValueTag). head_at (heads_of terms) x.tag) l.tag ∙ h) no)
          (λ (o : (x : Object) × (lookup (tags.ghosts.eq l.held.tag) bound ≡ Some x)). true≢false (
          let at = linked_value (heads_of terms) bound t o.0 (subst (λ x. lookup (tags.ghosts.eq x) bound ≡ Some o.0) l.tag o.1) in
          sym at ∙ ap (λ x. has_value (link_terms (heads_of terms) bound) (result_of_head x t.result)) h ∙ none))
          (b l.key l.held l.at)))
          (λ (first : IsFirst (formed_of m) t.tag).
          call_covers t.tag before c h first (call_where terms f t.tag c h (get_or terms t.tag (Held 0)) (slice_get-get_or terms t.tag (Held 0) within)))
          other)
          is

      by_head : (h : Head) → head_at (heads_of terms) t.tag ≡ h → Covers t
      by_head (ConstantHead c) h = rw h tt
      by_head (HeldHead n) h = rw h tt
      by_head (FileHead x) h = rw h tt
      by_head (CallHead c) h = rw h (by_call c h)

  up_to : (n : ℕ) → n ≤ length terms → (t : ValueTag) → t.tag < n → IsFound links terms (formed_of m) t → Covers t
  up_to zero le t lt is = absurd (omega (arith, lt))
  up_to (suc n) le t lt is = value_covers t (λ u less. up_to n (omega (arith, le)) u (omega (arith, less, lt))) (omega (arith, le, lt)) is

pub closed_covers : ClosedCovers
closed_covers links terms bound nodes seen x c b t fits is = up_to links terms bound nodes seen.memo x.formed c.memo b (length terms) (omega arith) t fits.within is

pub all_closed_cover : AllClosedCover
all_closed_cover links terms bound nodes seen x c b ts e all =
    all_cover links terms bound nodes seen.memo x.formed c.memo b (length terms) (up_to links terms bound nodes seen.memo x.formed c.memo b (length terms) (omega arith)) ts e all
