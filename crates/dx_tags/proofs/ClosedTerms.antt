-- Two tags name two closed terms.
use Rattle.std.proofs.Common.{◌≡◌, ℕ, zero, suc, ◌+◌, ◌<◌, ◌≤◌, List, [], ◌∷◌, ◌++◌, length, Some, get_or, refl, sym, ap, ap₂, ◌∙◌, subst, arith, add-zero, length-append}
use Rattle.std.specs.Prelude.{slice_get}
use Rattle.std.proofs.lemmas.Option.{slice_get-get_or}
use Rattle.dx_tags.specs.declared.term.Term.{Term}
use Rattle.dx_tags.specs.declared.term.Term.TheVariants.{Constant, Held, Call, File}
use Rattle.dx_tags.specs.declared.term.ValueTag.{ValueTag}
use Rattle.dx_tags.specs.Closed.{CallOf, AndTerm, Head, ConstantHead, HeldHead, CallHead, FileHead, head_at, result_of_head, value_term, value_terms, head_of, heads_after, heads_of, IsResultOf, AreEarlier, IsFormed, AreFormed, AreDistinct, NamesExactly}

head_at-append : (hs is : List Head) (n : ℕ) → n < length hs → head_at (hs ++ is) n ≡ head_at hs n
head_at-append [] is n h = absurd (omega arith)
head_at-append (c ∷ hs) is zero h = refl
head_at-append (c ∷ hs) is (suc n) h = head_at-append hs is n (omega arith)

head_at-length : (hs : List Head) (c : Head) → head_at (hs ++ c ∷ []) (length hs) ≡ c
head_at-length [] c = refl
head_at-length (d ∷ hs) c = head_at-length hs c

-- later terms leave what earlier tags name
pub head_at-heads_after : (hs : List Head) (ts : List Term) (n : ℕ) → n < length hs → head_at (heads_after hs ts) n ≡ head_at hs n
head_at-heads_after hs [] n h = refl
head_at-heads_after hs (t ∷ ts) n h =
    head_at-heads_after (hs ++ head_of hs t ∷ []) ts n (omega (arith, length-append hs (head_of hs t ∷ [])))
    ∙ head_at-append hs (head_of hs t ∷ []) n h

pub same_values : (hs is all : List Head) (n : ℕ) → ((m : ℕ) → m < n → head_at hs m ≡ head_at is m) → (ts : List ValueTag) → AreEarlier all n ts → value_terms hs ts ≡ value_terms is ts
same_values hs is all n h [] b = refl
same_values hs is all n h (t ∷ ts) b =
    ap₂ AndTerm (ap (λ c. result_of_head c t.result) (h t.tag b.0.0)) (same_values hs is all n h ts b.1)

pub same_head : (hs is all : List Head) (n : ℕ) → ((m : ℕ) → m < n → head_at hs m ≡ head_at is m) → (t : Term) → IsFormed all n t → head_of hs t ≡ head_of is t
same_head hs is all n h (Constant c) b = refl
same_head hs is all n h (Held k) b = refl
same_head hs is all n h (File f) b = refl
same_head hs is all n h (Call m ts) b = ap (λ us. CallHead (CallOf m us)) (same_values hs is all n h ts b)

unfolds_after : (hs : List Head) (ts : List Term) (all : List Head) → AreFormed all (length hs) ts → (n : ℕ) (t : Term) → slice_get ts n ≡ Some t → head_at (heads_after hs ts) (length hs + n) ≡ head_of (heads_after hs ts) t
unfolds_after hs [] all o n t e = cc
unfolds_after hs (first ∷ ts) all o zero t e =
    let rest = heads_after (hs ++ head_of hs first ∷ []) ts in
    let same : first ≡ t = cc in
    let len = length-append hs (head_of hs first ∷ []) in
    let at : head_at rest (length hs + 0) ≡ head_of hs first =
    ap (head_at rest) (add-zero (length hs)) ∙ head_at-heads_after (hs ++ head_of hs first ∷ []) ts (length hs) (omega (arith, len)) ∙ head_at-length hs (head_of hs first) in
    at ∙ same_head hs rest all (length hs) (λ m h. sym (head_at-heads_after (hs ++ head_of hs first ∷ []) ts m (omega (arith, len)) ∙ head_at-append hs (head_of hs first ∷ []) m h)) first o.0
    ∙ ap (head_of rest) same
unfolds_after hs (first ∷ ts) all o (suc n) t e =
    let hs' = hs ++ head_of hs first ∷ [] in
    let len : length hs' ≡ suc (length hs) = omega (arith, length-append hs (head_of hs first ∷ [])) in
    let place : length hs + suc n ≡ length hs' + n = omega (arith, len) in
    ap (head_at (heads_after hs' ts)) place ∙ unfolds_after hs' ts all (subst (λ k. AreFormed all k ts) (sym len) o.1) n t e

-- what a tag names, by what its own tags name
pub head_unfolds : (ts : List Term) → AreFormed (heads_of ts) 0 ts → (n : ℕ) (t : Term) → slice_get ts n ≡ Some t → head_at (heads_of ts) n ≡ head_of (heads_of ts) t
head_unfolds ts o n t e = ap (head_at (heads_of ts)) (omega arith) ∙ unfolds_after [] ts (heads_of ts) o n t e

formed_at : (all : List Head) (k : ℕ) (ts : List Term) → AreFormed all k ts → (n : ℕ) (t : Term) → slice_get ts n ≡ Some t → IsFormed all (k + n) t
formed_at all k [] o n t e = cc
formed_at all k (first ∷ ts) o zero t e =
    let same : first ≡ t = cc in
    let at : k + 0 ≡ k = omega arith in
    subst (λ m. IsFormed all m t) (sym at) (subst (IsFormed all k) same o.0)
formed_at all k (first ∷ ts) o (suc n) t e =
    let at : suc k + n ≡ k + suc n = omega arith in
    subst (λ m. IsFormed all m t) at (formed_at all (suc k) ts o.1 n t e)

-- results of heads are the same only of the same head and result
same_result : (a b : Head) (r s : ℕ) → IsResultOf a r → IsResultOf b s → result_of_head a r ≡ result_of_head b s → (a ≡ b) × (r ≡ s)
same_result (ConstantHead c) (ConstantHead d) r s p q e = (let k : c ≡ d = cc in ap ConstantHead k, p ∙ sym q)
same_result (ConstantHead c) (HeldHead d) r s p q e = cc
same_result (ConstantHead c) (CallHead d) r s p q e = cc
same_result (HeldHead c) (ConstantHead d) r s p q e = cc
same_result (HeldHead c) (HeldHead d) r s p q e = (let k : c ≡ d = cc in ap HeldHead k, p ∙ sym q)
same_result (HeldHead c) (CallHead d) r s p q e = cc
same_result (CallHead c) (ConstantHead d) r s p q e = cc
same_result (CallHead c) (HeldHead d) r s p q e = cc
same_result (CallHead c) (CallHead d) r s p q e = (let k : c ≡ d = cc in ap CallHead k, cc)
same_result (FileHead c) (FileHead d) r s p q e = (let k : c ≡ d = cc in ap FileHead k, p ∙ sym q)
same_result (FileHead c) (ConstantHead d) r s p q e = cc
same_result (FileHead c) (HeldHead d) r s p q e = cc
same_result (FileHead c) (CallHead d) r s p q e = cc
same_result (ConstantHead c) (FileHead d) r s p q e = cc
same_result (HeldHead c) (FileHead d) r s p q e = cc
same_result (CallHead c) (FileHead d) r s p q e = cc

-- below n no two tags name one closed term
abbrev ExactBelow : List Head → ℕ → Type 0
ExactBelow hs n = (i j : ℕ) → i < n → j < n → head_at hs i ≡ head_at hs j → i ≡ j

same_tags : (hs : List Head) (n : ℕ) → ExactBelow hs n → (ts us : List ValueTag) → AreEarlier hs n ts → AreEarlier hs n us → value_terms hs ts ≡ value_terms hs us → ts ≡ us
same_tags hs n x [] [] p q e = refl
same_tags hs n x [] (u ∷ us) p q e = cc
same_tags hs n x (t ∷ ts) [] p q e = cc
same_tags hs n x (t ∷ ts) (u ∷ us) p q e =
    let first : value_term hs t ≡ value_term hs u = cc in
    let rest : value_terms hs ts ≡ value_terms hs us = cc in
    let same = same_result (head_at hs t.tag) (head_at hs u.tag) t.result u.result p.0.1 q.0.1 first in
    let tag : t.tag ≡ u.tag = x t.tag u.tag p.0.0 q.0.0 same.0 in
    let one : t ≡ u = λ i. record { tag = tag i; result = same.1 i } in
    ap₂ (λ a b. a ∷ b) one (same_tags hs n x ts us p.1 q.1 rest)

earlier_too : (hs : List Head) (m n : ℕ) → m ≤ n → (ts : List ValueTag) → AreEarlier hs m ts → AreEarlier hs n ts
earlier_too hs m n le [] h = tt
earlier_too hs m n le (t ∷ ts) h = ((let lt = h.0.0 in omega arith, h.0.1), earlier_too hs m n le ts h.1)

same_terms : (hs : List Head) (n i j : ℕ) → i ≤ n → j ≤ n → ExactBelow hs n → (t u : Term) → IsFormed hs i t → IsFormed hs j u → head_of hs t ≡ head_of hs u → t ≡ u
same_terms hs n i j li lj x (Constant c) (Constant d) p q e = let k : c ≡ d = cc in ap Constant k
same_terms hs n i j li lj x (Held c) (Held d) p q e = let k : c ≡ d = cc in ap Held k
same_terms hs n i j li lj x (Call m ts) (Call o us) p q e =
    let modules : m ≡ o = cc in
    let args : value_terms hs ts ≡ value_terms hs us = cc in
    ap₂ Call modules (same_tags hs n x ts us (earlier_too hs i n li ts p) (earlier_too hs j n lj us q) args)
same_terms hs n i j li lj x (File c) (File d) p q e = let k : c ≡ d = cc in ap File k
same_terms hs n i j li lj x (File c) (Constant d) p q e = cc
same_terms hs n i j li lj x (File c) (Held d) p q e = cc
same_terms hs n i j li lj x (File c) (Call o us) p q e = cc
same_terms hs n i j li lj x (Constant c) (File d) p q e = cc
same_terms hs n i j li lj x (Held c) (File d) p q e = cc
same_terms hs n i j li lj x (Call m ts) (File d) p q e = cc
same_terms hs n i j li lj x (Constant c) (Held d) p q e = cc
same_terms hs n i j li lj x (Constant c) (Call o us) p q e = cc
same_terms hs n i j li lj x (Held c) (Constant d) p q e = cc
same_terms hs n i j li lj x (Held c) (Call o us) p q e = cc
same_terms hs n i j li lj x (Call m ts) (Constant d) p q e = cc
same_terms hs n i j li lj x (Call m ts) (Held d) p q e = cc

module _ (ts : List Term) (formed : AreFormed (heads_of ts) 0 ts) (distinct : AreDistinct ts) where
  exact_at : (n i j : ℕ) → i ≤ n → j ≤ n → ExactBelow (heads_of ts) n → i < length ts → j < length ts → head_at (heads_of ts) i ≡ head_at (heads_of ts) j → i ≡ j
  exact_at n i j li lj x hi hj e =
      let d = Held 0 in
      let a = slice_get-get_or ts i d hi in
      let b = slice_get-get_or ts j d hj in
      let zero_i : 0 + i ≡ i = omega arith in
      let zero_j : 0 + j ≡ j = omega arith in
      let fi = subst (λ m. IsFormed (heads_of ts) m (get_or ts i d)) zero_i (formed_at (heads_of ts) 0 ts formed i (get_or ts i d) a) in
      let fj = subst (λ m. IsFormed (heads_of ts) m (get_or ts j d)) zero_j (formed_at (heads_of ts) 0 ts formed j (get_or ts j d) b) in
      let heads = sym (head_unfolds ts formed i (get_or ts i d) a) ∙ e ∙ head_unfolds ts formed j (get_or ts j d) b in
      let same = same_terms (heads_of ts) n i j li lj x (get_or ts i d) (get_or ts j d) fi fj heads in
      distinct i j (get_or ts j d) (a ∙ ap Some same) b

  exact_below : (n : ℕ) → n ≤ length ts → ExactBelow (heads_of ts) n
  exact_below zero le i j hi hj e = absurd (omega arith)
  exact_below (suc n) le i j hi hj e =
      exact_at n i j (omega arith) (omega arith) (exact_below n (omega arith)) (omega arith) (omega arith) e

  pub names_exactly : NamesExactly ts
  names_exactly i j hi hj e = exact_below (length ts) (omega arith) i j hi hj e
