-- What a name finds where a part is put among others or taken out.
use Rattle.std.proofs.Common.{◌≡◌, ◌≢◌, ℕ, List, Option, Some, None, true, false, refl, ap, ◌∙◌, subst}
use Rattle.std.specs.Prelude.{is_none, bytes_eq, IsTrue}
use Rattle.std.proofs.lemmas.Bool.{and_parts}
use Rattle.std.proofs.lemmas.Slice.Eq.{bytes_eq-Decides}
use Rattle.dx_base.specs.Object.{Tree, PartList, no_parts, part}
use Rattle.dx_base.specs.ObjectNames.{same_name, find, put, without}
use Rattle.dx_base.specs.ObjectLimits.{lacks, differ}
use Rattle.dx_object_laws.proofs.PutLaws.{by_bool}

own_name : (n : List ℕ) → bytes_eq n n ≡ true
own_name n = (bytes_eq-Decides n n).1 refl

other_name : (m n : List ℕ) → m ≢ n → bytes_eq m n ≡ false
other_name m n h = by_bool (bytes_eq m n) _ (λ e. absurd (h ((bytes_eq-Decides m n).0 e))) (λ e. e)

-- a part of one name is not of another
other_part : (m n : List ℕ) (k : Option (List ℕ)) → m ≢ n → same_name n k ≡ true → same_name m k ≡ false
other_part m n None h e = refl
other_part m n (Some j) h e =
    let same : n ≡ j = (bytes_eq-Decides n j).0 e in
    subst (λ (x : List ℕ). bytes_eq m x ≡ false) same (other_name m n h)

pub find-put_own : (n : List ℕ) (t : Tree) (ps : PartList) → find n (put n t ps) ≡ Some t
find-put_own n t no_parts = rw (own_name n) refl
find-put_own n t (part k p u ps) =
    by_bool (same_name n k) _
    (λ e. rw (e, e) refl)
    (λ e. rw (e, e) (find-put_own n t ps))

pub find-put_other : (m n : List ℕ) (t : Tree) (ps : PartList) → m ≢ n → find m (put n t ps) ≡ find m ps
find-put_other m n t no_parts h = rw (other_name m n h) refl
find-put_other m n t (part k p u ps) h =
    by_bool (same_name n k) _
    (λ e. rw (e, other_part m n k h e) refl)
    (λ e. by_bool (same_name m k) _ (λ f. rw (e, f) refl) (λ f. rw (e, f) (find-put_other m n t ps h)))

none_of : {X : Type 0} (o : Option X) → is_none o ≡ true → o ≡ None
none_of None h = refl
none_of (Some x) h = cc

-- where the first part has the name, no other part has it
lacks_own : (n : List ℕ) (k : Option (List ℕ)) (ps : PartList) → same_name n k ≡ true → lacks k ps ≡ true → find n ps ≡ None
lacks_own n None ps e h = cc
lacks_own n (Some j) ps e h =
    let same : n ≡ j = (bytes_eq-Decides n j).0 e in
    ap (λ x. find x ps) same ∙ none_of (find j ps) h

pub find-without_own : (n : List ℕ) (ps : PartList) → IsTrue (differ ps) → find n (without n ps) ≡ None
find-without_own n no_parts h = refl
find-without_own n (part k p u ps) h =
    let hs = and_parts (lacks k ps) (differ ps) h in
    by_bool (same_name n k) _
    (λ e. rw e (lacks_own n k ps e hs.0))
    (λ e. rw (e, e) (find-without_own n ps hs.1))

pub find-without_other : (m n : List ℕ) (ps : PartList) → m ≢ n → find m (without n ps) ≡ find m ps
find-without_other m n no_parts h = refl
find-without_other m n (part k p u ps) h =
    by_bool (same_name n k) _
    (λ e. rw (e, other_part m n k h e) refl)
    (λ e. by_bool (same_name m k) _ (λ f. rw (e, f) refl) (λ f. rw (e, f) (find-without_other m n ps h)))
