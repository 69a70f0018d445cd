-- Links, as they are seen where they are settled and where they aren't.
use Rattle.std.proofs.Common.{◌≡◌, ℕ, ◌+◌, ◌<◌, List, [], ◌∷◌, length, get_or, Some, None, Bool, true, false, refl, sym, ap, ◌∙◌, subst, arith}
use Rattle.std.specs.Prelude.{slice_get, if◌then◌else◌}
use Rattle.std.specs.Ordering.{is_eq}
use Rattle.std.specs.List.Sorted.{IsStrictlySortedBy}
use Rattle.std.specs.declared.cmp.Ordering.TheVariants.{Equal}
use Rattle.std.proofs.lemmas.Option.{slice_get-get_or}
use Rattle.dx_tags.specs.declared.term.ValueTag.{ValueTag}
use Rattle.dx_links.specs.declared.held.Change.{Change}
use Rattle.dx_links.specs.declared.key.Key.{Key}
use Rattle.dx_links.specs.Emptied.{all_held, values_held, held_tag}
use Rattle.dx_links.specs.LinkMap.{LinkMap, after, held_at, key_cmp}
use Rattle.dx_links.specs.Holding.{Holding}
use Rattle.dx_links.specs.Settled.{links_seen, tag_seen}
use Rattle.dx_links.proofs.EmptiedLaws.{bare, bare_after, front_bare, front_here, front_keys, front_length, front_none, same_held, same_values}
use Rattle.dx_links.proofs.LinkLaws.{AreSorted, key_cmp_total}

pub seen_length : (settled : Bool) (links : LinkMap) → length (links_seen settled links) ≡ length links
seen_length true links = front_length (length links) 0 links
seen_length false links = refl

pub seen_sorted : (settled : Bool) (links : LinkMap) → AreSorted links → AreSorted (links_seen settled links)
seen_sorted true links s = subst (IsStrictlySortedBy key_cmp) (sym (front_keys (length links) 0 links)) s
seen_sorted false links s = s

pub seen_none : (settled : Bool) (k : Key) (links : LinkMap) → held_at k links ≡ None → held_at k (links_seen settled links) ≡ None
seen_none true k links e = front_none (length links) 0 k links e
seen_none false k links e = e

-- keys that compare as equal hold the same
pub held_tied : (a b : Key) (links : LinkMap) → key_cmp a b ≡ Equal → held_at a links ≡ held_at b links
held_tied a b [] e = refl
held_tied a b (l ∷ ls) e = λ t. if is_eq (key_cmp_total.congr a b l.0 e t) then Some l.1 else held_tied a b ls e t

-- what stands at a place
pub seen_at : (settled : Bool) (links : LinkMap) (i : ℕ) (l : Key × Holding) (t : ValueTag) → i < length links → slice_get links i ≡ Some l → t ≡ tag_seen settled i l.1.tag
    → slice_get (links_seen settled links) i ≡ Some (l.0, record { value = l.1.value; tag = t })
seen_at true links i l t h e q =
    let place : 0 + i ≡ i = omega arith in
    front_here (length links) 0 i links l h e ∙ ap (λ u. Some (l.0, record { value = l.1.value; tag = u })) (ap held_tag place ∙ sym q)
seen_at false links i l t h e q = e ∙ ap (λ u. Some (l.0, record { value = l.1.value; tag = u })) (sym q)

pub seen_key : (settled : Bool) (links : LinkMap) (i : ℕ) (l d : Key × Holding) → i < length links → slice_get (links_seen settled links) i ≡ Some l → (get_or links i d).0 ≡ l.0
seen_key settled links i l d h e =
    let x = get_or links i d in
    let seen : Key × Holding = (x.0, record { value = x.1.value; tag = tag_seen settled i x.1.tag }) in
    let at = seen_at settled links i x (tag_seen settled i x.1.tag) h (slice_get-get_or links i d h) refl in
    let both : Some seen ≡ Some l = sym at ∙ e in
    let same : seen ≡ l = cc in
    ap (λ (y : Key × Holding). y.0) same

-- ---- an emptying

seen_bare : (settled : Bool) (links : LinkMap) → bare links ≡ bare (links_seen settled links)
seen_bare true links = sym (front_bare (length links) 0 links)
seen_bare false links = refl

pub emptied_links : (settled : Bool) (links new : LinkMap) (cs : List Change) → new ≡ after links cs → all_held new ≡ all_held (after (links_seen settled links) cs)
emptied_links settled links new cs e =
    ap all_held e ∙ same_held (after links cs) (after (links_seen settled links) cs) (bare_after links (links_seen settled links) cs (seen_bare settled links))

pub emptied_values : (settled : Bool) (links new : LinkMap) (cs : List Change) → new ≡ after links cs → values_held new ≡ values_held (after (links_seen settled links) cs)
emptied_values settled links new cs e =
    ap values_held e ∙ same_values (after links cs) (after (links_seen settled links) cs) (bare_after links (links_seen settled links) cs (seen_bare settled links))
