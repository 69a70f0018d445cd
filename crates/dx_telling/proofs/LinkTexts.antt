-- The text of the links from one on.
use Rattle.std.proofs.Common.{◌≡◌, ◌∙◌, ◌≤◌, ◌+◌, ◌++◌, ◌∷◌, [], ℕ, List, Some, drop, length, ap, sym, append_assoc, append-nil}
use Rattle.std.specs.List.{slice_get}
use Rattle.std.proofs.lemmas.List.{drop_more, drop_all}
use Rattle.std.proofs.lemmas.Option.{slice_get_within, get_or_from_slice_get}
use Rattle.dx_links.specs.declared.key.Key.{Key}
use Rattle.dx_links.specs.Holding.{Holding}
use Rattle.dx_links.specs.LinkMap.{LinkMap}
use Rattle.dx_telling.specs.Behind.{each_link, link_text}
use Rattle.dx_telling.specs.Tells.{objects_in}

abbrev pub links_from : LinkMap → ℕ → List ℕ
links_from links i = each_link (objects_in (drop i links))

drop_at : (links : LinkMap) (i : ℕ) (l : Key × Holding) → slice_get links i ≡ Some l → drop i links ≡ l ∷ drop (i + 1) links
drop_at links i l at = drop_more links i l (slice_get_within links i l at) ∙ ap (λ (x : Key × Holding). x ∷ drop (i + 1) links) (get_or_from_slice_get links i l l at)

pub link_next : (links : LinkMap) (i : ℕ) (l : Key × Holding) (before out whole : List ℕ) → slice_get links i ≡ Some l →
    before ++ links_from links i ≡ whole → out ≡ before ++ link_text l.0 l.1.value → out ++ links_from links (i + 1) ≡ whole
link_next links i l before out whole at e next =
    let rest = ap (λ (ls : LinkMap). each_link (objects_in ls)) (drop_at links i l at) in
    ap (λ (text : List ℕ). text ++ links_from links (i + 1)) next
    ∙ append_assoc before (link_text l.0 l.1.value) (links_from links (i + 1))
    ∙ ap (λ (text : List ℕ). before ++ text) (sym rest)
    ∙ e

pub link_end : (links : LinkMap) (i : ℕ) (out whole : List ℕ) → length links ≤ i → out ++ links_from links i ≡ whole → out ≡ whole
link_end links i out whole past e =
    sym (append-nil out) ∙ ap (λ (ls : LinkMap). out ++ each_link (objects_in ls)) (sym (drop_all i links past)) ∙ e
