use Rattle.std.proofs.Common.{◌≡◌, ◌∙◌, ◌<◌, ◌+◌, ◌-◌, ℕ, List, sym, ap, Some, arith, length}
use Rattle.std.specs.Prelude.{slice_get}
use Rattle.std.specs.List.{swap_remove}
use Rattle.dx_cache.specs.declared.names.Group.{Group}
use Rattle.dx_cache.specs.Held.{moved_to}
use Rattle.dx_cache.proofs.Lists.{entry_of_value, swapped_moved, get_past}
use Rattle.dx_cache.proofs.names.remove.Goals as goal

holder_there : (es es' : List (List ℕ × Group)) (k : ℕ) (p q : List ℕ × Group) (n : ℕ) → es' ≡ swap_remove es k p → length es' + 1 ≡ length es → k < length es' → slice_get es' k ≡ Some q
    → ((m : ℕ) (p : List ℕ × Group) → slice_get es m ≡ Some p → p.1.holder < n) → q.1.holder < n
holder_there es es' k p q n e l w g f =
    let more : k + 1 < length es = omega (arith, l, w) in
    let at : slice_get es (length es - 1) ≡ Some q = sym (swapped_moved es k p more) ∙ sym (ap (λ xs. slice_get xs k) e) ∙ g in
    f (length es - 1) q at

pub put-requires : goal.put-requires
put-requires c =
    let e = entry_of_value c.swap_remove_index.new.self.entries c.args.k c.index.result.now c.index.ensures in
    let l = c.in-Some.ensures.len in
    let w = c.if-k-len.true in
    let n = c.len.ensures.len in
    holder_there c.args.table.now.entries c.swap_remove_index.new.self.entries c.args.k _ (e.0, c.index.result.now) _ c.in-Some.ensures.entries l (omega (arith, w, n)) e.1 c.requires.holders

pub returns-then-k-len-clause-removed : goal.returns-then-k-len-clause-removed
returns-then-k-len-clause-removed c =
    let e = entry_of_value c.swap_remove_index.new.self.entries c.args.k c.index.result.now c.index.ensures in
    let s = c.in-Some.site-is in
    (c.in-Some.field-0-1, sym c.in-Some.ensures.entry, c.in-Some.ensures.entries, c.put.ensures ∙ sym (ap (moved_to c.args.held.now.items c.args.k) e.1))

pub returns-else-k-len-clause-removed : goal.returns-else-k-len-clause-removed
returns-else-k-len-clause-removed c =
    let w = c.if-k-len.false in
    let n = c.len.ensures.len in
    let s = c.in-Some.site-is in
    (c.in-Some.field-0-1, sym c.in-Some.ensures.entry, c.in-Some.ensures.entries, sym (ap (moved_to c.args.held.now.items c.args.k) (get_past c.swap_remove_index.new.self.entries c.args.k (omega (arith, w, n)))))
