use Rattle.std.proofs.Common.{rules, Some}
use Rattle.std.specs.Cmp.Lexicographic.{nat_list_cmp_total}
use Rattle.std.proofs.lemmas.List.Sorted.{searchable_from_sorted}
use Rattle.std.proofs.lemmas.Fn.{always_returns_same}
use Rattle.dx_object_laws.specs.Order.{name_at, rank, rank_cmp}
use Rattle.dx_objects.specs.Shown.{parts_of}
use Rattle.dx_object_laws.proofs.OrderLaws.{has_name, isn't_in_order}
use Rattle.dx_objects.proofs.OrderLaws.{name_below}
use Rattle.dx_objects.proofs.order.find_place.Goals as goal

pub returns-in-Ok-clause-some : goal.returns-in-Ok-clause-some
returns-in-Ok-clause-some c =
    let ps = parts_of c.args.parts.now in
    let held = c.in-Ok.ensures.position (λ y. rank_cmp (name_at ps y) (Some c.args.name.now)) (always_returns_same _ _ _ (λ a r f k. search rules)) in
    has_name _ c.args.name.now (held 0)

pub returns-in-Ok-clause-below : goal.returns-in-Ok-clause-below
returns-in-Ok-clause-below c = name_below c.args.parts.now _ c.args.name.now (returns-in-Ok-clause-some c)

pub returns-in-Err-clause-none : goal.returns-in-Err-clause-none
returns-in-Err-clause-none c = λ e.
    let ps = parts_of c.args.parts.now in
    let rising = searchable_from_sorted nat_list_cmp_total (λ p. rank (name_at ps p)) c.args.order.now (rank (Some c.args.name.now)) c.requires.sorted in
    let point = c.in-Err.ensures.position (λ y. rank_cmp (name_at ps y) (Some c.args.name.now)) (always_returns_same _ _ _ (λ a r f k. search rules)) rising in
    isn't_in_order c.args.name.now ps c.args.order.now c.in-Err.field-0 c.requires point
