use Rattle.std.proofs.Common.{◌-◌, ◌<◌, length, ◌∙◌, arith}
use Rattle.std.proofs.lemmas.Option.{slice_get_within}
use Rattle.dx_tags.proofs.HeldTerms.{behind_at}
use Rattle.dx_tags.proofs.NamedLaws.{stand_more, length_more, kept_behind, formed_alone}
use Rattle.dx_tags.proofs.tags.form.Goals as goal

pub overflow_add-result : goal.overflow_add-result
overflow_add-result c =
    let p = c.in_ok-place in
    let within = slice_get_within c.intern.new.self p.place c.args.t p.ensures.named in
    let more = length_more c.args.formed.now c.intern.new.self c.args.t p.ensures.kept in
    omega (arith, c.count.ensures, c.if-count-held.false)

pub returns-clause-behind : goal.returns-clause-behind
returns-clause-behind c =
    let room : length c.args.formed.now < 18446744073709551615 - c.args.held = omega (arith, c.count.ensures, c.if-count-held.false) in
    stand_more c.args.held c.args.formed.now c.intern.new.self c.args.t c.requires.behind c.requires.other room c.in_ok-place.ensures.kept

pub returns-clause-named : goal.returns-clause-named
returns-clause-named c = behind_at c.args.held c.intern.new.self c.in_ok-place.place ∙ c.in_ok-place.ensures.named

pub returns-clause-exact : goal.returns-clause-exact
returns-clause-exact c = formed_alone c.args.held c.intern.new.self c.in_ok-place.place c.args.t c.requires.other c.in_ok-place.ensures.exact

pub returns-clause-kept : goal.returns-clause-kept
returns-clause-kept c = kept_behind c.args.held c.args.formed.now c.intern.new.self c.args.t c.in_ok-place.ensures.kept
