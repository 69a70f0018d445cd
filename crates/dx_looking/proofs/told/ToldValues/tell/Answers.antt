use Rattle.std.specs.Prelude.{Result, Ok, Err, OnErr}
use Rattle.std.proofs.Common.{◌++◌, ◌∷◌, [], ap, ◌∙◌}
use Rattle.std.specs.Map.{lookup}
use Rattle.indexmap.proofs.CallerLemmas.{insert_entry-new}
use Rattle.dx_objects.specs.Values.{value_of}
use Rattle.dx_tags.specs.contracts.term.ValueTagPartialEq.TheImpl as tags
use Rattle.dx_looking.specs.ToldTags.{ToldTags, told_tags}
use Rattle.dx_looking.proofs.ToldLaws.{nothing_found, one_more}
use Rattle.dx_looking.proofs.told.ToldValues.tell.Goals as goal

pub returns-clause-ok : goal.returns-clause-ok
returns-clause-ok c =
    let xs = c.self.inside.table.entries in
    ap told_tags (c.in_ok-insert.ensures.entries ∙ insert_entry-new tags.ghosts.eq c.self.inside.table c.args.tag c.args.value (nothing_found (tags.ghosts.eq c.args.tag) xs (ap (lookup (tags.ghosts.eq c.args.tag)) c.self.view_is ∙ c.requires.absent)))
    ∙ one_more xs c.args.tag c.args.value ∙ ap (λ (x : ToldTags). x ++ (c.args.tag, value_of c.args.value) ∷ []) c.self.view_is

on_err : {T E P : Type 0} (r : Result T E) → P → OnErr r P
on_err (Ok x) p = tt
on_err (Err e) p = p

pub returns-in_err-insert-clause-err : goal.returns-in_err-insert-clause-err
returns-in_err-insert-clause-err c = on_err c.from_residual.result (ap told_tags c.in_err-insert.ensures.err ∙ c.self.view_is)
