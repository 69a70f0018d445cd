use Rattle.std.proofs.Common.{ap, ◌∙◌}
use Rattle.dx_tags.specs.Files.{file_put, Files}
use Rattle.dx_tags.proofs.WrittenFiles.{replaces, joins, put_sorted}
use Rattle.dx_tags.proofs.written.Written.put.Goals as goal

pub invariant_of-self : goal.invariant_of-self
invariant_of-self c =
    put_sorted c.self.inside.files.items _ c.args.name c.args.content c.self.invariant
    (replaces c.self.inside.files.items _ c.args.name _ c.args.content c.in-Ok.i c.index_mut.result.now c.self.invariant c.deref.ensures.value c.bytes.ensures c.in-Ok.ensures.range c.in-Ok.ensures.place c.index_mut.ensures.value)

pub returns-in-Ok-clause-files : goal.returns-in-Ok-clause-files
returns-in-Ok-clause-files c =
    replaces c.self.inside.files.items _ c.args.name _ c.args.content c.in-Ok.i c.index_mut.result.now c.self.invariant c.deref.ensures.value c.bytes.ensures c.in-Ok.ensures.range c.in-Ok.ensures.place c.index_mut.ensures.value
    ∙ ap (λ (f : Files). file_put f.files c.args.name c.args.content) c.self.view_is

pub invariant_of-self-in-Ok-insert : goal.invariant_of-self-in-Ok-insert
invariant_of-self-in-Ok-insert c =
    put_sorted c.self.inside.files.items c.insert.new.self.items c.args.name c.args.content c.self.invariant
    (c.in-Ok-insert.ensures.items ∙ joins c.self.inside.files.items _ c.args.name _ c.args.content c.in-Err.i c.self.invariant c.deref.ensures.value c.bytes.ensures c.in-Err.ensures.range c.in-Err.ensures.place)

pub returns-in-Ok-insert-clause-files : goal.returns-in-Ok-insert-clause-files
returns-in-Ok-insert-clause-files c =
    c.in-Ok-insert.ensures.items
    ∙ joins c.self.inside.files.items _ c.args.name _ c.args.content c.in-Err.i c.self.invariant c.deref.ensures.value c.bytes.ensures c.in-Err.ensures.range c.in-Err.ensures.place
    ∙ ap (λ (f : Files). file_put f.files c.args.name c.args.content) c.self.view_is
