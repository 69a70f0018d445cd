use Rattle.std.proofs.Common.{◌≡◌, Some, None, subst, length, ◌<◌, get_or}
use Rattle.std.specs.declared.cmp.Ordering.TheVariants.{Equal}
use Rattle.dx_tags.specs.Files.{content_of, name_cmp, Files, FileMap}
use Rattle.dx_tags.proofs.WrittenFiles.{content_found, content_nowhere, EndsAt}
use Rattle.dx_tags.proofs.written.Written.get.Goals as goal

pub returns-in-Ok : goal.returns-in-Ok
returns-in-Ok c =
    let same = c.deref.ensures.value in
    let i = c.in-Ok.i in
    let r = c.index.result.now in
    let within = subst (λ (l : FileMap). i < length l) same c.in-Ok.ensures.range in
    let equal = subst (λ (l : FileMap). name_cmp (get_or l i r).0 c.args.name.now ≡ Equal) same (c.in-Ok.ensures.place r) in
    subst (λ (f : Files). content_of c.args.name.now f.files ≡ Some r.1) c.self.view_is (content_found c.self.inside.files.items c.args.name.now i r c.self.invariant within equal c.index.ensures)

pub returns-in-Err : goal.returns-in-Err
returns-in-Err c =
    let i = c.in-Err.field-0 in
    let ends = subst (λ (l : FileMap). EndsAt c.args.name.now l i) c.deref.ensures.value c.in-Err.ensures.place in
    subst (λ (f : Files). content_of c.args.name.now f.files ≡ None) c.self.view_is (content_nowhere c.self.inside.files.items c.args.name.now i c.self.invariant ends)
