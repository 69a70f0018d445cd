use Rattle.std.proofs.Common.{◌≡◌, ◌<◌, ◌++◌, ◌∷◌, [], None, sym, ap, ◌∙◌, subst, true≢false}
use Rattle.std.specs.Prelude.{nat_eq, Result, Ok, Err, IsOk, OnOk}
use Rattle.std.specs.Map.{lookup}
use Rattle.indexmap.proofs.CallerLemmas.{insert_entry-new}
use Rattle.dx_getting.specs.Calls.{KnownCalls}
use Rattle.dx_getting.proofs.known.Known.learn.Goals as goal

on_ok : {A E : Type 0} (r : Result A E) (P : Type 0) → IsOk r → OnOk r P → P
on_ok (Ok x) P h p = p
on_ok (Err e) P h p = absurd (true≢false (sym h))

pub returns : goal.returns
returns c =
    on_ok c.insert.result _ (c.insert.ensures.succeeds (subst (λ n. 0 < n) (sym (ap (λ (x : KnownCalls). x.room) c.self.view_is)) c.requires.room)) c.insert.ensures.entries
    ∙ insert_entry-new nat_eq c.self.inside.table c.args.tag c.args.outs (ap (λ (x : KnownCalls). lookup (nat_eq c.args.tag) x.calls) c.self.view_is ∙ c.requires.absent)
    ∙ ap (λ (x : KnownCalls). x.calls ++ (c.args.tag, c.args.outs) ∷ []) c.self.view_is
