use Rattle.std.proofs.Common.{rules, ap₂, ◌≡◌, ◌∙◌}
use Rattle.std.proofs.lemmas.Result.{IfOk-weaker}
use Rattle.clap.specs.Simple.{app_of, with_rule}
use Rattle.dx_words.specs.Command.{bare}
use Rattle.dx_words.proofs.command.command.Goals as goal

pub returns : goal.returns
returns c =
    let bare_is : app_of c.disable_version_flag.result ≡ bare = search rules in
    IfOk-weaker c.arg-4.result _ _ (λ d h. h.shape c.valued-2.ensures.local
    ∙ ap₂ with_rule (c.in_ok-arg-3.ensures.shape c.valued.ensures.local
    ∙ ap₂ with_rule (c.in_ok-arg-2.ensures.shape c.flag-2.ensures.local
    ∙ ap₂ with_rule (c.in_ok-arg.ensures.shape c.flag.ensures.local
    ∙ ap₂ with_rule bare_is c.flag.ensures.rule) c.flag-2.ensures.rule) c.valued.ensures.rule) c.valued-2.ensures.rule) c.arg-4.ensures
