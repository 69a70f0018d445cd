use Rattle.std.proofs.Common.{rules, ap, ◌∙◌, sym, Some}
use Rattle.std.proofs.lemmas.Result.{IfOk-weaker}
use Rattle.clap.specs.Matches.{found_of}
use Rattle.dx_words.specs.Command.{named_of}
use Rattle.dx_words.specs.Line.{memory, workload}
use Rattle.dx_words.proofs.Found.{finds, on_refused, refuses, is_trace, is_links, is_memory, is_workload}
use Rattle.dx_words.proofs.command.option_found.Goals as goal

pub returns-in_err-found-clause-refused : goal.returns-in_err-found-clause-refused
returns-in_err-found-clause-refused c r = refuses c.args.word.now c.requires.one c.requires.dashes (c.in_err-found.ensures.refused (search rules))

pub returns-then-get_flag-clause-ok : goal.returns-then-get_flag-clause-ok
returns-then-get_flag-clause-ok c =
    let found = found_of c.in_ok-found.found in
    let read = c.in_ok-found.ensures.ok in
    ap named_of (is_trace found _ _ (finds c.args.word.now found c.requires.one c.requires.dashes read.1) read.0 c.get_flag.result (c.get_flag.ensures.value, c.get_flag.ensures.other) c.if-get_flag.true)

pub returns-then-get_flag-2-clause-ok : goal.returns-then-get_flag-2-clause-ok
returns-then-get_flag-2-clause-ok c =
    let found = found_of c.in_ok-found.found in
    let read = c.in_ok-found.ensures.ok in
    ap named_of (is_links found _ _ (finds c.args.word.now found c.requires.one c.requires.dashes read.1) read.0 c.get_flag.result c.get_flag-2.result (c.get_flag.ensures.value, c.get_flag.ensures.other) c.if-get_flag.false (c.get_flag-2.ensures.value, c.get_flag-2.ensures.other) c.if-get_flag-2.true)

pub returns-then-contains_id-clause-ok : goal.returns-then-contains_id-clause-ok
returns-then-contains_id-clause-ok c =
    let found = found_of c.in_ok-found.found in
    let read = c.in_ok-found.ensures.ok in
    let is = is_memory found _ _ (finds c.args.word.now found c.requires.one c.requires.dashes read.1) read.0 c.get_flag.result c.get_flag-2.result (c.get_flag.ensures.value, c.get_flag.ensures.other) c.if-get_flag.false (c.get_flag-2.ensures.value, c.get_flag-2.ensures.other) c.if-get_flag-2.false (sym c.contains_id.ensures ∙ c.if-contains_id.true) in
    let same = ap named_of is ∙ ap (λ v. named_of (Some (memory v))) (sym c.get_str.ensures) in
    IfOk-weaker c.budget_named.result _ _ (λ n h. same ∙ h) c.budget_named.ensures.ok

pub returns-then-contains_id-clause-refused : goal.returns-then-contains_id-clause-refused
returns-then-contains_id-clause-refused c r =
    let found = found_of c.in_ok-found.found in
    let read = c.in_ok-found.ensures.ok in
    let is = is_memory found _ _ (finds c.args.word.now found c.requires.one c.requires.dashes read.1) read.0 c.get_flag.result c.get_flag-2.result (c.get_flag.ensures.value, c.get_flag.ensures.other) c.if-get_flag.false (c.get_flag-2.ensures.value, c.get_flag-2.ensures.other) c.if-get_flag-2.false (sym c.contains_id.ensures ∙ c.if-contains_id.true) in
    let same = ap named_of is ∙ ap (λ v. named_of (Some (memory v))) (sym c.get_str.ensures) in
    same ∙ on_refused c.budget_named.result r c.budget_named.ensures.refused

pub returns-clause-ok : goal.returns-clause-ok
returns-clause-ok c =
    let found = found_of c.in_ok-found.found in
    let read = c.in_ok-found.ensures.ok in
    let is = is_workload found _ _ (finds c.args.word.now found c.requires.one c.requires.dashes read.1) read.0 c.get_flag.result c.get_flag-2.result (c.get_flag.ensures.value, c.get_flag.ensures.other) c.if-get_flag.false (c.get_flag-2.ensures.value, c.get_flag-2.ensures.other) c.if-get_flag-2.false (sym c.contains_id.ensures ∙ c.if-contains_id.false) in
    let same = ap named_of is ∙ ap (λ v. named_of (Some (workload v))) (sym c.get_str-2.ensures) in
    IfOk-weaker c.executions_named.result _ _ (λ n h. same ∙ h) c.executions_named.ensures.ok

pub returns-clause-refused : goal.returns-clause-refused
returns-clause-refused c r =
    let found = found_of c.in_ok-found.found in
    let read = c.in_ok-found.ensures.ok in
    let is = is_workload found _ _ (finds c.args.word.now found c.requires.one c.requires.dashes read.1) read.0 c.get_flag.result c.get_flag-2.result (c.get_flag.ensures.value, c.get_flag.ensures.other) c.if-get_flag.false (c.get_flag-2.ensures.value, c.get_flag-2.ensures.other) c.if-get_flag-2.false (sym c.contains_id.ensures ∙ c.if-contains_id.false) in
    let same = ap named_of is ∙ ap (λ v. named_of (Some (workload v))) (sym c.get_str-2.ensures) in
    same ∙ on_refused c.executions_named.result r c.executions_named.ensures.refused
