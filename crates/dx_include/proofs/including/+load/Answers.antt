use Rattle.std.proofs.Common.{◌≡◌, ◌<◌, ◌+◌, [], ◌∷◌, List, length, Some, None, refl, sym, ap, subst, ◌∙◌, arith, eqb-true}
use Rattle.std.proofs.lemmas.Result.{err_from_is_err_and}
use Rattle.std.specs.Vec.Iter.{into_iter_items}
use Rattle.dx_io.specs.Devices.{Grows}
use Rattle.dx_io.proofs.Growing.{grows_by_nothing}
use Rattle.dx_ast.specs.declared.statements.Stmt.{Stmt}
use Rattle.dx_ast.specs.declared.statements.Stmt.TheVariants as stmt
use Rattle.dx_include.specs.Loading.{Loading}
use Rattle.dx_include.specs.Computed.{IncludesNothing, load_within, splice}
use Rattle.dx_include.proofs.LawfulParts.{lawful_head, lawful_tail, lawful_push}
use Rattle.dx_include.proofs.Splicing.{goes_on_include, stops_at_include, goes_on_other, is_done, load_within-zero, read_fails, is_missing, text_fails, text_adds, nothing_left, plain_adds}
use Rattle.dx_include.proofs.including.+load.Goals as goal

pub load_file-returns-then-levels-eq0-clause-adds :
    goal.load_file-returns-then-levels-eq0-clause-adds
load_file-returns-then-levels-eq0-clause-adds g t c = λ map told.
    let none = load_within-zero c.args.levels map c.args.loaded.now c.args.name c.if-levels-eq0.true in
    let asked = g.F.Files.asked c.args.files.now in
    (ap (λ (l : Loading). l.ends) none, subst (λ (l : Loading). Grows asked asked l.reads) (sym none) (grows_by_nothing asked))

pub load_file-returns-in_err-text-clause-adds : goal.load_file-returns-in_err-text-clause-adds
load_file-returns-in_err-text-clause-adds g t c = λ map told.
    let some : 0 < c.args.levels = omega (arith, c.if-levels-eq0.false) in
    let p = err_from_is_err_and c.from_residual.result c.from_residual.ensures.1 in
    rw (p.1, p.2) (read_fails c.args.levels map c.args.loaded.now c.args.name c.in_err-text.field-0.0 (g.F.Files.asked c.args.files.now) (g.F.Files.asked c.read.new.self) some c.in_err-text.ensures.asks)

pub load_file-returns-in_default-clause-adds : goal.load_file-returns-in_default-clause-adds
load_file-returns-in_default-clause-adds g t c = λ map told.
    let some : 0 < c.args.levels = omega (arith, c.if-levels-eq0.false) in
    let missing = is_missing c.args.levels map c.args.loaded.now c.args.name some (sym (c.in_ok-text.ensures.found map told) ∙ c.in_default.is) in
    (ap (λ (l : Loading). l.ends) missing, subst (λ (l : Loading). Grows (g.F.Files.asked c.args.files.now) (g.F.Files.asked c.read.new.self) l.reads) (sym missing) c.in_ok-text.ensures.asks)

pub load_file-returns-in_err-statements-clause-adds :
    goal.load_file-returns-in_err-statements-clause-adds
load_file-returns-in_err-statements-clause-adds g t c = λ map told.
    let some : 0 < c.args.levels = omega (arith, c.if-levels-eq0.false) in
    let p = err_from_is_err_and c.from_residual-in_err-statements.result c.from_residual-in_err-statements.ensures.1 in
    let there : map c.args.name ≡ Some c.bytes.result.now = sym (c.in_ok-text.ensures.found map told) ∙ c.in-Some.is ∙ ap Some (sym c.bytes.ensures) in
    rw (p.1, p.2) (text_fails c.args.levels map c.args.loaded.now c.args.name c.bytes.result.now c.in_err-statements.field-0.0 (g.F.Files.asked c.args.files.now) (g.F.Files.asked c.read.new.self) some there c.in_ok-text.ensures.asks c.in_err-statements.ensures.takes)

pub load_file-returns-clause-adds : goal.load_file-returns-clause-adds
load_file-returns-clause-adds g t c = λ map told.
    let some : 0 < c.args.levels = omega (arith, c.if-levels-eq0.false) in
    let there : map c.args.name ≡ Some c.bytes.result.now = sym (c.in_ok-text.ensures.found map told) ∙ c.in-Some.is ∙ ap Some (sym c.bytes.ensures) in
    let takes = c.in_ok-statements.ensures.takes in
    text_adds c.args.levels map c.args.loaded.now c.args.name c.bytes.result.now c.in_ok-statements.statements c.splice.new.loaded c.splice.result (g.F.Files.asked c.args.files.now) (g.F.Files.asked c.read.new.self) (g.F.Files.asked c.splice.new.files)
    some there takes.0 takes.1 c.in_ok-text.ensures.asks (rw (← takes.2) (c.splice.ensures.adds map (c.in_ok-text.ensures.same ∙ told)))

pub splice-returns-then-includes_nothing-clause-adds :
    goal.splice-returns-then-includes_nothing-clause-adds
splice-returns-then-includes_nothing-clause-adds g t c = λ map told.
    plain_adds (load_within c.args.levels map) c.args.statements c.args.loaded.now.statements c.args.loaded.now.bytes (g.F.Files.asked c.args.files.now) (tt {0})
    (eqb-true _ _ (sym c.is_empty.ensures ∙ c.if-is_empty.true)) (subst IncludesNothing c.as_slice.ensures (c.includes_nothing.ensures c.if-includes_nothing.true))

pub splice-each-preserved-in-Continue-1 : goal.splice-each-preserved-in-Continue-1
splice-each-preserved-in-Continue-1 g t c =
    let at = c.each in
    let steps : into_iter_items at.statement-iterator ≡ c.in-Some.statement ∷ into_iter_items c.next.new.self = c.in-Some.ensures.steps.0 in
    let one = c.in_ok-load_file-in-Include.ensures in
    record {
      can = tt;
      finite = tt;
      len = (let was = at.invariant.len in let gone = c.in-Some.ensures.steps.1 in let short = ap length steps in omega arith);
      few = one.few;
      lawful = one.lawful;
      lawful_rest = lawful_tail (into_iter_items at.statement-iterator) c.in-Some.statement (into_iter_items c.next.new.self) steps at.invariant.lawful_rest;
      same = one.same ∙ at.invariant.same;
      faults = one.cause.otherwise (λ e. absurd cc) ∙ at.invariant.faults;
      so_far = λ map told.
          let adds = one.adds map (at.invariant.same ∙ told) in
          goes_on_include (load_within c.args.levels map) (splice (load_within c.args.levels map) c.args.statements c.args.loaded.now) (into_iter_items at.statement-iterator) (into_iter_items c.next.new.self) c.in-Include.name at.loaded c.load_file.new.loaded _ _ _
          (steps ∙ ap (λ (s : Stmt). s ∷ into_iter_items c.next.new.self) c.in-Include.is) adds.0 adds.1 (at.invariant.so_far map told);
    }

pub splice-returns-in_err-load_file-in-Include-clause-adds :
    goal.splice-returns-in_err-load_file-in-Include-clause-adds
splice-returns-in_err-load_file-in-Include-clause-adds g t c = λ map told.
    let at = c.each in
    let steps : into_iter_items at.statement-iterator ≡ c.in-Some.statement ∷ into_iter_items c.next.new.self = c.in-Some.ensures.steps.0 in
    let p = err_from_is_err_and c.from_residual.result c.from_residual.ensures.1 in
    let adds = c.in_err-load_file-in-Include.ensures.adds map (at.invariant.same ∙ told) in
    rw (p.1, p.2) (stops_at_include (load_within c.args.levels map) (splice (load_within c.args.levels map) c.args.statements c.args.loaded.now) (into_iter_items at.statement-iterator) (into_iter_items c.next.new.self) c.in-Include.name at.loaded c.in_err-load_file-in-Include.field-0.0 _ _ _
    (steps ∙ ap (λ (s : Stmt). s ∷ into_iter_items c.next.new.self) c.in-Include.is) adds (at.invariant.so_far map told))

pub splice-each-preserved : goal.splice-each-preserved
splice-each-preserved g t c =
    let at = c.each in
    let steps : into_iter_items at.statement-iterator ≡ c.in-Some.statement ∷ into_iter_items c.next.new.self = c.in-Some.ensures.steps.0 in
    record {
      can = tt;
      finite = tt;
      len = (let was = at.invariant.len in let gone = c.in-Some.ensures.steps.1 in let short = ap length steps in omega arith);
      few = at.invariant.few;
      lawful = rw c.in_ok-push-in_default.ensures.ok (lawful_push at.loaded.statements c.in-Some.statement at.invariant.lawful (lawful_head (into_iter_items at.statement-iterator) c.in-Some.statement (into_iter_items c.next.new.self) steps at.invariant.lawful_rest));
      lawful_rest = lawful_tail (into_iter_items at.statement-iterator) c.in-Some.statement (into_iter_items c.next.new.self) steps at.invariant.lawful_rest;
      same = at.invariant.same;
      faults = at.invariant.faults;
      so_far = λ map told.
          goes_on_other (load_within c.args.levels map) (splice (load_within c.args.levels map) c.args.statements c.args.loaded.now) (into_iter_items at.statement-iterator) (into_iter_items c.next.new.self) c.in-Some.statement at.loaded _ _ _
          steps c.in_default.not-Include (ap (λ (statements : List Stmt). record { statements = statements; bytes = at.loaded.bytes }) c.in_ok-push-in_default.ensures.ok) (at.invariant.so_far map told);
    }

pub splice-returns-clause-adds : goal.splice-returns-clause-adds
splice-returns-clause-adds g t c = λ map told.
    let at = c.each in
    let none = c.in-None.ensures.steps in
    is_done (load_within c.args.levels map) (splice (load_within c.args.levels map) c.args.statements c.args.loaded.now) (into_iter_items at.statement-iterator) at.loaded _ _ (tt {0}) (nothing_left (into_iter_items at.statement-iterator) (sym at.invariant.len ∙ none.0)) (at.invariant.so_far map told)
