-- What was formed where the loop over a port's steps stands.
use Rattle.std.proofs.Common.{◌≡◌, List, [], ◌∷◌, ◌++◌, length, sym, ap, ◌∙◌, subst, append-nil}
use Rattle.dx_graph.specs.Graph.{Node}
use Rattle.dx_tags.specs.declared.term.Term.{Term}
use Rattle.dx_tags.specs.declared.term.ValueTag.{ValueTag}
use Rattle.dx_meaning.specs.Scan.{Sight, Stop, Ends}
use Rattle.dx_meaning.specs.Forming.{Formed, Formings, after, HasAll}
use Rattle.dx_meaning.proofs.Formed.{all_append, after_same}
use Rattle.dx_demand.specs.Memo.{answers_of, with_answer, port_scan}
use Rattle.dx_demand.specs.Stack.{fresh, bottom, Leads}
use Rattle.dx_demand.specs.Forming.{formings, port_forms, MemoFormed, Reaches, FrameFormed, StackFormed, LeftFormed, Toward, Formation}
use Rattle.dx_demand.specs.declared.settled.Port.{Port}
use Rattle.dx_demand.specs.declared.settled.Answer.{Answer}
use Rattle.dx_demand.specs.declared.seen.Frame.{Frame}
use Rattle.dx_demand.specs.declared.seen.Memo.{Memo}
use Rattle.dx_demand.proofs.PortSteps.{with_arguments, more_itself}
use Rattle.dx_demand.proofs.FormedPorts.{toward_then, toward_part, reaches_grow}
use Rattle.dx_demand.proofs.FormedSteps.{formings_same, settle_formed, stack_formed_grows, formed_split, formed_join, left_formed, awaits_formed}

-- since the loop began
pub record FormedAt (s : Sight) (nodes : List Node) (was : Formings) (terms : List Term) (m : Memo) (root : Port) (fs : List Frame) : Type 0 where
  pub toward : Toward (port_forms s nodes root) was (formings nodes terms m)
  pub memo : MemoFormed s nodes terms m
  pub stack : StackFormed s nodes (formings nodes terms m) root fs

-- behind a step of the top
pub record FormedBy (s : Sight) (nodes : List Node) (was : Formings) (terms : List Term) (m : Memo) (root : Port) (fs : List Frame) (top : Frame) : Type 0 where
  pub toward : Toward (port_forms s nodes root) was (formings nodes terms m)
  pub memo : MemoFormed s nodes terms m
  pub rest : StackFormed s nodes (formings nodes terms m) root fs
  pub own : FrameFormed s nodes (formings nodes terms m) root top

-- what is formed toward the top is so toward the port that was asked for
top_toward : (s : Sight) (nodes : List Node) (was now : Formings) (root : Port) (top : Frame) → FrameFormed s nodes was root top → Toward (port_forms s nodes top.port) was now → Toward (port_forms s nodes root) was now
top_toward s nodes was now root top h t =
    let p = h.reaches s (more_itself s) in
    toward_part (port_forms s nodes root) p.front (port_forms s nodes top.port) p.behind was now p.split p.there t

pub loop_step : (s : Sight) (nodes : List Node) (was : Formings) (old mid : List Term) (m1 m2 : Memo) (root : Port) (fs : List Frame) (top : Frame) (args : List ValueTag) → FormedAt s nodes was old m1 root (fs ++ top ∷ []) → Formation s nodes old m1 mid m2 top.port (length args) →
    FormedBy s nodes was mid m2 root fs (with_arguments top args)
loop_step s nodes was old mid m1 m2 root fs top args at f =
    let parts = formed_split s nodes (formings nodes old m1) root fs top at.stack in
    let here = formings nodes old m1 in
    let now = formings nodes mid m2 in
    let t = top_toward s nodes here now root top parts.1 f.toward in
    record {
      toward = toward_then (port_forms s nodes root) was here now at.toward t;
      memo = f.memo;
      rest = stack_formed_grows s nodes here now t.grows root fs parts.0;
      own = record { reaches = reaches_grow s nodes here now t.grows root top.port parts.1.reaches; arguments = f.arguments };
    }

-- the port under a top that is settled comes next
pub loop_settles : (s : Sight) (nodes : List Node) (was : Formings) (mid : List Term) (m2 m3 : Memo) (root : Port) (fs rest : List Frame) (top below : Frame) (a : Answer) → FormedBy s nodes was mid m2 root fs top → HasAll (formings nodes mid m2) (port_forms s nodes top.port) →
    answers_of m3 ≡ with_answer (answers_of m2) top.port a → m3.selectors ≡ m2.selectors → m3.formed ≡ m2.formed → fs ≡ rest ++ below ∷ [] → FormedAt s nodes was mid m3 root (rest ++ below ∷ [])
loop_settles s nodes was mid m2 m3 root fs rest top below a h there ok selectors first e =
    let same = sym (formings_same nodes mid m2 m3 first) in
    record {
      toward = subst (Toward (port_forms s nodes root) was) same h.toward;
      memo = settle_formed s nodes mid m2 m3 top.port a ok selectors first there h.memo;
      stack = subst (λ x. StackFormed s nodes x root (rest ++ below ∷ [])) same (subst (StackFormed s nodes (formings nodes mid m2) root) e h.rest);
    }

pub loop_awaits : (s : Sight) (nodes : List Node) (was : Formings) (mid : List Term) (m2 : Memo) (root : Port) (fs : List Frame) (top : Frame) (q : Port) → FormedBy s nodes was mid m2 root fs top → Leads s nodes top.port q → Reaches s nodes (formings nodes mid m2) top.port q →
    FormedAt s nodes was mid m2 root ((fs ++ top ∷ []) ++ fresh q ∷ [])
loop_awaits s nodes was mid m2 root fs top q h leads reaches = record {
  toward = h.toward;
  memo = h.memo;
  stack = awaits_formed s nodes (formings nodes mid m2) root fs top q h.rest h.own leads reaches;
}

-- all of it is there
pub all_there : (whole : List Formed) (was now : Formings) → Toward whole was now → HasAll now whole → now ≡ after whole was
all_there whole was now t there = sym (after_same whole now there) ∙ t.same

pub loop_ends : (s : Sight) (nodes : List Node) (was : Formings) (mid : List Term) (m2 m3 : Memo) (root : Port) (fs : List Frame) (top : Frame) → FormedBy s nodes was mid m2 root fs top → HasAll (formings nodes mid m2) (port_forms s nodes top.port) → m3.formed ≡ m2.formed → top.port ≡ root →
    formings nodes mid m3 ≡ after (port_forms s nodes root) was
loop_ends s nodes was mid m2 m3 root fs top h there first e =
    formings_same nodes mid m2 m3 first ∙ all_there (port_forms s nodes root) was (formings nodes mid m2) h.toward (subst (λ (p : Port). HasAll (formings nodes mid m2) (port_forms s nodes p)) e there)

pub loop_needs : (s : Sight) (nodes : List Node) (was : Formings) (mid : List Term) (m2 : Memo) (root : Port) (fs : List Frame) (top : Frame) (e : Stop) → FormedBy s nodes was mid m2 root fs top → HasAll (formings nodes mid m2) (port_forms s nodes top.port) → port_scan s nodes top.port ≡ Ends e →
    formings nodes mid m2 ≡ after (port_forms s nodes root) was
loop_needs s nodes was mid m2 root fs top e h there ends =
    let now = formings nodes mid m2 in
    let own = port_forms s nodes top.port in
    let p = h.own.reaches s (more_itself s) in
    let none : p.behind ≡ [] = p.last e ends in
    let split : port_forms s nodes root ≡ p.front ++ (own ++ []) = p.split ∙ ap (λ z. p.front ++ (own ++ z)) none in
    let whole : HasAll now (port_forms s nodes root) = subst (HasAll now) (sym split) (all_append now p.front (own ++ []) p.there (subst (HasAll now) (sym (append-nil own)) there)) in
    all_there (port_forms s nodes root) was now h.toward whole

pub loop_left : (s : Sight) (nodes : List Node) (was : Formings) (mid : List Term) (m2 : Memo) (root : Port) (fs : List Frame) (top : Frame) → FormedBy s nodes was mid m2 root fs top → bottom fs top ≡ root → LeftFormed s nodes (formings nodes mid m2) (fs ++ top ∷ [])
loop_left s nodes was mid m2 root fs top h b = left_formed s nodes (formings nodes mid m2) root fs top b (formed_join s nodes (formings nodes mid m2) root fs top h.rest h.own)
