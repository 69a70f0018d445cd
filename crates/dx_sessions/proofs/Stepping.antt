-- So many steps one after the other.
use Rattle.std.proofs.Common.{◌≡◌, ℕ, zero, suc, ◌+◌, ◌<◌, ◌-◌, List, [], ◌++◌, Bool, ◌||◌, refl, sym, ap, subst, ◌∙◌, append_assoc, append-nil, arith}
use Rattle.dx_performing.specs.Course.{Fixed}
use Rattle.dx_performing.specs.Kept.{Kept}
use Rattle.dx_engine.specs.Executing.{Devices}
use Rattle.dx_shown.specs.Made.{Coursed, coursed}
use Rattle.dx_shown.specs.Session.{Done, Making, Shown, State, and_then, stepped, stepped_often}
use Rattle.dx_telling.specs.declared.listings.Listings.{Listings}
use Rattle.dx_sessions.specs.Does.{IsCutAt, IsDone}
use Rattle.dx_sessions.specs.Places.{IsAmongSteps, here, moved}
use Rattle.dx_sessions.specs.SessionView.{state_of}
use Rattle.dx_sessions.specs.declared.session.Session.{Session}
use Rattle.dx_sessions.proofs.Doing.{done_on}
use Rattle.dx_sessions.proofs.Folding.{whole_on}

-- ---- one step more

abbrev behind : {K X : Type 0} → List (Shown X) → Done K X → Done K X
behind shown d = record { shown = shown ++ d.shown; state = d.state }

behind_twice : {K X : Type 0} (a b : List (Shown X)) (d : Done K X) → behind a (behind b d) ≡ behind (a ++ b) d
behind_twice a b d = ap (λ shown. record { shown = shown; state = d.state }) (sym (append_assoc a b d.shown))

pub one_more : {K X : Type 0} (make : Making K X) (n : ℕ) (st : State K) → stepped_often make (suc n) st ≡ and_then (stepped_often make n st) (stepped make)
one_more make zero st = ap (λ shown. record { shown = shown; state = (stepped make st).state }) (append-nil (stepped make st).shown)
one_more make (suc n) st =
    let first = stepped make st in
    let others = stepped_often make n first.state in
    ap (behind first.shown) (one_more make n first.state) ∙ behind_twice first.shown others.shown (stepped make others.state)

-- what fewer steps show comes first in what more show
pub fewer : {K X : Type 0} (make : Making K X) (st : State K) (n left all : ℕ) → n + left ≡ all → (rest : List (Shown X)) × ((stepped_often make all st).shown ≡ (stepped_often make n st).shown ++ rest)
fewer make st n zero all e =
    let same : all ≡ n = omega arith in
    ([], ap (λ (m : ℕ). (stepped_often make m st).shown) same ∙ sym (append-nil (stepped_often make n st).shown))
fewer {K} {X} make st n (suc left) all e =
    let before = fewer make st n left (n + left) refl in
    let last = (stepped make (stepped_often make (n + left) st).state).shown in
    let same : all ≡ suc (n + left) = omega arith in (
      before.0 ++ last,
      ap (λ (m : ℕ). (stepped_often make m st).shown) same ∙ ap (λ (d : Done K X). d.shown) (one_more make (n + left) st) ∙ ap (λ (xs : List (Shown X)). xs ++ last) before.1
          ∙ append_assoc (stepped_often make n st).shown before.0 last,
    )

-- ---- on the devices

-- so many steps were made, and then one more
pub step_more : (x : Fixed) (l : Listings) (n : ℕ) (old : State Kept) (mid new : Session) (was between now : Devices) (erred failed : Bool)
    → IsDone x l (stepped_often (coursed x) n old) was erred mid between → IsDone x l (stepped (coursed x) (state_of mid)) between failed new now
    → IsDone x l (stepped_often (coursed x) (suc n) old) was (erred || failed) new now
step_more x l n old mid new was between now erred failed first next =
    subst (λ (d : Done Kept Coursed). IsDone x l d was (erred || failed) new now) (sym (one_more (coursed x) n old))
    (done_on x l (stepped_often (coursed x) n old) (stepped (coursed x)) mid new was between now erred failed first next)

-- one of them was cut short
pub step_cut : (ahead : Bool) (x : Fixed) (l : Listings) (n all : ℕ) (old : State Kept) (mid new : Session) (was between now : Devices) (erred : Bool) → n < all
    → IsDone x l (stepped_often (coursed x) n old) was erred mid between → IsCutAt ahead x l (here (moved (state_of mid))) (stepped (coursed x) (state_of mid)).shown between new now
    → IsCutAt ahead x l (IsAmongSteps (coursed x) all old) (stepped_often (coursed x) all old).shown was new now
step_cut ahead x l n all old mid new was between now erred lt first cut =
    let left : suc n + (all - suc n) ≡ all = omega arith in
    let more = fewer (coursed x) old (suc n) (all - suc n) all left in
    let so_far = (stepped_often (coursed x) n old).shown in
    let one = (stepped (coursed x) (state_of mid)).shown in
    let split : (stepped_often (coursed x) all old).shown ≡ so_far ++ (one ++ more.0) =
    more.1 ∙ ap (λ (d : Done Kept Coursed). d.shown ++ more.0) (one_more (coursed x) n old)
    ∙ ap (λ (st : State Kept). (so_far ++ (stepped (coursed x) st).shown) ++ more.0) (sym first.state) ∙ append_assoc so_far one more.0 in
    record {
      short = record {
        before = so_far ++ cut.short.before;
        next = cut.short.next;
        rest = cut.short.rest ++ more.0;
        all = split ∙ ap (λ xs. so_far ++ (xs ++ more.0)) cut.short.all ∙ ap (λ xs. so_far ++ xs) (append_assoc cut.short.before (cut.short.next ++ cut.short.rest) more.0)
            ∙ sym (append_assoc so_far cut.short.before ((cut.short.next ++ cut.short.rest) ++ more.0)) ∙ ap (λ xs. (so_far ++ cut.short.before) ++ xs) (append_assoc cut.short.next cut.short.rest more.0);
        few = cut.short.few;
        between = cut.short.between;
        whole = whole_on l so_far cut.short.before was between cut.short.between first.whole cut.short.whole;
        front = cut.short.front;
      };
      at = cut.at;
      begins = record {
        whole = n;
        more = lt;
        shown = ap (λ xs. so_far ++ xs) cut.begins.0 ∙ append-nil so_far;
        state = cut.begins.1 ∙ ap moved first.state;
      };
      left = cut.left;
      sound = cut.sound;
    }
