-- The laws as a grammar's proofs cite them: a production's law is one term in the shape of its reading function, since
-- what a law speaks of is found from its parts or from the goal.
use Rattle.std.proofs.Common.{◌≡◌, Bool, true, false, not, Option, ap}
use Rattle.dx_grammar.specs.Stream.{Stream, Parser, ◌>>=◌, ◌>>◌, pure, fail, passes, choose, while}
use Rattle.dx_grammar.specs.Rule.{Rule, nothing, refused, one, unless, more, ◌∣◌}
use Rattle.dx_grammar.specs.Rule as rule
use Rattle.dx_grammar.proofs.Read.{Any, Reads, Opens, Same, Alike}
use Rattle.dx_grammar.proofs.Compose as compose
use Rattle.dx_grammar.proofs.Compose.{Fills}
use Rattle.dx_grammar.proofs.Many as many
use Rattle.dx_grammar.proofs.Many.{Past, Shrinks}

-- ---- reading

-- nothing a: pure a
pub done : {T F A : Type 0} {misfit : T → F} {a : A} {Stop : Stream T F → Type 0} → Reads misfit (nothing a) (pure a) Stop
done {T} {F} {A} {misfit} {a} {Stop} = compose.reads_nothing misfit a Stop

-- unless fault a: passes fault a
pub check : {T F A : Type 0} {misfit : T → F} (fault : Option F) (a : A) {Stop : Stream T F → Type 0} → Reads misfit (unless fault a) (passes fault a) Stop
check {T} {F} {A} {misfit} fault a {Stop} = compose.reads_unless misfit fault a Stop

-- refused f: fail f
pub refuses : {T F A : Type 0} {misfit : T → F} {f : F} {Stop : Stream T F → Type 0} → Reads misfit (refused {A = A} f) (fail f) Stop
refuses {T} {F} {A} {misfit} {f} {Stop} = compose.reads_refused misfit f Stop

-- after a part that ends by itself
pub next : {T F A B : Type 0} {misfit : T → F} {X : Rule T F A} {Y : A → Rule T F B} {P : Parser T F A} {f : A → Parser T F B} {Stop : Stream T F → Type 0} → Reads misfit X P Any → ((a : A) → Reads misfit (Y a) (f a) Stop) → Reads misfit (rule.◌>>=◌ X Y) (P >>= f) Stop
next {T} {F} {A} {B} {misfit} {X} {Y} {P} {f} {Stop} p q = compose.reads_next misfit X Y P f Stop p q

-- after a part that ends where what follows is in Mid: what follows is
pub after : {T F A B : Type 0} {misfit : T → F} {X : Rule T F A} {Y : A → Rule T F B} {P : Parser T F A} {f : A → Parser T F B} {Mid Stop : Stream T F → Type 0} → Reads misfit X P Mid → ((a : A) → Opens (Y a) Stop Mid) → ((a : A) → Reads misfit (Y a) (f a) Stop)
    → Reads misfit (rule.◌>>=◌ X Y) (P >>= f) Stop
after {T} {F} {A} {B} {misfit} {X} {Y} {P} {f} {Mid} {Stop} p o q = compose.reads_then misfit X Y P f Mid Stop p q o

-- the first where the next token looks so, the other where it doesn't
pub either : {T F A : Type 0} {misfit : T → F} {X Y : Rule T F A} {P Q : Parser T F A} {look : Stream T F → Bool} {Stop : Stream T F → Type 0} → ((s u : Stream T F) → Alike s u → look s ≡ look u)
    → Opens X Stop (λ u. look u ≡ true) → Reads misfit X P Stop → Opens Y Stop (λ u. look u ≡ false) → Reads misfit Y Q Stop → Reads misfit (X ∣ Y) (choose look P Q) Stop
either {T} {F} {A} {misfit} {X} {Y} {P} {Q} {look} {Stop} near o p n q = compose.reads_either misfit X Y P Q look Stop near p q o n

-- a loop: each item is read, takes a token, looks so, and may follow another
pub loop : {T F A S : Type 0} {misfit : T → F} {X : S → Rule T F A} {P : S → Parser T F A} {add : S → A → S} {look : Stream T F → Bool} {Mid : Stream T F → Type 0} → ((s u : Stream T F) → Alike s u → look s ≡ look u) → ((found : S) → Reads misfit (X found) (P found) Mid)
    → ((found : S) → Fills (X found)) → ((found : S) → Opens (X found) Mid (λ u. look u ≡ true)) → ((found : S) → Opens (X found) Mid Mid) → (found : S) → Reads misfit (more X add found) (while look P add found) (Past look Mid)
loop {T} {F} {A} {S} {misfit} {X} {P} {add} {look} {Mid} near each full opens follows found = many.reads_more misfit X P add look Mid near each (λ found. (full found).is) opens follows found

-- items up to a token that looks so
pub until : {T F A S : Type 0} {misfit : T → F} {X : S → Rule T F A} {P : S → Parser T F A} {add : S → A → S} (look : Stream T F → Bool) → ((s u : Stream T F) → Alike s u → look s ≡ look u) → ((found : S) → Reads misfit (X found) (P found) Any)
    → ((found : S) → Fills (X found)) → ((found : S) → Opens (X found) Any (λ u. look u ≡ false)) → (found : S) → Reads misfit (more X add found) (while (λ s. not (look s)) P add found) (λ u. look u ≡ true)
until {T} {F} {A} {S} {misfit} {X} {P} {add} look near each full opens found =
    compose.reads_stop misfit (more X add found) (while (λ s. not (look s)) P add found) (Past (λ s. not (look s)) Any) (λ u. look u ≡ true) (λ u h. (ap not h, tt))
    (loop {X = X} {add = add} (λ s u same. ap not (near s u same)) each full (λ found. compose.opens_not (X found) Any look false (opens found)) (λ found. compose.opens_any (X found) Any) found)

-- a separator and an item, any number of times
pub separated : {T F A B S : Type 0} {misfit : T → F} {Z : Rule T F B} {R : Parser T F B} {X : S → Rule T F A} {P : S → Parser T F A} {add : S → A → S} {look : Stream T F → Bool} {Mid : Stream T F → Type 0} → ((s u : Stream T F) → Alike s u → look s ≡ look u)
    → Reads misfit Z R Any → Fills Z → Opens Z Any (λ u. look u ≡ true) → Opens Z Any Mid → ((found : S) → Reads misfit (X found) (P found) Mid) → (found : S) → Reads misfit (more (λ found. rule.◌>>◌ Z (X found)) add found) (while look (λ found. R >> P found) add found) (Past look Mid)
separated {T} {F} {A} {B} {S} {misfit} {Z} {R} {X} {P} {add} {look} {Mid} near sep full opens follows each found =
    loop {X = λ found. rule.◌>>◌ Z (X found)} {add = add} near (λ found. next sep (λ _. each found)) (λ found. compose.fills_first Z (λ _. X found) full)
    (λ found. compose.opens_first Z (λ _. X found) Mid (λ u. look u ≡ true) opens) (λ found. compose.opens_first Z (λ _. X found) Mid Mid follows) found

pub in_other_words : {T F A : Type 0} {misfit : T → F} {X Y : Rule T F A} {P : Parser T F A} {Stop : Stream T F → Type 0} → Same X Y → Reads misfit X P Stop → Reads misfit Y P Stop
in_other_words {T} {F} {A} {misfit} {X} {Y} {P} {Stop} same p = compose.reads_rule misfit X Y P Stop same p

pub where_less : {T F A : Type 0} {misfit : T → F} {X : Rule T F A} {P : Parser T F A} {Stop Less : Stream T F → Type 0} → ((u : Stream T F) → Less u → Stop u) → Reads misfit X P Stop → Reads misfit X P Less
where_less {T} {F} {A} {misfit} {X} {P} {Stop} {Less} sub p = compose.reads_stop misfit X P Stop Less sub p

-- ---- the loops of the code

pub turn : {T F A S : Type 0} {misfit : T → F} {X : S → Rule T F A} {P : S → Parser T F A} {Mid : Stream T F → Type 0} (add : S → A → S) (look : Stream T F → Bool) → ((found : S) → Reads misfit (X found) (P found) Mid) → ((found : S) → Fills (X found))
    → (found : S) (s : Stream T F) → while look P add found s ≡ choose look (P found >>= λ a. while look P add (add found a)) (pure found) s
turn {T} {F} {A} {S} {misfit} {X} {P} {Mid} add look each full found s = many.while_next P add look (λ found. many.shrinks misfit (X found) (P found) Mid (each found) (full found).is) found s

pub less : {T F A : Type 0} {misfit : T → F} {X : Rule T F A} {P : Parser T F A} {Mid : Stream T F → Type 0} → Reads misfit X P Mid → Fills X → Shrinks P
less {T} {F} {A} {misfit} {X} {P} {Mid} reads full = many.shrinks misfit X P Mid reads full.is

-- ---- what a rule opens with

pub first : {T F A B : Type 0} {X : Rule T F A} {Y : A → Rule T F B} {Stop Q : Stream T F → Type 0} → Opens X Any Q → Opens (rule.◌>>=◌ X Y) Stop Q
first {T} {F} {A} {B} {X} {Y} {Stop} {Q} x = compose.opens_first X Y Stop Q x

pub second : {T F A B : Type 0} {X : Rule T F A} {Y : A → Rule T F B} {Mid Stop Q : Stream T F → Type 0} → Opens X Mid Q → ((a : A) → Opens (Y a) Stop Mid) → Opens (rule.◌>>=◌ X Y) Stop Q
second {T} {F} {A} {B} {X} {Y} {Mid} {Stop} {Q} x y = compose.opens_then X Y Mid Stop Q x y

pub both : {T F A : Type 0} {X Y : Rule T F A} {Stop Q : Stream T F → Type 0} → Opens X Stop Q → Opens Y Stop Q → Opens (X ∣ Y) Stop Q
both {T} {F} {A} {X} {Y} {Stop} {Q} x y = compose.opens_either X Y Stop Q x y

pub nothing_more : {T F A : Type 0} {a : A} {Q : Stream T F → Type 0} → Opens (nothing a) Q Q
nothing_more {T} {F} {A} {a} {Q} = compose.opens_nothing a Q Q (λ u h. h)

pub ends : {T F A : Type 0} {a : A} {Stop Q : Stream T F → Type 0} → ((u : Stream T F) → Stop u → Q u) → Opens (nothing a) Stop Q
ends {T} {F} {A} {a} {Stop} {Q} sub = compose.opens_nothing a Stop Q sub

pub anything : {T F A : Type 0} {X : Rule T F A} {Stop : Stream T F → Type 0} → Opens X Stop Any
anything {T} {F} {A} {X} {Stop} = compose.opens_any X Stop

pub opens_in_other_words : {T F A : Type 0} {X Y : Rule T F A} {Stop Q : Stream T F → Type 0} → Same X Y → Opens X Stop Q → Opens Y Stop Q
opens_in_other_words {T} {F} {A} {X} {Y} {Stop} {Q} same x = compose.opens_same X Y Stop Q same x

pub opens_where_less : {T F A : Type 0} {X : Rule T F A} {Stop Less Q : Stream T F → Type 0} → ((u : Stream T F) → Less u → Stop u) → Opens X Stop Q → Opens X Less Q
opens_where_less {T} {F} {A} {X} {Stop} {Less} {Q} sub x = compose.opens_stop X Stop Less Q sub x

pub not_so : {T F A : Type 0} {X : Rule T F A} {Stop : Stream T F → Type 0} {look : Stream T F → Bool} {b : Bool} → Opens X Stop (λ u. look u ≡ b) → Opens X Stop (λ u. not (look u) ≡ not b)
not_so {T} {F} {A} {X} {Stop} {look} {b} x = compose.opens_not X Stop look b x

pub twice : {T F A : Type 0} {X : Rule T F A} {Stop Q R : Stream T F → Type 0} → Opens X Stop Q → Opens X Stop R → Opens X Stop (λ u. Q u × R u)
twice {T} {F} {A} {X} {Stop} {Q} {R} x y = compose.opens_both X Stop Q R x y

pub more_opens : {T F A S : Type 0} {X : S → Rule T F A} {add : S → A → S} {Mid Stop Q : Stream T F → Type 0} → ((found : S) → Opens (X found) Mid Mid) → ((u : Stream T F) → Stop u → Mid u) → ((u : Stream T F) → Stop u → Q u) → ((found : S) → Opens (X found) Mid Q)
    → (found : S) → Opens (more X add found) Stop Q
more_opens {T} {F} {A} {S} {X} {add} {Mid} {Stop} {Q} follows mid none item found = many.opens_more X add Mid follows found Stop Q mid none item

-- ---- rules that take a token

pub fills : {T F A : Type 0} {class : T → Option A} → Fills (one {F = F} class)
fills {T} {F} {A} {class} = compose.fills_one class

pub fills_first : {T F A B : Type 0} {X : Rule T F A} {Y : A → Rule T F B} → Fills X → Fills (rule.◌>>=◌ X Y)
fills_first {T} {F} {A} {B} {X} {Y} x = compose.fills_first X Y x

pub fills_second : {T F A B : Type 0} {X : Rule T F A} {Y : A → Rule T F B} → ((a : A) → Fills (Y a)) → Fills (rule.◌>>=◌ X Y)
fills_second {T} {F} {A} {B} {X} {Y} y = compose.fills_second X Y y

pub fills_both : {T F A : Type 0} {X Y : Rule T F A} → Fills X → Fills Y → Fills (X ∣ Y)
fills_both {T} {F} {A} {X} {Y} x y = compose.fills_either X Y x y

-- ---- one level of an expression: operands, with operators between, from the left

abbrev pub Pair : {T F A B : Type 0} → Rule T F B → Rule T F A → Rule T F (B × A)
Pair O X = rule.◌>>=◌ O (λ o. rule.◌>>=◌ X (λ b. nothing (o, b)))

abbrev pub pair : {T F A B : Type 0} → Parser T F B → Parser T F A → Parser T F (B × A)
pair R P = R >>= λ o. P >>= λ b. pure (o, b)

pub level : {T F A B : Type 0} {misfit : T → F} {O : Rule T F B} {R : Parser T F B} {X : Rule T F A} {P : Parser T F A} {look : Stream T F → Bool} {Mid : Stream T F → Type 0} (apply : A → B × A → A) → ((s u : Stream T F) → Alike s u → look s ≡ look u)
    → Reads misfit O R Any → Fills O → Opens O Any (λ u. look u ≡ true) → Opens O Any Mid → Reads misfit X P Mid
    → Reads misfit (rule.◌>>=◌ X (λ a. more (λ found. Pair O X) apply a)) (P >>= λ a. while look (λ found. pair R P) apply a) (Past look Mid)
level {T} {F} {A} {B} {misfit} {O} {R} {X} {P} {look} {Mid} apply near op full opens follows operand =
    let follow : (found : A) → Opens (Pair O X) Mid Mid = λ found. first follows in
    after operand (λ a. more_opens {X = λ found. Pair O X} {add = apply} follow (λ u h. h.1) (λ u h. h.1) follow a)
    (λ a. loop {X = λ found. Pair O X} {add = apply} near (λ found. next op (λ o. after operand (λ b. nothing_more) (λ b. done))) (λ found. fills_first full) (λ found. first opens) follow a)
